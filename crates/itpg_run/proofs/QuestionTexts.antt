-- The three questions read.
use Rattle.std.proofs.Common.{◌≡◌, ◌⊎◌, inl, inr, ⊎_elim, ℕ, ◌≤◌, Bool, true, false, not, ◌&&◌, List, [], ◌∷◌, ◌++◌, codes, map, length, take, get_or, Option, Some, None, Ok, refl, sym, ap, subst, ◌∙◌, arith, true≢false}
use Rattle.std.specs.Prelude.{IsTrue, nat_le, unwrap_or}
use Rattle.std.proofs.lemmas.Bool.{leb-true}
use Rattle.std.proofs.lemmas.List.{length-take}
use Rattle.std.proofs.lemmas.List.Sums.{count_by-le-length}
use Rattle.itpg_base.specs.declared.text_code.TextCode.{TextCode}
use Rattle.itpg_base.specs.declared.text_code.TextCode.TheVariants.{Long, Byte, Tokens, Deep, Text, Number, Name, Range, Names, Terms}
use Rattle.script_lex.specs.Lexemes.{Lexeme, AWord, ANumber, AQuote, AMark}
use Rattle.script_lex.specs.Lines.{Placed}
use Rattle.script_lex.specs.Marks.{first_mark}
use Rattle.script_lex.specs.Table.{first_token}
use Rattle.edit_reader.specs.Readings as reading
use Rattle.edit_reader.specs.Commands.{command_of}
use Rattle.edit_reader.specs.Forms.{form_of, parts_of}
use Rattle.edit_reader.specs.Faults.{without_end, is_silent, HasFarNumber, HasLongName}
use Rattle.edit_reader.specs.Lines.{TakenAs, LineOf}
use Rattle.path_ast.specs.Terms.{QueryTerm}
use Rattle.path_ast.specs.Sizes.{IsPathInRange}
use Rattle.match_parser.specs.Faults.{opens, AreDeep, SomeToken, IsWild, IsOverlong, SpellsSome, Meets}
use Rattle.match_parser.specs.Reading.{lexeme_of, Reads}
use Rattle.match_parser.specs.Parsing.{Chain, query_at, more_by, most_at, bounds_at, times_at, label_at, fact_at, step_at, alt_at, pattern_by, piece_by, graph_at}
use Rattle.match_parser.specs.Views.{query_made}
use Rattle.match_parser.specs.Kept.{is_tame, kept_name, kept_value, kept_count}
use Rattle.match_parser.proofs.Fits.{AllFit, Exact, exact_chain, query_fits, tame_moment}
use Rattle.match_parser.proofs.Sound.{Whole, query_sound}
use Rattle.match_parser.proofs.Law.{alike, SameOf, WrongNames, ManyTerms, BadRange}
use Rattle.trial_script.specs.Script.{risk_line, contact_line, alone_line}
use Rattle.itpg_run.specs.ScriptQueries.{EachQuestionReads, risk_query, contact_query, alone_query, risk_text, contact_text, alone_text}
use Rattle.itpg_run.proofs.LineTokens.{OneList, no_fault}
use Rattle.itpg_run.proofs.TextTokens.{scan, scan_sound}
use Rattle.itpg_run.proofs.Spellings.{and_left, and_right}
use Rattle.std.proofs.lemmas.Option.{none-some}

-- each token can be one of a query
abbrev fits : Lexeme → Bool
fits (AWord w) = nat_le (length w) 64
fits (ANumber n) = is_tame n
fits (AQuote q) = nat_le (length q) 64
fits (AMark m) = true

abbrev all_fit : List Lexeme → Bool
all_fit [] = true
all_fit (t ∷ ts) = fits t && all_fit ts

AllFit_from : (ts : List Lexeme) → all_fit ts ≡ true → AllFit ts
AllFit_from [] h = tt
AllFit_from (AWord w ∷ ts) h = (leb-true (length w) 64 (and_left (nat_le (length w) 64) (all_fit ts) h), AllFit_from ts (and_right (nat_le (length w) 64) (all_fit ts) h))
AllFit_from (ANumber n ∷ ts) h = (and_left (is_tame n) (all_fit ts) h, AllFit_from ts (and_right (is_tame n) (all_fit ts) h))
AllFit_from (AQuote q ∷ ts) h = (leb-true (length q) 64 (and_left (nat_le (length q) 64) (all_fit ts) h), AllFit_from ts (and_right (nat_le (length q) 64) (all_fit ts) h))
AllFit_from (AMark m ∷ ts) h = (tt, AllFit_from ts h)

no_wild : (ts : List Lexeme) → AllFit ts → SomeToken IsWild ts → ⊥
no_wild [] h s = s
no_wild (AWord w ∷ ts) h s = ⊎_elim (λ f. f) (no_wild ts h.1) s
no_wild (ANumber n ∷ ts) h s = ⊎_elim (λ f. f (tame_moment n h.0)) (no_wild ts h.1) s
no_wild (AQuote q ∷ ts) h s = ⊎_elim (λ f. f) (no_wild ts h.1) s
no_wild (AMark m ∷ ts) h s = ⊎_elim (λ f. f) (no_wild ts h.1) s

no_overlong : (ts : List Lexeme) → AllFit ts → SomeToken IsOverlong ts → ⊥
no_overlong [] h s = s
no_overlong (AWord w ∷ ts) h s = ⊎_elim (λ f. omega (arith, f, h.0)) (no_overlong ts h.1) s
no_overlong (ANumber n ∷ ts) h s = ⊎_elim (λ f. f) (no_overlong ts h.1) s
no_overlong (AQuote q ∷ ts) h s = ⊎_elim (λ f. omega (arith, f, h.0)) (no_overlong ts h.1) s
no_overlong (AMark m ∷ ts) h s = ⊎_elim (λ f. f) (no_overlong ts h.1) s

not_deep : (ts : List Lexeme) → length ts ≤ 64 → AreDeep ts → ⊥
not_deep ts few h = omega (arith, few, h.1, count_by-le-length opens (take h.0 ts), length-take h.0 ts)

-- tokens that read as this chain meet no fault, where the chain has none
module _ (ts : List Lexeme) (c : Chain) (e : query_at 64 ts ≡ Some (c, None)) (fit : AllFit ts) (few : length ts ≤ 64)
    (range : BadRange c → ⊥) (names : WrongNames c → ⊥) (terms : ManyTerms c → ⊥) where
  whole : Whole ts c None
  whole = query_sound 64 ts (c, None) e

  exact : Exact whole.tree
  exact = query_fits whole.tree (subst AllFit (sym whole.spells) fit)

  chain_is : exact_chain whole.tree.chain ≡ c
  chain_is = sym exact.chain ∙ whole.chain

  graph_is : whole.tree.graph_name ≡ None
  graph_is = sym exact.graph_name ∙ whole.graph

  not_spelled : (P : Chain → Type 0) → (P c → ⊥) → SpellsSome ts (SameOf P) → ⊥
  not_spelled P n h = n (subst P ((alike ts fit h.0 whole.tree h.1 whole.spells).chain ∙ chain_is) h.2)

  clean : (d : TextCode) → Meets ts None d → ⊥
  clean Long m = m
  clean Byte m = none-some Byte m
  clean Tokens m = omega (arith, few, m)
  clean Deep m = not_deep ts few m
  clean Text m = ⊎_elim (none-some Text) (λ none. none whole.tree whole.spells) m
  clean Number m = no_wild ts fit m
  clean Name m = no_overlong ts fit m
  clean Range m = not_spelled BadRange range m
  clean Names m = not_spelled WrongNames names m
  clean Terms m = not_spelled ManyTerms terms m

  -- so a text that has them reads as its query
  pub chain_reads : (text : List ℕ) (placed : List Placed) → scan 64 text 0 ≡ Some placed → map lexeme_of placed ≡ ts → Reads text (query_made c None)
  chain_reads text placed scanned same = record {
    tokens = ts;
    is = record { placed = placed; are = scan_sound 64 text 0 placed scanned; same = same };
    tree = whole.tree;
    spells = whole.spells;
    means = λ i. query_made (chain_is i) (graph_is i);
    clean = clean;
  }

-- the tokens of a text
abbrev placed_of : List ℕ → List Placed
placed_of text = unwrap_or (scan 64 text 0) []

abbrev tokens_of : List ℕ → List Lexeme
tokens_of text = map lexeme_of (placed_of text)

-- the chain of a query whose patterns have these names
abbrev chain_named : QueryTerm → Option (List ℕ) → Bool → Chain
chain_named q last later = record { path = q.path; first = Some (codes "x"); last = last; later = later; inner = false }

first_differs : (a b : List ℕ) → (get_or a 0 0 ≡ get_or b 0 0 → ⊥) → a ≡ b → ⊥
first_differs a b n e = n (ap (λ (l : List ℕ). get_or l 0 0) e)

-- two names that differ
two_names : (a b : List ℕ) → (a ≡ b → ⊥) → IsTrue false ⊎ (((Some a ≡ None) × IsTrue (not true)) ⊎ ((name : List ℕ) × (Some a ≡ Some name) × (Some b ≡ Some name))) → ⊥
two_names a b differ (inl h) = true≢false (sym h)
two_names a b differ (inr (inl h)) = let e = h.0 in let none : ⊥ = cc in none
two_names a b differ (inr (inr h)) = let e = h.1 in let f = h.2 in differ (cc)

-- the first name alone
one_name : (a : List ℕ) → IsTrue false ⊎ (((Some a ≡ None) × IsTrue (not false)) ⊎ ((name : List ℕ) × (Some a ≡ Some name) × (None ≡ Some name))) → ⊥
one_name a (inl h) = true≢false (sym h)
one_name a (inr (inl h)) = let e = h.0 in let none : ⊥ = cc in none
one_name a (inr (inr h)) = let e = h.2 in let none : ⊥ = cc in none

x_y : codes "x" ≡ codes "y" → ⊥
x_y = first_differs (codes "x") (codes "y") (λ e. omega (arith, e))

pub risk_reads : Reads risk_text risk_query
unfolding first_token first_mark more_by most_at bounds_at times_at label_at fact_at step_at alt_at pattern_by piece_by graph_at kept_name kept_value kept_count
risk_reads =
    chain_reads (tokens_of risk_text) (chain_named risk_query (Some (codes "y")) true) refl (AllFit_from (tokens_of risk_text) refl) (omega arith)
    (λ m. true≢false (sym m)) (two_names (codes "x") (codes "y") x_y) (λ m. omega (arith, m)) risk_text (placed_of risk_text) refl refl

pub contact_reads : Reads contact_text contact_query
unfolding first_token first_mark more_by most_at bounds_at times_at label_at fact_at step_at alt_at pattern_by piece_by graph_at kept_name kept_value kept_count
contact_reads =
    chain_reads (tokens_of contact_text) (chain_named contact_query (Some (codes "y")) true) refl (AllFit_from (tokens_of contact_text) refl) (omega arith)
    (λ m. true≢false (sym m)) (two_names (codes "x") (codes "y") x_y) (λ m. omega (arith, m)) contact_text (placed_of contact_text) refl refl

pub alone_reads : Reads alone_text alone_query
unfolding first_token first_mark more_by most_at bounds_at times_at label_at fact_at step_at alt_at pattern_by piece_by graph_at kept_name kept_value kept_count
alone_reads =
    chain_reads (tokens_of alone_text) (chain_named alone_query None false) refl (AllFit_from (tokens_of alone_text) refl) (omega arith)
    (λ m. true≢false (sym m)) (one_name (codes "x")) (λ m. omega (arith, m)) alone_text (placed_of alone_text) refl refl

-- a line whose tokens begin with `ask` asks the text behind the word
module _ (one : OneList) (line : List ℕ) (text : List ℕ) (placed : List Placed) (scanned : scan 64 line 0 ≡ Some placed) (form : form_of line placed ≡ Some (reading.Asks text)) where
  pub ask_reads : length line ≤ 500 → length placed ≤ 64 → parts_of placed ≡ [] → is_silent line ≡ false → without_end line ≡ line → LineOf line (Ok (reading.Asks text))
  ask_reads few count parts loud whole =
      let are = scan_sound 64 line 0 placed scanned in
      let sound = no_fault one line placed (reading.Asks text) are (omega (arith, few)) (omega (arith, count)) form (λ far. subst HasFarNumber parts far) (λ long. subst HasLongName parts long) in
      subst (λ (l : List ℕ). TakenAs l (Ok (reading.Asks text))) (sym whole) (sound, inr (loud, (placed, (None, (are, form)))))

pub risk_line_reads : OneList → LineOf risk_line (Ok (reading.Asks (codes " " ++ risk_text)))
unfolding first_token first_mark command_of risk_line
risk_line_reads one = ask_reads one risk_line (codes " " ++ risk_text) (placed_of risk_line) refl refl (omega arith) (omega arith) refl refl refl

pub contact_line_reads : OneList → LineOf contact_line (Ok (reading.Asks (codes " " ++ contact_text)))
unfolding first_token first_mark command_of contact_line
contact_line_reads one = ask_reads one contact_line (codes " " ++ contact_text) (placed_of contact_line) refl refl (omega arith) (omega arith) refl refl refl

pub alone_line_reads : OneList → LineOf alone_line (Ok (reading.Asks (codes " " ++ alone_text)))
unfolding first_token first_mark command_of alone_line
alone_line_reads one = ask_reads one alone_line (codes " " ++ alone_text) (placed_of alone_line) refl refl (omega arith) (omega arith) refl refl refl

abbrev Ranges : Type 0
Ranges = (text : List ℕ) (q : QueryTerm) → Reads text q → IsPathInRange q.path

pub questions_read : OneList → Ranges → EachQuestionReads
unfolding risk_line contact_line alone_line
questions_read one ranges = record {
  risk = record { asks = refl; reads_line = risk_line_reads one; reads = risk_reads; in_range = ranges risk_text risk_query risk_reads; for_end = refl; of_any = refl };
  contact = record { asks = refl; reads_line = contact_line_reads one; reads = contact_reads; in_range = ranges contact_text contact_query contact_reads; for_end = refl; of_any = refl };
  alone = record { asks = refl; reads_line = alone_line_reads one; reads = alone_reads; in_range = ranges alone_text alone_query alone_reads; for_end = refl; of_any = refl };
}
