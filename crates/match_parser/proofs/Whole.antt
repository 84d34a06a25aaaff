-- What is said of a text whose tokens are kept.
use Rattle.std.proofs.Common.{◌≡◌, ◌⊎◌, inl, inr, ⊎_elim, ℕ, ◌+◌, ◌*◌, ◌≤◌, ◌||◌, Bool, true, false, not, List, [], ◌∷◌, length, Option, Some, None, refl, sym, ap, subst, ◌∙◌, arith, true≢false}
use Rattle.std.specs.Prelude.{nat_lt, IsTrue, if◌then◌else◌, MatchOption}
use Rattle.std.specs.Cmp.Lexicographic.{bytes_decides}
use Rattle.std.proofs.lemmas.Bool.{or_cases, cases_lt, ltb-true, lt-ltb}
use Rattle.itpg_base.specs.declared.text_code.TextCode.{TextCode}
use Rattle.itpg_base.specs.declared.text_code.TextCode.TheVariants.{Tokens, Text, Number, Name, Range, Names, Terms}
use Rattle.script_lex.specs.declared.token.What.{What}
use Rattle.script_lex.specs.declared.token.What.TheVariants as whats
use Rattle.script_lex.specs.Lexemes.{Lexeme}
use Rattle.script_lex.proofs.OneList.{tokens_unique}
use Rattle.script_lex.specs.Numbers.{IsNumber, number_value}
use Rattle.itpg_base.specs.Spans.{IsMoment}
use Rattle.itpg_base.specs.TextCodes.{text_place}
use Rattle.script_lex.specs.declared.token.TheConstants.{MAX_TOKENS}
use Rattle.path_ast.specs.declared.counts.TheConstants.{MAX_TERMS}
use Rattle.match_parser.specs.Kept.{is_tame}
use Rattle.path_ast.specs.Terms.{QueryTerm}
use Rattle.path_ast.specs.Sizes.{path_size}
use Rattle.match_parser.specs.Grammar.{QueryTree, query_text}
use Rattle.match_parser.specs.Faults.{SomeToken, IsWild, IsOverlong, has_backwards, SpellsSome, Meets}
use Rattle.match_parser.specs.Reading.{IsText, Reads, FaultOf}
use Rattle.match_parser.specs.Scans.{IsSurveyed}
use Rattle.match_parser.specs.Gives.{lexemes}
use Rattle.match_parser.specs.Parsing.{Chain, query_at}
use Rattle.match_parser.specs.Later.{is_wild, is_overlong, ends_are_wrong, are_names_wrong, some_what, later_of}
use Rattle.match_parser.specs.Views.{query_made}
use Rattle.match_parser.proofs.KeptTrees.{name_kept, chain_kept}
use Rattle.match_parser.proofs.Sound.{Whole, query_sound}
use Rattle.match_parser.proofs.Complete.{query_comes}
use Rattle.match_parser.proofs.Fits.{AllFit, AllNumbers, all_fit, tame_or_wild, tame_moment, query_fits, exact_chain}
use Rattle.match_parser.specs.declared.fault.QueryFault.TheVariants.{Memory, Bad}
use Rattle.match_parser.proofs.Law.{one_query, one_fault, no_fault, one_text, Clean, clean_more, code_small, text_fits, alike, SameOf, WrongNames, ManyTerms, BadRange}
use Rattle.match_parser.proofs.Small.{query_small}

-- the kept tokens are those of the text, and the faults before `text` are none of its
pub record Known (text : List ℕ) (ts : List Lexeme) : Type 0 where
  pub is : IsText text ts None
  pub clean : Clean ts None 5

pub known : (text : List ℕ) (count : ℕ) (ts : List Lexeme) (end : Option TextCode) → IsSurveyed text count → IsText text ts end → Known text ts
known text count ts end s is =
    let same = one_text tokens_unique text s.tokens ts None end s.is is in
    record { is = subst (λ (l : List Lexeme). IsText text l None) same.tokens s.is; clean = subst (λ (l : List Lexeme). Clean l None 5) same.tokens s.clean }

abbrev pub fuel_of : List Lexeme → ℕ
fuel_of ts = 4 * length ts + 4

pub few_terms : (text : List ℕ) (ts : List Lexeme) → Known text ts → (c : Chain) (g : Option (List ℕ)) → query_at (fuel_of ts) ts ≡ Some (c, g) → path_size c.path ≤ 100000
few_terms text ts k c g e =
    let w = query_sound (fuel_of ts) ts (c, g) e in
    let small = query_small w.tree in
    let long : length (query_text w.tree) ≡ length ts = ap length w.spells in
    let size : path_size (chain_kept w.tree.chain).path ≡ path_size c.path = ap (λ (x : Chain). path_size x.path) w.chain in
    elim (cases_lt MAX_TOKENS (length ts)) [ inl many ↦ absurd (k.clean Tokens (omega arith) many) | inr few ↦ omega (arith, few, small, long, size) ]

-- no query is spelled
pub no_query : (text : List ℕ) (ts : List Lexeme) → Known text ts → query_at (fuel_of ts) ts ≡ None → FaultOf text Text
no_query text ts k e = record {
  tokens = ts;
  end = None;
  is = k.is;
  meets = inr (λ q s. none_some (chain_kept q.chain, name_kept q.graph_name) (sym e ∙ subst (λ (l : List Lexeme). query_at (4 * length l + 4) l ≡ Some (chain_kept q.chain, name_kept q.graph_name)) s (query_comes q (4 * length (query_text q) + 4) (omega arith))));
  first = k.clean;
}
  where
    none_some : (x : Chain × Option (List ℕ)) → None ≡ Some x → ⊥
    none_some x h = let none : ⊥ = cc in none

-- the tests of tokens
pub neither_first : (a b : Bool) → (a || b) ≡ false → a ≡ false
neither_first true b e = e
neither_first false b e = refl

pub neither_rest : (a b : Bool) → (a || b) ≡ false → b ≡ false
neither_rest true b e = absurd (true≢false e)
neither_rest false b e = e

is_not : (b : Bool) → not b ≡ false → b ≡ true
is_not true e = refl
is_not false e = absurd (true≢false e)

wild_number : (n : List ℕ) → IsNumber n → not (is_tame n) ≡ true → ¬ IsMoment (number_value n)
wild_number n h e = elim (tame_or_wild n h) [ inl tame ↦ absurd (let no : not true ≡ true = rw tame at e in true≢false (sym no)) | inr wild ↦ wild ]

some_wild : (ls : List What) → AllNumbers (lexemes ls) → some_what is_wild ls ≡ true → SomeToken IsWild (lexemes ls)
some_wild [] h e = absurd (true≢false (sym e))
some_wild (whats.Word w ∷ ls) h e = inr (some_wild ls h.1 e)
some_wild (whats.Quoted w ∷ ls) h e = inr (some_wild ls h.1 e)
some_wild (whats.Mark w ∷ ls) h e = inr (some_wild ls h.1 e)
some_wild (whats.Number w ∷ ls) h e = elim (or_cases _ _ e) [ inl f ↦ inl (wild_number w.now h.0 f) | inr r ↦ inr (some_wild ls h.1 r) ]

no_wild : (ls : List What) → some_what is_wild ls ≡ false → SomeToken IsWild (lexemes ls) → ⊥
no_wild [] e s = s
no_wild (whats.Word w ∷ ls) e s = ⊎_elim (λ f. f) (no_wild ls e) s
no_wild (whats.Quoted w ∷ ls) e s = ⊎_elim (λ f. f) (no_wild ls e) s
no_wild (whats.Mark w ∷ ls) e s = ⊎_elim (λ f. f) (no_wild ls e) s
no_wild (whats.Number w ∷ ls) e s = ⊎_elim (λ f. f (tame_moment w.now (is_not _ (neither_first _ _ e)))) (no_wild ls (neither_rest _ _ e)) s

some_overlong : (ls : List What) → some_what is_overlong ls ≡ true → SomeToken IsOverlong (lexemes ls)
some_overlong [] e = absurd (true≢false (sym e))
some_overlong (whats.Number w ∷ ls) e = inr (some_overlong ls e)
some_overlong (whats.Mark w ∷ ls) e = inr (some_overlong ls e)
some_overlong (whats.Word w ∷ ls) e = elim (or_cases _ _ e) [ inl f ↦ inl (ltb-true 64 (length w.now) f) | inr r ↦ inr (some_overlong ls r) ]
some_overlong (whats.Quoted w ∷ ls) e = elim (or_cases _ _ e) [ inl f ↦ inl (ltb-true 64 (length w.now) f) | inr r ↦ inr (some_overlong ls r) ]

no_overlong : (ls : List What) → some_what is_overlong ls ≡ false → SomeToken IsOverlong (lexemes ls) → ⊥
no_overlong [] e s = s
no_overlong (whats.Number w ∷ ls) e s = ⊎_elim (λ f. f) (no_overlong ls e) s
no_overlong (whats.Mark w ∷ ls) e s = ⊎_elim (λ f. f) (no_overlong ls e) s
no_overlong (whats.Word w ∷ ls) e s = ⊎_elim (λ f. true≢false (sym (lt-ltb 64 (length w.now) f) ∙ neither_first _ _ e)) (no_overlong ls (neither_rest _ _ e)) s
no_overlong (whats.Quoted w ∷ ls) e s = ⊎_elim (λ f. true≢false (sym (lt-ltb 64 (length w.now) f) ∙ neither_first _ _ e)) (no_overlong ls (neither_rest _ _ e)) s

-- the test of names
ends_wrong : (a b : Option (List ℕ)) (later : Bool) → ends_are_wrong a b later ≡ true → ((a ≡ None) × IsTrue (not later)) ⊎ ((name : List ℕ) × (a ≡ Some name) × (b ≡ Some name))
ends_wrong None b later e = inl (refl, e)
ends_wrong (Some v) None later e = absurd (true≢false (sym e))
ends_wrong (Some v) (Some w) later e = inr (v, refl, ap Some (sym ((bytes_decides v w).0 e)))

wrong_ends : (a b : Option (List ℕ)) (later : Bool) → ((a ≡ None) × IsTrue (not later)) ⊎ ((name : List ℕ) × (a ≡ Some name) × (b ≡ Some name)) → ends_are_wrong a b later ≡ true
wrong_ends None b later (inl h) = h.1
wrong_ends None b later (inr h) = absurd (let e = h.1 in let none : ⊥ = cc in none)
wrong_ends (Some v) b later (inl h) = absurd (let e = h.0 in let none : ⊥ = cc in none)
wrong_ends (Some v) None later (inr h) = absurd (let e = h.2 in let none : ⊥ = cc in none)
wrong_ends (Some v) (Some w) later (inr h) = (bytes_decides v w).1 (let e = h.1 in let f = h.2 in cc)

names_wrong : (c : Chain) → are_names_wrong c ≡ true → WrongNames c
names_wrong c e = elim (or_cases c.inner (ends_are_wrong c.first c.last c.later) e) [ inl f ↦ inl f | inr r ↦ inr (ends_wrong c.first c.last c.later r) ]

names_right : (c : Chain) → are_names_wrong c ≡ false → WrongNames c → ⊥
names_right c e w = ⊎_elim
    (λ f. true≢false (sym f ∙ neither_first c.inner (ends_are_wrong c.first c.last c.later) e))
    (λ r. true≢false (sym (wrong_ends c.first c.last c.later r) ∙ neither_rest c.inner (ends_are_wrong c.first c.last c.later) e)) w

-- a fact of the tree that the tokens spell
module _ (ts : List Lexeme) (fit : AllFit ts) (q : QueryTree) (s : query_text q ≡ ts) (c : Chain) (is : exact_chain q.chain ≡ c) (P : Chain → Type 0) where
  spells_it : P c → SpellsSome ts (SameOf P)
  spells_it h = (q, s, subst P (sym is) h)

  spells_not : (P c → ⊥) → SpellsSome ts (SameOf P) → ⊥
  spells_not n h = n (subst P ((alike ts fit h.0 q h.1 s).chain ∙ is) h.2)

-- the outcome for a text that is a query
abbrev pub Outcome : List ℕ → Chain → Option (List ℕ) → Option TextCode → Type 0
Outcome text c g o = MatchOption o (Reads text (query_made c g)) (FaultOf text)

module _ (text : List ℕ) (ts : List Lexeme) (is : IsText text ts None) where
  bad : (d : TextCode) → Meets ts None d → Clean ts None (text_place d) → FaultOf text d
  bad d m clean = record { tokens = ts; end = None; is = is; meets = m; first = clean }

  module _ (fit : AllFit ts) (q : QueryTree) (s : query_text q ≡ ts) (c : Chain) (g : Option (List ℕ)) (chain_is : exact_chain q.chain ≡ c) (graph_is : q.graph_name ≡ g) where
    good : Clean ts None 11 → Reads text (query_made c g)
    good clean = record { tokens = ts; is = is; tree = q; spells = s; means = (λ i. query_made (chain_is i) (graph_is i)); clean = λ d m. clean d (code_small d) m }

    by_terms : (b : Bool) → nat_lt MAX_TERMS (path_size c.path) ≡ b → Clean ts None 10 → Outcome text c g (if b then Some Terms else None)
    by_terms true e clean = bad Terms (spells_it ts fit q s c chain_is ManyTerms (ltb-true MAX_TERMS (path_size c.path) e)) clean
    by_terms false e clean = good (clean_more ts None Terms clean (spells_not ts fit q s c chain_is ManyTerms (λ m. true≢false (sym (lt-ltb MAX_TERMS (path_size c.path) m) ∙ e))))

    by_names : (b : Bool) → are_names_wrong c ≡ b → Clean ts None 9 → Outcome text c g (if b then Some Names else (if nat_lt MAX_TERMS (path_size c.path) then Some Terms else None))
    by_names true e clean = bad Names (spells_it ts fit q s c chain_is WrongNames (names_wrong c e)) clean
    by_names false e clean = by_terms (nat_lt MAX_TERMS (path_size c.path)) refl (clean_more ts None Names clean (spells_not ts fit q s c chain_is WrongNames (names_right c e)))

    by_range : (b : Bool) → has_backwards c.path ≡ b → Clean ts None 8 → Outcome text c g (if b then Some Range else (if are_names_wrong c then Some Names else (if nat_lt MAX_TERMS (path_size c.path) then Some Terms else None)))
    by_range true e clean = bad Range (spells_it ts fit q s c chain_is BadRange e) clean
    by_range false e clean = by_names (are_names_wrong c) refl (clean_more ts None Range clean (spells_not ts fit q s c chain_is BadRange (λ m. true≢false (sym m ∙ e))))

-- what the first fault comes to
pub later_said : (text : List ℕ) (ls : List What) → Known text (lexemes ls) → (c : Chain) (g : Option (List ℕ)) → query_at (fuel_of (lexemes ls)) (lexemes ls) ≡ Some (c, g) → (o : Option TextCode) → o ≡ later_of ls c → Outcome text c g o
later_said text ls k c g e o is = subst (Outcome text c g) (sym is) (by_wild (some_what is_wild ls) refl)
  where
    w : Whole (lexemes ls) c g
    w = query_sound (fuel_of (lexemes ls)) (lexemes ls) (c, g) e

    numbers : AllNumbers (lexemes ls)
    numbers = text_fits text (lexemes ls) None k.is

    c5 : Clean (lexemes ls) None 6
    c5 = clean_more (lexemes ls) None Text k.clean (λ m. ⊎_elim (λ f. let none : ⊥ = cc in none) (λ none. none w.tree w.spells) m)

    by_fit : AllFit (lexemes ls) → Clean (lexemes ls) None 8 → Outcome text c g (if has_backwards c.path then Some Range else (if are_names_wrong c then Some Names else (if nat_lt MAX_TERMS (path_size c.path) then Some Terms else None)))
    by_fit fit clean =
        let exact = query_fits w.tree (subst AllFit (sym w.spells) fit) in
        by_range text (lexemes ls) k.is fit w.tree w.spells c g (sym exact.chain ∙ w.chain) (sym exact.graph_name ∙ w.graph) (has_backwards c.path) refl clean

    by_overlong : (SomeToken IsWild (lexemes ls) → ⊥) → (b : Bool) → some_what is_overlong ls ≡ b → Clean (lexemes ls) None 7 → Outcome text c g (if b then Some Name else (if has_backwards c.path then Some Range else (if are_names_wrong c then Some Names else (if nat_lt MAX_TERMS (path_size c.path) then Some Terms else None))))
    by_overlong tame true h clean = bad text (lexemes ls) k.is Name (some_overlong ls h) clean
    by_overlong tame false h clean = by_fit (all_fit (lexemes ls) numbers tame (no_overlong ls h)) (clean_more (lexemes ls) None Name clean (no_overlong ls h))

    by_wild : (b : Bool) → some_what is_wild ls ≡ b → Outcome text c g (if b then Some Number else (if some_what is_overlong ls then Some Name else (if has_backwards c.path then Some Range else (if are_names_wrong c then Some Names else (if nat_lt MAX_TERMS (path_size c.path) then Some Terms else None)))))
    by_wild true h = bad text (lexemes ls) k.is Number (some_wild ls numbers h) c5
    by_wild false h = by_overlong (no_wild ls h) (some_what is_overlong ls) refl (clean_more (lexemes ls) None Number c5 (no_wild ls h))

-- how the four clauses of the reader follow from one
pub bad_reads : {A : Type 0} (text : List ℕ) (code : TextCode) → FaultOf text code → (query : QueryTerm) → Reads text query → A
bad_reads text code f query r = absurd (no_fault tokens_unique text query code r f)

pub bad_first : (text : List ℕ) (code : TextCode) → FaultOf text code → (d : TextCode) → FaultOf text d → (Bad code ≡ Bad d) ⊎ (Bad code ≡ Memory)
bad_first text code f d g = inl (ap Bad (one_fault tokens_unique text code d f g))

pub good_reads : (text : List ℕ) (q : QueryTerm) → Reads text q → (p : QueryTerm) → Reads text p → q ≡ p
good_reads text q r p s = one_query tokens_unique text q p r s

pub good_first : (text : List ℕ) (q : QueryTerm) → Reads text q → (d : TextCode) → FaultOf text d → ⊥
good_first text q r d f = no_fault tokens_unique text q d r f

-- what the parts of the reader found
module _ (text : List ℕ) (count : ℕ) (ls slice : List What) (same : slice ≡ ls) (surveyed : IsSurveyed text count) (kept : (end : Option TextCode) × IsText text (lexemes ls) end) where
  known_slice : Known text (lexemes slice)
  known_slice = known text count (lexemes slice) kept.0 surveyed (subst (λ (l : List What). IsText text (lexemes l) kept.0) (sym same) kept.1)

  module _ (c : Chain) (g : Option (List ℕ)) (read : (n : ℕ) → 4 * length (lexemes slice) + 4 ≤ n → query_at n (lexemes slice) ≡ Some (c, g)) where
    pub whole_small : path_size c.path ≤ 100000
    whole_small = few_terms text (lexemes slice) known_slice c g (read (fuel_of (lexemes slice)) (omega arith))

    pub whole_said : (o : Option TextCode) → o ≡ later_of slice c → Outcome text c g o
    whole_said o is = later_said text slice known_slice c g (read (fuel_of (lexemes slice)) (omega arith)) o is

    pub whole_bad : (o : Option TextCode) (code : TextCode) → o ≡ later_of slice c → o ≡ Some code → FaultOf text code
    whole_bad o code is e = let said = whole_said o is in subst (Outcome text c g) e said

    pub whole_good : (o : Option TextCode) → o ≡ later_of slice c → o ≡ None → Reads text (query_made c g)
    whole_good o is e = let said = whole_said o is in subst (Outcome text c g) e said

  pub whole_text : ((n : ℕ) → 4 * length (lexemes slice) + 4 ≤ n → query_at n (lexemes slice) ≡ None) → FaultOf text Text
  whole_text read = no_query text (lexemes slice) known_slice (read (fuel_of (lexemes slice)) (omega arith))
