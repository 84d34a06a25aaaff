-- Where each token fits, what is kept of a tree is what it stands for.
use Rattle.std.proofs.Common.{◌≡◌, ◌⊎◌, inl, inr, ⊎_elim, ℕ, ◌<◌, ◌≤◌, ℤ, pos, neg_ℤ, Bool, true, false, ◌&&◌, not, List, [], ◌∷◌, ◌++◌, map, length, drop, Option, Some, None, refl, ap, ◌∙◌, arith}
use Rattle.std.specs.Cmp.{second_so}
use Rattle.std.proofs.lemmas.Bool.{and_from}
use Rattle.std.specs.Prelude.{if◌then◌else◌, nat_eq, nat_le, slice_index}
use Rattle.std.specs.Char.{is_ascii_digit}
use Rattle.std.specs.List.{list_all}
use Rattle.std.specs.Str.Parse.{digits_value}
use Rattle.std.proofs.lemmas.Int.{ints}
use Rattle.std.proofs.lemmas.Bool.{cases_lt, le-leb, leb-true, ne_eqb}
use Rattle.itpg_base.specs.Decided.{Decided}
use Rattle.itpg_base.specs.Spans.{IsMoment}
use Rattle.itpg_base.specs.declared.text_code.TextCode.{TextCode}
use Rattle.script_lex.specs.declared.mark.Mark.TheVariants.{ParenR, BraceR, Plus, Slash, DashSlash, SlashDash}
use Rattle.script_lex.specs.Lexemes.{Lexeme, AWord, ANumber, AQuote, AMark}
use Rattle.script_lex.specs.Lines.{Placed, AreTokens}
use Rattle.script_lex.specs.Numbers.{digits_of, number_value, IsNumber, HasNumber}
use Rattle.script_lex.proofs.Fronts.{token_read}
use Rattle.script_lex.specs.declared.numbers.TheConstants.{MAX_NUMBER}
use Rattle.itpg_base.specs.declared.name.TheConstants.{MAX_NAME}
use Rattle.path_ast.specs.Terms.{PathTerm, OfTest, Sequence, Choice, TestTerm, HasLabel, Condition, Conjunction, Disjunction, Negation}
use Rattle.match_parser.specs.declared.words.Keyword.TheVariants.{Or}
use Rattle.match_parser.specs.Words.{keyword_text, is_signed}
use Rattle.match_parser.specs.Kept.{kept_name, is_tame, kept_value, kept_count}
use Rattle.match_parser.specs.Grammar.{TimesTree, Once, Starred, FromTo, FromOn, FactTree, PropertyIs, TimeBelow, TimeAt, TimeFrom, Labelled, NodeFact, EdgeFact, ExistsFact, AltTree, OneSeq, MoreSeq, SeqTree, OneRep, MoreRep, RepTree, AtomTimes, AtomTree, Step, AtLabel, Braced, Asked, Grouped, OrTree, OneAnd, MoreAnd, AndTree, OneUnary, MoreUnary, UnaryTree, Plain, Negated, PrimTree, OfFact, OfPath, OfTests, PatternTree, ChainTree, OnePattern, MorePattern, QueryTree, times_text, fact_text, both_text, alt_text, seq_text, rep_text, atom_text, or_text, and_text, unary_text, prim_text, name_text, label_text, tests_text, pattern_text, chain_text, graph_text, query_text}
use Rattle.match_parser.specs.Translation.{node_test, times_path, fact_test, alt_path, seq_path, rep_path, atom_path, or_test, and_test, unary_test, prim_test, with_label, with_tests, pattern_path, chain_path, first_name, last_name}
use Rattle.match_parser.specs.Faults.{SomeToken, IsWild, IsOverlong, later_named, inner_named}
use Rattle.match_parser.specs.Parsing.{Pattern, Chain, chain_of, with_piece}
use Rattle.match_parser.proofs.KeptTrees.{times_kept, fact_kept, alt_kept, seq_kept, rep_kept, atom_kept, or_kept, and_kept, unary_kept, prim_kept, with_label_kept, with_tests_kept, name_kept, pattern_kept, chain_kept}

-- a query can have it
abbrev pub Fits : Lexeme → Type 0
Fits (AWord w) = length w ≤ MAX_NAME
Fits (ANumber n) = is_tame n ≡ true
Fits (AQuote q) = length q ≤ MAX_NAME
Fits (AMark m) = Unit {0}

abbrev pub AllFit : List Lexeme → Type 0
AllFit [] = Unit {0}
AllFit (t ∷ ts) = Fits t × AllFit ts

pub fit_front : (xs ys : List Lexeme) → AllFit (xs ++ ys) → AllFit xs
fit_front [] ys h = tt
fit_front (x ∷ xs) ys h = (h.0, fit_front xs ys h.1)

pub fit_back : (xs ys : List Lexeme) → AllFit (xs ++ ys) → AllFit ys
fit_back [] ys h = h
fit_back (x ∷ xs) ys h = fit_back xs ys h.1

pub name_fits : (w : List ℕ) → length w ≤ MAX_NAME → kept_name w ≡ w
unfolding kept_name
name_fits w h = rw (le-leb (length w) MAX_NAME h) refl

pub value_fits : (n : List ℕ) → is_tame n ≡ true → kept_value n ≡ number_value n
unfolding kept_value
value_fits n h = rw h refl

pub unsigned_digits : (n : List ℕ) → is_signed n ≡ false → digits_of n ≡ n
unsigned_digits n h = rw h refl

count_fits : (n : List ℕ) → is_tame n ≡ true → is_signed n ≡ false → kept_count n ≡ digits_value 10 n
unfolding kept_count
count_fits n h s = let whole : kept_count n ≡ digits_value 10 (digits_of n) = rw h refl in whole ∙ ap (digits_value 10) (unsigned_digits n s)

times_fits : (t : TimesTree) (p : PathTerm) → AllFit (times_text t) → times_kept t p ≡ times_path t p
times_fits Once p h = refl
times_fits Starred p h = refl
times_fits (FromTo n m x y) p h = rw (count_fits n h.1.0 x, count_fits m h.1.1.1.0 y) refl
times_fits (FromOn n x) p h = rw (count_fits n h.1.0 x) refl

fact_fits : (f : FactTree) → AllFit (fact_text f) → fact_kept f ≡ fact_test f
fact_fits (PropertyIs w v p) h = rw (name_fits w h.0, name_fits v h.1.1.0) refl
fact_fits (TimeBelow k) h = rw (value_fits k h.1.1.0) refl
fact_fits (TimeAt k) h = rw (value_fits k h.1.1.0) refl
fact_fits (TimeFrom k) h = rw (value_fits k h.1.1.0) refl
fact_fits (Labelled w) h = ap HasLabel (name_fits w h.1.0)
fact_fits NodeFact h = refl
fact_fits EdgeFact h = refl
fact_fits ExistsFact h = refl

mutual
  alt_fits : (a : AltTree) → AllFit (alt_text a) → alt_kept a ≡ alt_path a
  alt_fits (OneSeq s) h = seq_fits s h
  alt_fits (MoreSeq a s) h = λ i. Choice (alt_fits a (fit_front (alt_text a) (AMark Plus ∷ seq_text s) h) i) (seq_fits s (fit_back (alt_text a) (AMark Plus ∷ seq_text s) h).1 i)

  seq_fits : (s : SeqTree) → AllFit (seq_text s) → seq_kept s ≡ seq_path s
  seq_fits (OneRep r) h = rep_fits r h
  seq_fits (MoreRep s r) h = λ i. Sequence (seq_fits s (fit_front (seq_text s) (AMark Slash ∷ rep_text r) h) i) (rep_fits r (fit_back (seq_text s) (AMark Slash ∷ rep_text r) h).1 i)

  rep_fits : (r : RepTree) → AllFit (rep_text r) → rep_kept r ≡ rep_path r
  rep_fits (AtomTimes a t) h = ap (times_kept t) (atom_fits a (fit_front (atom_text a) (times_text t) h)) ∙ times_fits t (atom_path a) (fit_back (atom_text a) (times_text t) h)

  atom_fits : (a : AtomTree) → AllFit (atom_text a) → atom_kept a ≡ atom_path a
  atom_fits (Step x) h = refl
  atom_fits (AtLabel w) h = ap (λ (v : List ℕ). OfTest (HasLabel v)) (name_fits w h.1.0)
  atom_fits (Braced o) h = ap OfTest (or_fits o (fit_front (or_text o) (AMark BraceR ∷ []) h.1))
  atom_fits (Asked a) h = ap (λ (p : PathTerm). OfTest (Condition p)) (alt_fits a (fit_front (alt_text a) (AMark ParenR ∷ []) h.1.1))
  atom_fits (Grouped a) h = alt_fits a (fit_front (alt_text a) (AMark ParenR ∷ []) h.1)

  or_fits : (o : OrTree) → AllFit (or_text o) → or_kept o ≡ or_test o
  or_fits (OneAnd a) h = and_fits a h
  or_fits (MoreAnd o a) h = λ i. Disjunction (or_fits o (fit_front (or_text o) (AWord (keyword_text Or) ∷ and_text a) h) i) (and_fits a (fit_back (or_text o) (AWord (keyword_text Or) ∷ and_text a) h).1 i)

  and_fits : (a : AndTree) → AllFit (and_text a) → and_kept a ≡ and_test a
  and_fits (OneUnary u) h = unary_fits u h
  and_fits (MoreUnary a b u) h = λ i. Conjunction (and_fits a (fit_front (and_text a) (both_text b ∷ unary_text u) h) i) (unary_fits u (fit_back (and_text a) (both_text b ∷ unary_text u) h).1 i)

  unary_fits : (u : UnaryTree) → AllFit (unary_text u) → unary_kept u ≡ unary_test u
  unary_fits (Plain p) h = prim_fits p h
  unary_fits (Negated p) h = ap Negation (prim_fits p h.1)

  prim_fits : (p : PrimTree) → AllFit (prim_text p) → prim_kept p ≡ prim_test p
  prim_fits (OfFact f) h = fact_fits f h
  prim_fits (OfPath a) h = ap Condition (alt_fits a (fit_front (alt_text a) (AMark ParenR ∷ []) h.1.1))
  prim_fits (OfTests o) h = or_fits o (fit_front (or_text o) (AMark ParenR ∷ []) h.1)

label_fits : (l : Option (List ℕ)) (c : TestTerm) → AllFit (label_text l) → with_label_kept l c ≡ with_label l c
label_fits None c h = refl
label_fits (Some w) c h = ap (λ (v : List ℕ). Conjunction c (HasLabel v)) (name_fits w h.1.0)

tests_fits : (o : Option OrTree) (c : TestTerm) → AllFit (tests_text o) → with_tests_kept o c ≡ with_tests o c
tests_fits None c h = refl
tests_fits (Some o) c h = ap (Conjunction c) (or_fits o (fit_front (or_text o) (AMark BraceR ∷ []) h.1))

option_fits : (n : Option (List ℕ)) → AllFit (name_text n) → name_kept n ≡ n
option_fits None h = refl
option_fits (Some w) h = ap Some (name_fits w h.0)

-- what a pattern and a chain stand for
abbrev pub exact_pattern : PatternTree → Pattern
exact_pattern p = record { name = p.name; path = pattern_path p }

abbrev pub exact_chain : ChainTree → Chain
exact_chain c = record { path = chain_path c; first = first_name c; last = last_name c; later = later_named c; inner = inner_named c }

pattern_fits : (p : PatternTree) → AllFit (pattern_text p) → pattern_kept p ≡ exact_pattern p
pattern_fits p h =
    let inside = h.1 in
    let name = fit_front (name_text p.name) (label_text p.label ++ (tests_text p.tests ++ AMark ParenR ∷ [])) inside in
    let behind_name = fit_back (name_text p.name) (label_text p.label ++ (tests_text p.tests ++ AMark ParenR ∷ [])) inside in
    let label = fit_front (label_text p.label) (tests_text p.tests ++ AMark ParenR ∷ []) behind_name in
    let tests = fit_front (tests_text p.tests) (AMark ParenR ∷ []) (fit_back (label_text p.label) (tests_text p.tests ++ AMark ParenR ∷ []) behind_name) in
    let test : with_tests_kept p.tests (with_label_kept p.label node_test) ≡ with_tests p.tests (with_label p.label node_test) = ap (with_tests_kept p.tests) (label_fits p.label node_test label) ∙ tests_fits p.tests (with_label p.label node_test) tests in
    λ i. record { name = option_fits p.name name i; path = OfTest (test i) }

pub chain_fits : (c : ChainTree) → AllFit (chain_text c) → chain_kept c ≡ exact_chain c
chain_fits (OnePattern p) h = ap chain_of (pattern_fits p h)
chain_fits (MorePattern c a p) h =
    let back = (fit_back (chain_text c) (AMark DashSlash ∷ (alt_text a ++ AMark SlashDash ∷ pattern_text p)) h).1 in
    let chain = chain_fits c (fit_front (chain_text c) (AMark DashSlash ∷ (alt_text a ++ AMark SlashDash ∷ pattern_text p)) h) in
    let path = alt_fits a (fit_front (alt_text a) (AMark SlashDash ∷ pattern_text p) back) in
    let pattern = pattern_fits p (fit_back (alt_text a) (AMark SlashDash ∷ pattern_text p) back).1 in
    λ i. with_piece (chain i) (path i, pattern i)

graph_fits : (g : Option (List ℕ)) → AllFit (graph_text g) → name_kept g ≡ g
graph_fits None h = refl
graph_fits (Some w) h = ap Some (name_fits w h.1.0)

-- what is kept of a query whose tokens fit
pub record Exact (q : QueryTree) : Type 0 where
  pub chain : chain_kept q.chain ≡ exact_chain q.chain
  pub graph_name : name_kept q.graph_name ≡ q.graph_name

pub query_fits : (q : QueryTree) → AllFit (query_text q) → Exact q
query_fits q h = record {
  chain = chain_fits q.chain (fit_front (chain_text q.chain) (graph_text q.graph_name) h.1);
  graph_name = graph_fits q.graph_name (fit_back (chain_text q.chain) (graph_text q.graph_name) h.1);
}

-- each number token is a number
abbrev pub AllNumbers : List Lexeme → Type 0
AllNumbers [] = Unit {0}
AllNumbers (t ∷ ts) = HasNumber t × AllNumbers ts

pub numbers_of : (text : List ℕ) (at : ℕ) (ts : List Placed) (end : Option TextCode) → AreTokens text at ts end → AllNumbers (map (λ (t : Placed). t.what) ts)
numbers_of text at [] end h = tt
numbers_of text at (t ∷ ts) end h = ((token_read (drop t.from text) t.what h.0.what).number, numbers_of text t.to ts end h.1)

not_zero : (k : ℕ) → 0 < k → not (nat_eq k 0) ≡ true
not_zero k h = ap not (ne_eqb k 0 (λ e. omega (arith, h, e)))

number_digits : (n : List ℕ) → IsNumber n → (not (nat_eq (length (digits_of n)) 0) && list_all is_ascii_digit (digits_of n)) ≡ true
number_digits n h = and_from (not (nat_eq (length (digits_of n)) 0)) (list_all is_ascii_digit (digits_of n)) (not_zero (length (digits_of n)) h.some) h.digits

-- a number with its sign
abbrev with_sign : Bool → ℕ → ℤ
with_sign s d = if s then neg_ℤ (pos d) else pos d

moment_signed : (s : Bool) (d : ℕ) → d ≤ MAX_NUMBER → IsMoment (with_sign s d)
moment_signed true d h = record { least = omega (arith, ints, h); greatest = omega (arith, ints, h) }
moment_signed false d h = record { least = omega (arith, ints, h); greatest = omega (arith, ints, h) }

signed_moment : (s : Bool) (d : ℕ) → IsMoment (with_sign s d) → d ≤ MAX_NUMBER
signed_moment true d h = omega (arith, ints, h.least)
signed_moment false d h = omega (arith, ints, h.greatest)

pub tame_moment : (n : List ℕ) → is_tame n ≡ true → IsMoment (number_value n)
tame_moment n h = moment_signed (nat_eq (slice_index n 0) 45) (digits_value 10 (digits_of n)) (leb-true (digits_value 10 (digits_of n)) MAX_NUMBER (second_so (not (nat_eq (length (digits_of n)) 0) && list_all is_ascii_digit (digits_of n)) (nat_le (digits_value 10 (digits_of n)) MAX_NUMBER) h))

pub moment_tame : (n : List ℕ) → IsNumber n → IsMoment (number_value n) → is_tame n ≡ true
moment_tame n h m = and_from (not (nat_eq (length (digits_of n)) 0) && list_all is_ascii_digit (digits_of n)) (nat_le (digits_value 10 (digits_of n)) MAX_NUMBER) (number_digits n h)
    (le-leb (digits_value 10 (digits_of n)) MAX_NUMBER (signed_moment (nat_eq (slice_index n 0) 45) (digits_value 10 (digits_of n)) m))

pub tame_or_wild : (n : List ℕ) → IsNumber n → (is_tame n ≡ true) ⊎ (¬ IsMoment (number_value n))
tame_or_wild n h = elim (cases_lt MAX_NUMBER (digits_value 10 (digits_of n))) [
  | inl above ↦ inr (λ m. let below = signed_moment (nat_eq (slice_index n 0) 45) (digits_value 10 (digits_of n)) m in omega (arith, above, below))
  | inr below ↦ inl (and_from (not (nat_eq (length (digits_of n)) 0) && list_all is_ascii_digit (digits_of n)) (nat_le (digits_value 10 (digits_of n)) MAX_NUMBER) (number_digits n h) (le-leb (digits_value 10 (digits_of n)) MAX_NUMBER below))
]

-- it is decided whether a token is wild, and whether one is overlong
pub wild_decided : (ts : List Lexeme) → AllNumbers ts → Decided (SomeToken IsWild ts)
wild_decided [] h = inr (λ e. e)
wild_decided (AWord w ∷ ts) h = elim (wild_decided ts h.1) [ inl e ↦ inl (inr e) | inr n ↦ inr (λ e. ⊎_elim (λ f. f) n e) ]
wild_decided (AQuote w ∷ ts) h = elim (wild_decided ts h.1) [ inl e ↦ inl (inr e) | inr n ↦ inr (λ e. ⊎_elim (λ f. f) n e) ]
wild_decided (AMark w ∷ ts) h = elim (wild_decided ts h.1) [ inl e ↦ inl (inr e) | inr n ↦ inr (λ e. ⊎_elim (λ f. f) n e) ]
wild_decided (ANumber v ∷ ts) h = elim (tame_or_wild v h.0) [
  | inl tame ↦ elim (wild_decided ts h.1) [ inl e ↦ inl (inr e) | inr n ↦ inr (λ e. ⊎_elim (λ f. f (tame_moment v tame)) n e) ]
  | inr wild ↦ inl (inl wild)
]

long_decided : (w : List ℕ) → Decided (MAX_NAME < length w)
long_decided w = elim (cases_lt 64 (length w)) [ inl e ↦ inl e | inr n ↦ inr (λ e. omega (arith, n, e)) ]

pub overlong_decided : (ts : List Lexeme) → Decided (SomeToken IsOverlong ts)
overlong_decided [] = inr (λ e. e)
overlong_decided (ANumber w ∷ ts) = elim (overlong_decided ts) [ inl e ↦ inl (inr e) | inr n ↦ inr (λ e. ⊎_elim (λ f. f) n e) ]
overlong_decided (AMark w ∷ ts) = elim (overlong_decided ts) [ inl e ↦ inl (inr e) | inr n ↦ inr (λ e. ⊎_elim (λ f. f) n e) ]
overlong_decided (AWord w ∷ ts) = elim (long_decided w) [
  | inl e ↦ inl (inl e)
  | inr n ↦ elim (overlong_decided ts) [ inl e ↦ inl (inr e) | inr m ↦ inr (λ e. ⊎_elim n m e) ]
]
overlong_decided (AQuote w ∷ ts) = elim (long_decided w) [
  | inl e ↦ inl (inl e)
  | inr n ↦ elim (overlong_decided ts) [ inl e ↦ inl (inr e) | inr m ↦ inr (λ e. ⊎_elim n m e) ]
]

not_above : (n : ℕ) → (MAX_NAME < n → ⊥) → n ≤ MAX_NAME
not_above n h = elim (cases_lt 64 n) [ inl e ↦ absurd (h e) | inr e ↦ e ]

-- where none is, all fit
pub all_fit : (ts : List Lexeme) → AllNumbers ts → (SomeToken IsWild ts → ⊥) → (SomeToken IsOverlong ts → ⊥) → AllFit ts
all_fit [] h w o = tt
all_fit (AWord v ∷ ts) h w o = (not_above (length v) (λ l. o (inl l)), all_fit ts h.1 (λ e. w (inr e)) (λ e. o (inr e)))
all_fit (AQuote v ∷ ts) h w o = (not_above (length v) (λ l. o (inl l)), all_fit ts h.1 (λ e. w (inr e)) (λ e. o (inr e)))
all_fit (AMark v ∷ ts) h w o = (tt, all_fit ts h.1 (λ e. w (inr e)) (λ e. o (inr e)))
all_fit (ANumber v ∷ ts) h w o = (elim (tame_or_wild v h.0) [ inl t ↦ t | inr n ↦ absurd (w (inl n)) ], all_fit ts h.1 (λ e. w (inr e)) (λ e. o (inr e)))
