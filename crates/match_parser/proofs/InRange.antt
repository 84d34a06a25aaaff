-- A query that a text reads as is in range, small, and asks for an end.
use Rattle.std.proofs.Common.{◌≡◌, inl, inr, ℕ, ◌≤◌, ℤ, pos, ◌+ℤ◌, ◌||◌, Bool, true, false, not, List, [], ◌∷◌, ◌++◌, Option, Some, None, refl, sym, ap, subst, ◌∙◌, arith, true≢false}
use Rattle.std.specs.Cmp.{second_so}
use Rattle.std.proofs.lemmas.Bool.{false_from_ne_true}
use Rattle.std.specs.Prelude.{nat_lt, IsTrue, is_some}
use Rattle.std.specs.Str.Parse.{digits_value}
use Rattle.std.proofs.lemmas.Int.{ints}
use Rattle.std.proofs.lemmas.Bool.{cases_lt, lt-ltb, leb-true}
use Rattle.itpg_base.specs.declared.text_code.TextCode.TheVariants.{Number, Name, Range, Names, Terms}
use Rattle.itpg_base.specs.Spans.{IsMoment}
use Rattle.script_lex.specs.declared.mark.Mark.TheVariants.{ParenR, BraceR, Plus, Slash, DashSlash, SlashDash}
use Rattle.script_lex.specs.Lexemes.{AWord, AMark}
use Rattle.script_lex.specs.Numbers.{number_value, digits_of}
use Rattle.script_lex.specs.declared.numbers.TheConstants.{MAX_NUMBER}
use Rattle.path_ast.specs.declared.counts.TheConstants.{MAX_TERMS}
use Rattle.path_ast.specs.Terms.{PathTerm, TestTerm, QueryTerm}
use Rattle.path_ast.specs.Sizes.{path_size, IsBoundInRange, IsPathInRange, IsTestInRange}
use Rattle.match_parser.specs.declared.words.Keyword.TheVariants.{Or}
use Rattle.match_parser.specs.declared.words.Axis.{Axis}
use Rattle.match_parser.specs.declared.words.Axis.TheVariants as Axes
use Rattle.match_parser.specs.Words.{keyword_text, is_signed}
use Rattle.match_parser.specs.Kept.{is_number, is_tame}
use Rattle.match_parser.specs.Grammar.{TimesTree, Once, Starred, FromTo, FromOn, FactTree, PropertyIs, TimeBelow, TimeAt, TimeFrom, Labelled, NodeFact, EdgeFact, ExistsFact, AltTree, OneSeq, MoreSeq, SeqTree, OneRep, MoreRep, RepTree, AtomTimes, AtomTree, Step, AtLabel, Braced, Asked, Grouped, OrTree, OneAnd, MoreAnd, AndTree, OneUnary, MoreUnary, UnaryTree, Plain, Negated, PrimTree, OfFact, OfPath, OfTests, PatternTree, ChainTree, OnePattern, MorePattern, times_text, fact_text, both_text, alt_text, seq_text, rep_text, atom_text, or_text, and_text, unary_text, prim_text, name_text, label_text, tests_text, pattern_text, chain_text, graph_text}
use Rattle.match_parser.specs.Translation.{axis_path, node_test, times_path, fact_test, alt_path, seq_path, rep_path, atom_path, or_test, and_test, unary_test, prim_test, with_label, with_tests, pattern_path, chain_path, first_name, last_name}
use Rattle.match_parser.specs.Faults.{has_backwards, test_has_backwards, later_named, inner_named}
use Rattle.match_parser.specs.Reading.{Reads}
use Rattle.match_parser.proofs.Fits.{AllFit, fit_front, fit_back, all_fit, tame_moment, unsigned_digits}
use Rattle.match_parser.proofs.Law.{text_fits}
use Rattle.match_parser.proofs.Whole.{neither_first, neither_rest}

-- a test or a path of two parts, neither of which has its numbers the wrong way round
not_less : (m n : ℕ) → nat_lt m n ≡ false → n ≤ m
not_less m n e = elim (cases_lt m n) [ inl less ↦ absurd (true≢false (sym (lt-ltb m n less) ∙ e)) | inr more ↦ more ]

tame_count : (n : List ℕ) → is_tame n ≡ true → is_signed n ≡ false → digits_value 10 n ≤ MAX_NUMBER
tame_count n t s =
    let whole : digits_value 10 (digits_of n) ≤ MAX_NUMBER = leb-true (digits_value 10 (digits_of n)) MAX_NUMBER (second_so (is_number n) _ t) in
    subst (λ (d : List ℕ). digits_value 10 d ≤ MAX_NUMBER) (unsigned_digits n s) whole

bound_in_range : (k : ℤ) → IsMoment k → IsBoundInRange k
bound_in_range k m = record { least = m.least; greatest = omega (arith, ints, m.greatest) }

next_in_range : (k : ℤ) → IsMoment k → IsBoundInRange (k +ℤ pos 1)
next_in_range k m = record { least = omega (arith, ints, m.least); greatest = omega (arith, ints, m.greatest) }

step_in_range : (x : Axis) → IsPathInRange (axis_path x)
step_in_range Axes.Fwd = (tt, tt)
step_in_range Axes.Bwd = (tt, tt)
step_in_range Axes.Next = (tt, tt)
step_in_range Axes.Prev = (tt, tt)
step_in_range Axes.F = tt
step_in_range Axes.B = tt
step_in_range Axes.N = tt
step_in_range Axes.P = tt

times_right : (t : TimesTree) (p : PathTerm) → has_backwards (times_path t p) ≡ false → has_backwards p ≡ false
times_right Once p e = e
times_right Starred p e = e
times_right (FromTo n m x y) p e = neither_rest (nat_lt (digits_value 10 m) (digits_value 10 n)) (has_backwards p) e
times_right (FromOn n x) p e = e

times_in_range : (t : TimesTree) (p : PathTerm) → AllFit (times_text t) → has_backwards (times_path t p) ≡ false → IsPathInRange p → IsPathInRange (times_path t p)
times_in_range Once p h e r = r
times_in_range Starred p h e r = (r, record { least = omega arith; most = tt })
times_in_range (FromTo n m x y) p h e r = (
  r,
  record {
    least = tame_count n h.1.0 x;
    most = (not_less (digits_value 10 m) (digits_value 10 n) (neither_first (nat_lt (digits_value 10 m) (digits_value 10 n)) (has_backwards p) e), tame_count m h.1.1.1.0 y);
  },
)
times_in_range (FromOn n x) p h e r = (r, record { least = tame_count n h.1.0 x; most = tt })

fact_in_range : (f : FactTree) → AllFit (fact_text f) → IsTestInRange (fact_test f)
fact_in_range (PropertyIs w v p) h = tt
fact_in_range (TimeBelow k) h = bound_in_range (number_value k) (tame_moment k h.1.1.0)
fact_in_range (TimeAt k) h = (bound_in_range (number_value k) (tame_moment k h.1.1.0), next_in_range (number_value k) (tame_moment k h.1.1.0))
fact_in_range (TimeFrom k) h = bound_in_range (number_value k) (tame_moment k h.1.1.0)
fact_in_range (Labelled w) h = tt
fact_in_range NodeFact h = tt
fact_in_range EdgeFact h = tt
fact_in_range ExistsFact h = tt

mutual
  alt_in_range : (a : AltTree) → AllFit (alt_text a) → has_backwards (alt_path a) ≡ false → IsPathInRange (alt_path a)
  alt_in_range (OneSeq s) h e = seq_in_range s h e
  alt_in_range (MoreSeq a s) h e = (
    alt_in_range a (fit_front (alt_text a) (AMark Plus ∷ seq_text s) h) (neither_first (has_backwards (alt_path a)) (has_backwards (seq_path s)) e),
    seq_in_range s (fit_back (alt_text a) (AMark Plus ∷ seq_text s) h).1 (neither_rest (has_backwards (alt_path a)) (has_backwards (seq_path s)) e),
  )

  seq_in_range : (s : SeqTree) → AllFit (seq_text s) → has_backwards (seq_path s) ≡ false → IsPathInRange (seq_path s)
  seq_in_range (OneRep r) h e = rep_in_range r h e
  seq_in_range (MoreRep s r) h e = (
    seq_in_range s (fit_front (seq_text s) (AMark Slash ∷ rep_text r) h) (neither_first (has_backwards (seq_path s)) (has_backwards (rep_path r)) e),
    rep_in_range r (fit_back (seq_text s) (AMark Slash ∷ rep_text r) h).1 (neither_rest (has_backwards (seq_path s)) (has_backwards (rep_path r)) e),
  )

  rep_in_range : (r : RepTree) → AllFit (rep_text r) → has_backwards (rep_path r) ≡ false → IsPathInRange (rep_path r)
  rep_in_range (AtomTimes a t) h e = times_in_range t (atom_path a) (fit_back (atom_text a) (times_text t) h) e (atom_in_range a (fit_front (atom_text a) (times_text t) h) (times_right t (atom_path a) e))

  atom_in_range : (a : AtomTree) → AllFit (atom_text a) → has_backwards (atom_path a) ≡ false → IsPathInRange (atom_path a)
  atom_in_range (Step x) h e = step_in_range x
  atom_in_range (AtLabel w) h e = tt
  atom_in_range (Braced o) h e = or_in_range o (fit_front (or_text o) (AMark BraceR ∷ []) h.1) e
  atom_in_range (Asked a) h e = alt_in_range a (fit_front (alt_text a) (AMark ParenR ∷ []) h.1.1) e
  atom_in_range (Grouped a) h e = alt_in_range a (fit_front (alt_text a) (AMark ParenR ∷ []) h.1) e

  or_in_range : (o : OrTree) → AllFit (or_text o) → test_has_backwards (or_test o) ≡ false → IsTestInRange (or_test o)
  or_in_range (OneAnd a) h e = and_in_range a h e
  or_in_range (MoreAnd o a) h e = (
    or_in_range o (fit_front (or_text o) (AWord (keyword_text Or) ∷ and_text a) h) (neither_first (test_has_backwards (or_test o)) (test_has_backwards (and_test a)) e),
    and_in_range a (fit_back (or_text o) (AWord (keyword_text Or) ∷ and_text a) h).1 (neither_rest (test_has_backwards (or_test o)) (test_has_backwards (and_test a)) e),
  )

  and_in_range : (a : AndTree) → AllFit (and_text a) → test_has_backwards (and_test a) ≡ false → IsTestInRange (and_test a)
  and_in_range (OneUnary u) h e = unary_in_range u h e
  and_in_range (MoreUnary a b u) h e = (
    and_in_range a (fit_front (and_text a) (both_text b ∷ unary_text u) h) (neither_first (test_has_backwards (and_test a)) (test_has_backwards (unary_test u)) e),
    unary_in_range u (fit_back (and_text a) (both_text b ∷ unary_text u) h).1 (neither_rest (test_has_backwards (and_test a)) (test_has_backwards (unary_test u)) e),
  )

  unary_in_range : (u : UnaryTree) → AllFit (unary_text u) → test_has_backwards (unary_test u) ≡ false → IsTestInRange (unary_test u)
  unary_in_range (Plain p) h e = prim_in_range p h e
  unary_in_range (Negated p) h e = prim_in_range p h.1 e

  prim_in_range : (p : PrimTree) → AllFit (prim_text p) → test_has_backwards (prim_test p) ≡ false → IsTestInRange (prim_test p)
  prim_in_range (OfFact f) h e = fact_in_range f h
  prim_in_range (OfPath a) h e = alt_in_range a (fit_front (alt_text a) (AMark ParenR ∷ []) h.1.1) e
  prim_in_range (OfTests o) h e = or_in_range o (fit_front (or_text o) (AMark ParenR ∷ []) h.1) e

label_in_range : (l : Option (List ℕ)) (c : TestTerm) → IsTestInRange c → IsTestInRange (with_label l c)
label_in_range None c r = r
label_in_range (Some w) c r = (r, tt)

label_right : (l : Option (List ℕ)) → test_has_backwards (with_label l node_test) ≡ false
label_right None = refl
label_right (Some w) = refl

tests_in_range : (o : Option OrTree) (c : TestTerm) → AllFit (tests_text o) → test_has_backwards c ≡ false → test_has_backwards (with_tests o c) ≡ false → IsTestInRange c → IsTestInRange (with_tests o c)
tests_in_range None c h d e r = r
tests_in_range (Some o) c h d e r = (r, or_in_range o (fit_front (or_text o) (AMark BraceR ∷ []) h.1) (neither_rest (test_has_backwards c) (test_has_backwards (or_test o)) e))

pattern_in_range : (p : PatternTree) → AllFit (pattern_text p) → has_backwards (pattern_path p) ≡ false → IsPathInRange (pattern_path p)
pattern_in_range p h e =
    let behind_name = fit_back (name_text p.name) (label_text p.label ++ (tests_text p.tests ++ AMark ParenR ∷ [])) h.1 in
    let tests = fit_front (tests_text p.tests) (AMark ParenR ∷ []) (fit_back (label_text p.label) (tests_text p.tests ++ AMark ParenR ∷ []) behind_name) in
    tests_in_range p.tests (with_label p.label node_test) tests (label_right p.label) e (label_in_range p.label node_test (tt, tt))

chain_in_range : (c : ChainTree) → AllFit (chain_text c) → has_backwards (chain_path c) ≡ false → IsPathInRange (chain_path c)
chain_in_range (OnePattern p) h e = pattern_in_range p h e
chain_in_range (MorePattern c a p) h e =
    let front = neither_first (has_backwards (chain_path c) || has_backwards (alt_path a)) (has_backwards (pattern_path p)) e in
    let back = (fit_back (chain_text c) (AMark DashSlash ∷ (alt_text a ++ AMark SlashDash ∷ pattern_text p)) h).1 in (
      (
        chain_in_range c (fit_front (chain_text c) (AMark DashSlash ∷ (alt_text a ++ AMark SlashDash ∷ pattern_text p)) h) (neither_first (has_backwards (chain_path c)) (has_backwards (alt_path a)) front),
        alt_in_range a (fit_front (alt_text a) (AMark SlashDash ∷ pattern_text p) back) (neither_rest (has_backwards (chain_path c)) (has_backwards (alt_path a)) front),
      ),
      pattern_in_range p (fit_back (alt_text a) (AMark SlashDash ∷ pattern_text p) back).1 (neither_rest (has_backwards (chain_path c) || has_backwards (alt_path a)) (has_backwards (pattern_path p)) e),
    )

pub path_in_range : (text : List ℕ) (q : QueryTerm) → Reads text q → IsPathInRange q.path
path_in_range text q r =
    let fit = all_fit r.tokens (text_fits text r.tokens None r.is) (r.clean Number) (r.clean Name) in
    let right = false_from_ne_true (has_backwards (chain_path r.tree.chain)) (λ b. r.clean Range (r.tree, r.spells, b)) in
    subst (λ (p : QueryTerm). IsPathInRange p.path) r.means (chain_in_range r.tree.chain (fit_front (chain_text r.tree.chain) (graph_text r.tree.graph_name) (subst AllFit (sym r.spells) fit).1) right)

pub few_terms : (text : List ℕ) (q : QueryTerm) → Reads text q → path_size q.path ≤ MAX_TERMS
few_terms text q r = subst (λ (p : QueryTerm). path_size p.path ≤ MAX_TERMS) r.means (elim (cases_lt MAX_TERMS (path_size (chain_path r.tree.chain))) [
  | inl many ↦ absurd (r.clean Terms (r.tree, r.spells, many))
  | inr few ↦ few
])

-- some end has a name
end_named : (c : ChainTree) → inner_named c ≡ false → ((first_name c ≡ None) × IsTrue (not (later_named c)) → ⊥) → (is_some (first_name c) || is_some (last_name c)) ≡ true
end_named c inner named = by_first (first_name c) refl
  where
    last_only : (d : ChainTree) → inner_named d ≡ false → later_named d ≡ is_some (last_name d)
    last_only (OnePattern p) e = refl
    last_only (MorePattern d a p) e = rw e refl

    by_last : (b : Bool) → is_some (last_name c) ≡ b → first_name c ≡ None → is_some (last_name c) ≡ true
    by_last true e f = e
    by_last false e f = absurd (named (f, ap not (last_only c inner ∙ e)))

    by_first : (o : Option (List ℕ)) → first_name c ≡ o → (is_some (first_name c) || is_some (last_name c)) ≡ true
    by_first (Some w) e = rw e refl
    by_first None e = let last = by_last (is_some (last_name c)) refl e in rw (e, last) refl

pub asks_for_one : (text : List ℕ) (q : QueryTerm) → Reads text q → IsTrue (q.first || q.last)
asks_for_one text q r = subst (λ (p : QueryTerm). IsTrue (p.first || p.last)) r.means
    (end_named r.tree.chain (false_from_ne_true (inner_named r.tree.chain) (λ e. r.clean Names (r.tree, r.spells, inl e))) (λ n. r.clean Names (r.tree, r.spells, inr (inl n))))
