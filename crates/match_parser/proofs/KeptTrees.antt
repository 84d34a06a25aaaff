-- What each tree stands for, with what is kept of its words and numbers.
use Rattle.std.specs.Prelude.{ℕ, ◌+ℤ◌, pos, List, Option, Some, None}
use Rattle.path_ast.specs.Terms.{PathTerm, OfTest, Sequence, Choice, TestTerm, IsNode, IsEdge, HasLabel, HasValue, IsBelow, DoesExist, Condition, Conjunction, Disjunction, Negation}
use Rattle.match_parser.specs.Grammar.{TimesTree, Once, Starred, FromTo, FromOn, FactTree, PropertyIs, TimeBelow, TimeAt, TimeFrom, Labelled, NodeFact, EdgeFact, ExistsFact, AltTree, OneSeq, MoreSeq, SeqTree, OneRep, MoreRep, RepTree, AtomTimes, AtomTree, Step, AtLabel, Braced, Asked, Grouped, OrTree, OneAnd, MoreAnd, AndTree, OneUnary, MoreUnary, UnaryTree, Plain, Negated, PrimTree, OfFact, OfPath, OfTests, PatternTree, ChainTree, OnePattern, MorePattern}
use Rattle.match_parser.specs.Translation.{axis_path, node_test}
use Rattle.match_parser.specs.Kept.{kept_name, kept_value, kept_count}
use Rattle.match_parser.specs.Parsing.{repeated, Pattern, Chain, chain_of, with_piece}

-- how many times
abbrev pub times_value : TimesTree → Option (ℕ × Option ℕ)
times_value Once = None
times_value Starred = Some (0, None)
times_value (FromTo n m x y) = Some (kept_count n, Some (kept_count m))
times_value (FromOn n x) = Some (kept_count n, None)

abbrev pub times_kept : TimesTree → PathTerm → PathTerm
times_kept t p = repeated (times_value t) p

-- the moment is k or later
abbrev pub from_kept : List ℕ → TestTerm
from_kept k = Negation (IsBelow (kept_value k))

abbrev pub fact_kept : FactTree → TestTerm
fact_kept (PropertyIs property value p) = HasValue (kept_name property) (kept_name value)
fact_kept (TimeBelow k) = IsBelow (kept_value k)
fact_kept (TimeAt k) = Conjunction (from_kept k) (IsBelow (kept_value k +ℤ pos 1))
fact_kept (TimeFrom k) = from_kept k
fact_kept (Labelled label) = HasLabel (kept_name label)
fact_kept NodeFact = IsNode
fact_kept EdgeFact = IsEdge
fact_kept ExistsFact = DoesExist

abbrev mutual
  pub alt_kept : AltTree → PathTerm
  alt_kept (OneSeq s) = seq_kept s
  alt_kept (MoreSeq a s) = Choice (alt_kept a) (seq_kept s)

  pub seq_kept : SeqTree → PathTerm
  seq_kept (OneRep r) = rep_kept r
  seq_kept (MoreRep s r) = Sequence (seq_kept s) (rep_kept r)

  pub rep_kept : RepTree → PathTerm
  rep_kept (AtomTimes a t) = times_kept t (atom_kept a)

  pub atom_kept : AtomTree → PathTerm
  atom_kept (Step axis) = axis_path axis
  atom_kept (AtLabel label) = OfTest (HasLabel (kept_name label))
  atom_kept (Braced o) = OfTest (or_kept o)
  atom_kept (Asked a) = OfTest (Condition (alt_kept a))
  atom_kept (Grouped a) = alt_kept a

  pub or_kept : OrTree → TestTerm
  or_kept (OneAnd a) = and_kept a
  or_kept (MoreAnd o a) = Disjunction (or_kept o) (and_kept a)

  pub and_kept : AndTree → TestTerm
  and_kept (OneUnary u) = unary_kept u
  and_kept (MoreUnary a b u) = Conjunction (and_kept a) (unary_kept u)

  pub unary_kept : UnaryTree → TestTerm
  unary_kept (Plain p) = prim_kept p
  unary_kept (Negated p) = Negation (prim_kept p)

  pub prim_kept : PrimTree → TestTerm
  prim_kept (OfFact f) = fact_kept f
  prim_kept (OfPath a) = Condition (alt_kept a)
  prim_kept (OfTests o) = or_kept o

-- and that has the label, where there is one
abbrev pub with_label_kept : Option (List ℕ) → TestTerm → TestTerm
with_label_kept None c = c
with_label_kept (Some label) c = Conjunction c (HasLabel (kept_name label))

-- and for which the tests hold, where there are some
abbrev pub with_tests_kept : Option OrTree → TestTerm → TestTerm
with_tests_kept None c = c
with_tests_kept (Some o) c = Conjunction c (or_kept o)

abbrev pub name_kept : Option (List ℕ) → Option (List ℕ)
name_kept None = None
name_kept (Some w) = Some (kept_name w)

abbrev pub pattern_kept : PatternTree → Pattern
pattern_kept p = record { name = name_kept p.name; path = OfTest (with_tests_kept p.tests (with_label_kept p.label node_test)) }

abbrev pub chain_kept : ChainTree → Chain
chain_kept (OnePattern p) = chain_of (pattern_kept p)
chain_kept (MorePattern c a p) = with_piece (chain_kept c) (alt_kept a, pattern_kept p)
