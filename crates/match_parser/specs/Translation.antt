-- What each tree of the grammar stands for.
use Rattle.std.specs.Prelude.{ℕ, ◌+ℤ◌, pos, List, Option, Some, None, is_some}
use Rattle.std.specs.Str.Parse.{digits_value}
use Rattle.script_lex.specs.Numbers.{number_value}
use Rattle.path_ast.specs.Terms.{PathTerm, OfTest, Forward, Backward, Next, Previous, Sequence, Choice, Repetition, TestTerm, IsNode, IsEdge, HasLabel, HasValue, IsBelow, DoesExist, Condition, Conjunction, Disjunction, Negation, QueryTerm}
use Rattle.match_parser.specs.declared.words.Axis.{Axis}
use Rattle.match_parser.specs.declared.words.Axis.TheVariants as Axes
use Rattle.match_parser.specs.Grammar.{TimesTree, Once, Starred, FromTo, FromOn, FactTree, PropertyIs, TimeBelow, TimeAt, TimeFrom, Labelled, NodeFact, EdgeFact, ExistsFact, AltTree, OneSeq, MoreSeq, SeqTree, OneRep, MoreRep, RepTree, AtomTimes, AtomTree, Step, AtLabel, Braced, Asked, Grouped, OrTree, OneAnd, MoreAnd, AndTree, OneUnary, MoreUnary, UnaryTree, Plain, Negated, PrimTree, OfFact, OfPath, OfTests, PatternTree, ChainTree, OnePattern, MorePattern, QueryTree}

-- where the object exists, one step in this direction
abbrev pub existing : PathTerm → PathTerm
existing p = Sequence p (OfTest DoesExist)

-- F, B, N and P are the axes; FWD, BWD, NEXT and PREV lead by one to where the object exists
abbrev pub axis_path : Axis → PathTerm
axis_path Axes.Fwd = existing Forward
axis_path Axes.Bwd = existing Backward
axis_path Axes.Next = existing Next
axis_path Axes.Prev = existing Previous
axis_path Axes.F = Forward
axis_path Axes.B = Backward
axis_path Axes.N = Next
axis_path Axes.P = Previous

-- the path, so many times
abbrev pub times_path : TimesTree → PathTerm → PathTerm
times_path Once p = p
times_path Starred p = Repetition p 0 None
times_path (FromTo n m x y) p = Repetition p (digits_value 10 n) (Some (digits_value 10 m))
times_path (FromOn n x) p = Repetition p (digits_value 10 n) None

-- the moment is k or later
abbrev pub from : List ℕ → TestTerm
from k = Negation (IsBelow (number_value k))

abbrev pub fact_test : FactTree → TestTerm
fact_test (PropertyIs property value p) = HasValue property value
fact_test (TimeBelow k) = IsBelow (number_value k)
fact_test (TimeAt k) = Conjunction (from k) (IsBelow (number_value k +ℤ pos 1))
fact_test (TimeFrom k) = from k
fact_test (Labelled label) = HasLabel label
fact_test NodeFact = IsNode
fact_test EdgeFact = IsEdge
fact_test ExistsFact = DoesExist

abbrev mutual
  pub alt_path : AltTree → PathTerm
  alt_path (OneSeq s) = seq_path s
  alt_path (MoreSeq a s) = Choice (alt_path a) (seq_path s)

  pub seq_path : SeqTree → PathTerm
  seq_path (OneRep r) = rep_path r
  seq_path (MoreRep s r) = Sequence (seq_path s) (rep_path r)

  pub rep_path : RepTree → PathTerm
  rep_path (AtomTimes a t) = times_path t (atom_path a)

  pub atom_path : AtomTree → PathTerm
  atom_path (Step axis) = axis_path axis
  atom_path (AtLabel label) = OfTest (HasLabel label)
  atom_path (Braced o) = OfTest (or_test o)
  atom_path (Asked a) = OfTest (Condition (alt_path a))
  atom_path (Grouped a) = alt_path a

  pub or_test : OrTree → TestTerm
  or_test (OneAnd a) = and_test a
  or_test (MoreAnd o a) = Disjunction (or_test o) (and_test a)

  pub and_test : AndTree → TestTerm
  and_test (OneUnary u) = unary_test u
  and_test (MoreUnary a b u) = Conjunction (and_test a) (unary_test u)

  pub unary_test : UnaryTree → TestTerm
  unary_test (Plain p) = prim_test p
  unary_test (Negated p) = Negation (prim_test p)

  pub prim_test : PrimTree → TestTerm
  prim_test (OfFact f) = fact_test f
  prim_test (OfPath a) = Condition (alt_path a)
  prim_test (OfTests o) = or_test o

-- a node that exists
abbrev pub node_test : TestTerm
node_test = Conjunction IsNode DoesExist

-- and that has the label, where there is one
abbrev pub with_label : Option (List ℕ) → TestTerm → TestTerm
with_label None c = c
with_label (Some label) c = Conjunction c (HasLabel label)

-- and for which the tests hold, where there are some
abbrev pub with_tests : Option OrTree → TestTerm → TestTerm
with_tests None c = c
with_tests (Some o) c = Conjunction c (or_test o)

abbrev pub pattern_path : PatternTree → PathTerm
pattern_path p = OfTest (with_tests p.tests (with_label p.label node_test))

abbrev pub chain_path : ChainTree → PathTerm
chain_path (OnePattern p) = pattern_path p
chain_path (MorePattern c a p) = Sequence (Sequence (chain_path c) (alt_path a)) (pattern_path p)

-- the name of the first pattern, if it has one
abbrev pub first_name : ChainTree → Option (List ℕ)
first_name (OnePattern p) = p.name
first_name (MorePattern c a p) = first_name c

-- the name of the last pattern, if there are two patterns or more and it has one
abbrev pub last_name : ChainTree → Option (List ℕ)
last_name (OnePattern p) = None
last_name (MorePattern c a p) = p.name

abbrev pub query_of : QueryTree → QueryTerm
query_of q = record { first = is_some (first_name q.chain); last = is_some (last_name q.chain); path = chain_path q.chain; graph_name = q.graph_name }
