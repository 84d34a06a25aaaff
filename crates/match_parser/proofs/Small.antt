-- A path has fewer terms than four times the tokens that it is spelled with.
use Rattle.std.proofs.Common.{ℕ, ◌+◌, ◌*◌, ◌≤◌, List, [], ◌∷◌, ◌++◌, length, Option, Some, None, arith, length-append}
use Rattle.script_lex.specs.declared.mark.Mark.TheVariants.{ParenR, BraceR, Plus, Slash, DashSlash, SlashDash}
use Rattle.script_lex.specs.Lexemes.{AWord, AMark}
use Rattle.path_ast.specs.Terms.{PathTerm, TestTerm}
use Rattle.path_ast.specs.Sizes.{path_size, test_size}
use Rattle.match_parser.specs.declared.words.Keyword.TheVariants.{Or}
use Rattle.match_parser.specs.declared.words.Axis.{Axis}
use Rattle.match_parser.specs.declared.words.Axis.TheVariants as Axes
use Rattle.match_parser.specs.Words.{keyword_text}
use Rattle.match_parser.specs.Grammar.{TimesTree, Once, Starred, FromTo, FromOn, FactTree, PropertyIs, TimeBelow, TimeAt, TimeFrom, Labelled, NodeFact, EdgeFact, ExistsFact, AltTree, OneSeq, MoreSeq, SeqTree, OneRep, MoreRep, RepTree, AtomTimes, AtomTree, Step, AtLabel, Braced, Asked, Grouped, OrTree, OneAnd, MoreAnd, AndTree, OneUnary, MoreUnary, UnaryTree, Plain, Negated, PrimTree, OfFact, OfPath, OfTests, PatternTree, ChainTree, OnePattern, MorePattern, QueryTree, times_text, fact_text, both_text, alt_text, seq_text, rep_text, atom_text, or_text, and_text, unary_text, prim_text, name_text, label_text, tests_text, pattern_text, chain_text, graph_text, query_text}
use Rattle.match_parser.specs.Translation.{axis_path, node_test}
use Rattle.match_parser.proofs.KeptTrees.{times_kept, fact_kept, alt_kept, seq_kept, rep_kept, atom_kept, or_kept, and_kept, unary_kept, prim_kept, with_label_kept, with_tests_kept, chain_kept}

step_small : (x : Axis) → path_size (axis_path x) + 1 ≤ 4
step_small Axes.Fwd = omega arith
step_small Axes.Bwd = omega arith
step_small Axes.Next = omega arith
step_small Axes.Prev = omega arith
step_small Axes.F = omega arith
step_small Axes.B = omega arith
step_small Axes.N = omega arith
step_small Axes.P = omega arith

times_small : (t : TimesTree) (p : PathTerm) (n : ℕ) → path_size p + 1 ≤ n → path_size (times_kept t p) + 1 ≤ n + 4 * length (times_text t)
times_small Once p n h = omega (arith, h)
times_small Starred p n h = omega (arith, h)
times_small (FromTo a b x y) p n h = omega (arith, h)
times_small (FromOn a x) p n h = omega (arith, h)

fact_small : (f : FactTree) → test_size (fact_kept f) + 1 ≤ 4 * length (fact_text f)
fact_small (PropertyIs w v p) = omega arith
fact_small (TimeBelow k) = omega arith
fact_small (TimeAt k) = omega arith
fact_small (TimeFrom k) = omega arith
fact_small (Labelled w) = omega arith
fact_small NodeFact = omega arith
fact_small EdgeFact = omega arith
fact_small ExistsFact = omega arith

mutual
  alt_small : (a : AltTree) → path_size (alt_kept a) + 1 ≤ 4 * length (alt_text a)
  alt_small (OneSeq s) = seq_small s
  alt_small (MoreSeq a s) = omega (arith, alt_small a, seq_small s, length-append (alt_text a) (AMark Plus ∷ seq_text s))

  seq_small : (s : SeqTree) → path_size (seq_kept s) + 1 ≤ 4 * length (seq_text s)
  seq_small (OneRep r) = rep_small r
  seq_small (MoreRep s r) = omega (arith, seq_small s, rep_small r, length-append (seq_text s) (AMark Slash ∷ rep_text r))

  rep_small : (r : RepTree) → path_size (rep_kept r) + 1 ≤ 4 * length (rep_text r)
  rep_small (AtomTimes a t) = omega (arith, times_small t (atom_kept a) (4 * length (atom_text a)) (atom_small a), length-append (atom_text a) (times_text t))

  atom_small : (a : AtomTree) → path_size (atom_kept a) + 1 ≤ 4 * length (atom_text a)
  atom_small (Step x) = step_small x
  atom_small (AtLabel w) = omega arith
  atom_small (Braced o) = omega (arith, or_small o, length-append (or_text o) (AMark BraceR ∷ []))
  atom_small (Asked a) = omega (arith, alt_small a, length-append (alt_text a) (AMark ParenR ∷ []))
  atom_small (Grouped a) = omega (arith, alt_small a, length-append (alt_text a) (AMark ParenR ∷ []))

  or_small : (o : OrTree) → test_size (or_kept o) + 1 ≤ 4 * length (or_text o)
  or_small (OneAnd a) = and_small a
  or_small (MoreAnd o a) = omega (arith, or_small o, and_small a, length-append (or_text o) (AWord (keyword_text Or) ∷ and_text a))

  and_small : (a : AndTree) → test_size (and_kept a) + 1 ≤ 4 * length (and_text a)
  and_small (OneUnary u) = unary_small u
  and_small (MoreUnary a b u) = omega (arith, and_small a, unary_small u, length-append (and_text a) (both_text b ∷ unary_text u))

  unary_small : (u : UnaryTree) → test_size (unary_kept u) + 1 ≤ 4 * length (unary_text u)
  unary_small (Plain p) = prim_small p
  unary_small (Negated p) = omega (arith, prim_small p)

  prim_small : (p : PrimTree) → test_size (prim_kept p) + 1 ≤ 4 * length (prim_text p)
  prim_small (OfFact f) = fact_small f
  prim_small (OfPath a) = omega (arith, alt_small a, length-append (alt_text a) (AMark ParenR ∷ []))
  prim_small (OfTests o) = omega (arith, or_small o, length-append (or_text o) (AMark ParenR ∷ []))

label_small : (l : Option (List ℕ)) (c : TestTerm) (n : ℕ) → test_size c + 1 ≤ n → test_size (with_label_kept l c) + 1 ≤ n + 4 * length (label_text l)
label_small None c n h = omega (arith, h)
label_small (Some w) c n h = omega (arith, h)

tests_small : (o : Option OrTree) (c : TestTerm) (n : ℕ) → test_size c + 1 ≤ n → test_size (with_tests_kept o c) + 1 ≤ n + 4 * length (tests_text o)
tests_small None c n h = omega (arith, h)
tests_small (Some o) c n h = omega (arith, h, or_small o, length-append (or_text o) (AMark BraceR ∷ []))

pattern_small : (p : PatternTree) → test_size (with_tests_kept p.tests (with_label_kept p.label node_test)) + 1 ≤ 4 * length (pattern_text p)
pattern_small p =
    let label = label_small p.label node_test 4 (omega arith) in
    let tests = tests_small p.tests (with_label_kept p.label node_test) (4 + 4 * length (label_text p.label)) label in
    let inside = length-append (name_text p.name) (label_text p.label ++ (tests_text p.tests ++ AMark ParenR ∷ [])) in
    let behind_name = length-append (label_text p.label) (tests_text p.tests ++ AMark ParenR ∷ []) in
    let behind_label = length-append (tests_text p.tests) (AMark ParenR ∷ []) in
    omega (arith, tests, inside, behind_name, behind_label)

chain_small : (c : ChainTree) → path_size (chain_kept c).path + 1 ≤ 4 * length (chain_text c)
chain_small (OnePattern p) = pattern_small p
chain_small (MorePattern c a p) = omega (arith, chain_small c, alt_small a, pattern_small p, length-append (chain_text c) (AMark DashSlash ∷ (alt_text a ++ AMark SlashDash ∷ pattern_text p)), length-append (alt_text a) (AMark SlashDash ∷ pattern_text p))

pub query_small : (q : QueryTree) → path_size (chain_kept q.chain).path ≤ 4 * length (query_text q)
query_small q = omega (arith, chain_small q.chain, length-append (chain_text q.chain) (graph_text q.graph_name))
