use Rattle.std.proofs.Common.{◌+◌, ◌*◌, length}
use Rattle.path_ast.specs.Terms.{path_term, test_term}
use Rattle.match_parser.specs.Gives.{lexemes}
use Rattle.match_parser.proofs.Rules.{AltSoFar, SeqSoFar, OrSoFar, AndSoFar}
use Rattle.match_parser.proofs.paths_and_tests.+paths_and_tests.Given as goal

abbrev pub decreases-alt : goal.decreases-alt
decreases-alt l = 5 * length (lexemes l.tokens.now) + 3

abbrev pub decreases-seq : goal.decreases-seq
decreases-seq l = 5 * length (lexemes l.tokens.now) + 2

abbrev pub decreases-rep : goal.decreases-rep
decreases-rep l = 5 * length (lexemes l.tokens.now) + 1

abbrev pub decreases-atom : goal.decreases-atom
decreases-atom l = 5 * length (lexemes l.tokens.now)

abbrev pub decreases-group : goal.decreases-group
decreases-group l = 5 * length (lexemes l.tokens.now) + 4

abbrev pub decreases-asked : goal.decreases-asked
decreases-asked l = 5 * length (lexemes l.tokens.now)

abbrev pub decreases-tests : goal.decreases-tests
decreases-tests l = 5 * length (lexemes l.tokens.now) + 4

abbrev pub decreases-or : goal.decreases-or
decreases-or l = 5 * length (lexemes l.tokens.now) + 3

abbrev pub decreases-and : goal.decreases-and
decreases-and l = 5 * length (lexemes l.tokens.now) + 2

abbrev pub decreases-unary : goal.decreases-unary
decreases-unary l = 5 * length (lexemes l.tokens.now) + 1

abbrev pub decreases-prim : goal.decreases-prim
decreases-prim l = 5 * length (lexemes l.tokens.now)

abbrev pub invariant-alt-loop-tail : goal.invariant-alt-loop-tail
invariant-alt-loop-tail l = AltSoFar (lexemes l.fn.tokens) (lexemes l.rest) (path_term l.path)

abbrev pub decreases-alt-loop-tail : goal.decreases-alt-loop-tail
decreases-alt-loop-tail l = length (lexemes l.rest)

abbrev pub invariant-seq-loop-tail : goal.invariant-seq-loop-tail
invariant-seq-loop-tail l = SeqSoFar (lexemes l.fn.tokens) (lexemes l.rest) (path_term l.path)

abbrev pub decreases-seq-loop-tail : goal.decreases-seq-loop-tail
decreases-seq-loop-tail l = length (lexemes l.rest)

abbrev pub invariant-or-loop-tail : goal.invariant-or-loop-tail
invariant-or-loop-tail l = OrSoFar (lexemes l.fn.tokens) (lexemes l.rest) (test_term l.test)

abbrev pub decreases-or-loop-tail : goal.decreases-or-loop-tail
decreases-or-loop-tail l = length (lexemes l.rest)

abbrev pub invariant-and-loop-tail : goal.invariant-and-loop-tail
invariant-and-loop-tail l = AndSoFar (lexemes l.fn.tokens) (lexemes l.rest) (test_term l.test)

abbrev pub decreases-and-loop-tail : goal.decreases-and-loop-tail
decreases-and-loop-tail l = length (lexemes l.rest)
