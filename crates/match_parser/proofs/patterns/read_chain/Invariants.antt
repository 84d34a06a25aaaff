use Rattle.std.proofs.Common.{length}
use Rattle.match_parser.specs.Gives.{lexemes}
use Rattle.match_parser.specs.Views.{chain_view}
use Rattle.match_parser.proofs.Rules.{ChainSoFar}
use Rattle.match_parser.proofs.patterns.read_chain.Given as goal

abbrev pub invariant-loop-tail : goal.invariant-loop-tail
invariant-loop-tail l = ChainSoFar (lexemes l.fn.tokens) (lexemes l.rest) (chain_view l.chain)

abbrev pub decreases-loop-tail : goal.decreases-loop-tail
decreases-loop-tail l = length (lexemes l.rest)
