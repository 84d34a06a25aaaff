use Rattle.std.proofs.Common.{◌-◌, length}
use Rattle.match_parser.specs.Gives.{lexemes}
use Rattle.match_parser.proofs.Scanning.{Collected}
use Rattle.match_parser.proofs.scan.collect.Given as goal

abbrev pub invariant-loop-token : goal.invariant-loop-token
invariant-loop-token l = Collected l.text (lexemes l.tokens.items) l.at

abbrev pub decreases-loop-token : goal.decreases-loop-token
decreases-loop-token l = length l.text - l.at
