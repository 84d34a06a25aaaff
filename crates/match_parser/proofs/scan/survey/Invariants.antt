use Rattle.std.proofs.Common.{◌-◌, length}
use Rattle.match_parser.specs.Scans.{HasSeen}
use Rattle.match_parser.proofs.scan.survey.Given as goal

abbrev pub invariant-loop-token : goal.invariant-loop-token
invariant-loop-token l = HasSeen l.text l.look

abbrev pub decreases-loop-token : goal.decreases-loop-token
decreases-loop-token l = length l.text - l.look.at
