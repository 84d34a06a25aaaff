use Rattle.std.proofs.Common.{◌≡◌, List, None, length}
use Rattle.script_lex.specs.Lines.{Placed, AreTokens}
use Rattle.edit_reader.proofs.LabelLists.{AreNames}
use Rattle.edit_reader.proofs.parts.Parts.labels.Given as goal

abbrev pub invariant-loop-place : goal.invariant-loop-place
invariant-loop-place l = (length l.names ≡ 8) × ((tokens : List Placed) → AreTokens l.fn.self.line.now l.fn.self.at tokens None → AreNames l.fn.self.line.now tokens l.names l.place l.parts.line.now l.parts.at)
