use Rattle.std.proofs.Common.{◌≡◌, ◌-◌, List, None}
use Rattle.itpg_base.specs.Words.{Word}
use Rattle.script_lex.specs.Lines.{Placed, AreTokens}
use Rattle.edit_reader.proofs.LabelLists.{IsUnderWay}
use Rattle.edit_reader.proofs.parts.Parts.behind_labels.Given as goal

abbrev pub invariant-loop : goal.invariant-loop
invariant-loop l = (l.parts.line.now ≡ l.fn.self.line.now) × ((tokens : List Placed) → AreTokens l.fn.self.line.now l.fn.self.at tokens None → (words : List Word) × IsUnderWay l.fn.self.line.now tokens words (8 - l.counter) l.parts.line.now l.parts.at)
