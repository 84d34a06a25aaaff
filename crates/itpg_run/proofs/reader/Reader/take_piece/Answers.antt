use Rattle.std.proofs.Common.{◌≡◌, ◌-◌, ◌++◌, min, length, take, refl, ◌∙◌, rules, arith}
use Rattle.itpg_run.proofs.Kept.{keeps}
use Rattle.itpg_run.proofs.Feeding.{feeds_piece}
use Rattle.itpg_run.proofs.reader.Reader.take_piece.Goals as goal

pub returns-in-Ok-clause-fed : goal.returns-in-Ok-clause-fed
returns-in-Ok-clause-fed c = λ held.
    let line = c.args.self.now.line.items in
    let piece = c.args.piece.now in
    let added : c.extend_from_slice.new.self.items ≡ line ++ take c.min.result piece = search rules in
    let room : c.min.result ≡ min (65538 - length line) (length piece) = omega arith in
    feeds_piece held _ _ piece c.requires refl refl refl refl (added ∙ keeps line piece c.min.result c.args.self.now.short room)
