use Rattle.std.proofs.Common.{refl}
use Rattle.relation_rows.proofs.ClearRows.{clear_settled}
use Rattle.relation_rows.proofs.Settling.{apart_settled}
use Rattle.relation_rows.proofs.settle.are_normal.Goals as goal

pub returns-then-stand_clear : goal.returns-then-stand_clear
returns-then-stand_clear c = λ e. clear_settled c.args.part.now c.requires (c.if-stand_clear.ensures refl)

pub returns : goal.returns
returns c = λ e. apart_settled c.args.part.now c.requires (c.stand_apart.ensures e)
