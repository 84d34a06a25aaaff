use Rattle.std.proofs.Common.{refl}
use Rattle.wide_witness.proofs.Walking.{rest_has, part_has}
use Rattle.wide_witness.proofs.reach.is_had.Goals as goal

pub returns-then-some_has : goal.returns-then-some_has
returns-then-some_has c = λ _ y h. rest_has c.args.all.now _ _ c.split_at.ensures.back y (c.if-some_has.ensures refl y h)

pub returns : goal.returns
returns c = λ yes y h. part_has c.args.all.now c.split_at.result.0.now _ _ _ c.split_at.ensures.front y (c.some_has-2.ensures yes y h)
