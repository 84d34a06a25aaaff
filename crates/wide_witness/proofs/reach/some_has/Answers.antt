use Rattle.std.proofs.Common.{subst, sym, refl}
use Rattle.itpg_base.specs.Lists.{Among}
use Rattle.itpg_base.proofs.Lists.{among_at}
use Rattle.relation_rows.specs.declared.times.OneRow.{OneRow}
use Rattle.wide_witness.proofs.reach.some_has.Goals as goal

pub returns-then-is_within : goal.returns-then-is_within
returns-then-is_within c = λ _ y h. (
  c.other-item.result,
  subst (λ (v : OneRow). Among c.args.runs.now v) (sym c.other-item.is) (among_at c.args.runs.now c.loop-other.other-index c.other-item.result c.loop-other-test.true),
  c.if-is_within.ensures refl y h,
)
