use Rattle.std.proofs.Common.{refl, sym, subst, ◌∙◌}
use Rattle.band_normal.specs.declared.band.Band.{Band}
use Rattle.band_normal.specs.Rows.{Continues}
use Rattle.band_normal.proofs.Prolonging.{not_true}
use Rattle.band_normal.proofs.LinkSteps.{some_one}
use Rattle.band_normal.proofs.links.led.Goals as goal

pub returns-then-continues-clause-found : goal.returns-then-continues-clause-found
returns-then-continues-clause-found c = c.if-continues.ensures.0 refl

pub returns-else-continues-clause-none : goal.returns-else-continues-clause-none
returns-else-continues-clause-none c = λ b e k. not_true c.if-continues.ensures (subst (λ (v : Band). Continues v c.args.strip) (some_one b c.in_ok-row.row (sym e ∙ c.in_ok-row.was)) k)
