use Rattle.std.proofs.Common.{length, sym, ◌∙◌, ap}
use Rattle.std.proofs.lemmas.Bool.{eqb-true}
use Rattle.path_eval.proofs.Composing.{same_rows, alike_rows}
use Rattle.path_eval.proofs.powers.PowersComposed.same.Goals as goal

pub returns-then-own-other : goal.returns-then-own-other
returns-then-own-other c =
    let s = c.args.self.now in (
      λ h. alike_rows s.ground.now.graph.now s.passed.now c.args.x.now c.args.y.now (c.same.ensures.0 h),
      λ alike. c.same.ensures.1 (same_rows s.ground.now.graph.now s.passed.now c.args.x.now c.args.y.now c.row_count-own.ensures.relation c.row_count-other.ensures.relation alike),
    )

pub returns-else-own-other : goal.returns-else-own-other
returns-else-own-other c =
    let s = c.args.self.now in (
      λ h. absurd (c.if-own-other.false (eqb-true c.row_count-own.result c.row_count-other.result h)),
      λ alike.
          let same = same_rows s.ground.now.graph.now s.passed.now c.args.x.now c.args.y.now c.row_count-own.ensures.relation c.row_count-other.ensures.relation alike in
          absurd (c.if-own-other.false (c.row_count-own.ensures.count ∙ ap length same ∙ sym c.row_count-other.ensures.count)),
    )
