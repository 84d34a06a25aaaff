use Rattle.std.proofs.Common.{refl, sym, subst, ℤ, ◌≡◌, ◌≤ℤ◌, arith, SFits, w64, to_z, of_z, to_z-of_z, take, ◌+◌}
use Rattle.std.proofs.lemmas.Int.{ints}
use Rattle.itpg_base.specs.Lists.{Among}
use Rattle.relation_rows.specs.declared.rows.Row.{Row}
use Rattle.relation_rows.proofs.Counting.{last_more, stretch_apart}
use Rattle.relation_rows.proofs.stretches.stretch_len.Goals as goal

pub returns-then-is_apart-clause-apart : goal.returns-then-is_apart-clause-apart
returns-then-is_apart-clause-apart c = stretch_apart _ _ _ _ c.requires.order c.loop-i-test.true c.loop-i.invariant (c.if-is_apart.ensures.0 refl)

pub loop-i-preserved : goal.loop-i-preserved
loop-i-preserved c =
    let fits : SFits w64 c.last_with-last.result = omega (arith, ints) in
    let e : to_z w64 (of_z w64 c.last_with-last.result) ≡ c.last_with-last.result = to_z-of_z fits in
    subst (λ (v : ℤ). (r : Row) → Among (take (c.loop-i.i + 1) c.args.rows.now) r → r.band.to ≤ℤ v) (sym e)
    (last_more c.args.rows.now c.loop-i.i _ (to_z w64 c.loop-i.last-bits) c.last_with-last.result c.loop-i-test.true c.loop-i.invariant c.last_with-last.ensures.old c.last_with-last.ensures.row)
