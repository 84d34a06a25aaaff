use Rattle.std.proofs.Common.{◌≡◌, ◌≤◌, ◌+◌, ℕ, suc, length, subst, arith}
use Rattle.source_rows.proofs.Unmet.{AreUnmetFirst, unmet_next, unmet_length, unmet_all}
use Rattle.source_rows.proofs.follows.Follows.touched.Goals as goal

pub touch_at-requires : goal.touch_at-requires
touch_at-requires c =
    let as_many = unmet_length c.args.touched.now c.loop-i.i c.args.self.now c.loop-i.self c.loop-i.invariant in
    let end = c.len-i-end.ensures.count in
    let test = c.loop-i-test.true in
    omega arith

pub loop-i-preserved : goal.loop-i-preserved
loop-i-preserved c =
    let next : suc c.loop-i.i ≡ c.loop-i.i + 1 = omega arith in
    subst (λ (n : ℕ). AreUnmetFirst c.args.touched.now n c.args.self.now c.touch_at.new.self) next
    (unmet_next c.args.touched.now c.loop-i.i c.args.self.now c.loop-i.self c.touch_at.new.self c.loop-i.invariant c.touch_at.ensures)

pub returns : goal.returns
returns c =
    let end = c.len-i-end.ensures.count in
    let test = c.loop-i-test.false in
    let most : length c.args.self.now ≤ c.loop-i.i = omega arith in
    unmet_all c.args.touched.now c.loop-i.i c.args.self.now c.loop-i.self most c.loop-i.invariant
