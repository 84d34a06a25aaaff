use Rattle.std.proofs.Common.{◌≡◌, ◌≤◌, ◌+◌, ℕ, suc, length, subst, arith}
use Rattle.standing_queries.specs.Touched.{AreTouchedFirst}
use Rattle.standing_queries.proofs.Touching.{touched_next, touched_length, touched_all}
use Rattle.standing_queries.proofs.watches.Watches.touched.Goals as goal

pub touch_at-requires : goal.touch_at-requires
touch_at-requires c =
    let as_many = touched_length c.args.touch.now c.loop-i.i c.args.self.now c.loop-i.self c.loop-i.invariant in
    let end = c.len-i-end.ensures.count in
    let test = c.loop-i-test.true in
    omega arith

pub loop-i-preserved : goal.loop-i-preserved
loop-i-preserved c =
    let next : suc c.loop-i.i ≡ c.loop-i.i + 1 = omega arith in
    subst (λ (n : ℕ). AreTouchedFirst n c.args.touch.now c.args.self.now c.touch_at.new.self) next
    (touched_next c.args.touch.now c.loop-i.i c.args.self.now c.loop-i.self c.touch_at.new.self c.loop-i.invariant c.touch_at.ensures)

pub returns : goal.returns
returns c =
    let end = c.len-i-end.ensures.count in
    let test = c.loop-i-test.false in
    let most : length c.args.self.now ≤ c.loop-i.i = omega arith in
    touched_all c.args.touch.now c.loop-i.i c.args.self.now c.loop-i.self most c.loop-i.invariant
