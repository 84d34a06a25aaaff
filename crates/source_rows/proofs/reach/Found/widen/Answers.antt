use Rattle.std.proofs.Common.{◌≡◌, ◌∙◌, ap, []}
use Rattle.std.specs.Global.{Global}
use Rattle.std.specs.declared.vec.Vec.{Vec}
use Rattle.itpg_base.specs.declared.object_number.ObjNo.{ObjNo}
use Rattle.source_rows.specs.Found.{Found}
use Rattle.source_rows.proofs.Gaining.{gains_step, item_of, next_done}
use Rattle.source_rows.proofs.reach.Found.widen.Goals as goal

pub step_from-requires-clause-stands : goal.step_from-requires-clause-stands
step_from-requires-clause-stands c =
    let list = c.deref-object-items.result.now in
    let e : list ≡ c.args.self.now.fresh = c.deref-object-items.ensures.value ∙ ap (λ (v : Vec ObjNo Global). v.items) (c.replace-last.ensures.value) ∙ ap (λ (f : Found). f.fresh) c.self.view_is in
    let has = item_of list c.args.self.now.fresh c.loop-object.object-index (record { 0 = 0 }) e (c.loop-object-test.true) in
    c.requires.stand _ has

pub loop-object-preserved : goal.loop-object-preserved
loop-object-preserved c =
    gains_step c.args.graph.now c.deref-object-items.result.now c.loop-object.object-index _ (record c.args.self.now { fresh = [] }) c.loop-object.self c.step_from.new.self
    (c.loop-object-test.true) c.loop-object.invariant (c.in_ok-step_from.ensures)

pub returns : goal.returns
returns c =
    let list = c.deref-object-items.result.now in
    let e : list ≡ c.args.self.now.fresh = c.deref-object-items.ensures.value ∙ ap (λ (v : Vec ObjNo Global). v.items) (c.replace-last.ensures.value) ∙ ap (λ (f : Found). f.fresh) c.self.view_is in
    next_done c.args.graph.now list c.args.self.now.fresh c.loop-object.object-index (record c.args.self.now { fresh = [] }) c.loop-object.self e (c.loop-object-test.false) c.loop-object.invariant
