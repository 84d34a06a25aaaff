use Rattle.std.proofs.Common.{◌≡◌, ◌∙◌, ap, []}
use Rattle.std.specs.Global.{Global}
use Rattle.std.specs.declared.vec.Vec.{Vec}
use Rattle.itpg_base.specs.declared.object_number.ObjNo.{ObjNo}
use Rattle.source_rows.specs.Found.{Found}
use Rattle.source_rows.proofs.Gaining.{item_of, ends_done, ends_edge_step, ends_node_step}
use Rattle.source_rows.proofs.reach.Found.add_ends.Goals.{in-Some+in_ok-add+in_ok-add-2, in_default}
use Rattle.source_rows.proofs.reach.Found.add_ends.Goals as goal

pub ends-requires : goal.ends-requires
ends-requires c =
    let list = c.deref-object-items.result.now in
    let e : list ≡ c.args.self.now.fresh = c.deref-object-items.ensures.value ∙ ap (λ (v : Vec ObjNo Global). v.items) (c.replace-last.ensures.value) ∙ ap (λ (f : Found). f.fresh) c.self.view_is in
    let has = item_of list c.args.self.now.fresh c.loop-object.object-index (record { 0 = 0 }) e (c.loop-object-test.true) in
    c.requires.stand _ has

pub loop-object-preserved : goal.loop-object-preserved
loop-object-preserved c =
    let list = c.deref-object-items.result.now in
    let i = c.loop-object.object-index in
    let e : list ≡ c.args.self.now.fresh = c.deref-object-items.ensures.value ∙ ap (λ (v : Vec ObjNo Global). v.items) (c.replace-last.ensures.value) ∙ ap (λ (f : Found). f.fresh) c.self.view_is in
    let stands = c.requires.stand _ (item_of list c.args.self.now.fresh i (record { 0 = 0 }) e (c.loop-object-test.true)) in
    elim c.match-ends.branch [
      | in-Some+in_ok-add+in_ok-add-2 w ↦
          ends_edge_step c.args.graph.now list i (record { 0 = 0 }) w.in-Some.source w.in-Some.target (record c.args.self.now { fresh = [] }) c.loop-object.self w.add.new.self w.add-in-Some.new.self c.match-ends.self
          (c.loop-object-test.true) stands (w.in-Some.ensures.ends) c.loop-object.invariant (w.in_ok-add.ensures) (w.in_ok-add-2.ensures) w.self-is
      | in_default w ↦
          ends_node_step c.args.graph.now list i (record { 0 = 0 }) (record c.args.self.now { fresh = [] }) c.loop-object.self c.match-ends.self
          (c.loop-object-test.true) (w.in_default.ensures.ends) c.loop-object.invariant w.self-is
    ]

pub returns : goal.returns
returns c =
    let list = c.deref-object-items.result.now in
    let e : list ≡ c.args.self.now.fresh = c.deref-object-items.ensures.value ∙ ap (λ (v : Vec ObjNo Global). v.items) (c.replace-last.ensures.value) ∙ ap (λ (f : Found). f.fresh) c.self.view_is in
    ends_done c.args.graph.now list c.args.self.now.fresh c.loop-object.object-index c.args.self.now c.loop-object.self e (c.loop-object-test.false) c.loop-object.invariant
