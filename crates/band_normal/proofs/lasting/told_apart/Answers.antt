use Rattle.std.proofs.Common.{refl, sym, append-nil, ◌∙◌, ap}
use Rattle.std.specs.Global.{Global}
use Rattle.std.specs.declared.vec.Vec.{Vec}
use Rattle.zone_core.specs.declared.Zone.{Zone}
use Rattle.band_normal.proofs.CutLemmas.{spanning_more}
use Rattle.band_normal.proofs.lasting.told_apart.Goals.{then-lasts+in_ok-push, else-lasts+in_ok-push-2}
use Rattle.band_normal.proofs.lasting.told_apart.Goals as goal

pub loop-zone-preserved : goal.loop-zone-preserved
loop-zone-preserved c = let items = λ (v : Vec Zone Global). v.items in elim c.if-lasts.branch [
  | then-lasts+in_ok-push w ↦ λ t u. spanning_more _ _ _ _ _ _ _ _ _ _ c.loop-zone-test.true c.zone-item.is refl (ap items w.lasting-is ∙ w.in_ok-push.ensures.items) (ap items w.others-is ∙ sym (append-nil _)) c.loop-zone.invariant t u
  | else-lasts+in_ok-push-2 w ↦ λ t u. spanning_more _ _ _ _ _ _ _ _ _ _ c.loop-zone-test.true c.zone-item.is refl (ap items w.lasting-is ∙ sym (append-nil _)) (ap items w.others-is ∙ w.in_ok-push-2.ensures.items) c.loop-zone.invariant t u
]
