use Rattle.std.proofs.Common.{take, drop, refl, sym, ◌∙◌, take-append-drop}
use Rattle.itpg_base.proofs.Lists.{take_rest}
use Rattle.itpg_base.proofs.Pieces.{some_none, some_more}
use Rattle.itpg_base.proofs.std_streams.StdSinkSink.write.Goals as goal

pub loop-rest-init : goal.loop-rest-init
loop-rest-init g c = (some_none _ _, refl, refl)

pub loop-rest-preserved : goal.loop-rest-preserved
loop-rest-preserved g c =
    (some_more _ _ _ _ (take c.in-Ok.count c.loop-rest.rest.now) (drop c.in-Ok.count c.loop-rest.rest.now) c.loop-rest.invariant.0 (c.loop-rest.invariant.1 ∙ sym (take-append-drop c.in-Ok.count c.loop-rest.rest.now)) c.in-Ok.ensures.bytes, sym (take_rest c.loop-rest.rest.now c.in-Ok.count), c.loop-rest.invariant.2)
