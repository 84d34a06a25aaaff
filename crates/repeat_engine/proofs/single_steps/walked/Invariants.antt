use Rattle.repeat_engine.specs.GrownUnions.{IsLatestStep}
use Rattle.repeat_engine.proofs.single_steps.walked.Given as goal

abbrev pub invariant-loop-step : goal.invariant-loop-step
invariant-loop-step g l =
    let m = g.C.Composed in
    IsLatestStep (m.alike l.c) (m.algebra l.c) (m.means l.x) (m.own l.c) (m.fits l.c) m.means l.k l.step l.last
