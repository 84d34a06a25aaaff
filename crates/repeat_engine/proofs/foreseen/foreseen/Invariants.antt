use Rattle.repeat_engine.specs.Powers.{union_of_powers}
use Rattle.repeat_engine.proofs.Foreseeing.{StandsIn}
use Rattle.repeat_engine.proofs.foreseen.foreseen.Given as goal

abbrev pub invariant-loop-member : goal.invariant-loop-member
invariant-loop-member g l =
    let m = g.C.Composed in
    StandsIn (λ k. m.fits l.fn.c (union_of_powers (m.algebra l.fn.c) (m.means l.fn.x) k)) l.fn.n l.member

abbrev pub decreases-loop-member : goal.decreases-loop-member
decreases-loop-member g l = l.member
