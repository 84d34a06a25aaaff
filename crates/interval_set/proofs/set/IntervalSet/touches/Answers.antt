use Rattle.std.proofs.Common.{SFits, w64, rules, sym, true≢false}
use Rattle.std.proofs.lemmas.Int.{to_z-of_z}
use Rattle.interval_set.proofs.Asked.{some_held, none_held, iff_trans}
use Rattle.interval_set.proofs.Plain.{runs_of_spans}
use Rattle.interval_set.proofs.set.IntervalSet.touches.Goals as goal

pub next_from-requires : goal.next_from-requires
next_from-requires c = rw c.deref.ensures.value (runs_of_spans c.self.inside.spans.items c.self.invariant)

pub returns-in-Some : goal.returns-in-Some
returns-in-Some c =
    let fits : SFits w64 c.from.result = search rules in
    let next = rw c.from.ensures.value at (simp to_z-of_z at (rw c.deref.ensures.value at c.in-Some.ensures)) in
    let to_fits : SFits w64 c.to.result = search rules in
    let test = rw c.to.ensures.value at (simp to_z-of_z at c.begins_by.ensures) in
    rw (← c.self.view_is) (iff_trans test (some_held c.self.inside.spans.items c.args.s c.from.ensures.ordered c.in-Some.span.now next))

pub returns-in-None : goal.returns-in-None
returns-in-None c =
    let fits : SFits w64 c.from.result = search rules in
    let next = rw c.from.ensures.value at (simp to_z-of_z at (rw c.deref.ensures.value at c.in-None.ensures)) in
    rw (← c.self.view_is) (
      λ h. absurd (true≢false (sym h)),
      λ h. absurd (none_held c.self.inside.spans.items c.args.s.from h.0 next h.1.begun h.2),
    )
