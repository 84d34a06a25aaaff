use Rattle.std.proofs.Common.{pos, ◌<ℤ◌, subst, sym, refl, true≢false, SFits, Vec, Global, w64, rules, arith}
use Rattle.std.proofs.lemmas.Int.{ints, to_z-of_z}
use Rattle.itpg_base.specs.Spans.{Span}
use Rattle.interval_set.proofs.Swept.{IsRest, HasDone, walk_begins, stretch_ordered, own_ends, other_ends, stretch_kept, stretch_left, walk_step, walk_advances}
use Rattle.interval_set.proofs.sweep.combined.Goals as goal
use Rattle.interval_set.proofs.sweep.combined.Goals.{then-keeps+in_ok-append, else-keeps}

pub loop-next-init : goal.loop-next-init
loop-next-init c =
    rw (c.new-spans.ensures.items, c.earlier-next.ensures)
    (walk_begins c.args.operation c.args.own.now c.args.other.now c.begin.result c.begin-2.result c.requires.own c.requires.other c.begin.ensures c.begin-2.ensures)

pub between-requires : goal.between-requires
between-requires c =
    let at = c.in-Some.at in
    let last = c.min-last.result in
    let at_fits : SFits w64 at = search rules in
    let own_fits : SFits w64 c.stretch-in_own.result.1 = search rules in
    let other_fits : SFits w64 c.stretch-in_other.result.1 = search rules in
    let last_fits : SFits w64 last = search rules in
    let own_stretch = simp to_z-of_z at c.stretch-in_own.ensures in
    let other_stretch = simp to_z-of_z at c.stretch-in_other.ensures in
    let is_last = simp to_z-of_z at c.min-last.ensures.value in
    let walking = rw c.in-Some.is at c.loop-next.invariant in
    simp to_z-of_z (stretch_ordered c.args.operation c.args.own.now c.args.other.now c.loop-next.own.now c.loop-next.other.now at last c.loop-next.spans.items walking
    c.stretch-in_own.result.0 c.stretch-in_other.result.0 c.stretch-in_own.result.1 c.stretch-in_other.result.1 own_stretch other_stretch is_last)

pub rest_after-own-requires-clause-ends : goal.rest_after-own-requires-clause-ends
rest_after-own-requires-clause-ends c =
    let at = c.in-Some.at in
    let last = c.min-last.result in
    let at_fits : SFits w64 at = search rules in
    let own_fits : SFits w64 c.stretch-in_own.result.1 = search rules in
    let other_fits : SFits w64 c.stretch-in_other.result.1 = search rules in
    let last_fits : SFits w64 last = search rules in
    let own_stretch = simp to_z-of_z at c.stretch-in_own.ensures in
    let other_stretch = simp to_z-of_z at c.stretch-in_other.ensures in
    let is_last = simp to_z-of_z at c.min-last.ensures.value in
    let walking = rw c.in-Some.is at c.loop-next.invariant in
    simp to_z-of_z (own_ends c.args.operation c.args.own.now c.args.other.now c.loop-next.own.now c.loop-next.other.now at last c.loop-next.spans.items walking
    c.stretch-in_own.result.0 c.stretch-in_other.result.0 c.stretch-in_own.result.1 c.stretch-in_other.result.1 own_stretch other_stretch is_last)

pub rest_after-other-requires-clause-ends : goal.rest_after-other-requires-clause-ends
rest_after-other-requires-clause-ends c =
    let at = c.in-Some.at in
    let last = c.min-last.result in
    let at_fits : SFits w64 at = search rules in
    let own_fits : SFits w64 c.stretch-in_own.result.1 = search rules in
    let other_fits : SFits w64 c.stretch-in_other.result.1 = search rules in
    let last_fits : SFits w64 last = search rules in
    let own_stretch = simp to_z-of_z at c.stretch-in_own.ensures in
    let other_stretch = simp to_z-of_z at c.stretch-in_other.ensures in
    let is_last = simp to_z-of_z at c.min-last.ensures.value in
    let walking = rw c.in-Some.is at c.loop-next.invariant in
    simp to_z-of_z (other_ends c.args.operation c.args.own.now c.args.other.now c.loop-next.own.now c.loop-next.other.now at last c.loop-next.spans.items walking
    c.stretch-in_own.result.0 c.stretch-in_other.result.0 c.stretch-in_own.result.1 c.stretch-in_other.result.1 own_stretch other_stretch is_last)

pub loop-next-smaller : goal.loop-next-smaller
loop-next-smaller c =
    let at = c.in-Some.at in
    let last = c.min-last.result in
    let at_fits : SFits w64 at = search rules in
    let own_fits : SFits w64 c.stretch-in_own.result.1 = search rules in
    let other_fits : SFits w64 c.stretch-in_other.result.1 = search rules in
    let last_fits : SFits w64 last = search rules in
    let own_stretch = simp to_z-of_z at c.stretch-in_own.ensures in
    let other_stretch = simp to_z-of_z at c.stretch-in_other.ensures in
    let is_last = simp to_z-of_z at c.min-last.ensures.value in
    let walking = rw c.in-Some.is at c.loop-next.invariant in
    let bound : at <ℤ pos 9223372036854775808 = omega (arith, ints) in
    let first = simp to_z-of_z at c.resumed.ensures.later in
    let second = simp to_z-of_z at c.resumed-in-Some.ensures.later in
    rw (c.in-Some.is, c.earlier-next-in-Some.ensures) (walk_advances at last c.resumed.result c.resumed-in-Some.result (stretch_ordered c.args.operation c.args.own.now c.args.other.now c.loop-next.own.now c.loop-next.other.now at last c.loop-next.spans.items walking
    c.stretch-in_own.result.0 c.stretch-in_other.result.0 c.stretch-in_own.result.1 c.stretch-in_other.result.1 own_stretch other_stretch is_last) bound first second)

pub loop-next-preserved : goal.loop-next-preserved
loop-next-preserved c =
    let at = c.in-Some.at in
    let last = c.min-last.result in
    let at_fits : SFits w64 at = search rules in
    let own_fits : SFits w64 c.stretch-in_own.result.1 = search rules in
    let other_fits : SFits w64 c.stretch-in_other.result.1 = search rules in
    let last_fits : SFits w64 last = search rules in
    let own_stretch = simp to_z-of_z at c.stretch-in_own.ensures in
    let other_stretch = simp to_z-of_z at c.stretch-in_other.ensures in
    let is_last = simp to_z-of_z at c.min-last.ensures.value in
    let walking = rw c.in-Some.is at c.loop-next.invariant in
    let done : HasDone c.args.operation c.args.own.now c.args.other.now last c.if-keeps.spans.items = elim c.if-keeps.branch [
      | then-keeps+in_ok-append w ↦ let here = simp to_z-of_z at w.between.ensures in
          subst (λ (v : Vec Span Global). HasDone c.args.operation c.args.own.now c.args.other.now last v.items) (sym w.spans-is)
          (stretch_kept c.args.operation c.args.own.now c.args.other.now c.loop-next.own.now c.loop-next.other.now at last c.loop-next.spans.items walking c.stretch-in_own.result.0 c.stretch-in_other.result.0 c.stretch-in_own.result.1 c.stretch-in_other.result.1 own_stretch other_stretch is_last w.append.new.spans.items w.between.result here (w.if-keeps.ensures.0 refl) w.in_ok-append.ensures)
      | else-keeps w ↦
          subst (λ (v : Vec Span Global). HasDone c.args.operation c.args.own.now c.args.other.now last v.items) (sym w.spans-is)
          (stretch_left c.args.operation c.args.own.now c.args.other.now c.loop-next.own.now c.loop-next.other.now at last c.loop-next.spans.items walking c.stretch-in_own.result.0 c.stretch-in_other.result.0 c.stretch-in_own.result.1 c.stretch-in_other.result.1 own_stretch other_stretch is_last (λ k. true≢false (sym (w.if-keeps.ensures.1 k))))
    ] in
    let own_ends = simp to_z-of_z at c.rest_after-own.ensures.ends in
    let own_same = simp to_z-of_z at c.rest_after-own.ensures.same in
    let other_ends = simp to_z-of_z at c.rest_after-other.ensures.ends in
    let other_same = simp to_z-of_z at c.rest_after-other.ensures.same in
    let own_rest : IsRest c.loop-next.own.now last c.rest_after-own.result.now = record { coalesced = c.rest_after-own.ensures.coalesced; ends = own_ends; same = own_same } in
    let other_rest : IsRest c.loop-next.other.now last c.rest_after-other.result.now = record { coalesced = c.rest_after-other.ensures.coalesced; ends = other_ends; same = other_same } in
    let first = simp to_z-of_z at c.resumed.ensures in
    let second = simp to_z-of_z at c.resumed-in-Some.ensures in
    rw c.earlier-next-in-Some.ensures (walk_step c.args.operation c.args.own.now c.args.other.now c.loop-next.own.now c.loop-next.other.now c.rest_after-own.result.now c.rest_after-other.result.now at last c.if-keeps.spans.items
    (stretch_ordered c.args.operation c.args.own.now c.args.other.now c.loop-next.own.now c.loop-next.other.now at last c.loop-next.spans.items walking
    c.stretch-in_own.result.0 c.stretch-in_other.result.0 c.stretch-in_own.result.1 c.stretch-in_other.result.1 own_stretch other_stretch is_last) done walking.own_left walking.other_left own_rest other_rest c.resumed.result c.resumed-in-Some.result first.nothing second.nothing first.later second.later)
