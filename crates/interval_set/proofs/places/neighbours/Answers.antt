use Rattle.std.proofs.Common.{rules, SFits, w64, map, length, ◌≤◌, arith}
use Rattle.std.proofs.lemmas.Int.{to_z-of_z}
use Rattle.std.proofs.lemmas.List.{length-map}
use Rattle.interval_set.proofs.Around.{neighbours_from, begun_before}
use Rattle.interval_set.proofs.places.neighbours.Goals as goal

pub begun_from-requires-clause-begun : goal.begun_from-requires-clause-begun
begun_from-requires-clause-begun g c =
    let runs = map g.T.Spanned.as_run c.args.items.now in
    let from_fits : SFits w64 c.from.result = search rules in
    let to_fits : SFits w64 c.to.result = search rules in
    let first = rw c.from.ensures.value at (simp to_z-of_z at c.ended_apart_before-first.ensures) in
    simp to_z-of_z (rw c.to.ensures.value (begun_before runs c.args.s c.ended_apart_before-first.result c.requires c.from.ensures.ordered first.apart))

pub returns-clause-places : goal.returns-clause-places
returns-clause-places g c =
    let runs = map g.T.Spanned.as_run c.args.items.now in
    let from_fits : SFits w64 c.from.result = search rules in
    let to_fits : SFits w64 c.to.result = search rules in
    let first = rw c.from.ensures.value at (simp to_z-of_z at c.ended_apart_before-first.ensures) in
    let last = rw c.to.ensures.value at (simp to_z-of_z at c.begun_from.ensures) in
    let first_within : c.ended_apart_before-first.result ≤ length runs = omega (arith, length-map c.args.items.now g.T.Spanned.as_run) in
    let last_within : c.begun_from.result ≤ length runs = omega (arith, length-map c.args.items.now g.T.Spanned.as_run) in
    neighbours_from runs c.args.s c.ended_apart_before-first.result c.begun_from.result c.requires c.from.ensures.ordered first_within last_within first.apart first.near last.near last.apart
