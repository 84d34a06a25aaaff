use Rattle.std.proofs.Common.{◌≡◌, ◌<◌, ◌+ℤ◌, pos, ◌<ℤ◌, ◌≤ℤ◌, int_lt, length, SFits, w64, sym, arith}
use Rattle.std.proofs.lemmas.Bool.{ltb-true}
use Rattle.std.proofs.lemmas.Int.{ints, to_z-of_z}
use Rattle.interval_set.proofs.Apart.{all_later, all_earlier}
use Rattle.interval_set.proofs.places.are_apart_from.Goals as goal

pub returns-in-Some-clause-apart : goal.returns-in-Some-clause-apart
returns-in-Some-clause-apart g c = λ is.
    let fits : SFits w64 c.args.t = c.ranges.t in
    let run = g.T.Spanned.as_run in
    let item = c.in-Some.item.now in
    let test : c.begins_apart_after.result ≡ int_lt (c.args.t +ℤ pos 1) (run item).span.from = simp to_z-of_z at (rw c.span.ensures at c.begins_apart_after.ensures) in
    let within : c.args.place < length c.args.items.now = ltb-true c.args.place (length c.args.items.now) (sym c.in-Some.ensures.lookup.0) in
    let late : (c.args.t +ℤ pos 1) <ℤ (run item).span.from = grind (arith, ints) in
    all_later run c.args.items.now c.args.place item (c.args.t +ℤ pos 1) c.requires within c.in-Some.ensures.lookup.1 late

pub returns-in-Some-clause-near : goal.returns-in-Some-clause-near
returns-in-Some-clause-near g c = λ is.
    let fits : SFits w64 c.args.t = c.ranges.t in
    let run = g.T.Spanned.as_run in
    let item = c.in-Some.item.now in
    let test : c.begins_apart_after.result ≡ int_lt (c.args.t +ℤ pos 1) (run item).span.from = simp to_z-of_z at (rw c.span.ensures at c.begins_apart_after.ensures) in
    let within : c.args.place < length c.args.items.now = ltb-true c.args.place (length c.args.items.now) (sym c.in-Some.ensures.lookup.0) in
    let early : (run item).span.from ≤ℤ (c.args.t +ℤ pos 1) = grind (arith, ints) in
    all_earlier run c.args.items.now c.args.place item (c.args.t +ℤ pos 1) c.requires within c.in-Some.ensures.lookup.1 early
