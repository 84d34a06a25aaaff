use Rattle.std.proofs.Common.{◌≡◌, ◌<◌, Some, None, length, refl, subst, arith}
use Rattle.std.specs.Prelude.{slice_get}
use Rattle.std.proofs.lemmas.Option.{slice_get_read, slice_get_past}
use Rattle.itpg_base.specs.Words.{Word}
use Rattle.itpg_base.specs.LabelSets.{IsNext}
use Rattle.itpg_base.proofs.Labels.{AreBlock, no_block, more_block, label_at, too_many, taken_all, taken_none}
use Rattle.itpg_base.proofs.label_set.LabelSet.new.Goals as goal

pub loop-place-init : goal.loop-place-init
loop-place-init c =
    let xs = c.args.labels.now in
    let none : slice_get xs (length xs) ≡ None = slice_get_past xs (length xs) (omega arith) in
    no_block xs _ c.next_place-place.result (cc (c.default-names.ensures)) (subst (λ o. IsNext xs o (slice_get xs c.next_place-place.result)) none c.next_place-place.ensures)

pub returns-then-count-eq-MAX_LABELS-clause-none : goal.returns-then-count-eq-MAX_LABELS-clause-none
returns-then-count-eq-MAX_LABELS-clause-none c = λ none set is same.
    let xs = c.args.labels.now in
    let i = c.loop-place.place in
    let at = label_at xs i c.loop-place-test.true in
    too_many xs c.loop-place.names i at.0 set (subst (λ n. AreBlock xs c.loop-place.names n i) c.if-count-eq-MAX_LABELS.true c.loop-place.invariant) at.1 is same

pub loop-place-preserved : goal.loop-place-preserved
loop-place-preserved c =
    let xs = c.args.labels.now in
    let x : Word = c.index-labels-place.result in
    let at : slice_get xs c.loop-place.place ≡ Some x = slice_get_read xs (length xs) c.loop-place.place x refl c.loop-place-test.true c.index-labels-place.is in
    let few = c.loop-place.invariant.few in
    let other = c.if-count-eq-MAX_LABELS.false in
    let room : c.loop-place.count < 8 = omega (arith, few, other) in
    more_block xs c.loop-place.names c.loop-place.count c.loop-place.place c.next_place-place-in-loop-place.result x c.loop-place.invariant room at
    (subst (λ o. IsNext xs o (slice_get xs c.next_place-place-in-loop-place.result)) at c.next_place-place-in-loop-place.ensures)

pub returns-then-count-eq0-clause-none : goal.returns-then-count-eq0-clause-none
returns-then-count-eq0-clause-none c = λ none set is same.
    taken_none c.args.labels.now c.loop-place.names c.loop-place.place set (subst (λ n. AreBlock c.args.labels.now c.loop-place.names n c.loop-place.place) c.if-count-eq0.true c.loop-place.invariant) c.loop-place-test.false is same

pub returns-clause-some : goal.returns-clause-some
returns-clause-some c = taken_all c.args.labels.now c.loop-place.names c.loop-place.count c.loop-place.place c.loop-place.invariant c.loop-place-test.false
