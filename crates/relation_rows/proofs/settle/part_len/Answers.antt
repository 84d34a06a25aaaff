use Rattle.std.proofs.Common.{refl, sym, ◌∙◌, subst, ◌≡◌, arith, SFits, w64, to_z, of_z, to_z-of_z, ◌+◌, get_or}
use Rattle.std.proofs.lemmas.Int.{ints}
use Rattle.relation_rows.proofs.Keys.{key_is}
use Rattle.relation_rows.proofs.Settling.{AreOfPart, one_of_part, later_key, later_departure, key_of_first, not_of_key, no_row, part_keys, all_keys}
use Rattle.relation_rows.proofs.settle.part_len.Goals as goal
use Rattle.relation_rows.proofs.settle.part_len.Goals.{then-i-gt0+else-not-is_of_key+else-is_apart, else-i-gt0}

pub returns-then-not-is_of_key-clause-apart : goal.returns-then-not-is_of_key-clause-apart
returns-then-not-is_of_key-clause-apart c =
    later_key c.args.rows.now c.loop-i.i no_row c.args.first.now _ c.requires.order c.loop-i-test.true c.requires.first c.loop-i.invariant
    (not_of_key (get_or c.args.rows.now c.loop-i.i no_row) _ _ (sym c.is_of_key.ensures ∙ c.if-not-is_of_key.true))

pub returns-then-is_apart-clause-apart : goal.returns-then-is_apart-clause-apart
returns-then-is_apart-clause-apart c =
    later_departure c.args.rows.now c.loop-i.i no_row c.args.first.now _ c.requires.order c.loop-i-test.true c.requires.first c.loop-i.invariant
    (key_is (get_or c.args.rows.now c.loop-i.i no_row) _ _ (sym c.is_of_key.ensures ∙ c.if-not-is_of_key.false)) (c.if-is_apart.ensures.0 refl)

pub returns-then-not-is_of_key-clause-key : goal.returns-then-not-is_of_key-clause-key
returns-then-not-is_of_key-clause-key c = part_keys c.args.rows.now c.loop-i.i c.args.first.now _ c.loop-i.invariant

pub returns-then-is_apart-clause-key : goal.returns-then-is_apart-clause-key
returns-then-is_apart-clause-key c = part_keys c.args.rows.now c.loop-i.i c.args.first.now _ c.loop-i.invariant

pub returns-clause-key : goal.returns-clause-key
returns-clause-key c = all_keys c.args.rows.now c.loop-i.i c.args.first.now _ c.loop-i-test.false c.loop-i.invariant

pub loop-i-preserved : goal.loop-i-preserved
loop-i-preserved c =
    let fits : SFits w64 c.last_with-last.result = omega (arith, ints) in
    let e : to_z w64 (of_z w64 c.last_with-last.result) ≡ c.last_with-last.result = to_z-of_z fits in
    subst (AreOfPart c.args.rows.now (c.loop-i.i + 1) c.args.first.now) (sym e)
    (one_of_part c.args.rows.now c.loop-i.i no_row c.args.first.now _ c.last_with-last.result c.loop-i-test.true c.loop-i.invariant c.last_with-last.ensures.old c.last_with-last.ensures.row
    (elim c.if-i-gt0.branch [
      | then-i-gt0+else-not-is_of_key+else-is_apart w ↦ key_is (get_or c.args.rows.now c.loop-i.i no_row) _ _ (sym w.is_of_key.ensures ∙ w.if-not-is_of_key.false)
      | else-i-gt0 w ↦ let none = w.if-i-gt0.false in key_of_first c.args.rows.now c.loop-i.i no_row c.args.first.now (omega (arith, none)) c.requires.first
    ]))
