use Rattle.std.proofs.Common.{sym, ◌∙◌}
use Rattle.std.proofs.lemmas.Option.{slice_get_within}
use Rattle.relation_rows.proofs.Listed.{key_apart}
use Rattle.relation_rows.proofs.Merged.{key_more, later_scanned}
use Rattle.relation_rows.proofs.Subtracting.{group_some, group_up}
use Rattle.arrivals.proofs.picking.key_count.Goals as goal

pub returns-then-not-is_of_key-clause-some : goal.returns-then-not-is_of_key-clause-some
returns-then-not-is_of_key-clause-some c =
    let rows = c.args.rows.now in
    let first = c.args.first.now in
    group_some rows first c.requires.order c.requires.first c.loop-i.i
    (later_scanned rows first c.requires.order (group_up rows first c.requires.order c.requires.first) c.loop-i.i _ c.loop-i-test.true (sym c.is_of_key.ensures ∙ c.if-not-is_of_key.true))

pub returns-then-not-is_of_key-clause-later : goal.returns-then-not-is_of_key-clause-later
returns-then-not-is_of_key-clause-later c r a h =
    let rows = c.args.rows.now in
    let first = c.args.first.now in
    key_apart _ _ _ _ (later_scanned rows first c.requires.order (group_up rows first c.requires.order c.requires.first) c.loop-i.i _ c.loop-i-test.true (sym c.is_of_key.ensures ∙ c.if-not-is_of_key.true) r a) (sym h.0) (sym h.1)

pub loop-i-preserved : goal.loop-i-preserved
loop-i-preserved c = key_more c.args.rows.now c.args.first.now c.loop-i.i _ c.loop-i-test.true c.loop-i.invariant (sym c.is_of_key.ensures ∙ c.if-not-is_of_key.false)

pub returns-clause-some : goal.returns-clause-some
returns-clause-some c = slice_get_within c.args.rows.now 0 c.args.first.now c.requires.first
