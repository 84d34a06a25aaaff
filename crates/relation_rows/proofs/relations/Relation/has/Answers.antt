use Rattle.std.proofs.Common.{List, SFits, w64, to_z-of_z, refl, sym, ◌∙◌, subst, true≢false}
use Rattle.relation_rows.specs.declared.rows.Row.{Row}
use Rattle.relation_rows.specs.Rows.{RowsHold}
use Rattle.relation_rows.proofs.Having.{found, not_yet, nowhere, formed_at}
use Rattle.relation_rows.proofs.relations.Relation.has.Goals as goal

pub is_in_band-requires : goal.is_in_band-requires
is_in_band-requires c = formed_at c.self.inside.rows.items c.deref.result.now c.rows_of_key-row-items.result.now _ _ c.loop-row.row-index _ c.rows_of_key-row-items.ensures.rows c.deref.ensures.value (c.self.invariant).formed c.loop-row-test.true

pub returns-then-is_in_band : goal.returns-then-is_in_band
returns-then-is_in_band c =
    let t : SFits w64 c.args.t = c.ranges.t in
    let u : SFits w64 c.args.u = c.ranges.u in
    let told = simp to_z-of_z at c.is_in_band.ensures in (
      λ h. subst (λ (v : List Row). RowsHold v (record { object = c.args.o.0; moment = c.args.t }) (record { object = c.args.p.0; moment = c.args.u })) (c.deref.ensures.value ∙ c.self.view_is)
          (found c.deref.result.now c.rows_of_key-row-items.result.now c.args.o.0 c.args.p.0 c.args.t c.args.u c.loop-row.row-index _ c.rows_of_key-row-items.ensures.rows c.loop-row-test.true (told.0 c.if-is_in_band.true)),
      λ h. refl,
    )

pub loop-row-preserved : goal.loop-row-preserved
loop-row-preserved c = not_yet c.rows_of_key-row-items.result.now _ _ c.loop-row.row-index _ c.loop-row-test.true c.loop-row.invariant (λ h. true≢false (sym (c.is_in_band.ensures.1 h) ∙ c.if-is_in_band.false))

pub returns : goal.returns
returns c =
    let t : SFits w64 c.args.t = c.ranges.t in
    let u : SFits w64 c.args.u = c.ranges.u in
    let none = simp to_z-of_z at c.loop-row.invariant in (
      λ h. absurd (true≢false (sym h)),
      λ h. absurd (nowhere c.deref.result.now c.rows_of_key-row-items.result.now c.args.o.0 c.args.p.0 c.args.t c.args.u c.loop-row.row-index c.rows_of_key-row-items.ensures.rows c.loop-row-test.false none
          (subst (λ (v : List Row). RowsHold v (record { object = c.args.o.0; moment = c.args.t }) (record { object = c.args.p.0; moment = c.args.u })) (sym (c.deref.ensures.value ∙ c.self.view_is)) h)),
    )
