-- What is left of a relation between some sources and some targets has no more rows than a relation with the same pairs as the whole.
use Rattle.std.proofs.Common.{◌≤◌, ℕ, List, length, Result, Ok, Err, IfOk, refl, arith}
use Rattle.itpg_base.specs.declared.object_number.ObjNo.{ObjNo}
use Rattle.itpg_base.specs.Lists.{Among}
use Rattle.itpg_base.specs.Points.{Point}
use Rattle.band_normal.specs.Bands.{end_at}
use Rattle.relation_rows.specs.declared.rows.Row.{Row}
use Rattle.relation_rows.specs.Rows.{between, RowsHold, RowBefore, NormalRows, Fits}
use Rattle.relation_rows.specs.Relations.{IsOneOf, IsBetween}
use Rattle.relation_rows.proofs.Alike.{row_alike, in_relation, row_start}
use Rattle.relation_rows.proofs.Listed.{Listed, listed_of, carried, ordered_fewer, row_apart}

module _ (rows : List Row) (sources targets : List ObjNo) (kept : List Row) (n : NormalRows (IsBetween rows sources targets) kept) where
  abbrev Kept : ℕ → ℕ → Type 0
  Kept o p = IsOneOf sources o × IsOneOf targets p

  key_kept : (r : Row) → Among kept r → Kept r.source.0 r.target.0
  key_kept r i =
      let row = n.each r i in
      let x : Point = record { object = r.source.0; moment = r.band.from } in
      let y : Point = record { object = r.target.0; moment = end_at r.band.low r.band.from } in
      let h = in_relation (IsBetween rows sources targets) r x y row (record { source = refl; target = refl; pair = row_start (between (IsBetween rows sources targets) r.source.0 r.target.0) r.band row }) in
      (h.source, h.target)

  kept_listed : Listed (RowsHold rows) Kept kept
  kept_listed = record {
    whole = λ x y k h. n.whole x y (record { held = h; source = k.0; target = k.1 });
    keys = key_kept;
    once = n.once;
    each = λ r i.
        let k = key_kept r i in
        row_alike (between (IsBetween rows sources targets) r.source.0 r.target.0) (between (RowsHold rows) r.source.0 r.target.0)
        (λ t v h. h.held) (λ t v h. record { held = h; source = k.0; target = k.1 }) r.band (n.each r i);
    order = n.order;
  }

  kept_fewer : (limit : ℕ) → Fits (RowsHold rows) limit → length kept ≤ limit
  kept_fewer limit fits =
      let whole = fits.1 in
      let fewer = ordered_fewer RowBefore row_apart kept fits.0 n.order whole.order (λ r i. carried (RowsHold rows) Kept (λ o p. Unit {0}) kept fits.0 kept_listed (listed_of (RowsHold rows) fits.0 whole) r i tt) in
      let few = fits.2 in
      omega (arith, fewer, few)

pub cut_few : {E : Type 0} (rows : List Row) (sources targets : List ObjNo) (result : Result (List Row) E) → IfOk result (λ kept. NormalRows (IsBetween rows sources targets) kept)
    → IfOk result (λ kept. (limit : ℕ) → Fits (RowsHold rows) limit → length kept ≤ limit)
cut_few rows sources targets (Ok kept) n = kept_fewer rows sources targets kept n
cut_few rows sources targets (Err e) n = tt
