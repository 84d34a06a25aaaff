-- Rows of a relation that lead objects to themselves one moment later stand free: where two stretches touch they are one row.
use Rattle.std.proofs.Common.{◌≡◌, ◌⊎◌, inl, inr, ℕ, ◌<◌, ℤ, pos, ◌+ℤ◌, ◌-ℤ◌, ◌≤ℤ◌, ◌<ℤ◌, List, [], ◌∷◌, refl, sym, ◌∙◌, ap, subst, arith}
use Rattle.std.proofs.lemmas.Int.{ints, by_lt_z}
use Rattle.itpg_base.specs.Lists.{Among, Ordered}
use Rattle.band_normal.specs.declared.band.End.{End}
use Rattle.band_normal.specs.declared.band.End.TheVariants.{Fixed, Moving}
use Rattle.band_normal.specs.Bands.{end_at}
use Rattle.band_normal.specs.Normal.{IsRun}
use Rattle.relation_rows.specs.declared.rows.Row.{Row}
use Rattle.relation_rows.specs.Rows.{between, InRow, IsRelation, RowBefore, RowsHold}
use Rattle.wide_witness.specs.Along.{LeadOneOn}
use Rattle.wide_witness.specs.Steps.{point}

-- the second row is of a later object, or of the same, and a departure is free between the two
abbrev pub StandFree : Row → Row → Type 0
StandFree r s = (r.source.0 < s.source.0) ⊎ ((r.source.0 ≡ s.source.0) × ((r.band.to +ℤ pos 1) <ℤ s.band.from))

-- ends that agree at a moment and at the one before it agree at the next
pub ends_go_on : (e f : End) (t : ℤ) → end_at e (t -ℤ pos 1) ≡ end_at f (t -ℤ pos 1) → end_at e t ≡ end_at f t → end_at e (t +ℤ pos 1) ≡ end_at f (t +ℤ pos 1)
ends_go_on (Fixed m) (Fixed n) t p q = q
ends_go_on (Fixed m) (Moving k) t p q = absurd (omega (arith, ints, p, q))
ends_go_on (Moving j) (Fixed n) t p q = absurd (omega (arith, ints, p, q))
ends_go_on (Moving j) (Moving k) t p q = omega (arith, ints, q)

module _ (rows : List Row) (is : IsRelation rows) (on : LeadOneOn rows) where
  -- the row leads from each of its departures to the next moment
  leads_next : (r : Row) → Among rows r → (o : ℕ) → r.source.0 ≡ o → (t : ℤ) → r.band.from ≤ℤ t → t ≤ℤ r.band.to → InRow r (point o t) (point o (t +ℤ pos 1))
  leads_next r a o source t from to =
      let l = on r a in
      let low = l.low t from to in
      let high = l.high t from to in
      record { source = source; target = sym l.stays ∙ source; pair = record { from = from; to = to; low = omega (arith, ints, low); high = omega (arith, ints, high) } }

  -- no row begins at the moment after the last departure of one of the same object
  not_touched : (r s : Row) → Among rows r → Among rows s → r.source.0 ≡ s.source.0 → r.target.0 ≡ s.target.0 → s.band.from ≡ r.band.to +ℤ pos 1 → ⊥
  not_touched r s a b source target next =
      let R = RowsHold rows in
      let row = is.normal.each r a in
      let span = row.span in
      let more = (is.normal.each s b).span in
      let l = on r a in
      let m = on s b in
      let run = (is.normal.each s b).runs s.band.from (omega (arith, ints)) more in
      let low = end_at s.band.low s.band.from in
      let high = end_at s.band.high s.band.from in
      let by_source = subst (λ (v : ℕ). IsRun (between R v s.target.0) s.band.from low high) (sym source) run in
      let by_target = subst (λ (v : ℕ). IsRun (between R r.source.0 v) s.band.from low high) (sym target) by_source in
      let there = subst (λ (v : ℤ). IsRun (between R r.source.0 r.target.0) v low high) next by_target in
      let first = m.low s.band.from (omega (arith, ints)) more in
      let last = m.high s.band.from (omega (arith, ints)) more in
      let below = l.low r.band.to span (omega (arith, ints)) in
      let above = l.high r.band.to span (omega (arith, ints)) in
      let stops = row.stops low high there (inr (omega (arith, ints, first, below, next))) (inr (omega (arith, ints, last, above, next))) in
      let longer = stops.0 in
      let before = l.low (r.band.to -ℤ pos 1) (omega (arith, ints, longer)) (omega (arith, ints)) in
      let over = l.high (r.band.to -ℤ pos 1) (omega (arith, ints, longer)) (omega (arith, ints)) in
      let on_low = ends_go_on r.band.low (Moving (pos 1)) r.band.to before below in
      let on_high = ends_go_on r.band.high (Moving (pos 1)) r.band.to over above in
      stops.1 (omega (arith, ints, on_low, first, next), omega (arith, ints, on_high, last, next))

  free_between : (r s : Row) → Among rows r → Among rows s → RowBefore r s → StandFree r s
  free_between r s a b (inl (inl less)) = inl less
  free_between r s a b (inl (inr (same, less))) = let e = (on r a).stays in let f = (on s b).stays in absurd (omega (arith, same, less, e, f))
  free_between r s a b (inr (source, target, inr (e, less))) =
      let low = (on r a).low r.band.from (omega (arith, ints)) (is.normal.each r a).span in
      let other = (on s b).low s.band.from (omega (arith, ints)) (is.normal.each s b).span in
      absurd (omega (arith, ints, e, less, low, other))
  free_between r s a b (inr (source, target, inl less)) =
      let t = s.band.from in
      let o = s.source.0 in
      let span = (is.normal.each s b).span in
      inr (
        source,
        by_lt_z (r.band.to +ℤ pos 1) t
            (λ lt. lt)
            (λ le. by_lt_z r.band.to t
            (λ after. absurd (not_touched r s a b source target (omega (arith, ints, le, after))))
            (λ within.
            let e = is.normal.once r s (point o t) (point o (t +ℤ pos 1)) a b (leads_next r a o source t (omega (arith, ints, less)) within) (leads_next s b o refl t (omega (arith, ints)) span) in
            let f : r.band.from ≡ s.band.from = ap (λ (v : Row). v.band.from) e in
            absurd (omega (arith, ints, f, less)))),
      )

  part_free : (part : List Row) → ((r : Row) → Among part r → Among rows r) → Ordered RowBefore part → Ordered StandFree part
  part_free [] all o = tt
  part_free (r ∷ rest) all o = (λ s b. free_between r s (all r (inl refl)) (all s (inr b)) (o.0 s b), part_free rest (λ s b. all s (inr b)) o.1)

  pub all_free : Ordered StandFree rows
  all_free = part_free rows (λ r a. a) is.normal.order
