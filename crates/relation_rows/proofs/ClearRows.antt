-- Rows whose bands stand alone, and each of which departs behind the one before it and doesn't continue it, are normal for what they hold.
use Rattle.std.proofs.Common.{◌≡◌, ◌↔◌, ◌⊎◌, inl, inr, ⊎_elim, ℕ, ◌≤◌, ℤ, pos, ◌+ℤ◌, ◌-ℤ◌, ◌≤ℤ◌, ◌<ℤ◌, List, [], ◌∷◌, length, get_or, Bool, true, false, int_lt, refl, sym, ◌∙◌, subst, arith}
use Rattle.std.proofs.lemmas.Int.{ints}
use Rattle.itpg_base.specs.Points.{Point, Relation}
use Rattle.itpg_base.specs.Lists.{Among, Ordered}
use Rattle.itpg_base.proofs.Lists.{ordered_either, ordered_as, ordered_from_neighbours, among_at}
use Rattle.band_normal.specs.declared.band.Band.{Band}
use Rattle.band_normal.specs.Bands.{end_at, InBand, IsWellFormed}
use Rattle.band_normal.specs.Normal.{IsRow, IsRun, Steps}
use Rattle.relation_rows.specs.declared.rows.Row.{Row}
use Rattle.relation_rows.specs.Rows.{between, RowsHold, NormalRows, RowBefore}
use Rattle.relation_rows.specs.Apart.{AdjoinsApart, AreLone, ComesClear}
use Rattle.relation_rows.specs.Direct.{AreItsRows}
use Rattle.relation_rows.proofs.ApartRows.{keys_on, key_on, key_first, key_second}
use Rattle.relation_rows.proofs.Listed.{key_apart}
use Rattle.relation_rows.proofs.Neighbours.{AreNext}

-- of two numbers in order, the first is the second or less
equal_or_less : (a b : ℤ) → a ≤ℤ b → (a ≡ b) ⊎ (a <ℤ b)
equal_or_less a b le = by_test (int_lt a b) refl
  where
    by_test : (t : Bool) → int_lt a b ≡ t → (a ≡ b) ⊎ (a <ℤ b)
    by_test true e = inr (grind (arith, ints, e))
    by_test false e = inl (grind (arith, ints, e, le))

-- a row that comes clear departs later
departs : (r s : Row) → ComesClear r s → s.source.0 ≡ r.source.0 → s.target.0 ≡ r.target.0 → r.band.to <ℤ s.band.from
departs r s (inl (inl k)) e f = absurd (key_apart _ _ _ _ k (sym e) (sym f))
departs r s (inl (inr k)) e f = let free = k.1 in omega (arith, ints, free)
departs r s (inr k) e f = let next = (k.1).next in omega (arith, ints, next)

clear_ordered : (rows : List Row) → AreLone rows → Ordered ComesClear rows → Ordered RowBefore rows
clear_ordered [] lone o = tt
clear_ordered (r ∷ rs) lone o = (λ s a. before s (o.0 s a), clear_ordered rs (λ s a. lone s (inr a)) o.1)
  where
    span : r.band.from ≤ℤ r.band.to
    span = (lone r (inl refl)).formed.span

    before : (s : Row) → ComesClear r s → RowBefore r s
    before s (inl (inl k)) = inl k
    before s (inl (inr (k, l))) = inr (sym k.0, sym k.1, inl (omega (arith, ints, span, l)))
    before s (inr (k, a)) = let next = a.next in inr (sym k.0, sym k.1, inl (omega (arith, ints, span, next)))

module _ (rows : List Row) (lone : AreLone rows) (order : Ordered ComesClear rows) where
  -- of one source and target, one row alone departs at a moment
  same_row : (r s : Row) (t : ℤ) → Among rows r → Among rows s → s.source.0 ≡ r.source.0 → s.target.0 ≡ r.target.0 → r.band.from ≤ℤ t → t ≤ℤ r.band.to → s.band.from ≤ℤ t → t ≤ℤ s.band.to → s ≡ r
  same_row r s t a b e f from to begins ends = ⊎_elim
      (λ (g : r ≡ s). sym g)
      (λ k. ⊎_elim
      (λ l. let d = departs r s l e f in absurd (omega (arith, ints, d, to, begins)))
      (λ l. let d = departs s r l (sym e) (sym f) in absurd (omega (arith, ints, d, from, ends)))
      k)
      (ordered_either ComesClear rows order r s a b)

  module _ (R : Relation) (is : (x y : Point) → RowsHold rows x y ↔ R x y) where
    -- what the relation has at a departure of the row is in the row
    in_own : (r : Row) (t u : ℤ) → Among rows r → r.band.from ≤ℤ t → t ≤ℤ r.band.to → between R r.source.0 r.target.0 t u → InBand r.band t u
    in_own r t u a from to q =
        let h = (is _ _).1 q in
        let i = h.2 in
        let p = i.pair in
        let e = same_row r h.0 t a h.1 i.source i.target from to p.from p.to in
        subst (λ (v : Row). InBand v.band t u) e p

    of_own : (r : Row) (t u : ℤ) → Among rows r → InBand r.band t u → between R r.source.0 r.target.0 t u
    of_own r t u a p = (is _ _).0 (r, a, record { source = refl; target = refl; pair = p })

    -- a run at a departure of the row is the row's
    module _ (r : Row) (a : Among rows r) (t low high : ℤ) (from : r.band.from ≤ℤ t) (to : t ≤ℤ r.band.to) (run : IsRun (between R r.source.0 r.target.0) t low high) where
      first : InBand r.band t low
      first = let some = run.some in in_own r t low a from to (run.each low (omega (arith, ints)) some)

      last : InBand r.band t high
      last = let some = run.some in in_own r t high a from to (run.each high some (omega (arith, ints)))

      least : end_at r.band.low t ≡ low
      least =
          let l = first.low in
          let h = first.high in
          ⊎_elim
          (λ e. e)
          (λ less. absurd (run.below (of_own r t (low -ℤ pos 1) a (record { from = from; to = to; low = omega (arith, ints, less); high = omega (arith, ints, h) }))))
          (equal_or_less _ _ l)

      most : high ≡ end_at r.band.high t
      most =
          let l = last.low in
          let h = last.high in
          ⊎_elim
          (λ e. e)
          (λ less. absurd (run.above (of_own r t (high +ℤ pos 1) a (record { from = from; to = to; low = omega (arith, ints, l); high = omega (arith, ints, less) }))))
          (equal_or_less _ _ h)

    -- no run behind a row's last departure continues it
    no_more : (r : Row) → Among rows r → (low high : ℤ) → IsRun (between R r.source.0 r.target.0) (r.band.to +ℤ pos 1) low high → Steps (end_at r.band.low r.band.to) low → Steps (end_at r.band.high r.band.to) high → ⊥
    no_more r a low high run x y =
        let some = run.some in
        let h = (is _ _).1 (run.each low (omega (arith, ints)) some) in
        let i = h.2 in
        let p = i.pair in
        let to = p.to in
        let span = (lone r a).formed.span in
        ⊎_elim
        (λ (g : r ≡ h.0). let past = subst (λ (v : Row). (r.band.to +ℤ pos 1) ≤ℤ v.band.to) (sym g) to in absurd (omega (arith, ints, past)))
        (λ k. ⊎_elim
        (λ l. behind h.0 h.1 i.source i.target p l)
        (λ l. let d = departs h.0 r l (sym i.source) (sym i.target) in absurd (omega (arith, ints, d, span, to)))
        k)
        (ordered_either ComesClear rows order r h.0 a h.1)
      where
        behind : (s : Row) → Among rows s → s.source.0 ≡ r.source.0 → s.target.0 ≡ r.target.0 → InBand s.band (r.band.to +ℤ pos 1) low → ComesClear r s → ⊥
        behind s b e f p (inl (inl k)) = key_apart _ _ _ _ k (sym e) (sym f)
        behind s b e f p (inl (inr k)) = let free = k.1 in let from = p.from in omega (arith, ints, free, from)
        behind s b e f p (inr (k, c)) =
            let t = r.band.to +ℤ pos 1 in
            let own : IsRun (between R s.source.0 s.target.0) t low high =
            subst (λ (v : ℕ). IsRun (between R v s.target.0) t low high) (sym e) (subst (λ (v : ℕ). IsRun (between R r.source.0 v) t low high) (sym f) run) in
            let low_is = subst (λ (v : ℤ). end_at s.band.low v ≡ low) (sym c.next) (least s b t low high p.from p.to own) in
            let high_is = subst (λ (v : ℤ). high ≡ end_at s.band.high v) (sym c.next) (most s b t low high p.from p.to own) in
            c.stops (subst (Steps (end_at r.band.low r.band.to)) (sym low_is) x) (subst (Steps (end_at r.band.high r.band.to)) high_is y)

    own_row : (r : Row) → Among rows r → IsRow (between R r.source.0 r.target.0) r.band
    own_row r a =
        let l = lone r a in
        let formed = l.formed in
        record {
          span = formed.span;
          runs = λ t from to.
              let some = formed.some t from to in
              record {
                some = some;
                each = λ u low high. of_own r t u a (record { from = from; to = to; low = low; high = high });
                below = λ q. let m = (in_own r t _ a from to q).low in omega (arith, ints, m);
                above = λ q. let m = (in_own r t _ a from to q).high in omega (arith, ints, m);
              };
          single_low = l.single_low;
          single_high = l.single_high;
          stops = λ low high run x y. absurd (no_more r a low high run x y);
        }

    pub clear_normal : NormalRows R rows
    clear_normal = record {
      whole = λ x y h. (is x y).1 h;
      once = λ r s x y a b i j.
          let p = i.pair in
          let q = j.pair in
          sym (same_row r s x.moment a b (j.source ∙ sym i.source) (j.target ∙ sym i.target) p.from p.to q.from q.to);
      each = own_row;
      order = clear_ordered rows lone order;
    }

pub clear_settled : (rows : List Row) → AreLone rows → Ordered ComesClear rows → AreItsRows (RowsHold rows) rows
clear_settled rows lone order = record { normal = clear_normal rows lone order (RowsHold rows) (λ x y. (λ h. h, λ h. h)); formed = λ r a. (lone r a).formed }

-- ---- bands that adjoin and don't continue each other

pub steps_alike : (a b c d : ℤ) → a ≡ c → b ≡ d → Steps c d → Steps a b
steps_alike a b c d e f s = subst (λ (v : ℤ). Steps v b) (sym e) (subst (Steps c) (sym f) s)

pub adjoins_low : (b c : Band) → c.from ≡ b.to +ℤ pos 1 → (Steps (end_at b.low b.to) (end_at c.low c.from) → ⊥) → AdjoinsApart b c
adjoins_low b c next none = record { next = next; stops = λ x y. none x }

pub adjoins_high : (b c : Band) → c.from ≡ b.to +ℤ pos 1 → (Steps (end_at b.high b.to) (end_at c.high c.from) → ⊥) → AdjoinsApart b c
adjoins_high b c next none = record { next = next; stops = λ x y. none y }

-- ---- neighbours that come clear

abbrev ComesFormed : Row → Row → Type 0
ComesFormed r s = ComesClear r s × IsWellFormed r.band

comes_on : (r s t : Row) → ComesFormed r s → ComesFormed s t → ComesFormed r t
comes_on r s t (inl (inl a), l) (inl (inl b), m) = (inl (inl (keys_on _ _ _ _ _ _ a b)), l)
comes_on r s t (inl (inl a), l) (inl (inr (k, b)), m) = (inl (inl (key_first r s t a k)), l)
comes_on r s t (inl (inl a), l) (inr (k, b), m) = (inl (inl (key_first r s t a k)), l)
comes_on r s t (inl (inr (k, a)), l) (inl (inl b), m) = (inl (inl (key_second r s t k b)), l)
comes_on r s t (inl (inr (k, a)), l) (inl (inr (j, b)), m) = let span = m.span in (inl (inr (key_on r s t k j, omega (arith, ints, a, b, span))), l)
comes_on r s t (inl (inr (k, a)), l) (inr (j, b), m) = let span = m.span in let next = b.next in (inl (inr (key_on r s t k j, omega (arith, ints, a, next, span))), l)
comes_on r s t (inr (k, a), l) (inl (inl b), m) = (inl (inl (key_second r s t k b)), l)
comes_on r s t (inr (k, a), l) (inl (inr (j, b)), m) = let span = m.span in let next = a.next in (inl (inr (key_on r s t k j, omega (arith, ints, b, next, span))), l)
comes_on r s t (inr (k, a), l) (inr (j, b), m) = let span = m.span in let next = a.next in let then = b.next in (inl (inr (key_on r s t k j, omega (arith, ints, then, next, span))), l)

pub all_next : (rows : List Row) (i : ℕ) → AreLone rows → length rows ≤ i → AreNext ComesClear rows i → Ordered ComesClear rows
all_next rows i lone le so =
    ordered_as ComesFormed ComesClear (λ r s h. h.0) rows
    (ordered_from_neighbours ComesFormed comes_on rows
    (λ k d lt. (so k d (omega arith), (lone (get_or rows k d) (among_at rows k d (omega arith))).formed)))
