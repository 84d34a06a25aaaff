-- Rows whose bands stand alone, and between which a departure or an arrival is free, are normal for what they hold.
use Rattle.std.proofs.Common.{◌≡◌, ◌↔◌, ◌⊎◌, inl, inr, ⊎_elim, ℕ, ◌≤◌, ℤ, pos, ◌+ℤ◌, ◌≤ℤ◌, ◌<ℤ◌, List, [], ◌∷◌, length, get_or, refl, sym, ◌∙◌, subst, arith}
use Rattle.std.proofs.lemmas.Int.{ints}
use Rattle.itpg_base.specs.Points.{Point, Relation}
use Rattle.itpg_base.specs.Lists.{Among, Ordered}
use Rattle.itpg_base.proofs.Lists.{ordered_either, ordered_as, ordered_from_neighbours, among_at}
use Rattle.band_normal.specs.declared.band.End.{End}
use Rattle.band_normal.specs.declared.band.End.TheVariants.{Fixed, Moving}
use Rattle.band_normal.specs.declared.band.Band.{Band}
use Rattle.band_normal.specs.Bands.{end_at, InBand, IsWellFormed}
use Rattle.band_normal.specs.Normal.{IsRow}
use Rattle.relation_rows.specs.declared.rows.Row.{Row}
use Rattle.relation_rows.specs.Rows.{between, RowsHold, HasKey, KeyBefore, RowBefore, NormalRows}
use Rattle.relation_rows.specs.Ways.{DepartApart}
use Rattle.relation_rows.specs.Apart.{AreLone, ArriveApart, ComesApart}
use Rattle.relation_rows.proofs.Listed.{key_apart}
use Rattle.relation_rows.proofs.Neighbours.{AreNext}

-- rows of one source and target that come apart
later : (r s : Row) → ComesApart r s → s.source.0 ≡ r.source.0 → s.target.0 ≡ r.target.0 → DepartApart r s ⊎ ArriveApart r.band s.band
later r s (inl (inl k)) e f = absurd (key_apart _ _ _ _ k (sym e) (sym f))
later r s (inl (inr k)) e f = inl k.1
later r s (inr k) e f = inr k.1

apart_ordered : (rows : List Row) → AreLone rows → Ordered ComesApart rows → Ordered RowBefore rows
apart_ordered [] lone o = tt
apart_ordered (r ∷ rs) lone o = (λ s a. before s (o.0 s a), apart_ordered rs (λ s a. lone s (inr a)) o.1)
  where
    before : (s : Row) → ComesApart r s → RowBefore r s
    before s (inl (inl k)) = inl k
    before s (inl (inr (k, l))) =
        let span = (lone r (inl refl)).formed.span in
        inr (sym k.0, sym k.1, inl (omega (arith, ints, span, l)))
    before s (inr (k, a)) =
        let formed = (lone r (inl refl)).formed in
        let some = formed.some r.band.from (omega (arith, ints)) formed.span in
        let free = a.free r.band.from (omega (arith, ints)) formed.span in
        let low : end_at r.band.low r.band.from <ℤ end_at s.band.low r.band.from = omega (arith, ints, some, free) in
        inr (sym k.0, sym k.1, inr (a.from, subst (λ (t : ℤ). end_at r.band.low r.band.from <ℤ end_at s.band.low t) a.from low))

module _ (rows : List Row) (lone : AreLone rows) (order : Ordered ComesApart rows) where
  -- the moments from the one before the band's arrivals at a departure to the one behind them
  abbrev IsNear : Band → ℤ → ℤ → Type 0
  IsNear b t u = t ≤ℤ b.to → (end_at b.low t ≤ℤ (u +ℤ pos 1)) × (u ≤ℤ (end_at b.high t +ℤ pos 1))

  -- of one source and target, one row alone arrives near a departure's arrivals, or departs where its departures end
  same_row : (r s : Row) (t u : ℤ) → Among rows r → Among rows s → s.source.0 ≡ r.source.0 → s.target.0 ≡ r.target.0
      → r.band.from ≤ℤ t → t ≤ℤ (r.band.to +ℤ pos 1) → IsNear r.band t u → InBand s.band t u → s ≡ r
  same_row r s t u a b e f from to near p = ⊎_elim
      (λ (g : r ≡ s). sym g)
      (λ k. ⊎_elim
      (λ l. absurd (⊎_elim after beside (later r s l e f)))
      (λ l. absurd (⊎_elim before under (later s r l (sym e) (sym f))))
      k)
      (ordered_either ComesApart rows order r s a b)
    where
      begins : s.band.from ≤ℤ t
      begins = p.from

      ends : t ≤ℤ s.band.to
      ends = p.to

      low : end_at s.band.low t ≤ℤ u
      low = p.low

      high : u ≤ℤ end_at s.band.high t
      high = p.high

      after : DepartApart r s → ⊥
      after m = omega (arith, ints, m, to, begins)

      before : DepartApart s r → ⊥
      before m = omega (arith, ints, m, from, ends)

      beside : ArriveApart r.band s.band → ⊥
      beside m =
          let within : t ≤ℤ r.band.to = subst (λ (v : ℤ). t ≤ℤ v) (sym m.to) ends in
          let free = m.free t from within in
          let most = (near within).1 in
          omega (arith, ints, free, most, low)

      under : ArriveApart s.band r.band → ⊥
      under m =
          let within : t ≤ℤ r.band.to = subst (λ (v : ℤ). t ≤ℤ v) m.to ends in
          let free = m.free t begins ends in
          let least = (near within).0 in
          omega (arith, ints, free, least, high)

  module _ (R : Relation) (is : (x y : Point) → RowsHold rows x y ↔ R x y) where
    -- what the relation has there is in the row
    in_own : (r : Row) (t u : ℤ) → Among rows r → r.band.from ≤ℤ t → t ≤ℤ (r.band.to +ℤ pos 1) → IsNear r.band t u → between R r.source.0 r.target.0 t u → InBand r.band t u
    in_own r t u a from to near q =
        let h = (is _ _).1 q in
        let i = h.2 in
        let p = i.pair in
        let e = same_row r h.0 t u a h.1 i.source i.target from to near p in
        subst (λ (v : Row). InBand v.band t u) e p

    own_row : (r : Row) → Among rows r → IsRow (between R r.source.0 r.target.0) r.band
    own_row r a =
        let l = lone r a in
        let formed = l.formed in
        let span = formed.span in
        record {
          span = span;
          runs = λ t from to.
              let some = formed.some t from to in
              let next : t ≤ℤ (r.band.to +ℤ pos 1) = omega (arith, ints, to) in
              record {
                some = some;
                each = λ u low high. (is _ _).0 (r, a, record { source = refl; target = refl; pair = record { from = from; to = to; low = low; high = high } });
                below = λ q. let m = (in_own r t _ a from next (λ e. (omega (arith, ints), omega (arith, ints, some))) q).low in omega (arith, ints, m);
                above = λ q. let m = (in_own r t _ a from next (λ e. (omega (arith, ints, some), omega (arith, ints))) q).high in omega (arith, ints, m);
              };
          single_low = l.single_low;
          single_high = l.single_high;
          stops = λ low high run x y.
              let some = run.some in
              let q = run.each low (omega (arith, ints)) some in
              let past = (in_own r (r.band.to +ℤ pos 1) low a (omega (arith, ints, span)) (omega (arith, ints)) (λ e. absurd (omega (arith, ints, e))) q).to in
              absurd (omega (arith, ints, past));
        }

    pub apart_normal : NormalRows R rows
    apart_normal = record {
      whole = λ x y h. (is x y).1 h;
      once = λ r s x y a b i j.
          let p = i.pair in
          let to = p.to in
          let low = p.low in
          let high = p.high in
          sym (same_row r s x.moment y.moment a b (j.source ∙ sym i.source) (j.target ∙ sym i.target) p.from (omega (arith, ints, to))
          (λ e. (omega (arith, ints, low), omega (arith, ints, high))) j.pair);
      each = own_row;
      order = apart_ordered rows lone order;
    }

-- ---- neighbours that come apart

abbrev ComesFormed : Row → Row → Type 0
ComesFormed r s = ComesApart r s × IsWellFormed r.band

pub keys_on : (o p q r s t : ℕ) → KeyBefore o p q r → KeyBefore q r s t → KeyBefore o p s t
keys_on o p q r s t (inl a) (inl b) = inl (omega arith)
keys_on o p q r s t (inl a) (inr (e, b)) = inl (omega arith)
keys_on o p q r s t (inr (e, a)) (inl b) = inl (omega arith)
keys_on o p q r s t (inr (e, a)) (inr (f, b)) = inr (e ∙ f, omega arith)

pub key_on : (r s t : Row) → HasKey s r.source.0 r.target.0 → HasKey t s.source.0 s.target.0 → HasKey t r.source.0 r.target.0
key_on r s t k j = (j.0 ∙ k.0, j.1 ∙ k.1)

pub key_first : (r s t : Row) → KeyBefore r.source.0 r.target.0 s.source.0 s.target.0 → HasKey t s.source.0 s.target.0 → KeyBefore r.source.0 r.target.0 t.source.0 t.target.0
key_first r s t a k = subst (λ (v : ℕ). KeyBefore r.source.0 r.target.0 v t.target.0) (sym k.0) (subst (λ (v : ℕ). KeyBefore r.source.0 r.target.0 s.source.0 v) (sym k.1) a)

pub key_second : (r s t : Row) → HasKey s r.source.0 r.target.0 → KeyBefore s.source.0 s.target.0 t.source.0 t.target.0 → KeyBefore r.source.0 r.target.0 t.source.0 t.target.0
key_second r s t k b = subst (λ (v : ℕ). KeyBefore v r.target.0 t.source.0 t.target.0) k.0 (subst (λ (v : ℕ). KeyBefore s.source.0 v t.source.0 t.target.0) k.1 b)

comes_on : (r s t : Row) → ComesFormed r s → ComesFormed s t → ComesFormed r t
comes_on r s t (inl (inl a), l) (inl (inl b), m) = (inl (inl (keys_on _ _ _ _ _ _ a b)), l)
comes_on r s t (inl (inl a), l) (inl (inr (k, b)), m) = (inl (inl (key_first r s t a k)), l)
comes_on r s t (inl (inl a), l) (inr (k, b), m) = (inl (inl (key_first r s t a k)), l)
comes_on r s t (inl (inr (k, a)), l) (inl (inl b), m) = (inl (inl (key_second r s t k b)), l)
comes_on r s t (inl (inr (k, a)), l) (inl (inr (j, b)), m) = let span = m.span in (inl (inr (key_on r s t k j, omega (arith, ints, a, b, span))), l)
comes_on r s t (inl (inr (k, a)), l) (inr (j, b), m) = (inl (inr (key_on r s t k j, subst (λ (v : ℤ). (r.band.to +ℤ pos 1) <ℤ v) b.from a)), l)
comes_on r s t (inr (k, a), l) (inl (inl b), m) = (inl (inl (key_second r s t k b)), l)
comes_on r s t (inr (k, a), l) (inl (inr (j, b)), m) = (inl (inr (key_on r s t k j, subst (λ (v : ℤ). (v +ℤ pos 1) <ℤ t.band.from) (sym a.to) b)), l)
comes_on r s t (inr (k, a), l) (inr (j, b), m) = (
  inr (
    key_on r s t k j,
    record {
      from = a.from ∙ b.from;
      to = a.to ∙ b.to;
      free = λ u from to.
          let begins = subst (λ (v : ℤ). v ≤ℤ u) a.from from in
          let ends = subst (λ (v : ℤ). u ≤ℤ v) a.to to in
          let one = a.free u from to in
          let some = m.some u begins ends in
          let two = b.free u begins ends in
          omega (arith, ints, one, some, two);
    },
  ),
  l,
)

pub all_next : (rows : List Row) (i : ℕ) → AreLone rows → length rows ≤ i → AreNext ComesApart rows i → Ordered ComesApart rows
all_next rows i lone le so =
    ordered_as ComesFormed ComesApart (λ r s h. h.0) rows
    (ordered_from_neighbours ComesFormed comes_on rows
    (λ k d lt. (so k d (omega arith), (lone (get_or rows k d) (among_at rows k d (omega arith))).formed)))

-- ---- where two bands of the same departures arrive apart at the first and the last one, they do at each

ends_free : (h l : End) (from to : ℤ) → (end_at h from +ℤ pos 1) <ℤ end_at l from → (end_at h to +ℤ pos 1) <ℤ end_at l to
    → (t : ℤ) → from ≤ℤ t → t ≤ℤ to → (end_at h t +ℤ pos 1) <ℤ end_at l t
ends_free (Fixed h) (Fixed l) from to one two t begins ends = one
ends_free (Fixed h) (Moving l) from to one two t begins ends = omega (arith, ints, one, begins)
ends_free (Moving h) (Fixed l) from to one two t begins ends = omega (arith, ints, two, ends)
ends_free (Moving h) (Moving l) from to one two t begins ends = omega (arith, ints, one)

pub arrive_apart : (b c : Band) → b.from ≡ c.from → b.to ≡ c.to → (end_at b.high b.from +ℤ pos 1) <ℤ end_at c.low c.from → (end_at b.high b.to +ℤ pos 1) <ℤ end_at c.low c.to → ArriveApart b c
arrive_apart b c from to one two = record {
  from = from;
  to = to;
  free = ends_free b.high c.low b.from b.to
      (subst (λ (v : ℤ). (end_at b.high b.from +ℤ pos 1) <ℤ end_at c.low v) (sym from) one)
      (subst (λ (v : ℤ). (end_at b.high b.to +ℤ pos 1) <ℤ end_at c.low v) (sym to) two);
}
