-- Each row of such a repetition begins where it begins to be cut otherwise how far its steps lead, or one moment later. So it has few rows.
use Rattle.std.proofs.Common.{◌≡◌, ◌⊎◌, inl, inr, ⊎_elim, ℕ, ◌+◌, ◌*◌, ◌≤◌, ℤ, pos, ◌+ℤ◌, ◌-ℤ◌, ◌≤ℤ◌, List, [], ◌∷◌, ◌++◌, length, map, refl, sym, ◌∙◌, ap, subst, arith}
use Rattle.std.proofs.lemmas.Int.{ints, by_lt_z}
use Rattle.itpg_base.specs.Decided.{Decided}
use Rattle.itpg_base.specs.Lists.{Among, Ordered}
use Rattle.itpg_base.specs.Points.{Point, Relation}
use Rattle.itpg_base.proofs.Lists.{append_first, append_second}
use Rattle.itpg_base.proofs.PointSearch.{same_point}
use Rattle.zone_core.specs.Zone.{Meets}
use Rattle.itpg_base.proofs.Searches.{as_well, both, not_after, same_number}
use Rattle.band_normal.specs.declared.band.End.{End}
use Rattle.band_normal.specs.declared.band.End.TheVariants.{Fixed, Moving}
use Rattle.band_normal.specs.Bands.{end_at, IsWellFormed}
use Rattle.band_normal.specs.Normal.{IsRun, Steps}
use Rattle.band_normal.proofs.Unique.{end_steps, same_run}
use Rattle.relation_rows.specs.declared.rows.Row.{Row}
use Rattle.relation_rows.specs.Rows.{between, Fits, HasRows, InRow, NormalRows, RowBefore, RowsHold}
use Rattle.relation_rows.specs.Relations.{Item, ItemsHold}
use Rattle.relation_rows.proofs.Alike.{fits_alike, hold_only, rows_alike, rows_hold}
use Rattle.relation_rows.proofs.Finite.{items_there, union_there}
use Rattle.relation_rows.proofs.Listed.{row_apart}
use Rattle.wide_witness.specs.Along.{AlongRows, IsAlong, LeadOneOn}
use Rattle.wide_witness.specs.Steps.{point}
use Rattle.wide_witness.proofs.Breaks.{among_map, among_points, bends_of, length_both, map_among, points_count, points_of, some_of, starts_of}
use Rattle.wide_witness.proofs.Counting.{finders_fewer}
use Rattle.wide_witness.proofs.StandingFree.{ends_go_on, StandFree}
use Rattle.wide_witness.proofs.Stretches.{from_parts, one_row, point_same, to_parts}

module _ (one steps : List Row) (one_formed : (r : Row) → Among one r → IsWellFormed r.band) (formed : (r : Row) → Among steps r → IsWellFormed r.band) (on : LeadOneOn steps) (free : Ordered StandFree steps)
    (same : (x : Point) → (y : Point) → RowsHold one x y → x ≡ y) (inside : (x : Point) → (y : Point) → RowsHold steps x y → RowsHold one x x × RowsHold one y y) (n : ℕ) where
  -- the pairs of the one relation, and those along the stretches
  abbrev Parts : Relation
  Parts x y = RowsHold one x y ⊎ AlongRows steps n x y

  item_along : Row → Item
  item_along r = (r.source, r.source, record { a = r.band.from; b = r.band.to +ℤ pos 1; c = r.band.from; d = r.band.to +ℤ pos 1; e = pos 0; f = pos n })

  along_item : (x y : Point) → AlongRows steps n x y → ItemsHold (map item_along steps) x y
  unfolding item_along
  along_item x y (r, a, k) =
      let p = k.pair in
      let from = p.from in
      let order = p.order in
      let to = p.to in
      let near = p.near in (
        item_along r,
        among_map item_along steps r a,
        record {
          source = k.source;
          target = k.target;
          pair = record { from = from; to = omega (arith, ints, order, to); low = omega (arith, ints, from, order); high = to; least = omega (arith, ints, order); most = omega (arith, ints, near) };
        },
      )

  item_leads : (x y : Point) → ItemsHold (map item_along steps) x y → AlongRows steps n x y
  unfolding item_along
  item_leads x y (i, a, h) =
      let w = map_among item_along steps i a in
      let m = subst (λ (v : Item). (v.0.0 ≡ x.object) × (v.1.0 ≡ y.object)) (sym w.2) (h.source, h.target) in
      let p = subst (λ (v : Item). Meets v.2 x.moment y.moment) (sym w.2) h.pair in
      let from = p.from in
      let least = p.least in
      let most = p.most in
      (w.0, w.1, record { source = m.0; target = m.1; pair = record { from = from; order = omega (arith, ints, least); to = p.high; near = omega (arith, ints, most) } })

  -- its normal list is there
  parts_there : HasRows Parts
  parts_there =
      let w = items_there (map item_along steps) in
      let u = union_there one w.0 in (
        u.0,
        rows_alike (λ x y. RowsHold one x y ⊎ RowsHold w.0 x y) Parts
            (λ x y h. ⊎_elim (λ a. inl a) (λ a. inr (item_leads x y (hold_only (ItemsHold (map item_along steps)) w.0 w.1 x y a))) h)
            (λ x y h. ⊎_elim (λ a. inl a) (λ a. inr (rows_hold (ItemsHold (map item_along steps)) w.0 w.1 x y (along_item x y a))) h)
            u.0 u.1,
      )

  -- it stays at the object, and leads to no earlier moment
  stays_at : (x y : Point) → Parts x y → (x.object ≡ y.object) × (x.moment ≤ℤ y.moment)
  stays_at x y (inl h) = let e = same x y h in let m = ap (λ (v : Point). v.moment) e in (ap (λ (v : Point). v.object) e, omega (arith, ints, m))
  stays_at x y (inr (r, a, k)) = (sym k.source ∙ k.target, k.pair.order)

  -- where it leads to a later moment it leads to the one before it, too
  leads_before : (o p : ℕ) (t u : ℤ) → Parts (point o t) (point p u) → (t +ℤ pos 1) ≤ℤ u → Parts (point o t) (point p (u -ℤ pos 1))
  leads_before o p t u (inl h) le = let m = ap (λ (v : Point). v.moment) (same (point o t) (point p u) h) in absurd (omega (arith, ints, m, le))
  leads_before o p t u (inr (r, a, k)) le =
      let q = k.pair in
      let to = q.to in
      let near = q.near in
      inr (r, a, record { source = k.source; target = k.target; pair = record { from = q.from; order = omega (arith, ints, le); to = omega (arith, ints, to); near = omega (arith, ints, near) } })

  -- what departs leads to itself
  itself : (x y : Point) → Parts x y → RowsHold one x x
  itself x y h = (from_parts steps formed on free one same inside n x y h).0

  -- ---- runs

  run_alone : (o : ℕ) (t high : ℤ) → high ≡ t → RowsHold one (point o t) (point o t) → ((r : Row) → Among steps r → r.source.0 ≡ o → r.band.from ≤ℤ t → t ≤ℤ (r.band.to +ℤ pos 1) → ⊥)
      → IsRun (between Parts o o) t t high
  run_alone o t high e h none = record {
    some = omega (arith, ints, e);
    each = λ u l g. let f : t ≡ u = omega (arith, ints, l, g, e) in inl (subst (λ (v : ℤ). RowsHold one (point o t) (point o v)) f h);
    below = λ q. let le = (stays_at (point o t) (point o (t -ℤ pos 1)) q).1 in omega (arith, ints, le);
    above = λ q. elim q [
      | inl a ↦ let m = ap (λ (v : Point). v.moment) (same (point o t) (point o (high +ℤ pos 1)) a) in omega (arith, ints, m, e)
      | inr (r, a, k) ↦ let p = k.pair in let order = p.order in let to = p.to in none r a k.source p.from (omega (arith, ints, order, to))
    ];
  }

  run_within : (o : ℕ) (r : Row) → Among steps r → r.source.0 ≡ o → (t high : ℤ) → r.band.from ≤ℤ t → t ≤ℤ high → high ≤ℤ (r.band.to +ℤ pos 1) → high ≤ℤ (t +ℤ pos n)
      → (high ≡ r.band.to +ℤ pos 1) ⊎ (high ≡ t +ℤ pos n) → IsRun (between Parts o o) t t high
  run_within o r a source t high from order to near cut = record {
    some = order;
    each = λ u l g. inr (r, a, record { source = source; target = source; pair = record { from = from; order = l; to = omega (arith, ints, g, to); near = omega (arith, ints, g, near) } });
    below = λ q. let le = (stays_at (point o t) (point o (t -ℤ pos 1)) q).1 in omega (arith, ints, le);
    above = λ q. elim q [
      | inl h ↦ let m = ap (λ (v : Point). v.moment) (same (point o t) (point o (high +ℤ pos 1)) h) in omega (arith, ints, m, order)
      | inr (s, b, k) ↦
          let p = k.pair in
          let ends = p.to in
          let reach = p.near in
          let e = one_row steps formed on free r s a b t (source ∙ sym k.source) from (omega (arith, ints, order, to)) p.from (omega (arith, ints, order, ends)) in
          let last : (high +ℤ pos 1) ≤ℤ (r.band.to +ℤ pos 1) = subst (λ (v : Row). (high +ℤ pos 1) ≤ℤ (v.band.to +ℤ pos 1)) (sym e) ends in
          ⊎_elim (λ c. omega (arith, ints, c, last)) (λ c. omega (arith, ints, c, reach)) cut
    ];
  }

  -- from the moment before t to the one after it, the runs begin where they depart, and their ends go on evenly
  record IsEven (o p : ℕ) (t : ℤ) : Type 0 where
    high : End
    before : IsRun (between Parts o p) (t -ℤ pos 1) (t -ℤ pos 1) (end_at high (t -ℤ pos 1))
    here : IsRun (between Parts o p) t t (end_at high t)
    after : IsRun (between Parts o p) (t +ℤ pos 1) (t +ℤ pos 1) (end_at high (t +ℤ pos 1))

  -- ---- away from the breaks

  breaks : List Point
  breaks = points_of (bends_of n) steps ++ points_of starts_of one

  breaks_count : length breaks ≡ 6 * length steps + 2 * length one
  unfolding breaks bends_of starts_of
  breaks_count =
      let six = points_count (bends_of n) 6 (λ r. refl) steps in
      let two = points_count starts_of 2 (λ r. refl) one in
      let all = length_both (points_of (bends_of n) steps) (points_of starts_of one) in
      omega (arith, six, two, all)

  module _ (o : ℕ) (t : ℤ) (clear : ¬ Among breaks (point o (t +ℤ pos 1))) where
    no_start : (r : Row) → Among one r → r.source.0 ≡ o → (z : ℤ) → Among (starts_of r) (point r.source.0 z) → z ≡ t +ℤ pos 1 → ⊥
    unfolding breaks
    no_start r a source z m e =
        clear (subst (Among breaks) (point_same (point r.source.0 z) (point o (t +ℤ pos 1)) source e)
        (append_second (points_of (bends_of n) steps) (points_of starts_of one) (point r.source.0 z) (among_points starts_of one r (point r.source.0 z) a m)))

    no_bend : (r : Row) → Among steps r → r.source.0 ≡ o → (z : ℤ) → Among (bends_of n r) (point r.source.0 z) → z ≡ t +ℤ pos 1 → ⊥
    unfolding breaks
    no_bend r a source z m e =
        clear (subst (Among breaks) (point_same (point r.source.0 z) (point o (t +ℤ pos 1)) source e)
        (append_first (points_of (bends_of n) steps) (points_of starts_of one) (point r.source.0 z) (among_points (bends_of n) steps r (point r.source.0 z) a m)))

    -- a row of the one relation that has the next moment has this one and the one before it
    goes_back : (r : Row) → Among one r → r.source.0 ≡ o → r.band.from ≤ℤ (t +ℤ pos 1) → r.band.from ≤ℤ (t -ℤ pos 1)
    unfolding starts_of
    goes_back r a source from =
        by_lt_z (t -ℤ pos 1) r.band.from
        (λ lt. by_lt_z r.band.from (t +ℤ pos 1)
        (λ less. absurd (no_start r a source (r.band.from +ℤ pos 1) (inr (inl refl)) (omega (arith, ints, lt, less))))
        (λ le. absurd (no_start r a source r.band.from (inl refl) (omega (arith, ints, le, from)))))
        (λ le. le)

    itself_at : (r : Row) → Among one r → r.source.0 ≡ o → (u : ℤ) → r.band.from ≤ℤ u → u ≤ℤ r.band.to → RowsHold one (point o u) (point o u)
    itself_at r a source u from to =
        let y = point r.target.0 (end_at r.band.low u) in
        let w : RowsHold one (point o u) y = (r, a, record { source = source; target = refl; pair = record { from = from; to = to; low = omega (arith, ints); high = (one_formed r a).some u from to } }) in
        subst (λ (v : Point). RowsHold one (point o u) v) (sym (same (point o u) y w)) w

    -- the row's stretch has the next moment
    abbrev Spans : Row → Type 0
    Spans r = (r.source.0 ≡ o) × (r.band.from ≤ℤ (t +ℤ pos 1)) × ((t +ℤ pos 1) ≤ℤ (r.band.to +ℤ pos 1))

    spans_decided : (r : Row) → Decided (Spans r)
    spans_decided r = as_well (λ h. (h.0, h.1.0, h.1.1)) (λ h. (h.0, (h.1, h.2)))
        (both (same_number r.source.0 o) (both (not_after r.band.from (t +ℤ pos 1)) (not_after (t +ℤ pos 1) (r.band.to +ℤ pos 1))))

    -- where no stretch has it, none has the two moments before it
    none_near : ¬ ((r : Row) × Among steps r × Spans r) → (u : ℤ) → (t -ℤ pos 1) ≤ℤ u → u ≤ℤ (t +ℤ pos 1) → (r : Row) → Among steps r → r.source.0 ≡ o → r.band.from ≤ℤ u → u ≤ℤ (r.band.to +ℤ pos 1) → ⊥
    unfolding bends_of
    none_near none u low high r a source from to =
        by_lt_z (r.band.to +ℤ pos 1) (t +ℤ pos 1)
        (λ lt. by_lt_z (r.band.to +ℤ pos 2) (t +ℤ pos 1)
        (λ less. no_bend r a source ((r.band.to +ℤ pos 2) +ℤ pos 1) (inr (inr (inr (inr (inr (inl refl)))))) (omega (arith, ints, low, to, less)))
        (λ le. no_bend r a source (r.band.to +ℤ pos 2) (inr (inr (inr (inr (inl refl))))) (omega (arith, ints, lt, le))))
        (λ le. none (r, a, (source, omega (arith, ints, from, high), le)))

    even : RowsHold one (point o (t +ℤ pos 1)) (point o (t +ℤ pos 1)) → IsEven o o t
    unfolding bends_of
    even (q, b, i) =
        let p = i.pair in
        let first = goes_back q b i.source p.from in
        let last = p.to in
        elim (some_of Spans spans_decided steps) [
          | inr none ↦ record {
            high = Moving (pos 0);
            before = run_alone o (t -ℤ pos 1) ((t -ℤ pos 1) +ℤ pos 0) (omega (arith, ints)) (itself_at q b i.source (t -ℤ pos 1) first (omega (arith, ints, last))) (none_near none (t -ℤ pos 1) (omega (arith, ints)) (omega (arith, ints)));
            here = run_alone o t (t +ℤ pos 0) (omega (arith, ints)) (itself_at q b i.source t (omega (arith, ints, first)) (omega (arith, ints, last))) (none_near none t (omega (arith, ints)) (omega (arith, ints)));
            after = run_alone o (t +ℤ pos 1) ((t +ℤ pos 1) +ℤ pos 0) (omega (arith, ints)) (q, b, i) (none_near none (t +ℤ pos 1) (omega (arith, ints)) (omega (arith, ints)));
          }
          | inl (r, a, (source, from, to)) ↦
              let begins : r.band.from ≤ℤ (t -ℤ pos 1) = by_lt_z (t -ℤ pos 1) r.band.from
              (λ lt. by_lt_z r.band.from (t +ℤ pos 1)
              (λ less. absurd (no_bend r a source (r.band.from +ℤ pos 1) (inr (inl refl)) (omega (arith, ints, lt, less))))
              (λ le. absurd (no_bend r a source r.band.from (inl refl) (omega (arith, ints, le, from)))))
              (λ le. le) in
              by_lt_z (r.band.to +ℤ pos 1) ((t +ℤ pos 1) +ℤ pos n)
              (λ lt.
              let over = r.band.to +ℤ pos 2 in
              let cut : (r.band.to +ℤ pos 1) ≤ℤ ((t -ℤ pos 1) +ℤ pos n) = by_lt_z ((t -ℤ pos 1) +ℤ pos n) (r.band.to +ℤ pos 1)
              (λ less. by_lt_z (over -ℤ pos n) (t +ℤ pos 1)
              (λ l. absurd (no_bend r a source ((over -ℤ pos n) +ℤ pos 1) (inr (inr (inr (inl refl)))) (omega (arith, ints, less, l))))
              (λ l. absurd (no_bend r a source (over -ℤ pos n) (inr (inr (inl refl))) (omega (arith, ints, lt, l)))))
              (λ le. le) in
              record {
                high = Fixed (r.band.to +ℤ pos 1);
                before = run_within o r a source (t -ℤ pos 1) (r.band.to +ℤ pos 1) begins (omega (arith, ints, to)) (omega (arith, ints)) cut (inl refl);
                here = run_within o r a source t (r.band.to +ℤ pos 1) (omega (arith, ints, begins)) (omega (arith, ints, to)) (omega (arith, ints)) (omega (arith, ints, cut)) (inl refl);
                after = run_within o r a source (t +ℤ pos 1) (r.band.to +ℤ pos 1) from to (omega (arith, ints)) (omega (arith, ints, cut)) (inl refl);
              })
              (λ le. record {
                high = Moving (pos n);
                before = run_within o r a source (t -ℤ pos 1) ((t -ℤ pos 1) +ℤ pos n) begins (omega (arith, ints)) (omega (arith, ints, le)) (omega (arith, ints)) (inr refl);
                here = run_within o r a source t (t +ℤ pos n) (omega (arith, ints, begins)) (omega (arith, ints)) (omega (arith, ints, le)) (omega (arith, ints)) (inr refl);
                after = run_within o r a source (t +ℤ pos 1) ((t +ℤ pos 1) +ℤ pos n) from (omega (arith, ints)) le (omega (arith, ints)) (inr refl);
              })
        ]

  -- ---- rows

  module _ (rows : List Row) (normal : NormalRows Parts rows) where
    -- a row stays at its object, and at each departure its run begins there
    begins_there : (r : Row) → Among rows r → (t : ℤ) → r.band.from ≤ℤ t → t ≤ℤ r.band.to → (r.source.0 ≡ r.target.0) × (end_at r.band.low t ≡ t)
    begins_there r a t from to =
        let run = (normal.each r a).runs t from to in
        let low = end_at r.band.low t in
        let pair = run.each low (omega (arith, ints)) run.some in
        let stays = stays_at (point r.source.0 t) (point r.target.0 low) pair in
        let le = stays.1 in
        let is : low ≡ t = by_lt_z t low
        (λ lt. absurd (run.below (leads_before r.source.0 r.target.0 t low pair (omega (arith, ints, lt)))))
        (λ ge. omega (arith, ints, le, ge)) in
        (stays.0, is)

    -- so it leads the point there to itself
    leads_itself : (r : Row) → Among rows r → (o : ℕ) → r.source.0 ≡ o → (t : ℤ) → r.band.from ≤ℤ t → t ≤ℤ r.band.to → InRow r (point o t) (point o t)
    leads_itself r a o source t from to =
        let w = begins_there r a t from to in
        let low = w.1 in
        let some = ((normal.each r a).runs t from to).some in
        record { source = source; target = sym w.0 ∙ source; pair = record { from = from; to = to; low = omega (arith, ints, low); high = omega (arith, ints, low, some) } }

    -- a row that ends where the runs go on evenly would go on
    not_over : (r : Row) → Among rows r → IsEven r.source.0 r.target.0 r.band.to → ⊥
    not_over r a even =
        let row = normal.each r a in
        let span = row.span in
        let t = r.band.to in
        let high = even.high in
        let run = row.runs t span (omega (arith, ints)) in
        let low = (begins_there r a t span (omega (arith, ints))).1 in
        let here = even.here in
        let some = run.some in
        let last = same_run (between Parts r.source.0 r.target.0) t _ _ _ _ run here (let l = here.some in omega (arith, ints, low, l)) (omega (arith, ints, low, some)) in
        let moves = subst (λ (v : ℤ). Steps v (end_at high (t +ℤ pos 1))) (sym last.1) (end_steps high t) in
        let s = row.stops (t +ℤ pos 1) (end_at high (t +ℤ pos 1)) even.after (inr (omega (arith, ints, low))) moves in
        let more = s.0 in
        let from : r.band.from ≤ℤ (t -ℤ pos 1) = omega (arith, ints, more) in
        let sooner = row.runs (t -ℤ pos 1) from (omega (arith, ints)) in
        let under = (begins_there r a (t -ℤ pos 1) from (omega (arith, ints))).1 in
        let least = sooner.some in
        let earlier = even.before in
        let first = same_run (between Parts r.source.0 r.target.0) (t -ℤ pos 1) _ _ _ _ sooner earlier (let l = earlier.some in omega (arith, ints, under, l)) (omega (arith, ints, under, least)) in
        let below = ends_go_on r.band.low (Moving (pos 0)) t (omega (arith, ints, under)) (omega (arith, ints, low)) in
        let above = ends_go_on r.band.high high t first.1 last.1 in
        s.1 (omega (arith, ints, below), above)

    -- no row begins behind a moment where the runs go on evenly
    none_begins : (q : Row) → Among rows q → (t : ℤ) → q.band.from ≡ t +ℤ pos 1 → IsEven q.source.0 q.source.0 t → ⊥
    none_begins q b t begin even =
        let o = q.source.0 in
        let here = even.here in
        let w = normal.whole (point o t) (point o t) (here.each t (omega (arith, ints)) here.some) in
        let p = w.0 in
        let i = w.2 in
        let from = i.pair.from in
        let to = i.pair.to in
        let span = (normal.each q b).span in
        by_lt_z p.band.to (t +ℤ pos 1)
        (λ lt.
        let e : t ≡ p.band.to = omega (arith, ints, lt, to) in
        let by_source = subst (λ (v : ℕ). IsEven v o t) (sym i.source) even in
        let by_target = subst (λ (v : ℕ). IsEven p.source.0 v t) (sym i.target) by_source in
        not_over p w.1 (subst (λ (v : ℤ). IsEven p.source.0 p.target.0 v) e by_target))
        (λ le.
        let u = t +ℤ pos 1 in
        let first = leads_itself p w.1 o i.source u (omega (arith, ints, from)) le in
        let second = leads_itself q b o refl u (omega (arith, ints, begin)) (omega (arith, ints, begin, span)) in
        let e = normal.once p q (point o u) (point o u) w.1 b first second in
        let f : p.band.from ≡ q.band.from = ap (λ (v : Row). v.band.from) e in
        omega (arith, ints, f, from, begin))

    -- the row is of the list, and begins there
    abbrev Begins : Row → Point → Type 0
    Begins r p = Among rows r × (point r.source.0 r.band.from ≡ p)

    begins_at_break : (r : Row) → Among rows r → (p : Point) × Among breaks p × Begins r p
    begins_at_break r a =
        let p = point r.source.0 r.band.from in
        elim (some_of (λ (v : Point). v ≡ p) (λ v. same_point v p) breaks) [
          | inl w ↦ (w.0, w.1, (a, sym w.2))
          | inr none ↦
              let t = r.band.from -ℤ pos 1 in
              let next : r.band.from ≡ t +ℤ pos 1 = omega (arith, ints) in
              let span = (normal.each r a).span in
              let i = leads_itself r a r.source.0 refl r.band.from (omega (arith, ints)) span in
              let h = itself p p (hold_only Parts rows normal p p (r, a, i)) in
              let there = subst (λ (v : ℤ). RowsHold one (point r.source.0 v) (point r.source.0 v)) next h in
              let clear : ¬ Among breaks (point r.source.0 (t +ℤ pos 1)) = λ m. none (p, subst (λ (v : ℤ). Among breaks (point r.source.0 v)) (sym next) m, refl) in
              absurd (none_begins r a t next (even r.source.0 t clear there))
        ]

    -- rows that begin at one point are one
    begin_apart : (part : List Row) → ((r : Row) → Among part r → Among rows r) → Ordered RowBefore part → Ordered (λ r s. (p : Point) → Begins r p → Begins s p → ⊥) part
    begin_apart [] all o = tt
    begin_apart (r ∷ rest) all o = (
      λ s b p own other.
          let e = own.1 ∙ sym other.1 in
          let from : r.band.from ≡ s.band.from = ap (λ (v : Point). v.moment) e in
          let source : r.source.0 ≡ s.source.0 = ap (λ (v : Point). v.object) e in
          let span = (normal.each r own.0).span in
          let more = (normal.each s other.0).span in
          let x = point r.source.0 r.band.from in
          let first = leads_itself r own.0 r.source.0 refl r.band.from (omega (arith, ints)) span in
          let second = leads_itself s other.0 r.source.0 (sym source) r.band.from (omega (arith, ints, from)) (omega (arith, ints, from, more)) in
          let one_of = normal.once r s x x own.0 other.0 first second in
          let k : RowBefore r r = subst (RowBefore r) (sym one_of) (o.0 s b) in
          row_apart r r k k,
      begin_apart rest (λ s b. all s (inr b)) o.1,
    )

    few_rows : length rows ≤ 6 * length steps + 2 * length one
    few_rows =
        let few = finders_fewer Begins rows breaks (begin_apart rows (λ r a. a) normal.order) begins_at_break in
        let count = breaks_count in
        omega (arith, few, count)

  pub along_fits : (limit : ℕ) → 6 * length steps + 2 * length one ≤ limit → Fits (IsAlong one steps n) limit
  along_fits limit le =
      let w = parts_there in
      let few = few_rows w.0 w.1 in
      fits_alike Parts (IsAlong one steps n) (λ x y h. from_parts steps formed on free one same inside n x y h) (λ x y h. to_parts steps formed on free one same inside n x y h) limit
      (w.0, w.1, omega (arith, few, le))
