-- Rows of steps that are read one after the other, and their zones.
use Rattle.std.proofs.Common.{◌≡◌, ◌↔◌, ◌⊎◌, inl, inr, ⊎_elim, ℕ, ◌+◌, ◌<◌, ◌≤◌, ℤ, pos, ◌+ℤ◌, List, [], ◌∷◌, ◌++◌, length, min, slice_index_or, take, refl, subst, sym, arith}
use Rattle.std.proofs.lemmas.Int.{ints}
use Rattle.std.proofs.lemmas.List.{take_more, take_all}
use Rattle.itpg_base.specs.Lists.{Among}
use Rattle.itpg_base.specs.Points.{Point}
use Rattle.itpg_base.proofs.Lists.{among_append, append_first, append_second}
use Rattle.itpg_base.proofs.Searches.{at_most}
use Rattle.zone_core.specs.declared.Bounds.{Bounds}
use Rattle.zone_core.specs.Zone.{IsNear, Meets, Within, moment_reach}
use Rattle.band_normal.specs.Bands.{IsWellFormed}
use Rattle.relation_rows.specs.declared.rows.Row.{Row}
use Rattle.relation_rows.specs.Relations.{Item, ItemsHold}
use Rattle.relation_rows.specs.Rows.{NormalRows, RowsHold}
use Rattle.relation_rows.proofs.Alike.{hold_only, rows_hold}
use Rattle.relation_rows.proofs.Pushing.{items_more}
use Rattle.wide_witness.specs.Along.{AlongBand, AlongRow, AlongRows, LeadOneOn, LeadsOneOn}

-- ---- rows that are read

pub none_on : (rows : List Row) → LeadOneOn (take 0 rows)
none_on [] r a = absurd a
none_on (s ∷ rs) r a = absurd a

pub one_more_on : (rows : List Row) (k : ℕ) (d : Row) → k < length rows → LeadsOneOn (slice_index_or rows k d) → LeadOneOn (take k rows) → LeadOneOn (take (k + 1) rows)
one_more_on rows k d lt on so r a = ⊎_elim
    (λ b. so r b)
    (λ b. ⊎_elim (λ (e : slice_index_or rows k d ≡ r). subst LeadsOneOn e on) (λ i. absurd i) b)
    (among_append (take k rows) (slice_index_or rows k d ∷ []) r (subst (λ (v : List Row). Among v r) (take_more rows k d lt) a))

pub all_on : (rows : List Row) (k : ℕ) → length rows ≤ k → LeadOneOn (take k rows) → LeadOneOn rows
all_on rows k le so = subst LeadOneOn (take_all k rows le) so

-- ---- zones

-- the bounds of what at most so many steps of the band lead to
abbrev pub along_bounds : ℤ → ℤ → ℤ → Bounds
along_bounds from last farthest = record { a = from; b = last; c = from; d = last; e = pos 0; f = farthest }

-- where a row of steps leads last is in range
pub last_near : (r : Row) → IsWellFormed r.band → LeadsOneOn r → Within moment_reach (r.band.to +ℤ pos 1)
last_near r formed on =
    let span = formed.span in
    let near = formed.low r.band.to span (omega (arith, ints)) in
    let is = on.low r.band.to span (omega (arith, ints)) in
    subst (Within moment_reach) is near

pub along_near : (r : Row) → IsWellFormed r.band → LeadsOneOn r → (m : ℕ) → m ≤ 8000000000000 → IsNear (along_bounds r.band.from (r.band.to +ℤ pos 1) (pos m))
along_near r formed on m le =
    let last = last_near r formed on in
    record {
      a = formed.from;
      b = last;
      c = formed.from;
      d = last;
      e = record { above = omega (arith, ints); below = omega (arith, ints) };
      f = record { above = omega (arith, ints, le); below = omega (arith, ints, le) };
    }

pub along_some : (r : Row) → IsWellFormed r.band → (m : ℕ) → Meets (along_bounds r.band.from (r.band.to +ℤ pos 1) (pos m)) r.band.from r.band.from
along_some r formed m =
    let span = formed.span in
    record { from = omega (arith, ints); to = omega (arith, ints, span); low = omega (arith, ints); high = omega (arith, ints, span); least = omega (arith, ints); most = omega (arith, ints) }

pub along_meets : (r : Row) → IsWellFormed r.band → LeadsOneOn r → (m most : ℕ) → m ≤ most → (m ≡ most) ⊎ (m ≡ 8000000000000)
    → (t : ℤ) (u : ℤ) → Meets (along_bounds r.band.from (r.band.to +ℤ pos 1) (pos m)) t u ↔ AlongBand r.band most t u
along_meets r formed on m most le is t u = (
  λ h.
      let from = h.from in
      let high = h.high in
      let least = h.least in
      let far = h.most in
      record { from = from; order = omega (arith, ints, least); to = high; near = omega (arith, ints, far, le) },
  λ h.
      let from = h.from in
      let order = h.order in
      let to = h.to in
      let near = h.near in
      let first = formed.from.above in
      let last = (last_near r formed on).below in
      record {
        from = from;
        to = omega (arith, ints, order, to);
        low = omega (arith, ints, from, order);
        high = to;
        least = omega (arith, ints, order);
        most = ⊎_elim (λ e. omega (arith, ints, near, e)) (λ e. omega (arith, ints, from, to, first, last, e)) is;
      },
)

-- the lesser of two numbers is one of them
pub least_of : (m a b : ℕ) → m ≡ min a b → (m ≡ a) ⊎ (m ≡ b)
least_of m a b e = elim (at_most a b) [ inl le ↦ inl (omega (arith, e, le)) | inr gt ↦ inr (omega (arith, e, gt)) ]

-- ---- items that are pushed

along_more : (rows : List Row) (k : ℕ) (d : Row) (most : ℕ) → k < length rows → (x y : Point) → AlongRows (take (k + 1) rows) most x y ↔ (AlongRows (take k rows) most x y ⊎ AlongRow (slice_index_or rows k d) most x y)
along_more rows k d most lt x y =
    let r : Row = slice_index_or rows k d in
    let e = take_more rows k d lt in (
      λ h. ⊎_elim
          (λ j. inl (h.0, j, h.2))
          (λ j. ⊎_elim (λ (g : slice_index_or rows k d ≡ h.0). inr (subst (λ (v : Row). AlongRow v most x y) (sym g) h.2)) (λ i. absurd i) j)
          (among_append (take k rows) (r ∷ []) h.0 (subst (λ (v : List Row). Among v h.0) e h.1)),
      λ h. ⊎_elim
          (λ j. (j.0, subst (λ (v : List Row). Among v j.0) (sym e) (append_first (take k rows) (r ∷ []) j.0 j.1), j.2))
          (λ j. (r, subst (λ (v : List Row). Among v r) (sym e) (append_second (take k rows) (r ∷ []) r (inl refl)), j))
          h,
    )

pub item_pushed : (items now next : List Item) (rows : List Row) (k : ℕ) (d : Row) (z : Bounds) (most : ℕ) → k < length rows
    → next ≡ now ++ ((slice_index_or rows k d).source, (slice_index_or rows k d).source, z) ∷ []
    → ((t u : ℤ) → Meets z t u ↔ AlongBand (slice_index_or rows k d).band most t u)
    → ((x y : Point) → ItemsHold now x y ↔ (ItemsHold items x y ⊎ AlongRows (take k rows) most x y))
    → (x y : Point) → ItemsHold next x y ↔ (ItemsHold items x y ⊎ AlongRows (take (k + 1) rows) most x y)
item_pushed items now next rows k d z most lt e meets old x y =
    let r : Row = slice_index_or rows k d in
    let more = items_more now next (r.source, r.source, z) e x y in
    let read = along_more rows k d most lt x y in (
      λ h. ⊎_elim
          (λ a. ⊎_elim (λ b. inl b) (λ b. inr (read.1 (inl b))) ((old x y).0 a))
          (λ a. inr (read.1 (inr (record { source = a.source; target = a.target; pair = (meets x.moment y.moment).0 a.pair }))))
          (more.0 h),
      λ h. ⊎_elim
          (λ a. more.1 (inl ((old x y).1 (inl a))))
          (λ a. ⊎_elim
          (λ b. more.1 (inl ((old x y).1 (inr b))))
          (λ b. more.1 (inr (record { source = b.source; target = b.target; pair = (meets x.moment y.moment).1 b.pair })))
          (read.0 a))
          h,
    )

pub none_pushed : (items : List Item) (rows : List Row) (most : ℕ) (x y : Point) → ItemsHold items x y ↔ (ItemsHold items x y ⊎ AlongRows (take 0 rows) most x y)
none_pushed items [] most x y = (λ h. inl h, λ h. ⊎_elim (λ a. a) (λ a. absurd a.1) h)
none_pushed items (r ∷ rs) most x y = (λ h. inl h, λ h. ⊎_elim (λ a. a) (λ a. absurd a.1) h)

pub all_pushed : (items now : List Item) (rows : List Row) (k : ℕ) (most : ℕ) → length rows ≤ k
    → ((x y : Point) → ItemsHold now x y ↔ (ItemsHold items x y ⊎ AlongRows (take k rows) most x y)) → (x y : Point) → ItemsHold now x y ↔ (ItemsHold items x y ⊎ AlongRows rows most x y)
all_pushed items now rows k most le = subst (λ (v : List Row). (x y : Point) → ItemsHold now x y ↔ (ItemsHold items x y ⊎ AlongRows v most x y)) (take_all k rows le)

-- what the rows hold that were made of such items
pub rows_made : (one steps all : List Row) (none first items : List Item) (most : ℕ) → none ≡ [] → ((x y : Point) → ItemsHold first x y ↔ (ItemsHold none x y ⊎ RowsHold one x y))
    → ((x y : Point) → ItemsHold items x y ↔ (ItemsHold first x y ⊎ AlongRows steps most x y)) → NormalRows (ItemsHold items) all
    → (x y : Point) → RowsHold all x y ↔ (RowsHold one x y ⊎ AlongRows steps most x y)
rows_made one steps all none first items most e front back normal x y = (
  λ h. ⊎_elim
      (λ a. ⊎_elim (λ b. let i = subst (λ (v : List Item). ItemsHold v x y) e b in absurd i.1) (λ b. inl b) ((front x y).0 a))
      (λ a. inr a)
      ((back x y).0 (hold_only (ItemsHold items) all normal x y h)),
  λ h. rows_hold (ItemsHold items) all normal x y ((back x y).1 (⊎_elim (λ a. inl ((front x y).1 (inr a))) (λ a. inr a) h)),
)
