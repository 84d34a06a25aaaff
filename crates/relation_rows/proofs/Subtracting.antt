-- A difference, one source and target after the other.
use Rattle.std.proofs.Common.{◌≡◌, ◌↔◌, ◌⊎◌, inl, inr, ⊎_elim, ℕ, ◌<◌, ℤ, List, [], take, drop, Some, None, refl, sym, ◌∙◌, subst, arith}
use Rattle.std.specs.Prelude.{slice_get}
use Rattle.std.proofs.lemmas.Bool.Decides.{eqb_tells}
use Rattle.itpg_base.specs.Points.{Point}
use Rattle.zone_core.specs.declared.Bounds.{Bounds}
use Rattle.itpg_base.specs.Lists.{Among, Ordered}
use Rattle.band_normal.specs.Bands.{IsWellFormed}
use Rattle.band_normal.specs.Zones.{SomeMeets}
use Rattle.relation_rows.specs.declared.rows.Row.{Row}
use Rattle.relation_rows.specs.Rows.{HasKey, KeyBefore, RowsHold, RowBefore}
use Rattle.relation_rows.specs.Relations.{Item, ItemsHold, OnlyFirstHolds}
use Rattle.relation_rows.specs.Uniting.{KeyUpTo, SomeHasBand}
use Rattle.relation_rows.specs.Minus.{OnlyFirstHasBand, IsLeftAcross}
use Rattle.relation_rows.proofs.Listed.{key_apart}
use Rattle.relation_rows.proofs.Partitions.{among_either, front_among, rest_among, rest_ordered, first_among, none_dropped, no_first}
use Rattle.relation_rows.proofs.Merged.{all_up}

-- ---- the first rows that have one source and target

module _ (rows : List Row) (first : Row) (order : Ordered RowBefore rows) (is : slice_get rows 0 ≡ Some first) where
  abbrev o : ℕ
  o = first.source.0

  abbrev p : ℕ
  p = first.target.0

  pub group_up : (r : Row) → Among rows r → KeyUpTo first r
  group_up = all_up rows first order (sym is)

  pub group_some : (n : ℕ) → ((r : Row) → Among (drop n rows) r → KeyBefore o p r.source.0 r.target.0) → 0 < n
  group_some n later = elim (eqb_tells n 0) [
    | inl e ↦ absurd (key_apart o p o p (later first (subst (λ (v : ℕ). Among (drop v rows) first) (sym e.1) (subst (λ (v : List Row). Among v first) (sym (none_dropped rows)) (first_among rows first is)))) refl refl)
    | inr e ↦ (let ne = e.1 in omega arith)
  ]

-- what is left of the first rows but for those that weren't taken yet
pub record HasSubtracted (first second left : List Row) (items : List Item) : Type 0 where
  pub order : Ordered RowBefore left
  pub there : (r : Row) → Among left r → Among first r
  pub holds : (x y : Point) → (ItemsHold items x y ⊎ OnlyFirstHolds left second x y) ↔ OnlyFirstHolds first second x y

pub start : (first second : List Row) (items : List Item) → items ≡ [] → Ordered RowBefore first → HasSubtracted first second first items
start first second items e order = record {
  order = order;
  there = λ r a. a;
  holds = λ x y. (λ h. ⊎_elim (λ a. absurd ((subst (λ (v : List Item). ItemsHold v x y) e a).1)) (λ a. a) h, λ h. inr h);
}

module _ (first second left : List Row) (items : List Item) (g : HasSubtracted first second left items) (row : Row) (n : ℕ)
    (same : (r : Row) → Among (take n left) r → HasKey r row.source.0 row.target.0)
    (group later cuts : List Row) (front : group ≡ take n left) (back : later ≡ drop n left)
    (are : (r : Row) → Among cuts r ↔ (Among second r × HasKey r row.source.0 row.target.0))
    (next : List Item) (pushed : (x : Point) (y : Point) → ItemsHold next x y ↔ (ItemsHold items x y ⊎ IsLeftAcross row group cuts x y)) where
  of_group : (r : Row) → Among group r → HasKey r row.source.0 row.target.0
  of_group r a = same r (subst (λ (v : List Row). Among v r) front a)

  from_group : (x y : Point) → HasKey row x.object y.object → OnlyFirstHasBand group cuts x.moment y.moment → OnlyFirstHolds left second x y
  from_group x y k h =
      let r = h.0 in
      let key = of_group r.0 r.1 in (
        (r.0, front_among left n r.0 (subst (λ (v : List Row). Among v r.0) front r.1), record { source = key.0 ∙ k.0; target = key.1 ∙ k.1; pair = r.2 }),
        λ (s : RowsHold second x y). let i = s.2 in h.1 (s.0, (are s.0).1 (s.1, (i.source ∙ sym k.0, i.target ∙ sym k.1)), i.pair),
      )

  from_later : (x y : Point) → OnlyFirstHolds later second x y → OnlyFirstHolds left second x y
  from_later x y h = let r = h.0 in ((r.0, rest_among left n r.0 (subst (λ (v : List Row). Among v r.0) back r.1), r.2), h.1)

  either : (x y : Point) → OnlyFirstHolds left second x y → (HasKey row x.object y.object × OnlyFirstHasBand group cuts x.moment y.moment) ⊎ OnlyFirstHolds later second x y
  either x y h =
      let r = h.0 in
      let i = r.2 in
      ⊎_elim
      (λ a.
      let k = same r.0 a in
      inl (
        (sym k.0 ∙ i.source, sym k.1 ∙ i.target),
        (
          (r.0, subst (λ (v : List Row). Among v r.0) (sym front) a, i.pair),
          λ (s : SomeHasBand cuts x.moment y.moment). let m = (are s.0).0 s.1 in h.1 (s.0, m.0, record { source = (m.1).0 ∙ sym k.0 ∙ i.source; target = (m.1).1 ∙ sym k.1 ∙ i.target; pair = s.2 }),
        ),
      ))
      (λ a. inr ((r.0, subst (λ (v : List Row). Among v r.0) (sym back) a, r.2), h.1))
      (among_either left n r.0 r.1)

  pub next_subtracted : HasSubtracted first second later next
  next_subtracted = record {
    order = subst (λ (v : List Row). Ordered RowBefore v) (sym back) (rest_ordered RowBefore left n g.order);
    there = λ r a. g.there r (rest_among left n r (subst (λ (v : List Row). Among v r) back a));
    holds = λ x y. (
      λ h. (g.holds x y).0 (⊎_elim
          (λ a. ⊎_elim (λ b. inl b) (λ b. inr (from_group x y b.0 b.1)) ((pushed x y).0 a))
          (λ a. inr (from_later x y a))
          h),
      λ h. ⊎_elim
          (λ a. inl ((pushed x y).1 (inl a)))
          (λ a. ⊎_elim (λ b. inl ((pushed x y).1 (inr b))) (λ b. inr b) (either x y a))
          ((g.holds x y).1 h),
    );
  }

pub group_keyed : (left : List Row) (row : Row) (n : ℕ) → ((r : Row) → Among (take n left) r → HasKey r row.source.0 row.target.0) → (group : List Row) → group ≡ take n left
    → (r : Row) → Among group r → HasKey r row.source.0 row.target.0
group_keyed left row n same group e r a = same r (subst (λ (v : List Row). Among v r) e a)

-- without a cut all is left
pub uncut_left : (row : Row) (group cuts : List Row) → ((r : Row) → Among group r → HasKey r row.source.0 row.target.0) → cuts ≡ [] → (old new : List Item)
    → ((x y : Point) → ItemsHold new x y ↔ (ItemsHold old x y ⊎ RowsHold group x y)) → (x y : Point) → ItemsHold new x y ↔ (ItemsHold old x y ⊎ IsLeftAcross row group cuts x y)
uncut_left row group cuts keyed none old new pushed x y = (
  λ h. ⊎_elim (λ a. inl a) (λ (a : RowsHold group x y). inr (across a)) ((pushed x y).0 h),
  λ h. (pushed x y).1 (⊎_elim (λ a. inl a) (λ (a : IsLeftAcross row group cuts x y). inr (held a)) h),
)
  where
    across : RowsHold group x y → IsLeftAcross row group cuts x y
    across h =
        let k = keyed h.0 h.1 in
        let i = h.2 in
        ((sym k.0 ∙ i.source, sym k.1 ∙ i.target), ((h.0, h.1, i.pair), λ (s : SomeHasBand cuts x.moment y.moment). absurd (subst (λ (v : List Row). Among v s.0) none s.1)))

    held : IsLeftAcross row group cuts x y → RowsHold group x y
    held h =
        let r = (h.1).0 in
        let k = keyed r.0 r.1 in
        (r.0, r.1, record { source = k.0 ∙ (h.0).0; target = k.1 ∙ (h.0).1; pair = r.2 })

-- the zones of what is left, read and pushed
pub zones_left : (row : Row) (group cuts : List Row) (zones read : List Bounds) → ((t u : ℤ) → SomeMeets zones t u ↔ OnlyFirstHasBand group cuts t u) → read ≡ zones → (old new : List Item)
    → ((x y : Point) → ItemsHold new x y ↔ (ItemsHold old x y ⊎ (HasKey row x.object y.object × SomeMeets read x.moment y.moment))) → (x y : Point) → ItemsHold new x y ↔ (ItemsHold old x y ⊎ IsLeftAcross row group cuts x y)
zones_left row group cuts zones read is e old new pushed x y =
    let left = subst (λ (v : List Bounds). SomeMeets v x.moment y.moment ↔ OnlyFirstHasBand group cuts x.moment y.moment) (sym e) (is x.moment y.moment) in (
      λ h. ⊎_elim (λ a. inl a) (λ a. inr (a.0, left.0 a.1)) ((pushed x y).0 h),
      λ h. (pushed x y).1 (⊎_elim (λ a. inl a) (λ a. inr (a.0, left.1 a.1)) h),
    )

pub all_subtracted : (first second left : List Row) (items : List Item) → None ≡ slice_get left 0 → HasSubtracted first second left items → (x y : Point) → ItemsHold items x y ↔ OnlyFirstHolds first second x y
all_subtracted first second left items none g x y =
    let e = no_first left none in (
      λ h. (g.holds x y).0 (inl h),
      λ h. ⊎_elim (λ a. a) (λ (a : OnlyFirstHolds left second x y). let r = a.0 in absurd (subst (λ (v : List Row). Among v r.0) e r.1)) ((g.holds x y).1 h),
    )

pub group_formed : (first second left : List Row) (items : List Item) → HasSubtracted first second left items → (n : ℕ) (group : List Row) → group ≡ take n left → ((r : Row) → Among first r → IsWellFormed r.band) → (r : Row) → Among group r → IsWellFormed r.band
group_formed first second left items g n group e formed r a = formed r (g.there r (front_among left n r (subst (λ (v : List Row). Among v r) e a)))
