-- What is kept of rows in order, one source and target after the other.
use Rattle.std.proofs.Common.{◌≡◌, ◌↔◌, ◌⊎◌, inl, inr, ⊎_elim, ℕ, ℤ, pos, neg_ℤ, ◌≤ℤ◌, List, [], ◌∷◌, take, drop, None, refl, sym, ◌∙◌, subst, arith}
use Rattle.std.specs.Prelude.{slice_get}
use Rattle.std.proofs.lemmas.Int.{ints}
use Rattle.zone_core.specs.Zone.{moment_reach}
use Rattle.itpg_base.specs.Points.{Point, Relation}
use Rattle.zone_core.specs.declared.Bounds.{Bounds}
use Rattle.itpg_base.specs.Lists.{Among, Ordered}
use Rattle.band_normal.specs.Bands.{InBand, IsWellFormed}
use Rattle.band_normal.specs.Zones.{SomeMeets}
use Rattle.relation_rows.specs.declared.rows.Row.{Row}
use Rattle.relation_rows.specs.Rows.{HasKey, RowBefore, RowsHold}
use Rattle.relation_rows.specs.Relations.{Item, ItemsHold}
use Rattle.relation_rows.proofs.Partitions.{among_either, front_among, rest_among, rest_ordered}
use Rattle.arrivals.specs.Firsts.{Least, Latest, LeastOf, LatestOf, SomeOf}
use Rattle.arrivals.specs.declared.picking.Choice.TheVariants.{First, Last}
use Rattle.arrivals.specs.Choosing.{Beats, Unbeaten, Chosen, InBandOf}

-- ---- the two choices

pub least_unbeaten : (R : ℤ → ℤ → Type 0) (t u : ℤ) → LeastOf R t u ↔ Unbeaten (Beats First) R t u
least_unbeaten R t u = (
  λ h. (h.0, λ s v b r. h.1 v b.1 (subst (λ (w : ℤ). R w v) b.0 r)),
  λ h. (h.0, λ v lt r. h.1 t v (refl, lt) r),
)

pub latest_unbeaten : (R : ℤ → ℤ → Type 0) (t u : ℤ) → LatestOf R t u ↔ Unbeaten (Beats Last) R t u
latest_unbeaten R t u = (
  λ h. (h.0, λ s v b r. h.1 s b.1 (subst (λ (w : ℤ). R s w) b.0 r)),
  λ h. (h.0, λ s lt r. h.1 s u (refl, lt) r),
)

pub chosen_least : (R : Relation) (x y : Point) → Chosen (Beats First) R x y ↔ Least R x y
chosen_least R x y = (
  λ h. (h.0, λ v lt r. h.1 x.moment v (refl, lt) r),
  λ h. (h.0, λ s v b r. h.1 v b.1 (subst (λ (w : ℤ). R (record { object = x.object; moment = w }) (record { object = y.object; moment = v })) b.0 r)),
)

pub chosen_latest : (R : Relation) (x y : Point) → Chosen (Beats Last) R x y ↔ Latest R x y
chosen_latest R x y = (
  λ h. (h.0, λ s lt r. h.1 s y.moment (refl, lt) r),
  λ h. (h.0, λ s v b r. h.1 s b.1 (subst (λ (w : ℤ). R (record { object = x.object; moment = s }) (record { object = y.object; moment = w })) b.0 r)),
)

pub unbeaten_like : (B : ℤ → ℤ → ℤ → ℤ → Type 0) (R S : ℤ → ℤ → Type 0) → ((t : ℤ) (u : ℤ) → R t u ↔ S t u) → (t u : ℤ) → Unbeaten B R t u → Unbeaten B S t u
unbeaten_like B R S f t u h = ((f t u).0 h.0, λ s v b r. h.1 s v b ((f s v).1 r))

-- ---- one source and target more

module _ (B : ℤ → ℤ → ℤ → ℤ → Type 0) where
  -- what is kept of the rows but for those that weren't taken yet
  pub record HasChosen (rows left : List Row) (items : List Item) : Type 0 where
    pub order : Ordered RowBefore left
    pub there : (r : Row) → Among left r → Among rows r
    pub holds : (x y : Point) → (ItemsHold items x y ⊎ Chosen B (RowsHold left) x y) ↔ Chosen B (RowsHold rows) x y

  pub start : (rows : List Row) (items : List Item) → items ≡ [] → Ordered RowBefore rows → HasChosen rows rows items
  start rows items e order = record {
    order = order;
    there = λ r a. a;
    holds = λ x y. (λ h. ⊎_elim (λ a. absurd ((subst (λ (v : List Item). ItemsHold v x y) e a).1)) (λ a. a) h, λ h. inr h);
  }

  module _ (o p : ℕ) (left group later : List Row) (n : ℕ) (front : group ≡ take n left) (back : later ≡ drop n left)
      (same : (r : Row) → Among (take n left) r → HasKey r o p) (other : (r : Row) → Among (drop n left) r → HasKey r o p → ⊥) where
    in_group : (r : Row) → Among group r → Among left r × HasKey r o p
    in_group r a = let b = subst (λ (v : List Row). Among v r) front a in (front_among left n r b, same r b)

    in_later : (r : Row) → Among later r → Among left r × (HasKey r o p → ⊥)
    in_later r a = let b = subst (λ (v : List Row). Among v r) back a in (rest_among left n r b, other r b)

    either : (r : Row) → Among left r → Among group r ⊎ Among later r
    either r a = ⊎_elim (λ b. inl (subst (λ (v : List Row). Among v r) (sym front) b)) (λ b. inr (subst (λ (v : List Row). Among v r) (sym back) b)) (among_either left n r a)

    -- the rows of the group have the pairs of this source and target
    held : (x y : Point) → x.object ≡ o → y.object ≡ p → RowsHold left x y → SomeOf InBandOf group x.moment y.moment
    held x y e f h =
        let i = h.2 in
        ⊎_elim (λ a. (h.0, a, i.pair)) (λ a. absurd ((in_later h.0 a).1 (i.source ∙ e, i.target ∙ f))) (either h.0 h.1)

    grouped : (x y : Point) → x.object ≡ o → y.object ≡ p → SomeOf InBandOf group x.moment y.moment → RowsHold left x y
    grouped x y e f h = let k = in_group h.0 h.1 in (h.0, k.0, record { source = (k.1).0 ∙ sym e; target = (k.1).1 ∙ sym f; pair = h.2 })

    from_later : (x y : Point) → RowsHold later x y → RowsHold left x y
    from_later x y h = (h.0, (in_later h.0 h.1).0, h.2)

    -- and the others those of other sources and targets
    to_later : (x y z w : Point) → RowsHold later x y → z.object ≡ x.object → w.object ≡ y.object → RowsHold left z w → RowsHold later z w
    to_later x y z w l e f h =
        let i = l.2 in
        let j = h.2 in
        ⊎_elim
        (λ a. let k = (in_group h.0 a).1 in absurd ((in_later l.0 l.1).1 (i.source ∙ sym e ∙ sym j.source ∙ k.0, i.target ∙ sym f ∙ sym j.target ∙ k.1)))
        (λ a. (h.0, a, j))
        (either h.0 h.1)

    pub chosen_split : (x y : Point) → Chosen B (RowsHold left) x y → ((o ≡ x.object) × (p ≡ y.object) × Unbeaten B (SomeOf InBandOf group) x.moment y.moment) ⊎ Chosen B (RowsHold later) x y
    chosen_split x y h =
        let r = h.0 in
        let i = r.2 in
        ⊎_elim
        (λ a.
        let k = (in_group r.0 a).1 in
        let e = sym i.source ∙ k.0 in
        let f = sym i.target ∙ k.1 in
        inl (sym e, sym f, ((r.0, a, i.pair), λ s v b q. h.1 s v b (grouped (record { object = x.object; moment = s }) (record { object = y.object; moment = v }) e f q))))
        (λ a. inr ((r.0, a, i), λ s v b q. h.1 s v b (from_later _ _ q)))
        (either r.0 r.1)

    pub group_chosen : (x y : Point) → o ≡ x.object → p ≡ y.object → Unbeaten B (SomeOf InBandOf group) x.moment y.moment → Chosen B (RowsHold left) x y
    group_chosen x y e f h = (grouped x y (sym e) (sym f) h.0, λ s v b q. h.1 s v b (held (record { object = x.object; moment = s }) (record { object = y.object; moment = v }) (sym e) (sym f) q))

    pub later_chosen : (x y : Point) → Chosen B (RowsHold later) x y → Chosen B (RowsHold left) x y
    later_chosen x y h = (from_later x y h.0, λ s v b q. h.1 s v b (to_later x y (record { object = x.object; moment = s }) (record { object = y.object; moment = v }) h.0 refl refl q))

  module _ (rows left group later : List Row) (items next : List Item) (g : HasChosen rows left items) (first : Row) (n : ℕ) (front : group ≡ take n left) (back : later ≡ drop n left)
      (same : (r : Row) → Among (take n left) r → HasKey r first.source.0 first.target.0) (other : (r : Row) → Among (drop n left) r → HasKey r first.source.0 first.target.0 → ⊥)
      (zones zones' : List Bounds) (read : zones' ≡ zones) (kept : (t : ℤ) (u : ℤ) → SomeMeets zones t u ↔ Unbeaten B (SomeOf InBandOf group) t u)
      (pushed : (x : Point) (y : Point) → ItemsHold next x y ↔ (ItemsHold items x y ⊎ (HasKey first x.object y.object × SomeMeets zones' x.moment y.moment))) where
    meets : (t u : ℤ) → SomeMeets zones' t u ↔ Unbeaten B (SomeOf InBandOf group) t u
    meets t u = subst (λ (v : List Bounds). SomeMeets v t u ↔ Unbeaten B (SomeOf InBandOf group) t u) (sym read) (kept t u)

    pub next_chosen : HasChosen rows later next
    next_chosen = record {
      order = subst (λ (v : List Row). Ordered RowBefore v) (sym back) (rest_ordered RowBefore left n g.order);
      there = λ r a. g.there r (rest_among left n r (subst (λ (v : List Row). Among v r) back a));
      holds = λ x y. (
        λ h. (g.holds x y).0 (⊎_elim
            (λ a. ⊎_elim
            (λ b. inl b)
            (λ b. inr (group_chosen first.source.0 first.target.0 left group later n front back same other x y (b.0).0 (b.0).1 ((meets x.moment y.moment).0 b.1)))
            ((pushed x y).0 a))
            (λ a. inr (later_chosen first.source.0 first.target.0 left group later n front back same other x y a))
            h),
        λ h. ⊎_elim
            (λ a. inl ((pushed x y).1 (inl a)))
            (λ a. ⊎_elim
            (λ b. inl ((pushed x y).1 (inr ((b.0, b.1), (meets x.moment y.moment).1 b.2))))
            (λ b. inr b)
            (chosen_split first.source.0 first.target.0 left group later n front back same other x y a))
            ((g.holds x y).1 h),
      );
    }

  no_first : (left : List Row) → None ≡ slice_get left 0 → left ≡ []
  no_first [] e = refl
  no_first (i ∷ is) e = let none : ⊥ = cc in absurd none

  pub all_chosen : (rows left : List Row) (items : List Item) → None ≡ slice_get left 0 → HasChosen rows left items → (x y : Point) → ItemsHold items x y ↔ Chosen B (RowsHold rows) x y
  all_chosen rows left items none g x y =
      let e = no_first left none in (
        λ h. (g.holds x y).0 (inl h),
        λ h. ⊎_elim (λ a. a) (λ (a : Chosen B (RowsHold left) x y). let r = a.0 in absurd (subst (λ (v : List Row). Among v r.0) e r.1)) ((g.holds x y).1 h),
      )

  pub group_formed : (rows left : List Row) (items : List Item) → HasChosen rows left items → (n : ℕ) (group : List Row) → group ≡ take n left → ((r : Row) → Among rows r → IsWellFormed r.band) → (r : Row) → Among group r → IsWellFormed r.band
  group_formed rows left items g n group e formed r a = formed r (g.there r (front_among left n r (subst (λ (v : List Row). Among v r) e a)))

-- ---- what is kept of rows, by their zones

module _ (rows : List Row) (formed : (r : Row) → Among rows r → IsWellFormed r.band) (zones : List Bounds) (pairs : (t : ℤ) (u : ℤ) → SomeMeets zones t u ↔ SomeOf InBandOf rows t u) where
  pub rows_reach : (t : ℤ) (u : ℤ) → SomeMeets zones t u → u ≤ℤ pos moment_reach
  rows_reach t u h =
      let w = (pairs t u).0 h in
      let i : InBand w.0.band t u = w.2 in
      let high = ((formed w.0 w.1).high t i.from i.to).below in
      let at = i.high in
      omega (arith, ints)

  pub rows_late : (t : ℤ) (u : ℤ) → SomeMeets zones t u → neg_ℤ (pos moment_reach) ≤ℤ t
  rows_late t u h =
      let w = (pairs t u).0 h in
      let i : InBand w.0.band t u = w.2 in
      let low = (formed w.0 w.1).from.above in
      let at = i.from in
      omega (arith, ints)

  pub first_kept : (kept : List Bounds) → ((t : ℤ) (u : ℤ) → SomeMeets kept t u ↔ LeastOf (SomeMeets zones) t u) → (t : ℤ) (u : ℤ) → SomeMeets kept t u ↔ Unbeaten (Beats First) (SomeOf InBandOf rows) t u
  first_kept kept are t u = (
    λ h. unbeaten_like (Beats First) (SomeMeets zones) (SomeOf InBandOf rows) pairs t u ((least_unbeaten (SomeMeets zones) t u).0 ((are t u).0 h)),
    λ h. (are t u).1 ((least_unbeaten (SomeMeets zones) t u).1 (unbeaten_like (Beats First) (SomeOf InBandOf rows) (SomeMeets zones) (λ s v. ((pairs s v).1, (pairs s v).0)) t u h)),
  )

  pub last_kept : (kept : List Bounds) → ((t : ℤ) (u : ℤ) → SomeMeets kept t u ↔ LatestOf (SomeMeets zones) t u) → (t : ℤ) (u : ℤ) → SomeMeets kept t u ↔ Unbeaten (Beats Last) (SomeOf InBandOf rows) t u
  last_kept kept are t u = (
    λ h. unbeaten_like (Beats Last) (SomeMeets zones) (SomeOf InBandOf rows) pairs t u ((latest_unbeaten (SomeMeets zones) t u).0 ((are t u).0 h)),
    λ h. (are t u).1 ((latest_unbeaten (SomeMeets zones) t u).1 (unbeaten_like (Beats Last) (SomeOf InBandOf rows) (SomeMeets zones) (λ s v. ((pairs s v).1, (pairs s v).0)) t u h)),
  )
