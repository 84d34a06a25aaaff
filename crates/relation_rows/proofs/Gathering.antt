-- Rows gathered from items in order, one source and target after the other.
use Rattle.std.proofs.Common.{◌≡◌, ◌↔◌, ◌⊎◌, inl, inr, ⊎_elim, ℕ, ◌<◌, ℤ, List, [], ◌∷◌, ◌++◌, length, map, take, drop, Some, None, refl, sym, ◌∙◌, ap, subst, arith}
use Rattle.std.specs.Prelude.{slice_get}
use Rattle.itpg_base.specs.Points.{Point}
use Rattle.zone_core.specs.Zone.{Meets}
use Rattle.band_normal.specs.declared.band.Band.{Band}
use Rattle.itpg_base.specs.Lists.{Among, Ordered}
use Rattle.band_normal.specs.Bands.{IsWellFormed}
use Rattle.band_normal.specs.Normal.{Normal}
use Rattle.band_normal.specs.Zones.{SomeMeets}
use Rattle.itpg_base.proofs.Lists.{among_append}
use Rattle.band_normal.proofs.Sorting.{normal_like}
use Rattle.relation_rows.specs.declared.rows.Row.{Row}
use Rattle.relation_rows.specs.Rows.{between, KeyBefore, NormalRows, IsWide, rows_at}
use Rattle.relation_rows.specs.Relations.{Item, ItemsHold}
use Rattle.relation_rows.specs.Gathering.{HaveOneKey, ItemUpTo}
use Rattle.relation_rows.proofs.Listed.{Listed, normal_of, with_key, wide_early, key_apart, at_among}
use Rattle.relation_rows.proofs.Partitions.{among_either, front_among, rest_among, rest_ordered, first_among, no_first}

-- the key comes before those of the items
abbrev pub Ahead : List Item → ℕ → ℕ → Type 0
Ahead left o p = (i : Item) → Among left i → KeyBefore o p i.0.0 i.1.0

-- the rows are those of all items but the ones that are left
pub record HasGathered (items left : List Item) (rows : List Row) : Type 0 where
  pub listed : Listed (ItemsHold items) (Ahead left) rows
  pub formed : (r : Row) → Among rows r → IsWellFormed r.band
  pub order : Ordered ItemUpTo left
  pub there : (i : Item) → Among left i → Among items i
  pub each : (i : Item) → Among items i → Ahead left i.0.0 i.1.0 ⊎ Among left i

pub some_meets : (items : List Item) (i : Item) (t u : ℤ) → Among items i → Meets i.2 t u → SomeMeets (map (λ (j : Item). j.2) items) t u
some_meets [] i t u a m = absurd a
some_meets (j ∷ js) i t u (inl e) m = inl (subst (λ (v : Item). Meets v.2 t u) (sym e) m)
some_meets (j ∷ js) i t u (inr a) m = inr (some_meets js i t u a m)

pub meets_some : (items : List Item) (t u : ℤ) → SomeMeets (map (λ (j : Item). j.2) items) t u → (i : Item) × Among items i × Meets i.2 t u
meets_some [] t u h = absurd h
meets_some (j ∷ js) t u (inl m) = (j, inl refl, m)
meets_some (j ∷ js) t u (inr h) = let w = meets_some js t u h in (w.0, inr w.1, w.2)

pub up_to_key : (o p q r s t : ℕ) → KeyBefore o p q r → KeyBefore q r s t ⊎ ((q ≡ s) × (r ≡ t)) → KeyBefore o p s t
up_to_key o p q r s t (inl a) (inl (inl b)) = inl (omega arith)
up_to_key o p q r s t (inl a) (inl (inr (e, b))) = inl (omega arith)
up_to_key o p q r s t (inl a) (inr (e, f)) = inl (omega arith)
up_to_key o p q r s t (inr (g, a)) (inl (inl b)) = inl (omega arith)
up_to_key o p q r s t (inr (g, a)) (inl (inr (e, b))) = inr (g ∙ e, omega arith)
up_to_key o p q r s t (inr (g, a)) (inr (e, f)) = inr (g ∙ e, omega arith)

pub start : (items : List Item) → Ordered ItemUpTo items → HasGathered items items []
start items o = record {
  listed = record { whole = λ x y k h. absurd (let i = h.2 in key_apart _ _ _ _ (k h.0 h.1) (sym i.source) (sym i.target)); keys = λ r i. absurd i; once = λ r s x y i j m n. absurd i; each = λ r i. absurd i; order = tt };
  formed = λ r i. absurd i;
  order = o;
  there = λ i a. a;
  each = λ i a. inr a;
}

module _ (items left : List Item) (rows : List Row) (g : HasGathered items left rows) (first : Item) (is : slice_get left 0 ≡ Some first) (n : ℕ)
    (same : (i : Item) → Among (take n left) i → HaveOneKey first i)
    (later : (i : Item) → Among (drop n left) i → KeyBefore first.0.0 first.1.0 i.0.0 i.1.0) where
  abbrev o : ℕ
  o = first.0.0

  abbrev p : ℕ
  p = first.1.0

  head : Among left first
  head = first_among left first is

  -- an item of the first key is one of the group
  grouped : (i : Item) → Among items i → i.0.0 ≡ o → i.1.0 ≡ p → Among (take n left) i
  grouped i a e f = ⊎_elim
      (λ ahead. absurd (key_apart _ _ _ _ (ahead first head) e f))
      (λ l. ⊎_elim (λ t. t) (λ d. absurd (key_apart _ _ _ _ (later i d) (sym e) (sym f))) (among_either left n i l))
      (g.each i a)

  pairs : (t u : ℤ) → SomeMeets (map (λ (j : Item). j.2) (take n left)) t u ↔ between (ItemsHold items) o p t u
  pairs t u = (
    λ h. let w = meets_some (take n left) t u h in let k = same w.0 w.1 in (w.0, g.there w.0 (front_among left n w.0 w.1), record { source = sym k.0; target = sym k.1; pair = w.2 }),
    λ h. let i = h.2 in some_meets (take n left) h.0 t u (grouped h.0 h.1 i.source i.target) i.pair,
  )

  -- a pair whose key comes before what is left is of a key before, or of the first
  done : (x y : Point) → ItemsHold items x y → Ahead (drop n left) x.object y.object → Ahead left x.object y.object ⊎ ((x.object ≡ o) × (y.object ≡ p))
  done x y h ahead =
      let i = h.2 in
      ⊎_elim
      (λ k. inl (subst (λ (v : ℕ). Ahead left v y.object) i.source (subst (λ (v : ℕ). Ahead left h.0.0.0 v) i.target k)))
      (λ l. ⊎_elim
      (λ t. let k = same h.0 t in inr (sym i.source ∙ sym k.0, sym i.target ∙ sym k.1))
      (λ d. absurd (key_apart _ _ _ _ (ahead h.0 d) (sym i.source) (sym i.target)))
      (among_either left n h.0 l))
      (g.each h.0 h.1)

  module _ (bands : List Band) (normal : Normal (SomeMeets (map (λ (j : Item). j.2) (take n left))) bands) (formed : (b : Band) → Among bands b → IsWellFormed b) where
    pub next_listed : Listed (ItemsHold items) (Ahead (drop n left)) (rows ++ rows_at o p bands)
    next_listed = with_key (ItemsHold items) (Ahead left) (Ahead (drop n left)) o p rows bands g.listed
        (normal_like _ _ bands pairs normal)
        (λ q r k. k first head)
        (λ q r k i d. k i (rest_among left n i d))
        later
        done

    pub next_gathered : HasGathered items (drop n left) (rows ++ rows_at o p bands)
    next_gathered = record {
      listed = next_listed;
      formed = λ r i. ⊎_elim (λ j. g.formed r j) (λ j. formed r.band (at_among (ItemsHold items) o p bands r j).2) (among_append rows (rows_at o p bands) r i);
      order = rest_ordered ItemUpTo left n g.order;
      there = λ i d. g.there i (rest_among left n i d);
      each = λ i a. ⊎_elim
          (λ k. inl (λ j d. k j (rest_among left n j d)))
          (λ l. ⊎_elim
          (λ t. let k = same i t in inl (λ j d. subst (λ (v : ℕ). KeyBefore v i.1.0 j.0.0 j.1.0) k.0 (subst (λ (v : ℕ). KeyBefore o v j.0.0 j.1.0) k.1 (later j d))))
          (λ d. inr d)
          (among_either left n i l))
          (g.each i a);
    }

    pub next_wide : (limit : ℕ) → limit < length (rows ++ rows_at o p bands) → IsWide (ItemsHold items) limit
    next_wide limit many = wide_early (ItemsHold items) (Ahead (drop n left)) (rows ++ rows_at o p bands) limit next_listed many

-- the same in the words of the loop
module _ (items left : List Item) (rows : List Row) (g : HasGathered items left rows) (first : Item) (is : Some first ≡ slice_get left 0) (n : ℕ)
    (same : (i : Item) → Among (take n left) i → HaveOneKey first i)
    (behind : (i : Item) → Among (drop n left) i → KeyBefore first.0.0 first.1.0 i.0.0 i.1.0)
    (group later : List Item) (front : group ≡ take n left) (back : later ≡ drop n left)
    (bands pushed : List Band) (read : pushed ≡ bands)
    (normal : Normal (SomeMeets (map (λ (j : Item). j.2) group)) bands) (formed : (b : Band) → Among bands b → IsWellFormed b)
    (next : List Row) (more : next ≡ rows ++ rows_at first.0.0 first.1.0 pushed) where
  all_rows : next ≡ rows ++ rows_at first.0.0 first.1.0 bands
  all_rows = more ∙ ap (λ (v : List Band). rows ++ rows_at first.0.0 first.1.0 v) read

  of_group : Normal (SomeMeets (map (λ (j : Item). j.2) (take n left))) bands
  of_group = subst (λ (v : List Item). Normal (SomeMeets (map (λ (j : Item). j.2) v)) bands) front normal

  pub step_gathered : HasGathered items later next
  step_gathered = subst (λ (v : List Item). HasGathered items v next) (sym back) (subst (λ (v : List Row). HasGathered items (drop n left) v) (sym all_rows)
      (next_gathered items left rows g first (sym is) n same behind bands of_group formed))

  pub step_wide : (limit : ℕ) → limit < length next → IsWide (ItemsHold items) limit
  step_wide limit many = next_wide items left rows g first (sym is) n same behind bands of_group formed limit (subst (λ (v : List Row). limit < length v) all_rows many)

pub all_gathered : (items left : List Item) (rows : List Row) → None ≡ slice_get left 0 → HasGathered items left rows → NormalRows (ItemsHold items) rows
all_gathered items left rows none g =
    normal_of (ItemsHold items) (Ahead []) rows (subst (λ (v : List Item). Listed (ItemsHold items) (Ahead v) rows) (no_first left none) g.listed) (λ x y h i a. absurd a)
