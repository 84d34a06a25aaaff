-- Items that are sorted by source and target.
use Rattle.std.proofs.Common.{◌≡◌, ◌⊎◌, inl, inr, ℕ, ◌+◌, ◌<◌, ◌≤◌, List, length, get_or, false, refl, sym, ◌∙◌, subst, arith, true≢false}
use Rattle.std.specs.Ordering.{nat_cmp, is_lt, ordering_then}
use Rattle.std.specs.declared.cmp.Ordering.{Ordering}
use Rattle.std.specs.declared.cmp.Ordering.TheVariants.{Less, Equal, Greater}
use Rattle.std.specs.List.Sorted.{IsPermutation}
use Rattle.itpg_base.specs.Points.{Point}
use Rattle.itpg_base.specs.Lists.{Ordered}
use Rattle.itpg_base.proofs.Lists.{ordered_from_neighbours, permutation_among, among_permutation}
use Rattle.relation_rows.specs.Rows.{KeyBefore}
use Rattle.relation_rows.specs.Relations.{Item, ItemsHold}
use Rattle.relation_rows.specs.Gathering.{ItemUpTo}
use Rattle.relation_rows.proofs.Objects.{Compared, compared, less, equal, greater}
use Rattle.relation_rows.proofs.Gathering.{up_to_key}

pub up_to : (a b c d : ℕ) → is_lt (ordering_then (nat_cmp a b) (nat_cmp c d)) ≡ false → KeyBefore b d a c ⊎ ((b ≡ a) × (d ≡ c))
up_to a b c d h = first (compared a b) h
  where
    lt_of : (x : Ordering) (e : nat_cmp a b ≡ x) → is_lt (ordering_then (nat_cmp a b) (nat_cmp c d)) ≡ false → is_lt (ordering_then x (nat_cmp c d)) ≡ false
    lt_of x e k = subst (λ (v : Ordering). is_lt (ordering_then v (nat_cmp c d)) ≡ false) e k

    second : Compared c d → b ≡ a → is_lt (nat_cmp c d) ≡ false → KeyBefore b d a c ⊎ ((b ≡ a) × (d ≡ c))
    second (less l e) same k = absurd (true≢false (subst (λ (v : Ordering). is_lt v ≡ false) e k))
    second (equal l e) same k = inr (same, sym l)
    second (greater l e) same k = inl (inr (same, l))

    first : Compared a b → is_lt (ordering_then (nat_cmp a b) (nat_cmp c d)) ≡ false → KeyBefore b d a c ⊎ ((b ≡ a) × (d ≡ c))
    first (less l e) k = absurd (true≢false (lt_of Less e k))
    first (equal l e) k = second (compared c d) (sym l) (lt_of Equal e k)
    first (greater l e) k = inl (inl l)

item_trans : (i j k : Item) → ItemUpTo i j → ItemUpTo j k → ItemUpTo i k
item_trans i j k (inl a) b = inl (up_to_key _ _ _ _ _ _ a b)
item_trans i j k (inr (e, f)) (inl b) = inl (subst (λ (v : ℕ). KeyBefore v i.1.0 k.0.0 k.1.0) (sym e) (subst (λ (v : ℕ). KeyBefore j.0.0 v k.0.0 k.1.0) (sym f) b))
item_trans i j k (inr (e, f)) (inr (g, h)) = inr (e ∙ g, f ∙ h)

pub sorted_items : (items : List Item)
    → ((k : ℕ) (d : Item) → 0 ≤ k → k + 1 < length items → is_lt (ordering_then (nat_cmp (get_or items (k + 1) d).0.0 (get_or items k d).0.0) (nat_cmp (get_or items (k + 1) d).1.0 (get_or items k d).1.0)) ≡ false)
    → Ordered ItemUpTo items
sorted_items items up = ordered_from_neighbours ItemUpTo item_trans items (λ k d lt. up_to _ _ _ _ (up k d (omega arith) lt))

-- what isn't less by two measures isn't less by the first
pub first_not_less : (p q : Ordering) → is_lt (ordering_then p q) ≡ false → is_lt p ≡ false
first_not_less Less q e = absurd (true≢false e)
first_not_less Equal q e = refl
first_not_less Greater q e = refl

-- items in another order hold the same
pub items_to : (xs ys : List Item) → IsPermutation xs ys → (x y : Point) → ItemsHold xs x y → ItemsHold ys x y
items_to xs ys p x y h = (h.0, among_permutation xs ys p h.0 h.1, h.2)

pub items_from : (xs ys : List Item) → IsPermutation xs ys → (x y : Point) → ItemsHold ys x y → ItemsHold xs x y
items_from xs ys p x y h = (h.0, permutation_among xs ys p h.0 h.1, h.2)
