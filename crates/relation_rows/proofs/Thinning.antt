-- Items without those that lie inside others.
use Rattle.std.proofs.Common.{◌≡◌, ◌↔◌, ◌⊎◌, inl, inr, ⊎_elim, ℕ, ◌+◌, ◌<◌, ◌≤◌, List, [], ◌∷◌, ◌++◌, length, slice_index_or, take, Some, sym, ◌∙◌, ap, subst}
use Rattle.std.specs.Prelude.{slice_get}
use Rattle.std.proofs.lemmas.List.{take_more, take_all}
use Rattle.itpg_base.specs.Points.{Point}
use Rattle.relation_rows.specs.Relations.{Item, InItem, ItemsHold}
use Rattle.relation_rows.proofs.Pushing.{items_more}
use Rattle.relation_rows.proofs.Going.{item_at}

-- an item whose pairs one of the list has adds nothing
pub inside_had : (items : List Item) (k : ℕ) (last item : Item) → slice_get items k ≡ Some last → ((x : Point) → (y : Point) → InItem item x y → InItem last x y)
    → (x y : Point) → ItemsHold items x y ↔ (ItemsHold items x y ⊎ InItem item x y)
inside_had items k last item e inside x y = (λ h. inl h, λ h. ⊎_elim (λ a. a) (λ a. item_at items k last e x y (inside x y a)) h)

-- the list has what the items have that were read
abbrev pub HoldAlike : List Item → List Item → Type 0
HoldAlike items left = (x y : Point) → ItemsHold left x y ↔ ItemsHold items x y

pub none_left : (items left : List Item) → left ≡ [] → HoldAlike (take 0 items) left
none_left items left e x y = (λ h. absurd (subst (λ (v : List Item). ItemsHold v x y) e h).1, λ h. absurd (none items h))
  where
    none : (is : List Item) → ItemsHold (take 0 is) x y → ⊥
    none [] h = h.1
    none (i ∷ is) h = h.1

pub one_more_left : (items : List Item) (k : ℕ) (d : Item) → k < length items → (item : Item) → item ≡ slice_index_or items k d → (now next : List Item)
    → ((x y : Point) → ItemsHold next x y ↔ (ItemsHold now x y ⊎ InItem item x y)) → HoldAlike (take k items) now → HoldAlike (take (k + 1) items) next
one_more_left items k d lt item read now next pushed so x y =
    let e : take (k + 1) items ≡ take k items ++ item ∷ [] = take_more items k d lt ∙ ap (λ (v : Item). take k items ++ v ∷ []) (sym read) in
    let more = items_more (take k items) (take (k + 1) items) item e x y in (
      λ h. more.1 (⊎_elim (λ a. inl ((so x y).0 a)) (λ a. inr a) ((pushed x y).0 h)),
      λ h. (pushed x y).1 (⊎_elim (λ a. inl ((so x y).1 a)) (λ a. inr a) (more.0 h)),
    )

pub all_left : (items : List Item) (k : ℕ) (left : List Item) → length items ≤ k → HoldAlike (take k items) left → HoldAlike items left
all_left items k left le = subst (λ (v : List Item). HoldAlike v left) (take_all k items le)
