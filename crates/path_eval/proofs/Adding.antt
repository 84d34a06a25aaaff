-- Items that a loop adds, one thing of a list after another.
use Rattle.std.proofs.Common.{◌≡◌, ◌↔◌, ◌⊎◌, inl, inr, ⊎_elim, ℕ, zero, suc, ◌+◌, ◌<◌, ◌≤◌, List, [], ◌∷◌, length, slice_index_or, take, Result, Ok, Err, refl, sym, subst, arith}
use Rattle.std.specs.Prelude.{OnOk}
use Rattle.std.proofs.lemmas.List.{take_all}
use Rattle.itpg_base.specs.Points.{Point, Relation}
use Rattle.itpg_base.specs.Lists.{Among}
use Rattle.relation_rows.specs.Relations.{Item, ItemsHold}
use Rattle.relation_rows.proofs.Partitions.{among_more, more_among}

-- some thing of the list adds the pair
abbrev pub Adds : {X : Type 0} → (X → Relation) → List X → Relation
Adds {X} R xs x y = (e : X) × Among xs e × R e x y

-- the items hold what others did, and what the things of the list add
abbrev pub Added : {X : Type 0} → (X → Relation) → List Item → List X → List Item → Type 0
Added R old xs now = (x y : Point) → ItemsHold now x y ↔ (ItemsHold old x y ⊎ Adds R xs x y)

-- what is read at a place is the same whatever stands for none
read_same : {X : Type 0} (xs : List X) (i : ℕ) (d e : X) → i < length xs → slice_index_or xs i d ≡ slice_index_or xs i e
read_same [] i d e lt = absurd (omega (arith, lt))
read_same (x ∷ xs) zero d e lt = refl
read_same (x ∷ xs) (suc i) d e lt = read_same xs i d e (omega (arith, lt))

module _ {X : Type 0} (R : X → Relation) (old : List Item) where
  pub added_none : Added R old [] old
  added_none x y = (λ h. inl h, λ h. ⊎_elim (λ a. a) (λ b. absurd b.1) h)

  pub added_more : (xs : List X) (i : ℕ) (e : X) → i < length xs → e ≡ slice_index_or xs i e → (now next : List Item)
      → ((x y : Point) → ItemsHold next x y ↔ (ItemsHold now x y ⊎ R e x y)) → Added R old (take i xs) now → Added R old (take (i + 1) xs) next
  added_more xs i e lt read now next more so x y = (
    λ h. ⊎_elim
        (λ a. ⊎_elim (λ b. inl b) (λ b. inr (b.0, more_among xs i e b.0 lt read (inl b.1), b.2)) ((so x y).0 a))
        (λ a. inr (e, more_among xs i e e lt read (inr refl), a))
        ((more x y).0 h),
    λ h. ⊎_elim
        (λ a. (more x y).1 (inl ((so x y).1 (inl a))))
        (λ b. ⊎_elim
        (λ c. (more x y).1 (inl ((so x y).1 (inr (b.0, c, b.2)))))
        (λ c. (more x y).1 (inr (subst (λ (v : X). R v x y) (sym c) b.2)))
        (among_more xs i e b.0 lt read b.1))
        h,
  )

  pub added_at : (xs : List X) (i : ℕ) (d : X) → i < length xs → (now next : List Item)
      → ((x y : Point) → ItemsHold next x y ↔ (ItemsHold now x y ⊎ R (slice_index_or xs i d) x y)) → Added R old (take i xs) now → Added R old (take (i + 1) xs) next
  added_at xs i d lt = added_more xs i (slice_index_or xs i d) lt (read_same xs i d (slice_index_or xs i d) lt)

  pub added_all : (xs : List X) (i : ℕ) (now : List Item) → length xs ≤ i → Added R old (take i xs) now → Added R old xs now
  added_all xs i now all so = subst (λ (v : List X). Added R old v now) (take_all i xs all) so

-- from nothing
pub all_added : {X : Type 0} (R : X → Relation) (xs : List X) (now : List Item) → Added R [] xs now → (x y : Point) → ItemsHold now x y ↔ Adds R xs x y
all_added R xs now so x y = (λ h. ⊎_elim (λ a. absurd a.1) (λ b. b) ((so x y).0 h), λ h. (so x y).1 (inr h))

-- what was added in one word was added in another
pub adds_as : {E : Type 0} (R S : Relation) (old now : List Item) → ((x y : Point) → R x y ↔ S x y) → (result : Result (Unit {0}) E)
    → OnOk result ((x y : Point) → ItemsHold now x y ↔ (ItemsHold old x y ⊎ R x y)) → OnOk result ((x y : Point) → ItemsHold now x y ↔ (ItemsHold old x y ⊎ S x y))
adds_as R S old now same (Ok u) h = λ x y. (
  λ i. ⊎_elim (λ a. inl a) (λ b. inr ((same x y).0 b)) ((h x y).0 i),
  λ i. ⊎_elim (λ a. (h x y).1 (inl a)) (λ b. (h x y).1 (inr ((same x y).1 b))) i,
)
adds_as R S old now same (Err e) h = tt
