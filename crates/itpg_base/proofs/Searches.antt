-- Facts that are decided, and the search for a number or a moment.
use Rattle.std.proofs.Common.{◌≡◌, ◌⊎◌, inl, inr, ⊎_elim, ℕ, zero, suc, ◌<◌, ◌≤◌, ℤ, pos, ◌+ℤ◌, ◌≤ℤ◌, ◌<ℤ◌, List, [], ◌∷◌, length, Bool, true, false, Option, Some, None, refl, sym, ap, subst, true≢false, arith}
use Rattle.std.proofs.lemmas.Int.{ints, by_lt_z}
use Rattle.std.proofs.lemmas.Bool.Decides.{eqb_tells}
use Rattle.std.specs.Prelude.{IsTrue, Contains, slice_index_or, IsSomeAnd}
use Rattle.itpg_base.specs.Decided.{Decided}

pub both : {P Q : Type 0} → Decided P → Decided Q → Decided (P × Q)
both (inl p) (inl q) = inl (p, q)
both (inl p) (inr n) = inr (λ h. n h.1)
both (inr n) d = inr (λ h. n h.0)

pub either : {P Q : Type 0} → Decided P → Decided Q → Decided (P ⊎ Q)
either (inl p) d = inl (inl p)
either (inr n) (inl q) = inl (inr q)
either (inr n) (inr m) = inr (λ h. ⊎_elim n m h)

pub fails : {P : Type 0} → Decided P → Decided (¬ P)
fails (inl p) = inr (λ n. n p)
fails (inr n) = inl n

pub as_well : {P Q : Type 0} → (P → Q) → (Q → P) → Decided P → Decided Q
as_well f g (inl p) = inl (f p)
as_well f g (inr n) = inr (λ q. n (g q))

pub same_number : (a b : ℕ) → Decided (a ≡ b)
same_number a b = elim (eqb_tells a b) [ inl e ↦ inl e.1 | inr e ↦ inr e.1 ]

pub at_most : (a b : ℕ) → Decided (a ≤ b)
at_most zero b = inl (omega arith)
at_most (suc a) zero = inr (λ h. omega arith)
at_most (suc a) (suc b) = as_well (λ h. omega arith) (λ h. omega arith) (at_most a b)

pub not_after : (a b : ℤ) → Decided (a ≤ℤ b)
not_after a b = by_lt_z b a (λ lt. inr (λ le. omega (arith, ints))) (λ le. inl le)

pub before : (a b : ℤ) → Decided (a <ℤ b)
before a b = by_lt_z a b (λ lt. inl lt) (λ le. inr (λ lt. omega (arith, ints)))

pub same_moment : (a b : ℤ) → Decided (a ≡ b)
same_moment a b = by_lt_z a b (λ lt. inr (λ e. omega (arith, ints))) (λ le. by_lt_z b a (λ lt. inr (λ e. omega (arith, ints))) (λ ge. inl (omega (arith, ints))))

pub is_true : (b : Bool) → Decided (IsTrue b)
is_true true = inl refl
is_true false = inr (λ e. true≢false (sym e))

pub same_word : (a b : List ℕ) → Decided (a ≡ b)
same_word [] [] = inl refl
same_word [] (y ∷ ys) = inr (λ e. let none : ⊥ = cc in none)
same_word (x ∷ xs) [] = inr (λ e. let none : ⊥ = cc in none)
same_word (x ∷ xs) (y ∷ ys) = elim (same_number x y) [
  | inl e ↦ elim (same_word xs ys) [ inl f ↦ inl (cc) | inr n ↦ inr (λ h. n (cc)) ]
  | inr n ↦ inr (λ h. n (cc))
]

pub same_option : (a b : Option ℕ) → Decided (a ≡ b)
same_option None None = inl refl
same_option None (Some y) = inr (λ e. let none : ⊥ = cc in none)
same_option (Some x) None = inr (λ e. let none : ⊥ = cc in none)
same_option (Some x) (Some y) = as_well (λ e. ap Some e) (λ h. cc) (same_number x y)

pub if_some : {X : Type 0} (o : Option X) (P : X → Type 0) → ((x : X) → Decided (P x)) → Decided (IsSomeAnd o P)
if_some None P each = inr (λ h. h)
if_some (Some x) P each = each x

-- some number below n
pub some_below : (n : ℕ) (P : ℕ → Type 0) → ((k : ℕ) → Decided (P k)) → Decided ((k : ℕ) × (k < n) × P k)
some_below zero P each = inr (λ h. let l = h.1 in omega arith)
some_below (suc n) P each = elim (each n) [
  | inl p ↦ inl (n, omega arith, p)
  | inr none ↦ elim (some_below n P each) [
    | inl h ↦ inl (h.0, (let l = h.1 in omega arith), h.2)
    | inr fewer ↦ inr (λ h. elim (eqb_tells h.0 n) [
      | inl e ↦ none (subst P e.1 h.2)
      | inr e ↦ fewer (h.0, (let l = h.1 in let ne = e.1 in omega arith), h.2)
    ])
  ]
]

-- some moment of the n from low on
pub some_from : (n : ℕ) (low : ℤ) (P : ℤ → Type 0) → ((t : ℤ) → Decided (P t)) → Decided ((t : ℤ) × (low ≤ℤ t) × (t <ℤ (low +ℤ pos n)) × P t)
some_from zero low P each = inr (λ h. let l = h.1 in let m = h.2 in omega (arith, ints))
some_from (suc n) low P each = elim (each (low +ℤ pos n)) [
  | inl p ↦ inl (low +ℤ pos n, omega (arith, ints), omega (arith, ints), p)
  | inr none ↦ elim (some_from n low P each) [
    | inl h ↦ inl (h.0, h.1, (let l = h.2 in omega (arith, ints)), h.3)
    | inr fewer ↦ inr (λ h. let l = h.2 in by_lt_z h.0 (low +ℤ pos n)
        (λ lt. fewer (h.0, h.1, lt, h.3))
        (λ le. let e : h.0 ≡ low +ℤ pos n = omega (arith, ints) in none (subst P e h.3)))
  ]
]

pub contains : (xs : List (List ℕ)) (x : List ℕ) → Decided (Contains xs x)
contains xs x = some_below (length xs) (λ k. slice_index_or xs k x ≡ x) (λ k. same_word (slice_index_or xs k x) x)
