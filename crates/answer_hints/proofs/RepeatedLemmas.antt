-- A repetition up to a number of times: that it leads between no more points than as a whole, and what is found of it.
use Rattle.std.proofs.Common.{◌≡◌, ◌⊎◌, inl, inr, ℕ, ◌+◌, ◌<◌, ◌≤◌, List, length, Option, Some, None, refl, sym, subst, arith}
use Rattle.std.specs.Prelude.{IfSome}
use Rattle.itpg_base.specs.Graphs.{Graph}
use Rattle.itpg_base.specs.Points.{Point}
use Rattle.itpg_base.proofs.Searches.{at_most}
use Rattle.relation_rows.specs.declared.rows.Row.{Row}
use Rattle.relation_rows.specs.Rows.{RowsHold}
use Rattle.relation_rows.proofs.Alike.{rows_alike, rows_hold, hold_only}
use Rattle.relation_rows.proofs.Listed.{rows_unique}
use Rattle.path_ast.specs.Terms.{PathTerm, Repetition}
use Rattle.path_ast.specs.Meaning.{Rel}
use Rattle.path_ast.specs.Sizes.{AreInRange, IsPathInRange}
use Rattle.label_scope.specs.declared.scope.Scope.TheVariants.{All}
use Rattle.label_scope.specs.Members.{worked}
use Rattle.path_eval.proofs.Finite.{fit_apart}
use Rattle.answer_hints.specs.RuledOut.{FitsWithin, IsTooWide, HasRowsWithin}
use Rattle.answer_hints.specs.Repeated.{Repeating, repeated, up_to, LeadAlike, AddsNothingFrom, farthest_of, farthest, IsFound, IsFinding}

-- ---- the farthest number of times

within : (n : ℕ) (m : Option ℕ) → IfSome m (λ most. farthest_of n m ≤ most)
within n None = tt
within n (Some m) = omega arith

nearer : (m : Option ℕ) (k j : ℕ) → j ≤ k → IfSome m (λ most. k ≤ most) → IfSome m (λ most. j ≤ most)
nearer None k j l b = tt
nearer (Some m) k j l b = omega arith

below_most : (m : Option ℕ) (k j : ℕ) → j < k → IfSome m (λ most. k ≤ most) → IfSome m (λ most. j < most)
below_most None k j l b = tt
below_most (Some m) k j l b = omega arith

unless_most : (m : Option ℕ) (k : ℕ) → (m ≡ Some k → ⊥) → IfSome m (λ most. k ≤ most) → IfSome m (λ most. k < most)
unless_most None k other b = tt
unless_most (Some m) k other b = elim (at_most m k) [
  | inl l ↦ let same : m ≡ k = omega arith in absurd (other (let e : Some m ≡ Some k = cc in e))
  | inr more ↦ omega arith
]

-- k isn't below a most of k
not_below : (m : Option ℕ) (k j : ℕ) → m ≡ Some k → IfSome m (λ most. j < most) → j < k
not_below None k j e below = cc
not_below (Some m) k j e below = let same : m ≡ k = cc in omega arith

-- the least number of times is within the farthest
pub least_within : (r : Repeating) → IsPathInRange (repeated r) → r.least ≤ farthest r
least_within r in_range = of_least r.least r.most in_range.1
  where
    of_least : (n : ℕ) (m : Option ℕ) → AreInRange n m → n ≤ farthest_of n m
    of_least n None a = let least = a.least in omega arith
    of_least n (Some m) a = let most = a.most.0 in omega arith

-- so it is below k, or k is the one
below_or : (k i : ℕ) → i ≤ k → (i < k) ⊎ (i ≡ k)
below_or k i l = elim (at_most k i) [ inl more ↦ inr (omega arith) | inr less ↦ inl (omega arith) ]

module _ (g : Graph) (limit : ℕ) where
  -- ---- equal rows

  module _ (p q : PathTerm) (xs ys : List Row) (a : HasRowsWithin g limit p xs) (b : HasRowsWithin g limit q ys) where
    pub same_alike : xs ≡ ys → LeadAlike g p q
    same_alike e = λ x y. (
      λ h. hold_only (Rel q g) ys b.normal x y (subst (λ (v : List Row). RowsHold v x y) e (rows_hold (Rel p g) xs a.normal x y h)),
      λ h. hold_only (Rel p g) xs a.normal x y (subst (λ (v : List Row). RowsHold v x y) (sym e) (rows_hold (Rel q g) ys b.normal x y h)),
    )

    pub alike_same : LeadAlike g p q → xs ≡ ys
    alike_same alike = rows_unique (Rel p g) xs ys a.normal (rows_alike (Rel q g) (Rel p g) (λ x y h. (alike x y).1 h) (λ x y h. (alike x y).0 h) ys b.normal)

  module _ (r : Repeating) where
    -- ---- fewer times lead between no more points

    fewer : (m : Option ℕ) (k : ℕ) → IfSome m (λ most. k ≤ most) → (x y : Point) → Rel (up_to r k) g x y → Rel (Repetition r.body r.least m) g x y
    fewer m k b x y h = (h.0, (h.1.0, (h.1.1.0, nearer m k (length h.1.0) h.1.1.1 b), h.1.2))

    -- from which on it adds nothing up to the farthest it does at the farthest
    far_alike : (k : ℕ) → k ≤ farthest r → AddsNothingFrom g r k → AddsNothingFrom g r (farthest r)
    far_alike k near h = λ x y. (
      λ w. fewer (Some (farthest r)) k near x y ((h x y).0 w),
      λ w. fewer r.most (farthest r) (within r.least r.most) x y w,
    )

    -- ---- none is found

    pub none_between : r.most ≡ Some r.least → IsFinding g limit r None
    none_between e = λ k f. let from = f.enough.least in let below = not_below r.most r.least k e f.enough.below in absurd (let none : ⊥ = omega arith in none)

    pub wide_whole : IsTooWide g limit (repeated r) → IsFinding g limit r None
    wide_whole wide = λ k f. fit_apart g limit (worked (repeated r) All All) f.whole wide

    pub wide_far : IsTooWide g limit (up_to r (farthest r)) → IsFinding g limit r None
    wide_far wide = λ k f. fit_apart g limit (worked (up_to r (farthest r)) All All) f.far wide

    module _ (whole : List Row) (has : HasRowsWithin g limit (repeated r) whole) where
      pub unlike_far : (far : List Row) → HasRowsWithin g limit (up_to r (farthest r)) far → (far ≡ whole → ⊥) → IsFinding g limit r None
      unlike_far far has_far other = λ k f.
          other (sym (alike_same (repeated r) (up_to r (farthest r)) whole far has has_far
          (far_alike k f.near f.enough.nothing)))

    -- ---- what is tried

    -- up to each number of times below k the repetition fits and is unlike the whole one
    abbrev pub AreTried : ℕ → Type 0
    AreTried k = (i : ℕ) → r.least ≤ i → i < k → FitsWithin g limit (up_to r i) × (¬ AddsNothingFrom g r i)

    pub none_tried : AreTried r.least
    none_tried = λ i l b. absurd (let none : ⊥ = omega arith in none)

    tried_more : (k : ℕ) → AreTried k → FitsWithin g limit (up_to r k) → (AddsNothingFrom g r k → ⊥) → AreTried (k + 1)
    tried_more k tried fits other = λ i l b. elim (below_or k i (omega arith)) [
      | inl less ↦ tried i l less
      | inr same ↦ subst (λ (j : ℕ). FitsWithin g limit (up_to r j) × (¬ AddsNothingFrom g r j)) (sym same) (fits, other)
    ]

    pub wide_at : (k : ℕ) → r.least ≤ k → AreTried k → IsTooWide g limit (up_to r k) → IsFinding g limit r None
    wide_at k from tried wide = λ j f. elim (at_most k j) [
      | inl l ↦ fit_apart g limit (worked (up_to r k) All All) (f.tried k from l) wide
      | inr more ↦ (tried j f.enough.least (omega arith)).1 f.enough.nothing
    ]

    fit_up_to : (k : ℕ) → AreTried k → FitsWithin g limit (up_to r k) → (i : ℕ) → r.least ≤ i → i ≤ k → FitsWithin g limit (up_to r i)
    fit_up_to k tried fits i l b = elim (below_or k i b) [
      | inl less ↦ (tried i l less).0
      | inr same ↦ subst (λ (j : ℕ). FitsWithin g limit (up_to r j)) (sym same) fits
    ]

    module _ (whole : List Row) (has : HasRowsWithin g limit (repeated r) whole) (has_far : HasRowsWithin g limit (up_to r (farthest r)) whole) where
      pub unlike_at : (k : ℕ) (rows : List Row) → AreTried k → HasRowsWithin g limit (up_to r k) rows → (rows ≡ whole → ⊥) → AreTried (k + 1)
      unlike_at k rows tried here other = tried_more k tried here.fits (λ h. other (sym (alike_same (repeated r) (up_to r k) whole rows has here h)))

      -- k is found, if it is below the most
      found_at : (k : ℕ) → r.least ≤ k → k ≤ farthest r → IfSome r.most (λ m. k < m) → AreTried k → HasRowsWithin g limit (up_to r k) whole → IsFound g limit r k
      found_at k from near below tried here = record {
        enough = record {
          least = from;
          below = below;
          nothing = same_alike (repeated r) (up_to r k) whole whole has here refl;
          first = λ i l b. (tried i l b).1;
        };
        near = near;
        whole = has.fits;
        far = has_far.fits;
        tried = fit_up_to k tried here.fits;
      }

      pub alike_at : (k : ℕ) (rows : List Row) → r.least ≤ k → k < farthest r → AreTried k → HasRowsWithin g limit (up_to r k) rows → rows ≡ whole → IsFinding g limit r (Some k)
      alike_at k rows from less tried here same =
          found_at k from (omega arith) (below_most r.most (farthest r) k less (within r.least r.most)) tried (subst (λ (v : List Row). HasRowsWithin g limit (up_to r k) v) same here)

      -- where all below the farthest are tried, that is found, or it is the most and none is
      pub at_farthest : r.least ≤ farthest r → AreTried (farthest r) → (found : Option ℕ)
          → (r.most ≡ Some (farthest r) → found ≡ None) → ((r.most ≡ Some (farthest r) → ⊥) → found ≡ Some (farthest r)) → IsFinding g limit r found
      at_farthest from tried found at other = elim (is_most r.most (farthest r)) [
        | inl e ↦ subst (IsFinding g limit r) (sym (at e)) (λ j f. (tried j f.enough.least (not_below r.most (farthest r) j e f.enough.below)).1 f.enough.nothing)
        | inr not ↦ subst (IsFinding g limit r) (sym (other not))
            (found_at (farthest r) from (omega arith) (unless_most r.most (farthest r) not (within r.least r.most)) tried has_far)
      ]
        where
          is_most : (m : Option ℕ) (k : ℕ) → (m ≡ Some k) ⊎ (m ≡ Some k → ⊥)
          is_most None k = inr (λ e. let none : ⊥ = cc in none)
          is_most (Some m) k = elim (at_most m k) [
            | inl l ↦ elim (at_most k m) [
              | inl o ↦ let same : m ≡ k = omega arith in inl (let e : Some m ≡ Some k = cc in e)
              | inr more ↦ inr (λ e. let same : m ≡ k = cc in absurd (let none : ⊥ = omega arith in none))
            ]
            | inr more ↦ inr (λ e. let same : m ≡ k = cc in absurd (let none : ⊥ = omega arith in none))
          ]

-- ---- at most one number is found

pub found_once : (g : Graph) (limit : ℕ) (r : Repeating) (j k : ℕ) → IsFound g limit r j → IsFound g limit r k → j ≡ k
found_once g limit r j k a b = elim (at_most j k) [
  | inl l ↦ elim (at_most k j) [
    | inl m ↦ omega arith
    | inr more ↦ absurd (b.enough.first j a.enough.least (omega arith) a.enough.nothing)
  ]
  | inr more ↦ absurd (a.enough.first k b.enough.least (omega arith) b.enough.nothing)
]
