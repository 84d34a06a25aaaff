-- What it is that each member of a repetition fits.
use Rattle.std.proofs.Common.{◌≡◌, inl, inr, ⊎_elim, ℕ, zero, suc, ◌≤◌, ◌^◌, List, [], ◌∷◌, ◌++◌, Some, refl, subst, arith}
use Rattle.std.specs.List.{AllByRecursion}
use Rattle.itpg_base.specs.Graphs.{Graph}
use Rattle.itpg_base.proofs.Searches.{at_most}
use Rattle.itpg_base.proofs.Lists.{among_append, append_first, append_second}
use Rattle.relation_rows.specs.Rows.{Fits, IsWide}
use Rattle.path_ast.specs.Terms.{PathTerm, Repetition}
use Rattle.label_scope.specs.declared.scope.Scope.{Scope}
use Rattle.label_scope.specs.Narrowing.{Cut}
use Rattle.label_scope.specs.Members.{Member, powers_within, unions_within, doubles}
use Rattle.plan_cache.specs.RightRows.{member_relation, AllFit}
use Rattle.path_eval.specs.Evaluated.{SomeIsWide}
use Rattle.path_eval.proofs.Finite.{fit_or_wide}

module _ (g : Graph) (limit : ℕ) where
  pub none_fit : AllFit g limit []
  none_fit m a = absurd a

  pub fit_both : (xs ys : List Member) → AllFit g limit xs → AllFit g limit ys → AllFit g limit (xs ++ ys)
  fit_both xs ys f h m a = ⊎_elim (λ b. f m b) (λ b. h m b) (among_append xs ys m a)

  pub wide_first : (xs ys : List Member) → SomeIsWide g limit xs → SomeIsWide g limit (xs ++ ys)
  wide_first xs ys w = record { member = w.member; among = append_first xs ys w.member w.among; wide = w.wide }

  pub wide_second : (xs ys : List Member) → SomeIsWide g limit ys → SomeIsWide g limit (xs ++ ys)
  wide_second xs ys w = record { member = w.member; among = append_second xs ys w.member w.among; wide = w.wide }

  pub wide_rest : (m : Member) (ms : List Member) → SomeIsWide g limit ms → SomeIsWide g limit (m ∷ ms)
  wide_rest m ms w = record { member = w.member; among = inr w.among; wide = w.wide }

  pub wide_own : (m : Member) (ms : List Member) → IsWide (member_relation g m) limit → SomeIsWide g limit (m ∷ ms)
  wide_own m ms w = record { member = m; among = inl refl; wide = w }

  -- where not all fit, some is wide
  pub wide_unless : (ms : List Member) → (AllFit g limit ms → ⊥) → SomeIsWide g limit ms
  wide_unless ms not = ⊎_elim (λ fit. absurd (not fit)) (λ w. w) (fit_or_wide g limit ms)

  module _ (r : PathTerm) (u : Scope) where
    abbrev pub PowerFits : ℕ → Type 0
    PowerFits k = Fits (Cut g (Repetition r k (Some k)) u u) limit

    abbrev pub UnionFits : ℕ → Type 0
    UnionFits k = Fits (Cut g (Repetition r 0 (Some k)) u u) limit

    pub powers_fit : (ks : List ℕ) → AllByRecursion PowerFits ks → AllFit g limit (powers_within r u ks)
    powers_fit [] all m a = absurd a
    powers_fit (k ∷ ks) all m (inl e) = subst (λ (v : Member). Fits (member_relation g v) limit) e all.0
    powers_fit (k ∷ ks) all m (inr a) = powers_fit ks all.1 m a

    pub fit_powers : (ks : List ℕ) → AllFit g limit (powers_within r u ks) → AllByRecursion PowerFits ks
    fit_powers [] all = tt
    fit_powers (k ∷ ks) all = (all _ (inl refl), fit_powers ks (λ m a. all m (inr a)))

    pub unions_fit : (ks : List ℕ) → AllByRecursion UnionFits ks → AllFit g limit (unions_within r u ks)
    unions_fit [] all m a = absurd a
    unions_fit (k ∷ ks) all m (inl e) = subst (λ (v : Member). Fits (member_relation g v) limit) e all.0
    unions_fit (k ∷ ks) all m (inr a) = unions_fit ks all.1 m a

    pub fit_unions : (ks : List ℕ) → AllFit g limit (unions_within r u ks) → AllByRecursion UnionFits ks
    fit_unions [] all = tt
    fit_unions (k ∷ ks) all = (all _ (inl refl), fit_unions ks (λ m a. all m (inr a)))

-- what holds at each power of two up to 2^j
module _ (P : ℕ → Type 0) where
  all_more : (ks : List ℕ) (k : ℕ) → AllByRecursion P ks → P k → AllByRecursion P (ks ++ k ∷ [])
  all_more [] k all h = (h, tt)
  all_more (i ∷ ks) k all h = (all.0, all_more ks k all.1 h)

  all_first : (ks : List ℕ) (k : ℕ) → AllByRecursion P (ks ++ k ∷ []) → AllByRecursion P ks
  all_first [] k all = tt
  all_first (i ∷ ks) k all = (all.0, all_first ks k all.1)

  all_last : (ks : List ℕ) (k : ℕ) → AllByRecursion P (ks ++ k ∷ []) → P k
  all_last [] k all = all.0
  all_last (i ∷ ks) k all = all_last ks k all.1

  pub doubles_all : (j : ℕ) → ((i : ℕ) → i ≤ j → P (2 ^ i)) → AllByRecursion P (doubles j)
  unfolding doubles
  doubles_all zero each = (each 0 (omega arith), tt)
  doubles_all (suc j) each = all_more (doubles j) (2 ^ suc j) (doubles_all j (λ i few. each i (omega (arith, few)))) (each (suc j) (omega arith))

  pub all_doubles : (j : ℕ) → AllByRecursion P (doubles j) → (i : ℕ) → i ≤ j → P (2 ^ i)
  unfolding doubles
  all_doubles zero all i few = let none : 0 ≡ i = omega (arith, few) in subst (λ (k : ℕ). P (2 ^ k)) none all.0
  all_doubles (suc j) all i few = ⊎_elim
      (λ less. all_doubles j (all_first (doubles j) (2 ^ suc j) all) i less)
      (λ more. let last : suc j ≡ i = omega (arith, few, more) in subst (λ (k : ℕ). P (2 ^ k)) last (all_last (doubles j) (2 ^ suc j) all))
      (at_most i j)
