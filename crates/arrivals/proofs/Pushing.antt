-- Zones pushed one after another, each of an element of a list.
use Rattle.std.proofs.Common.{◌≡◌, ◌↔◌, ◌⊎◌, inl, inr, ⊎_elim, ℕ, ◌+◌, ◌<◌, ◌≤◌, ℤ, List, [], ◌∷◌, ◌++◌, length, slice_index_or, take, refl, sym, subst}
use Rattle.std.proofs.lemmas.List.{take_more, take_all}
use Rattle.zone_core.specs.declared.Bounds.{Bounds}
use Rattle.zone_core.specs.Zone.{Meets}
use Rattle.itpg_base.specs.Lists.{Among}
use Rattle.band_normal.specs.Zones.{SomeMeets}
use Rattle.itpg_base.proofs.Lists.{among_append, append_first, append_second}
use Rattle.arrivals.specs.Firsts.{SomeOf}

pub some_meets : (zs : List Bounds) (t u : ℤ) → SomeMeets zs t u → SomeOf Meets zs t u
some_meets [] t u h = absurd h
some_meets (z ∷ zs) t u (inl m) = (z, inl refl, m)
some_meets (z ∷ zs) t u (inr h) = let w = some_meets zs t u h in (w.0, inr w.1, w.2)

pub meets_some : (zs : List Bounds) (z : Bounds) (t u : ℤ) → Among zs z → Meets z t u → SomeMeets zs t u
meets_some [] z t u i m = absurd i
meets_some (y ∷ ys) z t u (inl e) m = inl (subst (λ (v : Bounds). Meets v t u) (sym e) m)
meets_some (y ∷ ys) z t u (inr i) m = inr (meets_some ys z t u i m)

pub meets_append : (xs ys : List Bounds) (t u : ℤ) → SomeMeets (xs ++ ys) t u ↔ (SomeMeets xs t u ⊎ SomeMeets ys t u)
meets_append [] ys t u = (λ h. inr h, λ h. ⊎_elim (λ e. absurd e) (λ k. k) h)
meets_append (x ∷ xs) ys t u = (
  λ h. ⊎_elim (λ m. inl (inl m)) (λ k. ⊎_elim (λ a. inl (inr a)) (λ b. inr b) ((meets_append xs ys t u).0 k)) h,
  λ h. ⊎_elim (λ k. ⊎_elim (λ m. inl m) (λ a. inr ((meets_append xs ys t u).1 (inl a))) k) (λ b. inr ((meets_append xs ys t u).1 (inr b))) h,
)

pub some_append : {X : Type 0} (Q : X → ℤ → ℤ → Type 0) (xs ys : List X) (t u : ℤ) → SomeOf Q (xs ++ ys) t u ↔ (SomeOf Q xs t u ⊎ SomeOf Q ys t u)
some_append Q xs ys t u = (
  λ h. ⊎_elim (λ i. inl (h.0, i, h.2)) (λ i. inr (h.0, i, h.2)) (among_append xs ys h.0 h.1),
  λ h. ⊎_elim (λ k. (k.0, append_first xs ys k.0 k.1, k.2)) (λ k. (k.0, append_second xs ys k.0 k.1, k.2)) h,
)

-- to the old zones those of these elements were pushed
abbrev pub Pushed : {X : Type 0} → (X → ℤ → ℤ → Type 0) → List Bounds → List X → List Bounds → Type 0
Pushed Q old xs now = (t : ℤ) (u : ℤ) → SomeMeets now t u ↔ (SomeMeets old t u ⊎ SomeOf Q xs t u)

none_taken : {X : Type 0} (xs : List X) (x : X) → Among (take 0 xs) x → ⊥
none_taken [] x h = h
none_taken (y ∷ ys) x h = h

pub none_pushed : {X : Type 0} (Q : X → ℤ → ℤ → Type 0) (old : List Bounds) (xs : List X) → Pushed Q old (take 0 xs) old
none_pushed Q old xs t u = (λ h. inl h, λ h. ⊎_elim (λ a. a) (λ a. absurd (none_taken xs a.0 a.1)) h)

pub one_pushed : {X : Type 0} (Q : X → ℤ → ℤ → Type 0) (old : List Bounds) (xs : List X) (i : ℕ) (d : X) → i < length xs → (z : Bounds) → ((t : ℤ) (u : ℤ) → Meets z t u ↔ Q (slice_index_or xs i d) t u)
    → (now next : List Bounds) → next ≡ now ++ z ∷ [] → Pushed Q old (take i xs) now → Pushed Q old (take (i + 1) xs) next
one_pushed {X} Q old xs i d lt z pairs now next e so t u =
    let x : X = slice_index_or xs i d in
    let f : take (i + 1) xs ≡ take i xs ++ x ∷ [] = take_more xs i d lt in
    subst (λ (v : List Bounds). SomeMeets v t u ↔ (SomeMeets old t u ⊎ SomeOf Q (take (i + 1) xs) t u)) (sym e)
    (subst (λ (v : List X). SomeMeets (now ++ z ∷ []) t u ↔ (SomeMeets old t u ⊎ SomeOf Q v t u)) (sym f) (
      λ h. ⊎_elim
          (λ a. ⊎_elim (λ b. inl b) (λ b. inr ((some_append Q (take i xs) (x ∷ []) t u).1 (inl b))) ((so t u).0 a))
          (λ a. ⊎_elim (λ m. inr ((some_append Q (take i xs) (x ∷ []) t u).1 (inr (x, inl refl, (pairs t u).0 m)))) (λ k. absurd k) a)
          ((meets_append now (z ∷ []) t u).0 h),
      λ h. (meets_append now (z ∷ []) t u).1 (⊎_elim
          (λ a. inl ((so t u).1 (inl a)))
          (λ a. ⊎_elim
          (λ b. inl ((so t u).1 (inr b)))
          (λ (b : SomeOf Q (x ∷ []) t u). ⊎_elim (λ (g : x ≡ b.0). inr (inl ((pairs t u).1 (subst (λ (v : X). Q v t u) (sym g) b.2)))) (λ k. absurd k) b.1)
          ((some_append Q (take i xs) (x ∷ []) t u).0 a))
          h),
    ))

pub one_pushed_as : {X : Type 0} (Q : X → ℤ → ℤ → Type 0) (old : List Bounds) (xs : List X) (i : ℕ) (d x : X) → i < length xs → x ≡ slice_index_or xs i d → (z : Bounds) → ((t : ℤ) (u : ℤ) → Meets z t u ↔ Q x t u)
    → (now next : List Bounds) → next ≡ now ++ z ∷ [] → Pushed Q old (take i xs) now → Pushed Q old (take (i + 1) xs) next
one_pushed_as {X} Q old xs i d x lt e z pairs now next f so = one_pushed Q old xs i d lt z (subst (λ (v : X). (t : ℤ) (u : ℤ) → Meets z t u ↔ Q v t u) e pairs) now next f so

pub all_pushed : {X : Type 0} (Q : X → ℤ → ℤ → Type 0) (old : List Bounds) (xs : List X) (i : ℕ) (now : List Bounds) → length xs ≤ i → Pushed Q old (take i xs) now → Pushed Q old xs now
all_pushed {X} Q old xs i now le = subst (λ (v : List X). Pushed Q old v now) (take_all i xs le)

-- where there were no zones
pub pushed_alone : {X : Type 0} (Q : X → ℤ → ℤ → Type 0) (old : List Bounds) (xs : List X) (now : List Bounds) → old ≡ [] → Pushed Q old xs now → (t u : ℤ) → SomeMeets now t u ↔ SomeOf Q xs t u
pushed_alone {X} Q old xs now e so t u = (
  λ h. ⊎_elim (λ a. absurd (subst (λ (v : List Bounds). SomeMeets v t u) e a)) (λ b. b) ((so t u).0 h),
  λ h. (so t u).1 (inr h),
)

-- two lists of elements, one after the other
pub pushed_both : {X : Type 0} (Q : X → ℤ → ℤ → Type 0) (old mid now : List Bounds) (xs ys : List X) → old ≡ [] → Pushed Q old xs mid → Pushed Q mid ys now → (t u : ℤ) → SomeMeets now t u ↔ (SomeOf Q xs t u ⊎ SomeOf Q ys t u)
pushed_both Q old mid now xs ys e f g t u = (
  λ h. ⊎_elim (λ a. inl ((pushed_alone Q old xs mid e f t u).0 a)) (λ b. inr b) ((g t u).0 h),
  λ h. (g t u).1 (⊎_elim (λ a. inl ((pushed_alone Q old xs mid e f t u).1 a)) (λ b. inr b) h),
)
