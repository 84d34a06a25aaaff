-- The bands of zones hold the pairs of the zones.
use Rattle.std.proofs.Common.{◌≡◌, ◌↔◌, ◌⊎◌, inl, inr, ⊎_elim, ℕ, ◌+◌, ◌<◌, ℤ, List, [], ◌∷◌, ◌++◌, length, get_or, take, sym, subst}
use Rattle.std.proofs.lemmas.List.{take_more}
use Rattle.zone_core.specs.declared.Bounds.{Bounds}
use Rattle.zone_core.specs.Zone.{Meets}
use Rattle.band_normal.specs.declared.band.Band.{Band}
use Rattle.itpg_base.specs.Lists.{Among}
use Rattle.band_normal.specs.Bands.{IsWellFormed}
use Rattle.band_normal.specs.Normal.{Normal}
use Rattle.band_normal.specs.Zones.{SomeMeets}
use Rattle.band_normal.specs.Strips.{Holds}
use Rattle.itpg_base.proofs.Lists.{among_append, append_first, append_second}

-- the rows of a normal list hold the pairs of the relation
pub normal-holds : (R : ℤ → ℤ → Type 0) (rows : List Band) → Normal R rows → (t u : ℤ) → Holds rows t u ↔ R t u
normal-holds R rows n t u = (
  λ h. let i = h.2 in ((n.each h.0 h.1).runs t i.from i.to).each u i.low i.high,
  n.whole t u,
)

pub some-append : (xs ys : List Bounds) (t u : ℤ) → SomeMeets (xs ++ ys) t u ↔ (SomeMeets xs t u ⊎ SomeMeets ys t u)
some-append [] ys t u = (λ h. inr h, λ h. ⊎_elim (λ e. absurd e) (λ k. k) h)
some-append (x ∷ xs) ys t u = (
  λ h. ⊎_elim (λ m. inl (inl m)) (λ k. ⊎_elim (λ a. inl (inr a)) (λ b. inr b) ((some-append xs ys t u).0 k)) h,
  λ h. ⊎_elim (λ k. ⊎_elim (λ m. inl m) (λ a. inr ((some-append xs ys t u).1 (inl a))) k) (λ b. inr ((some-append xs ys t u).1 (inr b))) h,
)

pub holds-append : (xs ys : List Band) (t u : ℤ) → Holds (xs ++ ys) t u ↔ (Holds xs t u ⊎ Holds ys t u)
holds-append xs ys t u = (
  λ h. ⊎_elim (λ i. inl (h.0, i, h.2)) (λ i. inr (h.0, i, h.2)) (among_append xs ys h.0 h.1),
  λ h. ⊎_elim (λ k. (k.0, append_first xs ys k.0 k.1, k.2)) (λ k. (k.0, append_second xs ys k.0 k.1, k.2)) h,
)

-- one zone more, by its place
pub more_pairs : (zones : List Bounds) (i : ℕ) (z : Bounds) (d : Bounds) (bands more bands' : List Band) → i < length zones → z ≡ get_or zones i d → bands' ≡ bands ++ more → Normal (Meets z) more
    → (t u : ℤ) → Holds bands t u ↔ SomeMeets (take i zones) t u → Holds bands' t u ↔ SomeMeets (take (i + 1) zones) t u
more_pairs zones i z d bands more bands' lt is e n t u old =
    let P : List Band → Type 0 = λ v. Holds v t u ↔ SomeMeets (take (i + 1) zones) t u in
    let Q : List Bounds → Type 0 = λ v. Holds (bands ++ more) t u ↔ SomeMeets v t u in
    let S : Bounds → Type 0 = λ v. Holds more t u ↔ Meets v t u in
    let new = subst S is (normal-holds (Meets z) more n t u) in
    subst P (sym e) (subst Q (sym (take_more zones i d lt)) (
      λ h. (some-append (take i zones) (get_or zones i d ∷ []) t u).1 (⊎_elim (λ k. inl (old.0 k)) (λ k. inr (inl (new.0 k))) ((holds-append bands more t u).0 h)),
      λ h. (holds-append bands more t u).1 (⊎_elim (λ k. inl (old.1 k)) (λ k. inr (new.1 (⊎_elim (λ m. m) (λ f. absurd f) k))) ((some-append (take i zones) (get_or zones i d ∷ []) t u).0 h)),
    ))

pub more_formed : (bands more bands' : List Band) → bands' ≡ bands ++ more → ((b : Band) → Among bands b → IsWellFormed b) → ((b : Band) → Among more b → IsWellFormed b) → (b : Band) → Among bands' b → IsWellFormed b
more_formed bands more bands' e f g b i = ⊎_elim (λ j. f b j) (λ j. g b j) (among_append bands more b (subst (λ (v : List Band). Among v b) e i))
