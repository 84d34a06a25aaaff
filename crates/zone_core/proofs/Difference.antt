-- The six pieces of a difference of zones share no pair and have all of it.
use Rattle.std.proofs.Common.{◌↔◌, ℤ, ◌-ℤ◌, ◌<ℤ◌, inl, inr, Option, List, [], ◌∷◌}
use Rattle.std.proofs.lemmas.Int.{by_lt_z}
use Rattle.zone_core.proofs.Numbers.{signed}
use Rattle.zone_core.specs.declared.Bounds.{Bounds}
use Rattle.zone_core.specs.Zone.{AreApart, Between, Holds, IsTight, Meets, MeetsFirstOnly, SomeHolds}

-- the six pieces, in their order
pub record Pieces : Type 0 where
  pub before : Option Bounds
  pub after : Option Bounds
  pub below : Option Bounds
  pub above : Option Bounds
  pub sooner : Option Bounds
  pub later : Option Bounds

abbrev pub listed : Pieces → List (Option Bounds)
listed p = p.before ∷ p.after ∷ p.below ∷ p.above ∷ p.sooner ∷ p.later ∷ []

-- what the pieces of k less o have: the middle has the departures of o, and the inner its arrivals too
pub record AreCut (k o middle inner : Bounds) (p : Pieces) (t u : ℤ) : Type 0 where
  pub in_middle : Meets middle t u ↔ (Meets k t u × Between o.a o.b t)
  pub in_inner : Meets inner t u ↔ (Meets middle t u × Between o.c o.d u)
  pub before : Holds p.before t u ↔ (Meets k t u × (t <ℤ o.a))
  pub after : Holds p.after t u ↔ (Meets k t u × (o.b <ℤ t))
  pub below : Holds p.below t u ↔ (Meets middle t u × (u <ℤ o.c))
  pub above : Holds p.above t u ↔ (Meets middle t u × (o.d <ℤ u))
  pub sooner : Holds p.sooner t u ↔ (Meets inner t u × ((u -ℤ t) <ℤ o.e))
  pub later : Holds p.later t u ↔ (Meets inner t u × (o.f <ℤ (u -ℤ t)))

of_middle : {k o middle inner : Bounds} {p : Pieces} {t u : ℤ} → AreCut k o middle inner p t u → Meets middle t u → Meets k t u
of_middle cut m = (cut.in_middle.0 m).0

of_inner : {k o middle inner : Bounds} {p : Pieces} {t u : ℤ} → AreCut k o middle inner p t u → Meets inner t u → Meets k t u
of_inner cut m = of_middle cut (cut.in_inner.0 m).0

-- ---- each pair of a piece is in the difference, and each pair of the difference is in a piece

pub pieces-sound : {k o middle inner : Bounds} {p : Pieces} {t u : ℤ} → AreCut k o middle inner p t u
    → SomeHolds (listed p) t u → MeetsFirstOnly k o t u
pieces-sound cut (inl h) = let q = cut.before.0 h in (q.0, λ m. omega signed)
pieces-sound cut (inr (inl h)) = let q = cut.after.0 h in (q.0, λ m. omega signed)
pieces-sound cut (inr (inr (inl h))) = let q = cut.below.0 h in (of_middle cut q.0, λ m. omega signed)
pieces-sound cut (inr (inr (inr (inl h)))) = let q = cut.above.0 h in (of_middle cut q.0, λ m. omega signed)
pieces-sound cut (inr (inr (inr (inr (inl h))))) = let q = cut.sooner.0 h in (of_inner cut q.0, λ m. omega signed)
pieces-sound cut (inr (inr (inr (inr (inr (inl h)))))) = let q = cut.later.0 h in (of_inner cut q.0, λ m. omega signed)
pieces-sound cut (inr (inr (inr (inr (inr (inr h)))))) = absurd h

pub pieces-whole : {k o middle inner : Bounds} {p : Pieces} {t u : ℤ} → AreCut k o middle inner p t u
    → MeetsFirstOnly k o t u → SomeHolds (listed p) t u
pieces-whole {k} {o} {middle} {inner} {p} {t} {u} cut d =
    by_lt_z t o.a (λ x. inl (cut.before.1 (d.0, x))) (λ a.
    by_lt_z o.b t (λ x. inr (inl (cut.after.1 (d.0, x)))) (λ b.
    let m : Meets middle t u = cut.in_middle.1 (d.0, record { above = a; below = b }) in
    by_lt_z u o.c (λ x. inr (inr (inl (cut.below.1 (m, x))))) (λ c.
    by_lt_z o.d u (λ x. inr (inr (inr (inl (cut.above.1 (m, x)))))) (λ high.
    let n : Meets inner t u = cut.in_inner.1 (m, record { above = c; below = high }) in
    by_lt_z (u -ℤ t) o.e (λ x. inr (inr (inr (inr (inl (cut.sooner.1 (n, x))))))) (λ e.
    by_lt_z o.f (u -ℤ t) (λ x. inr (inr (inr (inr (inr (inl (cut.later.1 (n, x)))))))) (λ f.
    absurd (d.1 (record { from = a; to = b; low = c; high = high; least = e; most = f }))))))))

-- ---- no pair is in two pieces

last_two : {k o middle inner : Bounds} {p : Pieces} {t u : ℤ} → AreCut k o middle inner p t u
    → SomeHolds (p.sooner ∷ p.later ∷ []) t u → Meets inner t u
last_two cut (inl h) = (cut.sooner.0 h).0
last_two cut (inr (inl h)) = (cut.later.0 h).0
last_two cut (inr (inr h)) = absurd h

last_four : {k o middle inner : Bounds} {p : Pieces} {t u : ℤ} → AreCut k o middle inner p t u
    → SomeHolds (p.below ∷ p.above ∷ p.sooner ∷ p.later ∷ []) t u → Meets middle t u
last_four cut (inl h) = (cut.below.0 h).0
last_four cut (inr (inl h)) = (cut.above.0 h).0
last_four cut (inr (inr h)) = (cut.in_inner.0 (last_two cut h)).0

apart_before : {k o middle inner : Bounds} {p : Pieces} {t u : ℤ} → AreCut k o middle inner p t u → IsTight o
    → Holds p.before t u → SomeHolds (p.after ∷ p.below ∷ p.above ∷ p.sooner ∷ p.later ∷ []) t u → ⊥
apart_before cut tight h (inl g) = let q = cut.before.0 h in let r = cut.after.0 g in omega signed
apart_before cut tight h (inr g) = let q = cut.before.0 h in let r = cut.in_middle.0 (last_four cut g) in omega signed

apart_after : {k o middle inner : Bounds} {p : Pieces} {t u : ℤ} → AreCut k o middle inner p t u
    → Holds p.after t u → SomeHolds (p.below ∷ p.above ∷ p.sooner ∷ p.later ∷ []) t u → ⊥
apart_after cut h g = let q = cut.after.0 h in let r = cut.in_middle.0 (last_four cut g) in omega signed

apart_below : {k o middle inner : Bounds} {p : Pieces} {t u : ℤ} → AreCut k o middle inner p t u → IsTight o
    → Holds p.below t u → SomeHolds (p.above ∷ p.sooner ∷ p.later ∷ []) t u → ⊥
apart_below cut tight h (inl g) = let q = cut.below.0 h in let r = cut.above.0 g in omega signed
apart_below cut tight h (inr g) = let q = cut.below.0 h in let r = cut.in_inner.0 (last_two cut g) in omega signed

apart_above : {k o middle inner : Bounds} {p : Pieces} {t u : ℤ} → AreCut k o middle inner p t u
    → Holds p.above t u → SomeHolds (p.sooner ∷ p.later ∷ []) t u → ⊥
apart_above cut h g = let q = cut.above.0 h in let r = cut.in_inner.0 (last_two cut g) in omega signed

apart_sooner : {k o middle inner : Bounds} {p : Pieces} {t u : ℤ} → AreCut k o middle inner p t u → IsTight o
    → Holds p.sooner t u → SomeHolds (p.later ∷ []) t u → ⊥
apart_sooner cut tight h (inl g) = let q = cut.sooner.0 h in let r = cut.later.0 g in omega signed
apart_sooner cut tight h (inr g) = absurd g

pub pieces-apart : {k o middle inner : Bounds} {p : Pieces} → IsTight o → ((t u : ℤ) → AreCut k o middle inner p t u)
    → AreApart (listed p)
pieces-apart tight cut = (
  λ t u. apart_before (cut t u) tight,
  (
    λ t u. apart_after (cut t u),
    (
      λ t u. apart_below (cut t u) tight,
      (λ t u. apart_above (cut t u), (λ t u. apart_sooner (cut t u) tight, (λ t u h g. g, tt))),
    ),
  ),
)
