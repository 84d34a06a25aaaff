-- What is so, or isn't, at some moment of a span.
use Rattle.std.proofs.Common.{◌≡◌, ℕ, suc, ◌+◌, ℤ, List, ◌⊎◌, inl, inr, ⊎_elim, Option, Some, None, refl, sym, subst, arith}
use Rattle.std.specs.Prelude.{IsSome, IsNone, slice_get, option_map}
use Rattle.std.proofs.lemmas.Int.{ints}
use borrow.Author.Differences.{up, down}
use Rattle.itpg_base.specs.Spans.{Span, Within, Covers}
use Rattle.itpg_base.specs.Decided.{Decided}
use Rattle.itpg_base.specs.Graphs.{Graph, Begun, Exists, ObjectIs}
use Rattle.itpg_base.proofs.Searches.{both, as_well, some_from, if_some}
use Rattle.itpg_base.proofs.Objects.{there}
use Rattle.interval_set.specs.Runs.{AreRuns}
use Rattle.interval_set.proofs.Unique.{runs_alike}
use Rattle.interval_set.proofs.Coalesced.{decide_within, decide_covers}
use Rattle.itpg_graph.proofs.Kept.{exists_at, at_exists}

-- it is decided whether something that is decided of each moment is so at a moment of a span
pub some_moment : (s : Span) (P : ℤ → Type 0) → ((t : ℤ) → Decided (P t)) → Decided ((t : ℤ) × Within t s × P t)
some_moment s P each = as_well
    (λ h. (h.0, h.3.0, h.3.1))
    (λ h. let w = h.1 in (h.0, w.begun, (let f = w.begun in let e = w.going in omega (arith, ints)), (w, h.2)))
    (some_from (suc (up s.to + down s.from)) s.from (λ t. Within t s × P t) (λ t. both (decide_within s t) (each t)))

pub decide_exists : (g : Graph) (o : ℕ) (t : ℤ) → Decided (Exists g o t)
decide_exists g o t = if_some (slice_get g.objects o) (λ x. Covers x.live t) (λ x. decide_covers x.live t)

-- an object's moments, and the list that it keeps
module _ (g : Graph) (o : ℕ) (live : List Span) (is : ObjectIs g o (λ x. live ≡ x.live)) where
  pub covered : (t : ℤ) → Exists g o t → Covers live t
  covered t h = let a = there g.objects o _ is in subst (λ l. Covers l t) (sym a.2) (exists_at g o a.0 a.1 t h)

  pub existing : (t : ℤ) → Covers live t → Exists g o t
  existing t h = let a = there g.objects o _ is in at_exists g o a.0 a.1 t (subst (λ l. Covers l t) a.2 h)

  module _ (s : Span) (spans : List Span) where
    pub alike_joined : AreRuns (λ t. Covers live t ⊎ Within t s) spans → AreRuns (λ t. Exists g o t ⊎ Within t s) spans
    alike_joined = runs_alike (λ t. Covers live t ⊎ Within t s) (λ t. Exists g o t ⊎ Within t s) spans (λ t h. ⊎_elim (λ k. inl (existing t k)) (λ w. inr w) h) (λ t h. ⊎_elim (λ k. inl (covered t k)) (λ w. inr w) h)

    pub joined_alike : AreRuns (λ t. Exists g o t ⊎ Within t s) spans → AreRuns (λ t. Covers live t ⊎ Within t s) spans
    joined_alike = runs_alike (λ t. Exists g o t ⊎ Within t s) (λ t. Covers live t ⊎ Within t s) spans (λ t h. ⊎_elim (λ k. inl (covered t k)) (λ w. inr w) h) (λ t h. ⊎_elim (λ k. inl (existing t k)) (λ w. inr w) h)

pub not_both : {X : Type 0} (o : Option X) → IsSome o → IsNone o → ⊥
not_both None some none = let never : ⊥ = cc in never
not_both (Some x) some none = let never : ⊥ = cc in never

-- a graph with a horizon is begun
pub begun_some : (b : Option Begun) (h : Span) → Some h ≡ option_map (λ b. b.horizon) b → IsSome b
begun_some None h e = let none : ⊥ = cc in absurd none
begun_some (Some b) h e = refl
