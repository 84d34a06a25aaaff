-- What a caller finds out with the readers.
use Rattle.std.proofs.Common.{◌≡◌, ◌≢◌, ℕ, suc, ◌+◌, ◌≤◌, ℤ, List, [], ◌⊎◌, inl, inr, length, Option, Some, None, refl, sym, ap, ◌∙◌, subst, arith}
use borrow.Author.Differences.{up, down}
use Rattle.std.proofs.lemmas.Int.{ints}
use Rattle.std.specs.Prelude.{slice_get, IsTrue, IsSomeAnd, IsNone, IfSome, unwrap_or, option_map}
use Rattle.itpg_base.specs.Words.{Word}
use Rattle.itpg_base.specs.Spans.{Span, Within, Covers}
use Rattle.itpg_base.specs.Graphs.{Graph, Object, Begun, InHorizon, Ends, Valued, ObjectIs, Stands, HasEnd, Val}
use Rattle.itpg_base.specs.declared.object_number.ObjNo.{ObjNo}
use Rattle.itpg_base.proofs.Objects.{there, here, same_some}
use Rattle.itpg_base.proofs.Searches.{both, fails, some_from}
use Rattle.interval_set.proofs.Coalesced.{decide_within, decide_covers}
use Rattle.interval_set.specs.Runs.{AreRunsOf, HasPut, HasCleared}
use Rattle.itpg_graph.specs.Kinds.{ends_of, kind_by, kind_of}
use Rattle.itpg_graph.specs.declared.graph.Kind.TheVariants.{Node, Edge}
use Rattle.itpg_graph.specs.Edges.{LeadsFrom, LeadsTo}
use Rattle.itpg_graph.specs.Families.{ValOutside, ValPut, HasCutFamily, FitCut, FitPut, FitClear}
use Rattle.itpg_graph.proofs.Cutting.{values_alike}

-- a node's edges are those that leave it and those that come into it
pub end_leads : (g : Graph) (o e : ℕ) → HasEnd g e o → LeadsFrom g o e ⊎ LeadsTo g o e
end_leads g o e h = let x = there g.objects e _ h in by_ends x.0.ends x.2.1
    (λ from. inl (here g.objects e _ x.0 x.1 (x.2.0, from)))
    (λ to. inr (here g.objects e _ x.0 x.1 (x.2.0, to)))
  where
    by_ends : {R : Type 0} (ends : Option Ends) → IsSomeAnd ends (λ n. (n.source ≡ o) ⊎ (n.target ≡ o)) → (IsSomeAnd ends (λ n. n.source ≡ o) → R) → (IsSomeAnd ends (λ n. n.target ≡ o) → R) → R
    by_ends None h from to = absurd h
    by_ends (Some n) h from to = elim h [ inl s ↦ from s | inr t ↦ to t ]

pub from_end : (g : Graph) (o e : ℕ) → LeadsFrom g o e → HasEnd g e o
from_end g o e h = let x = there g.objects e _ h in here g.objects e _ x.0 x.1 (x.2.0, by_ends x.0.ends x.2.1)
  where
    by_ends : (ends : Option Ends) → IsSomeAnd ends (λ n. n.source ≡ o) → IsSomeAnd ends (λ n. (n.source ≡ o) ⊎ (n.target ≡ o))
    by_ends None h = h
    by_ends (Some n) h = inl h

pub to_end : (g : Graph) (o e : ℕ) → LeadsTo g o e → HasEnd g e o
to_end g o e h = let x = there g.objects e _ h in here g.objects e _ x.0 x.1 (x.2.0, by_ends x.0.ends x.2.1)
  where
    by_ends : (ends : Option Ends) → IsSomeAnd ends (λ n. n.target ≡ o) → IsSomeAnd ends (λ n. (n.source ≡ o) ⊎ (n.target ≡ o))
    by_ends None h = h
    by_ends (Some n) h = inr h

-- what `ends` says of an edge and of a node
pub edge_ends : (g : Graph) (e : ℕ) (a b : ObjNo) → ObjectIs g e (λ x. ends_of (Some (a, b)) ≡ x.ends) → (o : ℕ) → HasEnd g e o → (a.0 ≡ o) ⊎ (b.0 ≡ o)
edge_ends g e a b is o h =
    let x = there g.objects e _ is in
    let y = there g.objects e _ h in
    subst (λ ends. IsSomeAnd ends (λ n. (n.source ≡ o) ⊎ (n.target ≡ o))) (ap (λ z. z.ends) (same_some _ _ (slice_get g.objects e) y.1 x.1) ∙ sym x.2) y.2.1

pub ends_edge : (g : Graph) (e : ℕ) (a b : ObjNo) → Stands g e → ObjectIs g e (λ x. ends_of (Some (a, b)) ≡ x.ends) → (o : ℕ) → (a.0 ≡ o) ⊎ (b.0 ≡ o) → HasEnd g e o
ends_edge g e a b stands is o h =
    let x = there g.objects e _ is in
    let y = there g.objects e _ stands in
    let same : y.0 ≡ x.0 = same_some _ _ (slice_get g.objects e) y.1 x.1 in
    here g.objects e _ x.0 x.1 (subst (λ (z : Object). IsTrue z.standing) same y.2, subst (λ ends. IsSomeAnd ends (λ n. (n.source ≡ o) ⊎ (n.target ≡ o))) x.2 h)

pub node_ends : (g : Graph) (e : ℕ) → ObjectIs g e (λ x. ends_of None ≡ x.ends) → (o : ℕ) → HasEnd g e o → ⊥
node_ends g e is o h =
    let x = there g.objects e _ is in
    let y = there g.objects e _ h in
    subst (λ ends. IsSomeAnd ends (λ n. (n.source ≡ o) ⊎ (n.target ≡ o))) (ap (λ z. z.ends) (same_some _ _ (slice_get g.objects e) y.1 x.1) ∙ sym x.2) y.2.1

-- what `kind` says
pub node_kind : (g : Graph) (o : ℕ) → ObjectIs g o (λ x. Node ≡ kind_of x) → ObjectIs g o (λ x. x.ends ≡ None)
node_kind g o is = let x = there g.objects o _ is in here g.objects o _ x.0 x.1 (by_ends x.0.ends x.2)
  where
    by_ends : (ends : Option Ends) → Node ≡ kind_by ends → ends ≡ None
    by_ends None e = refl
    by_ends (Some n) e = let never : ⊥ = cc in absurd never

pub edge_kind : (g : Graph) (o : ℕ) → ObjectIs g o (λ x. Edge ≡ kind_of x) → ObjectIs g o (λ x. x.ends ≢ None)
edge_kind g o is = let x = there g.objects o _ is in here g.objects o _ x.0 x.1 (λ none. let e = x.2 ∙ ap kind_by none in let never : ⊥ = cc in never)

-- the widest family decides whether a cut fits
pub cut_fits : (g : Graph) (o : ℕ) (s : Span) (w : ℕ) → ((n : ℕ) → HasCutFamily g o s n → n ≤ w) → w ≤ 4096 → FitCut g o s
cut_fits g o s w most le = λ n family. let fewer = most n family in omega arith

-- a change of the runs of a property, as one of the object's values of it
module _ (g : Graph) (o : ℕ) (name : Word) (runs : List Valued) (are : AreRunsOf (Val g o name) runs) (s : Span) where
  pub put_alike : (value : Word) (changed : List Valued) → AreRunsOf (ValPut g o s value name) changed → AreRunsOf (HasPut runs s value) changed
  put_alike value changed = values_alike (ValPut g o s value name) (HasPut runs s value) changed
      (λ t v h. elim h [ inl put ↦ inl put | inr kept ↦ inr (are.whole t v kept.0, kept.1) ])
      (λ t v h. elim h [ inl put ↦ inl put | inr kept ↦ inr (are.only t v kept.0, kept.1) ])

  pub alike_put : (value : Word) (changed : List Valued) → AreRunsOf (HasPut runs s value) changed → AreRunsOf (ValPut g o s value name) changed
  alike_put value changed = values_alike (HasPut runs s value) (ValPut g o s value name) changed
      (λ t v h. elim h [ inl put ↦ inl put | inr kept ↦ inr (are.only t v kept.0, kept.1) ])
      (λ t v h. elim h [ inl put ↦ inl put | inr kept ↦ inr (are.whole t v kept.0, kept.1) ])

  pub clear_alike : (changed : List Valued) → AreRunsOf (ValOutside g o s name) changed → AreRunsOf (HasCleared runs s) changed
  clear_alike changed = values_alike (ValOutside g o s name) (HasCleared runs s) changed (λ t v h. (are.whole t v h.0, h.1)) (λ t v h. (are.only t v h.0, h.1))

  pub alike_clear : (changed : List Valued) → AreRunsOf (HasCleared runs s) changed → AreRunsOf (ValOutside g o s name) changed
  alike_clear changed = values_alike (HasCleared runs s) (ValOutside g o s name) changed (λ t v h. (are.only t v h.0, h.1)) (λ t v h. (are.whole t v h.0, h.1))

  -- a count of the changed runs decides whether a change fits
  pub put_fits : (value : Word) (n : ℕ) → ((changed : List Valued) → AreRunsOf (HasPut runs s value) changed → n ≡ length changed) → n ≤ 4096 → FitPut g o name value s
  put_fits value n count le = λ changed h. let is = count changed (put_alike value changed h) in omega arith

  pub clear_fits : (n : ℕ) → ((changed : List Valued) → AreRunsOf (HasCleared runs s) changed → n ≡ length changed) → n ≤ 4096 → FitClear g o name s
  clear_fits n count le = λ changed h. let is = count changed (clear_alike changed h) in omega arith

-- an object without the property has its empty list of runs
pub no_value : (g : Graph) (o : ℕ) (name : Word) → ((t : ℤ) (value : Word) → ¬ Val g o name t value) → AreRunsOf (Val g o name) []
no_value g o name none = record { whole = λ t v h. none t v h; only = λ t v h. absurd h; coalesced = tt }

-- a span that a set doesn't cover has a moment that the set hasn't
pub uncovered : (live : List Span) (s : Span) → (((t : ℤ) → Within t s → Covers live t) → ⊥) → (t : ℤ) × Within t s × (Covers live t → ⊥)
uncovered live s not_all = elim (some_from (suc (up s.to + down s.from)) s.from (λ t. Within t s × (Covers live t → ⊥)) (λ t. both (decide_within s t) (fails (decide_covers live t)))) [
  | inl found ↦ (found.0, found.3.0, found.3.1)
  | inr none ↦ absurd (not_all (λ t w. elim (decide_covers live t) [
    | inl here ↦ here
    | inr missing ↦ let from = w.begun in let to = w.going in absurd (none (t, from, omega (arith, ints), (w, missing)))
  ]))
]

-- the values of a property, or none
pub values_or_none : {X : Type 0} (now : X → List Valued) (found : Option X) (none : X) (g : Graph) (o : ℕ) (name : Word) → IfSome found (λ x. AreRunsOf (Val g o name) (now x)) → (IsNone found → (t : ℤ) (value : Word) → ¬ Val g o name t value)
    → now none ≡ [] → AreRunsOf (Val g o name) (now (unwrap_or found none))
values_or_none now None none g o name some never empty = subst (AreRunsOf (Val g o name)) (sym empty) (no_value g o name (never refl))
values_or_none now (Some x) none g o name some never empty = some

-- what `horizon` says of the graph's moments
pub into_horizon : (g : Graph) (h : Span) (t : ℤ) → Some h ≡ option_map (λ b. b.horizon) g.begun → Within t h → InHorizon g t
into_horizon g h t e w = by_begun g.begun e
  where
    by_begun : (b : Option Begun) → Some h ≡ option_map (λ b. b.horizon) b → IsSomeAnd b (λ b. Within t b.horizon)
    by_begun None e = let never : ⊥ = cc in absurd never
    by_begun (Some b) e = let same : h ≡ b.horizon = cc in subst (Within t) same w

pub out_of_horizon : (g : Graph) (h : Span) (t : ℤ) → Some h ≡ option_map (λ b. b.horizon) g.begun → InHorizon g t → Within t h
out_of_horizon g h t e w = by_begun g.begun e w
  where
    by_begun : (b : Option Begun) → Some h ≡ option_map (λ b. b.horizon) b → IsSomeAnd b (λ b. Within t b.horizon) → Within t h
    by_begun None e w = absurd w
    by_begun (Some b) e w = let same : h ≡ b.horizon = cc in subst (Within t) (sym same) w
