-- What is reached is decided, so there is a list of it; and there is one neighbourhood.
use Rattle.std.proofs.Common.{◌≡◌, ◌⊎◌, inl, inr, ℕ, zero, suc, ◌<◌, List, [], ◌∷◌, ◌++◌, length, Option, Some, refl, sym, ◌∙◌, subst, arith}
use Rattle.std.specs.Prelude.{IsTrue, IsSomeAnd, slice_get, unwrap_or}
use Rattle.std.proofs.lemmas.Option.{slice_get_within}
use Rattle.itpg_base.specs.Decided.{Decided}
use Rattle.itpg_base.proofs.Searches.{both, either, as_well, same_number, is_true, if_some, some_below}
use Rattle.itpg_base.specs.Graphs.{Graph, Object, Begun, Good, Stands, HasEnd}
use Rattle.itpg_base.proofs.Objects.{there}
use Rattle.itpg_base.specs.declared.object_number.ObjNo.{ObjNo}
use Rattle.itpg_graph.specs.Edges.{AreNumbers}
use Rattle.itpg_graph.specs.GraphParts.{IsOnly}
use Rattle.itpg_graph.proofs.Linked.{numbers_alike, no_numbers}
use Rattle.itpg_graph.proofs.Rising.{pushed_has, has_pushed, pushed_rising}
use Rattle.source_rows.specs.Reach.{IsStep, IsReached, Reach}
use Rattle.source_rows.proofs.Finding.{reached_none, reached_one_more, bound_reach}
use Rattle.source_rows.proofs.Untouched.{reached_stands}

decide_stands : (g : Graph) (o : ℕ) → Decided (Stands g o)
decide_stands g o = if_some (slice_get g.objects o) (λ x. IsTrue x.standing) (λ x. is_true x.standing)

decide_end : (g : Graph) (e a : ℕ) → Decided (HasEnd g e a)
decide_end g e a =
    if_some (slice_get g.objects e) (λ x. IsTrue x.standing × IsSomeAnd x.ends (λ n. (n.source ≡ a) ⊎ (n.target ≡ a)))
    (λ x. both (is_true x.standing) (if_some x.ends (λ n. (n.source ≡ a) ⊎ (n.target ≡ a)) (λ n. either (same_number n.source a) (same_number n.target a))))

decide_step : (g : Graph) (a b : ℕ) → Decided (IsStep g a b)
decide_step g a b = either (decide_end g b a) (decide_end g a b)

module _ (g : Graph) (good : Good g) (o : ℕ) (stands : Stands g o) where
  -- what is reached is one of the objects
  reached_below : (bound : Option ℕ) (a : ℕ) → IsReached g o bound a → a < length g.objects
  reached_below bound a r = let t = there g.objects a _ (reached_stands g good o bound a stands r) in slice_get_within g.objects a t.0 t.1

  -- so one that is reached, of which something holds, is searched for
  some_reached : (bound : Option ℕ) (P : ℕ → Type 0) → ((b : ℕ) → Decided (IsReached g o bound b)) → ((b : ℕ) → Decided (P b)) → Decided ((b : ℕ) × IsReached g o bound b × P b)
  some_reached bound P reached each = as_well
      (λ h. (h.0, h.2.0, h.2.1))
      (λ h. (h.0, reached_below bound h.0 h.1, (h.1, h.2)))
      (some_below (length g.objects) (λ b. IsReached g o bound b × P b) (λ b. both (reached b) (each b)))

  decide_within : (n a : ℕ) → Decided (IsReached g o (Some n) a)
  decide_within zero a = as_well (reached_none g o a).1 (reached_none g o a).0 (same_number o a)
  decide_within (suc n) a = as_well (reached_one_more g o n a).1 (reached_one_more g o n a).0
      (either (decide_within n a) (some_reached (Some n) (λ b. IsStep g b a) (decide_within n) (λ b. decide_step g b a)))

  decide_reached : (bound : Option ℕ) (a : ℕ) → Decided (IsReached g o bound a)
  decide_reached bound a =
      let same = bound_reach g good o stands bound a in as_well same.0 same.1 (decide_within (unwrap_or bound (length g.objects)) a)

  pub decide_reach : (bound : Option ℕ) (a : ℕ) → Decided (Reach g o bound a)
  decide_reach bound a = both (decide_stands g a)
      (either (decide_reached bound a) (some_reached bound (λ e. HasEnd g e a) (decide_reached bound) (λ e. decide_end g e a)))

-- the numbers of a decided set below n
numbers_below : (S : ℕ → Type 0) → ((k : ℕ) → Decided (S k)) → (n : ℕ) → (objects : List ObjNo) × AreNumbers (λ k. S k × (k < n)) objects
numbers_below S decide zero = ([], no_numbers (λ k. S k × (k < zero)) (λ k h. let lt = h.1 in omega arith))
numbers_below S decide (suc n) = by_last (decide n) (numbers_below S decide n)
  where
    by_last : Decided (S n) → (objects : List ObjNo) × AreNumbers (λ k. S k × (k < n)) objects → (objects : List ObjNo) × AreNumbers (λ k. S k × (k < suc n)) objects
    by_last (inl last) (objects, are) = (
      objects ++ record { 0 = n } ∷ [],
      record {
        whole = λ k h. pushed_has objects (record { 0 = n }) k (elim (same_number k n) [
          | inl is ↦ inr is
          | inr other ↦ inl (are.whole k (h.0, (let lt = h.1 in omega arith)))
        ]);
        only = λ k h. elim (has_pushed objects (record { 0 = n }) k h) [
          | inl old ↦ let is = are.only k old in (is.0, (let lt = is.1 in omega arith))
          | inr is ↦ (subst S (sym is) last, (let e : k ≡ n = is in omega arith))
        ];
        rising = pushed_rising objects (record { 0 = n }) are.rising (λ k h. (are.only k h).1);
      },
    )
    by_last (inr none) (objects, are) = (
      objects,
      numbers_alike (λ k. S k × (k < n)) (λ k. S k × (k < suc n)) objects
          (λ k h. (h.0, (let lt = h.1 in omega arith)))
          (λ k h. (
            h.0,
            elim (same_number k n) [
              | inl is ↦ absurd (none (subst S is h.0))
              | inr other ↦ (let lt = h.1 in omega arith)
            ],
          ))
          are,
    )

-- what is reached from a standing object has a list
pub near_list : (g : Graph) (o : ℕ) (bound : Option ℕ) → Good g → Stands g o → (objects : List ObjNo) × AreNumbers (Reach g o bound) objects
near_list g o bound good stands =
    let below : (a : ℕ) → Reach g o bound a → a < length g.objects = λ a r. let t = there g.objects a _ r.0 in slice_get_within g.objects a t.0 t.1 in
    let all = numbers_below (Reach g o bound) (decide_reach g good o stands bound) (length g.objects) in
    (all.0, numbers_alike (λ k. Reach g o bound k × (k < length g.objects)) (Reach g o bound) all.0 (λ k h. h.0) (λ k h. (h, below k h)) all.1)

-- lists with the same at each place are equal
lists_same : {X : Type 0} (xs ys : List X) → ((i : ℕ) → slice_get xs i ≡ slice_get ys i) → xs ≡ ys
lists_same [] [] each = refl
lists_same [] (y ∷ ys) each = let first = each 0 in absurd (let never : ⊥ = cc in never)
lists_same (x ∷ xs) [] each = let first = each 0 in absurd (let never : ⊥ = cc in never)
lists_same (x ∷ xs) (y ∷ ys) each = let first : Some x ≡ Some y = each 0 in let rest : xs ≡ ys = lists_same xs ys (λ i. each (suc i)) in cc

same_fields : (s t : Option Begun) (xs ys : List Object) → s ≡ t → xs ≡ ys → let a : Graph = record { begun = s; objects = xs } in a ≡ record { begun = t; objects = ys }
same_fields s t xs ys begun objects = cc

same_graph : (a b : Graph) → a.begun ≡ b.begun → a.objects ≡ b.objects → a ≡ b
same_graph a b begun objects = same_fields a.begun b.begun a.objects b.objects begun objects

-- a set has one graph with nothing else
pub one_part : (g : Graph) (S : ℕ → Type 0) (a b : Graph) → IsOnly g S a → IsOnly g S b → a ≡ b
one_part g S a b only other = same_graph a b (only.begun ∙ sym other.begun) (lists_same a.objects b.objects each)
  where
    each : (o : ℕ) → slice_get a.objects o ≡ slice_get b.objects o
    each o = elim (only.each o) [
      | inl h ↦ elim (other.each o) [ inl k ↦ h.1 ∙ sym k.1 | inr k ↦ absurd (k.0 h.0) ]
      | inr h ↦ elim (other.each o) [ inl k ↦ absurd (h.0 k.0) | inr k ↦ h.1 ∙ sym k.1 ]
    ]
