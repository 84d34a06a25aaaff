-- A change that touches nothing near an object leaves its neighbourhood.
use Rattle.std.proofs.Common.{◌≡◌, ◌⊎◌, inl, inr, ℕ, suc, ◌≤◌, List, [], ◌∷◌, length, Option, refl, sym, ◌∙◌, subst, arith}
use Rattle.std.specs.Prelude.{IsTrue, IsSomeAnd, slice_get, ◌↔◌}
use Rattle.itpg_base.specs.Graphs.{Graph, Good, Object, Stands, HasEnd}
use Rattle.itpg_base.specs.Points.{Point}
use Rattle.itpg_base.specs.Walks.{IsWalk}
use Rattle.itpg_base.proofs.Objects.{there, here}
use Rattle.path_ast.specs.Terms.{PathTerm}
use Rattle.path_ast.specs.Meaning.{Rel}
use Rattle.source_rows.specs.Steps.{path_steps, IsUpTo}
use Rattle.source_rows.specs.Reach.{IsStep, IsReached, Reach}
use Rattle.source_rows.specs.Near.{IsNear, StandsAs, AgreeOn, Agree}
use Rattle.source_rows.proofs.Bounds.{upto_less}
use Rattle.source_rows.proofs.Agreeing.{turned, IsRoomy, rel_moved}
use Rattle.source_rows.proofs.Nearing.{part_is, part_has}

-- a change that leaves each standing object but those touched as it was, and the standing edges at each of these
pub record LeavesOthers (g h : Graph) (T : ℕ → Type 0) : Type 0 where
  pub begun : g.begun ≡ h.begun
  pub entries : (a : ℕ) → Stands g a → ¬ T a → slice_get h.objects a ≡ slice_get g.objects a
  pub edges : (e a : ℕ) → Stands g a → ¬ T a → HasEnd g e a ↔ HasEnd h e a

edge_stands : (g : Graph) (e a : ℕ) → HasEnd g e a → Stands g e
edge_stands g e a h = let t = there g.objects e _ h in here g.objects e _ t.0 t.1 t.2.0

pub end_stands : (g : Graph) → Good g → (e a : ℕ) → HasEnd g e a → Stands g a
end_stands g good e a h = let t = there g.objects a _ (good.ends_stand e a h) in here g.objects a _ t.0 t.1 t.2.0

step_stands : (g : Graph) → Good g → (a b : ℕ) → IsStep g a b → Stands g b
step_stands g good a b (inl h) = edge_stands g b a h
step_stands g good a b (inr h) = end_stands g good a b h

walk_stands : (g : Graph) → Good g → (a : ℕ) (zs : List ℕ) (b : ℕ) → Stands g a → IsWalk (IsStep g) a zs b → Stands g b
walk_stands g good a [] b stands walk = subst (Stands g) walk stands
walk_stands g good a (z ∷ zs) b stands walk = walk_stands g good z zs b (step_stands g good a z walk.0) walk.1

-- in a good graph what is reached from a standing object stands
pub reached_stands : (g : Graph) → Good g → (o : ℕ) (bound : Option ℕ) (a : ℕ) → Stands g o → IsReached g o bound a → Stands g a
reached_stands g good o bound a stands r = walk_stands g good o r.0 a stands r.2

module _ (g h : Graph) (good : Good g) (T : ℕ → Type 0) (leaves : LeavesOthers g h T) where
  step_same : (a b : ℕ) → Stands g a → ¬ T a → IsStep g a b ↔ IsStep h a b
  step_same a b stands apart = (to, back)
    where
      to : IsStep g a b → IsStep h a b
      to (inl k) = inl ((leaves.edges b a stands apart).0 k)
      to (inr k) = inr (subst (λ w. IsSomeAnd w (λ x. IsTrue x.standing × IsSomeAnd x.ends (λ n. (n.source ≡ b) ⊎ (n.target ≡ b)))) (sym (leaves.entries a stands apart)) k)

      back : IsStep h a b → IsStep g a b
      back (inl k) = inl ((leaves.edges b a stands apart).1 k)
      back (inr k) = inr (subst (λ w. IsSomeAnd w (λ x. IsTrue x.standing × IsSomeAnd x.ends (λ n. (n.source ≡ b) ⊎ (n.target ≡ b)))) (leaves.entries a stands apart) k)

  -- what is reached in at most n steps isn't touched
  abbrev IsFree : ℕ → ℕ → Type 0
  IsFree n a = (c : ℕ) (ws : List ℕ) → length ws ≤ n → IsWalk (IsStep g) a ws c → ¬ T c

  free_here : (n a : ℕ) → IsFree n a → ¬ T a
  free_here n a free = free a [] (omega arith) refl

  free_next : (n a z : ℕ) → IsFree (suc n) a → IsStep g a z → IsFree n z
  free_next n a z free step c ws le walk = free c (z ∷ ws) (omega (arith, le)) (step, walk)

  walk_to : (a : ℕ) (zs : List ℕ) (b : ℕ) → Stands g a → IsFree (length zs) a → IsWalk (IsStep g) a zs b → IsWalk (IsStep h) a zs b
  walk_to a [] b stands free walk = walk
  walk_to a (z ∷ zs) b stands free walk = (
    (step_same a z stands (free_here (suc (length zs)) a free)).0 walk.0,
    walk_to z zs b (step_stands g good a z walk.0) (free_next (length zs) a z free walk.0) walk.1,
  )

  walk_back : (a : ℕ) (zs : List ℕ) (b : ℕ) → Stands g a → IsFree (length zs) a → IsWalk (IsStep h) a zs b → IsWalk (IsStep g) a zs b
  walk_back a [] b stands free walk = walk
  walk_back a (z ∷ zs) b stands free walk =
      let step : IsStep g a z = (step_same a z stands (free_here (suc (length zs)) a free)).1 walk.0 in
      (step, walk_back z zs b (step_stands g good a z step) (free_next (length zs) a z free step) walk.1)

  -- from here on: an object that stands, near which nothing is touched
  module _ (o : ℕ) (bound : Option ℕ) (stands : Stands g o) (apart : (a : ℕ) → Reach g o bound a → ¬ T a) where
    free : (n : ℕ) → IsUpTo bound n → IsFree n o
    free n u c ws le walk =
        let r : IsReached g o bound c = (ws, upto_less bound (length ws) n le u, walk) in
        apart c (reached_stands g good o bound c stands r, inl r)

    pub reached_to : (a : ℕ) → IsReached g o bound a → IsReached h o bound a
    reached_to a r = (r.0, r.1, walk_to o r.0 a stands (free (length r.0) r.1) r.2)

    pub reached_back : (a : ℕ) → IsReached h o bound a → IsReached g o bound a
    reached_back a r = (r.0, r.1, walk_back o r.0 a stands (free (length r.0) r.1) r.2)

    near_stands : (a : ℕ) → IsReached g o bound a → Stands g a
    near_stands a r = reached_stands g good o bound a stands r

    -- what is near is in the other graph as it was
    near_same : (a : ℕ) → Reach g o bound a → slice_get h.objects a ≡ slice_get g.objects a
    near_same a r = leaves.entries a r.0 (apart a r)

    reach_to : (a : ℕ) → Reach g o bound a → Reach h o bound a
    reach_to a r = (
      subst (λ w. IsSomeAnd w (λ x. IsTrue x.standing)) (sym (near_same a r)) r.0,
      elim (r.1) [
        | inl k ↦ inl (reached_to a k)
        | inr k ↦ inr (k.0, reached_to k.0 k.1, subst (λ w. IsSomeAnd w (λ x. IsTrue x.standing × IsSomeAnd x.ends (λ n. (n.source ≡ a) ⊎ (n.target ≡ a)))) (sym (near_same k.0 (near_stands k.0 k.1, inl k.1))) k.2)
      ],
    )

    reach_back : (a : ℕ) → Reach h o bound a → Reach g o bound a
    reach_back a r = elim (r.1) [
      | inl k ↦ let q = reached_back a k in (near_stands a q, inl q)
      | inr k ↦
          let q = reached_back k.0 k.1 in
          let has : HasEnd g k.0 a = subst (λ w. IsSomeAnd w (λ x. IsTrue x.standing × IsSomeAnd x.ends (λ n. (n.source ≡ a) ⊎ (n.target ≡ a)))) (near_same k.0 (near_stands k.0 q, inl q)) k.2 in
          (end_stands g good k.0 a has, inr (k.0, q, has))
    ]

    pub same_reach : (a : ℕ) → Reach g o bound a ↔ Reach h o bound a
    same_reach a = (reach_to a, reach_back a)

    pub near_agree : (near near_too : Graph) → IsNear g o bound near → IsNear h o bound near_too → Agree near near_too
    near_agree near near_too is is_too = record {
      begun = is.begun ∙ leaves.begun ∙ sym is_too.begun;
      same = λ a x u. (to a x, back a x);
    }
      where
        to : (a : ℕ) (x : Object) → StandsAs near a x → StandsAs near_too a x
        to a x k =
            let p = part_is g (Reach g o bound) near is a x k in
            part_has h (Reach h o bound) near_too is_too a x (reach_to a p.0) (record { is = near_same a p.0 ∙ p.1.is; stands = k.stands })

        back : (a : ℕ) (x : Object) → StandsAs near_too a x → StandsAs near a x
        back a x k =
            let p = part_is h (Reach h o bound) near_too is_too a x k in
            let r = reach_back a p.0 in
            part_has g (Reach g o bound) near is a x r (record { is = sym (near_same a r) ∙ p.1.is; stands = k.stands })

    -- the two graphs agree on what is reached
    agree_near : AgreeOn (IsReached g o bound) g h
    agree_near = record {
      begun = leaves.begun;
      same = λ a x r.
          let e = near_same a (near_stands a r, inl r) in
          ((λ k. record { is = e ∙ k.is; stands = k.stands }), (λ k. record { is = sym e ∙ k.is; stands = k.stands }));
    }

  -- and a path whose steps these are leads from the object as before
  pub rows_same : (p : PathTerm) (x y : Point) → Stands g x.object → ((a : ℕ) → Reach g x.object (path_steps p) a → ¬ T a) → Rel p g x y ↔ Rel p h x y
  rows_same p x y stands apart =
      let o = x.object in
      let bound = path_steps p in
      let S = IsReached g o bound in
      let agree = agree_near o bound stands apart in
      let room : IsRoomy S g bound o = λ a r. r in
      let room_too : IsRoomy S h bound o = λ a r. reached_back o bound stands apart a r in
      ((λ r. rel_moved p S g h agree x y room room_too r), (λ r. rel_moved p S h g (turned S g h agree) x y room_too room r))
