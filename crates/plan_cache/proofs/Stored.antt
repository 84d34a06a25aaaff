-- The nodes that are made of what is stored.
use Rattle.std.proofs.Common.{◌≡◌, ℕ, zero, suc, ◌+◌, ◌≤◌, List, [], ◌∷◌, ◌++◌, length, take, slice_get, Some, refl, sym, ap, subst, ◌∙◌, arith}
use Rattle.std.proofs.lemmas.List.{append_assoc, length-append}
use Rattle.std.proofs.Math.Seq.{take-append_seam}
use Rattle.plan_cache.specs.declared.key.PlanKey.{PlanKey}
use Rattle.plan_cache.specs.Nodes.{PlanNode}
use Rattle.plan_cache.specs.Stored.{node_of, nodes_from, MayFollow, AllMayFollow}

pub one_more : (done : List PlanNode) (keys : List PlanKey) (k : PlanKey) → nodes_from done (keys ++ k ∷ []) ≡ nodes_from done keys ++ node_of (nodes_from done keys) k ∷ []
one_more done [] k = refl
one_more done (j ∷ keys) k = one_more (done ++ node_of done j ∷ []) keys k

pub as_many : (done : List PlanNode) (keys : List PlanKey) → length (nodes_from done keys) ≡ length done + length keys
as_many done [] = omega arith
as_many done (k ∷ keys) = let r = as_many (done ++ node_of done k ∷ []) keys in let l = length-append done (node_of done k ∷ []) in omega arith

pub follows_too : (done : List PlanNode) (keys : List PlanKey) (k : PlanKey) → AllMayFollow done keys → MayFollow (nodes_from done keys) k → AllMayFollow done (keys ++ k ∷ [])
follows_too done [] k h m = (m, tt)
follows_too done (j ∷ keys) k h m = (h.0, follows_too (done ++ node_of done j ∷ []) keys k h.1 m)

-- those before the stored ones stay
pub starts_with : (done : List PlanNode) (keys : List PlanKey) → (more : List PlanNode) × (nodes_from done keys ≡ done ++ more)
starts_with done [] = ([], append_none done)
  where
    append_none : (xs : List PlanNode) → xs ≡ xs ++ []
    append_none [] = refl
    append_none (x ∷ xs) = ap (λ v. x ∷ v) (append_none xs)
starts_with done (k ∷ keys) = let r = starts_with (done ++ node_of done k ∷ []) keys in (node_of done k ∷ r.0, r.1 ∙ append_assoc done (node_of done k ∷ []) r.0)

take_past : (n : ℕ) (xs : List PlanNode) → length xs ≤ n → take n xs ≡ xs
take_past zero [] l = refl
take_past zero (x ∷ xs) l = absurd (let none : ⊥ = omega arith in none)
take_past (suc n) [] l = refl
take_past (suc n) (x ∷ xs) l = ap (λ v. x ∷ v) (take_past n xs (omega arith))

whole_start : (done : List PlanNode) (keys : List PlanKey) → take (length done) (nodes_from done keys) ≡ done
whole_start done keys = let s = starts_with done keys in ap (take (length done)) s.1 ∙ take-append_seam done s.0

at_seam : (xs : List PlanNode) (y : PlanNode) (more : List PlanNode) → slice_get ((xs ++ y ∷ []) ++ more) (length xs) ≡ Some y
at_seam [] y more = refl
at_seam (x ∷ xs) y more = at_seam xs y more

-- of so many stored ones, so many nodes
pub first_so_many : (done : List PlanNode) (keys : List PlanKey) (n b : ℕ) → b ≡ length done + n → nodes_from done (take n keys) ≡ take b (nodes_from done keys)
first_so_many done [] zero b e = sym (take_past b done (omega arith))
first_so_many done [] (suc n) b e = sym (take_past b done (omega arith))
first_so_many done (k ∷ keys) zero b e = let f : length done ≡ b = omega arith in sym (whole_start done (k ∷ keys)) ∙ ap (λ (v : ℕ). take v (nodes_from done (k ∷ keys))) f
first_so_many done (k ∷ keys) (suc n) b e =
    let l = length-append done (node_of done k ∷ []) in
    first_so_many (done ++ node_of done k ∷ []) keys n b (omega arith)

pub follow_first : (done : List PlanNode) (keys : List PlanKey) (n : ℕ) → AllMayFollow done keys → AllMayFollow done (take n keys)
follow_first done [] zero h = tt
follow_first done [] (suc n) h = tt
follow_first done (k ∷ keys) zero h = tt
follow_first done (k ∷ keys) (suc n) h = (h.0, follow_first (done ++ node_of done k ∷ []) keys n h.1)

-- the node of a stored one, among those before it
pub stored_at : (done : List PlanNode) (keys : List PlanKey) (i b : ℕ) (k : PlanKey) → b ≡ length done + i → slice_get keys i ≡ Some k
    → slice_get (nodes_from done keys) b ≡ Some (node_of (take b (nodes_from done keys)) k)
stored_at done [] i b k l e = cc
stored_at done (j ∷ keys) zero b k l e =
    let s = starts_with (done ++ node_of done j ∷ []) keys in
    let first = ap (λ (v : List PlanNode). slice_get v (length done)) s.1 ∙ at_seam done (node_of done j) s.0 in
    let same : j ≡ k = cc in
    let f : length done ≡ b = omega arith in
    subst (λ (v : ℕ). slice_get (nodes_from done (j ∷ keys)) v ≡ Some (node_of (take v (nodes_from done (j ∷ keys))) k)) f
    (first ∙ ap (λ (v : PlanKey). Some (node_of done v)) same ∙ ap (λ (v : List PlanNode). Some (node_of v k)) (sym (whole_start done (j ∷ keys))))
stored_at done (j ∷ keys) (suc i) b k l e =
    let n = length-append done (node_of done j ∷ []) in
    stored_at (done ++ node_of done j ∷ []) keys i b k (omega arith) e

-- and it may follow them
pub follows_at : (done : List PlanNode) (keys : List PlanKey) (i b : ℕ) (k : PlanKey) → b ≡ length done + i → AllMayFollow done keys → slice_get keys i ≡ Some k
    → MayFollow (take b (nodes_from done keys)) k
follows_at done [] i b k l h e = cc
follows_at done (j ∷ keys) zero b k l h e =
    let same : j ≡ k = cc in
    let f : length done ≡ b = omega arith in
    subst (λ (w : ℕ). MayFollow (take w (nodes_from done (j ∷ keys))) k) f
    (subst (λ (v : List PlanNode). MayFollow v k) (sym (whole_start done (j ∷ keys))) (subst (λ (v : PlanKey). MayFollow done v) same h.0))
follows_at done (j ∷ keys) (suc i) b k l h e =
    let n = length-append done (node_of done j ∷ []) in
    follows_at (done ++ node_of done j ∷ []) keys i b k (omega arith) h.1 e
