-- Working out node after node, from the lowest number up.
use Rattle.std.proofs.Common.{◌≡◌, ℕ, zero, suc, ◌+◌, ◌<◌, Bool, true, false, List, [], ◌∷◌, ◌++◌, length, take, slice_get, Option, Some, None, Result, Ok, Err, inl, inr, ◌⊎◌, refl, sym, ap, subst, ◌∙◌, arith}
use Rattle.std.specs.Prelude.{IsSomeAnd, IsTrue, IsErrOf, IfOk}
use Rattle.std.proofs.lemmas.List.{length-append}
use Rattle.itpg_base.specs.Graphs.{Graph}
use Rattle.itpg_base.specs.Lists.{Among}
use Rattle.itpg_base.specs.Walks.{IsWalk}
use Rattle.relation_rows.specs.declared.rows.Row.{Row}
use Rattle.relation_rows.specs.declared.rows.RelFault.{RelFault}
use Rattle.relation_rows.proofs.Listed.{rows_unique}
use Rattle.label_scope.specs.Members.{Member}
use Rattle.plan_cache.specs.Nodes.{PlanNode, Kept, Table, AreShared, AreNodesOf, parts_of}
use Rattle.plan_cache.specs.KeptRows.{rows_kept}
use Rattle.plan_cache.specs.declared.shelf.TheConstants.{MAX_KEPT_ROWS}
use Rattle.path_eval.specs.declared.basis.Ground.{Ground}
use Rattle.plan_cache.specs.RightRows.{member_relation, IsRight}
use Rattle.path_eval.specs.Keeping.{LeadsTo, IsReached, KeptOrFull, KeepsReached}
use Rattle.path_eval.specs.Made.{MaybeRows, IsMade, AreMade, HasParts}
use Rattle.path_eval.specs.Filled.{KeepsRight, IsRightAt, IsWideAt, HasPartsAt, KeepsAt, KeepsRows, KeepsWell, IsFilling}
use Rattle.path_eval.proofs.Marking.{child_below, one_step}
use Rattle.path_eval.proofs.Climbing.{of_taken, some_node, reached_members}
use Rattle.path_eval.proofs.KeptRows.{right_after, stays_after, only_or, later_after, full_after}

-- a fault is the same whatever was to be given
pub same_fault : {X Y : Type 0} (e f : RelFault) → IsErrOf {T = X} (Err e) f → IsErrOf {T = Y} (Err e) f
same_fault {X} {Y} e f h = let same : e ≡ f = cc in ap (λ (v : RelFault). let r : Result Y RelFault = Err v in r) same

pub if_ok_both : {X E : Type 0} (P Q : X → Type 0) (S : Type 0) (result : Result X E) → ((x : X) → P x → Q x → S) → IfOk result P → IfOk result Q → IfOk result (λ _. S)
if_ok_both P Q S (Ok x) f p q = f x p q
if_ok_both P Q S (Err e) f p q = tt

pub is_marked : (o : Option Bool) (b : Bool) → o ≡ Some b → o ≡ Some true → IsTrue b
is_marked o b e f = let same : b ≡ true = cc in same

at_first : (made : List MaybeRows) (r : MaybeRows) (j : ℕ) (x : MaybeRows) → slice_get made j ≡ Some x → slice_get (made ++ r ∷ []) j ≡ Some x
at_first [] r j x e = cc
at_first (m ∷ made) r zero x e = e
at_first (m ∷ made) r (suc j) x e = at_first made r j x e

at_last : (made : List MaybeRows) (r : MaybeRows) (k : ℕ) → length made ≡ k → slice_get (made ++ r ∷ []) k ≡ Some r
at_last [] r zero l = refl
at_last [] r (suc k) l = absurd (let none : ⊥ = omega (arith, l) in none)
at_last (m ∷ made) r zero l = absurd (let none : ⊥ = omega (arith, l) in none)
at_last (m ∷ made) r (suc k) l = at_last made r k (omega (arith, l))

last_or : (k j : ℕ) → j < k + 1 → (j ≡ k) ⊎ (j < k)
last_or zero zero l = inl refl
last_or zero (suc j) l = absurd (let none : ⊥ = omega (arith, l) in none)
last_or (suc k) zero l = inr (omega arith)
last_or (suc k) (suc j) l = elim (last_or k j (omega (arith, l))) [ inl e ↦ inl (ap suc e) | inr h ↦ inr (omega (arith, h)) ]

node_there : (nodes : List PlanNode) (k : ℕ) → k < length nodes → (n : PlanNode) × (slice_get nodes k ≡ Some n)
node_there [] k l = absurd (let none : ⊥ = omega (arith, l) in none)
node_there (n ∷ nodes) zero l = (n, refl)
node_there (n ∷ nodes) (suc k) l = node_there nodes k (omega (arith, l))

at_node : (P : PlanNode → Type 0) (o : Option PlanNode) (n : PlanNode) → o ≡ Some n → P n → IsSomeAnd o P
at_node P o n e h = subst (λ (v : Option PlanNode). IsSomeAnd v P) (sym e) h

of_this : (P : PlanNode → Type 0) (o : Option PlanNode) (n : PlanNode) → o ≡ Some n → IsSomeAnd o P → P n
of_this P o n e h = subst (λ (v : Option PlanNode). IsSomeAnd v P) e h

module _ (g : Graph) (limit : ℕ) where
  -- a member's rows are those of the node that is the member's
  of_node : (made : List MaybeRows) (o : Option PlanNode) (k : ℕ) (m : Member) → IsSomeAnd o (λ n. n.member ≡ m) → IsSomeAnd o (λ n. IsMade g limit made k n.member) → IsMade g limit made k m
  of_node made None k m e h = absurd e
  of_node made (Some n) k m e h = subst (IsMade g limit made k) e h

  still_made : (made : List MaybeRows) (r : MaybeRows) (k : ℕ) (o : Option PlanNode) → IsSomeAnd o (λ n. IsMade g limit made k n.member) → IsSomeAnd o (λ n. IsMade g limit (made ++ r ∷ []) k n.member)
  still_made made r k None h = absurd h
  still_made made r k (Some n) h = (h.0, at_first made r k (Some h.0) h.1, h.2)

  just_made : (made : List MaybeRows) (r : MaybeRows) (k : ℕ) (o : Option PlanNode) → length made ≡ k → IsSomeAnd r (λ rows. IsSomeAnd o (λ n. IsRight g limit n.member rows)) → IsSomeAnd o (λ n. IsMade g limit (made ++ r ∷ []) k n.member)
  just_made made None k o l h = absurd h
  just_made made (Some rows) k None l h = absurd h
  just_made made (Some rows) k (Some n) l h = (rows, at_last made (Some rows) k l, h)

  -- right rows that are kept, or have no room, are those of the member
  just_kept : (kept : List Kept) (k : ℕ) (r : MaybeRows) (m : Member) → IsSomeAnd r (λ rows. IsRight g limit m rows) → IsSomeAnd r (λ rows. KeepsRows kept k rows) → KeptOrFull g kept k m
  just_kept kept k None m right h = absurd h
  just_kept kept k (Some rows) m right (inl e) = inl (rows, e)
  just_kept kept k (Some rows) m right (inr full) = inr (λ others normal. subst (λ (v : List Row). MAX_KEPT_ROWS < rows_kept kept + length v) (rows_unique (member_relation g m) rows others right.normal normal) full)

  right_of_this : (r : MaybeRows) (o : Option PlanNode) (n : PlanNode) → o ≡ Some n → IsSomeAnd r (λ rows. IsSomeAnd o (λ x. IsRight g limit x.member rows)) → IsSomeAnd r (λ rows. IsRight g limit n.member rows)
  right_of_this None o n e h = absurd h
  right_of_this (Some rows) o n e h = of_this (λ x. IsRight g limit x.member rows) o n e h

-- at a node at which a relation is kept nothing else is reached
pub keeps_warm : (g : Graph) (table : Table) (n : ℕ) (rows : List Row) → slice_get table.kept n ≡ Some (Some rows) → KeepsReached g table n table
keeps_warm g table n rows e k x ([], w) at = inl (rows, subst (λ (v : ℕ). slice_get table.kept v ≡ Some (Some rows)) w e)
keeps_warm g table n rows e k x (z ∷ zs, w) at = absurd (let free = w.0.1 in let none : ⊥ = cc in none)

module _ (basis : Ground) (old : Table) (shared : AreShared old.nodes) where
  all_made : (k : ℕ) (made : List MaybeRows) (ks : List ℕ) (ms : List Member) → AreNodesOf (take k old.nodes) ks ms
      → ((c : ℕ) → Among ks c → IsSomeAnd (slice_get old.nodes c) (λ n. IsMade basis.graph.now basis.max_rows made c n.member)) → AreMade basis.graph.now basis.max_rows made ks ms
  all_made k made [] [] a h = tt
  all_made k made [] (m ∷ ms) a h = absurd a
  all_made k made (c ∷ ks) [] a h = absurd a
  all_made k made (c ∷ ks) (m ∷ ms) a h = (of_node basis.graph.now basis.max_rows made (slice_get old.nodes c) c m (of_taken old.nodes k c m a.0) (h c (inl refl)), all_made k made ks ms a.1 (λ d i. h d (inr i)))

  -- what is wide on the way to a reached node is so on the way to the one that it is reached from
  pub wide_up : (n k : ℕ) → n < length old.nodes → IsReached old.nodes old.kept n k → IsWideAt basis old.nodes k → IsWideAt basis old.nodes n
  wide_up n k l r h =
      let top = node_there old.nodes n l in
      let low = some_node (λ x. _) (slice_get old.nodes k) h in
      let w = low.2 in
      at_node (λ x. _) (slice_get old.nodes n) top.0 top.1
      (record { member = w.member; among = reached_members old.nodes shared old.kept n r.0 k top.0 low.0 w.member r.1 top.1 low.1 w.among; wide = w.wide })

  -- no greater number is reached
  reached_within : (n : ℕ) (zs : List ℕ) (k : ℕ) → IsWalk (LeadsTo old.nodes old.kept) n zs k → k < n + 1
  reached_within n [] k w = omega arith
  reached_within n (z ∷ zs) k w =
      let node = some_node (λ v. Among v.children z) (slice_get old.nodes n) w.0.0 in
      let down = child_below old.nodes shared n node.0 z node.1 node.2 in
      let rest = reached_within z zs k w.1 in
      omega arith

  pub none_filled : (n : ℕ) → KeepsRight basis old → IsFilling basis old n 0 old []
  none_filled n right = record {
    well = record { nodes = refl; right = right; stays = λ j rows e. e; only = λ j rows e. inl e };
    many = refl;
    later = λ j l. refl;
    each = λ j l e. absurd (let none : ⊥ = omega (arith, l) in none);
    room = λ j x l e at. absurd (let none : ⊥ = omega (arith, l) in none);
  }

  module _ (n k : ℕ) where
    -- once all below a reached node are made, its parts are, if nothing is kept at it
    pub parts_made : (now : Table) (made : List MaybeRows) → IsFilling basis old n k now made → k < length old.nodes → IsReached old.nodes old.kept n k → slice_get now.kept k ≡ Some None → HasPartsAt basis now.nodes made k
    parts_made now made f l w free =
        let at = node_there old.nodes k l in
        let stand = shared.lower k at.0 at.1 in
        let was = sym (f.later k (omega arith)) ∙ free in
        subst (λ (v : List PlanNode). HasPartsAt basis v made k) (sym f.well.nodes)
        (at_node (HasParts basis.graph.now basis.max_rows made) (slice_get old.nodes k) at.0 at.1 (record {
          in_range = stand.in_range;
          parts = all_made k made (at.0).children (parts_of (at.0).member) stand.children
              (λ c i. f.each c (child_below old.nodes shared k at.0 c at.1 i)
              (w.0 ++ c ∷ [], one_step (LeadsTo old.nodes old.kept) n k c w.0 w.1 (at_node (λ x. Among x.children c) (slice_get old.nodes k) at.0 at.1 i, was)));
        }))

    -- what a turn leaves kept
    pub still_well : (b : Bool) (now new : Table) → KeepsWell basis old n now → (IsTrue b → IsReached old.nodes old.kept n k) → new.nodes ≡ now.nodes
        → KeepsAt basis now k new.kept → (b ≡ false → new.kept ≡ now.kept) → KeepsWell basis old n new
    still_well b now new well sound nodes changes same = record {
      nodes = nodes ∙ well.nodes;
      right = right_after basis k now new well.right nodes changes;
      stays = λ j rows e. stays_after basis k now new.kept changes j rows (well.stays j rows e);
      only = only_or basis k now new.kept n b old sound same well.only changes;
    }

    -- one node more
    pub one_filled : (b : Bool) (now new : Table) (made : List MaybeRows) (r : MaybeRows) → IsFilling basis old n k now made → (IsTrue b → IsReached old.nodes old.kept n k) → (IsReached old.nodes old.kept n k → IsTrue b)
        → new.nodes ≡ now.nodes → KeepsAt basis now k new.kept → (b ≡ false → new.kept ≡ now.kept)
        → (IsTrue b → IsSomeAnd r (λ rows. IsRightAt basis now.nodes k rows)) → (IsTrue b → IsSomeAnd r (λ rows. KeepsRows new.kept k rows))
        → IsFilling basis old n (k + 1) new (made ++ r ∷ [])
    one_filled b now new made r f sound whole nodes changes same right kept = record {
      well = still_well b now new f.well sound nodes changes same;
      many = let l = length-append made (r ∷ []) in let m = f.many in omega arith;
      later = λ j l. later_after basis k now new.kept j (omega arith) changes ∙ f.later j (omega arith);
      each = λ j l e. elim (last_or k j l) [
        | inl s ↦ subst (λ (v : ℕ). IsSomeAnd (slice_get old.nodes v) (λ x. IsMade basis.graph.now basis.max_rows (made ++ r ∷ []) v x.member)) (sym s)
            (just_made basis.graph.now basis.max_rows made r k (slice_get old.nodes k) f.many (own (hit j s e)))
        | inr h ↦ still_made basis.graph.now basis.max_rows made r j (slice_get old.nodes j) (f.each j h e)
      ];
      room = λ j x l e at. elim (last_or k j l) [
        | inl s ↦ subst (λ (v : ℕ). KeptOrFull basis.graph.now new.kept v x.member) (sym s) (just_kept basis.graph.now basis.max_rows new.kept k r x.member
            (right_of_this basis.graph.now basis.max_rows r (slice_get old.nodes k) x (ap (slice_get old.nodes) (sym s) ∙ at) (own (hit j s e))) (kept (hit j s e)))
        | inr h ↦ full_after basis k now new.kept basis.graph.now j x.member changes (f.room j x h e at)
      ];
    }
      where
        hit : (j : ℕ) → j ≡ k → IsReached old.nodes old.kept n j → IsTrue b
        hit j s e = whole (subst (IsReached old.nodes old.kept n) s e)

        own : IsTrue b → IsSomeAnd r (λ rows. IsRightAt basis old.nodes k rows)
        own t = subst (λ (v : List PlanNode). IsSomeAnd r (λ rows. IsRightAt basis v k rows)) f.well.nodes (right t)

  -- once the node itself is filled too, so is each that it reaches
  pub all_filled : (n : ℕ) (new : Table) (made : List MaybeRows) → IsFilling basis old n (n + 1) new made → KeepsReached basis.graph.now old n new
  all_filled n new made f k x reached at = f.room k x (reached_within n reached.0 k reached.1) reached at
