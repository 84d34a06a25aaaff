-- The members of a reached node are among those of the node that it is reached from.
use Rattle.std.proofs.Common.{◌≡◌, ℕ, zero, suc, List, [], ◌∷◌, ◌++◌, take, slice_get, Option, Some, None, inl, inr, refl, sym, ap, subst, ◌∙◌}
use Rattle.std.specs.Prelude.{IsSomeAnd}
use Rattle.itpg_base.specs.Chains.{chain}
use Rattle.itpg_base.specs.Walks.{IsWalk}
use Rattle.itpg_base.specs.Lists.{Among}
use Rattle.itpg_base.proofs.Lists.{append_first, append_second, among_append}
use Rattle.path_ast.specs.Terms.{PathTerm, OfTest, Forward, Backward, Next, Previous, Sequence, Choice, Repetition, TestTerm, IsNode, IsEdge, HasLabel, HasValue, IsBelow, DoesExist, Condition, Conjunction, Disjunction, Negation}
use Rattle.label_scope.specs.declared.scope.Scope.{Scope}
use Rattle.label_scope.specs.declared.scope.Scope.TheVariants.{All}
use Rattle.label_scope.specs.Members.{Member, worked, worked_conditions, middle, passed, powers_within, unions_within, further, members_between}
use Rattle.plan_cache.specs.Nodes.{PlanNode, Kept, AreShared, AreNodesOf, IsNodeOf, narrowed_member, conditions, parts, parts_of}
use Rattle.plan_cache.specs.RightRows.{members_of}
use Rattle.path_eval.specs.Keeping.{LeadsTo}
use Rattle.path_eval.proofs.Working.{members_are}

-- the members of a part that is known by an equation
of_part : (p : PathTerm) (a b : Scope) (part m : Member) → narrowed_member p a b ≡ part → Among (members_of part) m → Among (worked p a b) m
of_part p a b part m e h = subst (λ (v : List Member). Among v m) (members_are p a b) (subst (λ (v : Member). Among (members_of v) m) (sym e) h)

in_conditions : (c : TestTerm) (a : Scope) (part m : Member) → Among (conditions c a) part → Among (members_of part) m → Among (worked_conditions c a) m
in_conditions IsNode a part m i h = absurd i
in_conditions IsEdge a part m i h = absurd i
in_conditions (HasLabel label) a part m i h = absurd i
in_conditions (HasValue prop value) a part m i h = absurd i
in_conditions (IsBelow k) a part m i h = absurd i
in_conditions DoesExist a part m i h = absurd i
in_conditions (Condition p) a part m (inl e) h = of_part p a All part m e h
in_conditions (Condition p) a part m (inr i) h = absurd i
in_conditions (Conjunction c d) a part m i h = elim (among_append (conditions c a) (conditions d a) part i) [
  | inl j ↦ append_first (worked_conditions c a) (worked_conditions d a) m (in_conditions c a part m j h)
  | inr j ↦ append_second (worked_conditions c a) (worked_conditions d a) m (in_conditions d a part m j h)
]
in_conditions (Disjunction c d) a part m i h = elim (among_append (conditions c a) (conditions d a) part i) [
  | inl j ↦ append_first (worked_conditions c a) (worked_conditions d a) m (in_conditions c a part m j h)
  | inr j ↦ append_second (worked_conditions c a) (worked_conditions d a) m (in_conditions d a part m j h)
]
in_conditions (Negation c) a part m i h = in_conditions c a part m i h

-- the members of a part are among those of the whole
pub part_members : (p : PathTerm) (a b : Scope) (part m : Member) → Among (parts p a b) part → Among (members_of part) m → Among (members_between p a b) m
part_members (OfTest c) a b part m i h = inr (in_conditions c a part m i h)
part_members Forward a b part m i h = absurd i
part_members Backward a b part m i h = absurd i
part_members Next a b part m i h = absurd i
part_members Previous a b part m i h = absurd i
part_members (Sequence p q) a b part m (inl e) h = let v = middle p q (record { sources = a; targets = b }) in inr (append_first (worked p a v) (worked q v b) m (of_part p a v part m e h))
part_members (Sequence p q) a b part m (inr (inl e)) h = let v = middle p q (record { sources = a; targets = b }) in inr (append_second (worked p a v) (worked q v b) m (of_part q v b part m e h))
part_members (Sequence p q) a b part m (inr (inr i)) h = absurd i
part_members (Choice p q) a b part m (inl e) h = inr (append_first (worked p a b) (worked q a b) m (of_part p a b part m e h))
part_members (Choice p q) a b part m (inr (inl e)) h = inr (append_second (worked p a b) (worked q a b) m (of_part q a b part m e h))
part_members (Choice p q) a b part m (inr (inr i)) h = absurd i
part_members (Repetition r n k) a b part m (inl e) h =
    let u = passed r (record { sources = a; targets = b }) in
    inr (append_first (worked r u u) (powers_within r u (chain n) ++ unions_within r u (further n k)) m (of_part r u u part m e h))
part_members (Repetition r n k) a b part m (inr i) h = absurd i

-- a child is the node of a part
child_part : (nodes : List PlanNode) (ks : List ℕ) (ms : List Member) (c : ℕ) → AreNodesOf nodes ks ms → Among ks c → (part : Member) × Among ms part × IsNodeOf nodes c part
child_part nodes [] ms c a i = absurd i
child_part nodes (k ∷ ks) [] c a i = absurd a
child_part nodes (k ∷ ks) (m ∷ ms) c a (inl e) = (m, inl refl, subst (λ (v : ℕ). IsNodeOf nodes v m) e a.0)
child_part nodes (k ∷ ks) (m ∷ ms) c a (inr i) = let r = child_part nodes ks ms c a.1 i in (r.0, inr r.1, r.2)

pub of_taken : (nodes : List PlanNode) (n c : ℕ) (m : Member) → IsNodeOf (take n nodes) c m → IsNodeOf nodes c m
of_taken [] zero c m h = absurd h
of_taken [] (suc n) c m h = absurd h
of_taken (x ∷ nodes) zero c m h = absurd h
of_taken (x ∷ nodes) (suc n) zero m h = h
of_taken (x ∷ nodes) (suc n) (suc c) m h = of_taken nodes n c m h

some_is : (x y : PlanNode) → (let o : Option PlanNode = Some x in o) ≡ Some y → x ≡ y
some_is x y e = cc

pub some_node : (P : PlanNode → Type 0) (o : Option PlanNode) → IsSomeAnd o P → (n : PlanNode) × (o ≡ Some n) × P n
some_node P None h = absurd h
some_node P (Some n) h = (n, refl, h)

module _ (nodes : List PlanNode) (shared : AreShared nodes) (kept : List Kept) where
  child_members : (x y : ℕ) (n c : PlanNode) (m : Member) → slice_get nodes x ≡ Some n → slice_get nodes y ≡ Some c → LeadsTo nodes kept x y → Among (members_of c.member) m → Among (members_of n.member) m
  child_members x y n c m e f l h =
      let at = some_node (λ v. Among v.children y) (slice_get nodes x) l.0 in
      let i = subst (λ (v : PlanNode). Among v.children y) (some_is at.0 n (sym at.1 ∙ e)) at.2 in
      let part = child_part (take x nodes) n.children (parts_of n.member) y (shared.lower x n e).children i in
      let is = some_node (λ v. v.member ≡ part.0) (slice_get nodes y) (of_taken nodes x y part.0 part.2) in
      let same = ap (λ (v : PlanNode). v.member) (some_is c is.0 (sym f ∙ is.1)) ∙ is.2 in
      part_members n.member.path n.member.sources n.member.targets part.0 m part.1 (subst (λ (v : Member). Among (members_of v) m) same h)

  -- what is too wide on the way is too wide for the question
  pub reached_members : (x : ℕ) (zs : List ℕ) (k : ℕ) (n c : PlanNode) (m : Member) → IsWalk (LeadsTo nodes kept) x zs k → slice_get nodes x ≡ Some n → slice_get nodes k ≡ Some c → Among (members_of c.member) m → Among (members_of n.member) m
  reached_members x [] k n c m w e f h = subst (λ (v : PlanNode). Among (members_of v.member) m) (some_is c n (sym f ∙ ap (slice_get nodes) (sym w) ∙ e)) h
  reached_members x (z ∷ zs) k n c m w e f h =
      let next = first_of z zs k c w.1 f in
      child_members x z n next.0 m e next.1 w.0 (reached_members z zs k next.0 c m w.1 next.1 f h)
    where
      first_of : (z : ℕ) (zs : List ℕ) (k : ℕ) (c : PlanNode) → IsWalk (LeadsTo nodes kept) z zs k → slice_get nodes k ≡ Some c → (v : PlanNode) × (slice_get nodes z ≡ Some v)
      first_of z [] k c w f = (c, ap (slice_get nodes) w ∙ f)
      first_of z (u ∷ zs) k c w f = let at = some_node (λ v. Among v.children u) (slice_get nodes z) w.0.0 in (at.0, at.1)
