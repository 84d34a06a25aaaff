-- A limit below the rows that some member has makes the question too wide.
use Rattle.std.proofs.Common.{◌≡◌, ℕ, ◌<◌, List, [], ◌∷◌, length, slice_get, Some, inl, inr, refl, sym, ap, subst, ◌∙◌, arith}
use Rattle.itpg_base.specs.Graphs.{Graph}
use Rattle.itpg_base.specs.Lists.{Among}
use Rattle.itpg_base.specs.Walks.{IsWalk}
use Rattle.relation_rows.specs.declared.rows.Row.{Row}
use Rattle.relation_rows.proofs.Listed.{rows_unique}
use Rattle.path_ast.specs.Terms.{PathTerm, OfTest, Forward, Backward, Next, Previous, Sequence, Choice, Repetition}
use Rattle.label_scope.specs.declared.scope.Scope.{Scope}
use Rattle.label_scope.specs.declared.scope.Scope.TheVariants.{All}
use Rattle.label_scope.specs.Members.{Member, worked, members_between}
use Rattle.plan_cache.specs.Nodes.{PlanNode, narrowed_member}
use Rattle.plan_cache.specs.RightRows.{members_of, member_relation}
use Rattle.path_eval.specs.Keeping.{LeadsTo}
use Rattle.path_eval.proofs.Climbing.{some_node, reached_members}
use Rattle.path_eval.proofs.Working.{members_are}
use Rattle.question_costs.specs.declared.count.Count.{Count}
use Rattle.question_costs.specs.declared.count.Count.TheVariants.{Rows}
use Rattle.path_eval.specs.Evaluated.{SomeIsWide}
use Rattle.question_costs.specs.Needed.{AreCountsOf}
use Rattle.question_costs.proofs.Telling.{at_place}
use Rattle.question_costs.proofs.Widest.{among_get, free_walk, nothing}

-- a member is one of those that are worked out for it
own_member : (p : PathTerm) (a b : Scope) → Among (members_between p a b) (record { path = p; sources = a; targets = b })
own_member (OfTest c) a b = inl refl
own_member Forward a b = inl refl
own_member Backward a b = inl refl
own_member Next a b = inl refl
own_member Previous a b = inl refl
own_member (Sequence p q) a b = inl refl
own_member (Choice p q) a b = inl refl
own_member (Repetition p n m) a b = inl refl

module _ (g : Graph) (limit : ℕ) (p : PathTerm) (nodes : List PlanNode) (root : ℕ) (counts : List Count) (of : AreCountsOf g limit p nodes root counts) where
  top : (n : PlanNode) × (slice_get nodes root ≡ Some n) × (n.member ≡ narrowed_member p All All)
  top = some_node (λ v. v.member ≡ narrowed_member p All All) (slice_get nodes root) of.node

  same_members : members_of top.0.member ≡ worked p All All
  same_members = ap members_of top.2 ∙ members_are p All All

  one_root : (r : ℕ) → Among (root ∷ []) r → root ≡ r
  one_root r (inl e) = e
  one_root r (inr i) = absurd i

  -- the member of each node is worked out for the path
  node_among : (k : ℕ) (n : PlanNode) → slice_get nodes k ≡ Some n → k < length nodes → Among (worked p All All) n.member
  node_among k n e l =
      let under = of.only k (omega arith) l in
      let walk = free_walk nodes under.0 under.2.0 k under.2.1 in
      let walk_down = subst (λ (v : ℕ). IsWalk (LeadsTo nodes (nothing nodes)) v under.2.0 k) (sym (one_root under.0 under.1)) walk in
      let among = reached_members nodes of.shared (nothing nodes) root under.2.0 k top.0 n n.member walk_down top.1 e (own_member n.member.path n.member.sources n.member.targets) in
      subst (λ (v : List Member). Among v n.member) same_members among

  pub too_wide_below : (n l : ℕ) → Among counts (Rows n) → l < n → SomeIsWide g l (worked p All All)
  too_wide_below n l i less =
      let at = among_get counts (Rows n) i in
      let each = of.each in
      let node = at_place nodes at.0 (omega (arith, at.2, each)) in
      let has = of.told at.0 node.0 (Rows n) node.1 at.1 in
      let many = has.many in
      record {
        member = node.0.member;
        among = node_among at.0 node.0 node.1 (omega (arith, at.2, each));
        wide = λ rows normal. subst (λ (v : List Row). l < length v) (rows_unique (member_relation g node.0.member) has.rows rows has.right.normal normal) (omega (arith, less, many));
      }
