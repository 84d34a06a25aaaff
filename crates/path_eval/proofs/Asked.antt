-- What is right for the node of a path between two scopes is right for the path between them.
use Rattle.std.proofs.Common.{◌≡◌, ℕ, List, Option, Some, None, Ok, refl, subst}
use Rattle.std.specs.Prelude.{IsSomeAnd}
use Rattle.itpg_base.specs.Graphs.{Graph, Good}
use Rattle.relation_rows.specs.declared.rows.Row.{Row}
use Rattle.relation_rows.specs.Rows.{NormalRows}
use Rattle.path_ast.specs.Terms.{PathTerm}
use Rattle.label_scope.specs.declared.scope.Scope.{Scope}
use Rattle.label_scope.specs.Narrowing.{Cut}
use Rattle.label_scope.specs.Members.{Member, worked}
use Rattle.plan_cache.specs.Nodes.{PlanNode, narrowed_member}
use Rattle.plan_cache.specs.RightRows.{AllFit, IsRight}
use Rattle.path_eval.specs.Evaluated.{SomeIsWide, NeedsWide}
use Rattle.path_eval.proofs.Working.{members_are, unnarrowed}

module _ (g : Graph) (limit : ℕ) (p : PathTerm) (a b : Scope) where
  pub right_rows : Good g → (o : Option PlanNode) → IsSomeAnd o (λ n. n.member ≡ narrowed_member p a b) → (rows : List Row) → IsSomeAnd o (λ n. IsRight g limit n.member rows) → NormalRows (Cut g p a b) rows × AllFit g limit (worked p a b)
  right_rows good None is rows h = absurd is
  right_rows good (Some n) is rows h =
      let right = subst (λ (m : Member). IsRight g limit m rows) is h in
      unnarrowed g limit good p a b (narrowed_member p a b).sources (narrowed_member p a b).targets refl refl (Ok rows) (right.normal, right.fits)

  pub wide_path : (o : Option PlanNode) → IsSomeAnd o (λ n. n.member ≡ narrowed_member p a b) → IsSomeAnd o (λ n. NeedsWide g limit n.member) → SomeIsWide g limit (worked p a b)
  wide_path None is h = absurd is
  wide_path (Some n) is h = subst (SomeIsWide g limit) (members_are p a b) (subst (λ (m : Member). NeedsWide g limit m) is h)
