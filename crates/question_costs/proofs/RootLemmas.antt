-- What is told of the question's own member.
use Rattle.std.proofs.Common.{◌≡◌, ◌↔◌, ℕ, List, [], ◌∷◌, slice_get, Option, Some, None, refl, sym, ap, subst, ◌∙◌, length, arith}
use Rattle.std.specs.Prelude.{IfSome, IsNone}
use Rattle.std.proofs.lemmas.Bool.{false≢true}
use Rattle.std.proofs.lemmas.List.{length-map}
use Rattle.itpg_base.specs.Graphs.{Graph}
use Rattle.path_ast.specs.Terms.{PathTerm}
use Rattle.label_scope.specs.declared.scope.Scope.TheVariants.{All}
use Rattle.label_scope.specs.Members.{Member, worked}
use Rattle.plan_cache.specs.Nodes.{PlanNode, AreShared, IsNodeOf, narrowed_member}
use Rattle.plan_cache.specs.Growing.{AddsUnder}
use Rattle.plan_cache.specs.RightRows.{members_of}
use Rattle.path_eval.specs.Evaluated.{SomeIsWide}
use Rattle.path_eval.proofs.Climbing.{some_node}
use Rattle.path_eval.proofs.Working.{members_are}
use Rattle.question_costs.specs.declared.count.Count.{Count}
use Rattle.question_costs.specs.declared.count.Count.TheVariants.{Rows, Over, Unknown}
use Rattle.question_costs.specs.Counts.{AreTold, HasRowCount, IsToldOf, counts_of, told_rows}
use Rattle.question_costs.specs.declared.count.MemberCount.{MemberCount}
use Rattle.question_costs.specs.Needed.{AreCountsOf, MustHave, NeedsRows}
use Rattle.question_costs.proofs.NeededLaw.{too_wide_below}
use Rattle.question_costs.proofs.Telling.{at_place, others_wide}
use Rattle.question_costs.proofs.Widest.{within}

pub counts_so : (g : Graph) (limit : ℕ) (p : PathTerm) (nodes : List PlanNode) (root : ℕ) (members : List MemberCount) → IsNodeOf nodes root (narrowed_member p All All) → AddsUnder [] nodes (root ∷ []) → AreShared nodes
    → length members ≡ length nodes → AreTold g limit nodes (counts_of members) → AreCountsOf g limit p nodes root (counts_of members)
counts_so g limit p nodes root members node only shared each told = record { node = node; only = only; shared = shared; each = length-map members (λ (m : MemberCount). m.count) ∙ each; told = told }

module _ (g : Graph) (limit : ℕ) (p : PathTerm) (nodes : List PlanNode) (root : ℕ) (counts : List Count) (of : AreCountsOf g limit p nodes root counts) where
  abbrev pub whole : Member
  whole = narrowed_member p All All

  told : (c : Count) × (slice_get counts root ≡ Some c) × IsToldOf g limit whole c
  told =
      let top = some_node (λ v. v.member ≡ whole) (slice_get nodes root) of.node in
      let each = of.each in
      let at = at_place counts root (omega (arith, each, within nodes root top.0 top.1)) in
      (at.0, at.1, subst (λ (v : Member). IsToldOf g limit v at.0) top.2 (of.told root top.0 at.0 top.1 at.1))

  has : (c : Count) → IsToldOf g limit whole c → IfSome (told_rows (Some c)) (λ n. HasRowCount g limit whole n)
  has (Rows n) h = h
  has Over h = tt
  has Unknown h = tt

  wide : (c : Count) → IsToldOf g limit whole c → IsNone (told_rows (Some c)) → SomeIsWide g limit (members_of whole)
  wide (Rows n) h e = absurd (false≢true (sym e))
  wide Over h e = others_wide g limit whole Over h refl
  wide Unknown h e = others_wide g limit whole Unknown h refl

  pub root_has : (rows : Option ℕ) → rows ≡ told_rows (slice_get counts root) → IfSome rows (λ n. HasRowCount g limit whole n)
  root_has rows e = subst (λ (v : Option ℕ). IfSome v (λ n. HasRowCount g limit whole n)) (sym (e ∙ ap told_rows told.1)) (has told.0 told.2)

  pub root_wide : (rows : Option ℕ) → rows ≡ told_rows (slice_get counts root) → IsNone rows → SomeIsWide g limit (worked p All All)
  root_wide rows e none = subst (SomeIsWide g limit) (members_are p All All) (wide told.0 told.2 (subst (λ (v : Option ℕ). IsNone v) (e ∙ ap told_rows told.1) none))

  pub must_have : (usual : ℕ) (needed : Option ℕ) → ((n : ℕ) → (needed ≡ Some n) ↔ NeedsRows usual counts n) → IfSome needed (λ n. MustHave g p usual n)
  must_have usual None h = tt
  must_have usual (Some n) h = let r = (h n).0 refl in record { beyond = r.beyond; wide = λ less l. too_wide_below g limit p nodes root counts of n less r.some l }
