-- What a question adds to the table of plans, and what it keeps there.
use Rattle.std.proofs.Common.{◌≡◌, inl, inr, ℕ, ◌<◌, ◌≤◌, List, [], ◌∷◌, length, refl, sym, subst}
use Rattle.std.specs.Prelude.{slice_get, Some, Result, Ok, Err, IfOk, OnErr}
use Rattle.itpg_base.specs.Graphs.{Graph}
use Rattle.itpg_base.specs.Walks.{IsWalk}
use Rattle.itpg_base.proofs.Objects.{there, get_kept}
use Rattle.path_ast.specs.Terms.{PathTerm, QueryTerm}
use Rattle.path_ast.specs.Sizes.{path_size}
use Rattle.match_parser.specs.Reading.{Reads}
use Rattle.label_scope.specs.declared.scope.Scope.TheVariants.{All}
use Rattle.relation_rows.specs.Answered.{Answered}
use Rattle.plan_cache.specs.declared.operations.PlanNo.{PlanNo}
use Rattle.plan_cache.specs.Nodes.{PlanNode, Kept, Table, IsNodeOf, narrowed_member}
use Rattle.plan_cache.specs.Growing.{Grows, IsChild, IsUnder, AddsUnder}
use Rattle.plan_cache.specs.KeptRows.{AddsFree, Stays}
use Rattle.path_eval.specs.Keeping.{LeadsTo, KeptOrFull, KeepsReached, KeepsOnlyReached}
use Rattle.itpg_session.specs.declared.asking.Asked.{Asked}
use Rattle.itpg_session.specs.Replies.{Rows, reply_of}
use Rattle.itpg_session.specs.PlainWatches.{PlainWatch}
use Rattle.itpg_session.specs.Keeping.{IsWorked, IsUnderPath, AddsPath, IsRootOf, IsOfPath, AddsOrRenews, KeepsPath}
use Rattle.itpg_session.proofs.Accepting.{adds_none}
use Rattle.itpg_session.proofs.Planned.{kept_before}

free_stays : (old new : List Kept) → AddsFree old new → Stays old new
free_stays old new free = λ k rows at. subst (λ (kept : List Kept). slice_get kept k ≡ Some (Some rows)) (sym free.1) (get_kept old _ k (Some rows) at)

-- a path is interned
pub adds_path : {E : Type 0} (p : PathTerm) (old new : Table) (r : Result PlanNo E) → IfOk r (λ no. IsNodeOf new.nodes no.0 (narrowed_member p All All)) → IfOk r (λ no. AddsUnder old.nodes new.nodes (no.0 ∷ []))
    → Grows (path_size p) old.nodes new.nodes → AddsFree old.kept new.kept → OnErr r (new ≡ old) → AddsPath p old new
adds_path p old new (Ok number) node only grows free same = record {
  grows = grows;
  under = λ k from below. (number.0, node, only k from below);
  stays = free_stays old.kept new.kept free;
  only = λ k rows at. inl (kept_before old.kept new.kept free k rows at);
}
adds_path p old new (Err e) node only grows free same = subst (AddsPath p old) (sym same) (adds_none p old)

-- what is reached from a node is under it
pub reached_under : (nodes : List PlanNode) (kept : List Kept) (n : ℕ) (zs : List ℕ) (k : ℕ) → IsWalk (LeadsTo nodes kept) n zs k → IsWalk (IsChild nodes) n zs k
reached_under nodes kept n [] k w = w
reached_under nodes kept n (z ∷ zs) k w = (w.0.0, reached_under nodes kept z zs k w.1)

-- relations are worked out after it
pub adds_worked : (p : PathTerm) (ws : List PlainWatch) (old mid new : Table) (number : ℕ) → IsNodeOf mid.nodes number (narrowed_member p All All) → AddsOrRenews p ws old mid
    → IsWorked mid new → KeepsOnlyReached mid number new.kept → AddsOrRenews p ws old new
adds_worked p ws old mid new number node (inr anew) worked only = inr (record {
  short = anew.short;
  under = subst (λ (nodes : List PlanNode). (k : ℕ) → k < length nodes → (root : ℕ) × IsRootOf nodes p ws root × IsUnder nodes (root ∷ []) k) (sym worked.nodes) anew.under;
  stays = λ m rows of_watch was. (
      let kept = anew.stays m rows of_watch was in
      (kept.0, subst (λ (nodes : List PlanNode). IsNodeOf nodes kept.0 m) (sym worked.nodes) kept.1, worked.stays kept.0 rows kept.2));
  only = λ m rows kept. (
      let at = subst (λ (nodes : List PlanNode). IsNodeOf nodes kept.0 m) worked.nodes kept.1 in
      elim (only kept.0 rows kept.2) [
        | inl was ↦ elim (anew.only m rows (kept.0, at, was)) [
          | inl before ↦ inl before
          | inr of_path ↦ inr (subst (λ (nodes : List PlanNode). IsOfPath nodes p m) (sym worked.nodes) of_path)
        ]
        | inr reached ↦ inr (subst (λ (nodes : List PlanNode). IsOfPath nodes p m) (sym worked.nodes)
            (kept.0, at, (number, node, (number, inl refl, (reached.0, reached_under mid.nodes mid.kept number reached.0 kept.0 reached.1)))))
      ]);
})
adds_worked p ws old mid new number node (inl adds) worked only = inl (record {
  grows = subst (λ (nodes : List PlanNode). Grows (path_size p) old.nodes nodes) (sym worked.nodes) adds.grows;
  under = subst (λ (nodes : List PlanNode). (k : ℕ) → length old.nodes ≤ k → k < length nodes → IsUnderPath nodes p k) (sym worked.nodes) adds.under;
  stays = λ k rows at. worked.stays k rows (adds.stays k rows at);
  only = λ k rows at. elim (only k rows at) [
    | inl was ↦ elim (adds.only k rows was) [
      | inl before ↦ inl before
      | inr under ↦ inr (subst (λ (nodes : List PlanNode). IsUnderPath nodes p k) (sym worked.nodes) under)
    ]
    | inr reached ↦ inr (subst (λ (nodes : List PlanNode). IsUnderPath nodes p k) (sym worked.nodes)
        (number, node, (number, inl refl, (reached.0, reached_under mid.nodes mid.kept number reached.0 k reached.1))))
  ];
})

-- the relation of the path's node is kept, or is too large
pub keeps_path : (g : Graph) (p : PathTerm) (old new : Table) (number : ℕ) → IsNodeOf old.nodes number (narrowed_member p All All) → new.nodes ≡ old.nodes → KeepsReached g old number new → KeepsPath g p new
keeps_path g p old new number node nodes reached =
    let n = there old.nodes number (λ x. x.member ≡ narrowed_member p All All) node in
    record {
      number = number;
      node = subst (λ (xs : List PlanNode). IsNodeOf xs number (narrowed_member p All All)) (sym nodes) node;
      kept = subst (KeptOrFull g new.kept number) n.2 (reached number n.0 ([], refl) n.1);
    }

-- a text reads as one query
pub keeps_read : (g : Graph) (text : List ℕ) (table : Table) → ((text : List ℕ) (p q : QueryTerm) → Reads text p → Reads text q → p ≡ q) → (q : QueryTerm) → Reads text q
    → (asked : Asked) → ((answer : Answered) → reply_of asked ≡ Rows answer → KeepsPath g q.path table) → (answer : Answered) → reply_of asked ≡ Rows answer → (r : QueryTerm) → Reads text r → KeepsPath g r.path table
keeps_read g text table one q reads asked keeps answer is r also = subst (λ (t : QueryTerm). KeepsPath g t.path table) (one text q r reads also) (keeps answer is)
