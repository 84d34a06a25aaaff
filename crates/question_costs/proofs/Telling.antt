-- What is told of a node by what is told of its children.
use Rattle.std.proofs.Common.{◌≡◌, ℕ, zero, suc, ◌<◌, ◌≤◌, Bool, true, false, ◌&&◌, List, [], ◌∷◌, length, take, slice_get, Option, Some, None, inl, inr, refl, sym, ap, subst, ◌∙◌, arith}
use Rattle.std.specs.Prelude.{IsSomeAnd}
use Rattle.std.proofs.lemmas.Bool.{false≢true}
use Rattle.itpg_base.specs.Graphs.{Graph}
use Rattle.itpg_base.specs.Lists.{Among}
use Rattle.relation_rows.specs.declared.rows.Row.{Row}
use Rattle.label_scope.specs.Members.{Member}
use Rattle.plan_cache.specs.Nodes.{PlanNode, AreShared, AreNodesOf, IsNodeOf, parts_of}
use Rattle.plan_cache.specs.RightRows.{AllFit, IsRight, members_of}
use Rattle.path_eval.specs.Evaluated.{NeedsWide}
use Rattle.path_eval.proofs.Climbing.{part_members, of_taken, some_node}
use Rattle.question_costs.specs.declared.count.Count.{Count}
use Rattle.question_costs.specs.declared.count.Count.TheVariants.{Rows, Over, Unknown}
use Rattle.question_costs.specs.Counts.{HasRowCount, IsOver, HasWidePart, IsToldOf, AreTold, is_rows, has_rows_at, all_have_rows}

-- what is wide for a part is wide for the whole
pub part_wide : (g : Graph) (limit : ℕ) (m p : Member) → Among (parts_of m) p → NeedsWide g limit p → NeedsWide g limit m
part_wide g limit m p i h = record { member = h.member; among = part_members m.path m.sources m.targets p h.member i h.among; wide = h.wide }

-- rows are told only of a member that fits
pub rows_fit : (g : Graph) (limit : ℕ) (m : Member) (c : Count) → IsToldOf g limit m c → is_rows (Some c) ≡ true → AllFit g limit (members_of m)
rows_fit g limit m (Rows n) h e = h.right.fits
rows_fit g limit m Over h e = absurd (false≢true e)
rows_fit g limit m Unknown h e = absurd (false≢true e)

-- and else it is wide
pub others_wide : (g : Graph) (limit : ℕ) (m : Member) (c : Count) → IsToldOf g limit m c → is_rows (Some c) ≡ false → NeedsWide g limit m
others_wide g limit m (Rows n) h e = absurd (false≢true (sym e))
others_wide g limit m Over h e = h.wide
others_wide g limit m Unknown h e = part_wide g limit m h.0 h.1 h.2

pub at_place : {X : Type 0} (xs : List X) (k : ℕ) → k < length xs → (x : X) × (slice_get xs k ≡ Some x)
at_place [] k l = absurd (let none : ⊥ = omega (arith, l) in none)
at_place (x ∷ xs) zero l = (x, refl)
at_place (x ∷ xs) (suc k) l = at_place xs k (omega (arith, l))

pub below : (nodes : List PlanNode) (n k : ℕ) (m : Member) → IsNodeOf (take n nodes) k m → k < n
below [] zero k m h = absurd h
below [] (suc n) k m h = absurd h
below (x ∷ nodes) zero k m h = absurd h
below (x ∷ nodes) (suc n) zero m h = omega arith
below (x ∷ nodes) (suc n) (suc k) m h = let l : k < n = below nodes n k m h in omega (arith, l)

module _ (g : Graph) (limit : ℕ) (nodes : List PlanNode) (counts : List Count) (told : AreTold g limit nodes counts) (n : ℕ) (long : n ≤ length counts) where
  -- what is told of a child is told of its part
  pub child_told : (k : ℕ) (m : Member) → IsNodeOf (take n nodes) k m → (c : Count) × (slice_get counts k ≡ Some c) × IsToldOf g limit m c
  child_told k m h =
      let l : k < n = below nodes n k m h in
      let at = at_place counts k (omega (arith, l, long)) in
      let node = some_node (λ v. v.member ≡ m) (slice_get nodes k) (of_taken nodes n k m h) in
      (at.0, at.1, subst (λ (v : Member). IsToldOf g limit v at.0) node.2 (told k node.0 at.0 node.1 at.1))

  all_fit : (ks : List ℕ) (ms : List Member) → AreNodesOf (take n nodes) ks ms → all_have_rows counts ks ≡ true → (p : Member) → Among ms p → AllFit g limit (members_of p)
  all_fit [] [] are e p i = absurd i
  all_fit [] (m ∷ ms) are e p i = absurd are
  all_fit (k ∷ ks) [] are e p i = absurd are
  all_fit (k ∷ ks) (m ∷ ms) are e p i =
      by (has_rows_at counts k) refl (child_told k m are.0) e (λ f j. all_fit ks ms are.1 f p j)
    where
      by : (b : Bool) → has_rows_at counts k ≡ b → (c : Count) × (slice_get counts k ≡ Some c) × IsToldOf g limit m c → (b && all_have_rows counts ks) ≡ true
          → (all_have_rows counts ks ≡ true → Among ms p → AllFit g limit (members_of p)) → AllFit g limit (members_of p)
      by true f first e rest = elim i [
        | inl same ↦ subst (λ (v : Member). AllFit g limit (members_of v)) same (rows_fit g limit m first.0 first.2 (ap is_rows (sym first.1) ∙ f))
        | inr j ↦ rest e j
      ]
      by false f first e rest = absurd (false≢true e)

  some_wide : (ks : List ℕ) (ms : List Member) → AreNodesOf (take n nodes) ks ms → all_have_rows counts ks ≡ false → (p : Member) × Among ms p × NeedsWide g limit p
  some_wide [] [] are e = absurd (false≢true (sym e))
  some_wide [] (m ∷ ms) are e = absurd are
  some_wide (k ∷ ks) [] are e = absurd are
  some_wide (k ∷ ks) (m ∷ ms) are e =
      by (has_rows_at counts k) refl (child_told k m are.0) e (λ f. some_wide ks ms are.1 f)
    where
      by : (b : Bool) → has_rows_at counts k ≡ b → (c : Count) × (slice_get counts k ≡ Some c) × IsToldOf g limit m c → (b && all_have_rows counts ks) ≡ false
          → (all_have_rows counts ks ≡ false → (p : Member) × Among ms p × NeedsWide g limit p) → (p : Member) × Among (m ∷ ms) p × NeedsWide g limit p
      by true f first e rest = let r = rest e in (r.0, inr r.1, r.2)
      by false f first e rest = (m, inl refl, others_wide g limit m first.0 first.2 (ap is_rows (sym first.1) ∙ f))

module _ (g : Graph) (limit : ℕ) (nodes : List PlanNode) (counts : List Count) (told : AreTold g limit nodes counts) (shared : AreShared nodes) (no : ℕ) (long : length counts ≡ no) where
  -- where rows aren't told of each child, a part is wide
  pub unknown_at : (ks : List ℕ) → (o : Option PlanNode) → slice_get nodes no ≡ o → IsSomeAnd o (λ n. ks ≡ n.children) → all_have_rows counts ks ≡ false → IsSomeAnd o (λ n. HasWidePart g limit n.member)
  unknown_at ks None e h f = absurd h
  unknown_at ks (Some n) e h f =
      some_wide g limit nodes counts told no (omega (arith, long)) n.children (parts_of n.member) (shared.lower no n e).children (subst (λ (v : List ℕ). all_have_rows counts v ≡ false) h f)

  -- where they are, all its parts fit
  pub over_at : (ks : List ℕ) → (o : Option PlanNode) → slice_get nodes no ≡ o → IsSomeAnd o (λ n. ks ≡ n.children) → all_have_rows counts ks ≡ true → IsSomeAnd o (λ n. NeedsWide g limit n.member) → IsSomeAnd o (λ n. IsOver g limit n.member)
  over_at ks None e h f w = absurd h
  over_at ks (Some n) e h f w =
      record { wide = w; parts = all_fit g limit nodes counts told no (omega (arith, long)) n.children (parts_of n.member) (shared.lower no n e).children (subst (λ (v : List ℕ). all_have_rows counts v ≡ true) h f) }

  -- right rows are counted
  pub rows_at : (rows : List Row) (many : ℕ) → many ≡ length rows → (o : Option PlanNode) → IsSomeAnd o (λ n. IsRight g limit n.member rows) → IsSomeAnd o (λ n. HasRowCount g limit n.member many)
  rows_at rows many e None h = absurd h
  rows_at rows many e (Some n) h = record { rows = rows; right = h; many = sym e }
