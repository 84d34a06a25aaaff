-- The identity within a scope has no more rows than a relation that holds it.
use Rattle.std.proofs.Common.{◌≡◌, ℕ, ◌≤◌, ℤ, ◌≤ℤ◌, List, [], ◌∷◌, length, Option, Some, None, refl, subst, arith}
use Rattle.std.proofs.lemmas.Int.{ints}
use Rattle.std.specs.Prelude.{IsSomeAnd, IfSome}
use Rattle.itpg_base.specs.Spans.{Within}
use Rattle.itpg_base.specs.Graphs.{Graph, Begun, Good}
use Rattle.itpg_base.specs.Points.{Point}
use Rattle.itpg_base.specs.Walks.{IsWalk}
use Rattle.relation_rows.specs.Rows.{Fits}
use Rattle.relation_rows.proofs.Alike.{rows_alike}
use Rattle.relation_rows.proofs.Diagonals.{diagonal_fewer, point}
use Rattle.path_ast.specs.Terms.{PathTerm, Repetition}
use Rattle.path_ast.specs.Meaning.{Rel}
use Rattle.label_scope.specs.declared.scope.Scope.{Scope}
use Rattle.label_scope.specs.Scopes.{IsWithin}
use Rattle.label_scope.specs.Narrowing.{Cut}
use Rattle.repeat_engine.specs.Relations.{Identity}
use Rattle.path_eval.specs.Powers.{IsInside, SamePoint, FitsInside}
use Rattle.path_eval.proofs.Finite.{cut_rows}

module _ (g : Graph) (u : Scope) where
  -- an object that is inside at two moments is inside at each between them
  inside_between : (o : ℕ) (t v w : ℤ) → IsInside g u (point o t) → IsInside g u (point o w) → t ≤ℤ v → v ≤ℤ w → IsInside g u (point o v)
  inside_between o t v w i j after before =
      let at = i.at in let end = j.at in
      record { good = i.good; at = record { stands = at.stands; within = of_begun g.begun at.within end.within }; within = i.within }
    where
      of_begun : (b : Option Begun) → IsSomeAnd b (λ s. Within t s.horizon) → IsSomeAnd b (λ s. Within w s.horizon) → IsSomeAnd b (λ s. Within v s.horizon)
      of_begun None h k = absurd h
      of_begun (Some b) h k = let begun = h.begun in let going = k.going in record { begun = omega (arith, ints); going = omega (arith, ints) }

  module _ (good : Good g) (r : PathTerm) where
    of_zeroth : (x y : Point) → Cut g (Repetition r 0 (Some 0)) u u x y → SamePoint g u x y
    of_zeroth x y c =
        let leads = c.leads in
        let repeated = leads.1 in
        let most = (repeated.1).1 in
        (record { good = good; at = leads.0; within = c.source }, no_steps x repeated.0 y most repeated.2)
      where
        no_steps : (x : Point) (zs : List Point) (y : Point) → length zs ≤ 0 → IsWalk (Rel r g) x zs y → x ≡ y
        no_steps x [] y few w = w
        no_steps x (z ∷ zs) y few w = absurd (omega (arith, few))

    zeroth_of : (x y : Point) → SamePoint g u x y → Cut g (Repetition r 0 (Some 0)) u u x y
    zeroth_of x y d =
        let i = d.0 in
        record { leads = (i.at, ([], (omega arith, omega arith), d.1)); source = i.within; target = subst (λ (v : Point). IsWithin u g v.object) d.1 i.within }

    -- where a union of powers fits, so does the identity
    pub identity_fits : (m : Option ℕ) (limit : ℕ) → Fits (Cut g (Repetition r 0 m) u u) limit → FitsInside g u limit Identity
    identity_fits m limit fits =
        let rows = cut_rows g (Repetition r 0 (Some 0)) u u in
        let normal = rows_alike (Cut g (Repetition r 0 (Some 0)) u u) (SamePoint g u) of_zeroth zeroth_of rows.0 rows.1 in
        let few = diagonal_fewer (IsInside g u) inside_between rows.0 normal (Cut g (Repetition r 0 m) u u) (λ x i. record { leads = (i.at, ([], (omega arith, none m), refl)); source = i.within; target = i.within }) fits.0 fits.1 in
        let most = fits.2 in
        (rows.0, normal, omega (arith, few, most))
      where
        none : (m : Option ℕ) → IfSome m (λ most. 0 ≤ most)
        none None = tt
        none (Some most) = omega arith
