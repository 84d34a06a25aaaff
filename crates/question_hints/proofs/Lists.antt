-- What a list that the graph gives says of its objects.
use Rattle.std.proofs.Common.{◌≡◌, ℕ, ℤ, List, [], ◌∷◌, inl, Bool, true, Option, Some, None, Bor, length, refl, sym, ◌∙◌, true≢false, arith}
use Rattle.std.specs.Prelude.{◌==◌, is_some, IsNone, IfSome}
use Rattle.std.proofs.Math.Dec.{eqb-suc-zero}
use Rattle.std.proofs.lemmas.Int.{ints}
use Rattle.itpg_base.specs.Words.{Word}
use Rattle.itpg_base.specs.Spans.{Within}
use Rattle.itpg_base.specs.Graphs.{Graph, Valued, Val, Good, AreRunsOfValues, Stands}
use Rattle.itpg_base.specs.declared.object_number.ObjNo.{ObjNo}
use Rattle.interval_set.specs.Runs.{AreRunsOf}
use Rattle.itpg_graph.specs.Edges.{AreNumbers}

-- the first moment of a run is in it
first_moment : (r : Valued) (rest : List Valued) → AreRunsOfValues (r ∷ rest) → Within r.span.from r.span
first_moment r rest are = let s = are.0 in record { begun = omega (arith, ints); going = s }

-- runs of which not all are missing have a value at some moment
pub some_value : (H : ℤ → Word → Type 0) (runs : List Valued) → AreRunsOf H runs → (¬ ((t : ℤ) (value : Word) → ¬ H t value)) → (t : ℤ) × (value : Word) × H t value
some_value H [] are some = absurd (some (λ t value h. are.whole t value h))
some_value H (r ∷ rest) are some = (r.span.from, r.value, are.only r.span.from r.value (inl (first_moment r rest are.coalesced, refl)))

-- a value stands at a point of the graph
pub value_stands : (g : Graph) (o : ℕ) (name : Word) (t : ℤ) (value : Word) → Good g → Val g o name t value → Stands g o
value_stands g o name t value good h = (good.inside o t (good.values_exist o name t value h)).stands

-- whether there are runs tells whether there is a value
pub runs_tell : (H : ℤ → Word → Type 0) (runs : Option (Bor (List Valued))) (b : Bool) → b ≡ is_some runs → IfSome runs (λ r. AreRunsOf H r.now)
    → (IsNone runs → (t : ℤ) (value : Word) → ¬ H t value) × (((t : ℤ) (value : Word) → ¬ H t value) → IsNone runs)
    → (b ≡ true → (t : ℤ) × (value : Word) × H t value) × (((t : ℤ) × (value : Word) × H t value) → b ≡ true)
runs_tell H None b is are none = (λ e. absurd (true≢false (sym e ∙ is)), λ h. absurd (none.0 refl h.0 h.1 h.2))
runs_tell H (Some r) b is are none = (λ e. some_value H r.now are (λ all. let never : ⊥ = cc (none.1 all) in never), λ h. is)

-- whether the list of numbers is empty tells whether no object is so
pub numbers_tell : (S : ℕ → Type 0) (numbers : List ObjNo) (b : Bool) → AreNumbers S numbers → b ≡ (length numbers == 0)
    → (b ≡ true → (o : ℕ) → ¬ S o) × (((o : ℕ) → ¬ S o) → b ≡ true)
numbers_tell S [] b are is = (λ e. are.whole, λ none. is)
numbers_tell S (x ∷ rest) b are is = (λ e. absurd (true≢false (sym e ∙ is ∙ eqb-suc-zero (length rest))), λ none. absurd (none x.0 (are.only x.0 (inl refl))))
