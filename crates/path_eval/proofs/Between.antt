-- The relations of the axes between scopes, from what their items hold.
use Rattle.std.proofs.Common.{◌≡◌, ◌↔◌, inl, inr, ℕ, ◌≤◌, ℤ, pos, negsuc, ◌+ℤ◌, ◌-ℤ◌, List, [], Option, Some, None, length, refl, sym, ◌∙◌, subst, arith}
use Rattle.std.specs.Prelude.{IfSome, option_map, Result, Ok, Err}
use Rattle.std.proofs.lemmas.Int.{ints}
use Rattle.itpg_base.specs.declared.object_number.ObjNo.{ObjNo}
use Rattle.itpg_base.specs.Spans.{Span, IsSpan, Within}
use Rattle.itpg_base.specs.Graphs.{Graph, Begun, Good, IsBegun, Stands}
use Rattle.itpg_base.specs.Points.{Point, Relation, IsAt}
use Rattle.zone_core.specs.declared.Bounds.{Bounds}
use Rattle.zone_core.specs.Zone.{Meets, Holds, IsZoneOf}
use Rattle.zone_core.specs.Zone.{Within as IsNearZero, moment_reach}
use Rattle.zone_compose.specs.Compose.{Stays, Moves, IsOneStep}
use Rattle.relation_rows.specs.declared.rows.Row.{Row}
use Rattle.relation_rows.specs.declared.rows.RelFault.{RelFault}
use Rattle.relation_rows.specs.declared.rows.RelFault.TheVariants.{Memory, Wide}
use Rattle.relation_rows.specs.Rows.{NormalRows}
use Rattle.relation_rows.specs.Answers.{Gives}
use Rattle.relation_rows.specs.Relations.{IsOneOf}
use Rattle.relation_rows.proofs.Alike.{rows_alike, wide_alike}
use Rattle.path_ast.specs.Meaning.{Rel, BetweenPoints}
use Rattle.label_scope.specs.declared.scope.Scope.{Scope}
use Rattle.label_scope.specs.Scopes.{IsWithin}
use Rattle.label_scope.specs.Narrowing.{Cut}
use Rattle.condition_eval.specs.Tested.{HasHorizon}
use Rattle.condition_eval.specs.Within.{AreWithin}
use Rattle.condition_eval.proofs.Points.{in_horizon}
use Rattle.path_eval.specs.WithinBoth.{AreWithinBoth}
use Rattle.path_eval.specs.declared.axes.Direction.{Direction}
use Rattle.path_eval.specs.declared.axes.Direction.TheVariants as to
use Rattle.path_eval.specs.Axes.{axis_of, axis_in_time, Joins, OnEach, StepsFromAny}

-- the horizon of a good graph is a span, and its ends are near zero
pub horizon_near : (g : Graph) (horizon : Span) → Good g → HasHorizon g horizon → IsNearZero moment_reach horizon.from × (IsNearZero moment_reach horizon.to × IsSpan horizon)
horizon_near g horizon good e = of_begun g.begun good.begun e
  where
    of_begun : (b : Option Begun) → IfSome b IsBegun → option_map (λ (v : Begun). v.horizon) b ≡ Some horizon → IsNearZero moment_reach horizon.from × (IsNearZero moment_reach horizon.to × IsSpan horizon)
    of_begun None h e = let none : ⊥ = cc in absurd none
    of_begun (Some b) h e =
        let same : b.horizon ≡ horizon = cc in
        let from = h.from in
        let to = h.to in
        subst (λ (v : Span). IsNearZero moment_reach v.from × (IsNearZero moment_reach v.to × IsSpan v)) same
        (record { above = omega (arith, ints); below = omega (arith, ints) }, (record { above = omega (arith, ints); below = omega (arith, ints) }, h.span))

-- a list of items gives the relation that they hold, whatever it is called
pub gives_as : (R S : Relation) (limit : ℕ) → ((x y : Point) → R x y ↔ S x y) → (result : Result (List Row) RelFault) → Gives result R limit → Gives result S limit
gives_as R S limit same (Ok rows) h = (rows_alike R S (λ x y. (same x y).0) (λ x y. (same x y).1) rows h.0, h.1)
gives_as R S limit same (Err Memory) h = tt
gives_as R S limit same (Err Wide) h = wide_alike R S (λ x y. (same x y).0) (λ x y. (same x y).1) limit h

-- no row is normal for a relation without a pair
pub none_normal : (R : Relation) → ((x y : Point) → R x y → ⊥) → NormalRows R []
none_normal R none = record { whole = λ x y h. absurd (none x y h); once = λ r s x y a. absurd a; each = λ r a. absurd a; order = tt }

-- an axis along edges leads between points at one moment
joins_is : (d : Direction) (g : Graph) (x y : Point) → Rel (axis_of d) g x y ↔ BetweenPoints g x y ((y.moment ≡ x.moment) × Joins d g x.object y.object)
joins_is to.Forward g x y = (λ h. h, λ h. h)
joins_is to.Backward g x y = (λ h. h, λ h. h)

module _ (g : Graph) (horizon : Span) (begun : HasHorizon g horizon) (zone : Bounds) where
  module _ (stays : (t u : ℤ) → Meets zone t u ↔ Stays horizon.from horizon.to t u) (sources targets : Scope) (objects : List ObjNo) (are : AreWithin sources g objects) (d : Direction) where
    pub along_cut : (x y : Point) → StepsFromAny d targets g zone objects x y ↔ Cut g (axis_of d) sources targets x y
    along_cut x y = (
      λ h.
          let step = h.2.2 in
          let item = step.item in
          let o : (h.0).0 ≡ x.object = item.source in
          let p : (h.2.0).0 ≡ y.object = item.target in
          let m = (stays x.moment y.moment).0 item.pair in
          let one : IsOneOf objects x.object = (h.0, h.1, o) in
          let at_x : IsAt g x = record { stands = are.stand x.object one; within = (in_horizon g horizon begun x.moment).0 (record { begun = m.from; going = m.to }) } in
          let at_y : IsAt g y = record { stands = subst (Stands g) p step.stands; within = (in_horizon g horizon begun y.moment).0 (subst (λ (v : ℤ). Within v horizon) (sym m.same) (record { begun = m.from; going = m.to })) } in
          record {
            leads = (joins_is d g x y).1 (at_x, at_y, (m.same, subst (λ (v : ℕ). Joins d g x.object v) p (subst (λ (v : ℕ). Joins d g v (h.2.0).0) o h.2.1)));
            source = are.within x.object one;
            target = subst (IsWithin targets g) p step.within;
          },
      λ c.
          let leads = (joins_is d g x y).0 c.leads in
          let at_x = leads.0 in
          let at_y = leads.1 in
          let one = are.whole x.object at_x.stands c.source in
          let w = (in_horizon g horizon begun x.moment).1 at_x.within in
          let p : ObjNo = record { 0 = y.object } in (
            one.0,
            one.1,
            (
              p,
              subst (λ (v : ℕ). Joins d g v y.object) (sym one.2) leads.2.1,
              record {
                stands = at_y.stands;
                within = c.target;
                item = record { source = one.2; target = refl; pair = (stays x.moment y.moment).1 (record { from = w.begun; to = w.going; same = leads.2.0 }) };
              },
            ),
          ),
    )

-- one moment on is the next, and one back the one before
step_is : (step : ℤ) → IsOneStep step → (g : Graph) (x y : Point) → Rel (axis_in_time step) g x y ↔ BetweenPoints g x y ((y.object ≡ x.object) × (y.moment ≡ x.moment +ℤ step))
step_is step (inl e) g x y = subst (λ (v : ℤ). Rel (axis_in_time v) g x y ↔ BetweenPoints g x y ((y.object ≡ x.object) × (y.moment ≡ x.moment +ℤ v))) (sym e) (λ h. h, λ h. h)
step_is step (inr e) g x y = subst (λ (v : ℤ). Rel (axis_in_time v) g x y ↔ BetweenPoints g x y ((y.object ≡ x.object) × (y.moment ≡ x.moment +ℤ v))) (sym e)
    (λ h. (h.0, h.1, (h.2.0, before x.moment y.moment h.2.1)), λ h. (h.0, h.1, (h.2.0, back x.moment y.moment h.2.1)))
  where
    before : (t u : ℤ) → u ≡ t -ℤ pos 1 → u ≡ t +ℤ negsuc 0
    before t u e = omega (arith, ints)

    back : (t u : ℤ) → u ≡ t +ℤ negsuc 0 → u ≡ t -ℤ pos 1
    back t u e = omega (arith, ints)

module _ (g : Graph) (horizon : Span) (begun : HasHorizon g horizon) (step : ℤ) (one : IsOneStep step) (a b : Scope) (objects : List ObjNo) (are : AreWithinBoth a b g objects) where
  -- an axis in time leads where its moments do, on the objects of both scopes
  time_cut : (x y : Point) → Cut g (axis_in_time step) a b x y ↔ (IsOneOf objects x.object × ((y.object ≡ x.object) × Moves step horizon.from horizon.to x.moment y.moment))
  time_cut x y = (
    λ c.
        let leads = (step_is step one g x y).0 c.leads in
        let at_x = leads.0 in
        let at_y = leads.1 in
        let w = (in_horizon g horizon begun x.moment).1 at_x.within in
        let v = (in_horizon g horizon begun y.moment).1 at_y.within in (
          are.whole x.object at_x.stands c.source (subst (IsWithin b g) leads.2.0 c.target),
          (leads.2.0, record { from = w.begun; to = w.going; low = v.begun; high = v.going; by = leads.2.1 }),
        ),
    λ h.
        let m = h.1.1 in
        let first = are.first in
        let at_x : IsAt g x = record { stands = first.stand x.object h.0; within = (in_horizon g horizon begun x.moment).0 (record { begun = m.from; going = m.to }) } in
        let at_y : IsAt g y = record { stands = subst (Stands g) (sym h.1.0) at_x.stands; within = (in_horizon g horizon begun y.moment).0 (record { begun = m.low; going = m.high }) } in
        record { leads = (step_is step one g x y).1 (at_x, at_y, (h.1.0, m.by)); source = first.within x.object h.0; target = subst (IsWithin b g) (sym h.1.0) (are.second x.object h.0) },
  )

  pub in_time_cut : (zone : Bounds) → ((t u : ℤ) → Meets zone t u ↔ Moves step horizon.from horizon.to t u) → (x y : Point) → OnEach zone objects x y ↔ Cut g (axis_in_time step) a b x y
  in_time_cut zone moves x y = (
    λ h.
        let i = h.2 in
        (time_cut x y).1 ((h.0, h.1, i.source), (sym i.target ∙ i.source, (moves x.moment y.moment).0 i.pair)),
    λ c.
        let k = (time_cut x y).0 c in
        let o = k.0 in
        (o.0, o.1, record { source = o.2; target = o.2 ∙ sym k.1.0; pair = (moves x.moment y.moment).1 k.1.1 }),
  )

  -- where no moment of the horizon is one step from another, it leads nowhere
  pub in_no_time : ((t u : ℤ) → Moves step horizon.from horizon.to t u → ⊥) → NormalRows (Cut g (axis_in_time step) a b) []
  in_no_time none = none_normal (Cut g (axis_in_time step) a b) (λ x y c. none x.moment y.moment ((time_cut x y).0 c).1.1)

pub moves_there : (o : Option Bounds) (zone : Bounds) (step from to : ℤ) (horizon : Span) → o ≡ Some zone → IsZoneOf (Moves step from to) o → from ≡ horizon.from → to ≡ horizon.to
    → (t u : ℤ) → Meets zone t u ↔ Moves step horizon.from horizon.to t u
moves_there o zone step from to horizon e is f g t u =
    let h = subst (λ (v : Option Bounds). Holds v t u ↔ Moves step from to t u) e (is.pairs t u) in
    let k = subst (λ (v : ℤ). Meets zone t u ↔ Moves step v to t u) f h in
    subst (λ (v : ℤ). Meets zone t u ↔ Moves step horizon.from v t u) g k

pub moves_nowhere : (o : Option Bounds) (step from to : ℤ) (horizon : Span) → o ≡ None → IsZoneOf (Moves step from to) o → from ≡ horizon.from → to ≡ horizon.to
    → (t u : ℤ) → Moves step horizon.from horizon.to t u → ⊥
moves_nowhere o step from to horizon e is f g t u m =
    let n = subst (λ (v : ℤ). Moves step v horizon.to t u) (sym f) m in
    let k = subst (λ (v : ℤ). Moves step from v t u) (sym g) n in
    subst (λ (v : Option Bounds). Holds v t u) e ((is.pairs t u).1 k)

-- no row is few
pub none_few : (limit : ℕ) → length {A = Row} [] ≤ limit
none_few limit = omega arith
