-- A path joins finitely many points, and whether it does is decided.
use Rattle.std.proofs.Common.{ℕ, ◌<◌, Bool, ℤ, pos, List, [], ◌∷◌, ◌⊎◌, inl, inr, length, Option, Some, None, refl, subst}
use Rattle.std.specs.Prelude.{IsSomeAnd}
use Rattle.std.proofs.lemmas.Option.{slice_get_within}
use Rattle.itpg_base.specs.Decided.{Decided}
use Rattle.itpg_base.specs.Spans.{Within}
use Rattle.itpg_base.specs.Graphs.{Graph, Begun}
use Rattle.itpg_base.specs.Points.{Point, Relation, IsAt}
use Rattle.itpg_base.proofs.Objects.{there}
use Rattle.itpg_base.proofs.Searches.{both, as_well, is_true, same_number}
use Rattle.itpg_base.proofs.PointSearch.{some_point}
use Rattle.zone_core.specs.Zone.{Between}
use Rattle.interval_set.proofs.Exists.{runs_exist}
use Rattle.itpg_base.specs.Lists.{Among}
use Rattle.relation_rows.specs.declared.rows.Row.{Row}
use Rattle.relation_rows.specs.declared.times.OneRow.{OneRow}
use Rattle.relation_rows.specs.Rows.{NormalRows, Fits, IsWide, IsFinite}
use Rattle.relation_rows.specs.Times.{AreTimes}
use Rattle.relation_rows.proofs.Alike.{wide_apart}
use Rattle.relation_rows.proofs.Exists.{rows_exist, rows_either}
use Rattle.relation_rows.proofs.TimeLaws.{times_exist}
use Rattle.path_ast.specs.Terms.{PathTerm, Condition}
use Rattle.path_ast.specs.Meaning.{Rel}
use Rattle.path_ast.proofs.Pairs.{starts_at, ends_at}
use Rattle.path_ast.proofs.Deciding.{decide_rel, decide_sat}
use Rattle.label_scope.specs.declared.scope.Scope.{Scope}
use Rattle.label_scope.specs.Narrowing.{Cut}
use Rattle.label_scope.specs.Members.{Member}
use Rattle.label_scope.proofs.Within.{decide_within_scope}
use Rattle.plan_cache.specs.RightRows.{member_relation, AllFit}
use Rattle.path_eval.specs.Evaluated.{SomeIsWide, CutToPicked}
use Rattle.path_eval.specs.Answering.{DepartsAt, ArrivesAt}
use Rattle.path_eval.specs.Nearby.{FromObject}

-- the moments between which all points lie
first_of : Option Begun → ℤ
first_of None = pos 0
first_of (Some b) = b.horizon.from

last_of : Option Begun → ℤ
last_of None = pos 0
last_of (Some b) = b.horizon.to

in_begun : (b : Option Begun) (t : ℤ) → IsSomeAnd b (λ b. Within t b.horizon) → Between (first_of b) (last_of b) t
unfolding first_of last_of
in_begun None t h = absurd h
in_begun (Some b) t h = record { above = h.begun; below = h.going }

module _ (g : Graph) where
  few : (x : Point) → IsAt g x → x.object < length g.objects
  few x at = let s = there g.objects x.object _ at.stands in slice_get_within g.objects x.object s.0 s.1

  near : (x : Point) → IsAt g x → Between (first_of g.begun) (last_of g.begun) x.moment
  near x at = in_begun g.begun x.moment at.within

  -- a decided relation that is part of a path's has a normal list
  module _ (p : PathTerm) (R : Relation) (leads : (x y : Point) → R x y → Rel p g x y) (decide : (x y : Point) → Decided (R x y)) where
    part_finite : IsFinite (length g.objects) (first_of g.begun) (last_of g.begun) R
    part_finite = record {
      source = λ x y c. few x (starts_at p g x y (leads x y c));
      target = λ x y c. few y (ends_at p g x y (leads x y c));
      departs = λ x y c. near x (starts_at p g x y (leads x y c));
      arrives = λ x y c. near y (ends_at p g x y (leads x y c));
    }

    part_rows : (rows : List Row) × NormalRows R rows
    part_rows = rows_exist (length g.objects) (first_of g.begun) (last_of g.begun) R decide part_finite

    part_either : (limit : ℕ) → Fits R limit ⊎ IsWide R limit
    part_either limit = rows_either (length g.objects) (first_of g.begun) (last_of g.begun) R decide part_finite limit

  pub picked_rows : (p : PathTerm) (sources targets : ℕ → Bool) → (rows : List Row) × NormalRows (CutToPicked g p sources targets) rows
  picked_rows p sources targets = part_rows p (CutToPicked g p sources targets) (λ x y c. c.leads)
      (λ x y. as_well (λ h. record { leads = h.0; source = h.1.0; target = h.1.1 }) (λ c. (c.leads, (c.source, c.target)))
      (both (decide_rel p g x y) (both (is_true (sources x.object)) (is_true (targets y.object)))))

  pub rows_from : (p : PathTerm) (o : ℕ) → (rows : List Row) × NormalRows (FromObject o (Rel p g)) rows
  rows_from p o = part_rows p (FromObject o (Rel p g)) (λ x y c. c.1) (λ x y. both (same_number x.object o) (decide_rel p g x y))

  module _ (p : PathTerm) (a b : Scope) where
    cut_decided : (x y : Point) → Decided (Cut g p a b x y)
    cut_decided x y =
        as_well (λ h. record { leads = h.0; source = h.1.0; target = h.1.1 }) (λ c. (c.leads, (c.source, c.target)))
        (both (decide_rel p g x y) (both (decide_within_scope a g x.object) (decide_within_scope b g y.object)))

    pub cut_rows : (rows : List Row) × NormalRows (Cut g p a b) rows
    cut_rows = part_rows p (Cut g p a b) (λ x y c. c.leads) cut_decided

    pub cut_either : (limit : ℕ) → Fits (Cut g p a b) limit ⊎ IsWide (Cut g p a b) limit
    cut_either limit = part_either p (Cut g p a b) (λ x y c. c.leads) cut_decided limit

  pub fit_or_wide : (limit : ℕ) (members : List Member) → AllFit g limit members ⊎ SomeIsWide g limit members
  fit_or_wide limit [] = inl (λ m among. absurd among)
  fit_or_wide limit (m ∷ rest) = elim (cut_either m.path m.sources m.targets limit) [
    | inl fits ↦ elim (fit_or_wide limit rest) [
      | inl all ↦ inl (λ n among. first_or_rest fits all n among)
      | inr w ↦ inr (record { member = w.member; among = inr w.among; wide = w.wide })
    ]
    | inr wide ↦ inr (record { member = m; among = inl refl; wide = wide })
  ]
    where
      first_or_rest : Fits (member_relation g m) limit → AllFit g limit rest → (n : Member) → Among (m ∷ rest) n → Fits (member_relation g n) limit
      first_or_rest fits all n (inl same) = subst (λ k. Fits (member_relation g k) limit) same fits
      first_or_rest fits all n (inr among) = all n among

  pub fit_apart : (limit : ℕ) (members : List Member) → AllFit g limit members → SomeIsWide g limit members → ⊥
  fit_apart limit members all w = wide_apart (member_relation g w.member) limit (all w.member w.among) w.wide

  module _ (p : PathTerm) where
    departs_decided : (o : ℕ) (t : ℤ) → Decided (DepartsAt (Rel p g) o t)
    departs_decided o t = decide_sat (Condition p) g (record { object = o; moment = t })

    arrives_decided : (o : ℕ) (t : ℤ) → Decided (ArrivesAt (Rel p g) o t)
    arrives_decided o t =
        let y : Point = record { object = o; moment = t } in
        some_point g (λ x. Rel p g x y) (λ x. decide_rel p g x y) (λ x h. starts_at p g x y h)

    pub departures : (rows : List OneRow) × AreTimes (DepartsAt (Rel p g)) rows
    departures = times_exist (DepartsAt (Rel p g))
        (λ o. runs_exist (DepartsAt (Rel p g) o) (first_of g.begun) (last_of g.begun) (λ t h. (near _ (starts_at p g _ h.0 h.1)).above) (λ t h. (near _ (starts_at p g _ h.0 h.1)).below) (departs_decided o))
        (length g.objects) (λ o t h. few _ (starts_at p g _ h.0 h.1))

    pub arrivals : (rows : List OneRow) × AreTimes (ArrivesAt (Rel p g)) rows
    arrivals = times_exist (ArrivesAt (Rel p g))
        (λ o. runs_exist (ArrivesAt (Rel p g) o) (first_of g.begun) (last_of g.begun) (λ t h. (near _ (ends_at p g h.0 _ h.1)).above) (λ t h. (near _ (ends_at p g h.0 _ h.1)).below) (arrives_decided o))
        (length g.objects) (λ o t h. few _ (ends_at p g h.0 _ h.1))
