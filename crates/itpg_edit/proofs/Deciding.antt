-- Whether an edit breaks a rule is decided on a good graph.
use Rattle.std.proofs.Common.{◌≡◌, ℕ, ◌<◌, ◌≤◌, ℤ, List, [], ◌∷◌, ◌⊎◌, inl, inr, ⊎_elim, length, Option, Some, None, refl, sym, ap, subst, arith}
use Rattle.std.specs.Prelude.{IsSome, IsNone, IsTrue, slice_get}
use Rattle.std.proofs.lemmas.Int.{ints}
use Rattle.std.proofs.lemmas.Bool.{cases_lt}
use Rattle.itpg_base.specs.Words.{Word, IsBefore, IsRising}
use Rattle.itpg_base.specs.Spans.{Span, Within, Covers}
use Rattle.itpg_base.specs.Decided.{Decided}
use Rattle.itpg_base.specs.Graphs.{Graph, Object, Property, Valued, Good, Named, Exists, Val, HasEnd, InHorizon, ObjectIs, AreFamilies, PropertiesHave, property_names}
use Rattle.itpg_base.specs.declared.limits.TheConstants.{MAX_SPANS, MAX_PROPERTIES, MAX_OBJECTS}
use Rattle.itpg_base.specs.declared.rule_code.RuleCode.{RuleCode}
use Rattle.itpg_base.specs.declared.rule_code.RuleCode.TheVariants.{NoGraph, Again, Taken, Unknown, Kind, Backwards, Horizon, Ends as EndsRule, Absent, Held, Incident, Full, GraphName, Narrow}
use Rattle.itpg_base.proofs.Searches.{both, either, fails, as_well, at_most, before, is_true, if_some, same_word, same_number, some_below}
use Rattle.itpg_base.proofs.Objects.{there, here}
use Rattle.itpg_base.proofs.PointSearch.{there_below}
use Rattle.interval_set.specs.Runs.{AreRuns, AreRunsOf}
use Rattle.interval_set.proofs.Unique.{runs_unique, runs_alike}
use Rattle.interval_set.proofs.UniqueValues.{runs_of_unique}
use Rattle.interval_set.proofs.Changed.{joined_exists, cut_exists, put_exists, clear_exists}
use Rattle.interval_set.proofs.Coalesced.{decide_within}
use Rattle.itpg_graph.specs.Families.{ExistsOutside, ValOutside, ValPut, HasProperty}
use Rattle.itpg_graph.proofs.Names.{not_before_itself, has_after, after_first}
use Rattle.itpg_graph.proofs.Parts.{some_value}
use Rattle.itpg_graph.proofs.Cutting.{values_alike}
use Rattle.itpg_graph.proofs.Families.{InNames, has_name}
use Rattle.itpg_graph.proofs.Kept.{exists_at, at_exists, val_at, at_val}
use Rattle.itpg_graph.proofs.Asked.{alike_put, alike_clear}
use Rattle.itpg_edit.specs.declared.edit.Edit.{Edit}
use Rattle.itpg_edit.specs.declared.edit.Edit.TheVariants.{Begin, Extend, AddNode, AddEdge, Live, Gone, Put, Clear, Remove}
use Rattle.itpg_edit.specs.Facts.{span_of, IsTaken, IsUnknown, IsEdge, LeavesHorizon, LacksEnd, IsAbsent, IsHeld, IsIncident, AreManySpans, AreManyRuns, HasNoPlace}
use Rattle.itpg_edit.specs.Rules.{Breaks, rules_of, Broken, Unbroken}
use Rattle.itpg_edit.proofs.FirstOf.{first_or_none}
use Rattle.itpg_edit.proofs.Widening.{decide_loses}
use Rattle.itpg_edit.proofs.Moments.{some_moment, decide_exists, alike_joined}

decide_some : {X : Type 0} (o : Option X) → Decided (IsSome o)
decide_some None = inr (λ e. let none : ⊥ = cc in none)
decide_some (Some x) = inl refl

decide_none : {X : Type 0} (o : Option X) → Decided (IsNone o)
decide_none None = inl refl
decide_none (Some x) = inr (λ e. let none : ⊥ = cc in none)

-- what is so of a number that has an object is found among the numbers of the objects
some_object : (g : Graph) (P : ℕ → Type 0) → ((o : ℕ) → P o → o < length g.objects) → ((o : ℕ) → Decided (P o)) → Decided ((o : ℕ) × P o)
some_object g P inside each = as_well (λ h. (h.0, h.2)) (λ h. (h.0, inside h.0 h.1, h.1)) (some_below (length g.objects) P each)

decide_named : (g : Graph) (o : ℕ) (name : Word) → Decided (Named g o name)
decide_named g o name = if_some (slice_get g.objects o) (λ x. IsTrue x.standing × (x.name ≡ name)) (λ x. both (is_true x.standing) (same_word x.name name))

named_below : (g : Graph) (o : ℕ) (name : Word) → Named g o name → o < length g.objects
named_below g o name h = there_below g.objects o _ h

-- some standing object of this name is so
some_named : (g : Graph) (name : Word) (P : ℕ → Type 0) → ((o : ℕ) → Named g o name → Decided (P o)) → Decided ((o : ℕ) × Named g o name × P o)
some_named g name P each = as_well
    (λ h. (h.0, h.1.0, h.1.1)) (λ h. (h.0, (h.1, h.2)))
    (some_object g (λ o. Named g o name × P o) (λ o h. named_below g o name h.0) (λ o. elim (decide_named g o name) [
      | inl named ↦ as_well (λ p. (named, p)) (λ h. h.1) (each o named)
      | inr isnt ↦ inr (λ h. isnt h.0)
    ]))

pub decide_taken : (g : Graph) (name : Word) → Decided (IsTaken g name)
decide_taken g name = some_object g (λ o. Named g o name) (λ o h. named_below g o name h) (λ o. decide_named g o name)

decide_unknown : (g : Graph) (name : Word) → Decided (IsUnknown g name)
decide_unknown g name = as_well (λ n o h. n (o, h)) (λ u h. u h.0 h.1) (fails (decide_taken g name))

decide_edge : (g : Graph) (name : Word) → Decided (IsEdge g name)
decide_edge g name = some_named g name (λ o. ObjectIs g o (λ x. IsSome x.ends)) (λ o named. if_some (slice_get g.objects o) (λ x. IsSome x.ends) (λ x. decide_some x.ends))

pub decide_in_horizon : (g : Graph) (t : ℤ) → Decided (InHorizon g t)
decide_in_horizon g t = if_some g.begun (λ b. Within t b.horizon) (λ b. decide_within b.horizon t)

decide_leaves : (g : Graph) (s : Span) → Decided (LeavesHorizon g s)
decide_leaves g s = as_well
    (λ h. record { moment = h.0; within = h.1; outside = h.2 }) (λ l. (l.moment, l.within, l.outside))
    (some_moment s (λ t. InHorizon g t → ⊥) (λ t. fails (decide_in_horizon g t)))

decide_end : (g : Graph) (e a : ℕ) → Decided (HasEnd g e a)
decide_end g e a = if_some (slice_get g.objects e) _ (λ x. both (is_true x.standing) (if_some x.ends _ (λ n. either (same_number n.source a) (same_number n.target a))))

edge_below : (g : Graph) (e a : ℕ) → HasEnd g e a → e < length g.objects
edge_below g e a h = there_below g.objects e _ h

end_below : (g : Graph) → Good g → (e a : ℕ) → HasEnd g e a → a < length g.objects
end_below g good e a h = there_below g.objects a _ (good.ends_stand e a h)

decide_lacks : (g : Graph) → Good g → (name : Word) (s : Span) → Decided (LacksEnd g name s)
decide_lacks g good name s = as_well
    (λ h. record { edge = h.0; named = h.1; end = h.2.0; has = h.2.1.0; moment = h.2.1.1.0; within = h.2.1.1.1; missing = h.2.1.1.2 })
    (λ l. (l.edge, l.named, (l.end, (l.has, (l.moment, l.within, l.missing)))))
    (some_named g name (λ e. (a : ℕ) × (HasEnd g e a × ((t : ℤ) × Within t s × (Exists g a t → ⊥))))
    (λ e named. some_object g (λ a. HasEnd g e a × ((t : ℤ) × Within t s × (Exists g a t → ⊥))) (λ a h. end_below g good e a h.0)
    (λ a. both (decide_end g e a) (some_moment s (λ t. Exists g a t → ⊥) (λ t. fails (decide_exists g a t))))))

decide_absent : (g : Graph) (name : Word) (s : Span) → Decided (IsAbsent g name s)
decide_absent g name s = as_well
    (λ h. record { object = h.0; named = h.1; moment = h.2.0; within = h.2.1; missing = h.2.2 })
    (λ l. (l.object, l.named, (l.moment, l.within, l.missing)))
    (some_named g name (λ o. (t : ℤ) × Within t s × (Exists g o t → ⊥)) (λ o named. some_moment s (λ t. Exists g o t → ⊥) (λ t. fails (decide_exists g o t))))

decide_held : (g : Graph) (name : Word) (s : Span) → Decided (IsHeld g name s)
decide_held g name s = as_well
    (λ h. record { node = h.0; named = h.1; edge = h.2.0; has = h.2.1.0; moment = h.2.1.1.0; within = h.2.1.1.1; exists = h.2.1.1.2 })
    (λ l. (l.node, l.named, (l.edge, (l.has, (l.moment, l.within, l.exists)))))
    (some_named g name (λ o. (e : ℕ) × (HasEnd g e o × ((t : ℤ) × Within t s × Exists g e t)))
    (λ o named. some_object g (λ e. HasEnd g e o × ((t : ℤ) × Within t s × Exists g e t)) (λ e h. edge_below g e o h.0)
    (λ e. both (decide_end g e o) (some_moment s (λ t. Exists g e t) (λ t. decide_exists g e t)))))

decide_incident : (g : Graph) (name : Word) → Decided (IsIncident g name)
decide_incident g name = as_well
    (λ h. record { node = h.0; named = h.1; edge = h.2.0; has = h.2.1 })
    (λ l. (l.node, l.named, (l.edge, l.has)))
    (some_named g name (λ o. (e : ℕ) × HasEnd g e o) (λ o named. some_object g (λ e. HasEnd g e o) (λ e h. edge_below g e o h) (λ e. decide_end g e o)))

-- where the runs of a set are known, it is decided whether they are too many
many_spans : (S : ℤ → Type 0) (spans : List Span) → AreRuns S spans → Decided (AreManySpans S)
many_spans S spans are = elim (cases_lt MAX_SPANS (length spans)) [
  | inl many ↦ inl (record { spans = spans; are = are; many = many })
  | inr few ↦ inr (λ m. let same : m.spans ≡ spans = runs_unique S m.spans spans m.are are in let many = subst (λ xs. MAX_SPANS < length xs) same m.many in omega arith)
]

many_runs : (H : ℤ → Word → Type 0) (runs : List Valued) → AreRunsOf H runs → Decided (AreManyRuns H)
many_runs H runs are = elim (cases_lt MAX_SPANS (length runs)) [
  | inl many ↦ inl (record { runs = runs; are = are; many = many })
  | inr few ↦ inr (λ m. let same : m.runs ≡ runs = runs_of_unique H m.runs runs m.are are in let many = subst (λ xs. MAX_SPANS < length xs) same m.many in omega arith)
]

-- what is decided of each name is decided of those of a list
some_name : (names : List Word) (P : Word → Type 0) → ((n : Word) → Decided (P n)) → Decided ((n : Word) × (InNames names n × P n))
some_name [] P each = inr (λ h. h.1.0)
some_name (x ∷ xs) P each = elim (each x) [
  | inl p ↦ inl (x, (inl refl, p))
  | inr not ↦ elim (some_name xs P each) [
    | inl later ↦ inl (later.0, (inr later.1.0, later.1.1))
    | inr none ↦ inr (λ h. elim h.1.0 [ inl own ↦ not (subst P (sym own) h.1.1) | inr later ↦ none (h.0, (later, h.1.1)) ])
  ]
]

-- the runs of one property of a list
family : (ps : List Property) → AreFamilies ps → IsRising (property_names ps) → (n : Word) → (runs : List Valued) × AreRunsOf (λ t v. PropertiesHave ps n t v) runs
family [] are rising n = ([], record { whole = λ t v h. absurd h; only = λ t v h. absurd h; coalesced = tt })
family (p ∷ ps) are rising n = elim (same_word p.name n) [
  | inl e ↦ (
    p.runs,
    record {
      whole = λ t v h. ⊎_elim (λ own. own.1) (λ later. absurd (not_before_itself n (subst (λ m. IsBefore m n) e (has_after p.name n t v ps (after_first p ps rising) later)))) h;
      only = λ t v h. inl (e, h);
      coalesced = are.0.runs;
    },
  )
  | inr other ↦ let rest = family ps are.1 rising.1 n in (
    rest.0,
    record {
      whole = λ t v h. ⊎_elim (λ own. absurd (other own.0)) (λ later. rest.1.whole t v later) h;
      only = λ t v h. inr (rest.1.only t v h);
      coalesced = rest.1.coalesced;
    },
  )
]

module _ (g : Graph) (good : Good g) (o : ℕ) (x : Object) (at : slice_get g.objects o ≡ Some x) where
  values : (prop : Word) → (runs : List Valued) × AreRunsOf (Val g o prop) runs
  values prop =
      let is = good.objects o x at in
      let f = family x.properties is.properties is.differ prop in
      (f.0, values_alike (PropertiesHave x.properties prop) (Val g o prop) f.0 (at_val g o x at prop) (val_at g o x at prop) f.1)

  decide_joined : (s : Span) → Decided (AreManySpans (λ t. Exists g o t ⊎ Within t s))
  decide_joined s =
      let r = joined_exists x.live s in
      many_spans (λ t. Exists g o t ⊎ Within t s) r.0 (alike_joined g o x.live (here g.objects o _ x at refl) s r.0 r.1)

  decide_cut : (s : Span) → Decided (AreManySpans (ExistsOutside g o s))
  decide_cut s =
      let r = cut_exists x.live s in
      many_spans (ExistsOutside g o s) r.0
      (runs_alike (λ t. Covers x.live t × (Within t s → ⊥)) (ExistsOutside g o s) r.0 (λ t h. (at_exists g o x at t h.0, h.1)) (λ t h. (exists_at g o x at t h.0, h.1)) r.1)

  decide_cleared : (s : Span) (prop : Word) → Decided (AreManyRuns (ValOutside g o s prop))
  decide_cleared s prop =
      let v = values prop in
      let r = clear_exists v.0 s v.1.coalesced in
      many_runs (ValOutside g o s prop) r.0 (alike_clear g o prop v.0 v.1 s r.0 r.1)

  decide_put : (s : Span) (prop new : Word) → Decided (AreManyRuns (ValPut g o s new prop))
  decide_put s prop new =
      let v = values prop in
      let r = put_exists v.0 s new v.1.coalesced in
      many_runs (ValPut g o s new prop) r.0 (alike_put g o prop v.0 v.1 s new r.0 r.1)

  -- a property with too many runs has a value
  many_named : (s : Span) (prop : Word) → AreManyRuns (ValOutside g o s prop) → InNames (property_names x.properties) prop
  many_named s prop m =
      let first = some_value m.runs m.are.coalesced (λ e. let more = m.many in let none : length m.runs ≡ 0 = ap length e in omega arith) in
      has_name x.properties prop first.0 first.1 (val_at g o x at prop first.0 first.1 (m.are.only first.0 first.1 first.2).0)

  decide_cut_values : (s : Span) → Decided ((prop : Word) × AreManyRuns (ValOutside g o s prop))
  decide_cut_values s = as_well (λ h. (h.0, h.1.1)) (λ h. (h.0, (many_named s h.0 h.1, h.1))) (some_name (property_names x.properties) (λ prop. AreManyRuns (ValOutside g o s prop)) (decide_cleared s))

  pub decide_property : (prop : Word) → Decided (HasProperty g o prop)
  decide_property prop = let v = values prop in by_runs v.0 v.1
    where
      by_runs : (runs : List Valued) → AreRunsOf (Val g o prop) runs → Decided (HasProperty g o prop)
      by_runs [] are = inr (λ h. are.whole h.0 h.1 h.2)
      by_runs (r ∷ rest) are = inl (r.span.from, r.value, are.only r.span.from r.value (inl (record { begun = omega (arith, ints); going = are.coalesced.0 }, refl)))

  decide_no_place : (prop : Word) → Decided (HasNoPlace g o prop)
  decide_no_place prop = as_well (λ h. record { new = h.0; many = h.1 }) (λ p. (p.new, p.many))
      (both (fails (decide_property prop)) (if_some (slice_get g.objects o) (λ x. MAX_PROPERTIES ≤ length x.properties) (λ x. at_most MAX_PROPERTIES (length x.properties))))

-- what is decided of each standing object is decided of that of a name
of_named : (g : Graph) (name : Word) (P : ℕ → Type 0) → ((o : ℕ) (x : Object) → slice_get g.objects o ≡ Some x → Decided (P o)) → Decided ((o : ℕ) × Named g o name × P o)
of_named g name P each = some_named g name P (λ o named. let t = there g.objects o _ named in each o t.0 t.1)

decide_full : (g : Graph) → Good g → (edit : Edit) → Decided (Breaks g edit Full)
decide_full g good (AddNode id labels) = at_most MAX_OBJECTS (length g.objects)
decide_full g good (AddEdge id labels source target) = at_most MAX_OBJECTS (length g.objects)
decide_full g good (Live id from to) = of_named g id (λ o. AreManySpans (λ t. Exists g o t ⊎ Within t (span_of from to))) (λ o x at. decide_joined g good o x at (span_of from to))
decide_full g good (Gone id from to) =
    of_named g id (λ o. AreManySpans (ExistsOutside g o (span_of from to)) ⊎ ((prop : List ℕ) × AreManyRuns (ValOutside g o (span_of from to) prop)))
    (λ o x at. either (decide_cut g good o x at (span_of from to)) (decide_cut_values g good o x at (span_of from to)))
decide_full g good (Put id prop value from to) =
    of_named g id (λ o. AreManyRuns (ValPut g o (span_of from to) value prop) ⊎ HasNoPlace g o prop)
    (λ o x at. either (decide_put g good o x at (span_of from to) prop value) (decide_no_place g good o x at prop))
decide_full g good (Clear id prop from to) = of_named g id (λ o. AreManyRuns (ValOutside g o (span_of from to) prop)) (λ o x at. decide_cleared g good o x at (span_of from to) prop)
decide_full g good edit = inr (λ b. b)

decide_breaks : (g : Graph) → Good g → (edit : Edit) (rule : RuleCode) → Decided (Breaks g edit rule)
decide_breaks g good edit NoGraph = decide_none g.begun
decide_breaks g good edit Again = decide_some g.begun
decide_breaks g good edit Taken = by_edit edit
  where
    by_edit : (edit : Edit) → Decided (Breaks g edit Taken)
    by_edit (AddNode id labels) = decide_taken g id
    by_edit (AddEdge id labels source target) = decide_taken g id
    by_edit edit = inr (λ b. b)
decide_breaks g good edit Unknown = by_edit edit
  where
    by_edit : (edit : Edit) → Decided (Breaks g edit Unknown)
    by_edit (AddEdge id labels source target) = either (decide_unknown g source) (decide_unknown g target)
    by_edit (Live id from to) = decide_unknown g id
    by_edit (Gone id from to) = decide_unknown g id
    by_edit (Put id prop value from to) = decide_unknown g id
    by_edit (Clear id prop from to) = decide_unknown g id
    by_edit (Remove id) = decide_unknown g id
    by_edit edit = inr (λ b. b)
decide_breaks g good edit Kind = by_edit edit
  where
    by_edit : (edit : Edit) → Decided (Breaks g edit Kind)
    by_edit (AddEdge id labels source target) = either (decide_edge g source) (decide_edge g target)
    by_edit edit = inr (λ b. b)
decide_breaks g good edit Backwards = by_edit edit
  where
    by_edit : (edit : Edit) → Decided (Breaks g edit Backwards)
    by_edit (Begin name lo hi) = before hi lo
    by_edit (Extend lo hi) = before hi lo
    by_edit (Live id from to) = before to from
    by_edit (Gone id from to) = before to from
    by_edit (Put id prop value from to) = before to from
    by_edit (Clear id prop from to) = before to from
    by_edit edit = inr (λ b. b)
decide_breaks g good edit Horizon = by_edit edit
  where
    by_edit : (edit : Edit) → Decided (Breaks g edit Horizon)
    by_edit (Live id from to) = decide_leaves g (span_of from to)
    by_edit (Gone id from to) = decide_leaves g (span_of from to)
    by_edit (Put id prop value from to) = decide_leaves g (span_of from to)
    by_edit (Clear id prop from to) = decide_leaves g (span_of from to)
    by_edit edit = inr (λ b. b)
decide_breaks g good edit EndsRule = by_edit edit
  where
    by_edit : (edit : Edit) → Decided (Breaks g edit EndsRule)
    by_edit (Live id from to) = decide_lacks g good id (span_of from to)
    by_edit edit = inr (λ b. b)
decide_breaks g good edit Absent = by_edit edit
  where
    by_edit : (edit : Edit) → Decided (Breaks g edit Absent)
    by_edit (Put id prop value from to) = decide_absent g id (span_of from to)
    by_edit edit = inr (λ b. b)
decide_breaks g good edit Held = by_edit edit
  where
    by_edit : (edit : Edit) → Decided (Breaks g edit Held)
    by_edit (Gone id from to) = decide_held g id (span_of from to)
    by_edit edit = inr (λ b. b)
decide_breaks g good edit Incident = by_edit edit
  where
    by_edit : (edit : Edit) → Decided (Breaks g edit Incident)
    by_edit (Remove id) = decide_incident g id
    by_edit edit = inr (λ b. b)
decide_breaks g good edit Full = decide_full g good edit
decide_breaks g good edit GraphName = inr (λ b. b)
decide_breaks g good edit Narrow = by_edit edit
  where
    by_edit : (edit : Edit) → Decided (Breaks g edit Narrow)
    by_edit (Extend lo hi) = decide_loses g (span_of lo hi)
    by_edit edit = inr (λ b. b)

-- an edit breaks a rule first, or none
pub broken_or_none : (g : Graph) (edit : Edit) → Good g → ((rule : RuleCode) × Broken g edit rule) ⊎ Unbroken g edit
broken_or_none g edit good = first_or_none (Breaks g edit) (rules_of edit) (decide_breaks g good edit)
