-- The rules of each edit in the order in which they are tried, and the first that is broken.
use Rattle.std.specs.Prelude.{◌≡◌, ℕ, ◌≤◌, ℤ, ◌<ℤ◌, List, [], ◌∷◌, length, IsSome, IsNone, ◌⊎◌}
use Rattle.itpg_base.specs.Spans.{Within}
use Rattle.itpg_base.specs.Graphs.{Graph, Named, Exists}
use Rattle.itpg_base.specs.declared.rule_code.RuleCode.{RuleCode}
use Rattle.itpg_base.specs.declared.rule_code.RuleCode.TheVariants.{NoGraph, Again, Taken, Unknown, Kind, Backwards, Horizon, Ends, Absent, Held, Incident, Full, Narrow}
use Rattle.itpg_base.specs.declared.limits.TheConstants.{MAX_OBJECTS}
use Rattle.itpg_edit.specs.declared.edit.Edit.{Edit}
use Rattle.itpg_edit.specs.declared.edit.Edit.TheVariants.{Begin, Extend, AddNode, AddEdge, Live, Gone, Put, Clear, Remove}
use Rattle.itpg_edit.specs.Facts.{span_of, IsTaken, IsUnknown, IsEdge, LeavesHorizon, LosesMoment, LacksEnd, IsAbsent, IsHeld, IsIncident, AreManySpans, AreManyRuns, AreManyCut, HasNoPlace}
use Rattle.itpg_graph.specs.Families.{ValOutside, ValPut}

-- the rules of an edit, in order
abbrev pub rules_of : Edit → List RuleCode
rules_of (Begin name lo hi) = Again ∷ Backwards ∷ []
rules_of (Extend lo hi) = NoGraph ∷ Backwards ∷ Narrow ∷ []
rules_of (AddNode id labels) = NoGraph ∷ Taken ∷ Full ∷ []
rules_of (AddEdge id labels source target) = NoGraph ∷ Taken ∷ Unknown ∷ Kind ∷ Full ∷ []
rules_of (Live id from to) = NoGraph ∷ Unknown ∷ Backwards ∷ Horizon ∷ Ends ∷ Full ∷ []
rules_of (Gone id from to) = NoGraph ∷ Unknown ∷ Backwards ∷ Horizon ∷ Held ∷ Full ∷ []
rules_of (Put id prop value from to) = NoGraph ∷ Unknown ∷ Backwards ∷ Horizon ∷ Absent ∷ Full ∷ []
rules_of (Clear id prop from to) = NoGraph ∷ Unknown ∷ Backwards ∷ Horizon ∷ Full ∷ []
rules_of (Remove id) = NoGraph ∷ Unknown ∷ Incident ∷ []

-- a capacity would be passed
abbrev pub IsFull : Graph → Edit → Type 0
IsFull g (AddNode id labels) = MAX_OBJECTS ≤ length g.objects
IsFull g (AddEdge id labels source target) = MAX_OBJECTS ≤ length g.objects
IsFull g (Live id from to) = (o : ℕ) × Named g o id × AreManySpans (λ t. Exists g o t ⊎ Within t (span_of from to))
IsFull g (Gone id from to) = (o : ℕ) × Named g o id × AreManyCut g o (span_of from to)
IsFull g (Put id prop value from to) = (o : ℕ) × Named g o id × (AreManyRuns (ValPut g o (span_of from to) value prop) ⊎ HasNoPlace g o prop)
IsFull g (Clear id prop from to) = (o : ℕ) × Named g o id × AreManyRuns (ValOutside g o (span_of from to) prop)
IsFull g edit = ⊥

-- a name that the edit wants to be a standing object's is none's
abbrev pub MissesName : Graph → Edit → Type 0
MissesName g (AddEdge id labels source target) = IsUnknown g source ⊎ IsUnknown g target
MissesName g (Live id from to) = IsUnknown g id
MissesName g (Gone id from to) = IsUnknown g id
MissesName g (Put id prop value from to) = IsUnknown g id
MissesName g (Clear id prop from to) = IsUnknown g id
MissesName g (Remove id) = IsUnknown g id
MissesName g edit = ⊥

-- the name that the edit declares is a standing object's
abbrev pub TakesName : Graph → Edit → Type 0
TakesName g (AddNode id labels) = IsTaken g id
TakesName g (AddEdge id labels source target) = IsTaken g id
TakesName g edit = ⊥

-- the second moment comes before the first
abbrev pub IsBackwards : Edit → Type 0
IsBackwards (Begin name lo hi) = hi <ℤ lo
IsBackwards (Extend lo hi) = hi <ℤ lo
IsBackwards (Live id from to) = to <ℤ from
IsBackwards (Gone id from to) = to <ℤ from
IsBackwards (Put id prop value from to) = to <ℤ from
IsBackwards (Clear id prop from to) = to <ℤ from
IsBackwards edit = ⊥

-- a moment of the edit's span is outside the horizon
abbrev pub IsOutside : Graph → Edit → Type 0
IsOutside g (Live id from to) = LeavesHorizon g (span_of from to)
IsOutside g (Gone id from to) = LeavesHorizon g (span_of from to)
IsOutside g (Put id prop value from to) = LeavesHorizon g (span_of from to)
IsOutside g (Clear id prop from to) = LeavesHorizon g (span_of from to)
IsOutside g edit = ⊥

-- a moment of the old horizon is outside the new one
abbrev pub IsNarrow : Graph → Edit → Type 0
IsNarrow g (Extend lo hi) = LosesMoment g (span_of lo hi)
IsNarrow g edit = ⊥

-- an end of the edge would be missing
abbrev pub LosesEnd : Graph → Edit → Type 0
LosesEnd g (Live id from to) = LacksEnd g id (span_of from to)
LosesEnd g edit = ⊥

-- an object that is to have a value is missing
abbrev pub LosesObject : Graph → Edit → Type 0
LosesObject g (Put id prop value from to) = IsAbsent g id (span_of from to)
LosesObject g edit = ⊥

-- an edge at the node would be left
abbrev pub LeavesEdge : Graph → Edit → Type 0
LeavesEdge g (Gone id from to) = IsHeld g id (span_of from to)
LeavesEdge g edit = ⊥

-- the node that is dropped is an end of an edge
abbrev pub DropsEnd : Graph → Edit → Type 0
DropsEnd g (Remove id) = IsIncident g id
DropsEnd g edit = ⊥

-- an end of the new edge is no node
abbrev pub JoinsEdge : Graph → Edit → Type 0
JoinsEdge g (AddEdge id labels source target) = IsEdge g source ⊎ IsEdge g target
JoinsEdge g edit = ⊥

-- the edit breaks the rule on this graph
abbrev pub Breaks : Graph → Edit → RuleCode → Type 0
Breaks g edit NoGraph = IsNone g.begun
Breaks g edit Again = IsSome g.begun
Breaks g edit Taken = TakesName g edit
Breaks g edit Unknown = MissesName g edit
Breaks g edit Kind = JoinsEdge g edit
Breaks g edit Backwards = IsBackwards edit
Breaks g edit Horizon = IsOutside g edit
Breaks g edit Ends = LosesEnd g edit
Breaks g edit Absent = LosesObject g edit
Breaks g edit Held = LeavesEdge g edit
Breaks g edit Incident = DropsEnd g edit
Breaks g edit Full = IsFull g edit
Breaks g edit Narrow = IsNarrow g edit
Breaks g edit rule = ⊥

-- of these rules, tried one after another, none is broken
abbrev pub NoneOf : (RuleCode → Type 0) → List RuleCode → Type 0
NoneOf broken [] = Unit {0}
NoneOf broken (rule ∷ rest) = (¬ broken rule) × NoneOf broken rest

-- of these rules, tried one after another, the first that is broken is this
abbrev pub FirstOf : (RuleCode → Type 0) → List RuleCode → RuleCode → Type 0
FirstOf broken [] first = ⊥
FirstOf broken (rule ∷ rest) first = (broken rule × (first ≡ rule)) ⊎ ((¬ broken rule) × FirstOf broken rest first)

-- the edit breaks none of its rules
abbrev pub Unbroken : Graph → Edit → Type 0
Unbroken g edit = NoneOf (Breaks g edit) (rules_of edit)

-- the first of its rules that the edit breaks
abbrev pub Broken : Graph → Edit → RuleCode → Type 0
Broken g edit rule = FirstOf (Breaks g edit) (rules_of edit) rule

-- the rules on the name of a new object
abbrev pub NewBreaks : Graph → List ℕ → RuleCode → Type 0
NewBreaks g id NoGraph = IsNone g.begun
NewBreaks g id Taken = IsTaken g id
NewBreaks g id rule = ⊥

-- the rules on the name of the object that an edit is about
abbrev pub NameBreaks : Graph → List ℕ → RuleCode → Type 0
NameBreaks g id NoGraph = IsNone g.begun
NameBreaks g id Unknown = IsUnknown g id
NameBreaks g id rule = ⊥

-- and those on the span that it is about
abbrev pub PlaceBreaks : Graph → List ℕ → ℤ → ℤ → RuleCode → Type 0
PlaceBreaks g id from to NoGraph = IsNone g.begun
PlaceBreaks g id from to Unknown = IsUnknown g id
PlaceBreaks g id from to Backwards = to <ℤ from
PlaceBreaks g id from to Horizon = LeavesHorizon g (span_of from to)
PlaceBreaks g id from to rule = ⊥
