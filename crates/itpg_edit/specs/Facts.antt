-- What the rules of edits say of a graph, moment by moment.
use Rattle.std.specs.Prelude.{ℕ, ◌<◌, ◌≤◌, ℤ, List, length, IsSome, ◌⊎◌}
use Rattle.itpg_base.specs.Words.{Word}
use Rattle.itpg_base.specs.Spans.{Span, Within}
use Rattle.itpg_base.specs.Graphs.{Graph, Valued, Named, Exists, HasEnd, InHorizon, ObjectIs}
use Rattle.itpg_base.specs.declared.limits.TheConstants.{MAX_SPANS, MAX_PROPERTIES}
use Rattle.interval_set.specs.Runs.{AreRuns, AreRunsOf}
use Rattle.itpg_graph.specs.Families.{ExistsOutside, ValOutside, HasProperty}

-- the span of two moments
abbrev pub span_of : ℤ → ℤ → Span
span_of from to = record { from = from; to = to }

-- some standing object has the name
abbrev pub IsTaken : Graph → Word → Type 0
IsTaken g name = (o : ℕ) × Named g o name

-- no standing object has the name
abbrev pub IsUnknown : Graph → Word → Type 0
IsUnknown g name = (o : ℕ) → Named g o name → ⊥

-- a standing edge has the name
abbrev pub IsEdge : Graph → Word → Type 0
IsEdge g name = (o : ℕ) × Named g o name × ObjectIs g o (λ x. IsSome x.ends)

-- a moment of the span is outside the horizon
pub record LeavesHorizon (g : Graph) (s : Span) : Type 0 where
  pub moment : ℤ
  pub within : Within moment s
  pub outside : ¬ InHorizon g moment

-- a moment of the horizon is outside the span
pub record LosesMoment (g : Graph) (s : Span) : Type 0 where
  pub moment : ℤ
  pub within : InHorizon g moment
  pub outside : ¬ Within moment s

-- an end of the edge of this name doesn't exist at a moment of the span
pub record LacksEnd (g : Graph) (name : Word) (s : Span) : Type 0 where
  pub edge : ℕ
  pub named : Named g edge name
  pub end : ℕ
  pub has : HasEnd g edge end
  pub moment : ℤ
  pub within : Within moment s
  pub missing : ¬ Exists g end moment

-- the object of this name doesn't exist at a moment of the span
pub record IsAbsent (g : Graph) (name : Word) (s : Span) : Type 0 where
  pub object : ℕ
  pub named : Named g object name
  pub moment : ℤ
  pub within : Within moment s
  pub missing : ¬ Exists g object moment

-- an edge at the node of this name exists at a moment of the span
pub record IsHeld (g : Graph) (name : Word) (s : Span) : Type 0 where
  pub node : ℕ
  pub named : Named g node name
  pub edge : ℕ
  pub has : HasEnd g edge node
  pub moment : ℤ
  pub within : Within moment s
  pub exists : Exists g edge moment

-- the object of this name is an end of a standing edge
pub record IsIncident (g : Graph) (name : Word) : Type 0 where
  pub node : ℕ
  pub named : Named g node name
  pub edge : ℕ
  pub has : HasEnd g edge node

-- a set of moments has more runs than a family may have spans
pub record AreManySpans (S : ℤ → Type 0) : Type 0 where
  pub spans : List Span
  pub are : AreRuns S spans
  pub many : MAX_SPANS < length spans

-- values at moments have more runs than a family may have
pub record AreManyRuns (H : ℤ → Word → Type 0) : Type 0 where
  pub runs : List Valued
  pub are : AreRunsOf H runs
  pub many : MAX_SPANS < length runs

-- some family of the object has too many spans, if its life in this one ends
abbrev pub AreManyCut : Graph → ℕ → Span → Type 0
AreManyCut g o s = AreManySpans (ExistsOutside g o s) ⊎ ((prop : Word) × AreManyRuns (ValOutside g o s prop))

-- the object has no value of the property so far, and as many other properties as an object may have
pub record HasNoPlace (g : Graph) (o : ℕ) (prop : Word) : Type 0 where
  pub new : ¬ HasProperty g o prop
  pub many : ObjectIs g o (λ x. MAX_PROPERTIES ≤ length x.properties)
