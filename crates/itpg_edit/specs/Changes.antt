-- Changes: edits that are read against a graph. Which change an edit asks for, whether it fits the graph, and what it leaves.
use Rattle.std.specs.Prelude.{◌≡◌, ℕ, ◌<◌, ℤ, length, IsSome, IsNone}
use Rattle.itpg_base.specs.Words.{Word}
use Rattle.itpg_base.specs.Spans.{Span, IsSpan, IsMoment, Within}
use Rattle.itpg_base.specs.Graphs.{Graph, Good, Named, Stands, HasEnd, InHorizon, ObjectIs}
use Rattle.itpg_base.specs.declared.limits.TheConstants.{MAX_OBJECTS}
use Rattle.itpg_base.specs.declared.object_number.ObjNo.{ObjNo}
use Rattle.itpg_base.specs.declared.touch.Touch.{Touch}
use Rattle.itpg_base.specs.declared.touch.Touch.TheVariants as touched
use Rattle.itpg_graph.specs.Kinds.{IsNode}
use Rattle.itpg_graph.specs.Changes.{begun_as, widened, with_node, with_edge, without, FitFamily, JoinsLive, CutsLive, PutsValue, ClearsValue}
use Rattle.itpg_graph.specs.Families.{FitCut, FitPut, FitClear, HasPlace}
use Rattle.itpg_edit.specs.declared.edit.Edit.{Edit}
use Rattle.itpg_edit.specs.declared.edit.Edit.TheVariants as edits
use Rattle.itpg_edit.specs.declared.change.Site.{Site}
use Rattle.itpg_edit.specs.declared.change.Change.{Change}
use Rattle.itpg_edit.specs.declared.change.Change.TheVariants.{Begin, Widen, AddNode, AddEdge, Live, Gone, Put, Clear, Remove}
use Rattle.itpg_edit.specs.Facts.{IsUnknown}
use Rattle.itpg_edit.specs.Sites.{EndsExist, IsFree, IsThere}

-- the graph is begun, and the span has each moment of its horizon
pub record IsWider (g : Graph) (s : Span) : Type 0 where
  pub begun : IsSome g.begun
  pub ordered : IsSpan s
  pub whole : (t : ℤ) → InHorizon g t → Within t s

-- the graph is begun, and no standing object has the name
pub record IsNew (g : Graph) (id : Word) : Type 0 where
  pub begun : IsSome g.begun
  pub free : IsUnknown g id

-- in a good graph that is begun, the standing object of this name
pub record IsNamed (g : Graph) (id : Word) (object : ObjNo) : Type 0 where
  pub good : Good g
  pub begun : IsSome g.begun
  pub named : Named g object.0 id

-- the standing object of this name, and a span of the horizon
pub record IsSite (g : Graph) (id : Word) (site : Site) : Type 0 where
  pub object : IsNamed g id site.object
  pub ordered : IsSpan site.span
  pub inside : (t : ℤ) → Within t site.span → InHorizon g t

-- the change is the one that the edit asks for: all that the edit names is there
abbrev pub IsAsked : Graph → Edit → Change → Type 0
IsAsked g edit (Begin name horizon) = (edit ≡ edits.Begin name.now horizon.from horizon.to) × IsNone g.begun × IsSpan horizon
IsAsked g edit (Widen horizon) = (edit ≡ edits.Extend horizon.from horizon.to) × IsWider g horizon
IsAsked g edit (AddNode id labels) = (edit ≡ edits.AddNode id.now labels.now) × IsNew g id.now
IsAsked g edit (AddEdge id labels source target) =
    (s : Word) × (t : Word) × (edit ≡ edits.AddEdge id.now labels.now s t) × IsNew g id.now × IsNamed g s source × IsNamed g t target
IsAsked g edit (Live site) = (id : Word) × (edit ≡ edits.Live id site.span.from site.span.to) × IsSite g id site
IsAsked g edit (Gone site) = (id : Word) × (edit ≡ edits.Gone id site.span.from site.span.to) × IsSite g id site
IsAsked g edit (Put site prop value) = (id : Word) × (edit ≡ edits.Put id prop.now value.now site.span.from site.span.to) × IsSite g id site
IsAsked g edit (Clear site prop) = (id : Word) × (edit ≡ edits.Clear id prop.now site.span.from site.span.to) × IsSite g id site
IsAsked g edit (Remove object) = (id : Word) × (edit ≡ edits.Remove id) × IsNamed g id object

-- the object stands, and the span lies in the horizon
pub record IsPlaced (g : Graph) (site : Site) : Type 0 where
  pub stands : Stands g site.object.0
  pub ordered : IsSpan site.span
  pub inside : (t : ℤ) → Within t site.span → InHorizon g t

-- what the change is about is there: some edit can ask for it
abbrev pub IsFound : Graph → Change → Type 0
IsFound g (Begin name horizon) = IsNone g.begun
IsFound g (Widen horizon) = IsWider g horizon
IsFound g (AddNode id labels) = IsNew g id.now
IsFound g (AddEdge id labels source target) = IsNew g id.now × Stands g source.0 × Stands g target.0
IsFound g (Live site) = IsPlaced g site
IsFound g (Gone site) = IsPlaced g site
IsFound g (Put site prop value) = IsPlaced g site
IsFound g (Clear site prop) = IsPlaced g site
IsFound g (Remove object) = Stands g object.0

-- the change can be made: it leaves a good graph and passes no capacity
abbrev pub Fits : Graph → Change → Type 0
Fits g (Begin name horizon) = Unit {0}
Fits g (Widen horizon) = Unit {0}
Fits g (AddNode id labels) = length g.objects < MAX_OBJECTS
Fits g (AddEdge id labels source target) = IsNode g source.0 × IsNode g target.0 × (length g.objects < MAX_OBJECTS)
Fits g (Live site) = EndsExist g site.object.0 site.span × FitFamily g site.object.0 site.span
Fits g (Gone site) = IsFree g site.object.0 site.span × FitCut g site.object.0 site.span
Fits g (Put site prop value) = IsThere g site.object.0 site.span × FitPut g site.object.0 prop.now value.now site.span × HasPlace g site.object.0 prop.now
Fits g (Clear site prop) = FitClear g site.object.0 prop.now site.span
Fits g (Remove object) = (e : ℕ) → HasEnd g e object.0 → ⊥

-- the horizon that a graph gets has moments for ends
abbrev pub BeginsInMoments : Change → Type 0
BeginsInMoments (Begin name horizon) = IsMoment horizon.from × IsMoment horizon.to
BeginsInMoments (Widen horizon) = IsMoment horizon.from × IsMoment horizon.to
BeginsInMoments change = Unit {0}

-- the graph that differs as the change says, and in nothing else
abbrev pub Leaves : Graph → Change → Graph → Type 0
Leaves g (Begin name horizon) new = new ≡ begun_as g name.now horizon
Leaves g (Widen horizon) new = new ≡ widened g horizon
Leaves g (AddNode id labels) new = new ≡ with_node g id.now labels.now
Leaves g (AddEdge id labels source target) new = new ≡ with_edge g id.now labels.now source.0 target.0
Leaves g (Live site) new = JoinsLive g site.object.0 site.span new
Leaves g (Gone site) new = CutsLive g site.object.0 site.span new
Leaves g (Put site prop value) new = PutsValue g site.object.0 prop.now value.now site.span new
Leaves g (Clear site prop) new = ClearsValue g site.object.0 prop.now site.span new
Leaves g (Remove object) new = new ≡ without g object.0

-- what the change touches on the graph before it
abbrev pub Touches : Graph → Change → Touch → Type 0
Touches g (Begin name horizon) touch = touch ≡ touched.All
Touches g (Widen horizon) touch = touch ≡ touched.All
Touches g (AddNode id labels) touch = touch ≡ touched.Shape labels.now
Touches g (AddEdge id labels source target) touch = touch ≡ touched.Shape labels.now
Touches g (Live site) touch = ObjectIs g site.object.0 (λ x. touch ≡ touched.Live x.labels)
Touches g (Gone site) touch = ObjectIs g site.object.0 (λ x. touch ≡ touched.Gone x.labels)
Touches g (Put site prop value) touch = ObjectIs g site.object.0 (λ x. touch ≡ touched.Value x.labels prop.now)
Touches g (Clear site prop) touch = ObjectIs g site.object.0 (λ x. touch ≡ touched.Value x.labels prop.now)
Touches g (Remove object) touch = ObjectIs g object.0 (λ x. touch ≡ touched.Shape x.labels)

-- to make the change takes memory
abbrev pub NeedsMemory : Change → Type 0
NeedsMemory (Begin name horizon) = ⊥
NeedsMemory (Widen horizon) = ⊥
NeedsMemory (Remove object) = ⊥
NeedsMemory change = Unit {0}
