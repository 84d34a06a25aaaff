-- Edits of what an object has over a span.
use Rattle.std.specs.Prelude.{ℕ, ℤ, List}
use Rattle.itpg_base.specs.Words.{IsLabels}
use Rattle.itpg_base.specs.Spans.{Span, IsMoment, Within}
use Rattle.itpg_base.specs.Graphs.{Graph, Stands, Exists, HasEnd}
use Rattle.itpg_base.specs.declared.object_number.ObjNo.{ObjNo}
use Rattle.itpg_graph.specs.Edges.{HasNumber}
use Rattle.itpg_edit.specs.declared.edit.Edit.{Edit}
use Rattle.itpg_edit.specs.declared.edit.Edit.TheVariants.{Begin, Extend, AddNode, AddEdge, Live, Gone, Put, Clear}

-- each end of the object exists at each moment of the span
abbrev pub EndsExist : Graph → ℕ → Span → Type 0
EndsExist g o s = (a : ℕ) → HasEnd g o a → (t : ℤ) → Within t s → Exists g a t

-- no edge at the object exists at a moment of the span
abbrev pub IsFree : Graph → ℕ → Span → Type 0
IsFree g o s = (e : ℕ) (t : ℤ) → HasEnd g e o → Within t s → Exists g e t → ⊥

-- the object exists at each moment of the span
abbrev pub IsThere : Graph → ℕ → Span → Type 0
IsThere g o s = (t : ℤ) → Within t s → Exists g o t

-- both are moments
abbrev pub AreMoments : ℤ → ℤ → Type 0
AreMoments from to = IsMoment from × IsMoment to

-- each number of the edit is a moment
abbrev pub HasMoments : Edit → Type 0
HasMoments (Begin name lo hi) = AreMoments lo hi
HasMoments (Extend lo hi) = AreMoments lo hi
HasMoments (Live id from to) = AreMoments from to
HasMoments (Gone id from to) = AreMoments from to
HasMoments (Put id prop value from to) = AreMoments from to
HasMoments (Clear id prop from to) = AreMoments from to
HasMoments edit = Unit {0}

-- each set of labels of the edit is one
abbrev pub HasLabels : Edit → Type 0
HasLabels (AddNode id labels) = IsLabels labels
HasLabels (AddEdge id labels source target) = IsLabels labels
HasLabels edit = Unit {0}

-- each object of the list stands
abbrev pub AllStand : Graph → List ObjNo → Type 0
AllStand g objects = (e : ℕ) → HasNumber objects e → Stands g e
