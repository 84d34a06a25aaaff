-- What a session keeps beside its machine, and that it is right on the graph as it stands.
use Rattle.std.specs.Prelude.{◌≡◌, ℕ, ◌+◌, ◌<◌, ◌≤◌, ◌⊎◌, List, [], ◌∷◌, length, slice_get, true, false, Option, Some, None, IfSome}
use Rattle.std.specs.List.{AllZip}
use Rattle.itpg_base.specs.Graphs.{Graph, Stands}
use Rattle.itpg_base.specs.Lists.{Among}
use Rattle.itpg_base.specs.Walks.{IsWalk}
use Rattle.path_ast.specs.Terms.{PathTerm, QueryTerm}
use Rattle.path_ast.specs.Sizes.{path_size}
use Rattle.match_parser.specs.Reading.{Reads}
use Rattle.label_scope.specs.declared.scope.Scope.TheVariants.{All}
use Rattle.label_scope.specs.Footprints.{footprint}
use Rattle.label_scope.specs.Members.{Member}
use Rattle.relation_rows.specs.declared.rows.Row.{Row}
use Rattle.plan_cache.specs.Nodes.{Table, PlanNode, IsNodeOf, narrowed_member, parts_of}
use Rattle.plan_cache.specs.declared.nodes.TheConstants.{MAX_NODES}
use Rattle.plan_cache.specs.Growing.{Grows, IsUnder}
use Rattle.plan_cache.specs.KeptRows.{Stays}
use Rattle.plan_cache.specs.Refilled.{KeepsOf}
use Rattle.plan_cache.specs.RightRows.{IsTableRight}
use Rattle.path_eval.specs.Keeping.{KeptOrFull}
use Rattle.relation_rows.specs.Answered.{Answered}
use Rattle.row_printer.specs.Texts.{AreDeclared}
use Rattle.standing_queries.specs.Watches.{Watch}
use Rattle.itpg_pins.specs.Pins.{Pinned}
use Rattle.itpg_graph.specs.Edges.{AreNumbers}
use Rattle.source_rows.specs.Steps.{path_steps}
use Rattle.source_rows.specs.Reach.{Reach}
use Rattle.source_rows.specs.Follows.{Follow, Entry}
use Rattle.itpg_session.specs.PlainWatches.{PlainWatch}
use Rattle.itpg_session.specs.Questions.{HasAnswer, HasRowsFrom}
use Rattle.itpg_session.specs.Ticks.{Ticked, StaysWide, Moves}

-- a watch stands well beside these nodes: its plan is the node of its path between all objects, its footprint is that of this path,
-- its base has rows of declared objects alone, and its kept answer, if there is one, is the query's answer on the graph
pub record IsWatchRight (g : Graph) (limit : ℕ) (nodes : List PlanNode) (w : Watch) : Type 0 where
  pub planned : IsNodeOf nodes w.plan (narrowed_member w.query.path All All)
  pub footed : w.foot ≡ footprint w.query.path All All
  pub declared : AreDeclared (length g.objects) w.base
  pub answered : IfSome w.now (HasAnswer g limit w.query)

abbrev pub AreWatchesRight : Graph → ℕ → List PlanNode → List Watch → Type 0
AreWatchesRight g limit nodes watches = (w : Watch) → Among watches w → IsWatchRight g limit nodes w

-- what is kept is right on the graph
pub record IsKeptRight (g : Graph) (limit : ℕ) (table : Table) (watches : List Watch) : Type 0 where
  pub table_right : IsTableRight g limit table
  pub watches_right : AreWatchesRight g limit table.nodes watches

-- what a follow keeps of an object is right: the object stands, the objects are those that are reached from it in the steps of the
-- follow's path, and the answer is what is found from it
pub record IsEntryRight (g : Graph) (limit : ℕ) (q : QueryTerm) (e : Entry) : Type 0 where
  pub stands : Stands g e.source
  pub reach : AreNumbers (Reach g e.source (path_steps q.path)) e.objects
  pub rows : HasRowsFrom g limit q e.source e.rows

-- so it is with all that the follows keep
abbrev pub AreFollowsRight : Graph → ℕ → List Follow → Type 0
AreFollowsRight g limit follows = (f : Follow) (e : Entry) → Among follows f → Among f.entries e → IsEntryRight g limit f.query e

-- and the pins have the session's limit of rows
pub record IsSessionRight (g : Graph) (limit : ℕ) (table : Table) (watches : List Watch) (pins : Pinned) (follows : List Follow) : Type 0 where
  pub kept : IsKeptRight g limit table watches
  pub pins_limit : pins.limit ≡ limit
  pub follows_right : AreFollowsRight g limit follows

-- of a watch nothing changes but the number of its plan
abbrev pub IsReplanned : Watch → Watch → Type 0
IsReplanned old new = new ≡ record old { plan = new.plan }

abbrev pub AreReplanned : List Watch → List Watch → Type 0
AreReplanned old new = AllZip IsReplanned old new

-- relations may be kept at nodes at which none was; nothing else changes
pub record IsWorked (old new : Table) : Type 0 where
  pub nodes : new.nodes ≡ old.nodes
  pub stays : Stays old.kept new.kept

-- the node of this number is under that of the path between all objects
abbrev pub IsUnderPath : List PlanNode → PathTerm → ℕ → Type 0
IsUnderPath nodes p k = (root : ℕ) × IsNodeOf nodes root (narrowed_member p All All) × IsUnder nodes (root ∷ []) k

-- it is so for the path of a watch of which this holds
pub record IsUnderSome (Holds : PlainWatch → Type 0) (nodes : List PlanNode) (k : ℕ) : Type 0 where
  pub watch : PlainWatch
  pub holds : Holds watch
  pub under : IsUnderPath nodes watch.query.path k

-- relations are worked out for watches of which this holds, and for nothing else: what is kept was kept before, or its node is one of
-- such a watch's path
pub record IsWorkedFor (Holds : PlainWatch → Type 0) (old new : Table) : Type 0 where
  pub worked : IsWorked old new
  pub only : (k : ℕ) (rows : List Row) → slice_get new.kept k ≡ Some (Some rows) → (slice_get old.kept k ≡ Some (Some rows)) ⊎ IsUnderSome Holds new.nodes k

-- one of the watches, which isn't fresh
abbrev pub IsStale : List PlainWatch → PlainWatch → Type 0
IsStale watches w = Among watches w × (w.fresh ≡ false)

-- the nodes of a path between all objects are added behind the others, as far as they are missing. What was kept stays at its number,
-- and what is kept was kept before, or its node is one of the path's
pub record AddsPath (p : PathTerm) (old new : Table) : Type 0 where
  pub grows : Grows (path_size p) old.nodes new.nodes
  pub under : (k : ℕ) → length old.nodes ≤ k → k < length new.nodes → IsUnderPath new.nodes p k
  pub stays : Stays old.kept new.kept
  pub only : (k : ℕ) (rows : List Row) → slice_get new.kept k ≡ Some (Some rows) → (slice_get old.kept k ≡ Some (Some rows)) ⊎ IsUnderPath new.nodes p k

-- it is the node of the path of a watch's query, between all objects
abbrev pub IsWatchRoot : List PlanNode → List PlainWatch → ℕ → Type 0
IsWatchRoot nodes watches root = (w : PlainWatch) × Among watches w × IsNodeOf nodes root (narrowed_member w.query.path All All)

-- it is the node of the path, or of that of a watch's query
abbrev pub IsRootOf : List PlanNode → PathTerm → List PlainWatch → ℕ → Type 0
IsRootOf nodes p watches root = IsNodeOf nodes root (narrowed_member p All All) ⊎ IsWatchRoot nodes watches root

-- each node is under that of the path of a watch's query
abbrev pub AreOfWatches : List PlainWatch → List PlanNode → Type 0
AreOfWatches watches nodes = (k : ℕ) → k < length nodes → (root : ℕ) × IsWatchRoot nodes watches root × IsUnder nodes (root ∷ []) k

-- the member is that of the path of a watch's query, between all objects, or it is a part of that, or a part of a part, and so on
abbrev pub IsOfWatch : List PlainWatch → Member → Type 0
IsOfWatch watches m = (w : PlainWatch) × Among watches w × ((zs : List Member) × IsWalk (λ x y. Among (parts_of x) y) (narrowed_member w.query.path All All) zs m)

-- the member's node is under that of the path between all objects
abbrev pub IsOfPath : List PlanNode → PathTerm → Member → Type 0
IsOfPath nodes p m = (k : ℕ) × IsNodeOf nodes k m × IsUnderPath nodes p k

-- the table was made anew, since there may be no room for as many nodes as the path has terms: each of its nodes is under that of the
-- path, or of the path of a watch's query. What was kept of a watch's members is kept still; and what is kept was kept before, or its
-- node is one of the path's
pub record IsMadeAnew (p : PathTerm) (watches : List PlainWatch) (old new : Table) : Type 0 where
  pub short : MAX_NODES < length old.nodes + path_size p
  pub under : (k : ℕ) → k < length new.nodes → (root : ℕ) × IsRootOf new.nodes p watches root × IsUnder new.nodes (root ∷ []) k
  pub stays : (m : Member) (rows : List Row) → IsOfWatch watches m → KeepsOf old m rows → KeepsOf new m rows
  pub only : (m : Member) (rows : List Row) → KeepsOf new m rows → KeepsOf old m rows ⊎ IsOfPath new.nodes p m

-- the nodes of the path are added, or the table was made anew
abbrev pub AddsOrRenews : PathTerm → List PlainWatch → Table → Table → Type 0
AddsOrRenews p watches old new = AddsPath p old new ⊎ IsMadeAnew p watches old new

-- so it is with the path of the query that the text reads as; or nothing changes
abbrev pub AddsText : List ℕ → List PlainWatch → Table → Table → Type 0
AddsText text watches old new = ((q : QueryTerm) × Reads text q × AddsOrRenews q.path watches old new) ⊎ (new ≡ old)

-- at the node of the path between all objects its relation is kept, or it is too large to be kept beside the others
pub record KeepsPath (g : Graph) (p : PathTerm) (table : Table) : Type 0 where
  pub number : ℕ
  pub node : IsNodeOf table.nodes number (narrowed_member p All All)
  pub kept : KeptOrFull g table.kept number (narrowed_member p All All)

-- so it is with the path of the query that the text reads as
abbrev pub KeepsText : Graph → List ℕ → Table → Type 0
KeepsText g text table = (q : QueryTerm) → Reads text q → KeepsPath g q.path table

-- a watch that a tick found an answer for was fresh before, or what was worked out for it is kept; so of each in order
abbrev pub KeepsTicked : Graph → Table → PlainWatch → Ticked → Type 0
KeepsTicked g table w (StaysWide name) = Unit {0}
KeepsTicked g table w (Moves name now gained lost) = (w.fresh ≡ true) ⊎ KeepsPath g w.query.path table

abbrev pub KeepAllTicked : Graph → Table → List PlainWatch → List Ticked → Type 0
KeepAllTicked g table [] xs = Unit {0}
KeepAllTicked g table (w ∷ ws) [] = Unit {0}
KeepAllTicked g table (w ∷ ws) (x ∷ xs) = KeepsTicked g table w x × KeepAllTicked g table ws xs

-- what was worked out for a watch whose answer was found is kept
abbrev pub KeepsFound : Graph → Table → PlainWatch → Option Answered → Type 0
KeepsFound g table w None = Unit {0}
KeepsFound g table w (Some answer) = KeepsPath g w.query.path table
