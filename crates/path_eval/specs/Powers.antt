-- The powers of a path's relation within a scope, as relations that are written down, and what a call that works one out
-- answers.
use Rattle.std.specs.Prelude.{◌≡◌, ℕ, ◌-◌, ◌<◌, ◌≤◌, List, ◌∷◌, ◌++◌, length, Option, Some, None, Result, Ok, Err}
use Rattle.itpg_base.specs.Chains.{chain}
use Rattle.itpg_base.specs.Graphs.{Graph, Good, Stands}
use Rattle.itpg_base.specs.Points.{Point, Relation, IsAt}
use Rattle.relation_rows.specs.declared.rows.Row.{Row}
use Rattle.relation_rows.specs.declared.rows.RelFault.{RelFault}
use Rattle.relation_rows.specs.declared.rows.RelFault.TheVariants.{Memory, Wide}
use Rattle.relation_rows.specs.Rows.{RowsHold, NormalRows, Fits}
use Rattle.path_ast.specs.Terms.{PathTerm, Repetition}
use Rattle.path_ast.specs.Meaning.{Rel}
use Rattle.label_scope.specs.declared.scope.Scope.{Scope}
use Rattle.label_scope.specs.Scopes.{IsWithin}
use Rattle.label_scope.specs.Narrowing.{Cut}
use Rattle.label_scope.specs.Members.{Member, powers_within, unions_within, further}
use Rattle.repeat_engine.specs.Relations.{RelationTerm, Relates, RelatesAlike, IsBetween}
use Rattle.plan_cache.specs.RightRows.{member_relation, AllFit}
use Rattle.path_eval.specs.Evaluated.{SomeIsWide}
pub mod Lawful

-- it is a point of the graph, which is a good one, and its object is within the scope
pub record IsInside (g : Graph) (u : Scope) (x : Point) : Type 0 where
  pub good : Good g
  pub at : IsAt g x
  pub within : IsWithin u g x.object

-- a relation that is written down: rows, the identity, or what is made of others
abbrev pub Written : Type 0
Written = RelationTerm (List Row)

-- between which points it leads, where the identity is that of the points inside
abbrev pub Leads : Graph → Scope → Written → Relation
Leads g u w x y = Relates (IsInside g u) RowsHold w x y

-- both lead between the same points
abbrev pub LeadAlike : Graph → Scope → Written → Written → Type 0
LeadAlike g u w v = RelatesAlike (IsInside g u) RowsHold w v

-- it leads between points inside alone
abbrev pub StaysInside : Graph → Scope → Written → Type 0
StaysInside g u w = IsBetween (IsInside g u) RowsHold w

-- each point inside leads to itself
abbrev pub SamePoint : Graph → Scope → Relation
SamePoint g u x y = IsInside g u x × (x ≡ y)

-- each point of the graph whose object is within both scopes leads to itself
abbrev pub SameWithinBoth : Graph → Scope → Scope → Relation
SameWithinBoth g a b x y = IsInside g a x × IsWithin b g x.object × (x ≡ y)

-- it has at most so many normal rows
abbrev pub FitsInside : Graph → Scope → ℕ → Written → Type 0
FitsInside g u limit w = Fits (Leads g u w) limit

-- the object stands and is within the scope
abbrev pub StandsWithin : Scope → Graph → ℕ → Type 0
StandsWithin scope g o = Stands g o × IsWithin scope g o

-- the rows hold the pair, from an object within the one scope to one within the other
pub record HeldBetween (g : Graph) (rows : List Row) (a b : Scope) (x y : Point) : Type 0 where
  pub held : RowsHold rows x y
  pub source : StandsWithin a g x.object
  pub target : StandsWithin b g y.object

-- how often a repetition may go on after n times, where m times are the most
abbrev pub left_over : ℕ → Option ℕ → Option ℕ
left_over n None = None
left_over n (Some m) = Some (m - n)

-- the repetition may go on after n times
abbrev pub IsRest : ℕ → Option ℕ → Type 0
IsRest n None = Unit {0}
IsRest n (Some m) = n < m

-- the rows hold exactly the pairs of the relation, which has at most so many normal rows
pub record HoldsFitting (R : Relation) (limit : ℕ) (rows : List Row) : Type 0 where
  pub whole : (x y : Point) → R x y → RowsHold rows x y
  pub only : (x y : Point) → RowsHold rows x y → R x y
  pub fits : Fits R limit

-- the pairs of the relation, which fits, only where each of the members fits; `Wide` only where some of them is wide; want of
-- memory is free
abbrev pub GivesPairs : Graph → ℕ → Relation → List Member → Result (List Row) RelFault → Type 0
GivesPairs g limit R members (Ok rows) = HoldsFitting R limit rows × AllFit g limit members
GivesPairs g limit R members (Err Memory) = Unit {0}
GivesPairs g limit R members (Err Wide) = SomeIsWide g limit members

-- the normal rows of the member, which fits, only where each of the others fits too; `Wide` only where it or some other is wide;
-- memory may run out
abbrev pub GivesMember : Graph → ℕ → Member → List Member → Result (List Row) RelFault → Type 0
GivesMember g limit m others (Ok rows) = NormalRows (member_relation g m) rows × (length rows ≤ limit) × AllFit g limit others
GivesMember g limit m others (Err Memory) = Unit {0}
GivesMember g limit m others (Err Wide) = SomeIsWide g limit (m ∷ others)

-- what is worked out for a repetition within the scope of all that it passes, after its body's own members
abbrev pub repetition_members : PathTerm → Scope → ℕ → Option ℕ → List Member
repetition_members r u n m = powers_within r u (chain n) ++ unions_within r u (further n m)

-- a repetition of the body from the one scope to the other
abbrev pub repetition_member : PathTerm → ℕ → Option ℕ → Scope → Scope → Member
repetition_member r n m a b = record { path = Repetition r n m; sources = a; targets = b }

-- where the body makes two steps, the first of them from an object within the scope, the object between is within it too
abbrev pub PassesWithin : Graph → PathTerm → Scope → Type 0
PassesWithin g r u = (x z y : Point) → IsWithin u g x.object → Rel r g x z → Rel r g z y → IsWithin u g z.object

-- on a good graph the rows are those of the body within the scope, in which its walks stay, and there are few enough
pub record IsBody (g : Graph) (r : PathTerm) (u : Scope) (limit : ℕ) (rows : List Row) : Type 0 where
  pub good : Good g
  pub normal : NormalRows (Cut g r u u) rows
  pub few : length rows ≤ limit
  pub passes : PassesWithin g r u
