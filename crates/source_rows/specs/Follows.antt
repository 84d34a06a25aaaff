-- Followed queries: each under a name, with the rows that are kept of single objects.
use Rattle.std.specs.Prelude.{◌≡◌, ◌≢◌, ◌⊎◌, ◌↔◌, ℕ, ◌+◌, ◌≤◌, ◌<◌, ◌&&◌, IsTrue, Some, IsSomeAnd}
use Rattle.std.specs.Prelude.{List, [], ◌∷◌, ◌++◌, length, nat_eq, if◌then◌else◌, slice_get, slice_set}
use Rattle.std.specs.Cmp.Lexicographic.{pointwise}
use Rattle.std.specs.List.{AllZip, sum_by}
use Rattle.itpg_base.specs.Words.{Word}
use Rattle.itpg_base.specs.Graphs.{changed_at}
use Rattle.itpg_base.specs.Lists.{Among, Ordered}
use Rattle.itpg_base.specs.declared.object_number.ObjNo.{ObjNo}
use Rattle.path_ast.specs.Terms.{QueryTerm}
use Rattle.path_ast.specs.Sizes.{path_size, IsPathInRange}
use Rattle.path_ast.specs.declared.counts.TheConstants.{MAX_TERMS}
use Rattle.relation_rows.specs.Answered.{Answered, pairs, times, row_number}
use Rattle.source_rows.specs.Touched.{Meets}
use Rattle.source_rows.specs.declared.touched.Touched.{Touched}

-- what is kept of one source: the objects that its rows depend on, and the rows
pub record Entry : Type 0 where
  pub source : ℕ
  pub objects : List ObjNo
  pub rows : Answered

-- a query that is followed under a name, and what is kept of it
pub record Follow : Type 0 where
  pub name : Word
  pub query : QueryTerm
  pub entries : List Entry

abbrev pub entry : ℕ → List ObjNo → Answered → Entry
entry source objects rows = record { source = source; objects = objects; rows = rows }

-- a follow of which nothing is kept yet
abbrev pub new_follow : Word → QueryTerm → Follow
new_follow name query = record { name = name; query = query; entries = [] }

-- how many queries may be followed
abbrev pub most_follows : ℕ
most_follows = 8

-- how many rows may be kept of all follows together
abbrev pub most_rows : ℕ
most_rows = 1000000

-- how many objects all that is kept may list together
abbrev pub most_objects : ℕ
most_objects = 4000000

-- a follow has this name
abbrev pub IsFollowed : List Follow → Word → Type 0
IsFollowed follows name = (f : Follow) × Among follows f × (f.name ≡ name)

-- no other place has a follow of this name
abbrev pub IsOnlyPlace : List Follow → Word → ℕ → Type 0
IsOnlyPlace follows name place = (other : ℕ) → IsSomeAnd (slice_get follows other) (λ f. f.name ≡ name) → other ≡ place

-- the two have different names
abbrev pub FollowsDiffer : Follow → Follow → Type 0
FollowsDiffer f g = f.name ≢ g.name

-- the follows but the one of this name, in their order
abbrev pub without : Word → List Follow → List Follow
without name [] = []
without name (f ∷ rest) = if pointwise nat_eq f.name name then without name rest else f ∷ without name rest

-- the answer has pairs of points
abbrev pub IsPairs : Answered → Type 0
IsPairs (pairs rows) = Unit {0}
IsPairs (times rows) = ⊥

-- one of the entries is of this source and has these rows
abbrev pub HasRows : List Entry → ℕ → Answered → Type 0
HasRows entries source rows = (e : Entry) × Among entries e × (e.source ≡ source) × (e.rows ≡ rows)

-- one of the entries is of this source
abbrev pub HasSource : List Entry → ℕ → Type 0
HasSource entries source = (e : Entry) × Among entries e × (e.source ≡ source)

-- the follow at a place keeps these rows of the source
abbrev pub Keeps : List Follow → ℕ → ℕ → Answered → Type 0
Keeps follows place source rows = IsSomeAnd (slice_get follows place) (λ f. HasRows f.entries source rows)

-- the follow at a place keeps rows of the source
abbrev pub IsKept : List Follow → ℕ → ℕ → Type 0
IsKept follows place source = IsSomeAnd (slice_get follows place) (λ f. HasSource f.entries source)

-- the follows, of which the one at a place has this entry behind its others
abbrev pub with_entry : ℕ → Entry → List Follow → List Follow
with_entry place e follows = changed_at follows place (λ f. record f { entries = f.entries ++ e ∷ [] })

-- how many rows the entries have
abbrev pub entry_rows : List Entry → ℕ
entry_rows entries = sum_by (λ e. row_number e.rows) entries

-- how many objects they list
abbrev pub entry_objects : List Entry → ℕ
entry_objects entries = sum_by (λ e. length e.objects) entries

-- how many rows are kept
abbrev pub kept_rows : List Follow → ℕ
kept_rows follows = sum_by (λ f. entry_rows f.entries) follows

-- how many objects all entries list
abbrev pub kept_objects : List Follow → ℕ
kept_objects follows = sum_by (λ f. entry_objects f.entries) follows

-- there is no room for these rows, or for the objects that they depend on
abbrev pub IsShort : List Follow → List ObjNo → Answered → Type 0
IsShort follows objects rows = (most_rows < kept_rows follows + row_number rows) ⊎ (most_objects < kept_objects follows + length objects)

-- of a follow nothing changes but its entries: exactly those stay that list no touched object
pub record IsUnmet (touched : Touched) (old new : Follow) : Type 0 where
  pub name : new.name ≡ old.name
  pub query : new.query ≡ old.query
  pub entries : (e : Entry) → Among new.entries e ↔ (Among old.entries e × (¬ Meets touched e.objects))

-- so it is with the follow at a place alone
abbrev pub IsUnmetAt : ℕ → Touched → List Follow → List Follow → Type 0
IsUnmetAt place touched old new = (f g : Follow) × (slice_get old place ≡ Some f) × IsUnmet touched f g × (new ≡ slice_set old place g)

-- so it is with each follow
abbrev pub AreUnmet : Touched → List Follow → List Follow → Type 0
AreUnmet touched old new = AllZip (IsUnmet touched) old new

-- a query that may be followed: its numbers are in range, its path has at most so many terms, and it asks for both ends
pub record MayBeFollowed (q : QueryTerm) : Type 0 where
  pub in_range : IsPathInRange q.path
  pub terms : path_size q.path ≤ MAX_TERMS
  pub ends : IsTrue (q.first && q.last)

-- few follows, of different names, each of a query that may be followed, with few rows and objects together
pub record AreSound (follows : List Follow) : Type 0 where
  pub few : length follows ≤ most_follows
  pub differ : Ordered FollowsDiffer follows
  pub asks : (f : Follow) → Among follows f → MayBeFollowed f.query
  pub rows : kept_rows follows ≤ most_rows
  pub objects : kept_objects follows ≤ most_objects
