-- Watches: the queries that stand, in order of declaration.
use Rattle.std.specs.Prelude.{◌≡◌, ◌≢◌, ℕ, List, [], ◌∷◌, ◌||◌, ◌&&◌, ◌≤◌, IsTrue, Bool, true, false, nat_eq, if◌then◌else◌, Option, Some, None, IsSome, IsSomeAnd, slice_get}
use Rattle.std.specs.Cmp.Lexicographic.{pointwise}
use Rattle.itpg_base.specs.Words.{Word}
use Rattle.itpg_base.specs.Lists.{Among}
use Rattle.itpg_base.specs.Graphs.{changed_at}
use Rattle.path_ast.specs.Terms.{QueryTerm}
use Rattle.path_ast.specs.Sizes.{path_size, IsPathInRange}
use Rattle.path_ast.specs.declared.counts.TheConstants.{MAX_TERMS}
use Rattle.label_scope.specs.declared.footprint.Footprint.{Footprint}
use Rattle.relation_rows.specs.Answered.{Answered, pairs, times}

-- a watch: its name and its query; the number of its plan's node, and its footprint; its base, which is the answer that the next
-- tick compares with; and the answer that is kept, if one is
pub record Watch : Type 0 where
  pub name : Word
  pub query : QueryTerm
  pub plan : ℕ
  pub foot : Footprint
  pub base : Answered
  pub now : Option Answered

-- how many watches may stand
abbrev pub most_watches : ℕ
most_watches = 32

-- a query that may be watched: its numbers are in range, its path has at most so many terms, and it asks for one end at least
pub record MayBeWatched (q : QueryTerm) : Type 0 where
  pub in_range : IsPathInRange q.path
  pub terms : path_size q.path ≤ MAX_TERMS
  pub ends : IsTrue (q.first || q.last)

-- a watch of this name stands
abbrev pub IsWatched : List Watch → Word → Type 0
IsWatched watches name = (w : Watch) × Among watches w × (w.name ≡ name)

-- no other place has a watch of this name
abbrev pub IsOnlyPlace : List Watch → Word → ℕ → Type 0
IsOnlyPlace watches name place = (other : ℕ) → IsSomeAnd (slice_get watches other) (λ w. w.name ≡ name) → other ≡ place

-- the two have different names
abbrev pub NamesDiffer : Watch → Watch → Type 0
NamesDiffer v w = v.name ≢ w.name

-- both ends of the query are asked for
abbrev pub asks_for_both : QueryTerm → Bool
asks_for_both q = q.first && q.last

-- an answer of the query's kind: rows of two times where both ends are asked for, else of one
abbrev pub IsOfKind : QueryTerm → Answered → Type 0
IsOfKind q (pairs rows) = asks_for_both q ≡ true
IsOfKind q (times rows) = asks_for_both q ≡ false

-- the answer of the query's kind that has no row
abbrev pub no_rows : QueryTerm → Answered
no_rows q = if asks_for_both q then pairs [] else times []

-- a watch that nothing has answered yet
abbrev pub new_watch : Word → QueryTerm → ℕ → Footprint → Watch
new_watch name q plan foot = record { name = name; query = q; plan = plan; foot = foot; base = no_rows q; now = None }

-- an answer is kept of the watch of this name
abbrev pub IsFresh : List Watch → Word → Type 0
IsFresh watches name = (w : Watch) × Among watches w × (w.name ≡ name) × IsSome w.now

-- the watch of this name keeps this answer, which is of its query's kind
abbrev pub Keeps : List Watch → Word → Answered → Type 0
Keeps watches name answer = (w : Watch) × Among watches w × (w.name ≡ name) × (w.now ≡ Some answer) × IsOfKind w.query answer

-- the watches but the one of this name, in their order
abbrev pub without : Word → List Watch → List Watch
without name [] = []
without name (w ∷ rest) = if pointwise nat_eq w.name name then without name rest else w ∷ without name rest

-- the watches, of which the one at a place has this base now
abbrev pub rebased : ℕ → Answered → List Watch → List Watch
rebased place base watches = changed_at watches place (λ w. record w { base = base })

-- the same, where it keeps this answer, or none
abbrev pub answered_now : ℕ → Option Answered → List Watch → List Watch
answered_now place now watches = changed_at watches place (λ w. record w { now = now })

-- the same, where this answer is its base and is kept
abbrev pub settled_at : ℕ → Answered → List Watch → List Watch
settled_at place answer watches = changed_at watches place (λ w. record w { base = answer; now = Some answer })

-- the same, where its plan's node has this number
abbrev pub replanned : ℕ → ℕ → List Watch → List Watch
replanned place plan watches = changed_at watches place (λ w. record w { plan = plan })
