-- The watches of the plain machine.
use Rattle.std.specs.Prelude.{◌≡◌, ◌≢◌, ℕ, List, map, Bool, true, false, is_some}
use Rattle.std.specs.List.{AllZip}
use Rattle.itpg_base.specs.Words.{Word}
use Rattle.itpg_base.specs.Lists.{Among}
use Rattle.itpg_base.specs.Graphs.{changed_at}
use Rattle.itpg_base.specs.declared.touch.Touch.{Touch}
use Rattle.path_ast.specs.Terms.{QueryTerm}
use Rattle.label_scope.specs.declared.scope.Scope.TheVariants.{All}
use Rattle.label_scope.specs.Footprints.{footprint}
use Rattle.label_scope.specs.Touching.{Meets}
use Rattle.relation_rows.specs.Answered.{Answered}
use Rattle.standing_queries.specs.Watches.{Watch, no_rows}
use Rattle.itpg_session.specs.Named.{without_named}

-- a watch of the plain machine: its name and its query; its base, which is the answer that the next tick compares with; and its
-- mark, which says whether it is fresh: an answer was found for it, and no edit since then touched what the query can depend on
pub record PlainWatch : Type 0 where
  pub name : Word
  pub query : QueryTerm
  pub base : Answered
  pub fresh : Bool

-- what the plain machine has of a watch that stands: nothing of plans, and of the kept answer only whether there is one
abbrev pub plain : Watch → PlainWatch
plain w = record { name = w.name; query = w.query; base = w.base; fresh = is_some w.now }

abbrev pub all_plain : List Watch → List PlainWatch
all_plain watches = map plain watches

-- a watch of this name stands
abbrev pub IsWatched : List PlainWatch → Word → Type 0
IsWatched watches name = (w : PlainWatch) × Among watches w × (w.name ≡ name)

-- and is fresh
abbrev pub IsFresh : List PlainWatch → Word → Type 0
IsFresh watches name = (w : PlainWatch) × Among watches w × (w.name ≡ name) × (w.fresh ≡ true)

-- the two have different names
abbrev pub NamesDiffer : PlainWatch → PlainWatch → Type 0
NamesDiffer v w = v.name ≢ w.name

-- a watch that nothing has answered yet
abbrev pub new_watch : Word → QueryTerm → PlainWatch
new_watch name q = record { name = name; query = q; base = no_rows q; fresh = false }

-- the watches but the one of this name, in their order
abbrev pub without : Word → List PlainWatch → List PlainWatch
without name watches = without_named (λ w. w.name) name watches

-- the watches, of which the one at a place has this mark now
abbrev pub marked_at : ℕ → Bool → List PlainWatch → List PlainWatch
marked_at place fresh watches = changed_at watches place (λ w. record w { fresh = fresh })

-- of a watch an edit changes nothing but the mark, which goes exactly if the touch meets what the query can depend on
pub record IsMarkedAfter (touch : Touch) (old new : PlainWatch) : Type 0 where
  pub same : new ≡ record old { fresh = new.fresh }
  pub gone : Meets (footprint old.query.path All All) touch → new.fresh ≡ false
  pub stays : (¬ Meets (footprint old.query.path All All) touch) → new.fresh ≡ old.fresh

-- so it is with each watch
abbrev pub AreMarkedAfter : Touch → List PlainWatch → List PlainWatch → Type 0
AreMarkedAfter touch old new = AllZip (IsMarkedAfter touch) old new
