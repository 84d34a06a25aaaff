-- A tick: what it finds of each watch, and the bases after it.
use Rattle.std.specs.Prelude.{◌≡◌, ℕ, List, [], ◌∷◌, Bool, true, false, Some, None}
use Rattle.std.specs.List.{list_any}
use Rattle.itpg_base.specs.Words.{Word}
use Rattle.itpg_base.specs.Graphs.{Graph, changed_at}
use Rattle.relation_rows.specs.Answered.{Answered, answered}
use Rattle.standing_queries.specs.Changes.{IsRest}
use Rattle.itpg_session.specs.declared.ticking.Ticked.{Ticked as TickedValue}
use Rattle.itpg_session.specs.declared.ticking.Ticked.TheVariants as value
use Rattle.standing_queries.specs.Watches.{Watch}
use Rattle.itpg_session.specs.PlainWatches.{PlainWatch}
use Rattle.itpg_session.specs.Questions.{IsTooWide, HasAnswer}

-- what a tick finds of the watch of a name: its query is too wide; or this is the answer now, this was gained, and this was lost
pub data Ticked : Type 0 where
  StaysWide : Word → Ticked
  Moves : Word → Answered → Answered → Answered → Ticked

-- what a value of the code stands for
abbrev pub ticked_of : TickedValue → Ticked
ticked_of (value.StaysWide name) = StaysWide name
ticked_of (value.Moves name now changes) = Moves name now (answered changes.gained) (answered changes.lost)

-- this is found of the watch: gained is what the answer now has and the base hasn't, lost is what the base has and the answer
-- now hasn't
abbrev pub IsTicked : Graph → ℕ → PlainWatch → Ticked → Type 0
IsTicked g limit w (StaysWide name) = (w.name ≡ name) × IsTooWide g limit w.query
IsTicked g limit w (Moves name now gained lost) = (w.name ≡ name) × HasAnswer g limit w.query now × IsRest now w.base gained × IsRest w.base now lost

-- so it is of each watch in order
abbrev pub AreTicked : Graph → ℕ → List PlainWatch → List Ticked → Type 0
AreTicked g limit [] [] = Unit {0}
AreTicked g limit [] (x ∷ xs) = ⊥
AreTicked g limit (w ∷ ws) [] = ⊥
AreTicked g limit (w ∷ ws) (x ∷ xs) = IsTicked g limit w x × AreTicked g limit ws xs

-- the answer of the watch of this name is found as its base has it, and so nothing is gained or lost
abbrev pub IsUnmoved : Word → Answered → Ticked → Type 0
IsUnmoved name answer (StaysWide other) = ⊥
IsUnmoved name answer (Moves other now gained lost) = (other ≡ name) × (now ≡ answer) × IsRest answer answer gained × IsRest answer answer lost

-- the watch is too wide
abbrev pub stays_wide : Ticked → Bool
stays_wide (StaysWide name) = true
stays_wide (Moves name now gained lost) = false

-- some watch is
abbrev pub some_wide : List Ticked → Bool
some_wide found = list_any stays_wide found

-- the watch after the tick: its base is the answer now, and it is fresh; or its base stays where the query is too wide, and it isn't
abbrev pub moved : PlainWatch → Ticked → PlainWatch
moved w (StaysWide name) = record w { fresh = false }
moved w (Moves name now gained lost) = record w { base = now; fresh = true }

-- a watch that stands, after the tick: the answer now is its base, and is kept; or no answer is kept
abbrev pub settled : Watch → Ticked → Watch
settled w (StaysWide name) = record w { now = None }
settled w (Moves name now gained lost) = record w { base = now; now = Some now }

-- the watches that stand, of which the one at a place was found so
abbrev pub settled_at : ℕ → Ticked → List Watch → List Watch
settled_at place found watches = changed_at watches place (λ w. settled w found)

-- all of them after it
abbrev pub all_settled : List Watch → List Ticked → List Watch
all_settled [] xs = []
all_settled (w ∷ ws) [] = w ∷ ws
all_settled (w ∷ ws) (x ∷ xs) = settled w x ∷ all_settled ws xs

-- all watches after it
abbrev pub all_moved : List PlainWatch → List Ticked → List PlainWatch
all_moved [] xs = []
all_moved (w ∷ ws) [] = w ∷ ws
all_moved (w ∷ ws) (x ∷ xs) = moved w x ∷ all_moved ws xs
