-- Runs where they are kept, in little room or not.
use Rattle.std.specs.Prelude.{ℤ, ◌≤◌, List, length}
use Rattle.itpg_base.specs.Words.{Word}
use Rattle.itpg_base.specs.Graphs.{Valued, RunsHave, AreRunsOfValues}
use Rattle.itpg_base.specs.declared.short_name.TheConstants.{MAX_SHORT}
use Rattle.interval_set.specs.declared.values.Runs.{Runs}
use Rattle.interval_set.specs.declared.values.Runs.TheVariants.{Short, Any}

-- the runs that are kept
abbrev pub runs_in : Runs → List Valued
runs_in (Short runs) = runs.items
runs_in (Any runs) = runs.items

-- each value is short
abbrev pub HaveShort : List Valued → Type 0
HaveShort runs = (t : ℤ) (value : Word) → RunsHave runs t value → length value ≤ MAX_SHORT

-- the runs are coalesced, and have short values where only these have room
abbrev pub AreKept : Runs → Type 0
AreKept (Short runs) = AreRunsOfValues runs.items × HaveShort runs.items
AreKept (Any runs) = AreRunsOfValues runs.items
