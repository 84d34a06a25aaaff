-- How many objects there are, moment by moment.
use Rattle.std.specs.Prelude.{◌≡◌, ℕ, ◌<◌, ◌≤◌, ℤ, pos, ◌+ℤ◌, ◌<ℤ◌, List, length, Result, Ok, Err}
use Rattle.itpg_base.specs.Spans.{Within, IsSpan}
use Rattle.itpg_base.specs.Lists.{Among, Ordered}
use Rattle.relation_rows.specs.declared.rows.RelFault.{RelFault}
use Rattle.relation_rows.specs.declared.rows.RelFault.TheVariants.{Memory, Wide}
use Rattle.arrivals.specs.declared.counts.CountRow.{CountRow}

-- exactly n objects are in the set: some rising list has these and no others, and is so long
pub record HasSize (S : ℕ → Type 0) (n : ℕ) : Type 0 where
  pub members : List ℕ
  pub rise : Ordered (λ (o p : ℕ). o < p) members
  pub each : (o : ℕ) → Among members o → S o
  pub whole : (o : ℕ) → S o → Among members o
  pub size : length members ≡ n

-- one after the other, and where they touch with other numbers
pub record CountBefore (c d : CountRow) : Type 0 where
  pub later : c.span.to <ℤ d.span.from
  pub other : (d.span.from ≡ c.span.to +ℤ pos 1) → ¬ (c.number ≡ d.number)

-- the row's span has the moment, for some row of the list
abbrev pub SomeCount : List CountRow → ℤ → Type 0
SomeCount rows t = (c : CountRow) × Among rows c × Within t c.span

-- at each moment of a row so many objects are there, and at no other moment any; and no two rows could be one
pub record AreCounts (S : ℕ → ℤ → Type 0) (rows : List CountRow) : Type 0 where
  pub spans : (c : CountRow) → Among rows c → IsSpan c.span
  pub some : (c : CountRow) → Among rows c → 0 < c.number
  pub each : (c : CountRow) (t : ℤ) → Among rows c → Within t c.span → HasSize (λ o. S o t) c.number
  pub whole : (o : ℕ) (t : ℤ) → S o t → SomeCount rows t
  pub order : Ordered CountBefore rows

-- the counts of the set, at most as many as the limit; `Wide` where there are more; want of memory is free
abbrev pub GivesCounts : Result (List CountRow) RelFault → (ℕ → ℤ → Type 0) → ℕ → Type 0
GivesCounts (Ok rows) S limit = AreCounts S rows × (length rows ≤ limit)
GivesCounts (Err Memory) S limit = Unit {0}
GivesCounts (Err Wide) S limit = (rows : List CountRow) → AreCounts S rows → limit < length rows
