-- A sweep over one-time rows by their starts and ends.
use Rattle.std.specs.Prelude.{◌≡◌, ◌⊎◌, ℕ, ◌+◌, ◌<◌, ℤ, pos, ◌+ℤ◌, ◌≤ℤ◌, ◌<ℤ◌, int_le, Bool, true, false, List, [], ◌∷◌, ◌++◌, length, take, drop, slice_get, Some}
use Rattle.itpg_base.specs.Lists.{Among}
use Rattle.relation_rows.specs.declared.times.OneRow.{OneRow}
use Rattle.arrivals.specs.declared.counts.CountRow.{CountRow}

-- by first moment, and by last moment
abbrev pub StartsUpTo : OneRow → OneRow → Type 0
StartsUpTo r s = r.span.from ≤ℤ s.span.from

abbrev pub StopsUpTo : OneRow → OneRow → Type 0
StopsUpTo r s = r.span.to ≤ℤ s.span.to

-- the new rows are the old with the other behind them, if it has objects
abbrev pub WithSome : CountRow → List CountRow → List CountRow → Type 0
WithSome c old new = ((0 < c.number) × (new ≡ old ++ c ∷ [])) ⊎ ((c.number ≡ 0) × (new ≡ old))

-- the row begins by the moment after t; it ends by t
abbrev pub begins_by : OneRow → ℤ → Bool
begins_by r t = int_le r.span.from (t +ℤ pos 1)

abbrev pub begins_at : OneRow → ℤ → Bool
begins_at r t = int_le r.span.from t

abbrev pub ends_by : OneRow → ℤ → Bool
ends_by r t = int_le r.span.to t

-- the rest of the rows from a place on: those before it are so, those behind it aren't
pub record IsRest (so : OneRow → Bool) (rows rest : List OneRow) : Type 0 where
  pub place : ℕ
  pub is : rest ≡ drop place rows
  pub before : (r : OneRow) → Among (take place rows) r → so r ≡ true
  pub behind : (r : OneRow) → Among (drop place rows) r → so r ≡ false

-- no row that waits begins from the moment on to the end, and the row that stops first doesn't end before; but then one does
pub record IsStretchEnd (at : ℤ) (waiting : List OneRow) (stop : OneRow) (end : ℤ) : Type 0 where
  pub some : at ≤ℤ end
  pub waits : (r : OneRow) → Among waiting r → end <ℤ r.span.from
  pub stops : end ≤ℤ stop.span.to
  pub moves : (end ≡ stop.span.to) ⊎ ((r : OneRow) × (Some r ≡ slice_get waiting 0) × (r.span.from ≡ end +ℤ pos 1))

-- c is a stretch from the moment on, and its number that of the rows that end later without those that wait
pub record IsStretch (at : ℤ) (waiting ending : List OneRow) (stop : OneRow) (c : CountRow) : Type 0 where
  pub from : c.span.from ≡ at
  pub end : IsStretchEnd at waiting stop c.span.to
  pub number : c.number + length waiting ≡ length ending

-- the stretch that goes on: the last one made longer where the numbers are equal, else the next, with the last one done
abbrev pub Added : CountRow → CountRow → List CountRow → List CountRow → CountRow → Type 0
Added last next old new now =
    ((next.number ≡ last.number) × (new ≡ old) × (now.number ≡ last.number) × (now.span.from ≡ last.span.from) × (now.span.to ≡ next.span.to))
    ⊎ ((¬ (next.number ≡ last.number)) × WithSome last old new × (now ≡ next))
