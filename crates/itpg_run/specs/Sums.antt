-- The sum of an answer.
use Rattle.std.specs.Prelude.{ℕ, ◌^◌, ℤ, pos, ◌+ℤ◌, List, [], ◌∷◌, unsigned_abs}
use Rattle.std.specs.Int.{int_rem_euclid}
use Rattle.band_normal.specs.declared.band.Band.{Band}
use Rattle.band_normal.specs.Bands.{end_at}
use Rattle.relation_rows.specs.declared.rows.Row.{Row}
use Rattle.relation_rows.specs.declared.times.OneRow.{OneRow}
use Rattle.relation_rows.specs.Answered.{Answered, pairs, times}

-- what each element stands for, added up
unfoldable pub total : {X : Type 0} → (X → ℤ) → List X → ℤ
total value [] = pos 0
total value (x ∷ xs) = value x +ℤ total value xs

-- a row of one time: its first and its last moment
abbrev pub times_value : OneRow → ℤ
times_value r = r.span.from +ℤ r.span.to

-- a band: its first and its last departure, its low end at the first, and its high end at the last
abbrev pub band_value : Band → ℤ
band_value b = b.from +ℤ b.to +ℤ end_at b.low b.from +ℤ end_at b.high b.to

-- a row of two times
abbrev pub pair_value : Row → ℤ
pair_value r = band_value r.band

-- what is left of a whole number modulo 2^64
unfoldable pub residue : ℤ → ℕ
residue z = unsigned_abs (int_rem_euclid z (pos (2 ^ 64)))

-- what the rows of an answer stand for, added up modulo 2^64
abbrev pub answer_sum : Answered → ℕ
answer_sum (pairs rows) = residue (total pair_value rows)
answer_sum (times rows) = residue (total times_value rows)
