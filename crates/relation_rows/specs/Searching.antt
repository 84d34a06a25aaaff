-- Tests of a row's source and target.
use Rattle.std.specs.Prelude.{◌==◌, ◌&&◌, ◌||◌, nat_lt, Bool, ℕ, List}
use Rattle.itpg_base.specs.Lists.{Among, Ordered}
use Rattle.relation_rows.specs.declared.rows.Row.{Row}
use Rattle.relation_rows.specs.Rows.{RowBefore}

-- of the rows, those are kept whose source and target are so, in their order
pub record AreKept (So : ℕ → ℕ → Type 0) (rows kept : List Row) : Type 0 where
  pub there : (r : Row) → Among kept r → Among rows r
  pub so : (r : Row) → Among kept r → So r.source.0 r.target.0
  pub whole : (r : Row) → Among rows r → So r.source.0 r.target.0 → Among kept r
  pub order : Ordered RowBefore kept

-- the row's source and target come before these
abbrev pub comes_before : Row → ℕ → ℕ → Bool
comes_before r o p = nat_lt r.source.0 o || ((r.source.0 == o) && nat_lt r.target.0 p)

-- the row has these
abbrev pub has_key : Row → ℕ → ℕ → Bool
has_key r o p = (r.source.0 == o) && (r.target.0 == p)
