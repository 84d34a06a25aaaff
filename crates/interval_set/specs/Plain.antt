-- A span as a run of no value.
use Rattle.std.specs.Prelude.{[]}
use Rattle.itpg_base.specs.Spans.{Span}
use Rattle.itpg_base.specs.Graphs.{Valued}

-- the run over the span whose value is the empty name
abbrev pub plain_run : Span → Valued
plain_run s = record { span = s; value = [] }
