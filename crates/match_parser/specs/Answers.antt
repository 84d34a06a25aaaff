-- What the reader answers where it gives no query.
use Rattle.std.specs.Prelude.{ℕ, List}
use Rattle.match_parser.specs.declared.fault.QueryFault.{QueryFault}
use Rattle.match_parser.specs.declared.fault.QueryFault.TheVariants.{Memory, Bad}
use Rattle.match_parser.specs.Reading.{FaultOf}

-- the text's first fault, or that memory ran out
abbrev pub IsQueryFault : List ℕ → QueryFault → Type 0
IsQueryFault text Memory = Unit {0}
IsQueryFault text (Bad code) = FaultOf text code
