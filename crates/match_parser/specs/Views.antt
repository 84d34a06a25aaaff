-- What the reader's patterns and chains stand for. No public clause names this.
use Rattle.std.specs.Prelude.{ℕ, List, Option, is_some}
use Rattle.path_ast.specs.declared.ast.Path.{Path}
use Rattle.path_ast.specs.Terms.{PathTerm, QueryTerm, path_term}
use Rattle.match_parser.specs.declared.patterns.Pattern.{Pattern}
use Rattle.match_parser.specs.declared.patterns.Chain.{Chain}
use Rattle.match_parser.specs.Parsing as reading

abbrev pub pattern_view : Pattern → reading.Pattern
pattern_view p = record { name = p.name; path = path_term p.path }

abbrev pub piece_view : Path × Pattern → PathTerm × reading.Pattern
piece_view x = (path_term x.0, pattern_view x.1)

abbrev pub chain_view : Chain → reading.Chain
chain_view c = record { path = path_term c.path; first = c.first; last = c.last; later = c.later; inner = c.inner }

abbrev pub query_view : Chain × Option (List ℕ) → reading.Chain × Option (List ℕ)
query_view x = (chain_view x.0, x.1)

-- the query of a chain
abbrev pub query_made : reading.Chain → Option (List ℕ) → QueryTerm
query_made c g = record { first = is_some c.first; last = is_some c.last; path = c.path; graph_name = g }
