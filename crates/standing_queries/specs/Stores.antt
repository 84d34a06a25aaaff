-- What is kept of the watches: their queries, and beside each the rest.
use Rattle.std.specs.Prelude.{◌≡◌, ◌≤◌, IfSome, IsTrue, List, length, map, option_map, Some}
use Rattle.std.specs.List.{zip}
use Rattle.itpg_base.specs.Lists.{Among, Ordered}
use Rattle.path_ast.specs.declared.ast.Query.{Query}
use Rattle.path_ast.specs.Terms.{query_term}
use Rattle.relation_rows.specs.Answered.{answered}
use Rattle.standing_queries.specs.Watches.{Watch, most_watches, MayBeWatched, IsOfKind, NamesDiffer}
use Rattle.standing_queries.specs.declared.kept.Kept.{Kept}

-- the watch of a query and of what is kept beside it
abbrev pub watch_of : Query × Kept → Watch
watch_of p = record { name = p.1.name; query = query_term p.0; plan = p.1.plan.0; foot = p.1.foot; base = answered p.1.base; now = option_map answered p.1.now }

abbrev pub watches_of : List Query → List Kept → List Watch
watches_of queries items = map watch_of (zip queries items)

-- the query may be watched, and both answers are of its kind
pub record IsSound (w : Watch) : Type 0 where
  pub asks : MayBeWatched w.query
  pub kind : IsOfKind w.query w.base
  pub kept_kind : IfSome w.now (IsOfKind w.query)

-- few watches, of different names, each sound
pub record AreSound (watches : List Watch) : Type 0 where
  pub few : length watches ≤ most_watches
  pub differ : Ordered NamesDiffer watches
  pub each : (w : Watch) → Among watches w → IsSound w

-- where it is marked so, the base is the kept answer
abbrev pub IsSettled : Kept → Type 0
IsSettled k = IsTrue k.settled → option_map answered k.now ≡ Some (answered k.base)

-- as many queries as there is kept beside them, sound watches, and right marks
pub record AreStored (queries : List Query) (items : List Kept) : Type 0 where
  pub paired : length queries ≡ length items
  pub sound : AreSound (watches_of queries items)
  pub settled : (k : Kept) → Among items k → IsSettled k
