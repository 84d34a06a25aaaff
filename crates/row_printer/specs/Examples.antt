-- Rows on a graph of two nodes, and rows of counts, whose lines are written out by hand.
use Rattle.std.specs.Prelude.{pos, neg_ℤ, [], ◌∷◌, None, Bool, true, false, codes}
use Rattle.itpg_base.specs.Words.{Word}
use Rattle.itpg_base.specs.Graphs.{Graph, Object}
use Rattle.band_normal.specs.declared.band.End.TheVariants.{Fixed, Moving}
use Rattle.relation_rows.specs.declared.rows.Row.{Row}
use Rattle.relation_rows.specs.declared.times.OneRow.{OneRow}
use Rattle.arrivals.specs.declared.counts.CountRow.{CountRow}

-- a node with this name, which stands or was dropped
abbrev pub node : Word → Bool → Object
node name standing = record { name = name; labels = []; ends = None; standing = standing; live = []; properties = [] }

-- a stands, and b was dropped
abbrev pub two_nodes : Graph
two_nodes = record { begun = None; objects = node (codes "a") true ∷ node (codes "b") false ∷ [] }

-- a from 0 to 20
abbrev pub a_for_a_while : OneRow
a_for_a_while = record { object = record { 0 = 0 }; span = record { from = pos 0; to = pos 20 } }

-- b from 5 to 30
abbrev pub b_for_a_while : OneRow
b_for_a_while = record { object = record { 0 = 1 }; span = record { from = pos 5; to = pos 30 } }

-- from a to b: departures from 0 to 8, and arrivals from the departure to 12 moments later
abbrev pub a_to_b : Row
a_to_b = record { source = record { 0 = 0 }; target = record { 0 = 1 }; band = record { from = pos 0; to = pos 8; low = Moving (pos 0); high = Moving (pos 12) } }

-- from b to a: departures from -4 to -2, and arrivals from 2 moments before to 20
abbrev pub b_to_a : Row
b_to_a = record { source = record { 0 = 1 }; target = record { 0 = 0 }; band = record { from = neg_ℤ (pos 4); to = neg_ℤ (pos 2); low = Moving (neg_ℤ (pos 2)); high = Fixed (pos 20) } }

-- one object up to 4
abbrev pub one_at_first : CountRow
one_at_first = record { span = record { from = neg_ℤ (pos 4); to = pos 4 }; number = 1 }

-- twelve objects from 5 to 20
abbrev pub twelve_then : CountRow
twelve_then = record { span = record { from = pos 5; to = pos 20 }; number = 12 }
