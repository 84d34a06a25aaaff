use Rattle.std.proofs.Common.{◌≡◌, ◌≤◌, ◌<◌, List, [], ◌∷◌, ◌++◌, length, slice_index_or, arith}
use Rattle.relation_rows.specs.declared.rows.Row.{Row}
use Rattle.relation_rows.proofs.union.push_rows.Goals as goal

lone_row : (more : List Row) (d : Row) (old new : List Row) → 1 ≤ length more → length more < 2 → new ≡ old ++ slice_index_or more 0 d ∷ [] → new ≡ old ++ more
lone_row (r ∷ []) d old new some few e = e
lone_row [] d old new some few e = absurd (omega arith)
lone_row (r ∷ s ∷ rs) d old new some few e = absurd (omega arith)

pub returns-in-len1 : goal.returns-in-len1
returns-in-len1 c = lone_row c.args.more.now _ c.args.rows.now.items c.push.new.self.items c.in-len1.len_at_least c.in-len1.len_below c.in_ok-push.ensures.items
