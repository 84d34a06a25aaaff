use Rattle.std.proofs.Common.{◌≡◌, take}
use Rattle.itpg_base.specs.Lists.{Among}
use Rattle.source_rows.specs.Follows.{Follow}
use Rattle.source_rows.proofs.follows.Follows.find.Given as goal

abbrev pub invariant-loop-place : goal.invariant-loop-place
invariant-loop-place l = (k : Follow) → Among (take l.place l.follow-items) k → k.name ≡ l.name → ⊥
