use Rattle.std.proofs.Common.{◌≡◌, take}
use Rattle.itpg_base.specs.Lists.{Among}
use Rattle.standing_queries.specs.declared.kept.Kept.{Kept}
use Rattle.standing_queries.proofs.watches.Watches.find.Given as goal

abbrev pub invariant-loop-place : goal.invariant-loop-place
invariant-loop-place l = (k : Kept) → Among (take l.place l.kept-items) k → k.name ≡ l.name → ⊥
