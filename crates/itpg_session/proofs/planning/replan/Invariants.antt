use Rattle.std.proofs.Common.{◌≡◌, take}
use Rattle.itpg_session.specs.Planning.{with_plans}
use Rattle.itpg_session.proofs.planning.replan.Given as goal

abbrev pub invariant-loop-place : goal.invariant-loop-place
invariant-loop-place l = l.watches ≡ with_plans (take l.place l.numbers) l.initial.watches
