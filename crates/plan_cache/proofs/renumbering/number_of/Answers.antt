use Rattle.std.proofs.Common.{arith}
use Rattle.plan_cache.proofs.Moved.{number_got, number_behind}
use Rattle.plan_cache.proofs.renumbering.number_of.Goals as goal

pub returns-then-no-former : goal.returns-then-no-former
returns-then-no-former c = let test = c.if-no-former.true in number_behind c.args.former.now c.args.no.0 (omega arith)

pub returns : goal.returns
returns c = let test = c.if-no-former.false in number_got c.args.former.now c.args.no.0 _ (omega arith)
