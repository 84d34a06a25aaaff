use Rattle.std.proofs.Common.{List, Option, subst, arith}
use Rattle.std.specs.Prelude.{IfSome}
use Rattle.std.specs.Global.{Global}
use Rattle.std.specs.declared.vec.Vec.{Vec}
use Rattle.relation_rows.specs.declared.rows.Row.{Row}
use Rattle.relation_rows.specs.Rows.{NormalRows}
use Rattle.relation_rows.specs.Relations.{HasMiddlePoint}
use Rattle.relation_rows.specs.Direct.{AreItsRows}
use Rattle.relation_rows.proofs.DirectWays.{its_relation, its_wide, lone_formed}
use Rattle.relation_rows.proofs.HalfRows.{gives_all}
use Rattle.relation_rows.proofs.compose.of_sources.Goals as goal

pub by_zones-requires-clause-rows : goal.by_zones-requires-clause-rows
by_zones-requires-clause-rows c = lone_formed c.args.rows.now c.requires.rows

pub returns-then-len-room : goal.returns-then-len-room
returns-then-len-room c =
    let ways = subst (λ (v : Option (Vec Row Global)). IfSome v (λ ways. AreItsRows (HasMiddlePoint c.args.rows.now c.args.second.now) ways.items)) c.in-Some.is c.in_ok-ways.ensures in
    its_wide (HasMiddlePoint c.args.rows.now c.args.second.now) c.in-Some.ways.items c.args.room ways (omega arith)

pub returns : goal.returns
returns c =
    let ways = subst (λ (v : Option (Vec Row Global)). IfSome v (λ ways. AreItsRows (HasMiddlePoint c.args.rows.now c.args.second.now) ways.items)) c.in-Some.is c.in_ok-ways.ensures in
    (ways.normal, omega arith)

pub invariant_of-result : goal.invariant_of-result
invariant_of-result c =
    let ways = subst (λ (v : Option (Vec Row Global)). IfSome v (λ ways. AreItsRows (HasMiddlePoint c.args.rows.now c.args.second.now) ways.items)) c.in-Some.is c.in_ok-ways.ensures in
    its_relation (HasMiddlePoint c.args.rows.now c.args.second.now) c.in-Some.ways.items ways

pub by_runs-requires-clause-rows : goal.by_runs-requires-clause-rows
by_runs-requires-clause-rows c = lone_formed c.args.rows.now c.requires.rows

pub by_runs-requires-clause-second : goal.by_runs-requires-clause-second
by_runs-requires-clause-second c = c.requires.second.formed

pub returns-in_default : goal.returns-in_default
returns-in_default c =
    let R = HasMiddlePoint c.args.rows.now c.args.second.now in
    let n = subst (λ (v : Option (List Row)). IfSome v (λ all. NormalRows R all)) c.in-Some-2.is c.in_ok-all.ensures in
    gives_all R c.in-Some-2.all c.args.room c.within.result n c.within.ensures
