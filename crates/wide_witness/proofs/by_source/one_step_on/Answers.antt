use Rattle.std.proofs.Common.{◌≡◌, IfSome, List, Ok, Option, Result, subst}
use Rattle.relation_rows.specs.Answers.{Gives}
use Rattle.relation_rows.specs.Relations.{EitherHolds, HasMiddlePoint}
use Rattle.relation_rows.specs.declared.rows.RelFault.{RelFault}
use Rattle.relation_rows.specs.declared.rows.Row.{Row}
use Rattle.wide_witness.proofs.Closing.{fresh_on, leads_on}
use Rattle.wide_witness.proofs.by_source.one_step_on.Goals as goal

pub returns-clause-all : goal.returns-clause-all
returns-clause-all c =
    let first = subst (λ (v : Option (List Row)). IfSome v (λ rows. c.behind.result ≡ Ok rows)) c.in-Some-2.is c.in_ok-made.ensures in
    let made = subst (λ (v : Result (List Row) RelFault). Gives v (HasMiddlePoint c.args.newest.now c.args.onward.now) c.args.max_rows) first c.behind.ensures in
    let then = subst (λ (v : Option (List Row)). IfSome v (λ rows. c.union.result ≡ Ok rows)) c.in-Some-3.is c.in_ok-all-2.ensures in
    let all = subst (λ (v : Result (List Row) RelFault). Gives v (EitherHolds c.args.known.now c.in_ok-fresh-2.fresh) c.args.max_rows) then c.union.ensures in
    leads_on c.args.known.now c.args.newest.now c.args.onward.now c.in-Some-2.made c.in_ok-fresh-2.fresh c.in-Some-3.all made.0 c.in_ok-fresh-2.ensures all.0

pub returns-clause-fresh : goal.returns-clause-fresh
returns-clause-fresh c =
    let first = subst (λ (v : Option (List Row)). IfSome v (λ rows. c.behind.result ≡ Ok rows)) c.in-Some-2.is c.in_ok-made.ensures in
    let made = subst (λ (v : Result (List Row) RelFault). Gives v (HasMiddlePoint c.args.newest.now c.args.onward.now) c.args.max_rows) first c.behind.ensures in
    let then = subst (λ (v : Option (List Row)). IfSome v (λ rows. c.union.result ≡ Ok rows)) c.in-Some-3.is c.in_ok-all-2.ensures in
    let all = subst (λ (v : Result (List Row) RelFault). Gives v (EitherHolds c.args.known.now c.in_ok-fresh-2.fresh) c.args.max_rows) then c.union.ensures in
    fresh_on c.args.known.now c.args.newest.now c.args.onward.now c.in-Some-2.made c.in_ok-fresh-2.fresh c.in-Some-3.all made.0 c.in_ok-fresh-2.ensures all.0
