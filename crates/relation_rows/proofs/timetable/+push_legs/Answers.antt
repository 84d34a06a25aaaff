use Rattle.std.proofs.Common.{List, ◌++◌, ◌∙◌, ap, arith}
use Rattle.relation_rows.specs.declared.rows.Row.{Row}
use Rattle.relation_rows.proofs.Reaching.{no_legs, legs_by_halves}
use Rattle.relation_rows.proofs.timetable.+push_legs.Goals as goal

pub returns-in_default : goal.returns-in_default
returns-in_default t c = no_legs c.args.rows.now c.args.legs.now.items (omega (arith, c.split_at.ensures.front_len, c.split_at.ensures.back_len, c.in_default.ensures.cases))

pub returns : goal.returns
returns t c =
    let pushed = c.in_ok-push.ensures.items in
    legs_by_halves c.args.rows.now c.split_at.result.0.now c.in-Some.behind.now c.in-Some.row.now
    (c.split_at.ensures.by_index.0 ∙ ap (λ (v : List Row). c.split_at.result.0.now ++ v) c.in-Some.ensures.cases.0) c.split_at.ensures.front_len
    c.reach_of.result c.reach_of.ensures c.args.legs.now.items c.push_legs.new.legs.items c.push.new.self.items c.push_legs-2.new.legs.items c.in_ok-push_legs.ensures pushed c.in_ok-push_legs-2.ensures
