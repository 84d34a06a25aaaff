use Rattle.std.proofs.Common.{sym, ◌∙◌}
use Rattle.relation_rows.proofs.Departing.{found_one}
use Rattle.relation_rows.proofs.timetable.push_found.Goals as goal

pub returns : goal.returns
returns c =
    let pushed = c.in_ok-push.ensures.items in
    found_one c.args.leg.now c.args.object.0 c.args.span.0 c.args.span.1 (sym c.departs_in.ensures ∙ c.if-not-departs_in.false) c.args.found.now.items c.push.new.self.items pushed
