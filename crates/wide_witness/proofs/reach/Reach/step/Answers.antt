use Rattle.std.proofs.Common.{◌∙◌, ◌++◌, List, ap}
use Rattle.relation_rows.specs.declared.times.OneRow.{OneRow}
use Rattle.wide_witness.proofs.Walking.{step_reached}
use Rattle.wide_witness.proofs.reach.Reach.step.Goals as goal

pub returns : goal.returns
returns c = λ from n r.
    step_reached c.args.x.now from n c.args.self.now.all.items c.args.self.now.newest.items c.in_ok-added.added.items _ c.in_ok-added.ensures
    (c.in_ok-extend_from_slice.ensures.items ∙ ap (λ (v : List OneRow). c.args.self.now.all.items ++ v) c.deref.ensures.value)
    r
