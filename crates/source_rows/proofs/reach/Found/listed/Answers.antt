use Rattle.source_rows.proofs.Gaining.{keys_all}
use Rattle.source_rows.proofs.reach.Found.listed.Goals as goal

pub returns : goal.returns
returns c =
    keys_all (record { seen = c.self.inside.seen; fresh = c.self.inside.fresh.items }) c.args.self.now c.loop-number.objects.items c.loop-number.number-iterator
    c.self.view_is c.iter-number-items.ensures.ordered (c.in-None.ensures.steps.0) c.loop-number.invariant
