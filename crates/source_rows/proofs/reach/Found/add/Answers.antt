use Rattle.source_rows.proofs.Gaining.{gains_pushed}
use Rattle.source_rows.proofs.reach.Found.add.Goals as goal

pub returns-in_ok-push : goal.returns-in_ok-push
returns-in_ok-push c =
    gains_pushed (record { seen = c.self.inside.seen; fresh = c.self.inside.fresh.items }) c.args.self.now c.insert.new.self c.push.new.self.items c.args.object
    c.self.view_is (c.in_ok-push.ensures.items) (c.in_ok-insert.ensures.updates)
