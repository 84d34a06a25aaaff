use Rattle.std.proofs.Common.{rules}
use Rattle.zone_core.proofs.ReadBack.{max_back, min_back}
use Rattle.zone_compose.proofs.MiddleMoment.{shared-is}
use Rattle.zone_compose.proofs.shared.Goals as goal

pub returns : goal.returns
returns c = shared-is c.args.x c.args.y _ _
    (max_back c.args.x.c c.args.y.a c.max.result (search rules) (search rules) (search rules) c.max.ensures.value)
    (min_back c.args.x.d c.args.y.b c.min.result (search rules) (search rules) (search rules) c.min.ensures.value)
