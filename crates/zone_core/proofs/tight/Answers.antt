use Rattle.std.proofs.Common.{sym, true≢false}
use Rattle.zone_core.proofs.Tighten.{zone_of_disorder}
use Rattle.zone_core.proofs.tight.Goals as goal

pub returns-else-is_in_order : goal.returns-else-is_in_order
returns-else-is_in_order c =
    zone_of_disorder _ _ c.tightened-drawn_in.ensures.pairs (λ order. true≢false (sym (c.if-is_in_order.ensures.1 order)))
