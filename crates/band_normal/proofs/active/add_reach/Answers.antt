use Rattle.std.proofs.Common.{SFits, w64, rules, to_z-of_z}
use Rattle.band_normal.proofs.active.add_reach.Goals as goal

pub returns : goal.returns
returns c =
    let to : SFits w64 c.args.band.to = search rules in
    record {
      reach = c.reach_of.result;
      begins = c.reach_of.ensures.low;
      low = c.reach_of.ensures.low_end;
      high = c.reach_of.ensures.high_end;
      front = c.cut_to.ensures.front;
      to = simp to_z-of_z at c.cut_to.ensures.last;
      is = c.in_ok-push.ensures.items;
    }
