use Rattle.band_normal.specs.Strips.{Holds}
use Rattle.band_normal.proofs.WellFormed.{strip-well_formed}
use Rattle.band_normal.proofs.LinkLemmas.{slot_formed, slot_follow}
use Rattle.band_normal.proofs.links.link_strip.Goals as goal

pub corner_to_continue-requires : goal.corner_to_continue-requires
corner_to_continue-requires g c = strip-well_formed (Holds g.held) c.args.strip c.requires.in_range c.requires.strip_runs

pub led-row-requires-clause-row_formed : goal.led-row-requires-clause-row_formed
led-row-requires-clause-row_formed g c = slot_formed (Holds g.held) _ _ _ _ _ _ c.requires c.deref.ensures.value c.row_at.ensures

pub led-row-requires-clause-strip_formed : goal.led-row-requires-clause-strip_formed
led-row-requires-clause-strip_formed g c = strip-well_formed (Holds g.held) c.args.strip c.requires.in_range c.requires.strip_runs

pub join_strip-joint-requires : goal.join_strip-joint-requires
join_strip-joint-requires g c = slot_follow (Holds g.held) _ _ _ _ _ _ _ c.requires c.deref.ensures.value c.row_at.ensures c.led-row.ensures.some c.led-row.ensures.found
