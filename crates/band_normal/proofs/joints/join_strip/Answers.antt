use Rattle.std.proofs.Common.{Option, subst}
use Rattle.std.specs.Option.{option_to_list}
use Rattle.band_normal.specs.declared.band.Band.{Band}
use Rattle.band_normal.specs.Strips.{Holds}
use Rattle.band_normal.specs.Rows.{CanFollow}
use Rattle.band_normal.proofs.WellFormed.{strip-well_formed}
use Rattle.band_normal.proofs.joints.join_strip.Goals as goal

pub alone-requires : goal.alone-requires
alone-requires g c = strip-well_formed (Holds g.held) c.args.strip c.requires.in_range c.requires.strip_runs

pub prolonged-requires : goal.prolonged-requires
prolonged-requires g c = subst (λ (v : Option Band). CanFollow (Holds g.held) (option_to_list v) c.args.strip) c.in-Some.is c.requires
