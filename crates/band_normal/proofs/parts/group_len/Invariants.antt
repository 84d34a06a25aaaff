use Rattle.std.proofs.Common.{◌≤ℤ◌, take}
use Rattle.zone_core.specs.declared.Bounds.{Bounds}
use Rattle.zone_core.specs.Zone.{Within, difference_reach}
use Rattle.itpg_base.specs.Lists.{Among}
use Rattle.band_normal.specs.Parts.{end_of}
use Rattle.band_normal.proofs.parts.group_len.Given as goal

abbrev pub invariant-loop-i : goal.invariant-loop-i
invariant-loop-i l = record {
  near : Within difference_reach l.reach;
  reached : (x : Bounds) → Among (take l.i l.zones) x → end_of l.measure x ≤ℤ l.reach;
}
