use Rattle.std.proofs.Common.{refl, inl, SFits, w64, rules, arith, to_z-of_z, pos, ◌+ℤ◌}
use Rattle.std.proofs.lemmas.Int.{ints}
use Rattle.band_normal.specs.Strips.{Holds}
use Rattle.band_normal.proofs.WellFormed.{strip-well_formed}
use Rattle.band_normal.proofs.Prolonging.{longer_fits, closed_joint, whole_joint, part_joint, rest-formed, longer_than_one, not_true}
use Rattle.band_normal.proofs.joints.prolonged.Goals as goal

pub grown-longer-requires-clause-row_formed : goal.grown-longer-requires-clause-row_formed
grown-longer-requires-clause-row_formed g c = strip-well_formed (Holds g.held) c.args.row c.requires.in_range (c.requires.row_so_far c.args.row (inl refl)).strip

pub grown-longer-requires-clause-strip_formed : goal.grown-longer-requires-clause-strip_formed
grown-longer-requires-clause-strip_formed g c = strip-well_formed (Holds g.held) c.args.strip c.requires.in_range c.requires.strip_runs

pub meets-requires-clause-low_fits : goal.meets-requires-clause-low_fits
meets-requires-clause-low_fits g c = (longer_fits (Holds g.held) c.args.row c.args.strip c.grown-longer.result (c.requires.row_so_far c.args.row (inl refl)) c.requires.strip_runs (c.requires.continues c.args.row (inl refl)) c.grown-longer.ensures
    (strip-well_formed (Holds g.held) c.args.row c.requires.in_range (c.requires.row_so_far c.args.row (inl refl)).strip) (strip-well_formed (Holds g.held) c.args.strip c.requires.in_range c.requires.strip_runs)).0

pub meets-requires-clause-high_fits : goal.meets-requires-clause-high_fits
meets-requires-clause-high_fits g c = (longer_fits (Holds g.held) c.args.row c.args.strip c.grown-longer.result (c.requires.row_so_far c.args.row (inl refl)) c.requires.strip_runs (c.requires.continues c.args.row (inl refl)) c.grown-longer.ensures
    (strip-well_formed (Holds g.held) c.args.row c.requires.in_range (c.requires.row_so_far c.args.row (inl refl)).strip) (strip-well_formed (Holds g.held) c.args.strip c.requires.in_range c.requires.strip_runs)).1

pub meets-requires-clause-strip_formed : goal.meets-requires-clause-strip_formed
meets-requires-clause-strip_formed g c = strip-well_formed (Holds g.held) c.args.strip c.requires.in_range c.requires.strip_runs

pub alone-requires : goal.alone-requires
alone-requires g c = strip-well_formed (Holds g.held) c.args.strip c.requires.in_range c.requires.strip_runs

pub returns-then-not-meets : goal.returns-then-not-meets
returns-then-not-meets g c = closed_joint (Holds g.held) c.args.row c.args.strip c.grown-longer.result (c.requires.row_so_far c.args.row (inl refl)) c.requires.strip_runs (c.requires.continues c.args.row (inl refl)) c.grown-longer.ensures c.alone.result (not_true c.if-not-meets.ensures) c.alone.ensures

pub grown-longer-requires-clause-continues : goal.grown-longer-requires-clause-continues
grown-longer-requires-clause-continues g c = c.requires.continues c.args.row (inl refl)

pub returns-then-moves_alike : goal.returns-then-moves_alike
returns-then-moves_alike g c =
    let to : SFits w64 c.args.strip.to = search rules in
    whole_joint (Holds g.held) c.args.row c.args.strip c.grown-longer.result (c.requires.row_so_far c.args.row (inl refl)) c.requires.strip_runs (c.requires.continues c.args.row (inl refl)) c.grown-longer.ensures _ (c.if-not-meets.ensures.0 refl) (c.if-moves_alike.ensures.0 refl)
    c.grown-longer.ensures.from (to_z-of_z to) refl refl

pub overflow_add-rest : goal.overflow_add-rest
overflow_add-rest g c =
    let formed = strip-well_formed (Holds g.held) c.args.strip c.requires.in_range c.requires.strip_runs in
    let first = formed.from in
    omega (arith, ints)

pub alone-requires-2 : goal.alone-requires-2
alone-requires-2 g c =
    let formed = strip-well_formed (Holds g.held) c.args.strip c.requires.in_range c.requires.strip_runs in
    let long = longer_than_one c.args.strip c.requires.strip_runs.span c.if-moves_alike.ensures in
    let first = formed.from in let last = formed.to in
    let from : SFits w64 c.args.strip.from = search rules in
    let next : SFits w64 (c.args.strip.from +ℤ pos 1) = omega (arith, ints) in
    rest-formed c.args.strip _ formed long (record { from = omega (arith, ints); to = refl; low = refl; high = refl })

pub returns : goal.returns
returns g c =
    let formed = strip-well_formed (Holds g.held) c.args.strip c.requires.in_range c.requires.strip_runs in
    let long = longer_than_one c.args.strip c.requires.strip_runs.span c.if-moves_alike.ensures in
    let first = formed.from in let last = formed.to in
    let from : SFits w64 c.args.strip.from = search rules in
    let next : SFits w64 (c.args.strip.from +ℤ pos 1) = omega (arith, ints) in
    part_joint (Holds g.held) c.args.row c.args.strip c.grown-longer.result (c.requires.row_so_far c.args.row (inl refl)) c.requires.strip_runs (c.requires.continues c.args.row (inl refl)) c.grown-longer.ensures _ c.alone-2.result (c.if-not-meets.ensures.0 refl) (not_true c.if-moves_alike.ensures)
    (record { from = omega (arith, ints); to = refl; low = refl; high = refl }) c.alone-2.ensures
