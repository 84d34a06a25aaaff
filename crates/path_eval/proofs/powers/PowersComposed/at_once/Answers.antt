use Rattle.path_eval.proofs.AtOnce.{one_same, steps_inside, along_is, along_fits}
use Rattle.path_eval.proofs.powers.PowersComposed.at_once.Goals as goal

pub along_time-requires-clause-same : goal.along_time-requires-clause-same
along_time-requires-clause-same c =
    let s = c.args.self.now in
    one_same s.ground.now.graph.now s.passed.now c.args.one.now c.args.x.now c.requires.neutral c.requires.own_x

pub along_time-requires-clause-inside : goal.along_time-requires-clause-inside
along_time-requires-clause-inside c =
    let s = c.args.self.now in
    steps_inside s.ground.now.graph.now s.passed.now c.args.one.now c.args.x.now c.requires.neutral c.requires.own_x

pub returns-then-is_some-clause-value : goal.returns-then-is_some-clause-value
returns-then-is_some-clause-value c =
    let s = c.args.self.now in
    along_is s.ground.now.graph.now s.passed.now c.args.one.now c.args.x.now c.requires.neutral c.requires.own_x c.args.n c.in_ok-along.along c.in_ok-along.ensures.made

pub returns-then-is_some-clause-each_fits : goal.returns-then-is_some-clause-each_fits
returns-then-is_some-clause-each_fits c =
    let s = c.args.self.now in
    along_fits s.ground.now.graph.now s.passed.now c.args.one.now c.args.x.now c.requires.neutral c.requires.own_x s.ground.now.max_rows c.in_ok-along.along c.in_ok-along.ensures.fits

pub source_by_source-requires : goal.source_by_source-requires
source_by_source-requires c =
    let s = c.args.self.now in
    one_same s.ground.now.graph.now s.passed.now c.args.one.now c.args.x.now c.requires.neutral c.requires.own_x

pub returns-clause-value : goal.returns-clause-value
returns-clause-value c =
    let s = c.args.self.now in
    along_is s.ground.now.graph.now s.passed.now c.args.one.now c.args.x.now c.requires.neutral c.requires.own_x c.args.n c.in_ok-all.all c.in_ok-all.ensures.made

pub returns-clause-each_fits : goal.returns-clause-each_fits
returns-clause-each_fits c =
    let s = c.args.self.now in
    along_fits s.ground.now.graph.now s.passed.now c.args.one.now c.args.x.now c.requires.neutral c.requires.own_x s.ground.now.max_rows c.in_ok-all.all c.in_ok-all.ensures.fits
