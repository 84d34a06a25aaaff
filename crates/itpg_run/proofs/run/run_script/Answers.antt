use Rattle.std.proofs.Common.{Err, ap, subst, arith}
use Rattle.itpg_run.specs.Fed.{Ends}
use Rattle.itpg_run.proofs.Pumped.{begins, finished, ends_well, never_usage}
use Rattle.itpg_run.specs.Out.{mode_at}
use Rattle.itpg_run.proofs.Begins.{served_each}
use Rattle.itpg_run.proofs.run.run_script.Goals as goal

pub returns-in-Err-clause-served : goal.returns-in-Err-clause-served
returns-in-Err-clause-served g c = c.in-Err.ensures.stopped (mode_at c.args.form c.args.limits) _ (begins (mode_at c.args.form c.args.limits) _ _ c.new-reader.ensures.form c.new-reader.ensures.session c.new-reader.ensures.number c.new-reader.ensures.line c.new-reader.ensures.failing)

pub returns-in-Ok-clause-served : goal.returns-in-Ok-clause-served
returns-in-Ok-clause-served g c =
    let p = c.in-Ok.ensures.ended (mode_at c.args.form c.args.limits) _ (begins (mode_at c.args.form c.args.limits) (g.K.Sink.held c.args.sink.now) _ c.new-reader.ensures.form c.new-reader.ensures.session c.new-reader.ensures.number c.new-reader.ensures.line c.new-reader.ensures.failing) in
    finished (mode_at c.args.form c.args.limits) c.finish-status.result _ _ _ (g.K.Sink.held c.pump.new.sink) _ c.pump.new.reader p (c.finish-status.ensures.ends (mode_at c.args.form c.args.limits) _ p.bytes p.fed)

pub returns-in-Err-clause-each : goal.returns-in-Err-clause-each
returns-in-Err-clause-each g c = served_each (record { one = c.law_of_replies.ensures.one; some = c.law_of_replies.ensures.some; good = c.law_of_replies.ensures.good; opening = c.law_of_replies.ensures.opening }) (mode_at c.args.form c.args.limits) c.in-Err.status _ (g.S.Source.left c.pump.new.source) _ _ (returns-in-Err-clause-served g c)

pub returns-in-Ok-clause-each : goal.returns-in-Ok-clause-each
returns-in-Ok-clause-each g c = served_each (record { one = c.law_of_replies.ensures.one; some = c.law_of_replies.ensures.some; good = c.law_of_replies.ensures.good; opening = c.law_of_replies.ensures.opening }) (mode_at c.args.form c.args.limits) c.finish-status.result _ (g.S.Source.left c.pump.new.source) _ _ (returns-in-Ok-clause-served g c)

pub returns-in-Ok-clause-read : goal.returns-in-Ok-clause-read
returns-in-Ok-clause-read g c = λ is.
    let p = c.in-Ok.ensures.ended (mode_at c.args.form c.args.limits) _ (begins (mode_at c.args.form c.args.limits) (g.K.Sink.held c.args.sink.now) _ c.new-reader.ensures.form c.new-reader.ensures.session c.new-reader.ensures.number c.new-reader.ensures.line c.new-reader.ensures.failing) in
    absurd (subst (λ t. Ends t (mode_at c.args.form c.args.limits) (g.K.Sink.held c.args.sink.now) (g.K.Sink.held c.finish-status.new.out) p.bytes) is (c.finish-status.ensures.ends (mode_at c.args.form c.args.limits) _ p.bytes p.fed))

pub returns-in-Err-clause-complete : goal.returns-in-Err-clause-complete
returns-in-Err-clause-complete g c = ends_well (mode_at c.args.form c.args.limits) c.in-Err.status _ _ _ _ _ _ (returns-in-Err-clause-served g c) (λ is. c.in-Err.ensures.read (ap Err is)) (λ is. c.in-Err.ensures.write (ap Err is))

pub returns-in-Ok-clause-complete : goal.returns-in-Ok-clause-complete
returns-in-Ok-clause-complete g c = ends_well (mode_at c.args.form c.args.limits) c.finish-status.result _ _ _ _ _ _ (returns-in-Ok-clause-served g c) (returns-in-Ok-clause-read g c) (λ is. let rose = c.finish-status.ensures.rose is in omega (arith, rose, c.pump.ensures.later))

pub returns-in-Err-clause-usage : goal.returns-in-Err-clause-usage
returns-in-Err-clause-usage g c = λ is. never_usage _ c.in-Err.status _ (g.S.Source.left c.pump.new.source) _ _ is (returns-in-Err-clause-served g c)

pub returns-in-Ok-clause-usage : goal.returns-in-Ok-clause-usage
returns-in-Ok-clause-usage g c = λ is. never_usage _ c.finish-status.result _ (g.S.Source.left c.pump.new.source) _ _ is (returns-in-Ok-clause-served g c)
