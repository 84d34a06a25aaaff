use Rattle.std.proofs.Common.{ap, subst}
use Rattle.itpg_run.specs.Served.{Served}
use Rattle.itpg_run.specs.Out.{Mode}
use Rattle.itpg_run.proofs.Begins.{asked_mode, nothing_served, nothing_tried}
use Rattle.itpg_run.proofs.run.serve.Goals as goal

pub returns-in-None-clause-served : goal.returns-in-None-clause-served
returns-in-None-clause-served g c = λ mode asks.
    let one = c.law_of_one_reading.ensures _ _ _ c.in-Ok.ensures.options asks in
    let same = asked_mode mode c.form_of-form.result c.in-Ok.options c.form_of-form.ensures one in
    subst (λ (m : Mode). Served c.run_script.result m (g.S.Source.left c.args.source.now) (g.S.Source.left c.run_script.new.source) (g.K.Sink.held c.args.sink.now) (g.K.Sink.held c.run_script.new.sink)) same c.run_script.ensures.served

pub returns-in-Err-Usage-clause-served : goal.returns-in-Err-Usage-clause-served
returns-in-Err-Usage-clause-served g c = λ mode asks. absurd (c.in-Err-Usage.ensures.usage (cc) _ asks)

pub returns-in-Err-Usage-clause-usage : goal.returns-in-Err-Usage-clause-usage
returns-in-Err-Usage-clause-usage g c = λ is asks. c.in-Err-Usage.ensures.usage (cc) _ asks.1

pub returns-in-Err-Usage-clause-complete : goal.returns-in-Err-Usage-clause-complete
returns-in-Err-Usage-clause-complete g c = λ asks. absurd (c.in-Err-Usage.ensures.usage (cc) _ asks.1)

pub returns-in-Err-Memory-clause-served : goal.returns-in-Err-Memory-clause-served
returns-in-Err-Memory-clause-served g c = λ mode asks. nothing_served mode _ _

pub returns-in-Err-Usage-clause-tried : goal.returns-in-Err-Usage-clause-tried
returns-in-Err-Usage-clause-tried g c = λ limit number asks. absurd (c.in-Err-Usage.ensures.usage (cc) _ asks.1)

pub returns-in-Err-Memory-clause-tried : goal.returns-in-Err-Memory-clause-tried
returns-in-Err-Memory-clause-tried g c = λ limit number asks. nothing_tried limit number _ _
