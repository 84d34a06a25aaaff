use Rattle.std.proofs.Common.{◌≡◌, ◌∷◌, length, ap, sym, subst, arith}
use Rattle.std.proofs.KnownBytes.{Keeps-refl}
use Rattle.std.proofs.lemmas.Result.{err_from_is_err_and}
use Rattle.row_printer.proofs.Saying.{on_err}
use Rattle.trial_script.specs.Script.{script}
use Rattle.itpg_run.specs.Underway.{Underway}
use Rattle.itpg_run.proofs.Telling.{Laws}
use Rattle.itpg_run.proofs.Length.{few_lines}
use Rattle.itpg_run.proofs.Underway.{underway_first, underway_more, underway_last, stops, stops_whole, told_whole, told_at, taken_none, taken_some}
use Rattle.itpg_run.proofs.trial.run_trial.Goals as goal

pub loop-running-init : goal.loop-running-init
loop-running-init g c =
    let laws : Laws = record { one_asked = c.law_of_asked.ensures.one; some_asked = c.law_of_asked.ensures.some; one = c.law_of_replies.ensures.one; some = c.law_of_replies.ensures.some; good = c.law_of_replies.ensures.good; opening = c.law_of_replies.ensures.opening } in
    let ready = c.new-running.ensures in
    let held = g.K.Sink.held c.args.out.now in
    let count : length c.new-trial.result ≡ length (script c.args.number) = ap length c.new-trial.ensures in
    record {
      underway = subst (Underway c.args.limits c.args.number held held c.new-running.result) (sym c.new-trial.ensures) (underway_first laws c.args.limits c.args.number held c.new-running.result ready.session ready.question ready.wide);
      few = omega (arith, ready.question, count, few_lines c.args.number);
      later = omega arith;
    }

pub returns-in_err-line-clause-some : goal.returns-in_err-line-clause-some
returns-in_err-line-clause-some g c =
    let laws : Laws = record { one_asked = c.law_of_asked.ensures.one; some_asked = c.law_of_asked.ensures.some; one = c.law_of_replies.ensures.one; some = c.law_of_replies.ensures.some; good = c.law_of_replies.ensures.good; opening = c.law_of_replies.ensures.opening } in
    on_err _ _ (stops_whole laws c.args.limits c.args.number _ _ (g.K.Sink.held c.loop-running.out) c.loop-running.running c.loop-running.trial c.loop-running.invariant.underway (Keeps-refl _))

pub returns-in_err-take-clause-some : goal.returns-in_err-take-clause-some
returns-in_err-take-clause-some g c =
    let laws : Laws = record { one_asked = c.law_of_asked.ensures.one; some_asked = c.law_of_asked.ensures.some; one = c.law_of_replies.ensures.one; some = c.law_of_replies.ensures.some; good = c.law_of_replies.ensures.good; opening = c.law_of_replies.ensures.opening } in
    let taken = taken_some _ _ _ _ c.in-Some.is c.in_ok-line.ensures.taken in
    let value = c.deref.ensures.value in
    let split : c.loop-running.trial ≡ c.deref.result.now ∷ c.next_line.new.trial = cc in
    let underway = subst (Underway c.args.limits c.args.number (g.K.Sink.held c.args.out.now) (g.K.Sink.held c.loop-running.out) c.loop-running.running) split c.loop-running.invariant.underway in
    on_err _ _ (stops laws _ c.args.limits c.args.number _ _ _ c.loop-running.running c.deref.result.now c.next_line.new.trial underway c.in_err-take.ensures.memory c.in_err-take.ensures.some)

pub loop-running-preserved : goal.loop-running-preserved
loop-running-preserved g c =
    let taken = taken_some _ _ _ _ c.in-Some.is c.in_ok-line.ensures.taken in
    let value = c.deref.ensures.value in
    let split : c.loop-running.trial ≡ c.deref.result.now ∷ c.next_line.new.trial = cc in
    let underway = subst (Underway c.args.limits c.args.number (g.K.Sink.held c.args.out.now) (g.K.Sink.held c.loop-running.out) c.loop-running.running) split c.loop-running.invariant.underway in
    let takes = c.in_ok-take.ensures.takes in
    let count = ap length split in
    record {
      underway = underway_more c.args.limits c.args.number _ _ (g.K.Sink.held c.take.new.out) c.loop-running.running c.take.new.self c.deref.result.now c.next_line.new.trial underway takes;
      few = omega (arith, takes.question, count, c.loop-running.invariant.few);
      later = omega (arith, c.take.ensures.later, c.loop-running.invariant.later);
    }

pub returns-clause-told : goal.returns-clause-told
returns-clause-told g c =
    let none = taken_none _ _ _ c.in_default.is c.in_ok-line.ensures.taken in
    underway_last c.args.limits c.args.number _ _ c.loop-running.running (subst (Underway c.args.limits c.args.number (g.K.Sink.held c.args.out.now) (g.K.Sink.held c.loop-running.out) c.loop-running.running) none.0 c.loop-running.invariant.underway)

pub returns-in_err-line-clause-memory : goal.returns-in_err-line-clause-memory
returns-in_err-line-clause-memory g c = λ is.
    told_whole c.args.limits c.args.number _ _ (g.K.Sink.held c.loop-running.out) c.loop-running.running c.loop-running.trial c.loop-running.invariant.underway (Keeps-refl _)

pub returns-in_err-take-clause-memory : goal.returns-in_err-take-clause-memory
returns-in_err-take-clause-memory g c =
    let p = err_from_is_err_and c.from_residual-in_err-take.result c.from_residual-in_err-take.ensures.1 in
    rw (p.1, p.2)
    (told_at c.in_err-take.field-0.0 c.args.limits c.args.number _ _ _ c.loop-running.running c.loop-running.trial c.loop-running.invariant.underway c.in_err-take.ensures.memory)
