use Rattle.std.proofs.Common.{[], subst, append-nil}
use Rattle.itpg_base.specs.Outside.{AppendsSome}
use Rattle.relation_rows.specs.Answered.{answered}
use Rattle.row_printer.specs.Texts.{answer_in}
use Rattle.row_printer.specs.Said.{Said}
use Rattle.row_printer.proofs.Saying.{said_first, said_all, said_some, on_err}
use Rattle.row_printer.proofs.printing.print_in.Goals as goal

pub returns-in_err-say_answer-clause-some : goal.returns-in_err-say_answer-clause-some
returns-in_err-say_answer-clause-some g c =
    let text = answer_in c.args.form c.args.graph.now c.args.lead.now (answered c.args.answer.now) in
    let first : Said (g.K.Sink.held c.args.out.now) (g.K.Sink.held c.args.out.now) c.new-page.result [] = subst (Said (g.K.Sink.held c.args.out.now) (g.K.Sink.held c.args.out.now) c.new-page.result) c.new-page.ensures (said_first _ _) in
    let some : AppendsSome (g.K.Sink.held c.args.out.now) (g.K.Sink.held c.say_answer.new.out) text =
    subst (AppendsSome (g.K.Sink.held c.args.out.now) (g.K.Sink.held c.say_answer.new.out)) (append-nil text) (c.in_err-say_answer.ensures.some _ _ first []) in
    on_err _ _ some

pub returns-in_err-write-clause-some : goal.returns-in_err-write-clause-some
returns-in_err-write-clause-some g c =
    let text = answer_in c.args.form c.args.graph.now c.args.lead.now (answered c.args.answer.now) in
    let first : Said (g.K.Sink.held c.args.out.now) (g.K.Sink.held c.args.out.now) c.new-page.result [] = subst (Said (g.K.Sink.held c.args.out.now) (g.K.Sink.held c.args.out.now) c.new-page.result) c.new-page.ensures (said_first _ _) in
    let some : AppendsSome (g.K.Sink.held c.args.out.now) (g.K.Sink.held c.write.new.out) text =
    subst (AppendsSome (g.K.Sink.held c.args.out.now) (g.K.Sink.held c.write.new.out)) (append-nil text) (said_some _ _ _ _ _ (c.in_ok-say_answer.ensures.said _ _ first) c.in_err-write.ensures.some []) in
    on_err _ _ some

pub returns-clause-written : goal.returns-clause-written
returns-clause-written g c =
    let first : Said (g.K.Sink.held c.args.out.now) (g.K.Sink.held c.args.out.now) c.new-page.result [] = subst (Said (g.K.Sink.held c.args.out.now) (g.K.Sink.held c.args.out.now) c.new-page.result) c.new-page.ensures (said_first _ _) in
    said_all _ _ _ _ _ (c.in_ok-say_answer.ensures.said _ _ first) c.in_ok-write.ensures.written
