use Rattle.std.proofs.Common.{[], ap, subst, append-nil, ◌∙◌}
use Rattle.std.specs.Io.KnownBytes.{Appends}
use Rattle.itpg_base.specs.Outside.{AppendsSome}
use Rattle.row_printer.specs.Texts.{led, count_in}
use Rattle.row_printer.specs.Said.{Said}
use Rattle.row_printer.proofs.Saying.{said_first, said_all, said_some, on_err}
use Rattle.row_printer.proofs.counting.print_counts_in.Goals as goal

pub returns-in_err-say_counts-clause-some : goal.returns-in_err-say_counts-clause-some
returns-in_err-say_counts-clause-some g c =
    let first : Said (g.K.Sink.held c.args.out.now) (g.K.Sink.held c.args.out.now) c.new-page.result [] = subst (Said (g.K.Sink.held c.args.out.now) (g.K.Sink.held c.args.out.now) c.new-page.result) c.new-page.ensures (said_first _ _) in
    let some : AppendsSome (g.K.Sink.held c.args.out.now) (g.K.Sink.held c.say_counts.new.out) (led [] (count_in c.args.form) c.args.counts.now) =
    subst (AppendsSome (g.K.Sink.held c.args.out.now) (g.K.Sink.held c.say_counts.new.out)) (append-nil (led [] (count_in c.args.form) c.rows.result.now) ∙ ap (led [] (count_in c.args.form)) c.rows.ensures) (c.in_err-say_counts.ensures.some _ _ first []) in
    on_err _ _ some

pub returns-in_err-write-clause-some : goal.returns-in_err-write-clause-some
returns-in_err-write-clause-some g c =
    let first : Said (g.K.Sink.held c.args.out.now) (g.K.Sink.held c.args.out.now) c.new-page.result [] = subst (Said (g.K.Sink.held c.args.out.now) (g.K.Sink.held c.args.out.now) c.new-page.result) c.new-page.ensures (said_first _ _) in
    let some : AppendsSome (g.K.Sink.held c.args.out.now) (g.K.Sink.held c.write.new.out) (led [] (count_in c.args.form) c.args.counts.now) =
    subst (AppendsSome (g.K.Sink.held c.args.out.now) (g.K.Sink.held c.write.new.out)) (append-nil (led [] (count_in c.args.form) c.rows.result.now) ∙ ap (led [] (count_in c.args.form)) c.rows.ensures) (said_some _ _ _ _ _ (c.in_ok-say_counts.ensures.said _ _ first) c.in_err-write.ensures.some []) in
    on_err _ _ some

pub returns-clause-written : goal.returns-clause-written
returns-clause-written g c =
    let first : Said (g.K.Sink.held c.args.out.now) (g.K.Sink.held c.args.out.now) c.new-page.result [] = subst (Said (g.K.Sink.held c.args.out.now) (g.K.Sink.held c.args.out.now) c.new-page.result) c.new-page.ensures (said_first _ _) in
    subst (Appends (g.K.Sink.held c.args.out.now) (g.K.Sink.held c.write.new.out)) (ap (led [] (count_in c.args.form)) c.rows.ensures) (said_all _ _ _ _ _ (c.in_ok-say_counts.ensures.said _ _ first) c.in_ok-write.ensures.written)
