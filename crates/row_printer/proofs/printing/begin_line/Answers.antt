use Rattle.std.proofs.Common.{ℕ, List, ◌++◌}
use Rattle.row_printer.specs.Said.{SaysSome}
use Rattle.row_printer.proofs.Saying.{says_write_some, says_direct, says_front, on_err}
use Rattle.row_printer.proofs.printing.begin_line.Goals as goal

pub returns-in_err-write-clause-some : goal.returns-in_err-write-clause-some
returns-in_err-write-clause-some g c =
    let some : (more : List ℕ) → SaysSome (g.K.Sink.held c.args.out.now) (g.K.Sink.held c.write.new.out) c.args.page.now (c.args.lead.now ++ more) = λ more. says_write_some _ _ _ (c.args.lead.now ++ more) c.in_err-write.ensures.some in
    on_err _ _ some

pub returns-in_err-write-2-clause-some : goal.returns-in_err-write-2-clause-some
returns-in_err-write-2-clause-some g c =
    let some : (more : List ℕ) → SaysSome (g.K.Sink.held c.args.out.now) (g.K.Sink.held c.write-then-lead.new.self) c.args.page.now (c.args.lead.now ++ more) =
    λ more. says_front _ _ _ c.args.page.now c.args.lead.now more c.in_ok-write.ensures.written c.in_err-write-2.ensures.some in
    on_err _ _ some

pub returns-then-lead-clause-said : goal.returns-then-lead-clause-said
returns-then-lead-clause-said g c = says_direct _ _ _ c.args.page.now _ c.args.lead.now c.in_ok-write.ensures.written c.in_ok-write-2.ensures.written c.in_ok-write.ensures.none

pub returns-in_err-write-3-clause-some : goal.returns-in_err-write-3-clause-some
returns-in_err-write-3-clause-some g c =
    let some : (more : List ℕ) → SaysSome (g.K.Sink.held c.args.out.now) (g.K.Sink.held c.write-then-len-lead.new.out) c.args.page.now (c.args.lead.now ++ more) = λ more. says_write_some _ _ _ (c.args.lead.now ++ more) c.in_err-write-3.ensures.some in
    on_err _ _ some
