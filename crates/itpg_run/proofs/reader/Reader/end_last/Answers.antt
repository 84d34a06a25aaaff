use Rattle.std.proofs.Common.{◌≢◌, [], rules, arith}
use Rattle.std.proofs.lemmas.Grind.{common_steps}
use Rattle.std.specs.Io.KnownBytes.{Keeps}
use Rattle.itpg_run.specs.Fed.{AnswersWithin}
use Rattle.itpg_run.proofs.Fed.{fed_whole, ends_whole, ends_line, ends_within}
use Rattle.itpg_run.proofs.reader.Reader.end_last.Goals as goal

pub returns-then-is_empty-clause-ended : goal.returns-then-is_empty-clause-ended
returns-then-is_empty-clause-ended g c = λ mode start bytes s. ends_whole mode start _ _ bytes s (grind (arith, common_steps))

pub returns-clause-ended : goal.returns-clause-ended
returns-clause-ended g c = λ mode start bytes s.
    let some : c.args.self.now.line.items ≢ [] = λ h. grind (arith, common_steps) in
    ends_line mode start _ _ _ _ bytes s some c.in_ok-end_line.ensures.ended

pub returns-in_err-end_line-clause-memory : goal.returns-in_err-end_line-clause-memory
returns-in_err-end_line-clause-memory g c = λ is mode start bytes s.
    let keeps : Keeps (g.K.Sink.held c.args.out.now) (g.K.Sink.held c.end_line.new.out) = search rules in
    fed_whole mode start _ _ _ bytes _ s keeps

pub returns-in_err-end_line-clause-write : goal.returns-in_err-end_line-clause-write
returns-in_err-end_line-clause-write g c = λ is mode start bytes s.
    let front : AnswersWithin (g.K.Sink.held c.args.out.now) (g.K.Sink.held c.end_line.new.out) c.args.self.now = search rules in
    let some : c.args.self.now.line.items ≢ [] = λ h. grind (arith, common_steps) in
    ends_within mode start _ _ _ bytes s some front
