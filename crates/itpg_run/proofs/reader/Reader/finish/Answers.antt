use Rattle.std.proofs.Common.{[], subst, append-nil, rules}
use Rattle.itpg_run.specs.Served.{WritesLines, WritesAs}
use Rattle.itpg_run.specs.Fed.{StopsWhole}
use Rattle.itpg_run.proofs.reader.Reader.finish.Goals as goal

pub returns-in-Ok-clause-ends : goal.returns-in-Ok-clause-ends
returns-in-Ok-clause-ends g c = λ mode start bytes s. subst (WritesAs mode start (g.K.Sink.held c.end_last.new.out) bytes) c.if-self.true (c.in-Ok.ensures.ended mode start bytes s)

pub returns-in-Ok-2-clause-ends : goal.returns-in-Ok-2-clause-ends
returns-in-Ok-2-clause-ends g c = λ mode start bytes s. subst (WritesAs mode start (g.K.Sink.held c.end_last.new.out) bytes) c.if-self.false (c.in-Ok-2.ensures.ended mode start bytes s)

pub returns-in-Err-Memory-clause-ends : goal.returns-in-Err-Memory-clause-ends
returns-in-Err-Memory-clause-ends g c = λ mode start bytes s.
    let stops : StopsWhole (g.K.Sink.held c.args.out.now) (g.K.Sink.held c.end_last.new.out) c.args.self.now [] = search rules in
    subst (WritesLines mode start (g.K.Sink.held c.end_last.new.out)) (append-nil bytes) (stops mode start bytes s)
