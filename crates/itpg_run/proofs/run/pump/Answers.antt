use Rattle.std.proofs.Common.{◌≡◌, ◌+◌, [], length, take, ap, sym, subst, arith}
use Rattle.std.specs.Io.KnownBytes.{Consumes}
use Rattle.itpg_run.specs.Served.{Served}
use Rattle.itpg_run.specs.Pumped.{Pumping}
use Rattle.itpg_run.proofs.Pumped.{pumped, read_fault, pumping_more, stopped}
use Rattle.itpg_run.proofs.run.pump.Goals as goal

pub returns-in-Ok-eq0-clause-ended : goal.returns-in-Ok-eq0-clause-ended
returns-in-Ok-eq0-clause-ended g c = λ mode start s.
    let got = c.in-Ok-eq0.ensures.bytes in
    let is_zero : c.in-Ok-eq0.field-0 ≡ 0 = omega arith in
    let none : take c.in-Ok-eq0.field-0 c.read.new.buf ≡ [] = ap (λ n. take n c.read.new.buf) is_zero in
    pumped mode _ (g.S.Source.left c.chunks.source) _ _ _ _ c.chunks.taken (c.chunks.invariant.pumping mode start s) c.chunks.invariant.fits (subst (Consumes (g.S.Source.left c.chunks.source) (g.S.Source.left c.read.new.self)) none got.0) (got.1 is_zero (omega arith))

pub returns-in-Err-clause-stopped : goal.returns-in-Err-clause-stopped
returns-in-Err-clause-stopped g c = λ mode start s. read_fault mode _ (g.S.Source.left c.chunks.source) _ _ _ _ c.chunks.taken (c.chunks.invariant.pumping mode start s) c.chunks.invariant.fits c.in-Err.ensures.bytes

pub returns-in-Err-take_chunk-clause-stopped : goal.returns-in-Err-take_chunk-clause-stopped
returns-in-Err-take_chunk-clause-stopped g c = λ mode start s.
    subst (λ t. Served t mode (g.S.Source.left c.args.source.now) (g.S.Source.left c.read.new.self) start (g.K.Sink.held c.take_chunk.new.out)) (sym c.status.ensures)
    (stopped mode c.in-Err-take_chunk.stop _ (g.S.Source.left c.chunks.source) _ start (g.K.Sink.held c.chunks.sink) _ c.chunks.reader c.chunks.taken (take c.in-Ok.count c.read.new.buf) (c.chunks.invariant.pumping mode start s) c.chunks.invariant.fits c.in-Ok.ensures.bytes.0 c.in-Err-take_chunk.ensures.stops)

pub chunks-preserved : goal.chunks-preserved
chunks-preserved g c =
    let size : c.in-Ok.count ≡ length (take c.in-Ok.count c.read.new.buf) = c.in-Ok.ensures.bound.1 in
    record {
      fits = omega (arith, c.in-Ok-take_chunk.ensures.fits);
      number = omega (arith, c.in-Ok-take_chunk.ensures.number);
      later = omega (arith, c.take_chunk.ensures.later);
      source_later = omega (arith, c.read.ensures.cause.later);
      pumping = λ mode start s.
          subst (λ n. Pumping mode (g.S.Source.left c.args.source.now) (g.S.Source.left c.read.new.self) start (g.K.Sink.held c.take_chunk.new.out) c.take_chunk.new.self (c.chunks.taken + n)) (sym size)
          (pumping_more mode _ (g.S.Source.left c.chunks.source) _ start (g.K.Sink.held c.chunks.sink) _ c.chunks.reader _ c.chunks.taken (take c.in-Ok.count c.read.new.buf) (c.chunks.invariant.pumping mode start s) c.in-Ok.ensures.bytes.0 c.in-Ok-take_chunk.ensures.fed);
    }
