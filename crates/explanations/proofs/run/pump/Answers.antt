use Rattle.std.proofs.Common.{◌≡◌, length, take, arith}
use Rattle.explanations.proofs.PumpLemmas.{taking_more}
use Rattle.explanations.proofs.run.pump.Goals as goal

pub chunks-preserved : goal.chunks-preserved
chunks-preserved g c =
    let size : c.in-Ok.count ≡ length (take c.in-Ok.count c.read.new.buf) = c.in-Ok.ensures.bound.1 in
    record {
      fits = omega (arith, c.in-Ok-take_chunk.ensures.fits);
      later = omega (arith, c.take_chunk.ensures.later);
      source_later = omega (arith, c.read.ensures.cause.later);
      taking = taking_more _ _ _ _ _ (take c.in-Ok.count c.read.new.buf) c.chunks.invariant.taking c.in-Ok.ensures.bytes.0 size;
    }
