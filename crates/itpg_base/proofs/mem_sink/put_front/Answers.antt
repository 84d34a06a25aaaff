use Rattle.itpg_base.proofs.Pieces.{some_front}
use Rattle.itpg_base.proofs.mem_sink.put_front.Goals as goal

pub returns-clause-some : goal.returns-clause-some
returns-clause-some c = some_front _ _ _ _ c.put_at.ensures.put
