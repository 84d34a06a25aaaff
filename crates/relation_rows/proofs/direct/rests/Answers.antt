use Rattle.relation_rows.proofs.BandWays.{still_rests}
use Rattle.relation_rows.proofs.direct.rests.Goals as goal

pub returns-then-is_still : goal.returns-then-is_still
returns-then-is_still c = λ e. still_rests c.args.band.now (c.is_still.ensures c.if-is_still.true)
