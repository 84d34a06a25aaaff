use Rattle.itpg_run.proofs.Output.{output_grows}
use Rattle.itpg_run.proofs.law.output_grows.Goals as goal

pub returns : goal.returns
returns c =
    let laws = c.law_of_replies.ensures in
    output_grows (record { one = laws.one; some = laws.some; good = laws.good; opening = laws.opening })
