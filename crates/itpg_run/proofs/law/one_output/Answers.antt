use Rattle.itpg_run.proofs.Output.{one_output}
use Rattle.itpg_run.proofs.law.one_output.Goals as goal

pub returns : goal.returns
returns c =
    let laws = c.law_of_replies.ensures in
    one_output (record { one = laws.one; some = laws.some; good = laws.good; opening = laws.opening })
