use Rattle.itpg_run.proofs.Output.{some_output}
use Rattle.itpg_run.proofs.law.some_output.Goals as goal

pub returns : goal.returns
returns c =
    let laws = c.law_of_replies.ensures in
    some_output (record { one = laws.one; some = laws.some; good = laws.good; opening = laws.opening })
