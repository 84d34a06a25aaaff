use Rattle.itpg_run.proofs.StillLists.{some_still, one_still}
use Rattle.itpg_run.proofs.StillReplies.{still_replies}
use Rattle.itpg_run.proofs.law.law_of_pins.Goals as goal

pub returns-clause-replies : goal.returns-clause-replies
returns-clause-replies c =
    let laws = c.law_of_replies.ensures in
    still_replies (record { machine = record { one = laws.one; some = laws.some; good = laws.good; opening = laws.opening }; one_line = c.law_of_lines.ensures.one; one_asked = c.law_of_asked.ensures.one })

pub returns-clause-some : goal.returns-clause-some
returns-clause-some c = some_still (record { some = c.law_of_lines.ensures.some; one = c.law_of_lines.ensures.one })

pub returns-clause-one : goal.returns-clause-one
returns-clause-one c = one_still
