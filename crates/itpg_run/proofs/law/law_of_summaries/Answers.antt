use Rattle.itpg_run.proofs.Telling.{one_summary, some_summary}
use Rattle.itpg_run.proofs.law.law_of_summaries.Goals as goal

pub returns-clause-one : goal.returns-clause-one
returns-clause-one c = one_summary (record { one_asked = c.law_of_asked.ensures.one; some_asked = c.law_of_asked.ensures.some; one = c.law_of_replies.ensures.one; some = c.law_of_replies.ensures.some; good = c.law_of_replies.ensures.good; opening = c.law_of_replies.ensures.opening })

pub returns-clause-some : goal.returns-clause-some
returns-clause-some c = some_summary (record { one_asked = c.law_of_asked.ensures.one; some_asked = c.law_of_asked.ensures.some; one = c.law_of_replies.ensures.one; some = c.law_of_replies.ensures.some; good = c.law_of_replies.ensures.good; opening = c.law_of_replies.ensures.opening })
