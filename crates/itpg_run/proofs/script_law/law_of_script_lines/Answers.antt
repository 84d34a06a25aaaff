use Rattle.itpg_run.proofs.EditLines.{edits_read}
use Rattle.itpg_run.proofs.QuestionTexts.{questions_read}
use Rattle.itpg_run.proofs.script_law.law_of_script_lines.Goals as goal

pub returns-clause-edits : goal.returns-clause-edits
returns-clause-edits c = edits_read c.law_of_tokens.ensures.one

pub returns-clause-questions : goal.returns-clause-questions
returns-clause-questions c = questions_read c.law_of_tokens.ensures.one c.law_of_read_queries.ensures.range
