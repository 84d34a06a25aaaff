use Rattle.trial_script.proofs.Questions.{edits_nothing, script_parts}
use Rattle.trial_script.proofs.laws.law_of_questions.Goals as goal

pub returns-clause-parts : goal.returns-clause-parts
returns-clause-parts c = script_parts

pub returns-clause-others : goal.returns-clause-others
returns-clause-others c = edits_nothing
