use Rattle.command_words.proofs.Digits.{no_limit, no_trial}
use Rattle.command_words.proofs.reading.read_words.Goals as goal

pub returns-in_default-clause-usage : goal.returns-in_default-clause-usage
returns-in_default-clause-usage c = λ is o. no_limit _ _ o c.in_ok-given.ensures.max_rows c.in_default.ensures

pub returns-in_default-trial_of-clause-usage : goal.returns-in_default-trial_of-clause-usage
returns-in_default-trial_of-clause-usage c = λ is o. no_trial _ _ o c.in_ok-given.ensures.trial c.in_default-trial_of.ensures
