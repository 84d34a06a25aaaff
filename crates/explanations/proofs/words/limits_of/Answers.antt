use Rattle.explanations.proofs.words.limits_of.Goals as goal

pub returns-in-Err-Usage-clause-usage : goal.returns-in-Err-Usage-clause-usage
returns-in-Err-Usage-clause-usage c = λ is limit asks. c.in-Err-Usage.ensures.usage (cc) _ asks
