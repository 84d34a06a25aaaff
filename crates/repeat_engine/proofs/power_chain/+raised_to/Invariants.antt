use Rattle.repeat_engine.proofs.power_chain.+raised_to.Given as goal

abbrev pub decreases-raised_to : goal.decreases-raised_to
decreases-raised_to g l = l.n
