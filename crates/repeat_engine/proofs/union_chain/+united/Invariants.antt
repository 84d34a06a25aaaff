use Rattle.repeat_engine.proofs.union_chain.+united.Given as goal

abbrev pub decreases-united : goal.decreases-united
decreases-united g l = l.n
