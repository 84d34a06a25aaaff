use Rattle.itpg_graph.proofs.Unique.{joins_one, cuts_one, puts_one, clears_one}
use Rattle.itpg_graph.proofs.laws.law_of_unique_changes.Goals as goal

pub returns : goal.returns
returns c = record { joined = joins_one; cut = cuts_one; put = puts_one; cleared = clears_one }
