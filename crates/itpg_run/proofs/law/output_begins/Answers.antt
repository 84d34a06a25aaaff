use Rattle.itpg_run.proofs.Output.{output_begins}
use Rattle.itpg_run.proofs.law.output_begins.Goals as goal

pub returns : goal.returns
returns c = output_begins
