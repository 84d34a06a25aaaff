use Rattle.itpg_run.proofs.GraphSteps.{scripts_build}
use Rattle.itpg_run.proofs.script_law.law_of_script_graphs.Goals as goal

pub returns : goal.returns
returns c = scripts_build (record { good = c.law_of_next.ensures.good; one_list = c.law_of_uniqueness.ensures; one_runs = c.law_of_unique_values.ensures })
