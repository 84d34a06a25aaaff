use Rattle.std.proofs.Common.{◌∙◌}
use Rattle.trial_script.proofs.Places.{script_is}
use Rattle.trial_script.proofs.trial.Trial.new.Goals as goal

pub returns : goal.returns
returns c = c.at.ensures ∙ script_is c.args.number
