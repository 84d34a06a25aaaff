use Rattle.edit_reader.proofs.Taking.{reached_first}
use Rattle.edit_reader.proofs.parts.Parts.new.Goals as goal

pub invariant_of-result-clause-reached : goal.invariant_of-result-clause-reached
invariant_of-result-clause-reached c = reached_first c.args.line.now
