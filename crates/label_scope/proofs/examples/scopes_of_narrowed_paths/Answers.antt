use Rattle.label_scope.proofs.ListedParts.{paths_narrowed}
use Rattle.label_scope.proofs.examples.scopes_of_narrowed_paths.Goals as goal

pub returns : goal.returns
returns c = paths_narrowed
