use Rattle.label_scope.proofs.ListedParts.{tests_scoped, sequences_scoped, choices_scoped, repetitions_scoped}
use Rattle.label_scope.proofs.examples.scopes_of_short_paths.Goals as goal

pub returns-clause-tests : goal.returns-clause-tests
returns-clause-tests c = tests_scoped

pub returns-clause-sequences : goal.returns-clause-sequences
returns-clause-sequences c = sequences_scoped

pub returns-clause-choices : goal.returns-clause-choices
returns-clause-choices c = choices_scoped

pub returns-clause-repetitions : goal.returns-clause-repetitions
returns-clause-repetitions c = repetitions_scoped
