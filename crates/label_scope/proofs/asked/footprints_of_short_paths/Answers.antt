use Rattle.label_scope.proofs.FootprintsListed.{of_axes, of_tests, of_parts, of_questions}
use Rattle.label_scope.proofs.asked.footprints_of_short_paths.Goals as goal

pub returns-clause-axes : goal.returns-clause-axes
returns-clause-axes c = of_axes

pub returns-clause-tests : goal.returns-clause-tests
returns-clause-tests c = of_tests

pub returns-clause-parts : goal.returns-clause-parts
returns-clause-parts c = of_parts

pub returns-clause-questions : goal.returns-clause-questions
returns-clause-questions c = of_questions
