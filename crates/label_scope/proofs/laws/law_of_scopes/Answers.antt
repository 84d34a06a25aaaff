use Rattle.path_ast.proofs.Pairs.{keeps}
use Rattle.label_scope.proofs.Within.{source_within, target_within, test_within}
use Rattle.label_scope.proofs.laws.law_of_scopes.Goals as goal

pub returns-clause-sources : goal.returns-clause-sources
returns-clause-sources c = source_within

pub returns-clause-targets : goal.returns-clause-targets
returns-clause-targets c = target_within

pub returns-clause-tests : goal.returns-clause-tests
returns-clause-tests c = test_within

pub returns-clause-kept : goal.returns-clause-kept
returns-clause-kept c = keeps
