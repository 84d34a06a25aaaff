use Rattle.itpg_edit.specs.Rules.{Breaks, rules_of}
use Rattle.itpg_edit.proofs.FirstOf.{first_unique, first_or_unbroken}
use Rattle.itpg_edit.proofs.Deciding.{broken_or_none}
use Rattle.itpg_edit.proofs.laws.law_of_rules.Goals as goal

pub returns-clause-some : goal.returns-clause-some
returns-clause-some c = broken_or_none

pub returns-clause-one : goal.returns-clause-one
returns-clause-one c = λ g edit r q. first_unique (Breaks g edit) (rules_of edit) r q

pub returns-clause-apart : goal.returns-clause-apart
returns-clause-apart c = λ g edit r. first_or_unbroken (Breaks g edit) (rules_of edit) r
