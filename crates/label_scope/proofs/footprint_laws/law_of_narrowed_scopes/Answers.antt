use Rattle.label_scope.proofs.NarrowedAgain.{narrowed_again, footprint_narrowed, worked_narrowed, members_are, all_or_neither}
use Rattle.label_scope.proofs.footprint_laws.law_of_narrowed_scopes.Goals as goal

pub returns-clause-scopes : goal.returns-clause-scopes
returns-clause-scopes c = narrowed_again

pub returns-clause-footprints : goal.returns-clause-footprints
returns-clause-footprints c = footprint_narrowed

pub returns-clause-members : goal.returns-clause-members
returns-clause-members c = worked_narrowed

pub returns-clause-between : goal.returns-clause-between
returns-clause-between c = members_are

pub returns-clause-kept : goal.returns-clause-kept
returns-clause-kept c = all_or_neither
