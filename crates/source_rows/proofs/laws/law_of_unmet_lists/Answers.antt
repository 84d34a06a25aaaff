use Rattle.itpg_graph.proofs.Linked.{numbers_alike}
use Rattle.source_rows.specs.Reach.{Reach}
use Rattle.source_rows.proofs.Edits.{edit_reach, here_too}
use Rattle.source_rows.proofs.laws.law_of_unmet_lists.Goals as goal

pub returns-clause-apart : goal.returns-clause-apart
returns-clause-apart c = λ g edit touched o bound objects are list unmet a reach is. unmet (a, list.whole a reach, (are a).1 is)

pub returns-clause-list : goal.returns-clause-list
returns-clause-list c = λ g new edit o bound objects good stands next apart list.
    let same = edit_reach g new edit good next o bound stands apart in
    numbers_alike (Reach g o bound) (Reach new o bound) objects (λ a. (same a).0) (λ a. (same a).1) list

pub returns-clause-stands : goal.returns-clause-stands
returns-clause-stands c = λ g new edit o bound good stands next apart.
    ((edit_reach g new edit good next o bound stands apart o).0 (here_too g new edit good next o bound stands apart)).0
