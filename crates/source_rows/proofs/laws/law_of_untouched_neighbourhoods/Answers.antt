use Rattle.source_rows.proofs.Edits.{edit_reach, edit_near, edit_rows}
use Rattle.source_rows.proofs.laws.law_of_untouched_neighbourhoods.Goals as goal

pub returns-clause-reach : goal.returns-clause-reach
returns-clause-reach c = λ g new edit o bound good stands next apart. edit_reach g new edit good next o bound stands apart

pub returns-clause-near : goal.returns-clause-near
returns-clause-near c = λ g new edit o bound good stands next apart. edit_near g new edit good next o bound stands apart

pub returns-clause-rows : goal.returns-clause-rows
returns-clause-rows c = λ g new edit p x y good stands next apart. edit_rows g new edit good next p x y stands apart
