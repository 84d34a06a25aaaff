use Rattle.std.proofs.Common.{refl}
use Rattle.std.specs.Fmt.{digits}
use Rattle.row_printer.specs.Texts.{span_text, end_text, ends_text, moving_text}
use Rattle.row_printer.proofs.laws.law_of_forms.Goals as goal

pub returns-clause-span : goal.returns-clause-span
unfolding span_text end_text ends_text moving_text digits
returns-clause-span c = refl

pub returns-clause-below_zero : goal.returns-clause-below_zero
unfolding span_text end_text ends_text moving_text digits
returns-clause-below_zero c = refl

pub returns-clause-stays : goal.returns-clause-stays
unfolding span_text end_text ends_text moving_text digits
returns-clause-stays c = refl

pub returns-clause-later : goal.returns-clause-later
unfolding span_text end_text ends_text moving_text digits
returns-clause-later c = refl

pub returns-clause-before : goal.returns-clause-before
unfolding span_text end_text ends_text moving_text digits
returns-clause-before c = refl

pub returns-clause-ends : goal.returns-clause-ends
unfolding span_text end_text ends_text moving_text digits
returns-clause-ends c = refl
