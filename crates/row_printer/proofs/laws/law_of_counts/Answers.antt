use Rattle.std.proofs.Common.{refl}
use Rattle.std.specs.Fmt.{digits}
use Rattle.row_printer.specs.Texts.{led, count_text, span_text}
use Rattle.row_printer.proofs.laws.law_of_counts.Goals as goal

pub returns-clause-some : goal.returns-clause-some
unfolding led count_text span_text digits
returns-clause-some c = refl

pub returns-clause-none : goal.returns-clause-none
unfolding led count_text span_text digits
returns-clause-none c = refl
