use Rattle.std.proofs.Common.{refl}
use Rattle.std.specs.Fmt.{digits}
use Rattle.row_printer.specs.Texts.{led, time_text, pair_text, departures_text, arrivals_text, span_text, ends_text, end_text, moving_text}
use Rattle.row_printer.proofs.laws.law_of_lines.Goals as goal

pub returns-clause-one_time : goal.returns-clause-one_time
unfolding led time_text pair_text departures_text arrivals_text span_text ends_text end_text moving_text digits
returns-clause-one_time c = refl

pub returns-clause-two_times : goal.returns-clause-two_times
unfolding led time_text pair_text departures_text arrivals_text span_text ends_text end_text moving_text digits
returns-clause-two_times c = refl

pub returns-clause-none : goal.returns-clause-none
unfolding led time_text pair_text departures_text arrivals_text span_text ends_text end_text moving_text digits
returns-clause-none c = refl
