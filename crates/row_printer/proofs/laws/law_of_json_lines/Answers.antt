use Rattle.std.proofs.Common.{refl}
use Rattle.std.specs.Fmt.{digits}
use Rattle.row_printer.specs.Texts.{led}
use Rattle.row_printer.specs.JsonTexts.{json_time, json_pair, json_count, json_departures, json_arrivals, json_end}
use Rattle.row_printer.proofs.laws.law_of_json_lines.Goals as goal

pub returns-clause-one_time : goal.returns-clause-one_time
unfolding led json_time json_pair json_count json_departures json_arrivals json_end digits
returns-clause-one_time c = refl

pub returns-clause-gained : goal.returns-clause-gained
unfolding led json_time json_pair json_count json_departures json_arrivals json_end digits
returns-clause-gained c = refl

pub returns-clause-lost : goal.returns-clause-lost
unfolding led json_time json_pair json_count json_departures json_arrivals json_end digits
returns-clause-lost c = refl

pub returns-clause-counts : goal.returns-clause-counts
unfolding led json_time json_pair json_count json_departures json_arrivals json_end digits
returns-clause-counts c = refl

pub returns-clause-none : goal.returns-clause-none
unfolding led json_time json_pair json_count json_departures json_arrivals json_end digits
returns-clause-none c = refl
