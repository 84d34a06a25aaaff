use Rattle.std.proofs.Common.{refl}
use Rattle.std.specs.Fmt.{digits}
use Rattle.row_printer.specs.Texts.{led}
use Rattle.row_printer.specs.JsonTexts.{json_time, json_pair, json_count, json_departures, json_arrivals, json_end}
use Rattle.reply_text.specs.Texts.{refused_text, bad_text, wide_text, head_text, counts_head_text, tick_wide_text, tick_head_text}
use Rattle.reply_text.proofs.laws.law_of_json_lines.Goals as goal

pub returns-clause-refused : goal.returns-clause-refused
unfolding refused_text bad_text wide_text head_text counts_head_text tick_wide_text tick_head_text led json_time json_pair json_count json_departures json_arrivals json_end digits
returns-clause-refused c = refl

pub returns-clause-bad : goal.returns-clause-bad
unfolding refused_text bad_text wide_text head_text counts_head_text tick_wide_text tick_head_text led json_time json_pair json_count json_departures json_arrivals json_end digits
returns-clause-bad c = refl

pub returns-clause-wide : goal.returns-clause-wide
unfolding refused_text bad_text wide_text head_text counts_head_text tick_wide_text tick_head_text led json_time json_pair json_count json_departures json_arrivals json_end digits
returns-clause-wide c = refl

pub returns-clause-rows : goal.returns-clause-rows
unfolding refused_text bad_text wide_text head_text counts_head_text tick_wide_text tick_head_text led json_time json_pair json_count json_departures json_arrivals json_end digits
returns-clause-rows c = refl

pub returns-clause-counts : goal.returns-clause-counts
unfolding refused_text bad_text wide_text head_text counts_head_text tick_wide_text tick_head_text led json_time json_pair json_count json_departures json_arrivals json_end digits
returns-clause-counts c = refl

pub returns-clause-tick_wide : goal.returns-clause-tick_wide
unfolding refused_text bad_text wide_text head_text counts_head_text tick_wide_text tick_head_text led json_time json_pair json_count json_departures json_arrivals json_end digits
returns-clause-tick_wide c = refl

pub returns-clause-changes : goal.returns-clause-changes
unfolding refused_text bad_text wide_text head_text counts_head_text tick_wide_text tick_head_text led json_time json_pair json_count json_departures json_arrivals json_end digits
returns-clause-changes c = refl
