use Rattle.reply_text.proofs.HeadValues.{refused_as, bad_as, wide_as, rows_as, counted_as, tick_wide_as, tick_as}
use Rattle.reply_text.proofs.laws.law_of_json_heads.Goals as goal

pub returns-clause-refused : goal.returns-clause-refused
returns-clause-refused c = refused_as

pub returns-clause-bad : goal.returns-clause-bad
returns-clause-bad c = bad_as

pub returns-clause-wide : goal.returns-clause-wide
returns-clause-wide c = wide_as

pub returns-clause-rows : goal.returns-clause-rows
returns-clause-rows c = rows_as

pub returns-clause-counts : goal.returns-clause-counts
returns-clause-counts c = counted_as

pub returns-clause-tick_wide : goal.returns-clause-tick_wide
returns-clause-tick_wide c = tick_wide_as

pub returns-clause-tick : goal.returns-clause-tick
returns-clause-tick c = tick_as
