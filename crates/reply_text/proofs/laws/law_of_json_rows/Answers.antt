use Rattle.reply_text.proofs.RowValues.{times_as, pairs_as, counts_as}
use Rattle.reply_text.proofs.laws.law_of_json_rows.Goals as goal

pub returns-clause-times : goal.returns-clause-times
returns-clause-times c = times_as

pub returns-clause-pairs : goal.returns-clause-pairs
returns-clause-pairs c = pairs_as

pub returns-clause-counts : goal.returns-clause-counts
returns-clause-counts c = counts_as
