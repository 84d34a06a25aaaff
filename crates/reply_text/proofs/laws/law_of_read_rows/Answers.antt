use Rattle.reply_text.proofs.ReadBack.{times_read, pairs_read, counts_read}
use Rattle.reply_text.proofs.laws.law_of_read_rows.Goals as goal

pub returns-clause-times : goal.returns-clause-times
returns-clause-times c = times_read

pub returns-clause-pairs : goal.returns-clause-pairs
returns-clause-pairs c = pairs_read

pub returns-clause-counts : goal.returns-clause-counts
returns-clause-counts c = counts_read
