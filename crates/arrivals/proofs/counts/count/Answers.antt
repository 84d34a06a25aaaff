use Rattle.std.proofs.Common.{◌<◌, List, length, subst, arith}
use Rattle.relation_rows.specs.declared.times.OneRow.{OneRow}
use Rattle.relation_rows.specs.Times.{TimesHold}
use Rattle.arrivals.specs.declared.counts.CountRow.{CountRow}
use Rattle.arrivals.specs.Counting.{AreCounts}
use Rattle.arrivals.proofs.CountLaws.{counts_unique}
use Rattle.arrivals.proofs.counts.count.Goals as goal

pub returns-then-len-max_rows : goal.returns-then-len-max_rows
returns-then-len-max_rows c = λ rows are.
    let own = subst (λ (v : List OneRow). AreCounts (TimesHold v) c.in_ok-rows.rows.items) c.rows.ensures.value c.in_ok-rows.ensures in
    let same = counts_unique (TimesHold c.args.times.now) c.in_ok-rows.rows.items rows own are in
    subst (λ (v : List CountRow). c.args.max_rows < length v) same (omega (arith, c.if-len-max_rows.true, c.len.ensures))
