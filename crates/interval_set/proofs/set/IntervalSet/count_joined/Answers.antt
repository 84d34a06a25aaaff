use Rattle.std.proofs.Common.{◌≡◌, ◌⊎◌, ap, length, ◌∙◌}
use Rattle.itpg_base.specs.Spans.{Covers, Within}
use Rattle.interval_set.specs.Splices.{spliced}
use Rattle.interval_set.proofs.Plain.{runs_of_spans, joined_by}
use Rattle.interval_set.proofs.Unique.{runs_unique}
use Rattle.interval_set.proofs.set.IntervalSet.count_joined.Goals as goal

pub putting-requires : goal.putting-requires
putting-requires c = rw c.deref.ensures.value (runs_of_spans c.self.inside.spans.items c.self.invariant)

pub returns : goal.returns
returns c =
    let xs = c.self.inside.spans.items in
    let splice = c.putting.result in
    let runs = joined_by xs (spliced splice xs) c.args.s (rw c.deref.ensures.value at c.putting.ensures.runs) in
    let count : c.count.result ≡ length (spliced splice xs) = rw c.deref-2.ensures.value at c.count.ensures in
    rw (← c.self.view_is) (λ spans others. count ∙ ap length (runs_unique (λ t. Covers xs t ⊎ Within t c.args.s) (spliced splice xs) spans runs others))
