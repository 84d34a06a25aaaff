use Rattle.std.proofs.Common.{◌≡◌, ap, sym, length, ◌∙◌}
use Rattle.std.proofs.lemmas.List.{map-id}
use Rattle.interval_set.specs.KeptRuns.{runs_in}
use Rattle.interval_set.specs.Splices.{spliced}
use Rattle.interval_set.specs.Runs.{HasCleared}
use Rattle.interval_set.proofs.UniqueValues.{runs_of_unique}
use Rattle.interval_set.proofs.values.ValuedSet.count_clear.Goals as goal

pub returns-in-Short : goal.returns-in-Short
returns-in-Short c =
    let xs = c.in-Short.runs.items in
    let view = sym c.self.view_is ∙ ap runs_in c.in-Short.is in
    let made = spliced c.clearing.result xs in
    let runs = simp map-id at (rw c.deref.ensures.value at c.clearing.ensures.runs) in
    let count : c.count.result ≡ length made = rw c.deref-in-Short.ensures.value at c.count.ensures in
    rw view (λ others h. count ∙ ap length (runs_of_unique (HasCleared xs c.args.s) made others runs h))

pub returns-in-Any : goal.returns-in-Any
returns-in-Any c =
    let xs = c.in-Any.runs.items in
    let view = sym c.self.view_is ∙ ap runs_in c.in-Any.is in
    let made = spliced c.clearing-in-Any.result xs in
    let runs = simp map-id at (rw c.deref-in-Any.ensures.value at c.clearing-in-Any.ensures.runs) in
    let count : c.count-in-Any.result ≡ length made = rw c.deref-in-Any-2.ensures.value at c.count-in-Any.ensures in
    rw view (λ others h. count ∙ ap length (runs_of_unique (HasCleared xs c.args.s) made others runs h))
