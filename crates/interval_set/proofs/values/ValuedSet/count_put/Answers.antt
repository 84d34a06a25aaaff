use Rattle.std.proofs.Common.{◌≡◌, ◌<◌, refl, ap, sym, subst, length, ◌∙◌, rules, arith}
use Rattle.std.proofs.lemmas.List.{map-id}
use Rattle.itpg_base.specs.Spans.{IsSpan}
use Rattle.itpg_base.specs.declared.short_name.TheConstants.{MAX_SHORT}
use Rattle.interval_set.specs.KeptRuns.{runs_in, AreKept}
use Rattle.interval_set.specs.Splices.{spliced}
use Rattle.interval_set.specs.Runs.{HasPut}
use Rattle.interval_set.proofs.UniqueValues.{runs_of_unique}
use Rattle.interval_set.proofs.Inserted.{one_more}
use Rattle.interval_set.proofs.ShortValues.{none_longer}
use Rattle.interval_set.proofs.values.ValuedSet.count_put.Goals as goal

pub returns-in-Short-Some : goal.returns-in-Short-Some
returns-in-Short-Some c =
    let xs = c.in-Short-Some.runs.items in
    let view = sym c.self.view_is ∙ ap runs_in c.in-Short-Some.is-0 in
    let made = spliced c.putting.result xs in
    let same : c.in-Short-Some.value ≡ c.args.value = c.in-Short-Some.ensures.some in
    let runs = rw same at (simp map-id at (rw c.deref.ensures.value at c.putting.ensures.runs)) in
    let count : c.count.result ≡ length made = rw c.deref-in-Short-Some.ensures.value at c.count.ensures in
    rw view (λ others h. count ∙ ap length (runs_of_unique (HasPut xs c.args.s c.args.value) made others runs h))

pub returns-in-Short-None : goal.returns-in-Short-None
returns-in-Short-None c =
    let xs = c.in-Short-None.runs.items in
    let view = sym c.self.view_is ∙ ap runs_in c.in-Short-None.is-0 in
    let kept = subst AreKept c.in-Short-None.is-0 c.self.invariant in
    let made = spliced c.clearing.result xs in
    let span : IsSpan c.args.s = search rules in
    let long : MAX_SHORT < length c.args.value = c.in-Short-None.ensures.none.0 refl in
    let cleared = simp map-id at (rw c.deref-in-Short-None.ensures.value at c.clearing.ensures.runs) in
    let count : c.count-in-Short-None.result ≡ length made = rw c.deref-in-Short-None-2.ensures.value at c.count-in-Short-None.ensures in
    rw view (λ others h. let more = one_more xs made others c.args.s c.args.value span (none_longer xs c.args.value kept.1 long) cleared h in omega (arith, count, more))

pub returns-in-Any-default : goal.returns-in-Any-default
returns-in-Any-default c =
    let xs = c.in-Any-default.runs.items in
    let view = sym c.self.view_is ∙ ap runs_in c.in-Any-default.is-0 in
    let made = spliced c.putting-in-Any-default.result xs in
    let runs = simp map-id at (rw c.deref-in-Any-default.ensures.value at c.putting-in-Any-default.ensures.runs) in
    let count : c.count-in-Any-default.result ≡ length made = rw c.deref-in-Any-default-2.ensures.value at c.count-in-Any-default.ensures in
    rw view (λ others h. count ∙ ap length (runs_of_unique (HasPut xs c.args.s c.args.value) made others runs h))
