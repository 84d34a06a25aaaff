use Rattle.std.proofs.Common.{◌≡◌, ◌≤◌, ap, sym, subst, length, ◌∙◌}
use Rattle.std.proofs.lemmas.List.{map-id}
use Rattle.itpg_base.specs.declared.short_name.TheConstants.{MAX_SHORT}
use Rattle.interval_set.specs.KeptRuns.{runs_in, AreKept}
use Rattle.interval_set.specs.Runs.{HasPut}
use Rattle.interval_set.proofs.ShortValues.{kept_runs, kept_short, short_put, short_by}
use Rattle.interval_set.proofs.values.ValuedSet.put.Goals as goal

pub invariant_of-self : goal.invariant_of-self
invariant_of-self c =
    let xs = c.in-Short-Some.runs.items in
    let ys = c.put_run.new.items.items in
    let kept = subst AreKept c.in-Short-Some.is-0 c.self.invariant in
    let value = c.in-Short-Some.value in
    let ok = simp map-id at c.put_run.ensures.ok in
    let few : length value ≤ MAX_SHORT = subst (λ v. length v ≤ MAX_SHORT) (sym c.in-Short-Some.ensures.some) (short_by c.args.value c.in-Short-Some.ensures.none.1) in
    (kept_runs (HasPut xs c.args.s value) xs ys c.put_run.result kept.0 ok c.put_run.ensures.err, kept_short (HasPut xs c.args.s value) xs ys c.put_run.result (short_put xs c.args.s value few kept.1) kept.1 ok c.put_run.ensures.err)

pub invariant_of-self-in-Any-default : goal.invariant_of-self-in-Any-default
invariant_of-self-in-Any-default c =
    let xs = c.in-Any-default.runs.items in
    let ys = c.put_run-in-Any-default.new.items.items in
    let kept = subst AreKept c.in-Any-default.is-0 c.self.invariant in
    let ok = simp map-id at c.put_run-in-Any-default.ensures.ok in
    kept_runs (HasPut xs c.args.s c.args.value) xs ys c.put_run-in-Any-default.result kept ok c.put_run-in-Any-default.ensures.err

pub returns-in-Short-Some-clause-ok : goal.returns-in-Short-Some-clause-ok
returns-in-Short-Some-clause-ok c =
    let view = sym c.self.view_is ∙ ap runs_in c.in-Short-Some.is-0 in
    let same : c.in-Short-Some.value ≡ c.args.value = c.in-Short-Some.ensures.some in
    rw view (rw same at (simp map-id at c.put_run.ensures.ok))

pub returns-in-Any-default-clause-ok : goal.returns-in-Any-default-clause-ok
returns-in-Any-default-clause-ok c =
    let view = sym c.self.view_is ∙ ap runs_in c.in-Any-default.is-0 in
    rw view (simp map-id at c.put_run-in-Any-default.ensures.ok)
