use Rattle.std.proofs.Common.{ap, sym, subst, ◌∙◌}
use Rattle.std.proofs.lemmas.List.{map-id}
use Rattle.interval_set.specs.KeptRuns.{runs_in, AreKept}
use Rattle.interval_set.specs.Runs.{HasCleared}
use Rattle.interval_set.proofs.ShortValues.{kept_runs, kept_short, short_cleared}
use Rattle.interval_set.proofs.values.ValuedSet.clear.Goals.{in-Short, in-Any}
use Rattle.interval_set.proofs.values.ValuedSet.clear.Goals as goal

pub invariant_of-self : goal.invariant_of-self
invariant_of-self c = elim c.match-self.branch [
  | in-Short w ↦
      (let xs = w.in-Short.runs.items in
      let ys = w.clear_runs.new.items.items in
      let kept = subst AreKept w.in-Short.is c.self.invariant in
      let ok = simp map-id at w.clear_runs.ensures.ok in
      rw w.self-inside-is
      (kept_runs (HasCleared xs c.args.s) xs ys w.clear_runs.result kept.0 ok w.clear_runs.ensures.err, kept_short (HasCleared xs c.args.s) xs ys w.clear_runs.result (short_cleared xs c.args.s kept.1) kept.1 ok w.clear_runs.ensures.err))
  | in-Any w ↦
      let xs = w.in-Any.runs.items in
      let ys = w.clear_runs-in-Any.new.items.items in
      let kept = subst AreKept w.in-Any.is c.self.invariant in
      let ok = simp map-id at w.clear_runs-in-Any.ensures.ok in
      rw w.self-inside-is (kept_runs (HasCleared xs c.args.s) xs ys w.clear_runs-in-Any.result kept ok w.clear_runs-in-Any.ensures.err)
]

pub returns-clause-ok : goal.returns-clause-ok
returns-clause-ok c = elim c.match-self.branch [
  | in-Short w ↦
      (let view = sym c.self.view_is ∙ ap runs_in w.in-Short.is in
      rw (view, w.result-is, w.self-inside-is) (simp map-id at w.clear_runs.ensures.ok))
  | in-Any w ↦
      let view = sym c.self.view_is ∙ ap runs_in w.in-Any.is in
      rw (view, w.result-is, w.self-inside-is) (simp map-id at w.clear_runs-in-Any.ensures.ok)
]
