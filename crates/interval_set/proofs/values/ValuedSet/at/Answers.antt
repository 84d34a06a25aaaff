use Rattle.std.proofs.Common.{◌≡◌, ap, Some, SFits, w64, refl, sym, true≢false, ◌∙◌}
use Rattle.std.proofs.lemmas.Int.{to_z-of_z}
use Rattle.std.proofs.lemmas.List.{map-id}
use Rattle.itpg_base.specs.Graphs.{Valued}
use Rattle.interval_set.specs.KeptRuns.{runs_in}
use Rattle.interval_set.proofs.values.ValuedSet.at.Goals as goal

pub returns-in_ok-run_at-in-Short-clause-none : goal.returns-in_ok-run_at-in-Short-clause-none
returns-in_ok-run_at-in-Short-clause-none c =
    let fits : SFits w64 c.args.t = c.ranges.t in
    let view = sym c.self.view_is ∙ ap runs_in c.in-Short.is in
    let has = simp (to_z-of_z, map-id) at (rw c.deref.ensures.value at (c.in_ok-run_at-in-Short.ensures.some c.in_ok-run_at-in-Short.field-0.now.value)) in
    rw view (λ e. absurd (true≢false e), λ none. absurd (none _ (has.0 refl)))

pub returns-in_ok-run_at-in-Short-clause-some : goal.returns-in_ok-run_at-in-Short-clause-some
returns-in_ok-run_at-in-Short-clause-some c =
    let fits : SFits w64 c.args.t = c.ranges.t in
    let view = sym c.self.view_is ∙ ap runs_in c.in-Short.is in
    let name : c.name.result ≡ c.in_ok-run_at-in-Short.field-0.now.value = c.name.ensures ∙ ap (λ (r : Valued). r.value) c.branch.view_is in
    let has = simp (to_z-of_z, map-id) at (rw c.deref.ensures.value at c.in_ok-run_at-in-Short.ensures.some) in
    rw view (λ value. (λ e. (has value).0 (let same : c.in_ok-run_at-in-Short.field-0.now.value ≡ value = cc in same), λ h. ap Some (name ∙ (has value).1 h)))

pub returns-in_ok-run_at-in-Any-clause-none : goal.returns-in_ok-run_at-in-Any-clause-none
returns-in_ok-run_at-in-Any-clause-none c =
    let fits : SFits w64 c.args.t = c.ranges.t in
    let view = sym c.self.view_is ∙ ap runs_in c.in-Any.is in
    let has = simp (to_z-of_z, map-id) at (rw c.deref-in-Any.ensures.value at (c.in_ok-run_at-in-Any.ensures.some c.in_ok-run_at-in-Any.field-0.now.value)) in
    rw view (λ e. absurd (true≢false e), λ none. absurd (none _ (has.0 refl)))
