use Rattle.std.proofs.Common.{rules, List, Result, Ok, Err, subst, sym}
use Rattle.std.specs.Prelude.{IfOk}
use Rattle.std.specs.declared.alloc.AllocError.{AllocError}
use Rattle.std.proofs.lemmas.Fn.{always_returns_same}
use Rattle.band_normal.specs.declared.active.Reach.{Reach}
use Rattle.band_normal.specs.declared.band.Band.{Band}
use Rattle.band_normal.specs.declared.strips.Stretch.{Stretch}
use Rattle.band_normal.specs.declared.strips.Strips.{Strips}
use Rattle.itpg_base.specs.Lists.{Among, Ordered}
use Rattle.band_normal.specs.Strips.{Holds, IsFront, AreMerged, AreRuns}
use Rattle.band_normal.specs.Actives.{ends_of, AreActive, BeginsLower}
use Rattle.band_normal.proofs.Merging.{front-span}
use Rattle.band_normal.proofs.Activity.{reach_fit, active_sorted, sorted_ordered, runs_of_active, active-front}
use Rattle.band_normal.proofs.active.strips_along.Goals as goal

pub merged_runs-requires-clause-fit : goal.merged_runs-requires-clause-fit
merged_runs-requires-clause-fit c = λ r h.
    reach_fit _ _ r (front-span _ _ c.in_ok-kept.ensures.front) c.requires.well_formed
    ((active_sorted _ _ _ _ c.sort_by_key.ensures.permutation c.in_ok-kept.ensures.active).each r (subst (λ (v : List Reach). Among v r) c.deref.ensures.value h))

pub merged_runs-requires-clause-order : goal.merged_runs-requires-clause-order
merged_runs-requires-clause-order c =
    subst (λ (v : List Reach). Ordered BeginsLower v) (sym c.deref.ensures.value)
    (sorted_ordered _ (c.in_ok-sort_by_key.ensures.sorted (λ (r : Reach). r.low) (always_returns_same _ _ _ (λ a r q k. search rules))))

runs_ok : (bands : List Band) (along : Stretch) (rs : List Reach) (r : Result Strips AllocError) → IfOk r (λ s. AreMerged (ends_of rs) s.along s.runs.items) → IfOk r (λ s. IsFront along s.along)
    → AreActive bands along rs → IfOk r (λ s. AreRuns (Holds bands) s.along s.runs.items)
runs_ok bands along rs (Ok s) m f a = runs_of_active bands s.along rs s.runs.items (active-front bands along s.along rs f a) m
runs_ok bands along rs (Err e) m f a = tt

pub returns-clause-runs : goal.returns-clause-runs
returns-clause-runs c = runs_ok _ _ c.deref.result.now _ c.merged_runs.ensures.merged c.merged_runs.ensures.front
    (subst (λ (v : List Reach). AreActive c.args.bands.now c.in_ok-kept.kept v) (sym c.deref.ensures.value) (active_sorted _ _ _ _ c.sort_by_key.ensures.permutation c.in_ok-kept.ensures.active))
