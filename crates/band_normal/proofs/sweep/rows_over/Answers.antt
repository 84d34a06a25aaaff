use Rattle.std.proofs.Common.{◌≡◌, ◌+ℤ◌, pos, ℤ, List, sym, ◌∙◌, subst, arith}
use Rattle.std.proofs.lemmas.Int.{ints}
use Rattle.band_normal.specs.declared.band.Band.{Band}
use Rattle.itpg_base.specs.Lists.{Among}
use Rattle.band_normal.specs.Normal.{IsInRange}
use Rattle.band_normal.specs.Strips.{Holds}
use Rattle.band_normal.specs.Rows.{AreRowsTo}
use Rattle.band_normal.proofs.WellFormed.{held-in_range}
use Rattle.band_normal.proofs.Merging.{front-span}
use Rattle.band_normal.proofs.Sweeping.{IsSweeping, sweep_advance, advanced_active, sweep_later, sweep_runs, active_formed, less_left}
use Rattle.band_normal.proofs.sweep.rows_over.Goals as goal

pub strips_before-requires-clause-active : goal.strips_before-requires-clause-active
strips_before-requires-clause-active g c = λ b i.
    advanced_active g.held _ _ _ _ _ _ c.loop-left.invariant.sweep c.split_at.ensures.by_index.0 c.in_ok-advance.ensures _ c.split_at.ensures.front c.begun_count.ensures.begun b (subst (λ (v : List Band). Among v b) c.deref.ensures.value i)

pub strips_before-requires-clause-order : goal.strips_before-requires-clause-order
strips_before-requires-clause-order g c = (sweep_advance g.held _ _ _ _ _ _ c.loop-left.invariant.sweep c.split_at.ensures.by_index.0 c.in_ok-advance.ensures _ c.split_at.ensures.front c.begun_count.ensures.begun).order

pub strips_before-requires-clause-well_formed : goal.strips_before-requires-clause-well_formed
strips_before-requires-clause-well_formed g c =
    let sweep = sweep_advance g.held _ _ _ _ _ _ c.loop-left.invariant.sweep c.split_at.ensures.by_index.0 c.in_ok-advance.ensures _ c.split_at.ensures.front c.begun_count.ensures.begun in
    λ b i. active_formed g.held _ _ _ _ c.requires.same c.requires.well_formed sweep b (subst (λ (v : List Band). Among v b) c.deref.ensures.value i)

pub join-requires : goal.join-requires
join-requires g c =
    let front = c.in_ok-strips.ensures.front in
    let sweep = sweep_advance g.held _ _ _ _ _ _ c.loop-left.invariant.sweep c.split_at.ensures.by_index.0 c.in_ok-advance.ensures _ c.split_at.ensures.front c.begun_count.ensures.begun in (
      record {
        in_range = subst (λ (v : List Band). IsInRange (Holds v)) (sym c.requires.same) (held-in_range _ c.requires.well_formed);
        span = front-span _ _ front;
        rows = subst (λ (v : ℤ). AreRowsTo (Holds g.held) v c.loop-left.rows.complete.items c.loop-left.rows.reaching.items) (sym front.from) c.loop-left.invariant.rows;
        runs_along = sweep_runs g.held c.in_ok-strips.strips.along c.split_at.result.1.now c.advance.new.active.items c.in_ok-strips.strips.runs.items
            (subst (λ (v : ℤ). IsSweeping g.held v c.split_at.result.1.now c.advance.new.active.items) (sym front.from) sweep) c.in_ok-strips.ensures.before (rw c.deref.ensures.value at c.in_ok-strips.ensures.runs);
      },
      c.loop-left.invariant.line,
    )

pub loop-left-preserved : goal.loop-left-preserved
loop-left-preserved g c =
    let front = c.in_ok-strips.ensures.front in
    let sweep = sweep_advance g.held _ _ _ _ _ _ c.loop-left.invariant.sweep c.split_at.ensures.by_index.0 c.in_ok-advance.ensures _ c.split_at.ensures.front c.begun_count.ensures.begun in
    let some = front.some in let within = front.within in
    let from = c.after-left.ensures.from in let to = c.after-left.ensures.to in
    let old_from = c.loop-left.invariant.from in let old_to = c.loop-left.invariant.to in
    record {
      rows = subst (λ (v : ℤ). AreRowsTo (Holds g.held) v c.in_ok-rows.rows.complete.items c.in_ok-rows.rows.reaching.items) (sym from) c.in_ok-rows.ensures.rows;
      line = c.in_ok-rows.ensures.line;
      sweep = sweep_later g.held _ _ _ _ (omega (arith, ints)) sweep;
      to = to ∙ old_to;
      from = omega (arith, ints);
      next = omega (arith, ints);
    }

pub loop-left-smaller : goal.loop-left-smaller
loop-left-smaller g c = less_left c.loop-left.left.from c.loop-left.left.to c.in_ok-strips.strips.along.to c.after-left.result.from c.after-left.result.to
    (omega (arith, ints)) c.in_ok-strips.ensures.front.some c.in_ok-strips.ensures.front.within c.after-left.ensures.from c.after-left.ensures.to

pub returns-clause-rows : goal.returns-clause-rows
returns-clause-rows g c =
    let next = c.loop-left.invariant.next in let to = c.loop-left.invariant.to in
    let end : c.loop-left.left.from ≡ c.args.span.to +ℤ pos 1 = omega (arith, ints) in
    subst (λ (v : ℤ). AreRowsTo (Holds g.held) v c.loop-left.rows.complete.items c.loop-left.rows.reaching.items) end c.loop-left.invariant.rows
