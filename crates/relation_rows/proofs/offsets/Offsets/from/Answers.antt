use Rattle.std.proofs.Common.{◌≡◌, ◌↔◌, ◌+◌, ◌≤◌, List, sym, subst, rules}
use Rattle.std.specs.Prelude.{slice_range}
use Rattle.itpg_base.specs.Lists.{Among}
use Rattle.relation_rows.specs.declared.rows.Row.{Row}
use Rattle.relation_rows.specs.Offsets.{IsBegin}
use Rattle.relation_rows.proofs.OffsetLemmas.{begin_first, between_rows, between_order}
use Rattle.relation_rows.proofs.offsets.Offsets.from.Goals as goal

pub slice_bounds-result-count : goal.slice_bounds-result-count
slice_bounds-result-count c = begin_first c.args.self.now c.args.object.0 c.in-Some.begin c.in-Some.end c.in-Some.ensures.0 c.in-Some.ensures.1

pub slice_bounds-result-start : goal.slice_bounds-result-start
slice_bounds-result-start c =
    let first : c.in-Some.begin ≤ c.in-Some.end = begin_first c.args.self.now c.args.object.0 c.in-Some.begin c.in-Some.end c.in-Some.ensures.0 c.in-Some.ensures.1 in
    search rules

pub returns-clause-rows : goal.returns-clause-rows
returns-clause-rows c =
    let here = subst (λ (v : List Row). IsBegin v c.args.object.0 c.in-Some.begin) (sym c.self.view_is) c.in-Some.ensures.0 in
    let next = subst (λ (v : List Row). IsBegin v (c.args.object.0 + 1) c.in-Some.end) (sym c.self.view_is) c.in-Some.ensures.1 in
    subst (λ (v : List Row). (r : Row) → Among (slice_range c.self.inside.rows.now c.in-Some.begin c.in-Some.end) r ↔ (Among v r × (r.source.0 ≡ c.args.object.0))) c.self.view_is
    (between_rows c.self.inside.rows.now c.args.object.0 c.in-Some.begin c.in-Some.end here next)

pub returns-clause-order : goal.returns-clause-order
returns-clause-order c =
    let here = subst (λ (v : List Row). IsBegin v c.args.object.0 c.in-Some.begin) (sym c.self.view_is) c.in-Some.ensures.0 in
    let next = subst (λ (v : List Row). IsBegin v (c.args.object.0 + 1) c.in-Some.end) (sym c.self.view_is) c.in-Some.ensures.1 in
    between_order c.self.inside.rows.now c.args.object.0 c.in-Some.begin c.in-Some.end here next c.self.invariant.order
