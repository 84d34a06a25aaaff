use Rattle.std.proofs.Common.{◌≡◌, ◌++◌, ◌∙◌, List, length, ap, sym, subst, arith}
use Rattle.std.proofs.lemmas.Result.{err_from_is_err_and}
use Rattle.itpg_base.specs.Lists.{Among, Ordered}
use Rattle.band_normal.specs.Bands.{IsWellFormed}
use Rattle.relation_rows.specs.declared.rows.Row.{Row}
use Rattle.relation_rows.specs.Rows.{RowBefore}
use Rattle.relation_rows.specs.Relations.{HasMiddlePoint}
use Rattle.relation_rows.proofs.Alike.{relation_of}
use Rattle.relation_rows.proofs.Partitions.{front_ordered}
use Rattle.relation_rows.proofs.Composing.{HasComposed, start, next_composed, within_limit, fault_after, group_lone, all_composed}
use Rattle.relation_rows.proofs.compose.by_sources.Goals as goal

pub loop-first-init : goal.loop-first-init
loop-first-init c = (
  subst (λ (v : List Row). HasComposed c.args.rows.now c.args.second.now c.args.rows.now v) (sym c.new-done.ensures.items) (start c.args.rows.now c.args.second.now c.requires.order),
  rw c.new-done.ensures.items (omega arith),
)

pub of_sources-requires-clause-order : goal.of_sources-requires-clause-order
of_sources-requires-clause-order c =
    subst (λ (v : List Row). Ordered RowBefore v) (sym c.split_at.ensures.front) (front_ordered RowBefore c.loop-first.left.now c.batch_len.result (c.loop-first.invariant.0).order)

pub of_sources-requires-clause-rows : goal.of_sources-requires-clause-rows
of_sources-requires-clause-rows c =
    group_lone c.args.rows.now c.args.second.now c.loop-first.left.now c.loop-first.done.items c.loop-first.invariant.0 c.batch_len.result c.split_at.result.0.now c.split_at.ensures.front c.requires.rows

pub returns-in_err-more : goal.returns-in_err-more
returns-in_err-more c =
    let fault = err_from_is_err_and c.from_residual.result c.from_residual.ensures.1 in
    let gives = c.in_err-more.ensures in
    let count : c.len.result ≡ length c.loop-first.done.items = omega arith in
    rw (fault.1, fault.2)
    (fault_after c.args.rows.now c.args.second.now c.loop-first.left.now c.loop-first.done.items c.loop-first.invariant.0 c.batch_len.result c.batch_len.ensures.apart
    c.split_at.result.0.now c.split_at.result.1.now c.split_at.ensures.front c.split_at.ensures.back
    c.args.max_rows c.len.result c.loop-first.invariant.1 count _ gives)

pub loop-first-preserved : goal.loop-first-preserved
loop-first-preserved c =
    let extended = c.in_ok-extend_from_slice.ensures.items in
    let gives = c.in_ok-more.ensures in
    let all = extended ∙ ap (λ (v : List Row). c.loop-first.done.items ++ v) (c.deref.ensures.value ∙ c.more.view_is) in
    let count : c.len.result ≡ length c.loop-first.done.items = omega arith in (
      next_composed c.args.rows.now c.args.second.now c.loop-first.left.now c.loop-first.done.items c.loop-first.invariant.0 c.batch_len.result c.batch_len.ensures.apart
          c.split_at.result.0.now c.split_at.result.1.now c.split_at.ensures.front c.split_at.ensures.back
          c.in_ok-more.more gives.0
          (subst (λ (v : List Row). (r : Row) → Among v r → IsWellFormed r.band) c.more.view_is (c.more.invariant).formed)
          c.extend_from_slice.new.self.items all,
      within_limit c.args.max_rows c.len.result c.loop-first.done.items c.in_ok-more.more c.extend_from_slice.new.self.items all count c.loop-first.invariant.1 gives.1,
    )

pub invariant_of-result : goal.invariant_of-result
invariant_of-result c =
    relation_of (HasMiddlePoint c.args.rows.now c.args.second.now) c.loop-first.done.items (all_composed c.args.rows.now c.args.second.now c.loop-first.left.now c.loop-first.done.items c.in_default.ensures.value c.loop-first.invariant.0) (c.loop-first.invariant.0).formed

pub returns : goal.returns
returns c = (all_composed c.args.rows.now c.args.second.now c.loop-first.left.now c.loop-first.done.items c.in_default.ensures.value c.loop-first.invariant.0, c.loop-first.invariant.1)
