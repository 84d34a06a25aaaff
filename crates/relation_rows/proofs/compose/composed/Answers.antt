use Rattle.std.proofs.Common.{◌≡◌, ◌++◌, ◌-◌, ◌∙◌, List, None, Option, length, ap, sym, subst, refl, arith}
use Rattle.std.specs.Prelude.{IfSome, slice_get}
use Rattle.std.specs.Global.{Global}
use Rattle.std.specs.declared.vec.Vec.{Vec}
use Rattle.std.proofs.lemmas.Result.{err_from_is_err_and}
use Rattle.itpg_base.specs.Lists.{Among, Ordered}
use Rattle.band_normal.specs.Bands.{IsWellFormed}
use Rattle.band_normal.proofs.PartLemmas.{none_left}
use Rattle.relation_rows.specs.declared.rows.Row.{Row}
use Rattle.relation_rows.specs.Rows.{RowBefore}
use Rattle.relation_rows.specs.Relations.{HasMiddlePoint}
use Rattle.relation_rows.specs.Direct.{AreItsRows}
use Rattle.relation_rows.proofs.Alike.{relation_of}
use Rattle.relation_rows.proofs.DirectWays.{its_wide, lone_formed}
use Rattle.relation_rows.proofs.Partitions.{front_ordered}
use Rattle.relation_rows.proofs.Composing.{HasComposed, start, next_composed, within_limit, too_wide, fault_after, group_lone, all_composed}
use Rattle.relation_rows.proofs.compose.composed.Goals as goal

pub loop-first-init : goal.loop-first-init
loop-first-init c = (
  subst (λ (v : List Row). HasComposed c.args.rows.now c.args.second.now c.args.rows.now v) (sym c.in_ok-done.ensures.items) (start c.args.rows.now c.args.second.now c.requires.order),
  rw c.in_ok-done.ensures.items (omega arith),
)

pub direct_rows-requires-clause-rows : goal.direct_rows-requires-clause-rows
direct_rows-requires-clause-rows c = group_lone c.args.rows.now c.args.second.now c.loop-first.left.now c.loop-first.done.items c.loop-first.invariant.0 c.batch_len.result c.split_at.result.0.now c.split_at.ensures.front c.requires.rows

pub returns-then-len-room : goal.returns-then-len-room
returns-then-len-room c =
    let ways = subst (λ (v : Option (Vec Row Global)). IfSome v (λ ways. AreItsRows (HasMiddlePoint c.split_at.result.0.now c.args.second.now) ways.items)) c.in-Some-2.is c.in_ok-ways.ensures in
    let count : c.len.result ≡ length c.loop-first.done.items = omega arith in
    too_wide c.args.rows.now c.args.second.now c.loop-first.left.now c.loop-first.done.items c.loop-first.invariant.0 c.batch_len.result c.batch_len.ensures.apart c.split_at.result.0.now c.split_at.result.1.now c.split_at.ensures.front c.split_at.ensures.back
    c.args.max_rows c.loop-first.invariant.1 (its_wide (HasMiddlePoint c.split_at.result.0.now c.args.second.now) c.in-Some-2.ways.items (c.args.max_rows - length c.loop-first.done.items) ways (omega arith))

pub loop-first-preserved : goal.loop-first-preserved
loop-first-preserved c =
    let ways = subst (λ (v : Option (Vec Row Global)). IfSome v (λ ways. AreItsRows (HasMiddlePoint c.split_at.result.0.now c.args.second.now) ways.items)) c.in-Some-2.is c.in_ok-ways.ensures in
    let extended = c.in_ok-extend_from_slice.ensures.items in
    let all = extended ∙ ap (λ (v : List Row). c.loop-first.done.items ++ v) c.deref.ensures.value in
    let count : c.len.result ≡ length c.loop-first.done.items = omega arith in (
      next_composed c.args.rows.now c.args.second.now c.loop-first.left.now c.loop-first.done.items c.loop-first.invariant.0 c.batch_len.result c.batch_len.ensures.apart c.split_at.result.0.now c.split_at.result.1.now c.split_at.ensures.front c.split_at.ensures.back
          c.in-Some-2.ways.items ways.normal ways.formed c.extend_from_slice.new.self.items all,
      within_limit c.args.max_rows c.len.result c.loop-first.done.items c.in-Some-2.ways.items c.extend_from_slice.new.self.items all count c.loop-first.invariant.1 (omega arith),
    )

pub invariant_of-result : goal.invariant_of-result
invariant_of-result c =
    let none : None ≡ slice_get c.loop-first.left.now 0 = subst (λ (v : List Row). None ≡ slice_get v 0) (sym (none_left c.loop-first.left.now c.if-is_empty.ensures)) refl in
    relation_of (HasMiddlePoint c.args.rows.now c.args.second.now) c.loop-first.done.items (all_composed c.args.rows.now c.args.second.now c.loop-first.left.now c.loop-first.done.items none c.loop-first.invariant.0) (c.loop-first.invariant.0).formed

pub returns-then-is_empty : goal.returns-then-is_empty
returns-then-is_empty c =
    let none : None ≡ slice_get c.loop-first.left.now 0 = subst (λ (v : List Row). None ≡ slice_get v 0) (sym (none_left c.loop-first.left.now c.if-is_empty.ensures)) refl in
    (all_composed c.args.rows.now c.args.second.now c.loop-first.left.now c.loop-first.done.items none c.loop-first.invariant.0, c.loop-first.invariant.1)

pub busy_legs-requires-clause-first : goal.busy_legs-requires-clause-first
busy_legs-requires-clause-first c = λ r a. (c.requires.rows r ((c.loop-first.invariant.0).there r a)).formed

pub busy_legs-requires-clause-second : goal.busy_legs-requires-clause-second
busy_legs-requires-clause-second c = lone_formed c.args.second.now c.requires.second

pub of_sources-requires-clause-order : goal.of_sources-requires-clause-order
of_sources-requires-clause-order c =
    subst (λ (v : List Row). Ordered RowBefore v) (sym c.split_at-in-Some-first.ensures.front) (front_ordered RowBefore c.loop-first-2.left.now c.batch_len-in-Some-first.result (c.loop-first-2.invariant.0).order)

pub of_sources-requires-clause-rows : goal.of_sources-requires-clause-rows
of_sources-requires-clause-rows c =
    group_lone c.args.rows.now c.args.second.now c.loop-first-2.left.now c.loop-first-2.done.items c.loop-first-2.invariant.0 c.batch_len-in-Some-first.result c.split_at-in-Some-first.result.0.now c.split_at-in-Some-first.ensures.front c.requires.rows

pub returns-in_err-more : goal.returns-in_err-more
returns-in_err-more c =
    let fault = err_from_is_err_and c.from_residual-in_err-more.result c.from_residual-in_err-more.ensures.1 in
    let gives = c.in_err-more.ensures in
    let count : c.len-in-Some-first.result ≡ length c.loop-first-2.done.items = omega arith in
    rw (fault.1, fault.2)
    (fault_after c.args.rows.now c.args.second.now c.loop-first-2.left.now c.loop-first-2.done.items c.loop-first-2.invariant.0 c.batch_len-in-Some-first.result c.batch_len-in-Some-first.ensures.apart
    c.split_at-in-Some-first.result.0.now c.split_at-in-Some-first.result.1.now c.split_at-in-Some-first.ensures.front c.split_at-in-Some-first.ensures.back
    c.args.max_rows c.len-in-Some-first.result c.loop-first-2.invariant.1 count _ gives)

pub loop-first-2-preserved : goal.loop-first-2-preserved
loop-first-2-preserved c =
    let extended = c.in_ok-extend_from_slice-2.ensures.items in
    let gives = c.in_ok-more.ensures in
    let all = extended ∙ ap (λ (v : List Row). c.loop-first-2.done.items ++ v) (c.deref-in-Some-first-2.ensures.value ∙ c.more.view_is) in
    let count : c.len-in-Some-first.result ≡ length c.loop-first-2.done.items = omega arith in (
      next_composed c.args.rows.now c.args.second.now c.loop-first-2.left.now c.loop-first-2.done.items c.loop-first-2.invariant.0 c.batch_len-in-Some-first.result c.batch_len-in-Some-first.ensures.apart
          c.split_at-in-Some-first.result.0.now c.split_at-in-Some-first.result.1.now c.split_at-in-Some-first.ensures.front c.split_at-in-Some-first.ensures.back
          c.in_ok-more.more gives.0
          (subst (λ (v : List Row). (r : Row) → Among v r → IsWellFormed r.band) c.more.view_is (c.more.invariant).formed)
          c.extend_from_slice-in-Some-first.new.self.items all,
      within_limit c.args.max_rows c.len-in-Some-first.result c.loop-first-2.done.items c.in_ok-more.more c.extend_from_slice-in-Some-first.new.self.items all count c.loop-first-2.invariant.1 gives.1,
    )

pub invariant_of-result-2 : goal.invariant_of-result-2
invariant_of-result-2 c =
    relation_of (HasMiddlePoint c.args.rows.now c.args.second.now) c.loop-first-2.done.items (all_composed c.args.rows.now c.args.second.now c.loop-first-2.left.now c.loop-first-2.done.items c.in_default-first.ensures.value c.loop-first-2.invariant.0) (c.loop-first-2.invariant.0).formed

pub returns : goal.returns
returns c = (all_composed c.args.rows.now c.args.second.now c.loop-first-2.left.now c.loop-first-2.done.items c.in_default-first.ensures.value c.loop-first-2.invariant.0, c.loop-first-2.invariant.1)
