use Rattle.std.proofs.Common.{◌∙◌, ◌↔◌, ◌++◌, IfSome, List, Option, Vec, ap, subst, sym}
use Rattle.std.specs.Global.{Global}
use Rattle.itpg_base.specs.Lists.{Among}
use Rattle.relation_rows.specs.declared.rows.Row.{Row}
use Rattle.relation_rows.proofs.Partitions.{first_among}
use Rattle.relation_rows.proofs.Sources.{none_passed, many_passed, few_passed, all_passed}
use Rattle.relation_rows.proofs.compose.busy_rows.Goals as goal

pub loop-first-init : goal.loop-first-init
loop-first-init c = none_passed c.args.rows.now c.new-busy.result.items c.new-busy.ensures.items c.requires

pub loop-first-preserved-in_ok-extend_from_slice-in-Some-2 : goal.loop-first-preserved-in_ok-extend_from_slice-in-Some-2
loop-first-preserved-in_ok-extend_from_slice-in-Some-2 c =
    let extended = c.in_ok-extend_from_slice-in-Some-2.ensures.items ∙ ap (λ (v : List Row). c.loop-first.busy.items ++ v) c.deref.ensures.value in
    let same = subst (λ (o : Option (Vec Row Global)). IfSome o (λ sorted. (r : Row) → Among sorted.items r ↔ Among c.split_at.result.0.now r)) c.in-Some-2.is c.in_ok-sorted.ensures.same in
    many_passed c.args.rows.now c.loop-first.left.now c.loop-first.busy.items c.loop-first.invariant c.in-Some.first.now (first_among c.loop-first.left.now c.in-Some.first.now (sym c.in-Some.ensures.value)) c.source_count.result
    c.source_count.ensures.same c.source_count.ensures.later c.split_at.result.0.now c.split_at.result.1.now c.split_at.ensures.front c.split_at.ensures.back c.extend_from_slice.new.self.items c.in-Some-2.sorted.items same extended

pub loop-first-preserved-in_ok-extend_from_slice-in-None : goal.loop-first-preserved-in_ok-extend_from_slice-in-None
loop-first-preserved-in_ok-extend_from_slice-in-None c =
    many_passed c.args.rows.now c.loop-first.left.now c.loop-first.busy.items c.loop-first.invariant c.in-Some.first.now (first_among c.loop-first.left.now c.in-Some.first.now (sym c.in-Some.ensures.value)) c.source_count.result
    c.source_count.ensures.same c.source_count.ensures.later c.split_at.result.0.now c.split_at.result.1.now c.split_at.ensures.front c.split_at.ensures.back c.extend_from_slice-in-None.new.self.items c.split_at.result.0.now (λ r. (λ a. a, λ a. a)) c.in_ok-extend_from_slice-in-None.ensures.items

pub loop-first-preserved : goal.loop-first-preserved
loop-first-preserved c =
    few_passed c.args.rows.now c.loop-first.left.now c.loop-first.busy.items c.loop-first.invariant c.in-Some.first.now (first_among c.loop-first.left.now c.in-Some.first.now (sym c.in-Some.ensures.value)) c.source_count.result
    c.source_count.ensures.same c.source_count.ensures.later c.split_at.result.0.now c.split_at.result.1.now c.split_at.ensures.front c.split_at.ensures.back c.if-group-gt-FEW.false

pub returns : goal.returns
returns c = record {
  there = (c.loop-first.invariant).there;
  busy = all_passed c.args.rows.now c.loop-first.left.now c.loop-first.busy.items c.in_default.ensures.value c.loop-first.invariant;
}
