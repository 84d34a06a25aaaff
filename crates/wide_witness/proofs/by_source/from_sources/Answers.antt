use Rattle.std.proofs.Common.{true≢false, List, take, sym, subst, refl, arith}
use Rattle.std.proofs.lemmas.Option.{slice_get-get_or}
use Rattle.itpg_base.specs.Lists.{Ordered}
use Rattle.relation_rows.specs.declared.rows.Row.{Row}
use Rattle.relation_rows.specs.Rows.{RowBefore}
use Rattle.wide_witness.proofs.Appending.{AreFrom, all_fits, all_made, as_some, none_from, row_appended, row_passed, source_later, source_new}
use Rattle.wide_witness.proofs.by_source.from_sources.Goals as goal

pub loop-i-init : goal.loop-i-init
loop-i-init c = (
  subst (λ (v : List Row). AreFrom c.args.one.now c.args.onward.now c.args.most (take 0 c.rows-rows.result.now) 0 v) (sym c.empty-all.ensures)
      (none_from c.args.one.now c.args.onward.now c.args.most c.rows-rows.result.now),
  omega arith,
)

pub is_source_had-requires-clause-place : goal.is_source_had-requires-clause-place
is_source_had-requires-clause-place c = slice_get-get_or c.rows-rows.result.now c.loop-i.i _ c.loop-i-test.true

pub loop-i-preserved-then-is_source_had : goal.loop-i-preserved-then-is_source_had
loop-i-preserved-then-is_source_had c = (
  row_passed c.args.one.now c.args.onward.now c.args.most c.rows-rows.result.now c.loop-i.i _ c.loop-i-test.true c.loop-i.total c.loop-i.all c.loop-i.invariant.0 (c.if-is_source_had.ensures.0 refl),
  c.loop-i.invariant.1,
)

pub append-requires : goal.append-requires
append-requires c =
    let one = c.args.one.now in
    let onward = c.args.onward.now in
    let rows = c.rows-rows.result.now in
    let i = c.loop-i.i in
    let place = slice_get-get_or rows i _ c.loop-i-test.true in
    let order = subst (Ordered RowBefore) (sym c.rows-rows.ensures.value) c.rows-rows.ensures.relation.normal.order in
    let later = source_new rows i _ order place (λ h. true≢false (sym (c.if-is_source_had.ensures.1 h))) in
    let made = as_some _ _ c.in-Some.closed c.in-Some.is c.in_ok-closed.ensures.made in
    source_later one onward c.args.most rows i _ c.loop-i-test.true c.loop-i.total c.loop-i.all c.loop-i.invariant.0 later c.in-Some.closed.all (made c.args.most (omega (arith, c.min-limit.ensures)))

pub loop-i-preserved : goal.loop-i-preserved
loop-i-preserved c =
    let one = c.args.one.now in
    let onward = c.args.onward.now in
    let rows = c.rows-rows.result.now in
    let i = c.loop-i.i in
    let place = slice_get-get_or rows i _ c.loop-i-test.true in
    let order = subst (Ordered RowBefore) (sym c.rows-rows.ensures.value) c.rows-rows.ensures.relation.normal.order in
    let later = source_new rows i _ order place (λ h. true≢false (sym (c.if-is_source_had.ensures.1 h))) in
    let made = as_some _ _ c.in-Some.closed c.in-Some.is c.in_ok-closed.ensures.made in
    let few = as_some _ _ c.in-Some.closed c.in-Some.is c.in_ok-closed.ensures.few in
    let within = c.if-total-max_rows.false in (
      row_appended one onward c.args.most rows i _ c.loop-i-test.true c.loop-i.total c.loop-i.all c.loop-i.invariant.0 later c.in-Some.closed.all c.append.new.self
          c.in-Some.closed.most_rows c.saturating_add-total.result
          (made c.args.most (omega (arith, c.min-limit.ensures))) few c.in_ok-append.ensures.ok (omega (arith, c.saturating_add-total.ensures, within, c.ranges.max_rows.fits)),
      within,
    )

pub returns-clause-made : goal.returns-clause-made
returns-clause-made c = all_made c.args.one.now c.args.onward.now c.args.most c.rows-rows.result.now c.rows-rows.ensures.value
    c.loop-i.i c.loop-i.total c.loop-i.all c.loop-i-test.false c.loop-i.invariant.0

pub returns-clause-fits : goal.returns-clause-fits
returns-clause-fits c = all_fits c.args.one.now c.args.onward.now c.args.most c.rows-rows.result.now c.rows-rows.ensures.value
    c.loop-i.i c.loop-i.total c.loop-i.all c.loop-i-test.false c.loop-i.invariant.0 c.args.max_rows c.loop-i.invariant.1
