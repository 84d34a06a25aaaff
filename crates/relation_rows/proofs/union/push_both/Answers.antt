use Rattle.std.proofs.Common.{◌≡◌, ◌++◌, ◌∙◌, List, ap, arith, length}
use Rattle.std.proofs.lemmas.Bool.Decides.{Decides-eqb}
use Rattle.std.proofs.lemmas.Slice.Eq.{slice_eq-Decides}
use Rattle.band_normal.specs.declared.band.Band.{Band}
use Rattle.relation_rows.specs.Rows.{rows_at}
use Rattle.relation_rows.proofs.Equal.{row_decides}
use Rattle.relation_rows.proofs.Merged.{pushed_here, pushed_there, pushed_same}
use Rattle.relation_rows.proofs.union.push_both.Goals as goal

pub returns-then-is_empty : goal.returns-then-is_empty
returns-then-is_empty c =
    let extended = c.in_ok-push_rows.ensures in
    let none : length c.args.there.now ≡ 0 = grind (arith, Decides-eqb) in
    pushed_here c.args.key.now c.args.here.now c.args.there.now c.args.rows.now.items c.push_rows.new.rows.items c.requires.here none extended

pub returns-then-is_empty-2 : goal.returns-then-is_empty-2
returns-then-is_empty-2 c =
    let extended = c.in_ok-push_rows-2.ensures in
    let none : length c.args.here.now ≡ 0 = grind (arith, Decides-eqb) in
    pushed_there c.args.key.now c.args.here.now c.args.there.now c.args.rows.now.items c.push_rows-then-is_empty-2.new.rows.items c.requires.there none extended

pub returns-then-eq : goal.returns-then-eq
returns-then-eq c =
    let same = (slice_eq-Decides row_decides c.args.here.now c.args.there.now c.eq.result c.eq.ensures).0 c.if-eq.true in
    pushed_same c.args.key.now c.args.here.now c.args.there.now c.args.rows.now.items c.push_rows-then-eq.new.rows.items c.requires.here same c.in_ok-push_rows-3.ensures

pub returns : goal.returns
returns c =
    let pushed = c.in_ok-push_bands.ensures in (
      c.learn_both.new.known,
      c.in_ok-learn_both.ensures.normal,
      c.in_ok-learn_both.ensures.formed,
      pushed ∙ ap (λ (v : List Band). c.args.rows.now.items ++ rows_at c.args.key.now.source.0 c.args.key.now.target.0 v) c.bands.ensures,
    )
