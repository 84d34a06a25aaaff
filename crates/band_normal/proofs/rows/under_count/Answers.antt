use Rattle.std.proofs.Common.{◌<◌, length, refl, sym, subst, arith}
use Rattle.std.proofs.lemmas.Option.{get_or_from_slice_get, slice_get_within}
use Rattle.band_normal.specs.declared.band.Band.{Band}
use Rattle.band_normal.specs.Rows.{IsUnder}
use Rattle.itpg_base.proofs.Lists.{among_at}
use Rattle.band_normal.proofs.Prolonging.{not_true}
use Rattle.band_normal.proofs.LineLemmas.{under_more}
use Rattle.band_normal.proofs.rows.under_count.Goals as goal

pub is_under-requires-clause-row_formed : goal.is_under-requires-clause-row_formed
is_under-requires-clause-row_formed c = c.requires.rows_formed _ (among_at _ _ _ c.loop-i-test.true)

pub returns-then-not-is_under-clause-next : goal.returns-then-not-is_under-clause-next
returns-then-not-is_under-clause-next c = λ b e u.
    not_true c.if-not-is_under.ensures (subst (λ (v : Band). IsUnder v c.args.strip) (sym (get_or_from_slice_get c.args.rows.now c.loop-i.i b _ e)) u)

pub loop-i-preserved : goal.loop-i-preserved
loop-i-preserved c = λ b k. under_more _ _ _ c.args.strip c.loop-i-test.true c.loop-i.invariant (c.if-not-is_under.ensures.0 refl) b k

pub returns-clause-next : goal.returns-clause-next
returns-clause-next c = λ b e u. let lt : length c.args.rows.now < length c.args.rows.now = slice_get_within c.args.rows.now (length c.args.rows.now) b e in omega arith
