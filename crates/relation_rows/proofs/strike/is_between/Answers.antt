use Rattle.std.proofs.Common.{length, refl, sym, ◌∙◌, arith}
use Rattle.relation_rows.proofs.StrikeLemmas.{all_come}
use Rattle.relation_rows.proofs.strike.is_between.Goals as goal

pub returns-clause-kept : goal.returns-clause-kept
returns-clause-kept c =
    let some = c.if-count-eq0.false in
    λ h. all_come c.args.kept.now c.requires (length c.args.kept.now) _ _ _ refl (omega (arith, some)) (sym c.comes_before_key-2.ensures ∙ h)
