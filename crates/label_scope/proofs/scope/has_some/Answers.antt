use Rattle.std.proofs.Common.{⊎_elim, List, ◌∙◌, sym, subst, true≢false}
use Rattle.std.specs.Prelude.{Contains}
use Rattle.std.proofs.lemmas.List.{take_all}
use Rattle.itpg_base.specs.Words.{Word}
use Rattle.label_scope.proofs.Lists.{first_ones_or_next}
use Rattle.label_scope.proofs.scope.has_some.Goals as goal

pub loop-name-preserved : goal.loop-name-preserved
loop-name-preserved c label there has =
    ⊎_elim (λ a. c.loop-name.invariant label a has)
    (λ e. true≢false (sym (c.has.ensures.1 (subst (Contains c.args.labels.now) (sym e) has)) ∙ c.if-has.false))
    (first_ones_or_next _ _ _ label c.loop-name-test.true c.name-item.is there)

pub returns : goal.returns
returns c =
    let all = take_all c.loop-name.name-index c.names-name-items.result.now c.loop-name-test.false in
    let names = c.names-name-items.ensures.value in
    ((λ f. absurd (true≢false (sym f))), (λ h. absurd (c.loop-name.invariant h.0 (subst (λ (v : List Word). Contains v h.0) (sym (all ∙ names)) h.2) h.1)))
