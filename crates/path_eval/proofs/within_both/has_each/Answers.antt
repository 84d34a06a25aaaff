use Rattle.std.proofs.Common.{◌≡◌, true, ⊎_elim, List, ◌∙◌, sym, subst, rules}
use Rattle.std.specs.Prelude.{Contains}
use Rattle.std.proofs.lemmas.List.{take_all}
use Rattle.itpg_base.specs.Words.{Word}
use Rattle.label_scope.proofs.Lists.{first_ones_or_next}
use Rattle.path_eval.proofs.within_both.has_each.Goals as goal

pub loop-name-preserved : goal.loop-name-preserved
loop-name-preserved c label there =
    let has : c.has.result ≡ true = search rules in
    ⊎_elim (λ a. c.loop-name.invariant label a)
    (λ e. subst (Contains c.args.names.now) e (c.has.ensures.0 has))
    (first_ones_or_next _ _ _ label c.loop-name-test.true c.name-item.is there)

pub returns : goal.returns
returns c told label h =
    let all = take_all c.loop-name.name-index c.names-name-items.result.now c.loop-name-test.false in
    let names = c.names-name-items.ensures.value in
    c.loop-name.invariant label (subst (λ (v : List Word). Contains v label) (sym (all ∙ names)) h)
