use Rattle.std.proofs.Common.{◌≡◌, ℕ, List, ◌∷◌, ◌∙◌, ap, sym, arith}
use Rattle.trial_script.specs.Script.{risk_line}
use Rattle.trial_script.specs.Left.{line_text}
use Rattle.trial_script.proofs.Places.{person_none, person_some, persons_over}
use Rattle.trial_script.proofs.trial.next_sign.Goals as goal

pub returns-in-Some : goal.returns-in-Some
returns-in-Some c =
    c.loop-person.invariant ∙ person_some c.loop-person.person c.loop-person.state c.sign.new.state _ c.loop-person-test.true c.in-Some.ensures.line c.sign.ensures.state
    ∙ ap (λ (l : List (List ℕ)). line_text c.in-Some.line ∷ l) (sym c.at.ensures)

pub loop-person-preserved : goal.loop-person-preserved
loop-person-preserved c =
    c.loop-person.invariant ∙ person_none c.loop-person.person c.loop-person.state c.sign.new.state c.loop-person-test.true c.in_default.ensures.line c.sign.ensures.state

pub returns : goal.returns
returns c =
    let last : c.loop-person.person ≡ 150 = omega (arith, c.loop-person.auto.person-end c.requires, c.loop-person-test.false) in
    c.loop-person.invariant ∙ persons_over c.loop-person.person c.loop-person.state last ∙ c.after_question-place.ensures.left c.loop-person.state
    ∙ ap (λ (l : List (List ℕ)). risk_line ∷ l) (sym c.at-2.ensures)
