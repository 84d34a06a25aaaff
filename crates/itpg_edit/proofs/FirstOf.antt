-- The first of some rules that is broken.
use Rattle.std.proofs.Common.{◌≡◌, List, [], ◌∷◌, ◌++◌, ◌⊎◌, inl, inr, Option, Result, Ok, Err, IfOk, IfErr, refl, sym, subst, ◌∙◌}
use Rattle.std.specs.Prelude.{MatchOption}
use Rattle.std.specs.Result.{result_err}
use Rattle.itpg_base.specs.Decided.{Decided}
use Rattle.itpg_base.specs.declared.rule_code.RuleCode.{RuleCode}
use Rattle.itpg_edit.specs.Rules.{NoneOf, FirstOf}

module _ (P : RuleCode → Type 0) where
  pub first_unique : (rules : List RuleCode) (r q : RuleCode) → FirstOf P rules r → FirstOf P rules q → r ≡ q
  first_unique [] r q a b = absurd a
  first_unique (x ∷ xs) r q (inl a) (inl b) = a.1 ∙ sym b.1
  first_unique (x ∷ xs) r q (inl a) (inr b) = absurd (b.0 a.0)
  first_unique (x ∷ xs) r q (inr a) (inl b) = absurd (a.0 b.0)
  first_unique (x ∷ xs) r q (inr a) (inr b) = first_unique xs r q a.1 b.1

  pub first_or_unbroken : (rules : List RuleCode) (r : RuleCode) → FirstOf P rules r → NoneOf P rules → ⊥
  first_or_unbroken [] r a none = a
  first_or_unbroken (x ∷ xs) r (inl a) none = none.0 a.0
  first_or_unbroken (x ∷ xs) r (inr a) none = first_or_unbroken xs r a.1 none.1

  pub first_longer : (rules more : List RuleCode) (r : RuleCode) → FirstOf P rules r → FirstOf P (rules ++ more) r
  first_longer [] more r a = absurd a
  first_longer (x ∷ xs) more r (inl a) = inl a
  first_longer (x ∷ xs) more r (inr a) = inr (a.0, first_longer xs more r a.1)

  pub first_after : (rules more : List RuleCode) (r : RuleCode) → NoneOf P rules → FirstOf P more r → FirstOf P (rules ++ more) r
  first_after [] more r none a = a
  first_after (x ∷ xs) more r none a = inr (none.0, first_after xs more r none.1 a)

  pub none_after : (rules more : List RuleCode) → NoneOf P rules → NoneOf P more → NoneOf P (rules ++ more)
  none_after [] more none last = last
  none_after (x ∷ xs) more none last = (none.0, none_after xs more none.1 last)

  pub first_or_none : (rules : List RuleCode) → ((r : RuleCode) → Decided (P r)) → ((r : RuleCode) × FirstOf P rules r) ⊎ NoneOf P rules
  first_or_none [] each = inr tt
  first_or_none (x ∷ xs) each = elim (each x) [
    | inl broken ↦ inl (x, inl (broken, refl))
    | inr kept ↦ elim (first_or_none xs each) [
      | inl later ↦ inl (later.0, inr (kept, later.1))
      | inr none ↦ inr (kept, none)
    ]
  ]

-- a check that finds nothing, or the first rule that is broken
pub told : {T : Type 0} (r : Result T RuleCode) (found : Option RuleCode) (U : Type 0) (B : RuleCode → Type 0) → found ≡ result_err r → IfOk r (λ _. U) → IfErr r B → MatchOption found U B
told (Ok x) found U B e ok err = subst (λ p. MatchOption p U B) (sym e) ok
told (Err rule) found U B e ok err = subst (λ p. MatchOption p U B) (sym e) err
