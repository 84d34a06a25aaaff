-- To make an edit answers a rule exactly where it is the first that the edit breaks.
use Rattle.std.proofs.Common.{◌≡◌, Result, Ok, Err, IfOk, IfErr, ap, subst}
use Rattle.std.specs.Prelude.{◌↔◌}
use Rattle.itpg_base.specs.Graphs.{Graph}
use Rattle.itpg_base.specs.declared.touch.Touch.{Touch}
use Rattle.itpg_base.specs.declared.rule_code.RuleCode.{RuleCode}
use Rattle.itpg_edit.specs.declared.edit.Edit.{Edit}
use Rattle.itpg_edit.specs.declared.fault.EditFault.{EditFault}
use Rattle.itpg_edit.specs.declared.fault.EditFault.TheVariants.{Memory, Rule}
use Rattle.itpg_edit.specs.Rules.{Breaks, rules_of, Broken, Unbroken}
use Rattle.itpg_edit.specs.Next.{Makes, Excuses}
use Rattle.itpg_edit.proofs.FirstOf.{first_unique, first_or_unbroken}

module _ {T : Type 0} (g : Graph) (edit : Edit) where
  by_rule : (result : Result T EditFault) (rule : RuleCode) → IfErr result (λ fault. Excuses g edit fault) → result ≡ Err (Rule rule) → Broken g edit rule
  by_rule result rule excuse e = subst (λ r. IfErr r (λ fault. Excuses g edit fault)) e excuse

  rule_by : (result : Result T EditFault) (rule : RuleCode) → IfOk result (λ _. Unbroken g edit) → IfErr result (λ fault. Excuses g edit fault) → Broken g edit rule → result ≡ Err (Rule rule)
  rule_by (Ok done) rule unbroken excuse broken = absurd (first_or_unbroken (Breaks g edit) (rules_of edit) rule broken unbroken)
  rule_by (Err Memory) rule unbroken excuse broken = absurd (first_or_unbroken (Breaks g edit) (rules_of edit) rule broken excuse.0)
  rule_by (Err (Rule r)) rule unbroken excuse broken = ap (λ q. Err (Rule q)) (first_unique (Breaks g edit) (rules_of edit) r rule excuse broken)

  pub exact : (result : Result T EditFault) → IfOk result (λ _. Unbroken g edit) → IfErr result (λ fault. Excuses g edit fault)
      → (rule : RuleCode) → (result ≡ Err (Rule rule)) ↔ Broken g edit rule
  exact result unbroken excuse rule = (by_rule result rule excuse, rule_by result rule unbroken excuse)

makes_unbroken : (g new : Graph) (edit : Edit) (result : Result Touch EditFault) → IfOk result (λ touch. Makes g edit new touch) → IfOk result (λ _. Unbroken g edit)
makes_unbroken g new edit (Ok touch) makes = makes.unbroken
makes_unbroken g new edit (Err fault) makes = tt

pub rule_exact : (g new : Graph) (edit : Edit) (result : Result Touch EditFault) → IfOk result (λ touch. Makes g edit new touch) → IfErr result (λ fault. Excuses g edit fault)
    → (rule : RuleCode) → (result ≡ Err (Rule rule)) ↔ Broken g edit rule
rule_exact g new edit result makes excuse = exact g edit result (makes_unbroken g new edit result makes) excuse
