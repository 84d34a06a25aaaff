-- Two scopes of which the one has each label of the other.
use Rattle.std.proofs.Common.{◌≡◌, ℕ, List, sym, subst}
use Rattle.std.specs.Prelude.{Contains}
use Rattle.itpg_base.specs.Words.{Word}
use Rattle.itpg_base.specs.declared.object_number.ObjNo.{ObjNo}
use Rattle.itpg_base.specs.Graphs.{Graph}
use Rattle.itpg_base.proofs.Objects.{there, here}
use Rattle.label_scope.specs.declared.scope.Scope.{Scope}
use Rattle.label_scope.specs.declared.scope.Scope.TheVariants as kinds
use Rattle.label_scope.specs.Scopes.{IsWithin}
use Rattle.condition_eval.specs.Within.{AreWithin}
use Rattle.path_eval.specs.WithinBoth.{AreWithinBoth, IsWider}

pub all_wider : (a b : Scope) → a ≡ kinds.All → IsWider a b
all_wider a b e = subst (λ (scope : Scope). IsWider scope b) (sym e) (λ labels h. tt)

pub labels_wider : (a b : Scope) (names others : List Word) → a ≡ kinds.These names → b ≡ kinds.These others → ((label : Word) → Contains others label → Contains names label) → IsWider a b
labels_wider a b names others e f each =
    let wider : IsWider (kinds.These names) (kinds.These others) = λ labels h. (h.0, h.1, each h.0 h.2) in
    subst (λ (scope : Scope). IsWider scope b) (sym e) (subst (IsWider (kinds.These names)) (sym f) wider)

module _ (a b : Scope) (g : Graph) (objects : List ObjNo) where
  widen : (one other : Scope) (o : ℕ) → IsWider other one → IsWithin one g o → IsWithin other g o
  widen one other o wider h = let t = there g.objects o _ h in here g.objects o _ t.0 t.1 (wider t.0.labels t.2)

  pub first_of_both : IsWider b a → AreWithin a g objects → AreWithinBoth a b g objects
  first_of_both wider are = record {
    first = record { rise = are.rise; stand = are.stand; within = are.within };
    second = λ o h. widen a b o wider (are.within o h);
    whole = λ o stands s t. are.whole o stands s;
  }

  pub second_of_both : IsWider a b → AreWithin b g objects → AreWithinBoth a b g objects
  second_of_both wider are = record {
    first = record { rise = are.rise; stand = are.stand; within = λ o h. widen b a o wider (are.within o h) };
    second = are.within;
    whole = λ o stands s t. are.whole o stands t;
  }
