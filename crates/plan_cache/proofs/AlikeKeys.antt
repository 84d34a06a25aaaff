-- Keys that are found equal mean the same, and keys that mean the same are found equal.
use Rattle.std.proofs.Common.{◌≡◌, true, ◌&&◌, List, [], ◌∷◌, Option, Some, None, refl, sym, ap, ◌∙◌, true≢false, nat_eq}
use Rattle.std.specs.Cmp.{first_so, second_so}
use Rattle.std.specs.Cmp.Lexicographic.{pointwise}
use Rattle.std.specs.Option.{option_eq}
use Rattle.itpg_base.specs.Words.{Word}
use Rattle.label_scope.specs.declared.scope.Scope.{Scope}
use Rattle.label_scope.specs.declared.scope.Scope.TheVariants.{All, These}
use Rattle.label_scope.specs.contracts.scope.ScopePartialEq.TheImpl as of_scope
use Rattle.plan_cache.specs.declared.key.PlanKey.{PlanKey}
use Rattle.plan_cache.specs.contracts.operations.PlanOpPartialEq.TheImpl as of_op
use Rattle.plan_cache.specs.contracts.key.PlanKeyPartialEq.TheImpl as of_key
use Rattle.plan_cache.specs.Operations.{op_term}
use Rattle.plan_cache.proofs.AlikeLeaves.{words_same, word_itself, both_true}
use Rattle.plan_cache.proofs.AlikeOperations.{op_same, op_alike}

words_of_same : (xs ys : List Word) → pointwise (pointwise nat_eq) xs ys ≡ true → xs ≡ ys
words_of_same [] [] h = refl
words_of_same [] (y ∷ ys) h = absurd (true≢false (sym h))
words_of_same (x ∷ xs) [] h = absurd (true≢false (sym h))
words_of_same (x ∷ xs) (y ∷ ys) h =
    let e = words_same x y (first_so (pointwise nat_eq x y) (pointwise (pointwise nat_eq) xs ys) h) in
    let f = words_of_same xs ys (second_so (pointwise nat_eq x y) (pointwise (pointwise nat_eq) xs ys) h) in
    cc

words_itself : (xs : List Word) → pointwise (pointwise nat_eq) xs xs ≡ true
words_itself [] = refl
words_itself (x ∷ xs) = both_true (pointwise nat_eq x x) (pointwise (pointwise nat_eq) xs xs) (word_itself x) (words_itself xs)

scope_same : (a b : Scope) → (of_scope.ghosts).eq a b ≡ true → a ≡ b
scope_same All All h = refl
scope_same All (These names) h = absurd (true≢false (sym h))
scope_same (These names) All h = absurd (true≢false (sym h))
scope_same (These names) (These others) h = ap These (words_of_same names others h)

scope_itself : (a : Scope) → (of_scope.ghosts).eq a a ≡ true
scope_itself All = refl
scope_itself (These names) = words_itself names

scope_alike : (a b : Scope) → a ≡ b → (of_scope.ghosts).eq a b ≡ true
scope_alike a b e = ap ((of_scope.ghosts).eq a) (sym e) ∙ scope_itself a

walk_same : (a b : Option Scope) → option_eq (of_scope.ghosts).eq a b ≡ true → a ≡ b
walk_same None None h = refl
walk_same None (Some b) h = absurd (true≢false (sym h))
walk_same (Some a) None h = absurd (true≢false (sym h))
walk_same (Some a) (Some b) h = ap Some (scope_same a b h)

walk_itself : (a : Option Scope) → option_eq (of_scope.ghosts).eq a a ≡ true
walk_itself None = refl
walk_itself (Some a) = scope_itself a

-- two keys mean the same: their operations are one, and so are their scopes
pub record MeanSame (x y : PlanKey) : Type 0 where
  pub op : op_term x.op ≡ op_term y.op
  pub sources : x.sources ≡ y.sources
  pub targets : x.targets ≡ y.targets
  pub walk : x.walk ≡ y.walk

pub key_same : (x y : PlanKey) → (of_key.ghosts).eq x y ≡ true → MeanSame x y
key_same x y h =
    let o = (of_op.ghosts).eq x.op y.op in
    let s = (of_scope.ghosts).eq x.sources y.sources in
    let t = (of_scope.ghosts).eq x.targets y.targets in
    let w = option_eq (of_scope.ghosts).eq x.walk y.walk in
    let k = second_so o (s && (t && w)) h in
    let l = second_so s (t && w) k in
    record {
      op = op_same x.op y.op (first_so o (s && (t && w)) h);
      sources = scope_same x.sources y.sources (first_so s (t && w) k);
      targets = scope_same x.targets y.targets (first_so t w l);
      walk = walk_same x.walk y.walk (second_so t w l);
    }

pub key_alike : (x y : PlanKey) → MeanSame x y → (of_key.ghosts).eq x y ≡ true
key_alike x y m =
    let o = (of_op.ghosts).eq x.op y.op in
    let s = (of_scope.ghosts).eq x.sources y.sources in
    let t = (of_scope.ghosts).eq x.targets y.targets in
    let w = option_eq (of_scope.ghosts).eq x.walk y.walk in
    let walks = ap (option_eq (of_scope.ghosts).eq x.walk) (sym m.walk) ∙ walk_itself x.walk in
    both_true o (s && (t && w)) (op_alike x.op y.op m.op) (both_true s (t && w) (scope_alike x.sources y.sources m.sources) (both_true t w (scope_alike x.targets y.targets m.targets) walks))
