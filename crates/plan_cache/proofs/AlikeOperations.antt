-- Operations that are found equal mean the same, and those that mean the same are found equal.
use Rattle.std.proofs.Common.{◌≡◌, ℕ, true, ◌&&◌, Option, Some, None, refl, sym, ap, ◌∙◌, true≢false, nat_eq}
use Rattle.std.specs.Cmp.{first_so, second_so}
use Rattle.std.specs.Option.{option_eq}
use Rattle.std.proofs.lemmas.Bool.{eqb-true, eq-eqb}
use Rattle.path_ast.specs.contracts.ast.LeafPartialEq.TheImpl as of_leaf
use Rattle.plan_cache.specs.declared.operations.PlanOp.{PlanOp}
use Rattle.plan_cache.specs.declared.operations.PlanOp.TheVariants as op
use Rattle.plan_cache.specs.declared.operations.PlanTest.{PlanTest}
use Rattle.plan_cache.specs.declared.operations.PlanTest.TheVariants as test
use Rattle.plan_cache.specs.contracts.operations.PlanTestPartialEq.TheImpl as of_test
use Rattle.plan_cache.specs.contracts.operations.PlanTestPartialEq.TheImpl.Laws as of_test_laws
use Rattle.plan_cache.specs.contracts.operations.PlanOpPartialEq.TheImpl as of_op
use Rattle.plan_cache.proofs.AlikeLeaves.{both_true, leaf_same, leaf_itself}
use Rattle.plan_cache.specs.Operations.{Asks, Leads, Fails, Tests, part_term, op_term}

pub test_same : (x y : PlanTest) → (of_test.ghosts).eq x y ≡ true → part_term x ≡ part_term y
test_same (test.Leaf l) (test.Leaf l') h = ap Asks (leaf_same l l' (sym (of_test_laws.is (test.Leaf l) (test.Leaf l')) ∙ h))
test_same (test.Leaf l) (test.Cond k') h = absurd (true≢false (sym (sym (of_test_laws.is (test.Leaf l) (test.Cond k')) ∙ h)))
test_same (test.Leaf l) (test.And' p' a' q' b') h = absurd (true≢false (sym (sym (of_test_laws.is (test.Leaf l) (test.And' p' a' q' b')) ∙ h)))
test_same (test.Leaf l) (test.Or' p' a' q' b') h = absurd (true≢false (sym (sym (of_test_laws.is (test.Leaf l) (test.Or' p' a' q' b')) ∙ h)))
test_same (test.Leaf l) (test.Not' p' a') h = absurd (true≢false (sym (sym (of_test_laws.is (test.Leaf l) (test.Not' p' a')) ∙ h)))
test_same (test.Cond k) (test.Leaf l') h = absurd (true≢false (sym (sym (of_test_laws.is (test.Cond k) (test.Leaf l')) ∙ h)))
test_same (test.Cond k) (test.Cond k') h = ap Leads (eqb-true k.0 k'.0 (sym (of_test_laws.is (test.Cond k) (test.Cond k')) ∙ h))
test_same (test.Cond k) (test.And' p' a' q' b') h = absurd (true≢false (sym (sym (of_test_laws.is (test.Cond k) (test.And' p' a' q' b')) ∙ h)))
test_same (test.Cond k) (test.Or' p' a' q' b') h = absurd (true≢false (sym (sym (of_test_laws.is (test.Cond k) (test.Or' p' a' q' b')) ∙ h)))
test_same (test.Cond k) (test.Not' p' a') h = absurd (true≢false (sym (sym (of_test_laws.is (test.Cond k) (test.Not' p' a')) ∙ h)))
test_same (test.And' p a q b) (test.Leaf l') h = absurd (true≢false (sym (sym (of_test_laws.is (test.And' p a q b) (test.Leaf l')) ∙ h)))
test_same (test.And' p a q b) (test.Cond k') h = absurd (true≢false (sym (sym (of_test_laws.is (test.And' p a q b) (test.Cond k')) ∙ h)))
test_same (test.And' p a q b) (test.And' p' a' q' b') h =
    let k = sym (of_test_laws.is (test.And' p a q b) (test.And' p' a' q' b')) ∙ h in
    let e = test_same a a' (first_so ((of_test.ghosts).eq a a') ((of_test.ghosts).eq b b') k) in
    let f = test_same b b' (second_so ((of_test.ghosts).eq a a') ((of_test.ghosts).eq b b') k) in
    cc
test_same (test.And' p a q b) (test.Or' p' a' q' b') h = absurd (true≢false (sym (sym (of_test_laws.is (test.And' p a q b) (test.Or' p' a' q' b')) ∙ h)))
test_same (test.And' p a q b) (test.Not' p' a') h = absurd (true≢false (sym (sym (of_test_laws.is (test.And' p a q b) (test.Not' p' a')) ∙ h)))
test_same (test.Or' p a q b) (test.Leaf l') h = absurd (true≢false (sym (sym (of_test_laws.is (test.Or' p a q b) (test.Leaf l')) ∙ h)))
test_same (test.Or' p a q b) (test.Cond k') h = absurd (true≢false (sym (sym (of_test_laws.is (test.Or' p a q b) (test.Cond k')) ∙ h)))
test_same (test.Or' p a q b) (test.And' p' a' q' b') h = absurd (true≢false (sym (sym (of_test_laws.is (test.Or' p a q b) (test.And' p' a' q' b')) ∙ h)))
test_same (test.Or' p a q b) (test.Or' p' a' q' b') h =
    let k = sym (of_test_laws.is (test.Or' p a q b) (test.Or' p' a' q' b')) ∙ h in
    let e = test_same a a' (first_so ((of_test.ghosts).eq a a') ((of_test.ghosts).eq b b') k) in
    let f = test_same b b' (second_so ((of_test.ghosts).eq a a') ((of_test.ghosts).eq b b') k) in
    cc
test_same (test.Or' p a q b) (test.Not' p' a') h = absurd (true≢false (sym (sym (of_test_laws.is (test.Or' p a q b) (test.Not' p' a')) ∙ h)))
test_same (test.Not' p a) (test.Leaf l') h = absurd (true≢false (sym (sym (of_test_laws.is (test.Not' p a) (test.Leaf l')) ∙ h)))
test_same (test.Not' p a) (test.Cond k') h = absurd (true≢false (sym (sym (of_test_laws.is (test.Not' p a) (test.Cond k')) ∙ h)))
test_same (test.Not' p a) (test.And' p' a' q' b') h = absurd (true≢false (sym (sym (of_test_laws.is (test.Not' p a) (test.And' p' a' q' b')) ∙ h)))
test_same (test.Not' p a) (test.Or' p' a' q' b') h = absurd (true≢false (sym (sym (of_test_laws.is (test.Not' p a) (test.Or' p' a' q' b')) ∙ h)))
test_same (test.Not' p a) (test.Not' p' a') h = ap Fails (test_same a a' (sym (of_test_laws.is (test.Not' p a) (test.Not' p' a')) ∙ h))

pub test_alike : (x y : PlanTest) → part_term x ≡ part_term y → (of_test.ghosts).eq x y ≡ true
test_alike (test.Leaf l) (test.Leaf l') h = of_test_laws.is (test.Leaf l) (test.Leaf l') ∙ (let e : l ≡ l' = cc in ap ((of_leaf.ghosts).eq l) (sym e) ∙ leaf_itself l)
test_alike (test.Leaf l) (test.Cond k') h = absurd (let none : ⊥ = cc in none)
test_alike (test.Leaf l) (test.And' p' a' q' b') h = absurd (let none : ⊥ = cc in none)
test_alike (test.Leaf l) (test.Or' p' a' q' b') h = absurd (let none : ⊥ = cc in none)
test_alike (test.Leaf l) (test.Not' p' a') h = absurd (let none : ⊥ = cc in none)
test_alike (test.Cond k) (test.Leaf l') h = absurd (let none : ⊥ = cc in none)
test_alike (test.Cond k) (test.Cond k') h = of_test_laws.is (test.Cond k) (test.Cond k') ∙ eq-eqb k.0 k'.0 (let e : k.0 ≡ k'.0 = cc in e)
test_alike (test.Cond k) (test.And' p' a' q' b') h = absurd (let none : ⊥ = cc in none)
test_alike (test.Cond k) (test.Or' p' a' q' b') h = absurd (let none : ⊥ = cc in none)
test_alike (test.Cond k) (test.Not' p' a') h = absurd (let none : ⊥ = cc in none)
test_alike (test.And' p a q b) (test.Leaf l') h = absurd (let none : ⊥ = cc in none)
test_alike (test.And' p a q b) (test.Cond k') h = absurd (let none : ⊥ = cc in none)
test_alike (test.And' p a q b) (test.And' p' a' q' b') h =
    let e : part_term a ≡ part_term a' = cc in
    let f : part_term b ≡ part_term b' = cc in
    of_test_laws.is (test.And' p a q b) (test.And' p' a' q' b') ∙ both_true ((of_test.ghosts).eq a a') ((of_test.ghosts).eq b b') (test_alike a a' e) (test_alike b b' f)
test_alike (test.And' p a q b) (test.Or' p' a' q' b') h = absurd (let none : ⊥ = cc in none)
test_alike (test.And' p a q b) (test.Not' p' a') h = absurd (let none : ⊥ = cc in none)
test_alike (test.Or' p a q b) (test.Leaf l') h = absurd (let none : ⊥ = cc in none)
test_alike (test.Or' p a q b) (test.Cond k') h = absurd (let none : ⊥ = cc in none)
test_alike (test.Or' p a q b) (test.And' p' a' q' b') h = absurd (let none : ⊥ = cc in none)
test_alike (test.Or' p a q b) (test.Or' p' a' q' b') h =
    let e : part_term a ≡ part_term a' = cc in
    let f : part_term b ≡ part_term b' = cc in
    of_test_laws.is (test.Or' p a q b) (test.Or' p' a' q' b') ∙ both_true ((of_test.ghosts).eq a a') ((of_test.ghosts).eq b b') (test_alike a a' e) (test_alike b b' f)
test_alike (test.Or' p a q b) (test.Not' p' a') h = absurd (let none : ⊥ = cc in none)
test_alike (test.Not' p a) (test.Leaf l') h = absurd (let none : ⊥ = cc in none)
test_alike (test.Not' p a) (test.Cond k') h = absurd (let none : ⊥ = cc in none)
test_alike (test.Not' p a) (test.And' p' a' q' b') h = absurd (let none : ⊥ = cc in none)
test_alike (test.Not' p a) (test.Or' p' a' q' b') h = absurd (let none : ⊥ = cc in none)
test_alike (test.Not' p a) (test.Not' p' a') h = of_test_laws.is (test.Not' p a) (test.Not' p' a') ∙ test_alike a a' (let e : part_term a ≡ part_term a' = cc in e)

most_same : (n m : Option ℕ) → option_eq nat_eq n m ≡ true → n ≡ m
most_same None None h = refl
most_same None (Some m) h = absurd (true≢false (sym h))
most_same (Some n) None h = absurd (true≢false (sym h))
most_same (Some n) (Some m) h = ap Some (eqb-true n m h)

most_itself : (n : Option ℕ) → option_eq nat_eq n n ≡ true
most_itself None = refl
most_itself (Some n) = eq-eqb n n refl

pub op_same : (x y : PlanOp) → (of_op.ghosts).eq x y ≡ true → op_term x ≡ op_term y
op_same (op.Test c) (op.Test c') h = ap Tests (test_same c c' h)
op_same (op.Test c) op.F h = absurd (true≢false (sym h))
op_same (op.Test c) op.B h = absurd (true≢false (sym h))
op_same (op.Test c) op.N h = absurd (true≢false (sym h))
op_same (op.Test c) op.P h = absurd (true≢false (sym h))
op_same (op.Test c) (op.Seq a' b') h = absurd (true≢false (sym h))
op_same (op.Test c) (op.Alt a' b') h = absurd (true≢false (sym h))
op_same (op.Test c) (op.Repeat r' n' m') h = absurd (true≢false (sym h))
op_same op.F (op.Test c') h = absurd (true≢false (sym h))
op_same op.F op.F h = refl
op_same op.F op.B h = absurd (true≢false (sym h))
op_same op.F op.N h = absurd (true≢false (sym h))
op_same op.F op.P h = absurd (true≢false (sym h))
op_same op.F (op.Seq a' b') h = absurd (true≢false (sym h))
op_same op.F (op.Alt a' b') h = absurd (true≢false (sym h))
op_same op.F (op.Repeat r' n' m') h = absurd (true≢false (sym h))
op_same op.B (op.Test c') h = absurd (true≢false (sym h))
op_same op.B op.F h = absurd (true≢false (sym h))
op_same op.B op.B h = refl
op_same op.B op.N h = absurd (true≢false (sym h))
op_same op.B op.P h = absurd (true≢false (sym h))
op_same op.B (op.Seq a' b') h = absurd (true≢false (sym h))
op_same op.B (op.Alt a' b') h = absurd (true≢false (sym h))
op_same op.B (op.Repeat r' n' m') h = absurd (true≢false (sym h))
op_same op.N (op.Test c') h = absurd (true≢false (sym h))
op_same op.N op.F h = absurd (true≢false (sym h))
op_same op.N op.B h = absurd (true≢false (sym h))
op_same op.N op.N h = refl
op_same op.N op.P h = absurd (true≢false (sym h))
op_same op.N (op.Seq a' b') h = absurd (true≢false (sym h))
op_same op.N (op.Alt a' b') h = absurd (true≢false (sym h))
op_same op.N (op.Repeat r' n' m') h = absurd (true≢false (sym h))
op_same op.P (op.Test c') h = absurd (true≢false (sym h))
op_same op.P op.F h = absurd (true≢false (sym h))
op_same op.P op.B h = absurd (true≢false (sym h))
op_same op.P op.N h = absurd (true≢false (sym h))
op_same op.P op.P h = refl
op_same op.P (op.Seq a' b') h = absurd (true≢false (sym h))
op_same op.P (op.Alt a' b') h = absurd (true≢false (sym h))
op_same op.P (op.Repeat r' n' m') h = absurd (true≢false (sym h))
op_same (op.Seq a b) (op.Test c') h = absurd (true≢false (sym h))
op_same (op.Seq a b) op.F h = absurd (true≢false (sym h))
op_same (op.Seq a b) op.B h = absurd (true≢false (sym h))
op_same (op.Seq a b) op.N h = absurd (true≢false (sym h))
op_same (op.Seq a b) op.P h = absurd (true≢false (sym h))
op_same (op.Seq a b) (op.Seq a' b') h =
    let e = eqb-true a.0 a'.0 (first_so (nat_eq a.0 a'.0) (nat_eq b.0 b'.0) h) in
    let f = eqb-true b.0 b'.0 (second_so (nat_eq a.0 a'.0) (nat_eq b.0 b'.0) h) in
    cc
op_same (op.Seq a b) (op.Alt a' b') h = absurd (true≢false (sym h))
op_same (op.Seq a b) (op.Repeat r' n' m') h = absurd (true≢false (sym h))
op_same (op.Alt a b) (op.Test c') h = absurd (true≢false (sym h))
op_same (op.Alt a b) op.F h = absurd (true≢false (sym h))
op_same (op.Alt a b) op.B h = absurd (true≢false (sym h))
op_same (op.Alt a b) op.N h = absurd (true≢false (sym h))
op_same (op.Alt a b) op.P h = absurd (true≢false (sym h))
op_same (op.Alt a b) (op.Seq a' b') h = absurd (true≢false (sym h))
op_same (op.Alt a b) (op.Alt a' b') h =
    let e = eqb-true a.0 a'.0 (first_so (nat_eq a.0 a'.0) (nat_eq b.0 b'.0) h) in
    let f = eqb-true b.0 b'.0 (second_so (nat_eq a.0 a'.0) (nat_eq b.0 b'.0) h) in
    cc
op_same (op.Alt a b) (op.Repeat r' n' m') h = absurd (true≢false (sym h))
op_same (op.Repeat r n m) (op.Test c') h = absurd (true≢false (sym h))
op_same (op.Repeat r n m) op.F h = absurd (true≢false (sym h))
op_same (op.Repeat r n m) op.B h = absurd (true≢false (sym h))
op_same (op.Repeat r n m) op.N h = absurd (true≢false (sym h))
op_same (op.Repeat r n m) op.P h = absurd (true≢false (sym h))
op_same (op.Repeat r n m) (op.Seq a' b') h = absurd (true≢false (sym h))
op_same (op.Repeat r n m) (op.Alt a' b') h = absurd (true≢false (sym h))
op_same (op.Repeat r n m) (op.Repeat r' n' m') h =
    let e = eqb-true r.0 r'.0 (first_so (nat_eq r.0 r'.0) (nat_eq n n' && option_eq nat_eq m m') h) in
    let k = second_so (nat_eq r.0 r'.0) (nat_eq n n' && option_eq nat_eq m m') h in
    let f = eqb-true n n' (first_so (nat_eq n n') (option_eq nat_eq m m') k) in
    let g = most_same m m' (second_so (nat_eq n n') (option_eq nat_eq m m') k) in
    cc

pub op_alike : (x y : PlanOp) → op_term x ≡ op_term y → (of_op.ghosts).eq x y ≡ true
op_alike (op.Test c) (op.Test c') h = test_alike c c' (let e : part_term c ≡ part_term c' = cc in e)
op_alike (op.Test c) op.F h = absurd (let none : ⊥ = cc in none)
op_alike (op.Test c) op.B h = absurd (let none : ⊥ = cc in none)
op_alike (op.Test c) op.N h = absurd (let none : ⊥ = cc in none)
op_alike (op.Test c) op.P h = absurd (let none : ⊥ = cc in none)
op_alike (op.Test c) (op.Seq a' b') h = absurd (let none : ⊥ = cc in none)
op_alike (op.Test c) (op.Alt a' b') h = absurd (let none : ⊥ = cc in none)
op_alike (op.Test c) (op.Repeat r' n' m') h = absurd (let none : ⊥ = cc in none)
op_alike op.F (op.Test c') h = absurd (let none : ⊥ = cc in none)
op_alike op.F op.F h = refl
op_alike op.F op.B h = absurd (let none : ⊥ = cc in none)
op_alike op.F op.N h = absurd (let none : ⊥ = cc in none)
op_alike op.F op.P h = absurd (let none : ⊥ = cc in none)
op_alike op.F (op.Seq a' b') h = absurd (let none : ⊥ = cc in none)
op_alike op.F (op.Alt a' b') h = absurd (let none : ⊥ = cc in none)
op_alike op.F (op.Repeat r' n' m') h = absurd (let none : ⊥ = cc in none)
op_alike op.B (op.Test c') h = absurd (let none : ⊥ = cc in none)
op_alike op.B op.F h = absurd (let none : ⊥ = cc in none)
op_alike op.B op.B h = refl
op_alike op.B op.N h = absurd (let none : ⊥ = cc in none)
op_alike op.B op.P h = absurd (let none : ⊥ = cc in none)
op_alike op.B (op.Seq a' b') h = absurd (let none : ⊥ = cc in none)
op_alike op.B (op.Alt a' b') h = absurd (let none : ⊥ = cc in none)
op_alike op.B (op.Repeat r' n' m') h = absurd (let none : ⊥ = cc in none)
op_alike op.N (op.Test c') h = absurd (let none : ⊥ = cc in none)
op_alike op.N op.F h = absurd (let none : ⊥ = cc in none)
op_alike op.N op.B h = absurd (let none : ⊥ = cc in none)
op_alike op.N op.N h = refl
op_alike op.N op.P h = absurd (let none : ⊥ = cc in none)
op_alike op.N (op.Seq a' b') h = absurd (let none : ⊥ = cc in none)
op_alike op.N (op.Alt a' b') h = absurd (let none : ⊥ = cc in none)
op_alike op.N (op.Repeat r' n' m') h = absurd (let none : ⊥ = cc in none)
op_alike op.P (op.Test c') h = absurd (let none : ⊥ = cc in none)
op_alike op.P op.F h = absurd (let none : ⊥ = cc in none)
op_alike op.P op.B h = absurd (let none : ⊥ = cc in none)
op_alike op.P op.N h = absurd (let none : ⊥ = cc in none)
op_alike op.P op.P h = refl
op_alike op.P (op.Seq a' b') h = absurd (let none : ⊥ = cc in none)
op_alike op.P (op.Alt a' b') h = absurd (let none : ⊥ = cc in none)
op_alike op.P (op.Repeat r' n' m') h = absurd (let none : ⊥ = cc in none)
op_alike (op.Seq a b) (op.Test c') h = absurd (let none : ⊥ = cc in none)
op_alike (op.Seq a b) op.F h = absurd (let none : ⊥ = cc in none)
op_alike (op.Seq a b) op.B h = absurd (let none : ⊥ = cc in none)
op_alike (op.Seq a b) op.N h = absurd (let none : ⊥ = cc in none)
op_alike (op.Seq a b) op.P h = absurd (let none : ⊥ = cc in none)
op_alike (op.Seq a b) (op.Seq a' b') h =
    let e : a.0 ≡ a'.0 = cc in
    let f : b.0 ≡ b'.0 = cc in
    both_true (nat_eq a.0 a'.0) (nat_eq b.0 b'.0) (eq-eqb a.0 a'.0 e) (eq-eqb b.0 b'.0 f)
op_alike (op.Seq a b) (op.Alt a' b') h = absurd (let none : ⊥ = cc in none)
op_alike (op.Seq a b) (op.Repeat r' n' m') h = absurd (let none : ⊥ = cc in none)
op_alike (op.Alt a b) (op.Test c') h = absurd (let none : ⊥ = cc in none)
op_alike (op.Alt a b) op.F h = absurd (let none : ⊥ = cc in none)
op_alike (op.Alt a b) op.B h = absurd (let none : ⊥ = cc in none)
op_alike (op.Alt a b) op.N h = absurd (let none : ⊥ = cc in none)
op_alike (op.Alt a b) op.P h = absurd (let none : ⊥ = cc in none)
op_alike (op.Alt a b) (op.Seq a' b') h = absurd (let none : ⊥ = cc in none)
op_alike (op.Alt a b) (op.Alt a' b') h =
    let e : a.0 ≡ a'.0 = cc in
    let f : b.0 ≡ b'.0 = cc in
    both_true (nat_eq a.0 a'.0) (nat_eq b.0 b'.0) (eq-eqb a.0 a'.0 e) (eq-eqb b.0 b'.0 f)
op_alike (op.Alt a b) (op.Repeat r' n' m') h = absurd (let none : ⊥ = cc in none)
op_alike (op.Repeat r n m) (op.Test c') h = absurd (let none : ⊥ = cc in none)
op_alike (op.Repeat r n m) op.F h = absurd (let none : ⊥ = cc in none)
op_alike (op.Repeat r n m) op.B h = absurd (let none : ⊥ = cc in none)
op_alike (op.Repeat r n m) op.N h = absurd (let none : ⊥ = cc in none)
op_alike (op.Repeat r n m) op.P h = absurd (let none : ⊥ = cc in none)
op_alike (op.Repeat r n m) (op.Seq a' b') h = absurd (let none : ⊥ = cc in none)
op_alike (op.Repeat r n m) (op.Alt a' b') h = absurd (let none : ⊥ = cc in none)
op_alike (op.Repeat r n m) (op.Repeat r' n' m') h =
    let e : r.0 ≡ r'.0 = cc in
    let f : n ≡ n' = cc in
    let g : m ≡ m' = cc in
    both_true (nat_eq r.0 r'.0) (nat_eq n n' && option_eq nat_eq m m') (eq-eqb r.0 r'.0 e)
    (both_true (nat_eq n n') (option_eq nat_eq m m') (eq-eqb n n' f) (ap (option_eq nat_eq m) (sym g) ∙ most_itself m))
