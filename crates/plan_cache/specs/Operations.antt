-- The operations of plan nodes as plain data, whatever the addresses of their boxes.
use Rattle.std.specs.Prelude.{ℕ, List, [], ◌∷◌, ◌++◌, Option}
use Rattle.path_ast.specs.declared.ast.Leaf.{Leaf}
use Rattle.plan_cache.specs.declared.operations.PlanOp.{PlanOp}
use Rattle.plan_cache.specs.declared.operations.PlanOp.TheVariants as op
use Rattle.plan_cache.specs.declared.operations.PlanTest.{PlanTest}
use Rattle.plan_cache.specs.declared.operations.PlanTest.TheVariants as test

-- a test, whose conditions are the numbers of nodes
pub data PartTerm : Type 0 where
  Asks : Leaf → PartTerm
  Leads : ℕ → PartTerm
  BothHold : PartTerm → PartTerm → PartTerm
  EitherHolds : PartTerm → PartTerm → PartTerm
  Fails : PartTerm → PartTerm

-- what a node does
pub data OpTerm : Type 0 where
  Tests : PartTerm → OpTerm
  GoesForward : OpTerm
  GoesBackward : OpTerm
  GoesNext : OpTerm
  GoesPrevious : OpTerm
  InTurn : ℕ → ℕ → OpTerm
  OneOf : ℕ → ℕ → OpTerm
  Times : ℕ → ℕ → Option ℕ → OpTerm

-- the term that a test in memory stands for
abbrev pub part_term : PlanTest → PartTerm
part_term (test.Leaf leaf) = Asks leaf
part_term (test.Cond k) = Leads k.0
part_term (test.And' p a q b) = BothHold (part_term a) (part_term b)
part_term (test.Or' p a q b) = EitherHolds (part_term a) (part_term b)
part_term (test.Not' p a) = Fails (part_term a)

-- the term that an operation in memory stands for
abbrev pub op_term : PlanOp → OpTerm
op_term (op.Test c) = Tests (part_term c)
op_term op.F = GoesForward
op_term op.B = GoesBackward
op_term op.N = GoesNext
op_term op.P = GoesPrevious
op_term (op.Seq a b) = InTurn a.0 b.0
op_term (op.Alt a b) = OneOf a.0 b.0
op_term (op.Repeat body least most) = Times body.0 least most

-- the nodes that a test, or an operation, names, in order
abbrev pub part_children : PartTerm → List ℕ
part_children (Asks leaf) = []
part_children (Leads k) = k ∷ []
part_children (BothHold c d) = part_children c ++ part_children d
part_children (EitherHolds c d) = part_children c ++ part_children d
part_children (Fails c) = part_children c

abbrev pub op_children : OpTerm → List ℕ
op_children (Tests c) = part_children c
op_children GoesForward = []
op_children GoesBackward = []
op_children GoesNext = []
op_children GoesPrevious = []
op_children (InTurn a b) = a ∷ b ∷ []
op_children (OneOf a b) = a ∷ b ∷ []
op_children (Times body least most) = body ∷ []
