-- An operation over other numbers.
use Rattle.std.proofs.Common.{◌≡◌, ℕ, List, [], ◌∷◌, ◌++◌, map, inl, inr, refl, sym, ap, ◌∙◌}
use Rattle.itpg_base.specs.Lists.{Among}
use Rattle.itpg_base.proofs.Lists.{append_first, append_second}
use Rattle.path_ast.specs.Terms.{OfTest, Condition, Negation}
use Rattle.plan_cache.specs.Operations.{PartTerm, Asks, Leads, BothHold, EitherHolds, Fails, OpTerm, Tests, GoesForward, GoesBackward, GoesNext, GoesPrevious, InTurn, OneOf, Times, op_children, part_children}
use Rattle.plan_cache.specs.Nodes.{PlanNode, path_at, read_back, test_read_back}
use Rattle.plan_cache.specs.Former.{part_renumbered, op_renumbered}

map_both : {X Y : Type 0} (f : X → Y) (xs ys : List X) → map f (xs ++ ys) ≡ map f xs ++ map f ys
map_both f [] ys = refl
map_both f (x ∷ xs) ys = ap (λ v. f x ∷ v) (map_both f xs ys)

-- its children are the other numbers of its children
part_children_moved : (f : ℕ → ℕ) (c : PartTerm) → part_children (part_renumbered f c) ≡ map f (part_children c)
part_children_moved f (Asks leaf) = refl
part_children_moved f (Leads k) = refl
part_children_moved f (BothHold c d) =
    ap (λ v. v ++ part_children (part_renumbered f d)) (part_children_moved f c) ∙ ap (λ v. map f (part_children c) ++ v) (part_children_moved f d) ∙ sym (map_both f (part_children c) (part_children d))
part_children_moved f (EitherHolds c d) =
    ap (λ v. v ++ part_children (part_renumbered f d)) (part_children_moved f c) ∙ ap (λ v. map f (part_children c) ++ v) (part_children_moved f d) ∙ sym (map_both f (part_children c) (part_children d))
part_children_moved f (Fails c) = part_children_moved f c

pub children_moved : (f : ℕ → ℕ) (op : OpTerm) → op_children (op_renumbered f op) ≡ map f (op_children op)
children_moved f (Tests c) = part_children_moved f c
children_moved f GoesForward = refl
children_moved f GoesBackward = refl
children_moved f GoesNext = refl
children_moved f GoesPrevious = refl
children_moved f (InTurn a b) = refl
children_moved f (OneOf a b) = refl
children_moved f (Times body n m) = refl

-- it reads back as the same, where each child's other number has the child's path
module _ (old nodes : List PlanNode) (f : ℕ → ℕ) where
  abbrev Agree : List ℕ → Type 0
  Agree ks = (k : ℕ) → Among ks k → path_at old (f k) ≡ path_at nodes k

  part_reads : (c : PartTerm) → Agree (part_children c) → test_read_back old (part_renumbered f c) ≡ test_read_back nodes c
  part_reads (Asks leaf) h = refl
  part_reads (Leads k) h = ap Condition (h k (inl refl))
  part_reads (BothHold c d) h =
      let e = part_reads c (λ k i. h k (append_first (part_children c) (part_children d) k i)) in
      let g = part_reads d (λ k i. h k (append_second (part_children c) (part_children d) k i)) in
      cc
  part_reads (EitherHolds c d) h =
      let e = part_reads c (λ k i. h k (append_first (part_children c) (part_children d) k i)) in
      let g = part_reads d (λ k i. h k (append_second (part_children c) (part_children d) k i)) in
      cc
  part_reads (Fails c) h = ap Negation (part_reads c h)

  pub reads_moved : (op : OpTerm) → Agree (op_children op) → read_back old (op_renumbered f op) ≡ read_back nodes op
  reads_moved (Tests c) h = ap OfTest (part_reads c h)
  reads_moved GoesForward h = refl
  reads_moved GoesBackward h = refl
  reads_moved GoesNext h = refl
  reads_moved GoesPrevious h = refl
  reads_moved (InTurn a b) h = let e = h a (inl refl) in let g = h b (inr (inl refl)) in cc
  reads_moved (OneOf a b) h = let e = h a (inl refl) in let g = h b (inr (inl refl)) in cc
  reads_moved (Times body n m) h = let e = h body (inl refl) in cc
