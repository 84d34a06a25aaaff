-- The footprint of a node is made of those of its children.
use Rattle.std.proofs.Common.{◌≡◌, ℕ, zero, suc, ◌+◌, ◌<◌, ◌≤◌, List, [], ◌∷◌, ◌++◌, length, get_or, take, slice_get, Option, Some, None, Result, Ok, Err, refl, sym, ap, subst, ◌∙◌, arith}
use Rattle.std.specs.Prelude.{IsSomeAnd, IfOk, OnErr}
use Rattle.std.proofs.lemmas.List.{length-append}
use Rattle.path_ast.specs.Terms.{PathTerm}
use Rattle.path_ast.specs.declared.ast.Leaf.TheVariants.{Node, Edge, Label, Value, Before, Exists}
use Rattle.label_scope.specs.declared.scope.Scope.{Scope}
use Rattle.label_scope.specs.declared.footprint.Footprint.{Footprint}
use Rattle.label_scope.specs.Footprints.{footprint_between}
use Rattle.label_scope.specs.Members.{Member}
use Rattle.plan_cache.specs.Operations.{PartTerm, Asks, Leads, BothHold, EitherHolds, Fails, OpTerm, op_children, part_children}
use Rattle.plan_cache.specs.Nodes.{PlanNode, IsNodeOf, AreNodesOf, IsOperation, IsWalkScope, AreShared, read_back, test_read_back, parts, parts_of, conditions, walk_between}
use Rattle.plan_cache.specs.Footprints.{footprint_of, footprints_of, AreFootprintsOf}

-- where nodes stand, their footprints do
foot_there : (nodes : List PlanNode) (k : ℕ) (m : Member) → IsNodeOf nodes k m → slice_get (footprints_of nodes) k ≡ Some (footprint_of m)
foot_there [] k m h = absurd h
foot_there (n ∷ nodes) zero m h = ap (λ (v : Member). Some (footprint_of v)) h
foot_there (n ∷ nodes) (suc k) m h = foot_there nodes k m h

feet_there : (nodes : List PlanNode) (ks : List ℕ) (ms : List Member) → AreNodesOf nodes ks ms → AreFootprintsOf (footprints_of nodes) ks ms
feet_there nodes [] [] h = tt
feet_there nodes [] (m ∷ ms) h = h
feet_there nodes (k ∷ ks) [] h = h
feet_there nodes (k ∷ ks) (m ∷ ms) h = (foot_there nodes k m h.0, feet_there nodes ks ms h.1)

pub some_node : (nodes : List PlanNode) (i : ℕ) → i < length nodes → (n : PlanNode) × (slice_get nodes i ≡ Some n)
some_node [] i l = absurd (let none : ⊥ = omega arith in none)
some_node (n ∷ nodes) zero l = (n, refl)
some_node (n ∷ nodes) (suc i) l = some_node nodes i (omega arith)

-- the children of each node stand before it, and so do their footprints
pub children_there : (nodes : List PlanNode) (feet : List Footprint) (i : ℕ) → AreShared nodes → i < length nodes → feet ≡ footprints_of (take i nodes)
    → IsSomeAnd (slice_get nodes i) (λ n. AreFootprintsOf feet n.children (parts_of n.member))
children_there nodes feet i shared l e =
    let x = some_node nodes i l in
    let there = feet_there (take i nodes) x.0.children (parts_of x.0.member) (shared.lower i x.0 x.1).children in
    subst (λ (v : Option PlanNode). IsSomeAnd v (λ n. AreFootprintsOf feet n.children (parts_of n.member))) (sym x.1)
    (subst (λ (v : List Footprint). AreFootprintsOf v x.0.children (parts_of x.0.member)) (sym e) there)

-- one footprint more is that of one node more
pub one_foot_more : (nodes : List PlanNode) (i : ℕ) (foot : Footprint) → IsSomeAnd (slice_get nodes i) (λ n. foot ≡ footprint_of n.member)
    → footprints_of (take i nodes) ++ foot ∷ [] ≡ footprints_of (take (suc i) nodes)
one_foot_more [] i foot h = absurd h
one_foot_more (n ∷ nodes) zero foot h = ap (λ (v : Footprint). v ∷ []) h
one_foot_more (n ∷ nodes) (suc i) foot h = ap (λ v. footprint_of n.member ∷ v) (one_foot_more nodes i foot h)

pub first_feet : (nodes : List PlanNode) (s i : ℕ) → s ≤ i → take s (footprints_of (take i nodes)) ≡ footprints_of (take s nodes)
first_feet nodes zero i l = refl
first_feet [] (suc s) zero l = refl
first_feet [] (suc s) (suc i) l = refl
first_feet (n ∷ nodes) (suc s) zero l = absurd (let none : ⊥ = omega arith in none)
first_feet (n ∷ nodes) (suc s) (suc i) l = ap (λ v. footprint_of n.member ∷ v) (first_feet nodes s i (omega arith))

-- a list of footprints that goes on begins as it did
pub begins_so : (nodes : List PlanNode) (old feet : List Footprint) (i : ℕ) → old ≡ footprints_of (take (length old) nodes) → length old ≤ i → feet ≡ footprints_of (take i nodes) → take (length old) feet ≡ old
begins_so nodes old feet i e l f = ap (take (length old)) f ∙ first_feet nodes (length old) i l ∙ sym e

-- and goes on by a footprint for each further node
pub goes_on : (nodes : List PlanNode) (feet : List Footprint) (i j : ℕ) (foot : Footprint) → j ≡ suc i → feet ≡ footprints_of (take i nodes) → IsSomeAnd (slice_get nodes i) (λ n. foot ≡ footprint_of n.member)
    → feet ++ foot ∷ [] ≡ footprints_of (take j nodes)
goes_on nodes feet i j foot e f h = ap (λ v. v ++ foot ∷ []) f ∙ one_foot_more nodes i foot h ∙ ap (λ (v : ℕ). footprints_of (take v nodes)) (sym e)

pub on_err : {T E : Type 0} (result : Result T E) (P : Type 0) → P → OnErr result P
on_err (Ok x) P h = tt
on_err (Err x) P h = h

pub as_many_feet : (nodes : List PlanNode) → length (footprints_of nodes) ≡ length nodes
as_many_feet [] = refl
as_many_feet (n ∷ nodes) = ap suc (as_many_feet nodes)

-- a number at which a footprint stands is below their count
pub foot_within : (feet : List Footprint) (k : ℕ) (foot : Footprint) → slice_get feet k ≡ Some foot → k < length feet
foot_within [] k foot e = cc
foot_within (f ∷ feet) zero foot e = omega arith
foot_within (f ∷ feet) (suc k) foot e = let l = foot_within feet k foot e in omega arith

-- what is known of a node by its operation and its scopes
module _ (nodes : List PlanNode) (op : OpTerm) (a b : Scope) where
  same_parts : (feet : List Footprint) (p q : PathTerm) (s t : Scope) (ks ls : List ℕ) → p ≡ q → s ≡ a → t ≡ b → ks ≡ ls → AreFootprintsOf feet ks (parts p s t) → AreFootprintsOf feet ls (parts q a b)
  same_parts feet p q s t ks ls e f g k h =
      subst (λ (v : PathTerm). AreFootprintsOf feet ls (parts v a b)) e
      (subst (λ (v : Scope). AreFootprintsOf feet ls (parts p v b)) f
      (subst (λ (v : Scope). AreFootprintsOf feet ls (parts p s v)) g
      (subst (λ (v : List ℕ). AreFootprintsOf feet v (parts p s t)) k h)))

  -- its children's footprints are those of its path's parts
  pub parts_seen : (feet : List Footprint) (o : Option PlanNode) → IsSomeAnd o (λ n. IsOperation nodes n op) → IsSomeAnd o (λ n. (n.member.sources ≡ a) × (n.member.targets ≡ b))
      → IsSomeAnd o (λ n. AreFootprintsOf feet n.children (parts_of n.member)) → AreFootprintsOf feet (op_children op) (parts (read_back nodes op) a b)
  parts_seen feet None does ends h = absurd h
  parts_seen feet (Some n) does ends h =
      same_parts feet n.member.path (read_back nodes op) n.member.sources n.member.targets n.children (op_children op) does.path ends.0 ends.1 does.children h

  -- the footprint of its path between them is its own
  pub foot_seen : (foot : Footprint) (o : Option PlanNode) → IsSomeAnd o (λ n. IsOperation nodes n op) → IsSomeAnd o (λ n. (n.member.sources ≡ a) × (n.member.targets ≡ b))
      → foot ≡ footprint_between (read_back nodes op) a b → IsSomeAnd o (λ n. foot ≡ footprint_of n.member)
  foot_seen foot None does ends h = absurd does
  foot_seen foot (Some n) does ends h = h ∙ sym (same n.member.path n.member.sources n.member.targets does.path ends.0 ends.1)
    where
      same : (p : PathTerm) (s t : Scope) → p ≡ read_back nodes op → s ≡ a → t ≡ b → footprint_between p s t ≡ footprint_between (read_back nodes op) a b
      same p s t e f g = cc

  -- its walk scope is that of its path between them
  pub walk_seen : (walk : Option Scope) (o : Option PlanNode) → IsSomeAnd o (λ n. IsOperation nodes n op) → IsSomeAnd o (λ n. (n.member.sources ≡ a) × (n.member.targets ≡ b))
      → IsSomeAnd o (λ n. IsWalkScope n.member walk) → walk ≡ walk_between (read_back nodes op) a b
  walk_seen walk None does ends h = absurd does
  walk_seen walk (Some n) does ends h = h ∙ same n.member.path n.member.sources n.member.targets does.path ends.0 ends.1
    where
      same : (p : PathTerm) (s t : Scope) → p ≡ read_back nodes op → s ≡ a → t ≡ b → walk_between p s t ≡ walk_between (read_back nodes op) a b
      same p s t e f g = cc

-- the footprints that two tests need
parted : (feet : List Footprint) (ks ls : List ℕ) (ms ns : List Member) → length ks ≡ length ms → AreFootprintsOf feet (ks ++ ls) (ms ++ ns)
    → AreFootprintsOf feet ks ms × AreFootprintsOf feet ls ns
parted feet [] ls [] ns e h = (tt, h)
parted feet [] ls (m ∷ ms) ns e h = absurd (let none : ⊥ = omega arith in none)
parted feet (k ∷ ks) ls [] ns e h = absurd (let none : ⊥ = omega arith in none)
parted feet (k ∷ ks) ls (m ∷ ms) ns e h = let rest = parted feet ks ls ms ns (omega arith) h.1 in ((h.0, rest.0), rest.1)

as_many_conditions : (nodes : List PlanNode) (c : PartTerm) (a : Scope) → length (part_children c) ≡ length (conditions (test_read_back nodes c) a)
as_many_conditions nodes (Asks Node) a = refl
as_many_conditions nodes (Asks Edge) a = refl
as_many_conditions nodes (Asks (Label label)) a = refl
as_many_conditions nodes (Asks (Value prop value)) a = refl
as_many_conditions nodes (Asks (Before k)) a = refl
as_many_conditions nodes (Asks Exists) a = refl
as_many_conditions nodes (Leads k) a = refl
as_many_conditions nodes (BothHold c d) a =
    let e = as_many_conditions nodes c a in
    let f = as_many_conditions nodes d a in
    let l = length-append (part_children c) (part_children d) in
    let m = length-append (conditions (test_read_back nodes c) a) (conditions (test_read_back nodes d) a) in
    omega arith
as_many_conditions nodes (EitherHolds c d) a =
    let e = as_many_conditions nodes c a in
    let f = as_many_conditions nodes d a in
    let l = length-append (part_children c) (part_children d) in
    let m = length-append (conditions (test_read_back nodes c) a) (conditions (test_read_back nodes d) a) in
    omega arith
as_many_conditions nodes (Fails c) a = as_many_conditions nodes c a

-- how large a test is
abbrev pub part_size : PartTerm → ℕ
part_size (Asks leaf) = 1
part_size (Leads k) = 1
part_size (BothHold c d) = part_size c + part_size d + 1
part_size (EitherHolds c d) = part_size c + part_size d + 1
part_size (Fails c) = part_size c + 1

pub got_foot : (feet : List Footprint) (k : ℕ) (f g : Footprint) → f ≡ get_or feet k f → slice_get feet k ≡ Some g → f ≡ g
got_foot [] k f g e h = cc
got_foot (x ∷ feet) zero f g e h = e ∙ (let same : x ≡ g = cc in same)
got_foot (x ∷ feet) (suc k) f g e h = got_foot feet k f g e h

-- what a call that may fail gives, by another name
pub same_given : {E : Type 0} (result : Result Footprint E) (f g : Footprint) → IfOk result (λ x. x ≡ f) → f ≡ g → IfOk result (λ x. x ≡ g)
same_given (Ok x) f g h e = h ∙ e
same_given (Err x) f g h e = tt

pub both_parted : (nodes : List PlanNode) (feet : List Footprint) (c d : PartTerm) (a : Scope)
    → AreFootprintsOf feet (part_children c ++ part_children d) (conditions (test_read_back nodes c) a ++ conditions (test_read_back nodes d) a)
    → AreFootprintsOf feet (part_children c) (conditions (test_read_back nodes c) a) × AreFootprintsOf feet (part_children d) (conditions (test_read_back nodes d) a)
both_parted nodes feet c d a h = parted feet (part_children c) (part_children d) (conditions (test_read_back nodes c) a) (conditions (test_read_back nodes d) a) (as_many_conditions nodes c a) h
