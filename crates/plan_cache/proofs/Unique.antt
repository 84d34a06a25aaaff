-- No two nodes are of one member.
use Rattle.std.proofs.Common.{◌≡◌, ℕ, zero, suc, ◌<◌, ◌≤◌, List, [], ◌∷◌, ◌++◌, length, take, slice_get, Option, Some, inl, inr, ◌⊎◌, refl, sym, ap, subst, ◌∙◌, arith}
use Rattle.label_scope.specs.Members.{Member}
use Rattle.plan_cache.specs.declared.key.PlanKey.{PlanKey}
use Rattle.plan_cache.specs.Operations.{op_term, op_children}
use Rattle.plan_cache.specs.Nodes.{PlanNode, IsNodeOf, AreNodesOf, read_back, parts_of, walk_between}
use Rattle.plan_cache.specs.Stored.{node_of, nodes_from, MayFollow, AllMayFollow}
use Rattle.plan_cache.proofs.Growing.{still_nodes_of, still_reads}
use Rattle.plan_cache.proofs.Stored.{as_many, stored_at, follows_at}
use Rattle.plan_cache.proofs.Rebuilt.{same_operation}

-- nodes of one member have one number
abbrev pub AreOne : List PlanNode → Type 0
AreOne nodes = (i j : ℕ) (n m : PlanNode) → slice_get nodes i ≡ Some n → slice_get nodes j ≡ Some m → n.member ≡ m.member → i ≡ j

-- keys that mean the same have one place
abbrev pub AreApart : List PlanKey → Type 0
AreApart keys = (i j : ℕ) (k l : PlanKey) → slice_get keys i ≡ Some k → slice_get keys j ≡ Some l → op_term k.op ≡ op_term l.op → k.sources ≡ l.sources → k.targets ≡ l.targets → k.walk ≡ l.walk → i ≡ j

-- the node of a member
pub the_node : (nodes : List PlanNode) (k : ℕ) (m : Member) → IsNodeOf nodes k m → (n : PlanNode) × (slice_get nodes k ≡ Some n) × (n.member ≡ m)
the_node [] k m h = absurd h
the_node (n ∷ nodes) zero m h = (n, refl, h)
the_node (n ∷ nodes) (suc k) m h = the_node nodes k m h

same_numbers : (nodes : List PlanNode) → AreOne nodes → (ks ls : List ℕ) (ms : List Member) → AreNodesOf nodes ks ms → AreNodesOf nodes ls ms → ks ≡ ls
same_numbers nodes one [] [] ms h g = refl
same_numbers nodes one [] (l ∷ ls) [] h g = absurd g
same_numbers nodes one [] (l ∷ ls) (m ∷ ms) h g = absurd h
same_numbers nodes one (k ∷ ks) [] [] h g = absurd h
same_numbers nodes one (k ∷ ks) [] (m ∷ ms) h g = absurd g
same_numbers nodes one (k ∷ ks) (l ∷ ls) [] h g = absurd h
same_numbers nodes one (k ∷ ks) (l ∷ ls) (m ∷ ms) h g =
    let x = the_node nodes k m h.0 in
    let y = the_node nodes l m g.0 in
    let e = one k l x.0 y.0 x.1 y.1 (x.2 ∙ sym y.2) in
    let f = same_numbers nodes one ks ls ms h.1 g.1 in
    cc

-- what stands in the first so many
pub in_first : (xs : List PlanNode) (b i : ℕ) (x : PlanNode) → slice_get (take b xs) i ≡ Some x → (i < b) × (slice_get xs i ≡ Some x)
in_first [] zero i x e = cc
in_first [] (suc b) i x e = cc
in_first (y ∷ xs) zero i x e = cc
in_first (y ∷ xs) (suc b) zero x e = (omega arith, e)
in_first (y ∷ xs) (suc b) (suc i) x e = let r = in_first xs b i x e in (omega arith, r.1)

to_first : (xs : List PlanNode) (b i : ℕ) (x : PlanNode) → i < b → slice_get xs i ≡ Some x → slice_get (take b xs) i ≡ Some x
to_first [] b i x l e = cc
to_first (y ∷ xs) zero i x l e = absurd (let none : ⊥ = omega arith in none)
to_first (y ∷ xs) (suc b) zero x l e = e
to_first (y ∷ xs) (suc b) (suc i) x l e = to_first xs b i x (omega arith) e

take_more : (xs : List PlanNode) (i b : ℕ) → i ≤ b → (more : List PlanNode) × (take b xs ≡ take i xs ++ more)
take_more xs zero b l = (take b xs, refl)
take_more [] (suc i) zero l = absurd (let none : ⊥ = omega arith in none)
take_more [] (suc i) (suc b) l = ([], refl)
take_more (x ∷ xs) (suc i) zero l = absurd (let none : ⊥ = omega arith in none)
take_more (x ∷ xs) (suc i) (suc b) l = let r = take_more xs i b (omega arith) in (r.0, ap (λ v. x ∷ v) r.1)

pub some_key : (keys : List PlanKey) (i : ℕ) → i < length keys → (k : PlanKey) × (slice_get keys i ≡ Some k)
some_key [] i l = absurd (let none : ⊥ = omega arith in none)
some_key (k ∷ keys) zero l = (k, refl)
some_key (k ∷ keys) (suc i) l = some_key keys i (omega arith)

pub within : (xs : List PlanNode) (i : ℕ) (x : PlanNode) → slice_get xs i ≡ Some x → i < length xs
within [] i x e = cc
within (y ∷ xs) zero x e = omega arith
within (y ∷ xs) (suc i) x e = let r = within xs i x e in omega arith

at_most : (b i : ℕ) → i < suc b → (i ≡ b) ⊎ (i < b)
at_most zero zero l = inl refl
at_most zero (suc i) l = absurd (let none : ⊥ = omega arith in none)
at_most (suc b) zero l = inr (omega arith)
at_most (suc b) (suc i) l = elim (at_most b i (omega arith)) [ inl e ↦ inl (ap suc e) | inr h ↦ inr (omega arith) ]

module _ (keys : List PlanKey) (follow : AllMayFollow [] keys) (apart : AreApart keys) where
  some_same : (x y : PlanNode) → (let o : Option PlanNode = Some x in o) ≡ Some y → x ≡ y
  some_same x y e = cc

  -- the key of a node
  pub the_key : (i : ℕ) (n : PlanNode) → slice_get (nodes_from [] keys) i ≡ Some n → (k : PlanKey) × (slice_get keys i ≡ Some k) × (n ≡ node_of (take i (nodes_from [] keys)) k)
  the_key i n e =
      let l = within (nodes_from [] keys) i n e in
      let c = as_many [] keys in
      let k = some_key keys i (omega arith) in
      let s = stored_at [] keys i i k.0 (omega arith) k.1 in
      (k.0, k.1, some_same n (node_of (take i (nodes_from [] keys)) k.0) (sym e ∙ s))

  -- two nodes of one member, one before the other, where those before the second are each of their own member
  not_again : (b i : ℕ) (n m : PlanNode) → AreOne (take b (nodes_from [] keys)) → i < b → slice_get (nodes_from [] keys) i ≡ Some n → slice_get (nodes_from [] keys) b ≡ Some m → n.member ≡ m.member → i ≡ b
  not_again b i n m one l e f same =
      let x = the_key i n e in
      let y = the_key b m f in
      let before = take i (nodes_from [] keys) in
      let done = take b (nodes_from [] keys) in
      let more = take_more (nodes_from [] keys) i b (omega arith) in
      let first = follows_at [] keys i i x.0 (omega arith) follow x.1 in
      let second = follows_at [] keys b b y.0 (omega arith) follow y.1 in
      of x.0 y.0 x.1 y.1 before done more.0 more.1 first second one (ap (λ (v : PlanNode). v.member) (sym x.2) ∙ same ∙ ap (λ (v : PlanNode). v.member) y.2)
    where
      of : (k l : PlanKey) → slice_get keys i ≡ Some k → slice_get keys b ≡ Some l → (before done more : List PlanNode) → done ≡ before ++ more
          → MayFollow before k → MayFollow done l
          → AreOne done → (node_of before k).member ≡ (node_of done l).member → i ≡ b
      of k l e f before done more d first second one same =
          let there = subst (λ (v : List PlanNode). AreNodesOf v (op_children (op_term k.op)) (parts_of (node_of before k).member)) (sym d) (still_nodes_of before more (op_children (op_term k.op)) (parts_of (node_of before k).member) first.stand.children) in
          let here = subst (λ (v : Member). AreNodesOf done (op_children (op_term l.op)) (parts_of v)) (sym same) second.stand.children in
          let children = same_numbers done one (op_children (op_term k.op)) (op_children (op_term l.op)) (parts_of (node_of before k).member) there here in
          let reads = ap (λ (v : List PlanNode). read_back v (op_term k.op)) d ∙ still_reads before more (op_term k.op) (parts_of (node_of before k).member, first.stand.children) in
          let paths = reads ∙ ap (λ (v : Member). v.path) same in
          let ops = same_operation done (op_term k.op) (op_term l.op) paths children in
          apart i b k l e f ops (ap (λ (v : Member). v.sources) same) (ap (λ (v : Member). v.targets) same)
          (first.walk ∙ ap (λ (v : Member). walk_between v.path v.sources v.targets) same ∙ sym second.walk)

  next : (b : ℕ) → AreOne (take b (nodes_from [] keys)) → (i j : ℕ) (n m : PlanNode) → slice_get (nodes_from [] keys) i ≡ Some n → slice_get (nodes_from [] keys) j ≡ Some m → n.member ≡ m.member → (i ≡ b) ⊎ (i < b) → (j ≡ b) ⊎ (j < b) → i ≡ j
  next b before i j n m e f same (inl x) (inl y) = x ∙ sym y
  next b before i j n m e f same (inl x) (inr y) = x ∙ sym (not_again b j m n before y f (subst (λ (v : ℕ). slice_get (nodes_from [] keys) v ≡ Some n) x e) (sym same))
  next b before i j n m e f same (inr x) (inl y) = not_again b i n m before x e (subst (λ (v : ℕ). slice_get (nodes_from [] keys) v ≡ Some m) y f) same ∙ sym y
  next b before i j n m e f same (inr x) (inr y) = before i j n m (to_first (nodes_from [] keys) b i n x e) (to_first (nodes_from [] keys) b j m y f) same

  upto : (b : ℕ) → AreOne (take b (nodes_from [] keys))
  upto zero = λ i j n m e f same. absurd (let x = in_first (nodes_from [] keys) 0 i n e in let l = x.0 in let none : ⊥ = omega arith in none)
  upto (suc b) = λ i j n m e f same.
      let x = in_first (nodes_from [] keys) (suc b) i n e in
      let y = in_first (nodes_from [] keys) (suc b) j m f in
      next b (upto b) i j n m x.1 y.1 same (at_most b i x.0) (at_most b j y.0)

  pub all_one : AreOne (nodes_from [] keys)
  all_one = λ i j n m e f same.
      let l = within (nodes_from [] keys) i n e in
      let k = within (nodes_from [] keys) j m f in
      let b = length (nodes_from [] keys) in
      upto b i j n m (to_first (nodes_from [] keys) b i n l e) (to_first (nodes_from [] keys) b j m k f) same
