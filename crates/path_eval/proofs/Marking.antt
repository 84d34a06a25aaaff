-- Marking what is reached, from the greatest number down.
use Rattle.std.proofs.Common.{◌≡◌, ℕ, zero, suc, ◌+◌, ◌<◌, ◌≤◌, Bool, true, false, List, [], ◌∷◌, ◌++◌, length, replicate, take, slice_get, slice_set, Option, Some, None, inl, inr, ◌⊎◌, refl, sym, ap, subst, ◌∙◌, arith}
use Rattle.std.specs.Prelude.{IsSomeAnd}
use Rattle.itpg_base.specs.Lists.{Among}
use Rattle.itpg_base.specs.Walks.{IsWalk}
use Rattle.label_scope.specs.Members.{Member}
use Rattle.plan_cache.specs.Operations.{OpTerm, op_children}
use Rattle.plan_cache.specs.Nodes.{PlanNode, Kept, AreNodesOf, AreShared, IsOperation}
use Rattle.path_eval.specs.Keeping.{LeadsTo}
use Rattle.path_eval.specs.Reached.{AllBelow, marked, IsMarking, AreReached}

pub marked_both : (ks ls : List ℕ) (marks : List Bool) → marked (ks ++ ls) marks ≡ marked ls (marked ks marks)
marked_both [] ls marks = refl
marked_both (k ∷ ks) ls marks = marked_both ks ls (slice_set marks k true)

pub length_set_mark : (marks : List Bool) (k : ℕ) (b : Bool) → length (slice_set marks k b) ≡ length marks
length_set_mark [] k b = refl
length_set_mark (m ∷ marks) zero b = refl
length_set_mark (m ∷ marks) (suc k) b = ap suc (length_set_mark marks k b)

pub length_marked : (ks : List ℕ) (marks : List Bool) → length (marked ks marks) ≡ length marks
length_marked [] marks = refl
length_marked (k ∷ ks) marks = length_marked ks (slice_set marks k true) ∙ length_set_mark marks k true

set_there : (marks : List Bool) (k : ℕ) → k < length marks → slice_get (slice_set marks k true) k ≡ Some true
set_there [] k l = absurd (let none : ⊥ = omega arith in none)
set_there (m ∷ marks) zero l = refl
set_there (m ∷ marks) (suc k) l = set_there marks k (omega arith)

set_stays : (marks : List Bool) (k j : ℕ) → slice_get marks j ≡ Some true → slice_get (slice_set marks k true) j ≡ Some true
set_stays [] k j e = e
set_stays (m ∷ marks) zero zero e = refl
set_stays (m ∷ marks) zero (suc j) e = e
set_stays (m ∷ marks) (suc k) zero e = e
set_stays (m ∷ marks) (suc k) (suc j) e = set_stays marks k j e

set_from : (marks : List Bool) (k j : ℕ) → slice_get (slice_set marks k true) j ≡ Some true → (k ≡ j) ⊎ (slice_get marks j ≡ Some true)
set_from [] k j e = inr e
set_from (m ∷ marks) zero zero e = inl refl
set_from (m ∷ marks) zero (suc j) e = inr e
set_from (m ∷ marks) (suc k) zero e = inr e
set_from (m ∷ marks) (suc k) (suc j) e = elim (set_from marks k j e) [ inl h ↦ inl (ap suc h) | inr h ↦ inr h ]

pub marked_stays : (ks : List ℕ) (marks : List Bool) (j : ℕ) → slice_get marks j ≡ Some true → slice_get (marked ks marks) j ≡ Some true
marked_stays [] marks j e = e
marked_stays (k ∷ ks) marks j e = marked_stays ks (slice_set marks k true) j (set_stays marks k j e)

pub marked_in : (ks : List ℕ) (marks : List Bool) (j : ℕ) → AllBelow (length marks) ks → Among ks j → slice_get (marked ks marks) j ≡ Some true
marked_in [] marks j l h = absurd h
marked_in (k ∷ ks) marks j l (inl e) = marked_stays ks (slice_set marks k true) j (subst (λ (v : ℕ). slice_get (slice_set marks k true) v ≡ Some true) e (set_there marks k l.0))
marked_in (k ∷ ks) marks j l (inr h) = marked_in ks (slice_set marks k true) j (subst (λ (v : ℕ). AllBelow v ks) (sym (length_set_mark marks k true)) l.1) h

pub marked_from : (ks : List ℕ) (marks : List Bool) (j : ℕ) → slice_get (marked ks marks) j ≡ Some true → Among ks j ⊎ (slice_get marks j ≡ Some true)
marked_from [] marks j e = inr e
marked_from (k ∷ ks) marks j e = elim (marked_from ks (slice_set marks k true) j e) [
  | inl h ↦ inl (inr h)
  | inr h ↦ elim (set_from marks k j h) [ inl g ↦ inl (inl g) | inr g ↦ inr g ]
]

pub below_more : (n m : ℕ) (ks : List ℕ) → n ≤ m → AllBelow n ks → AllBelow m ks
below_more n m [] l h = tt
below_more n m (k ∷ ks) l h = ((let f = h.0 in omega arith), below_more n m ks l h.1)

pub below_first : (n : ℕ) (ks ls : List ℕ) → AllBelow n (ks ++ ls) → AllBelow n ks
below_first n [] ls h = tt
below_first n (k ∷ ks) ls h = (h.0, below_first n ks ls h.1)

pub below_second : (n : ℕ) (ks ls : List ℕ) → AllBelow n (ks ++ ls) → AllBelow n ls
below_second n [] ls h = h
below_second n (k ∷ ks) ls h = below_second n ks ls h.1

is_below : (n : ℕ) (ks : List ℕ) (j : ℕ) → AllBelow n ks → Among ks j → j < n
is_below n [] j l h = absurd h
is_below n (k ∷ ks) j l (inl e) = let f = l.0 in omega arith
is_below n (k ∷ ks) j l (inr h) = is_below n ks j l.1 h

-- children have lower numbers
in_taken : (nodes : List PlanNode) (n k : ℕ) (m : Member) → IsSomeAnd (slice_get (take n nodes) k) (λ x. x.member ≡ m) → k < n
in_taken [] zero k m h = absurd h
in_taken [] (suc n) k m h = absurd h
in_taken (x ∷ nodes) zero k m h = absurd h
in_taken (x ∷ nodes) (suc n) zero m h = omega arith
in_taken (x ∷ nodes) (suc n) (suc k) m h = let r = in_taken nodes n k m h in omega arith

taken_below : (nodes : List PlanNode) (n : ℕ) (ks : List ℕ) (ms : List Member) → AreNodesOf (take n nodes) ks ms → AllBelow n ks
taken_below nodes n [] ms h = tt
taken_below nodes n (k ∷ ks) [] h = absurd h
taken_below nodes n (k ∷ ks) (m ∷ ms) h = (in_taken nodes n k m h.0, taken_below nodes n ks ms h.1)

some_node : (P : PlanNode → Type 0) (o : Option PlanNode) → IsSomeAnd o P → (n : PlanNode) × (o ≡ Some n) × P n
some_node P None h = absurd h
some_node P (Some n) h = (n, refl, h)

module _ (nodes : List PlanNode) (shared : AreShared nodes) where
  pub children_below : (k : ℕ) (op : OpTerm) → IsSomeAnd (slice_get nodes k) (λ n. IsOperation nodes n op) → AllBelow k (op_children op)
  children_below k op h =
      let n = some_node (λ n. IsOperation nodes n op) (slice_get nodes k) h in
      let stand = shared.lower k n.0 n.1 in
      subst (AllBelow k) n.2.children (taken_below nodes k n.0.children _ stand.children)

pub one_step : (R : ℕ → ℕ → Type 0) (x y z : ℕ) (zs : List ℕ) → IsWalk R x zs y → R y z → IsWalk R x (zs ++ z ∷ []) z
one_step R x y z [] w r = (subst (λ (v : ℕ). R v z) (sym w) r, refl)
one_step R x y z (u ∷ zs) w r = (w.0, one_step R u y z zs w.1 r)

-- all that is reached is marked in the end
pub all_reached : (nodes : List PlanNode) (kept : List Kept) (n : ℕ) (marks : List Bool) → IsMarking nodes kept n 0 marks → AreReached nodes kept n marks
all_reached nodes kept n marks m = record {
  long = m.long;
  sound = m.sound;
  whole = λ j h. along n h.0 j m.start h.1;
}
  where
    along : (x : ℕ) (zs : List ℕ) (j : ℕ) → slice_get marks x ≡ Some true → IsWalk (LeadsTo nodes kept) x zs j → slice_get marks j ≡ Some true
    along x [] j e w = subst (λ (v : ℕ). slice_get marks v ≡ Some true) w e
    along x (z ∷ zs) j e w = along z zs j (m.closed x z (omega arith) e w.0) w.1

which_first : (k x : ℕ) → k ≤ x → (k ≡ x) ⊎ (suc k ≤ x)
which_first zero zero l = inl refl
which_first zero (suc x) l = inr (omega arith)
which_first (suc k) zero l = absurd (let none : ⊥ = omega arith in none)
which_first (suc k) (suc x) l = elim (which_first k x (omega arith)) [ inl e ↦ inl (ap suc e) | inr h ↦ inr (omega arith) ]

-- a marked node at which nothing is kept, whose children are marked now
pub marks_on : (nodes : List PlanNode) → AreShared nodes → (kept : List Kept) (n k : ℕ) (marks : List Bool) (op : OpTerm) → IsMarking nodes kept n (k + 1) marks → slice_get marks k ≡ Some true
    → slice_get kept k ≡ Some None → IsSomeAnd (slice_get nodes k) (λ x. IsOperation nodes x op) → k ≤ n → IsMarking nodes kept n k (marked (op_children op) marks)
marks_on nodes shared kept n k marks op m here free does l =
    let x = some_node (λ y. IsOperation nodes y op) (slice_get nodes k) does in
    let below = children_below nodes shared k op does in
    let long = m.long in
    let few = below_more k (length marks) (op_children op) (omega arith) below in
    record {
      long = length_marked (op_children op) marks ∙ m.long;
      start = marked_stays (op_children op) marks n m.start;
      sound = λ j e. elim (marked_from (op_children op) marks j e) [
        | inl h ↦ (let w = m.sound k here in (w.0 ++ j ∷ [], one_step (LeadsTo nodes kept) n k j w.0 w.1 (leads j x.0 x.1 x.2.children h, free)))
        | inr h ↦ m.sound j h
      ];
      closed = λ a b g e t. elim (which_first k a g) [
        | inl same ↦ marked_in (op_children op) marks b few (child b x.0 x.1 x.2.children (subst (λ (v : ℕ). IsSomeAnd (slice_get nodes v) (λ y. Among y.children b)) (sym same) t.0))
        | inr more ↦ elim (marked_from (op_children op) marks a e) [
          | inl h ↦ absurd (let f = is_below k (op_children op) a below h in let no_ : ⊥ = omega arith in no_)
          | inr h ↦ marked_stays (op_children op) marks b (m.closed a b (omega arith) h t)
        ]
      ];
    }
  where
    leads : (j : ℕ) (x : PlanNode) → slice_get nodes k ≡ Some x → x.children ≡ op_children op → Among (op_children op) j → IsSomeAnd (slice_get nodes k) (λ y. Among y.children j)
    leads j x e f h = subst (λ (v : Option PlanNode). IsSomeAnd v (λ y. Among y.children j)) (sym e) (subst (λ (v : List ℕ). Among v j) (sym f) h)

    child : (b : ℕ) (x : PlanNode) → slice_get nodes k ≡ Some x → x.children ≡ op_children op → IsSomeAnd (slice_get nodes k) (λ y. Among y.children b) → Among (op_children op) b
    child b x e f h = subst (λ (v : List ℕ). Among v b) f (subst (λ (v : Option PlanNode). IsSomeAnd v (λ y. Among y.children b)) e h)

-- a node that isn't marked, or at which a relation is kept
pub marks_past : (nodes : List PlanNode) (kept : List Kept) (n k : ℕ) (marks : List Bool) → IsMarking nodes kept n (k + 1) marks → (slice_get marks k ≡ Some true → slice_get kept k ≡ Some None → ⊥) → IsMarking nodes kept n k marks
marks_past nodes kept n k marks m not = record {
  long = m.long;
  start = m.start;
  sound = m.sound;
  closed = λ a b g e t. elim (which_first k a g) [
    | inl same ↦ absurd (not (subst (λ (v : ℕ). slice_get marks v ≡ Some true) (sym same) e) (subst (λ (v : ℕ). slice_get kept v ≡ Some None) (sym same) t.1))
    | inr more ↦ m.closed a b (omega arith) e t
  ];
}

-- at first the node itself is marked alone
pub first_marks : (nodes : List PlanNode) (kept : List Kept) (n : ℕ) → IsMarking nodes kept n (n + 1) (replicate n false ++ true ∷ [])
first_marks nodes kept n = record {
  long = many n;
  start = last n;
  sound = λ j e. ([], only n j e);
  closed = λ x y g e t. absurd (let s = only n x e in let none : ⊥ = omega arith in none);
}
  where
    many : (n : ℕ) → length (replicate n false ++ true ∷ []) ≡ n + 1
    many zero = refl
    many (suc n) = let r = many n in omega arith

    last : (n : ℕ) → slice_get (replicate n false ++ true ∷ []) n ≡ Some true
    last zero = refl
    last (suc n) = last n

    only : (n j : ℕ) → slice_get (replicate n false ++ true ∷ []) j ≡ Some true → n ≡ j
    only zero zero e = refl
    only zero (suc j) e = cc
    only (suc n) zero e = absurd (let none : ⊥ = cc in none)
    only (suc n) (suc j) e = ap suc (only n j e)

pub child_below : (nodes : List PlanNode) → AreShared nodes → (k : ℕ) (n : PlanNode) (c : ℕ) → slice_get nodes k ≡ Some n → Among n.children c → c < k
child_below nodes shared k n c e i = is_below k n.children c (taken_below nodes k n.children _ (shared.lower k n e).children) i
