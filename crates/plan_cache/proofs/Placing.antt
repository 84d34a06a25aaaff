-- A node that is placed, and what is read of a table.
use Rattle.std.proofs.Common.{◌≡◌, ℕ, zero, suc, ◌<◌, ◌≤◌, Bool, true, false, List, [], ◌∷◌, ◌++◌, length, take, drop, slice_get, Option, Some, inl, inr, ◌⊎◌, refl, sym, ap, subst, ◌∙◌, arith, true≢false, ◌||◌, if◌then◌else◌}
use Rattle.std.specs.Prelude.{IsSomeAnd}
use Rattle.std.specs.List.{list_any, IsDistinct, AllByRecursion}
use Rattle.std.proofs.lemmas.List.{take-append-drop, length-append}
use Rattle.indexmap.specs.IndexSet.{insert_key}
use Rattle.label_scope.specs.declared.scope.Scope.{Scope}
use Rattle.path_ast.specs.Terms.{PathTerm}
use Rattle.plan_cache.specs.declared.key.PlanKey.{PlanKey}
use Rattle.plan_cache.specs.contracts.key.PlanKeyPartialEq.TheImpl as of_key
use Rattle.plan_cache.specs.Operations.{op_term, op_children}
use Rattle.plan_cache.specs.Nodes.{PlanNode, MayStand, IsOperation, IsWalkScope, AreShared, read_back, parts_of}
use Rattle.plan_cache.specs.Growing.{Grows}
use Rattle.plan_cache.specs.Stored.{node_of, nodes_from, MayFollow, AreStored}
use Rattle.plan_cache.specs.declared.nodes.TheConstants.{MAX_NODES}
use Rattle.plan_cache.proofs.Growing.{still_reads, reading_stays, grows_not, grows_within}
use Rattle.plan_cache.proofs.Stored.{one_more, as_many, follows_too, stored_at, follows_at, follow_first, first_so_many}
use Rattle.plan_cache.proofs.Unique.{AreApart, all_one, the_key}
use Rattle.plan_cache.proofs.AlikeKeys.{key_same, key_alike}

-- the table once the key is there
pub table_after : (keys : List PlanKey) (k : PlanKey) → AreStored keys → length keys < MAX_NODES → MayFollow (nodes_from [] keys) k → AreStored (insert_key (of_key.ghosts).eq keys k)
table_after keys k table room follows = by (list_any ((of_key.ghosts).eq k) keys) refl
  where
    by : (b : Bool) → list_any ((of_key.ghosts).eq k) keys ≡ b → AreStored (insert_key (of_key.ghosts).eq keys k)
    by true e = subst AreStored (sym (ap (λ c. if c then keys else keys ++ k ∷ []) e)) table
    by false e = subst AreStored (sym (ap (λ c. if c then keys else keys ++ k ∷ []) e)) (record {
      few = let l = length-append keys (k ∷ []) in omega arith;
      follow = follows_too [] keys k table.follow follows;
    })

-- it has at most one node more
pub grows_after : (keys : List PlanKey) (k : PlanKey) → Grows 1 (nodes_from [] keys) (nodes_from [] (insert_key (of_key.ghosts).eq keys k))
grows_after keys k = by (list_any ((of_key.ghosts).eq k) keys) refl
  where
    by : (b : Bool) → list_any ((of_key.ghosts).eq k) keys ≡ b → Grows 1 (nodes_from [] keys) (nodes_from [] (insert_key (of_key.ghosts).eq keys k))
    by true e = subst (λ (v : List PlanKey). Grows 1 (nodes_from [] keys) (nodes_from [] v)) (sym (ap (λ c. if c then keys else keys ++ k ∷ []) e)) (grows_within 0 1 (nodes_from [] keys) (nodes_from [] keys) (omega arith) (grows_not 0 (nodes_from [] keys)))
    by false e = subst (λ (v : List PlanKey). Grows 1 (nodes_from [] keys) (nodes_from [] v)) (sym (ap (λ c. if c then keys else keys ++ k ∷ []) e)) (record {
      more = node_of (nodes_from [] keys) k ∷ [];
      is = one_more [] keys k;
      few = omega arith;
    })

same_node : (p q : PathTerm) (s t a b : Scope) (ks ls : List ℕ) → p ≡ q → s ≡ a → t ≡ b → ks ≡ ls
    → (let x : PlanNode = record { member = record { path = p; sources = s; targets = t }; children = ks } in x) ≡ record { member = record { path = q; sources = a; targets = b }; children = ls }
same_node p q s t a b ks ls e f g h = cc

-- the node where a key is found that means the same
pub placed_at : (old : List PlanNode) (k : PlanKey) → MayStand old (node_of old k) → (keys : List PlanKey) → AreStored keys → Grows 1 old (nodes_from [] keys)
    → (i : ℕ) (j : PlanKey) → slice_get keys i ≡ Some j → (of_key.ghosts).eq k j ≡ true → slice_get (nodes_from [] keys) i ≡ Some (node_of old k)
placed_at old k stand keys table grows i j e h =
    let all = nodes_from [] keys in
    let same = key_same k j h in
    let children = (follows_at [] keys i i j (omega arith) table.follow e).stand.children in
    let whole = ap (λ (v : List PlanNode). read_back v (op_term j.op)) (sym (take-append-drop i (nodes_from [] keys))) ∙ still_reads (take i (nodes_from [] keys)) (drop i (nodes_from [] keys)) (op_term j.op) (parts_of (node_of (take i (nodes_from [] keys)) j).member, children) in
    let before = reading_stays 1 old (nodes_from [] keys) grows (op_term k.op) (parts_of (node_of old k).member, stand.children) in
    let path = sym whole ∙ ap (read_back (nodes_from [] keys)) (sym same.op) ∙ before in
    stored_at [] keys i i j (omega arith) e
    ∙ ap Some (same_node (read_back (take i (nodes_from [] keys)) (op_term j.op)) (read_back old (op_term k.op)) j.sources j.targets k.sources k.targets (op_children (op_term j.op)) (op_children (op_term k.op)) path (sym same.sources) (sym same.targets) (ap op_children (sym same.op)))

-- a number of a node is one of a key
pub number_within : (keys : List PlanKey) (now : List PlanNode) (i : ℕ) → nodes_from [] keys ≡ now → i < length now → i < length keys
number_within keys now i e l = let c = as_many [] keys in let f = ap length e in omega arith

pub operation_at : (keys : List PlanKey) (i : ℕ) (k : PlanKey) → AreStored keys → slice_get keys i ≡ Some k → IsSomeAnd (slice_get (nodes_from [] keys) i) (λ n. IsOperation (nodes_from [] keys) n (op_term k.op))
operation_at keys i k table e =
    let children = (follows_at [] keys i i k (omega arith) table.follow e).stand.children in
    let whole = ap (λ (v : List PlanNode). read_back v (op_term k.op)) (sym (take-append-drop i (nodes_from [] keys))) ∙ still_reads (take i (nodes_from [] keys)) (drop i (nodes_from [] keys)) (op_term k.op) (parts_of (node_of (take i (nodes_from [] keys)) k).member, children) in
    subst (λ (v : Option PlanNode). IsSomeAnd v (λ n. IsOperation (nodes_from [] keys) n (op_term k.op))) (sym (stored_at [] keys i i k (omega arith) e)) (record { path = sym whole; children = refl })

pub scopes_at : (keys : List PlanKey) (i : ℕ) (k : PlanKey) → slice_get keys i ≡ Some k → IsSomeAnd (slice_get (nodes_from [] keys) i) (λ n. (n.member.sources ≡ k.sources) × (n.member.targets ≡ k.targets))
scopes_at keys i k e = subst (λ (v : Option PlanNode). IsSomeAnd v (λ n. (n.member.sources ≡ k.sources) × (n.member.targets ≡ k.targets))) (sym (stored_at [] keys i i k (omega arith) e)) (refl, refl)

pub walk_at : (keys : List PlanKey) (now : List PlanNode) (i : ℕ) (k : PlanKey) (walk : Option Scope) → AreStored keys → nodes_from [] keys ≡ now → slice_get keys i ≡ Some k → walk ≡ k.walk
    → IsSomeAnd (slice_get now i) (λ n. IsWalkScope n.member walk)
walk_at keys now i k walk table seen e same =
    let own = (follows_at [] keys i i k (omega arith) table.follow e).walk in
    let at = ap (λ (v : List PlanNode). slice_get v i) (sym seen) ∙ stored_at [] keys i i k (omega arith) e in
    subst (λ (v : Option PlanNode). IsSomeAnd v (λ n. IsWalkScope n.member walk)) (sym at) (same ∙ own)

-- what stays where the last nodes are taken away
pub table_cut : (keys : List PlanKey) (n : ℕ) → AreStored keys → AreStored (take n keys)
table_cut keys n table = record {
  few = let l = shorter n keys in let f = table.few in omega arith;
  follow = follow_first [] keys n table.follow;
}
  where
    shorter : (n : ℕ) (xs : List PlanKey) → length (take n xs) ≤ length xs
    shorter zero xs = omega arith
    shorter (suc n) [] = omega arith
    shorter (suc n) (x ∷ xs) = let r = shorter n xs in omega arith

pub nodes_cut : (keys : List PlanKey) (n : ℕ) → nodes_from [] (take n keys) ≡ take n (nodes_from [] keys)
nodes_cut keys n = first_so_many [] keys n n (omega arith)

-- keys of which no two are found equal are apart
all_at : (P : PlanKey → Type 0) (keys : List PlanKey) (i : ℕ) (k : PlanKey) → AllByRecursion P keys → slice_get keys i ≡ Some k → P k
all_at P [] i k h e = cc
all_at P (j ∷ keys) zero k h e = subst P (let same : j ≡ k = cc in same) h.0
all_at P (j ∷ keys) (suc i) k h e = all_at P keys i k h.1 e

differ : (keys : List PlanKey) → IsDistinct (of_key.ghosts).eq keys → (i j : ℕ) (k l : PlanKey) → i < j → slice_get keys i ≡ Some k → slice_get keys j ≡ Some l → (of_key.ghosts).eq k l ≡ false
unfolding IsDistinct
differ [] d i j k l h e f = cc
differ (x ∷ keys) d zero zero k l h e f = absurd (let none : ⊥ = omega arith in none)
differ (x ∷ keys) d zero (suc j) k l h e f = subst (λ (v : PlanKey). (of_key.ghosts).eq v l ≡ false) (let same : x ≡ k = cc in same) (all_at (λ (y : PlanKey). (of_key.ghosts).eq x y ≡ false) keys j l d.0 f)
differ (x ∷ keys) d (suc i) zero k l h e f = absurd (let none : ⊥ = omega arith in none)
differ (x ∷ keys) d (suc i) (suc j) k l h e f = differ keys d.1 i j k l (omega arith) e f

which : (i j : ℕ) → (i < j) ⊎ ((i ≡ j) ⊎ (j < i))
which zero zero = inr (inl refl)
which zero (suc j) = inl (omega arith)
which (suc i) zero = inr (inr (omega arith))
which (suc i) (suc j) = elim (which i j) [ inl h ↦ inl (omega arith) | inr (inl e) ↦ inr (inl (ap suc e)) | inr (inr h) ↦ inr (inr (omega arith)) ]

pub are_apart : (keys : List PlanKey) → IsDistinct (of_key.ghosts).eq keys → AreApart keys
are_apart keys d = λ i j k l e f op s t w. of i j k l e f op s t w (which i j)
  where
    of : (i j : ℕ) (k l : PlanKey) → slice_get keys i ≡ Some k → slice_get keys j ≡ Some l → op_term k.op ≡ op_term l.op → k.sources ≡ l.sources → k.targets ≡ l.targets → k.walk ≡ l.walk → (i < j) ⊎ ((i ≡ j) ⊎ (j < i)) → i ≡ j
    of i j k l e f op s t w (inl h) = absurd (true≢false (sym (key_alike k l (record { op = op; sources = s; targets = t; walk = w })) ∙ differ keys d i j k l h e f))
    of i j k l e f op s t w (inr (inl g)) = g
    of i j k l e f op s t w (inr (inr h)) = absurd (true≢false (sym (key_alike l k (record { op = sym op; sources = sym s; targets = sym t; walk = sym w })) ∙ differ keys d j i l k h f e))

-- what a table promises of its nodes
pub are_shared : (keys : List PlanKey) → AreStored keys → IsDistinct (of_key.ghosts).eq keys → AreShared (nodes_from [] keys)
are_shared keys table d = record {
  lower = λ i n e.
      let x = the_key keys table.follow (are_apart keys d) i n e in
      subst (MayStand (take i (nodes_from [] keys))) (sym x.2) (follows_at [] keys i i x.0 (omega arith) table.follow x.1).stand;
  one = all_one keys table.follow (are_apart keys d);
}

-- a number that is new is that of the node that was placed
get_within : (xs : List PlanKey) (i : ℕ) (x : PlanKey) → slice_get xs i ≡ Some x → i < length xs
get_within [] i x e = cc
get_within (y ∷ xs) zero x e = omega arith
get_within (y ∷ xs) (suc i) x e = let r = get_within xs i x e in omega arith

found_there : (k : PlanKey) (keys more : List PlanKey) (i : ℕ) (j : PlanKey) → slice_get (keys ++ more) i ≡ Some j → (of_key.ghosts).eq k j ≡ true → i < length keys → list_any ((of_key.ghosts).eq k) keys ≡ true
found_there k [] more i j e h l = absurd (let none : ⊥ = omega arith in none)
found_there k (x ∷ keys) more zero j e h l = or_first ((of_key.ghosts).eq k x) (list_any ((of_key.ghosts).eq k) keys) (ap ((of_key.ghosts).eq k) (let same : x ≡ j = cc in same) ∙ h)
  where
    or_first : (a b : Bool) → a ≡ true → (a || b) ≡ true
    or_first a b g = cc
found_there k (x ∷ keys) more (suc i) j e h l = or_second ((of_key.ghosts).eq k x) (list_any ((of_key.ghosts).eq k) keys) (found_there k keys more i j e h (omega arith))
  where
    or_second : (a b : Bool) → b ≡ true → (a || b) ≡ true
    or_second true b g = refl
    or_second false b g = g

pub added_at : (keys : List PlanKey) (k : PlanKey) (i : ℕ) (j : PlanKey) → slice_get (insert_key (of_key.ghosts).eq keys k) i ≡ Some j → (of_key.ghosts).eq k j ≡ true
    → (m : ℕ) → length (nodes_from [] keys) ≤ m → m < length (nodes_from [] (insert_key (of_key.ghosts).eq keys k)) → m ≡ i
added_at keys k i j e h m l w = by (list_any ((of_key.ghosts).eq k) keys) refl
  where
    by : (b : Bool) → list_any ((of_key.ghosts).eq k) keys ≡ b → m ≡ i
    by true f =
        let same = ap (λ c. if c then keys else keys ++ k ∷ []) f in
        let n = ap (λ (v : List PlanKey). length (nodes_from [] v)) same in
        absurd (let none : ⊥ = omega arith in none)
    by false f =
        let same = ap (λ c. if c then keys else keys ++ k ∷ []) f in
        let n = ap (λ (v : List PlanKey). length (nodes_from [] v)) same in
        let all = as_many [] keys in
        let more = as_many [] (keys ++ k ∷ []) in
        let one = length-append keys (k ∷ []) in
        let at = ap (λ (v : List PlanKey). slice_get v i) (sym same) ∙ e in
        let low = get_within (keys ++ k ∷ []) i j at in
        elim (which i (length keys)) [
          | inl g ↦ absurd (true≢false (sym (found_there k keys (k ∷ []) i j at h g) ∙ f))
          | inr (inl g) ↦ (let q : m ≡ i = omega arith in q)
          | inr (inr g) ↦ absurd (let none : ⊥ = omega arith in none)
        ]
