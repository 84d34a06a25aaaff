-- A table that is copied node by node.
use Rattle.std.proofs.Common.{◌≡◌, ℕ, zero, suc, ◌<◌, ◌≤◌, List, [], ◌∷◌, ◌++◌, length, map, take, slice_get, Some, inl, inr, refl, sym, ap, subst, ◌∙◌, arith}
use Rattle.std.proofs.lemmas.List.{length-append}
use Rattle.itpg_base.specs.Lists.{Among}
use Rattle.itpg_base.proofs.Objects.{same_some}
use Rattle.label_scope.specs.Members.{Member}
use Rattle.plan_cache.specs.declared.key.PlanKey.{PlanKey}
use Rattle.plan_cache.specs.declared.operations.PlanNo.{PlanNo}
use Rattle.plan_cache.specs.Operations.{op_term, op_children}
use Rattle.plan_cache.specs.Nodes.{PlanNode, AreNodesOf, AreShared, MayStand, IsWalkScope, parts_of, read_back}
use Rattle.plan_cache.specs.Stored.{node_of, MayFollow}
use Rattle.plan_cache.specs.Growing.{Grows}
use Rattle.plan_cache.specs.Former.{IsFormerKey, number_at}
use Rattle.plan_cache.proofs.Unique.{in_first}
use Rattle.plan_cache.proofs.Known.{all_below}
use Rattle.plan_cache.proofs.Former.{all_in_whole, same_member, agree, at_end, first_number, last_number}
use Rattle.plan_cache.proofs.Renumbered.{children_moved, reads_moved}

-- the first so many numbers are their own places
abbrev pub AreOwn : List PlanNo → Type 0
AreOwn numbers = (k : ℕ) → k < length numbers → number_at numbers k ≡ k

pub one_more_own : (numbers : List PlanNo) (number : PlanNo) → AreOwn numbers → number.0 ≡ length numbers → AreOwn (numbers ++ number ∷ [])
one_more_own numbers number own e k l = (let long = length-append numbers (number ∷ []) in elim (at_end k (length numbers) (omega arith)) [
  | inl low ↦ first_number number numbers k low ∙ own k low
  | inr last ↦ ap (number_at (numbers ++ number ∷ [])) last ∙ last_number number numbers ∙ e ∙ sym last
])

same_node : (m n : PlanNode) → m.member ≡ n.member → m.children ≡ n.children → m ≡ n
same_node m n e f = of m.member n.member m.children n.children e f
  where
    of : (a b : Member) (ks ls : List ℕ) → a ≡ b → ks ≡ ls → (let x : PlanNode = record { member = a; children = ks } in x) ≡ record { member = b; children = ls }
    of a b ks ls e f = cc

all_same : (f : ℕ → ℕ) (ks : List ℕ) → ((k : ℕ) → Among ks k → f k ≡ k) → map f ks ≡ ks
all_same f [] h = refl
all_same f (k ∷ ks) h =
    let e = h k (inl refl) in
    let g = all_same f ks (λ j i. h j (inr i)) in
    cc

taken_next : (nodes : List PlanNode) (x : ℕ) (n : PlanNode) → slice_get nodes x ≡ Some n → take (suc x) nodes ≡ take x nodes ++ n ∷ []
taken_next [] x n e = cc
taken_next (m ∷ nodes) zero n e = (let same : m ≡ n = cc in ap (λ v. v ∷ []) same)
taken_next (m ∷ nodes) (suc x) n e = ap (λ v. m ∷ v) (taken_next nodes x n e)

taken_so_many : (nodes : List PlanNode) (x : ℕ) (n : PlanNode) → slice_get nodes x ≡ Some n → length (take x nodes) ≡ x
taken_so_many [] x n e = cc
taken_so_many (m ∷ nodes) zero n e = refl
taken_so_many (m ∷ nodes) (suc x) n e = ap suc (taken_so_many nodes x n e)

none_behind : (xs : List PlanNode) → xs ++ [] ≡ xs
none_behind [] = refl
none_behind (x ∷ xs) = ap (λ v. x ∷ v) (none_behind xs)

last_got : (xs : List PlanNode) (y : PlanNode) → slice_get (xs ++ y ∷ []) (length xs) ≡ Some y
last_got [] y = refl
last_got (x ∷ xs) y = last_got xs y

module _ (nodes : List PlanNode) (also : AreShared nodes) (x : ℕ) (n : PlanNode) (at : slice_get nodes x ≡ Some n) where
  -- the key of the node, over numbers that stay the same
  module _ (numbers : List PlanNo) (long : x ≤ length numbers) (own : AreOwn numbers) (key : PlanKey) (sought : IsFormerKey nodes numbers n key) where
    lower : AreNodesOf (take x nodes) (op_children sought.op) (parts_of n.member)
    lower = subst (λ (ks : List ℕ). AreNodesOf (take x nodes) ks (parts_of n.member)) sought.does.children (also.lower x n at).children

    stays : map (number_at numbers) (op_children sought.op) ≡ op_children sought.op
    stays = all_same (number_at numbers) (op_children sought.op) (λ k i. own k (let l = all_below nodes x (op_children sought.op) (parts_of n.member) lower k i in omega arith))

    reads : read_back (take x nodes) (op_term key.op) ≡ n.member.path
    reads =
        let h = subst (λ (ks : List ℕ). AreNodesOf (take x nodes) ks (parts_of n.member)) (sym stays) lower in
        ap (read_back (take x nodes)) sought.moved
        ∙ reads_moved (take x nodes) nodes (number_at numbers) sought.op (agree (take x nodes) nodes (number_at numbers) (op_children sought.op) (parts_of n.member) h (all_in_whole nodes x (op_children sought.op) (parts_of n.member) lower))
        ∙ sym sought.does.path

    -- makes the node behind the same ones
    pub made : node_of (take x nodes) key ≡ n
    made = same_node (node_of (take x nodes) key) n
        (same_member (node_of (take x nodes) key).member n.member reads (sym sought.sources) (sym sought.targets))
        (ap op_children sought.moved ∙ children_moved (number_at numbers) sought.op ∙ stays ∙ sym sought.does.children)

    pub follows : MayFollow (take x nodes) key
    follows = record {
      stand = subst (λ (v : PlanNode). MayStand (take x nodes) v) (sym made) (also.lower x n at);
      walk = subst (λ (v : PlanNode). IsWalkScope v.member key.walk) (sym made) sought.walk;
    }

  -- the node that is placed behind the same ones gets its own number
  pub placed : (new : List PlanNode) (number : ℕ) → Grows 1 (take x nodes) new → slice_get new number ≡ Some n → ((k : ℕ) → length (take x nodes) ≤ k → k < length new → k ≡ number)
      → (new ≡ take (suc x) nodes) × (number ≡ x)
  placed new number grows at_number only = of grows.more grows.is grows.few
    where
      many : length (take x nodes) ≡ x
      many = taken_so_many nodes x n at

      of : (more : List PlanNode) → new ≡ take x nodes ++ more → length more ≤ 1 → (new ≡ take (suc x) nodes) × (number ≡ x)
      of [] is few =
          let before = in_first nodes x number n (ap (λ (v : List PlanNode). slice_get v number) (sym (is ∙ none_behind (take x nodes))) ∙ at_number) in
          let one = also.one number x n n before.1 at refl in
          let low = before.0 in
          absurd (let none : ⊥ = omega arith in none)
      of (y ∷ []) is few =
          let sum = ap length is ∙ length-append (take x nodes) (y ∷ []) in
          let own = only (length (take x nodes)) (omega arith) (omega arith) in
          let last = ap (λ (v : List PlanNode). slice_get v (length (take x nodes))) is ∙ last_got (take x nodes) y in
          let same = same_some y n (slice_get new number) (ap (slice_get new) (sym own) ∙ last) at_number in
          (is ∙ ap (λ (v : PlanNode). take x nodes ++ v ∷ []) same ∙ sym (taken_next nodes x n at), sym own ∙ many)
      of (y ∷ z ∷ more) is few = absurd (let none : ⊥ = omega arith in none)
