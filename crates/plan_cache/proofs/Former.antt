-- The numbers that nodes had in a former table.
use Rattle.std.proofs.Common.{◌≡◌, ℕ, zero, suc, ◌<◌, ◌≤◌, List, [], ◌∷◌, ◌++◌, length, map, take, slice_get, Some, inl, inr, ◌⊎◌, refl, sym, ap, subst, ◌∙◌, arith}
use Rattle.std.specs.Prelude.{IsSomeAnd}
use Rattle.std.proofs.lemmas.List.{length-append}
use Rattle.itpg_base.specs.Lists.{Among}
use Rattle.itpg_base.proofs.Objects.{there, here, same_some}
use Rattle.path_ast.specs.Terms.{PathTerm}
use Rattle.label_scope.specs.declared.scope.Scope.{Scope}
use Rattle.label_scope.specs.Members.{Member}
use Rattle.plan_cache.specs.declared.key.PlanKey.{PlanKey}
use Rattle.plan_cache.specs.declared.nodes.TheConstants.{MAX_NODES}
use Rattle.plan_cache.specs.declared.operations.PlanNo.{PlanNo}
use Rattle.plan_cache.specs.Operations.{op_term, op_children}
use Rattle.plan_cache.specs.Nodes.{PlanNode, IsNodeOf, AreNodesOf, AreShared, IsWalkScope, path_at, parts_of, read_back}
use Rattle.plan_cache.specs.Former.{IsMadeBy, IsFormerKey, IsFormerOf, AreFormer, AreFormerApart, number_at}
use Rattle.plan_cache.proofs.Growing.{path_of_node}
use Rattle.plan_cache.proofs.Unique.{the_node, within}
use Rattle.plan_cache.proofs.Known.{first_below, all_below}
use Rattle.plan_cache.proofs.Footing.{some_node}
use Rattle.plan_cache.proofs.Renumbered.{children_moved, reads_moved}

-- what stands among the first nodes stands among all
in_whole : (nodes : List PlanNode) (x k : ℕ) (m : Member) → IsNodeOf (take x nodes) k m → IsNodeOf nodes k m
in_whole [] zero k m h = absurd h
in_whole [] (suc x) k m h = absurd h
in_whole (n ∷ nodes) zero k m h = absurd h
in_whole (n ∷ nodes) (suc x) zero m h = h
in_whole (n ∷ nodes) (suc x) (suc k) m h = in_whole nodes x k m h

pub all_in_whole : (nodes : List PlanNode) (x : ℕ) (ks : List ℕ) (ms : List Member) → AreNodesOf (take x nodes) ks ms → AreNodesOf nodes ks ms
all_in_whole nodes x [] [] h = tt
all_in_whole nodes x [] (m ∷ ms) h = h
all_in_whole nodes x (k ∷ ks) [] h = h
all_in_whole nodes x (k ∷ ks) (m ∷ ms) h = (in_whole nodes x k m h.0, all_in_whole nodes x ks ms h.1)

pub same_member : (m n : Member) → m.path ≡ n.path → m.sources ≡ n.sources → m.targets ≡ n.targets → m ≡ n
same_member m n e f g = of m.path n.path m.sources n.sources m.targets n.targets e f g
  where
    of : (p q : PathTerm) (s a t b : Scope) → p ≡ q → s ≡ a → t ≡ b → (let x : Member = record { path = p; sources = s; targets = t } in x) ≡ record { path = q; sources = a; targets = b }
    of p q s a t b e f g = cc

-- nodes of the same members have the same paths
pub agree : (old nodes : List PlanNode) (f : ℕ → ℕ) (ks : List ℕ) (ms : List Member) → AreNodesOf old (map f ks) ms → AreNodesOf nodes ks ms → (k : ℕ) → Among ks k → path_at old (f k) ≡ path_at nodes k
agree old nodes f [] ms h g k i = absurd i
agree old nodes f (j ∷ ks) [] h g k i = absurd g
agree old nodes f (j ∷ ks) (m ∷ ms) h g k (inl e) = subst (λ (v : ℕ). path_at old (f v) ≡ path_at nodes v) e (path_of_node old (f j) m h.0 ∙ sym (path_of_node nodes j m g.0))
agree old nodes f (j ∷ ks) (m ∷ ms) h g k (inr i) = agree old nodes f ks ms h.1 g.1 k i

-- a number that is put behind others
pub at_end : (k e : ℕ) → k < suc e → (k < e) ⊎ (k ≡ e)
at_end zero zero l = inr refl
at_end zero (suc e) l = inl (omega arith)
at_end (suc k) zero l = absurd (let none : ⊥ = omega arith in none)
at_end (suc k) (suc e) l = elim (at_end k e (omega arith)) [ inl h ↦ inl (omega arith) | inr f ↦ inr (ap suc f) ]

pub first_number : (was : PlanNo) (xs : List PlanNo) (k : ℕ) → k < length xs → number_at (xs ++ was ∷ []) k ≡ number_at xs k
first_number was [] k l = absurd (let none : ⊥ = omega arith in none)
first_number was (y ∷ xs) zero l = refl
first_number was (y ∷ xs) (suc k) l = first_number was xs k (omega arith)

pub last_number : (was : PlanNo) (xs : List PlanNo) → number_at (xs ++ was ∷ []) (length xs) ≡ was.0
last_number was [] = refl
last_number was (y ∷ xs) = last_number was xs

module _ (old nodes : List PlanNode) (shared : AreShared old) where
  -- the first nodes, below x, have these former numbers
  module _ (former : List PlanNo) (x : ℕ) (long : x ≤ length former) (are : AreFormer old nodes former) where
    -- where the former numbers of some nodes are numbers of nodes, these are of the same members
    parts_known : (ks : List ℕ) (ms : List Member) → AreNodesOf (take x nodes) ks ms → ((w : ℕ) → Among (map (number_at former) ks) w → w < length old) → AreNodesOf old (map (number_at former) ks) ms
    parts_known [] [] h low = tt
    parts_known [] (m ∷ ms) h low = h
    parts_known (k ∷ ks) [] h low = h
    parts_known (k ∷ ks) (m ∷ ms) h low =
        let l = first_below nodes x k m h.0 in
        ((are k m (omega arith) (in_whole nodes x k m h.0)).known (low (number_at former k) (inl refl)), parts_known ks ms h.1 (λ w i. low w (inr i)))

    -- the old nodes of the same members have these numbers
    parts_matched : (ks ls : List ℕ) (ms : List Member) → AreNodesOf (take x nodes) ks ms → AreNodesOf old ls ms → map (number_at former) ks ≡ ls
    parts_matched [] [] ms h g = refl
    parts_matched [] (l ∷ ls) [] h g = absurd g
    parts_matched [] (l ∷ ls) (m ∷ ms) h g = absurd h
    parts_matched (k ∷ ks) ls [] h g = absurd h
    parts_matched (k ∷ ks) [] (m ∷ ms) h g = absurd g
    parts_matched (k ∷ ks) (l ∷ ls) (m ∷ ms) h g =
        let low = first_below nodes x k m h.0 in
        let e : l ≡ number_at former k = (are k m (omega arith) (in_whole nodes x k m h.0)).whole l g.0 in
        let r = parts_matched ks ls ms h.1 g.1 in
        cc

    -- the next node
    module _ (also : AreShared nodes) (n : PlanNode) (at : slice_get nodes x ≡ Some n) (key : PlanKey) (sought : IsFormerKey nodes former n key) where
      children : List ℕ
      children = op_children sought.op

      lower : AreNodesOf (take x nodes) (op_children sought.op) (parts_of n.member)
      lower = subst (λ (ks : List ℕ). AreNodesOf (take x nodes) ks (parts_of n.member)) sought.does.children (also.lower x n at).children

      moved : op_children (op_term key.op) ≡ map (number_at former) (op_children sought.op)
      moved = ap op_children sought.moved ∙ children_moved (number_at former) sought.op

      -- the path that its key reads back as is its own
      reads : AreNodesOf old (map (number_at former) (op_children sought.op)) (parts_of n.member) → read_back old (op_term key.op) ≡ n.member.path
      reads h =
          ap (read_back old) sought.moved
          ∙ reads_moved old nodes (number_at former) sought.op (agree old nodes (number_at former) (op_children sought.op) (parts_of n.member) h (all_in_whole nodes x (op_children sought.op) (parts_of n.member) lower))
          ∙ sym sought.does.path

      -- the old node that its key makes is of the same member
      pub found_former : (i : ℕ) → IsSomeAnd (slice_get old i) (λ m. IsMadeBy old m key) → IsFormerOf old n.member i
      found_former i h =
          let m = there old i (λ m. IsMadeBy old m key) h in
          let made = m.2 in
          let size = within old i m.0 m.1 in
          let low : (w : ℕ) → Among (map (number_at former) (op_children sought.op)) w → w < length old = λ w a. (
          let l = all_below old i m.0.children (parts_of m.0.member) (shared.lower i m.0 m.1).children w (subst (λ (ks : List ℕ). Among ks w) (sym (made.does.children ∙ moved)) a) in
          omega arith) in
          let known = parts_known (op_children sought.op) (parts_of n.member) lower low in
          let same = same_member m.0.member n.member (made.does.path ∙ reads known) (made.sources ∙ sym sought.sources) (made.targets ∙ sym sought.targets) in
          record {
            known = λ _. here old i (λ v. v.member ≡ n.member) m.0 m.1 same;
            whole = λ j g. (let y = the_node old j n.member g in shared.one j i y.0 m.0 y.1 m.1 (y.2 ∙ sym same));
          }

      -- where its key makes none, there is no old node of its member
      pub no_former : length old ≤ MAX_NODES → ((i : ℕ) (m : PlanNode) → slice_get old i ≡ Some m → ¬ IsMadeBy old m key) → IsFormerOf old n.member MAX_NODES
      no_former few none = record {
        known = λ l. absurd (let nowhere : ⊥ = omega arith in nowhere);
        whole = λ i h. (
            let m = the_node old i n.member h in
            let parts = subst (λ (v : Member). AreNodesOf old m.0.children (parts_of v)) m.2 (all_in_whole old i m.0.children (parts_of m.0.member) (shared.lower i m.0 m.1).children) in
            let matched = parts_matched (op_children sought.op) m.0.children (parts_of n.member) lower parts in
            let known = subst (λ (ks : List ℕ). AreNodesOf old ks (parts_of n.member)) (sym matched) parts in
            absurd (none i m.0 m.1 (record {
              does = record { path = ap (λ (v : Member). v.path) m.2 ∙ sym (reads known); children = sym matched ∙ sym moved };
              sources = ap (λ (v : Member). v.sources) m.2 ∙ sought.sources;
              targets = ap (λ (v : Member). v.targets) m.2 ∙ sought.targets;
              walk = subst (λ (v : Member). IsWalkScope v key.walk) (sym m.2) sought.walk;
            })));
      }

  module _ (former : List PlanNo) (x : ℕ) (long : x ≤ length former) (are : AreFormer old nodes former) (also : AreShared nodes) (key : PlanKey) (h : IsSomeAnd (slice_get nodes x) (λ n. IsFormerKey nodes former n key)) where
    pub former_found : (i : ℕ) → IsSomeAnd (slice_get old i) (λ m. IsMadeBy old m key) → IsSomeAnd (slice_get nodes x) (λ n. IsFormerOf old n.member i)
    former_found i made =
        let n = there nodes x (λ n. IsFormerKey nodes former n key) h in
        here nodes x (λ n. IsFormerOf old n.member i) n.0 n.1 (found_former former x long are also n.0 n.1 key n.2 i made)

    pub former_none : length old ≤ MAX_NODES → ((i : ℕ) (m : PlanNode) → slice_get old i ≡ Some m → ¬ IsMadeBy old m key) → IsSomeAnd (slice_get nodes x) (λ n. IsFormerOf old n.member MAX_NODES)
    former_none few none =
        let n = there nodes x (λ n. IsFormerKey nodes former n key) h in
        here nodes x (λ n. IsFormerOf old n.member MAX_NODES) n.0 n.1 (no_former former x long are also n.0 n.1 key n.2 few none)

  -- one number more
  pub one_more_former : (former : List PlanNo) (was : PlanNo) → AreFormer old nodes former → IsSomeAnd (slice_get nodes (length former)) (λ n. IsFormerOf old n.member was.0) → AreFormer old nodes (former ++ was ∷ [])
  one_more_former former was are h = λ k m l g. (let long = length-append former (was ∷ []) in by k m (at_end k (length former) (omega arith)) g)
    where
      by : (k : ℕ) (m : Member) → (k < length former) ⊎ (k ≡ length former) → IsNodeOf nodes k m → IsFormerOf old m (number_at (former ++ was ∷ []) k)
      by k m (inl l) g = subst (IsFormerOf old m) (sym (first_number was former k l)) (are k m l g)
      by k m (inr e) g =
          let n = there nodes (length former) (λ n. IsFormerOf old n.member was.0) h in
          let y = the_node nodes k m g in
          let is = same_some n.0 y.0 (slice_get nodes (length former)) n.1 (ap (slice_get nodes) (sym e) ∙ y.1) in
          let same = ap (λ (v : PlanNode). v.member) is ∙ y.2 in
          subst (IsFormerOf old m) (sym (ap (number_at (former ++ was ∷ [])) e ∙ last_number was former)) (subst (λ (v : Member). IsFormerOf old v was.0) same n.2)

  -- nodes of one table had different numbers
  pub former_apart : AreShared nodes → (former : List PlanNo) → length former ≤ length nodes → AreFormer old nodes former → AreFormerApart (length old) former
  former_apart also former long are = λ i j li lj same low.
      let x = some_node nodes i (omega arith) in
      let y = some_node nodes j (omega arith) in
      let one = the_node old (number_at former i) x.0.member ((are i x.0.member li (here nodes i (λ v. v.member ≡ x.0.member) x.0 x.1 refl)).known low) in
      let low_too = subst (λ (w : ℕ). w < length old) same low in
      let other = the_node old (number_at former j) y.0.member ((are j y.0.member lj (here nodes j (λ v. v.member ≡ y.0.member) y.0 y.1 refl)).known low_too) in
      let is = same_some one.0 other.0 (slice_get old (number_at former j)) (ap (slice_get old) (sym same) ∙ one.1) other.1 in
      also.one i j x.0 y.0 x.1 y.1 (sym one.2 ∙ ap (λ (v : PlanNode). v.member) is ∙ other.2)
