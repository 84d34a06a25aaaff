-- A node that is sought by its key.
use Rattle.std.proofs.Common.{◌≡◌, ℕ, zero, suc, Bool, true, false, List, [], ◌∷◌, take, get_or, slice_get, Option, Some, refl, sym, ap, subst, ◌∙◌, arith, true≢false, ◌||◌}
use Rattle.std.specs.Prelude.{IsSomeAnd, position}
use Rattle.std.specs.List.{list_any}
use Rattle.std.proofs.lemmas.List.Quantifiers.{position-Some}
use Rattle.std.proofs.lemmas.Option.{slice_get-get_or}
use Rattle.itpg_base.proofs.Objects.{same_some}
use Rattle.plan_cache.specs.declared.key.PlanKey.{PlanKey}
use Rattle.plan_cache.specs.contracts.key.PlanKeyPartialEq.TheImpl as of_key
use Rattle.plan_cache.specs.Operations.{OpTerm, op_term}
use Rattle.plan_cache.specs.Nodes.{PlanNode, IsOperation}
use Rattle.plan_cache.specs.Stored.{node_of, nodes_from, AreStored}
use Rattle.plan_cache.specs.Former.{IsMadeBy}
use Rattle.plan_cache.proofs.Stored.{as_many, stored_at, follows_at}
use Rattle.plan_cache.proofs.Placing.{operation_at}
use Rattle.plan_cache.proofs.Rebuilt.{same_operation}
use Rattle.plan_cache.proofs.Unique.{some_key, within}
use Rattle.plan_cache.proofs.AlikeKeys.{key_same, key_alike}

any_there : (p : PlanKey → Bool) (keys : List PlanKey) (i : ℕ) (k : PlanKey) → slice_get keys i ≡ Some k → p k ≡ true → list_any p keys ≡ true
any_there p [] i k e h = cc
any_there p (j ∷ keys) zero k e h = or_first (p j) (list_any p keys) (ap p (let same : j ≡ k = cc in same) ∙ h)
  where
    or_first : (a b : Bool) → a ≡ true → (a || b) ≡ true
    or_first a b g = cc
any_there p (j ∷ keys) (suc i) k e h = or_second (p j) (list_any p keys) (any_there p keys i k e h)
  where
    or_second : (a b : Bool) → b ≡ true → (a || b) ≡ true
    or_second true b g = refl
    or_second false b g = g

-- what the node of a stored key does
does_at : (keys : List PlanKey) (i : ℕ) (k : PlanKey) → AreStored keys → slice_get keys i ≡ Some k → IsOperation (nodes_from [] keys) (node_of (take i (nodes_from [] keys)) k) (op_term k.op)
does_at keys i k table e = subst (λ (v : Option PlanNode). IsSomeAnd v (λ n. IsOperation (nodes_from [] keys) n (op_term k.op))) (stored_at [] keys i i k (omega arith) e) (operation_at keys i k table e)

-- where a key is stored that is found equal, its node stands
made_at : (keys : List PlanKey) (i : ℕ) (key k : PlanKey) → AreStored keys → slice_get keys i ≡ Some k → (of_key.ghosts).eq key k ≡ true → IsSomeAnd (slice_get (nodes_from [] keys) i) (λ n. IsMadeBy (nodes_from [] keys) n key)
made_at keys i key k table e h =
    let same = key_same key k h in
    let own = node_of (take i (nodes_from [] keys)) k in
    let made : IsMadeBy (nodes_from [] keys) (node_of (take i (nodes_from [] keys)) k) key = record {
      does = subst (λ (v : OpTerm). IsOperation (nodes_from [] keys) (node_of (take i (nodes_from [] keys)) k) v) (sym same.op) (does_at keys i k table e);
      sources = sym same.sources;
      targets = sym same.targets;
      walk = same.walk ∙ (follows_at [] keys i i k (omega arith) table.follow e).walk;
    } in
    subst (λ (v : Option PlanNode). IsSomeAnd v (λ n. IsMadeBy (nodes_from [] keys) n key)) (sym (stored_at [] keys i i k (omega arith) e)) made

pub made_there : (keys : List PlanKey) (now : List PlanNode) (i : ℕ) (key : PlanKey) → AreStored keys → nodes_from [] keys ≡ now → position ((of_key.ghosts).eq key) keys ≡ Some i → IsSomeAnd (slice_get now i) (λ n. IsMadeBy now n key)
made_there keys now i key table seen e =
    let at = position-Some ((of_key.ghosts).eq key) keys i key e in
    subst (λ (v : List PlanNode). IsSomeAnd (slice_get v i) (λ n. IsMadeBy v n key)) seen
    (made_at keys i key (get_or keys i key) table (slice_get-get_or keys i key at.0) at.1)

-- and where none is, there is no such node
pub none_made : (keys : List PlanKey) (now : List PlanNode) (key : PlanKey) → AreStored keys → nodes_from [] keys ≡ now → list_any ((of_key.ghosts).eq key) keys ≡ false → (k : ℕ) (n : PlanNode) → slice_get now k ≡ Some n → ¬ IsMadeBy now n key
none_made keys now key table seen miss =
    subst (λ (v : List PlanNode). (k : ℕ) (n : PlanNode) → slice_get v k ≡ Some n → ¬ IsMadeBy v n key) seen of
  where
    of : (k : ℕ) (n : PlanNode) → slice_get (nodes_from [] keys) k ≡ Some n → ¬ IsMadeBy (nodes_from [] keys) n key
    of k n e made =
        let low = within (nodes_from [] keys) k n e in
        let many = as_many [] keys in
        let j = some_key keys k (omega arith) in
        let node = node_of (take k (nodes_from [] keys)) j.0 in
        let is : n ≡ node_of (take k (nodes_from [] keys)) j.0 = same_some n (node_of (take k (nodes_from [] keys)) j.0) (slice_get (nodes_from [] keys) k) e (stored_at [] keys k k j.0 (omega arith) j.1) in
        let made_so = subst (λ (v : PlanNode). IsMadeBy (nodes_from [] keys) v key) is made in
        let does = does_at keys k j.0 table j.1 in
        let op = same_operation (nodes_from [] keys) (op_term key.op) (op_term j.0.op) (sym made_so.does.path ∙ does.path) (sym made_so.does.children ∙ does.children) in
        let walk = (follows_at [] keys k k j.0 (omega arith) table.follow j.1).walk in
        let alike = key_alike key j.0 (record { op = op; sources = sym made_so.sources; targets = sym made_so.targets; walk = made_so.walk ∙ sym walk }) in
        absurd (true≢false (sym (any_there ((of_key.ghosts).eq key) keys k j.0 j.1 alike) ∙ miss))
