-- The relation of a plan node, from those of its children.
use Rattle.std.proofs.Common.{◌≡◌, ℕ, List, [], ◌∷◌, ◌++◌, length, slice_get, Option, Some, None, Result, Ok, Err, refl, sym, subst, arith}
use Rattle.std.specs.Prelude.{IsSomeAnd, IfOk}
use Rattle.std.proofs.lemmas.List.{length-append}
use Rattle.itpg_base.specs.Graphs.{Graph, Good}
use Rattle.relation_rows.specs.declared.rows.Row.{Row}
use Rattle.relation_rows.specs.declared.rows.RelFault.{RelFault}
use Rattle.relation_rows.specs.Rows.{NormalRows}
use Rattle.relation_rows.specs.Answers.{Gives}
use Rattle.relation_rows.specs.Relations.{HasMiddlePoint, EitherHolds}
use Rattle.path_ast.specs.declared.ast.Leaf.TheVariants.{Node, Edge, Label, Value, Before, Exists}
use Rattle.path_ast.specs.Terms.{PathTerm}
use Rattle.path_ast.specs.Sizes.{IsPathInRange}
use Rattle.label_scope.specs.declared.scope.Scope.{Scope}
use Rattle.label_scope.specs.declared.scope.Scope.TheVariants.{All}
use Rattle.label_scope.specs.Narrowing.{Cut}
use Rattle.label_scope.specs.Members.{Member, worked, worked_conditions, middle, passed, member}
use Rattle.plan_cache.specs.Operations.{OpTerm, InTurn, OneOf, Times, PartTerm, Asks, Leads, BothHold, EitherHolds as EitherIs, Fails, op_children, part_children}
use Rattle.plan_cache.specs.Nodes.{PlanNode, IsOperation, IsWalkScope, narrowed_member, conditions, parts, parts_of, path_at, read_back, test_read_back}
use Rattle.plan_cache.specs.RightRows.{AllFit, IsRight, members_of, member_relation}
use Rattle.path_eval.specs.Made.{MaybeRows, IsMade, AreMade, HasParts}
use Rattle.path_eval.specs.Working.{WorksOutAs}
use Rattle.path_eval.proofs.MembersWithin.{none_fit, fit_both}
use Rattle.path_eval.proofs.Working.{unnarrowed, sequence_out, choice_out}

pub if_ok_as : {X E : Type 0} (P Q : X → Type 0) (result : Result X E) → ((x : X) → P x → Q x) → IfOk result P → IfOk result Q
if_ok_as P Q (Ok x) f h = f x h
if_ok_as P Q (Err e) f h = tt

-- the operation is that of the node, and the scopes are the node's
abbrev pub IsOf : List PlanNode → OpTerm → Scope → Scope → PlanNode → Type 0
IsOf nodes op a b n = IsOperation nodes n op × (n.member.sources ≡ a) × (n.member.targets ≡ b)

pub is_of : (nodes : List PlanNode) (o : Option PlanNode) (op : OpTerm) (a b : Scope) → IsSomeAnd o (λ n. IsOperation nodes n op) → IsSomeAnd o (λ n. (n.member.sources ≡ a) × (n.member.targets ≡ b)) → IsSomeAnd o (IsOf nodes op a b)
is_of nodes None op a b is ends = absurd is
is_of nodes (Some n) op a b is ends = (is, ends.0, ends.1)

same_member : (p q : PathTerm) (a b c d : Scope) → p ≡ q → a ≡ b → c ≡ d → member p a c ≡ member q b d
same_member p q a b c d e f h = cc

-- so its member is the path that the operation is read back as, between the scopes
member_is : (nodes : List PlanNode) (op : OpTerm) (a b : Scope) (n : PlanNode) → IsOf nodes op a b n → n.member ≡ member (read_back nodes op) a b
member_is nodes op a b n is = let does = is.0 in let m = n.member in same_member m.path (read_back nodes op) m.sources a m.targets b does.path is.1 is.2

-- what holds of that member holds of the node's
pub at_node : (nodes : List PlanNode) (o : Option PlanNode) (op : OpTerm) (a b : Scope) (P : Member → Type 0) → IsSomeAnd o (IsOf nodes op a b) → P (member (read_back nodes op) a b) → IsSomeAnd o (λ n. P n.member)
at_node nodes None op a b P is h = absurd is
at_node nodes (Some n) op a b P is h = subst P (sym (member_is nodes op a b n is)) h

module _ (g : Graph) (limit : ℕ) (good : Good g) (nodes : List PlanNode) (made : List MaybeRows) where
  -- the numbers that the operation names are made
  pub parts_at : (o : Option PlanNode) (op : OpTerm) (a b : Scope) → IsSomeAnd o (IsOf nodes op a b) → IsSomeAnd o (HasParts g limit made)
      → IsPathInRange (read_back nodes op) × AreMade g limit made (op_children op) (parts (read_back nodes op) a b)
  parts_at None op a b is h = absurd is
  parts_at (Some n) op a b is h =
      let does = is.0 in (
        subst IsPathInRange does.path h.in_range,
        subst (λ (ks : List ℕ). AreMade g limit made ks (parts (read_back nodes op) a b)) does.children
            (subst (λ (m : Member). AreMade g limit made n.children (parts_of m)) (member_is nodes op a b n is) h.parts),
      )

  -- a part that is made is its path between the scopes before they were narrowed
  pub made_part : (k : ℕ) (p : PathTerm) (a b : Scope) (rows : List Row) → IsMade g limit made k (narrowed_member p a b) → slice_get made k ≡ Some (Some rows) → NormalRows (Cut g p a b) rows × AllFit g limit (worked p a b)
  made_part k p a b rows is e =
      let there = is.1 in
      let same : is.0 ≡ rows = cc in
      let right = subst (IsRight g limit (narrowed_member p a b)) same is.2 in
      unnarrowed g limit good p a b (narrowed_member p a b).sources (narrowed_member p a b).targets refl refl (Ok rows) (right.normal, right.fits)

  pub sequence_step : (o : Option PlanNode) (x y : ℕ) (a b : Scope) → IsSomeAnd o (IsOf nodes (InTurn x y) a b) → IsSomeAnd o (HasParts g limit made) → (left right : List Row)
      → slice_get made x ≡ Some (Some left) → slice_get made y ≡ Some (Some right) → (result : Result (List Row) RelFault) → Gives result (HasMiddlePoint left right) limit
      → IsSomeAnd o (λ n. WorksOutAs result (member_relation g n.member) g limit (members_of n.member))
  sequence_step o x y a b is h left right l r result given =
      let p = path_at nodes x in
      let q = path_at nodes y in
      let m = middle p q (record { sources = a; targets = b }) in
      let part = (parts_at o (InTurn x y) a b is h).1 in
      at_node nodes o (InTurn x y) a b (λ (v : Member). WorksOutAs result (member_relation g v) g limit (members_of v)) is
      (sequence_out g limit good p q a b m refl left right (made_part x p a m left part.0 l) (made_part y q m b right part.1.0 r) result given)

  pub choice_step : (o : Option PlanNode) (x y : ℕ) (a b : Scope) → IsSomeAnd o (IsOf nodes (OneOf x y) a b) → IsSomeAnd o (HasParts g limit made) → (left right : List Row)
      → slice_get made x ≡ Some (Some left) → slice_get made y ≡ Some (Some right) → (result : Result (List Row) RelFault) → Gives result (EitherHolds left right) limit
      → IsSomeAnd o (λ n. WorksOutAs result (member_relation g n.member) g limit (members_of n.member))
  choice_step o x y a b is h left right l r result given =
      let p = path_at nodes x in
      let q = path_at nodes y in
      let part = (parts_at o (OneOf x y) a b is h).1 in
      at_node nodes o (OneOf x y) a b (λ (v : Member). WorksOutAs result (member_relation g v) g limit (members_of v)) is
      (choice_out g limit good p q a b left right (made_part x p a b left part.0 l) (made_part y q a b right part.1.0 r) result given)

  -- the first numbers are those of the first members
  made_apart : (ks ls : List ℕ) (ms ns : List Member) → length ks ≡ length ms → AreMade g limit made (ks ++ ls) (ms ++ ns) → AreMade g limit made ks ms × AreMade g limit made ls ns
  made_apart [] ls [] ns e h = (tt, h)
  made_apart [] ls (m ∷ ms) ns e h = absurd (let none : ⊥ = omega (arith, e) in none)
  made_apart (k ∷ ks) ls [] ns e h = absurd (let none : ⊥ = omega (arith, e) in none)
  made_apart (k ∷ ks) ls (m ∷ ms) ns e h = let rest = made_apart ks ls ms ns (omega (arith, e)) h.1 in ((h.0, rest.0), rest.1)

  -- a test names as many nodes as it has conditions
  as_many : (c : PartTerm) (a : Scope) → length (part_children c) ≡ length (conditions (test_read_back nodes c) a)
  as_many (Asks Node) a = refl
  as_many (Asks Edge) a = refl
  as_many (Asks (Label label)) a = refl
  as_many (Asks (Value prop value)) a = refl
  as_many (Asks (Before k)) a = refl
  as_many (Asks Exists) a = refl
  as_many (Leads k) a = refl
  as_many (BothHold c d) a = as_many_in_both (part_children c) (part_children d) (conditions (test_read_back nodes c) a) (conditions (test_read_back nodes d) a) (as_many c a) (as_many d a)
    where
      as_many_in_both : (ks ls : List ℕ) (ms ns : List Member) → length ks ≡ length ms → length ls ≡ length ns → length (ks ++ ls) ≡ length (ms ++ ns)
      as_many_in_both ks ls ms ns e f = let k = length-append ks ls in let m = length-append ms ns in omega (arith, e, f, k, m)
  as_many (EitherIs c d) a = as_many_in_both (part_children c) (part_children d) (conditions (test_read_back nodes c) a) (conditions (test_read_back nodes d) a) (as_many c a) (as_many d a)
    where
      as_many_in_both : (ks ls : List ℕ) (ms ns : List Member) → length ks ≡ length ms → length ls ≡ length ns → length (ks ++ ls) ≡ length (ms ++ ns)
      as_many_in_both ks ls ms ns e f = let k = length-append ks ls in let m = length-append ms ns in omega (arith, e, f, k, m)
  as_many (Fails c) a = as_many c a

  -- of two tests together each has its conditions made
  pub made_of_both : (c d : PartTerm) (a : Scope) → AreMade g limit made (part_children c ++ part_children d) (conditions (test_read_back nodes c) a ++ conditions (test_read_back nodes d) a)
      → AreMade g limit made (part_children c) (conditions (test_read_back nodes c) a) × AreMade g limit made (part_children d) (conditions (test_read_back nodes d) a)
  made_of_both c d a = made_apart (part_children c) (part_children d) (conditions (test_read_back nodes c) a) (conditions (test_read_back nodes d) a) (as_many c a)

  -- conditions that are made fit
  pub conditions_fit : (c : PartTerm) (a : Scope) → AreMade g limit made (part_children c) (conditions (test_read_back nodes c) a) → AllFit g limit (worked_conditions (test_read_back nodes c) a)
  conditions_fit (Asks Node) a h = none_fit g limit
  conditions_fit (Asks Edge) a h = none_fit g limit
  conditions_fit (Asks (Label label)) a h = none_fit g limit
  conditions_fit (Asks (Value prop value)) a h = none_fit g limit
  conditions_fit (Asks (Before k)) a h = none_fit g limit
  conditions_fit (Asks Exists) a h = none_fit g limit
  conditions_fit (Leads k) a h = (made_part k (path_at nodes k) a All (h.0).0 h.0 (h.0).1).1
  conditions_fit (BothHold c d) a h =
      let apart = made_of_both c d a h in fit_both g limit (worked_conditions (test_read_back nodes c) a) (worked_conditions (test_read_back nodes d) a) (conditions_fit c a apart.0) (conditions_fit d a apart.1)
  conditions_fit (EitherIs c d) a h =
      let apart = made_of_both c d a h in fit_both g limit (worked_conditions (test_read_back nodes c) a) (worked_conditions (test_read_back nodes d) a) (conditions_fit c a apart.0) (conditions_fit d a apart.1)
  conditions_fit (Fails c) a h = conditions_fit c a h

-- the walk scope of a repetition's node
pub walk_at : (nodes : List PlanNode) (o : Option PlanNode) (x n : ℕ) (m : Option ℕ) (a b : Scope) (walk : Option Scope) → IsSomeAnd o (IsOf nodes (Times x n m) a b) → IsSomeAnd o (λ v. IsWalkScope v.member walk)
    → walk ≡ Some (passed (path_at nodes x) (record { sources = a; targets = b }))
walk_at nodes None x n m a b walk is h = absurd is
walk_at nodes (Some v) x n m a b walk is h = subst (λ (w : Member). IsWalkScope w walk) (member_is nodes (Times x n m) a b v is) h
