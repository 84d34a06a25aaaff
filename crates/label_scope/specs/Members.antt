-- The worked members of a path between two scopes: the paths between scopes whose relations are worked out on the way to
-- the path's own. A question is too wide where the relation of one of them has too many rows.
use Rattle.std.specs.Prelude.{ℕ, zero, suc, ◌-◌, ◌^◌, Bool, true, false, List, [], ◌∷◌, ◌++◌, Option, Some, None}
use Rattle.itpg_base.specs.Chains.{chain}
use Rattle.path_ast.specs.Terms.{PathTerm, OfTest, Forward, Backward, Next, Previous, Sequence, Choice, Repetition, TestTerm, IsNode, IsEdge, HasLabel, HasValue, IsBelow, DoesExist, Condition, Conjunction, Disjunction, Negation}
use Rattle.path_ast.specs.Meaning.{keeps_object}
use Rattle.label_scope.specs.declared.scope.Scope.{Scope}
use Rattle.label_scope.specs.declared.scope.Scope.TheVariants.{All}
use Rattle.label_scope.specs.Scopes.{met, joined, met_where, source_scope, target_scope}
use Rattle.label_scope.specs.Narrowing.{Scopes, narrowed}

-- a path, and the scopes that it is worked between
pub record Member : Type 0 where
  pub path : PathTerm
  pub sources : Scope
  pub targets : Scope

-- the scope in the middle of a sequence: where the first path can end and the second start; met with the sources where
-- the first path keeps its object, and with the targets where the second does
abbrev pub middle : PathTerm → PathTerm → Scopes → Scope
middle p q ends = met_where (keeps_object q) (met_where (keeps_object p) (met (target_scope p) (source_scope q)) ends.sources) ends.targets

-- the scope of every object that a repetition passes: where the body keeps its object the sources; else the sources, the
-- targets, and where the body can end and start again
abbrev pub passed_where : Bool → PathTerm → Scopes → Scope
passed_where true body ends = ends.sources
passed_where false body ends = joined (joined ends.sources ends.targets) (met (target_scope body) (source_scope body))

abbrev pub passed : PathTerm → Scopes → Scope
passed body ends = passed_where (keeps_object body) body ends

-- the path repeated k times, for each k of the list, within the scope
abbrev pub powers_within : PathTerm → Scope → List ℕ → List Member
powers_within body u [] = []
powers_within body u (k ∷ ks) = record { path = Repetition body k (Some k); sources = u; targets = u } ∷ powers_within body u ks

-- the path repeated up to k times, for each k of the list, within the scope
abbrev pub unions_within : PathTerm → Scope → List ℕ → List Member
unions_within body u [] = []
unions_within body u (k ∷ ks) = record { path = Repetition body 0 (Some k); sources = u; targets = u } ∷ unions_within body u ks

-- the powers of two up to 2^j
unfoldable pub doubles : ℕ → List ℕ
doubles zero = 1 ∷ []
doubles (suc j) = doubles j ++ 2 ^ suc j ∷ []

-- how often a repetition may go on after its least number of times: on the way to the most, or to 2^60, which is more
-- steps than a graph has points
abbrev pub further : ℕ → Option ℕ → List ℕ
further n (Some m) = chain (m - n)
further n None = doubles 60

-- the path itself between its narrowed scopes, and the members that it needs between these
abbrev pub with_parts : PathTerm → Scope → Scope → (Scopes → List Member) → List Member
with_parts p a b parts = let ends = narrowed p a b in record { path = p; sources = ends.sources; targets = ends.targets } ∷ parts ends

-- the members of a path between two scopes, and those of the conditions of a test between a scope and `All`
abbrev mutual
  pub worked : PathTerm → Scope → Scope → List Member
  worked (OfTest c) a b = with_parts (OfTest c) a b (λ ends. worked_conditions c ends.sources)
  worked Forward a b = with_parts Forward a b (λ ends. [])
  worked Backward a b = with_parts Backward a b (λ ends. [])
  worked Next a b = with_parts Next a b (λ ends. [])
  worked Previous a b = with_parts Previous a b (λ ends. [])
  worked (Sequence p q) a b = with_parts (Sequence p q) a b (λ ends. worked p ends.sources (middle p q ends) ++ worked q (middle p q ends) ends.targets)
  worked (Choice p q) a b = with_parts (Choice p q) a b (λ ends. worked p ends.sources ends.targets ++ worked q ends.sources ends.targets)
  worked (Repetition r n m) a b =
      with_parts (Repetition r n m) a b (λ ends. worked r (passed r ends) (passed r ends) ++ (powers_within r (passed r ends) (chain n) ++ unions_within r (passed r ends) (further n m)))

  pub worked_conditions : TestTerm → Scope → List Member
  worked_conditions IsNode a = []
  worked_conditions IsEdge a = []
  worked_conditions (HasLabel label) a = []
  worked_conditions (HasValue prop value) a = []
  worked_conditions (IsBelow k) a = []
  worked_conditions DoesExist a = []
  worked_conditions (Condition p) a = worked p a All
  worked_conditions (Conjunction c d) a = worked_conditions c a ++ worked_conditions d a
  worked_conditions (Disjunction c d) a = worked_conditions c a ++ worked_conditions d a
  worked_conditions (Negation c) a = worked_conditions c a

-- the path between the scopes
abbrev pub member : PathTerm → Scope → Scope → Member
member p a b = record { path = p; sources = a; targets = b }

-- an axis needs no other member
abbrev pub axis_members : PathTerm → Scope → Scope → List Member
axis_members p a b = member p a b ∷ []

-- a test needs those of its conditions
abbrev pub test_members : TestTerm → Scope → Scope → List Member
test_members c a b = member (OfTest c) a b ∷ worked_conditions c a

-- a sequence needs those of the first path to the middle, and of the second from there
abbrev pub sequence_members : PathTerm → PathTerm → Scope → Scope → List Member
sequence_members p q a b = let m = middle p q (record { sources = a; targets = b }) in member (Sequence p q) a b ∷ (worked p a m ++ worked q m b)

-- a choice needs those of both paths
abbrev pub choice_members : PathTerm → PathTerm → Scope → Scope → List Member
choice_members p q a b = member (Choice p q) a b ∷ (worked p a b ++ worked q a b)

-- a repetition needs those of its body between all that it passes, and the powers there
abbrev pub repeated_members : PathTerm → ℕ → Option ℕ → Scope → Scope → List Member
repeated_members r n m a b = let u = passed r (record { sources = a; targets = b }) in member (Repetition r n m) a b ∷ (worked r u u ++ (powers_within r u (chain n) ++ unions_within r u (further n m)))

-- those of a path between narrowed scopes
abbrev pub members_between : PathTerm → Scope → Scope → List Member
members_between (OfTest c) a b = test_members c a b
members_between Forward a b = axis_members Forward a b
members_between Backward a b = axis_members Backward a b
members_between Next a b = axis_members Next a b
members_between Previous a b = axis_members Previous a b
members_between (Sequence p q) a b = sequence_members p q a b
members_between (Choice p q) a b = choice_members p q a b
members_between (Repetition r n m) a b = repeated_members r n m a b
