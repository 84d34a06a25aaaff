-- If two graphs agree on the footprint of a path, each of its worked members leads between the same points of them.
use Rattle.std.proofs.Common.{⊎_elim, ℕ, List, [], ◌∷◌, ◌++◌, Some, sym, subst}
use Rattle.std.specs.List.{AllByRecursion}
use Rattle.std.specs.Prelude.{Contains}
use Rattle.itpg_base.specs.Chains.{chain}
use Rattle.itpg_base.specs.Graphs.{Graph, Good}
use Rattle.itpg_base.specs.Points.{Point}
use Rattle.path_ast.specs.Terms.{PathTerm, OfTest, Forward, Backward, Next, Previous, Sequence, Choice, Repetition, TestTerm, IsNode, IsEdge, HasLabel, HasValue, IsBelow, DoesExist, Condition, Conjunction, Disjunction, Negation}
use Rattle.label_scope.specs.declared.scope.Scope.{Scope}
use Rattle.label_scope.specs.declared.scope.Scope.TheVariants.{All}
use Rattle.label_scope.specs.Narrowing.{Scopes, Cut, narrowed}
use Rattle.label_scope.specs.Members.{Member, worked, worked_conditions, middle, passed, powers_within, unions_within, further, members_between}
use Rattle.label_scope.specs.Footprints.{shape_of, of_either, with_shape, footprint, footprint_between, asked_of}
use Rattle.label_scope.specs.Agreeing.{Agree, IsSameOn}
use Rattle.label_scope.proofs.Lists.{nothing, first_or_more}
use Rattle.label_scope.proofs.Scopes.{has_joined_first}
use Rattle.label_scope.proofs.NarrowedAgain.{members_are}
use Rattle.label_scope.proofs.Inner.{each_within}
use Rattle.label_scope.proofs.Alike.{lies_first, lies_second, lies_under, lies_shape, agree_in, turned}
use Rattle.label_scope.proofs.FootprintLemma.{cut_same, between_same, repetition_too}

-- where the member's path leads on the one graph, it leads on the other
abbrev pub Follows : Graph → Graph → Member → Type 0
Follows g h m = (x y : Point) → Cut g m.path m.sources m.targets x y → Cut h m.path m.sources m.targets x y

both_follow : (g h : Graph) (xs ys : List Member) → AllByRecursion (Follows g h) xs → AllByRecursion (Follows g h) ys → AllByRecursion (Follows g h) (xs ++ ys)
both_follow g h [] ys one other = other
both_follow g h (x ∷ xs) ys one other = (one.0, both_follow g h xs ys one.1 other)

module _ (g h : Graph) (good : Good g) (also : Good h) where
  -- the path itself, between the scopes
  own_follows : (p : PathTerm) (a b : Scope) → Agree g h (footprint_between p a b) → Follows g h (record { path = p; sources = a; targets = b })
  own_follows p a b agree x y cut = between_same p a b g h x y good also agree cut

  -- the powers of a body within the scope of all that a repetition of it passes
  module _ (r : PathTerm) (ends : Scopes) (shape : Agree g h (shape_of (passed r ends))) (steps : Agree g h (footprint r (passed r ends) (passed r ends))) where
    powers_follow : (ks : List ℕ) → AllByRecursion (Follows g h) (powers_within r (passed r ends) ks)
    powers_follow [] = tt
    powers_follow (k ∷ ks) = (
      λ x y cut. repetition_too g h r (passed r ends) (λ v w. cut_same r (passed r ends) (passed r ends) g h v w good also steps) shape k (Some k) (passed r ends) (passed r ends) x y (λ zs walk. each_within g good r ends x y zs cut.source cut.target walk) cut,
      powers_follow ks,
    )

    unions_follow : (ks : List ℕ) → AllByRecursion (Follows g h) (unions_within r (passed r ends) ks)
    unions_follow [] = tt
    unions_follow (k ∷ ks) = (
      λ x y cut. repetition_too g h r (passed r ends) (λ v w. cut_same r (passed r ends) (passed r ends) g h v w good also steps) shape 0 (Some k) (passed r ends) (passed r ends) x y (λ zs walk. each_within g good r ends x y zs cut.source cut.target walk) cut,
      unions_follow ks,
    )

  -- what the members between the narrowed scopes do, the worked members do
  by_narrowed : (p : PathTerm) (a b : Scope) → AllByRecursion (Follows g h) (members_between p (narrowed p a b).sources (narrowed p a b).targets) → AllByRecursion (Follows g h) (worked p a b)
  by_narrowed p a b = subst (AllByRecursion (Follows g h)) (sym (members_are p a b))

  mutual
    pub between_follow : (p : PathTerm) (a b : Scope) → Agree g h (footprint_between p a b) → AllByRecursion (Follows g h) (members_between p a b)
    between_follow (OfTest c) a b agree =
        (own_follows (OfTest c) a b agree, conditions_follow c a (agree_in g h (asked_of c a) (with_shape a (asked_of c a)) (lies_under a (asked_of c a)) agree))
    between_follow Forward a b agree = (own_follows Forward a b agree, tt)
    between_follow Backward a b agree = (own_follows Backward a b agree, tt)
    between_follow Next a b agree = (own_follows Next a b agree, tt)
    between_follow Previous a b agree = (own_follows Previous a b agree, tt)
    between_follow (Sequence p q) a b agree =
        let m = middle p q (record { sources = a; targets = b }) in
        let first = footprint p a m in
        let second = footprint q m b in (
          own_follows (Sequence p q) a b agree,
          both_follow g h (worked p a m) (worked q m b)
              (by_narrowed p a m (between_follow p (narrowed p a m).sources (narrowed p a m).targets (agree_in g h first (of_either first second) (lies_first first second) agree)))
              (by_narrowed q m b (between_follow q (narrowed q m b).sources (narrowed q m b).targets (agree_in g h second (of_either first second) (lies_second first second) agree))),
        )
    between_follow (Choice p q) a b agree =
        let first = footprint p a b in
        let second = footprint q a b in (
          own_follows (Choice p q) a b agree,
          both_follow g h (worked p a b) (worked q a b)
              (by_narrowed p a b (between_follow p (narrowed p a b).sources (narrowed p a b).targets (agree_in g h first (of_either first second) (lies_first first second) agree)))
              (by_narrowed q a b (between_follow q (narrowed q a b).sources (narrowed q a b).targets (agree_in g h second (of_either first second) (lies_second first second) agree))),
        )
    between_follow (Repetition r n m) a b agree =
        let ends : Scopes = record { sources = a; targets = b } in
        let u = passed r ends in
        let body = footprint r u u in
        let shape = agree_in g h (shape_of u) (with_shape u body) (lies_shape u (with_shape u body) (λ labels. has_joined_first u body.shape labels)) agree in
        let steps = agree_in g h body (with_shape u body) (lies_under u body) agree in (
          own_follows (Repetition r n m) a b agree,
          both_follow g h (worked r u u) (powers_within r u (chain n) ++ unions_within r u (further n m)) (by_narrowed r u u (between_follow r (narrowed r u u).sources (narrowed r u u).targets steps))
              (both_follow g h (powers_within r u (chain n)) (unions_within r u (further n m)) (powers_follow r ends shape steps (chain n)) (unions_follow r ends shape steps (further n m))),
        )

    conditions_follow : (c : TestTerm) (a : Scope) → Agree g h (asked_of c a) → AllByRecursion (Follows g h) (worked_conditions c a)
    conditions_follow IsNode a agree = tt
    conditions_follow IsEdge a agree = tt
    conditions_follow (HasLabel label) a agree = tt
    conditions_follow (HasValue prop value) a agree = tt
    conditions_follow (IsBelow k) a agree = tt
    conditions_follow DoesExist a agree = tt
    conditions_follow (Condition p) a agree = by_narrowed p a All (between_follow p (narrowed p a All).sources (narrowed p a All).targets agree)
    conditions_follow (Conjunction c d) a agree =
        both_follow g h (worked_conditions c a) (worked_conditions d a)
        (conditions_follow c a (agree_in g h (asked_of c a) (of_either (asked_of c a) (asked_of d a)) (lies_first (asked_of c a) (asked_of d a)) agree))
        (conditions_follow d a (agree_in g h (asked_of d a) (of_either (asked_of c a) (asked_of d a)) (lies_second (asked_of c a) (asked_of d a)) agree))
    conditions_follow (Disjunction c d) a agree =
        both_follow g h (worked_conditions c a) (worked_conditions d a)
        (conditions_follow c a (agree_in g h (asked_of c a) (of_either (asked_of c a) (asked_of d a)) (lies_first (asked_of c a) (asked_of d a)) agree))
        (conditions_follow d a (agree_in g h (asked_of d a) (of_either (asked_of c a) (asked_of d a)) (lies_second (asked_of c a) (asked_of d a)) agree))
    conditions_follow (Negation c) a agree = conditions_follow c a agree

  pub members_follow : (p : PathTerm) (a b : Scope) → Agree g h (footprint p a b) → AllByRecursion (Follows g h) (worked p a b)
  members_follow p a b agree = by_narrowed p a b (between_follow p (narrowed p a b).sources (narrowed p a b).targets agree)

of_each : (P : Member → Type 0) (ms : List Member) (m : Member) → AllByRecursion P ms → Contains ms m → P m
of_each P [] m all has = absurd (nothing m has)
of_each P (n ∷ ms) m all has = ⊎_elim (λ same. subst P same all.0) (λ later. of_each P ms m all.1 later) (first_or_more m n ms has)

pub members_same : (p : PathTerm) (a b : Scope) (m : Member) (g h : Graph) → Good g → Good h → Agree g h (footprint p a b) → Contains (worked p a b) m → IsSameOn g h m
members_same p a b m g h good also agree has = λ x y. (
  of_each (Follows g h) (worked p a b) m (members_follow g h good also p a b agree) has x y,
  of_each (Follows h g) (worked p a b) m (members_follow h g also good p a b (turned g h (footprint p a b) agree)) has x y,
)

pub between_members_same : (p : PathTerm) (a b : Scope) (m : Member) (g h : Graph) → Good g → Good h → Agree g h (footprint_between p a b) → Contains (members_between p a b) m → IsSameOn g h m
between_members_same p a b m g h good also agree has = λ x y. (
  of_each (Follows g h) (members_between p a b) m (between_follow g h good also p a b agree) has x y,
  of_each (Follows h g) (members_between p a b) m (between_follow h g also good p a b (turned g h (footprint_between p a b) agree)) has x y,
)
