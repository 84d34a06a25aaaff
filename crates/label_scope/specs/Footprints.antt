-- What the relation of a path between two scopes can depend on.
use Rattle.std.specs.Prelude.{[], ◌∷◌}
use Rattle.itpg_base.specs.Words.{Word}
use Rattle.path_ast.specs.Terms.{PathTerm, OfTest, Forward, Backward, Next, Previous, Sequence, Choice, Repetition, TestTerm, IsNode, IsEdge, HasLabel, HasValue, IsBelow, DoesExist, Condition, Conjunction, Disjunction, Negation}
use Rattle.label_scope.specs.declared.scope.Scope.{Scope}
use Rattle.label_scope.specs.declared.scope.Scope.TheVariants.{All, These}
use Rattle.label_scope.specs.declared.footprint.Footprint.{Footprint}
use Rattle.label_scope.specs.Scopes.{joined}
use Rattle.label_scope.specs.Narrowing.{narrowed}
use Rattle.label_scope.specs.Members.{middle, passed}
use Rattle.label_scope.specs.PropertyScopes.{scopes_of_either}

-- the scope without a label
abbrev pub nowhere : Scope
nowhere = These []

-- it is asked which objects of a scope stand, with which labels and ends
abbrev pub shape_of : Scope → Footprint
shape_of a = record { shape = a; live = nowhere; values = [] }

-- nothing is asked
abbrev pub nothing_asked : Footprint
nothing_asked = shape_of nowhere

-- it is asked when the objects of a scope exist
abbrev pub live_of : Scope → Footprint
live_of a = record { shape = nowhere; live = a; values = [] }

-- it is asked which values of a property they have
abbrev pub values_of : Word → Scope → Footprint
values_of prop a = record { shape = nowhere; live = nowhere; values = record { prop = prop; scope = a } ∷ [] }

-- all that either footprint asks
abbrev pub of_either : Footprint → Footprint → Footprint
of_either f more = record { shape = joined f.shape more.shape; live = joined f.live more.live; values = scopes_of_either f.values more.values }

-- the same, and the shape of the objects of a scope
abbrev pub with_shape : Scope → Footprint → Footprint
with_shape a f = record { shape = joined a f.shape; live = f.live; values = f.values }

-- what a path asks between scopes that are narrowed, at what its own labels leave of these two
abbrev pub after_narrowing : PathTerm → Scope → Scope → (Scope → Scope → Footprint) → Footprint
after_narrowing p a b between = let ends = narrowed p a b in between ends.sources ends.targets

-- the footprint of a path between scopes that are narrowed, and what a test asks of the objects of a scope beyond their shape.
-- An axis along edges asks the shape of both scopes; a repetition that of all that it passes, for it may be repeated no time; a
-- condition asks what its path does, and a negation what its test does
abbrev mutual
  pub footprint_between : PathTerm → Scope → Scope → Footprint
  footprint_between (OfTest c) a b = with_shape a (asked_of c a)
  footprint_between Forward a b = shape_of (joined a b)
  footprint_between Backward a b = shape_of (joined a b)
  footprint_between Next a b = shape_of a
  footprint_between Previous a b = shape_of a
  footprint_between (Sequence p q) a b =
      let m = middle p q (record { sources = a; targets = b }) in of_either (after_narrowing p a m (footprint_between p)) (after_narrowing q m b (footprint_between q))
  footprint_between (Choice p q) a b = of_either (after_narrowing p a b (footprint_between p)) (after_narrowing q a b (footprint_between q))
  footprint_between (Repetition r n m) a b = let u = passed r (record { sources = a; targets = b }) in with_shape u (after_narrowing r u u (footprint_between r))

  pub asked_of : TestTerm → Scope → Footprint
  asked_of IsNode a = nothing_asked
  asked_of IsEdge a = nothing_asked
  asked_of (HasLabel label) a = nothing_asked
  asked_of (HasValue prop value) a = values_of prop a
  asked_of (IsBelow k) a = nothing_asked
  asked_of DoesExist a = live_of a
  asked_of (Condition p) a = after_narrowing p a All (footprint_between p)
  asked_of (Conjunction c d) a = of_either (asked_of c a) (asked_of d a)
  asked_of (Disjunction c d) a = of_either (asked_of c a) (asked_of d a)
  asked_of (Negation c) a = asked_of c a

-- the footprint of a path between two scopes
abbrev pub footprint : PathTerm → Scope → Scope → Footprint
footprint p a b = after_narrowing p a b (footprint_between p)
