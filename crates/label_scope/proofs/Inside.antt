-- What a footprint asks of objects, it asks of objects of its shape alone.
use Rattle.std.proofs.Common.{◌⊎◌, inl, inr, ⊎_elim, List}
use Rattle.itpg_base.specs.Words.{Word}
use Rattle.path_ast.specs.Terms.{PathTerm, OfTest, Forward, Backward, Next, Previous, Sequence, Choice, Repetition, TestTerm, IsNode, IsEdge, HasLabel, HasValue, IsBelow, DoesExist, Condition, Conjunction, Disjunction, Negation}
use Rattle.label_scope.specs.declared.scope.Scope.{Scope}
use Rattle.label_scope.specs.declared.scope.Scope.TheVariants.{All}
use Rattle.label_scope.specs.declared.footprint.Footprint.{Footprint}
use Rattle.label_scope.specs.Scopes.{Has, joined}
use Rattle.label_scope.specs.PropertyScopes.{ScopeHas}
use Rattle.label_scope.specs.Narrowing.{narrowed}
use Rattle.label_scope.specs.Members.{middle, passed}
use Rattle.label_scope.specs.Footprints.{shape_of, of_either, with_shape, footprint, footprint_between, asked_of}
use Rattle.label_scope.proofs.Lists.{nothing}
use Rattle.label_scope.proofs.Scopes.{has_joined_first, has_joined_second}
use Rattle.label_scope.proofs.ByProperty.{joined_has, scope_from_either}

-- each set of labels of which it asks the existence or a value is such
pub record IsInside (f : Footprint) (Such : List Word → Type 0) : Type 0 where
  pub live : (labels : List Word) → Has f.live labels → Such labels
  pub values : (prop : Word) (labels : List Word) → ScopeHas f.values prop labels → Such labels

shape_inside : (a : Scope) (Such : List Word → Type 0) → IsInside (shape_of a) Such
shape_inside a Such = record { live = λ labels h. absurd (nothing h.0 h.2); values = λ prop labels h. absurd h }

either_inside : (f more : Footprint) (P Q R : List Word → Type 0) → ((labels : List Word) → P labels → R labels) → ((labels : List Word) → Q labels → R labels) → IsInside f P → IsInside more Q → IsInside (of_either f more) R
either_inside f more P Q R first second one other = record {
  live = λ labels h. ⊎_elim (λ k. first labels (one.live labels k)) (λ k. second labels (other.live labels k)) (joined_has f.live more.live labels h);
  values = λ prop labels h. ⊎_elim (λ k. first labels (one.values prop labels k)) (λ k. second labels (other.values prop labels k)) (scope_from_either f.values more.values prop labels h);
}

both_inside : (f more : Footprint) → IsInside f (Has f.shape) → IsInside more (Has more.shape) → IsInside (of_either f more) (Has (joined f.shape more.shape))
both_inside f more = either_inside f more (Has f.shape) (Has more.shape) (Has (joined f.shape more.shape)) (λ labels. has_joined_first f.shape more.shape labels) (λ labels. has_joined_second f.shape more.shape labels)

-- beyond a scope or its shape
abbrev AskedWithin : Footprint → Scope → List Word → Type 0
AskedWithin f a labels = Has a labels ⊎ Has f.shape labels

both_asked : (f more : Footprint) (a : Scope) → IsInside f (AskedWithin f a) → IsInside more (AskedWithin more a) → IsInside (of_either f more) (AskedWithin (of_either f more) a)
both_asked f more a =
    either_inside f more (AskedWithin f a) (AskedWithin more a) (AskedWithin (of_either f more) a)
    (λ labels. ⊎_elim (λ k. inl k) (λ k. inr (has_joined_first f.shape more.shape labels k))) (λ labels. ⊎_elim (λ k. inl k) (λ k. inr (has_joined_second f.shape more.shape labels k)))

shaped_inside : (a : Scope) (f : Footprint) → IsInside f (AskedWithin f a) → IsInside (with_shape a f) (Has (joined a f.shape))
shaped_inside a f is = record {
  live = λ labels h. ⊎_elim (λ k. has_joined_first a f.shape labels k) (λ k. has_joined_second a f.shape labels k) (is.live labels h);
  values = λ prop labels h. ⊎_elim (λ k. has_joined_first a f.shape labels k) (λ k. has_joined_second a f.shape labels k) (is.values prop labels h);
}

by_shape : (f : Footprint) (a : Scope) → IsInside f (Has f.shape) → IsInside f (AskedWithin f a)
by_shape f a is = record { live = λ labels h. inr (is.live labels h); values = λ prop labels h. inr (is.values prop labels h) }

mutual
  pub between_inside : (p : PathTerm) (a b : Scope) → IsInside (footprint_between p a b) (Has (footprint_between p a b).shape)
  between_inside (OfTest c) a b = shaped_inside a (asked_of c a) (asked_inside c a)
  between_inside Forward a b = shape_inside _ _
  between_inside Backward a b = shape_inside _ _
  between_inside Next a b = shape_inside _ _
  between_inside Previous a b = shape_inside _ _
  between_inside (Sequence p q) a b =
      let m = middle p q (record { sources = a; targets = b }) in both_inside (footprint p a m) (footprint q m b) (between_inside p (narrowed p a m).sources (narrowed p a m).targets) (between_inside q (narrowed q m b).sources (narrowed q m b).targets)
  between_inside (Choice p q) a b = both_inside (footprint p a b) (footprint q a b) (between_inside p (narrowed p a b).sources (narrowed p a b).targets) (between_inside q (narrowed q a b).sources (narrowed q a b).targets)
  between_inside (Repetition r n m) a b =
      let u = passed r (record { sources = a; targets = b }) in shaped_inside u (footprint r u u) (by_shape (footprint r u u) u (between_inside r (narrowed r u u).sources (narrowed r u u).targets))

  asked_inside : (c : TestTerm) (a : Scope) → IsInside (asked_of c a) (AskedWithin (asked_of c a) a)
  asked_inside IsNode a = shape_inside _ _
  asked_inside IsEdge a = shape_inside _ _
  asked_inside (HasLabel label) a = shape_inside _ _
  asked_inside (HasValue prop value) a = record { live = λ labels h. absurd (nothing h.0 h.2); values = λ name labels h. ⊎_elim (λ at. inl at.1) (λ none. absurd none) h }
  asked_inside (IsBelow k) a = shape_inside _ _
  asked_inside DoesExist a = record { live = λ labels h. inl h; values = λ prop labels h. absurd h }
  asked_inside (Condition p) a = by_shape (footprint p a All) a (between_inside p (narrowed p a All).sources (narrowed p a All).targets)
  asked_inside (Conjunction c d) a = both_asked (asked_of c a) (asked_of d a) a (asked_inside c a) (asked_inside d a)
  asked_inside (Disjunction c d) a = both_asked (asked_of c a) (asked_of d a) a (asked_inside c a) (asked_inside d a)
  asked_inside (Negation c) a = asked_inside c a

pub footprint_inside : (p : PathTerm) (a b : Scope) → IsInside (footprint p a b) (Has (footprint p a b).shape)
footprint_inside p a b = between_inside p (narrowed p a b).sources (narrowed p a b).targets
