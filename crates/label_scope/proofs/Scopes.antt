-- What scopes have.
use Rattle.std.proofs.Common.{List, [], ◌∷◌, inl, inr, sym, subst}
use Rattle.std.specs.Prelude.{Contains}
use Rattle.itpg_base.specs.Words.{Word}
use Rattle.itpg_base.specs.Decided.{Decided}
use Rattle.itpg_base.proofs.Searches.{contains}
use Rattle.label_scope.specs.declared.scope.Scope.{Scope}
use Rattle.label_scope.specs.declared.scope.Scope.TheVariants.{All, These}
use Rattle.label_scope.specs.Scopes.{Has, met, joined}
use Rattle.label_scope.proofs.Lists.{nothing, first, more, first_or_more}
use Rattle.label_scope.proofs.Placing.{has_first_list, has_second_list}

pub has_met : (a b : Scope) (labels : List Word) → Has a labels → Has b labels → Has (met a b) labels
has_met All b labels h k = k
has_met (These names) b labels h k = h

pub met_has_first : (a b : Scope) (labels : List Word) → Has (met a b) labels → Has a labels
met_has_first All b labels h = tt
met_has_first (These names) b labels h = h

pub has_joined_first : (a b : Scope) (labels : List Word) → Has a labels → Has (joined a b) labels
has_joined_first All b labels h = tt
has_joined_first (These names) All labels h = tt
has_joined_first (These names) (These others) labels h = (h.0, h.1, has_first_list names others h.0 h.2)

pub has_joined_second : (a b : Scope) (labels : List Word) → Has b labels → Has (joined a b) labels
has_joined_second All b labels h = tt
has_joined_second (These names) All labels h = tt
has_joined_second (These names) (These others) labels h = (h.0, h.1, has_second_list names others h.0 h.2)

pub decide_has : (scope : Scope) (labels : List Word) → Decided (Has scope labels)
decide_has All labels = inl tt
decide_has (These names) [] = inr (λ h. nothing h.0 h.1)
decide_has (These names) (l ∷ ls) = elim (contains names l) [
  | inl has ↦ inl (l, first l ls, has)
  | inr hasnt ↦ elim (decide_has (These names) ls) [
    | inl later ↦ inl (later.0, more later.0 l ls later.1, later.2)
    | inr none ↦ inr (λ h. elim (first_or_more h.0 l ls h.1) [
      | inl same ↦ hasnt (subst (Contains names) (sym same) h.2)
      | inr later ↦ none (h.0, later, h.2)
    ])
  ]
]
