-- Whether a footprint meets a touch is decided.
use Rattle.std.proofs.Common.{◌≡◌, ◌⊎◌, inl, inr, ⊎_elim, List, [], ◌∷◌}
use Rattle.itpg_base.specs.Decided.{Decided}
use Rattle.itpg_base.specs.declared.touch.Touch.{Touch}
use Rattle.itpg_base.specs.declared.touch.Touch.TheVariants as touched
use Rattle.itpg_base.proofs.Searches.{same_word}
use Rattle.label_scope.specs.declared.prop_scopes.PropScope.{PropScope}
use Rattle.label_scope.specs.declared.footprint.Footprint.{Footprint}
use Rattle.label_scope.specs.Scopes.{Has}
use Rattle.label_scope.specs.PropertyScopes.{SomeIs, SomeScopeHas}
use Rattle.label_scope.specs.Touching.{Meets}
use Rattle.label_scope.proofs.Scopes.{decide_has}

some_decided : (Such : PropScope → Type 0) → ((s : PropScope) → Decided (Such s)) → (scopes : List PropScope) → Decided (SomeIs Such scopes)
some_decided Such decide [] = inr (λ h. h)
some_decided Such decide (s ∷ scopes) = elim (decide s) [
  | inl is ↦ inl (inl is)
  | inr isnt ↦ elim (some_decided Such decide scopes) [
    | inl later ↦ inl (inr later)
    | inr none ↦ inr (λ h. ⊎_elim isnt none h)
  ]
]

both_decided : (P Q : Type 0) → Decided P → Decided Q → Decided (P × Q)
both_decided P Q (inl p) (inl q) = inl (p, q)
both_decided P Q (inl p) (inr q) = inr (λ h. q h.1)
both_decided P Q (inr p) q = inr (λ h. p h.0)

either_decided : (P Q : Type 0) → Decided P → Decided Q → Decided (P ⊎ Q)
either_decided P Q (inl p) q = inl (inl p)
either_decided P Q (inr p) (inl q) = inl (inr q)
either_decided P Q (inr p) (inr q) = inr (λ h. ⊎_elim p q h)

pub decide_meets : (f : Footprint) (touch : Touch) → Decided (Meets f touch)
decide_meets f touched.All = inl tt
decide_meets f (touched.Shape labels) = decide_has f.shape labels
decide_meets f (touched.Live labels) = decide_has f.live labels
decide_meets f (touched.Gone labels) =
    either_decided (Has f.live labels) (SomeScopeHas f.values labels) (decide_has f.live labels) (some_decided (λ s. Has s.scope labels) (λ s. decide_has s.scope labels) f.values)
decide_meets f (touched.Value labels prop) =
    some_decided (λ s. (s.prop ≡ prop) × Has s.scope labels) (λ s. both_decided (s.prop ≡ prop) (Has s.scope labels) (same_word s.prop prop) (decide_has s.scope labels)) f.values
