-- Hints that are taken one by one.
use Rattle.std.proofs.Common.{◌≡◌, ℕ, suc, ◌+◌, ◌<◌, List, [], ◌∷◌, ◌++◌, inl, inr, length, drop, get_or, refl, sym, ap, ◌∙◌, subst, append_assoc, append-nil, add-one, drop-cons}
use Rattle.itpg_base.specs.Graphs.{Graph}
use Rattle.question_hints.specs.declared.hint.Hint.{Hint}
use Rattle.question_hints.specs.Certain.{IsCertain, AreCertain}

-- with these hints before it, what is certain of the hints from the place on is certain of all
abbrev pub AreSoFar : Graph → List Hint → ℕ → List Hint → Type 0
AreSoFar g asked i hints = (rest : List Hint) → AreCertain g (drop i asked) rest → AreCertain g asked (hints ++ rest)

-- the hints from a place on
from_place : (asked : List Hint) (i : ℕ) (x : Hint) → i < length asked → get_or asked i x ≡ x → drop i asked ≡ x ∷ drop (i + 1) asked
from_place asked i x lt is = drop-cons asked i x lt ∙ ap (λ y. y ∷ drop (suc i) asked) is ∙ ap (λ n. x ∷ drop n asked) (sym (add-one i))

pub certain_taken : (g : Graph) (asked hints : List Hint) (i : ℕ) (x : Hint) → i < length asked → get_or asked i x ≡ x → IsCertain g x → AreSoFar g asked i hints → AreSoFar g asked (i + 1) (hints ++ x ∷ [])
certain_taken g asked hints i x lt is certain sofar rest are =
    subst (λ hs. AreCertain g asked hs) (sym (append_assoc hints (x ∷ []) rest))
    (sofar (x ∷ rest) (subst (λ hs. AreCertain g hs (x ∷ rest)) (sym (from_place asked i x lt is)) (inl (certain, (rest, refl, are)))))

pub other_left : (g : Graph) (asked hints : List Hint) (i : ℕ) (x : Hint) → i < length asked → get_or asked i x ≡ x → (¬ IsCertain g x) → AreSoFar g asked i hints → AreSoFar g asked (i + 1) hints
other_left g asked hints i x lt is unsure sofar rest are =
    sofar rest (subst (λ hs. AreCertain g hs rest) (sym (from_place asked i x lt is)) (inr (unsure, are)))

-- nothing is left
pub all_taken : (g : Graph) (asked hints : List Hint) (i : ℕ) → drop i asked ≡ [] → AreSoFar g asked i hints → AreCertain g asked hints
all_taken g asked hints i none sofar =
    subst (λ hs. AreCertain g asked hs) (append-nil hints) (sofar [] (subst (λ hs. AreCertain g hs []) (sym none) refl))
