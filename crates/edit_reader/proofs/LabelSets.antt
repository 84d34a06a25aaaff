-- The set of labels that words are.
use Rattle.std.proofs.Common.{◌≡◌, ◌⊎◌, inl, inr, suc, ◌<◌, ◌≤◌, List, [], ◌∷◌, length, Option, Some, None, refl, sym, ap, subst, arith}
use Rattle.std.specs.Prelude.{Contains, IsNone, IfSome}
use Rattle.std.specs.Ordering.{nat_cmp}
use Rattle.std.specs.Cmp.Lexicographic.{slice_cmp}
use Rattle.std.specs.FinMap.{slice_cmp-IsAntisymmetric, nat_cmp-IsAntisymmetric}
use Rattle.std.specs.declared.cmp.Ordering.{Ordering}
use Rattle.std.specs.declared.cmp.Ordering.TheVariants.{Less, Equal, Greater}
use Rattle.itpg_base.specs.Words.{Word, IsBefore, StartsBefore, IsRising, IsLabels}
use Rattle.itpg_base.specs.LabelSets.{SameNames}
use Rattle.itpg_base.proofs.Labels.{turned, first, more, nothing, first_or_more, rising_unique}
use Rattle.edit_reader.specs.Labels.{placed, with_word, set_of}

same_word : (a b : Word) → slice_cmp nat_cmp a b ≡ Equal → a ≡ b
same_word a b e = slice_cmp-IsAntisymmetric nat_cmp-IsAntisymmetric a b e

starts_before : (a : Word) (xs : List Word) (w : Word) → IsBefore a w → StartsBefore a xs → StartsBefore a (with_word w xs)
starts_before a [] w h k = h
starts_before a (x ∷ rest) w h k = by_order (slice_cmp nat_cmp w x)
  where
    by_order : (o : Ordering) → StartsBefore a (placed o w x rest (with_word w rest))
    by_order Less = h
    by_order Equal = k
    by_order Greater = k

with_rising : (xs : List Word) (w : Word) → IsRising xs → IsRising (with_word w xs)
with_rising [] w h = (tt, tt)
with_rising (x ∷ rest) w h = by_order (slice_cmp nat_cmp w x) refl (with_rising rest w h.1)
  where
    by_order : (o : Ordering) → slice_cmp nat_cmp w x ≡ o → IsRising (with_word w rest) → IsRising (placed o w x rest (with_word w rest))
    by_order Less e behind = (e, h)
    by_order Equal e behind = h
    by_order Greater e behind = (starts_before x rest w (turned w x e) h.0, behind)

-- the word is there, and so is what was
has_placed : (xs : List Word) (w : Word) → Contains (with_word w xs) w
has_placed [] w = first w []
has_placed (x ∷ rest) w = by_order (slice_cmp nat_cmp w x) refl (has_placed rest w)
  where
    by_order : (o : Ordering) → slice_cmp nat_cmp w x ≡ o → Contains (with_word w rest) w → Contains (placed o w x rest (with_word w rest)) w
    by_order Less e behind = first w (x ∷ rest)
    by_order Equal e behind = subst (Contains (x ∷ rest)) (sym (same_word w x e)) (first x rest)
    by_order Greater e behind = more w x _ behind

has_still : (xs : List Word) (w name : Word) → Contains xs name → Contains (with_word w xs) name
has_still [] w name h = absurd (nothing name h)
has_still (x ∷ rest) w name h = by_order (slice_cmp nat_cmp w x) (has_still rest w name)
  where
    by_order : (o : Ordering) → (Contains rest name → Contains (with_word w rest) name) → Contains (placed o w x rest (with_word w rest)) name
    by_order Less behind = more name w (x ∷ rest) h
    by_order Equal behind = h
    by_order Greater behind = elim (first_or_more name x rest h) [ inl same ↦ subst (Contains (x ∷ with_word w rest)) same (first x (with_word w rest)) | inr later ↦ more name x _ (behind later) ]

-- and no other word is
was_placed : (xs : List Word) (w name : Word) → Contains (with_word w xs) name → (w ≡ name) ⊎ Contains xs name
was_placed [] w name h = elim (first_or_more name w [] h) [ inl same ↦ inl same | inr none ↦ absurd (nothing name none) ]
was_placed (x ∷ rest) w name h = by_order (slice_cmp nat_cmp w x) (was_placed rest w name) h
  where
    by_order : (o : Ordering) → (Contains (with_word w rest) name → (w ≡ name) ⊎ Contains rest name) → Contains (placed o w x rest (with_word w rest)) name → (w ≡ name) ⊎ Contains (x ∷ rest) name
    by_order Less behind k = elim (first_or_more name w (x ∷ rest) k) [ inl same ↦ inl same | inr later ↦ inr later ]
    by_order Equal behind k = inr k
    by_order Greater behind k = elim (first_or_more name x (with_word w rest) k) [
      | inl same ↦ inr (subst (Contains (x ∷ rest)) same (first x rest))
      | inr later ↦ elim (behind later) [ inl same ↦ inl same | inr before ↦ inr (more name x rest before) ]
    ]

-- it is no longer than by one
record IsGrown (xs longer : List Word) : Type 0 where
  pub some : 0 < length longer
  pub few : length longer ≤ suc (length xs)

grown : (xs : List Word) (w : Word) → IsGrown xs (with_word w xs)
grown [] w = record { some = omega arith; few = omega arith }
grown (x ∷ rest) w = by_order (slice_cmp nat_cmp w x) (grown rest w)
  where
    by_order : (o : Ordering) → IsGrown rest (with_word w rest) → IsGrown (x ∷ rest) (placed o w x rest (with_word w rest))
    by_order Less behind = record { some = omega arith; few = omega arith }
    by_order Equal behind = record { some = omega arith; few = omega arith }
    by_order Greater behind = record { some = omega arith; few = (let few = behind.few in omega arith) }

set_rising : (words : List Word) → IsRising (set_of words)
set_rising [] = tt
set_rising (w ∷ rest) = with_rising (set_of rest) w (set_rising rest)

set_few : (words : List Word) → length (set_of words) ≤ length words
set_few [] = omega arith
set_few (w ∷ rest) = let more = set_few rest in let g = (grown (set_of rest) w).few in omega arith

set_some : (words : List Word) → 0 < length words → 0 < length (set_of words)
set_some [] some = absurd (omega arith)
set_some (w ∷ rest) some = (grown (set_of rest) w).some

set_same : (words : List Word) → SameNames words (set_of words)
set_same [] = λ name. (λ h. h, λ h. h)
set_same (w ∷ rest) = λ name. (
  λ h. elim (first_or_more name w rest h) [
    | inl same ↦ subst (Contains (with_word w (set_of rest))) same (has_placed (set_of rest) w)
    | inr later ↦ has_still (set_of rest) w name ((set_same rest name).0 later)
  ],
  λ h. elim (was_placed (set_of rest) w name h) [
    | inl same ↦ subst (Contains (w ∷ rest)) same (first w rest)
    | inr before ↦ more name w rest ((set_same rest name).1 before)
  ],
)

pub are_labels : (words : List Word) → 0 < length words → length words ≤ 8 → IsLabels (set_of words)
are_labels words some few = record { some = set_some words some; few = (let fewer = set_few words in omega (arith, fewer, few)); rising = set_rising words }

-- the one set of the words
pub the_set : (words set : List Word) → SameNames words set → IsRising set → set ≡ set_of words
the_set words set same rising = rising_unique set (set_of words) rising (set_rising words) (λ name. (λ h. (set_same words name).0 ((same name).1 h), λ h. (same name).0 ((set_same words name).1 h)))

pub no_set : (words : List Word) → 0 < length words → length words ≤ 8 → ((set : List Word) → IsLabels set → SameNames words set → ⊥) → ⊥
no_set words some few none = none (set_of words) (are_labels words some few) (set_same words)

-- what is made of the words is their set
pub made_set : (words : List Word) → 0 < length words → length words ≤ 8 → (o : Option (List Word)) → IfSome o (λ set. SameNames words set) → IfSome o IsLabels
    → (IsNone o → (set : List Word) → IsLabels set → SameNames words set → ⊥) → o ≡ Some (set_of words)
made_set words some few None same is none = absurd (no_set words some few (none refl))
made_set words some few (Some set) same is none = ap Some (the_set words set same is.rising)
