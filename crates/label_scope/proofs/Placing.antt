-- Labels at their places in rising lists.
use Rattle.std.proofs.Common.{◌≡◌, ℕ, zero, suc, List, [], ◌∷◌, ◌++◌, ◌⊎◌, take, drop, inl, inr, refl, sym, ap, subst, ◌∙◌, length, ◌<◌, get_or, arith}
use Rattle.std.specs.Prelude.{Contains, insert}
use Rattle.std.specs.Ordering.{nat_cmp, ordering_reverse}
use Rattle.std.specs.Cmp.Lexicographic.{slice_cmp, nat_list_cmp_total}
use Rattle.std.specs.FinMap.{slice_cmp-IsAntisymmetric, nat_cmp-IsAntisymmetric}
use Rattle.std.specs.declared.cmp.Ordering.{Ordering}
use Rattle.std.specs.declared.cmp.Ordering.TheVariants.{Less, Equal, Greater}
use Rattle.itpg_base.specs.Words.{Word, IsBefore, StartsBefore, IsRising}
use Rattle.label_scope.specs.Labels.{placed, with_label, labels_of_either}
use Rattle.label_scope.proofs.Lists.{first, more, first_or_more, nothing}

turned : (a b : Word) → slice_cmp nat_cmp a b ≡ Greater → IsBefore b a
turned a b e = nat_list_cmp_total.antisymm b a ∙ ap ordering_reverse e

same_word : (a b : Word) → slice_cmp nat_cmp a b ≡ Equal → a ≡ b
same_word a b e = slice_cmp-IsAntisymmetric nat_cmp-IsAntisymmetric a b e

before_all : (a b c : Word) → IsBefore a b → IsBefore b c → IsBefore a c
before_all a b c h k = nat_list_cmp_total.trans a b c h k

-- what comes before the list and before the label comes before both
starts_before : (a : Word) (ls : List Word) (m : Word) → IsBefore a m → StartsBefore a ls → StartsBefore a (with_label ls m)
starts_before a [] m h k = h
starts_before a (x ∷ rest) m h k = by_order (slice_cmp nat_cmp m x) h k
  where
    by_order : (o : Ordering) → IsBefore a m → IsBefore a x → StartsBefore a (placed o m x rest (with_label rest m))
    by_order Less h k = h
    by_order Equal h k = k
    by_order Greater h k = k

pub with_label-rising : (ls : List Word) (m : Word) → IsRising ls → IsRising (with_label ls m)
with_label-rising [] m h = (tt, tt)
with_label-rising (x ∷ rest) m h = by_order (slice_cmp nat_cmp m x) refl (with_label-rising rest m h.1)
  where
    by_order : (o : Ordering) → slice_cmp nat_cmp m x ≡ o → IsRising (with_label rest m) → IsRising (placed o m x rest (with_label rest m))
    by_order Less e behind = (e, h)
    by_order Equal e behind = h
    by_order Greater e behind = (starts_before x rest m (turned m x e) h.0, behind)

-- the label is there, and so is what was
pub has_placed : (ls : List Word) (m : Word) → Contains (with_label ls m) m
has_placed [] m = first m []
has_placed (x ∷ rest) m = by_order (slice_cmp nat_cmp m x) refl (has_placed rest m)
  where
    by_order : (o : Ordering) → slice_cmp nat_cmp m x ≡ o → Contains (with_label rest m) m → Contains (placed o m x rest (with_label rest m)) m
    by_order Less e behind = first m (x ∷ rest)
    by_order Equal e behind = subst (Contains (x ∷ rest)) (sym (same_word m x e)) (first x rest)
    by_order Greater e behind = more m x _ behind

pub has_still : (ls : List Word) (m label : Word) → Contains ls label → Contains (with_label ls m) label
has_still [] m label h = absurd (nothing label h)
has_still (x ∷ rest) m label h = by_order (slice_cmp nat_cmp m x) (has_still rest m label)
  where
    by_order : (o : Ordering) → (Contains rest label → Contains (with_label rest m) label) → Contains (placed o m x rest (with_label rest m)) label
    by_order Less behind = more label m (x ∷ rest) h
    by_order Equal behind = h
    by_order Greater behind = elim (first_or_more label x rest h) [ inl same ↦ subst (Contains (x ∷ with_label rest m)) same (first x (with_label rest m)) | inr later ↦ more label x _ (behind later) ]

pub has_first_list : (ls ms : List Word) (label : Word) → Contains ls label → Contains (labels_of_either ls ms) label
has_first_list ls [] label h = h
has_first_list ls (m ∷ ms) label h = has_first_list (with_label ls m) ms label (has_still ls m label h)

pub has_second_list : (ls ms : List Word) (label : Word) → Contains ms label → Contains (labels_of_either ls ms) label
has_second_list ls [] label h = absurd (nothing label h)
has_second_list ls (m ∷ ms) label h = elim (first_or_more label m ms h) [
  | inl same ↦ has_first_list (with_label ls m) ms label (subst (Contains (with_label ls m)) same (has_placed ls m))
  | inr later ↦ has_second_list (with_label ls m) ms label later
]

-- and no other label is
was_placed : (ls : List Word) (m label : Word) → Contains (with_label ls m) label → Contains ls label ⊎ (m ≡ label)
was_placed [] m label h = elim (first_or_more label m [] h) [ inl same ↦ inr same | inr later ↦ inl later ]
was_placed (x ∷ rest) m label h = by_order (slice_cmp nat_cmp m x) (was_placed rest m label) h
  where
    by_order : (o : Ordering) → (Contains (with_label rest m) label → Contains rest label ⊎ (m ≡ label)) → Contains (placed o m x rest (with_label rest m)) label → Contains (x ∷ rest) label ⊎ (m ≡ label)
    by_order Less behind k = elim (first_or_more label m (x ∷ rest) k) [ inl same ↦ inr same | inr later ↦ inl later ]
    by_order Equal behind k = inl k
    by_order Greater behind k = elim (first_or_more label x (with_label rest m) k) [
      | inl same ↦ inl (subst (Contains (x ∷ rest)) same (first x rest))
      | inr later ↦ elim (behind later) [ inl before ↦ inl (more label x rest before) | inr same ↦ inr same ]
    ]

pub from_either : (ls ms : List Word) (label : Word) → Contains (labels_of_either ls ms) label → Contains ls label ⊎ Contains ms label
from_either ls [] label h = inl h
from_either ls (m ∷ ms) label h = elim (from_either (with_label ls m) ms label h) [
  | inl one ↦ elim (was_placed ls m label one) [ inl before ↦ inl before | inr same ↦ inr (subst (Contains (m ∷ ms)) same (first m ms)) ]
  | inr later ↦ inr (more label m ms later)
]

pub either-rising : (ls ms : List Word) → IsRising ls → IsRising (labels_of_either ls ms)
either-rising ls [] h = h
either-rising ls (m ∷ ms) h = either-rising (with_label ls m) ms (with_label-rising ls m h)

-- a label that comes after the first i labels of the list is put behind them
abbrev pub put_behind : List Word → Word → ℕ → List Word
put_behind ls m i = take i ls ++ with_label (drop i ls) m

pub goes_on : (ls : List Word) (m d : Word) (i : ℕ) → i < length ls → slice_cmp nat_cmp m (get_or ls i d) ≡ Greater → put_behind ls m i ≡ put_behind ls m (suc i)
goes_on [] m d i below e = absurd (omega (arith, below))
goes_on (x ∷ rest) m d zero below e = ap (λ o. placed o m x rest (with_label rest m)) e
goes_on (x ∷ rest) m d (suc i) below e = ap (λ zs. x ∷ zs) (goes_on rest m d i (omega (arith, below)) e)

pub goes_in : (ls : List Word) (m d : Word) (i : ℕ) → i < length ls → slice_cmp nat_cmp m (get_or ls i d) ≡ Less → put_behind ls m i ≡ insert ls i m
goes_in [] m d i below e = absurd (omega (arith, below))
goes_in (x ∷ rest) m d zero below e = ap (λ o. placed o m x rest (with_label rest m)) e
goes_in (x ∷ rest) m d (suc i) below e = ap (λ zs. x ∷ zs) (goes_in rest m d i (omega (arith, below)) e)

pub is_there : (ls : List Word) (m d : Word) (i : ℕ) → i < length ls → slice_cmp nat_cmp m (get_or ls i d) ≡ Equal → put_behind ls m i ≡ ls
is_there [] m d i below e = absurd (omega (arith, below))
is_there (x ∷ rest) m d zero below e = ap (λ o. placed o m x rest (with_label rest m)) e
is_there (x ∷ rest) m d (suc i) below e = ap (λ zs. x ∷ zs) (is_there rest m d i (omega (arith, below)) e)

pub goes_last : (ls : List Word) (m : Word) → put_behind ls m (length ls) ≡ insert ls (length ls) m
goes_last [] m = refl
goes_last (x ∷ rest) m = ap (λ zs. x ∷ zs) (goes_last rest m)
