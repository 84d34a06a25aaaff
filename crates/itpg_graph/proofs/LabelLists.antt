-- The lists of objects by label, label by label.
use Rattle.std.proofs.Common.{◌≡◌, ◌≢◌, ℕ, zero, suc, ◌<◌, ◌≤◌, ◌+◌, List, [], ◌∷◌, ◌++◌, inl, inr, length, take, Some, refl, sym, ap, ◌∙◌, subst, arith}
use Rattle.std.specs.Prelude.{slice_get, IsSome, Contains}
use Rattle.std.proofs.lemmas.Option.{slice_get_cases}
use Rattle.std.proofs.lemmas.List.{take_more, take_all}
use Rattle.std.proofs.lemmas.List.Elements.{Contains-append_left, Contains-append_right, Contains-append_cases}
use Rattle.itpg_base.specs.Words.{Word, IsBefore, IsRising}
use Rattle.itpg_base.specs.declared.object_number.ObjNo.{ObjNo}
use Rattle.itpg_base.proofs.Labels.{first, more, nothing, first_or_more, behind_first, not_before_itself}
use Rattle.itpg_base.proofs.Searches.{same_word}
use Rattle.itpg_graph.specs.LabelLists.{held, kept_for, numbers_or_none, HasRoomWith, HasRoomFor}
use Rattle.itpg_graph.specs.Links.{LosesIfRising}
use Rattle.itpg_graph.specs.declared.by_label.ByLabel.{ByLabel}

pub is_there : (xs : List Word) (i : ℕ) → i < length xs → IsSome (slice_get xs i)
is_there xs i lt = elim (slice_get_cases xs i).1 [ inl h ↦ subst IsSome (sym h.2) refl | inr past ↦ let far = past.0 in absurd (omega arith) ]

pub has_at : (xs : List Word) (i : ℕ) (x : Word) → slice_get xs i ≡ Some x → Contains xs x
has_at [] i x e = let never : ⊥ = cc in absurd never
has_at (y ∷ ys) zero x e = let h : Some y ≡ Some x = e in let same : y ≡ x = cc in subst (Contains (y ∷ ys)) same (first y ys)
has_at (y ∷ ys) (suc i) x e = more x y ys (has_at ys i x e)

some_some : {x y : Word} → Some x ≡ Some y → x ≡ y
some_some e = cc

-- the front of a list with the next of its names
pub front_more : (xs : List Word) (i : ℕ) (x : Word) → slice_get xs i ≡ Some x → take (i + 1) xs ≡ take i xs ++ x ∷ []
front_more xs i x e = elim (slice_get_cases xs i).1 [
  | inl h ↦ take_more xs i h.0 h.1 ∙ ap (λ z. take i xs ++ z ∷ []) (h.3 ∙ some_some (sym h.2 ∙ e))
  | inr past ↦ let never : ⊥ = cc (past.1) in absurd never
]

-- in a rising list no name stands twice
pub not_in_front : (xs : List Word) → IsRising xs → (i : ℕ) (x : Word) → slice_get xs i ≡ Some x → Contains (take i xs) x → ⊥
not_in_front [] rising i x e h = let never : ⊥ = cc in never
not_in_front (y ∷ ys) rising zero x e h = nothing x h
not_in_front (y ∷ ys) rising (suc i) x e h = elim (first_or_more x y (take i ys) h) [
  | inl same ↦ not_before_itself y (subst (IsBefore y) (sym same) (behind_first y ys rising x (has_at ys i x e)))
  | inr later ↦ not_in_front ys rising.1 i x e later
]

in_front : (front : List Word) (x label : Word) → Contains (front ++ x ∷ []) label → (label ≢ x) → Contains front label
in_front front x label h apart = elim (Contains-append_cases front (x ∷ []) label h) [
  | inl old ↦ old
  | inr new ↦ elim (first_or_more label x [] new) [ inl same ↦ absurd (apart (sym same)) | inr none ↦ absurd (nothing label none) ]
]

added : (front : List Word) (x : Word) → Contains (front ++ x ∷ []) x
added front x = Contains-append_right front (x ∷ []) x (first x [])

alike : (now next : ByLabel) (label : Word) → kept_for next label ≡ kept_for now label → held next label ≡ held now label
alike now next label e = ap numbers_or_none e

pub room_still : (old now : ByLabel) (label : Word) → kept_for now label ≡ kept_for old label → HasRoomWith old label → HasRoomWith now label
room_still old now label e room = rw e room

-- room was got for these labels
pub record IsReserved (old now : ByLabel) (front : List Word) : Type 0 where
  pub same : (label : Word) → held now label ≡ held old label
  pub room : HasRoomFor now front

pub none_reserved : (old : ByLabel) (labels : List Word) → IsReserved old old (take 0 labels)
none_reserved old [] = record { same = λ label. refl; room = λ label h. absurd (nothing label h) }
none_reserved old (x ∷ xs) = record { same = λ label. refl; room = λ label h. absurd (nothing label h) }

pub one_reserved : (old now next : ByLabel) (front : List Word) (x : Word) → IsReserved old now front → ((label : Word) → held next label ≡ held now label)
    → ((label : Word) → label ≢ x → kept_for next label ≡ kept_for now label) → HasRoomWith next x → IsReserved old next (front ++ x ∷ [])
one_reserved old now next front x are same others room = record {
  same = λ label. same label ∙ are.same label;
  room = λ label h. elim (same_word label x) [
    | inl is ↦ subst (HasRoomWith next) (sym is) room
    | inr apart ↦ let kept = others label apart in let was : HasRoomWith now label = are.room label (in_front front x label h apart) in rw kept was
  ];
}

-- the number was added for these labels
pub record IsPushed (old now : ByLabel) (number : ObjNo) (front : List Word) : Type 0 where
  pub own : (label : Word) → Contains front label → held now label ≡ held old label ++ number ∷ []
  pub others : (label : Word) → (Contains front label → ⊥) → kept_for now label ≡ kept_for old label

pub none_pushed : (old : ByLabel) (number : ObjNo) (labels : List Word) → IsPushed old old number (take 0 labels)
none_pushed old number [] = record { own = λ label h. absurd (nothing label h); others = λ label out. refl }
none_pushed old number (x ∷ xs) = record { own = λ label h. absurd (nothing label h); others = λ label out. refl }

pub one_pushed : (old now next : ByLabel) (number : ObjNo) (front : List Word) (x : Word) → IsPushed old now number front → (Contains front x → ⊥) → held next x ≡ held now x ++ number ∷ []
    → ((label : Word) → label ≢ x → kept_for next label ≡ kept_for now label) → IsPushed old next number (front ++ x ∷ [])
one_pushed old now next number front x are new grown others = record {
  own = λ label h. elim (same_word label x) [
    | inl is ↦ subst (λ l. held next l ≡ held old l ++ number ∷ []) (sym is) (grown ∙ ap (λ l. l ++ number ∷ []) (alike old now x (are.others x new)))
    | inr apart ↦ alike now next label (others label apart) ∙ are.own label (in_front front x label h apart)
  ];
  others = λ label out.
      others label (λ is. out (subst (Contains (front ++ x ∷ [])) (sym is) (added front x)))
      ∙ are.others label (λ h. out (Contains-append_left front (x ∷ []) label h));
}

-- the number was taken out for these labels
pub record IsRemoved (old now : ByLabel) (number : ℕ) (front : List Word) : Type 0 where
  pub own : (label : Word) → Contains front label → LosesIfRising (held old label) number (held now label)
  pub others : (label : Word) → (Contains front label → ⊥) → held now label ≡ held old label

pub none_removed : (old : ByLabel) (number : ℕ) (labels : List Word) → IsRemoved old old number (take 0 labels)
none_removed old number [] = record { own = λ label h. absurd (nothing label h); others = λ label out. refl }
none_removed old number (x ∷ xs) = record { own = λ label h. absurd (nothing label h); others = λ label out. refl }

pub one_removed : (old now next : ByLabel) (number : ℕ) (front : List Word) (x : Word) → IsRemoved old now number front → (Contains front x → ⊥) → LosesIfRising (held now x) number (held next x)
    → ((label : Word) → label ≢ x → held next label ≡ held now label) → IsRemoved old next number (front ++ x ∷ [])
one_removed old now next number front x are new lost others = record {
  own = λ label h. elim (same_word label x) [
    | inl is ↦ subst (λ l. LosesIfRising (held old l) number (held next l)) (sym is) (subst (λ (was : List ObjNo). LosesIfRising was number (held next x)) (are.others x new) lost)
    | inr apart ↦ subst (λ (list : List ObjNo). LosesIfRising (held old label) number list) (sym (others label apart)) (are.own label (in_front front x label h apart))
  ];
  others = λ label out.
      others label (λ is. out (subst (Contains (front ++ x ∷ [])) (sym is) (added front x)))
      ∙ are.others label (λ h. out (Contains-append_left front (x ∷ []) label h));
}

-- two lists, compared from the front
pub none_alike : (xs ys : List Word) → take 0 xs ≡ take 0 ys
none_alike [] [] = refl
none_alike [] (y ∷ ys) = refl
none_alike (x ∷ xs) [] = refl
none_alike (x ∷ xs) (y ∷ ys) = refl

pub front_alike : (xs ys : List Word) (i : ℕ) → i < length xs → slice_get xs i ≡ slice_get ys i → take i xs ≡ take i ys → take (i + 1) xs ≡ take (i + 1) ys
front_alike xs ys i lt same e = elim (slice_get_cases xs i).1 [
  | inl h ↦ front_more xs i h.0 h.2 ∙ ap (λ zs. zs ++ h.0 ∷ []) e ∙ sym (front_more ys i h.0 (sym same ∙ h.2))
  | inr past ↦ let far = past.0 in absurd (omega arith)
]

pub whole_alike : (xs ys : List Word) (i : ℕ) → length xs ≤ i → length xs ≡ length ys → take i xs ≡ take i ys → xs ≡ ys
whole_alike xs ys i past same e = sym (take_all i xs past) ∙ e ∙ take_all i ys (omega (arith, past, same))
