-- The objects of a part that have a label, found one after the other.
use Rattle.std.proofs.Common.{◌≡◌, ℕ, zero, suc, ◌+◌, ◌<◌, ◌≤◌, List, [], ◌∷◌, ◌++◌, inl, inr, length, get_or, take, sym, subst, arith}
use Rattle.std.specs.Prelude.{IsTrue, Contains}
use Rattle.std.proofs.lemmas.List.{take_more, take_all}
use Rattle.itpg_base.specs.Words.{Word}
use Rattle.itpg_base.specs.Graphs.{Graph, Stands}
use Rattle.itpg_base.specs.declared.object_number.ObjNo.{ObjNo}
use Rattle.itpg_graph.specs.Edges.{HasNumber, AreRising, AreNumbers}
use Rattle.itpg_graph.specs.GraphParts.{ArePart, only_of}
use Rattle.itpg_graph.specs.WithLabel.{StandsWith}
use Rattle.itpg_graph.proofs.GraphParts.{of_part, in_part}
use Rattle.itpg_graph.proofs.Linked.{numbers_alike, no_numbers}
use Rattle.itpg_graph.proofs.Rising.{above, number_there, pushed_has, has_pushed, pushed_rising}

-- those of the list that have the label
abbrev pub AreThose : Graph → Word → List ObjNo → List ObjNo → Type 0
AreThose g label objects kept = AreNumbers (λ o. HasNumber objects o × StandsWith g label o) kept

none_taken : (xs : List ObjNo) (o : ℕ) → HasNumber (take 0 xs) o → ⊥
none_taken [] o h = h
none_taken (x ∷ xs) o h = h

front_below : (xs : List ObjNo) (i k : ℕ) (d : ObjNo) → AreRising xs → i < length xs → HasNumber (take i xs) k → k < (get_or xs i d).0
front_below [] i k d r lt h = absurd (omega arith)
front_below (x ∷ xs) zero k d r lt h = absurd h
front_below (x ∷ xs) (suc i) k d r lt h = elim h [
  | inl is ↦ let less = above x.0 xs (get_or xs i d).0 r.0 (number_there xs i d (omega arith)) in omega arith
  | inr more ↦ front_below xs i k d r.1 (omega arith) more
]

pub stands_there : (g : Graph) (objects : List ObjNo) → ArePart g objects → (i : ℕ) (d : ObjNo) → i < length objects → Stands g (get_or objects i d).0
stands_there g objects part i d lt = part.stand (get_or objects i d).0 (number_there objects i d lt)

module _ (g : Graph) (label : Word) (objects : List ObjNo) (part : ArePart g objects) where
  pub none_yet : (kept : List ObjNo) → kept ≡ [] → AreThose g label (take 0 objects) kept
  none_yet kept e = subst (AreThose g label (take 0 objects)) (sym e) (no_numbers _ (λ k h. none_taken objects k h.0))

  module _ (i : ℕ) (d : ObjNo) (lt : i < length objects) (kept : List ObjNo) (those : AreThose g label (take i objects) kept) where
    abbrev one : ObjNo
    one = get_or objects i d

    more : take (i + 1) objects ≡ take i objects ++ one ∷ []
    more = take_more objects i d lt

    pub one_left : (StandsWith g label (get_or objects i d).0 → ⊥) → AreThose g label (take (i + 1) objects) kept
    one_left out = subst (λ front. AreThose g label front kept) (sym more) (numbers_alike _ (λ o. HasNumber (take i objects ++ one ∷ []) o × StandsWith g label o) kept
        (λ k h. (pushed_has (take i objects) one k (inl h.0), h.1))
        (λ k h. elim (has_pushed (take i objects) one k h.0) [ inl old ↦ (old, h.1) | inr is ↦ absurd (out (subst (StandsWith g label) is h.1)) ])
        those)

    pub one_kept : StandsWith g label (get_or objects i d).0 → (next : List ObjNo) → next ≡ kept ++ get_or objects i d ∷ [] → AreThose g label (take (i + 1) objects) next
    one_kept has next e = subst (AreThose g label (take (i + 1) objects)) (sym e) (subst (λ front. AreThose g label front (kept ++ one ∷ [])) (sym more) (record {
      whole = λ k h. pushed_has kept one k (elim (has_pushed (take i objects) one k h.0) [ inl old ↦ inl (those.whole k (old, h.1)) | inr is ↦ inr is ]);
      only = λ k h. elim (has_pushed kept one k h) [
        | inl old ↦ let was = those.only k old in (pushed_has (take i objects) one k (inl was.0), was.1)
        | inr is ↦ (pushed_has (take i objects) one k (inr is), subst (StandsWith g label) (sym is) has)
      ];
      rising = pushed_rising kept one those.rising (λ k h. front_below objects i k d part.rising lt (those.only k h).0);
    }))

  pub all_those : (i : ℕ) (kept : List ObjNo) → length objects ≤ i → AreThose g label (take i objects) kept → AreNumbers (StandsWith (only_of g objects) label) kept
  all_those i kept le those =
      numbers_alike (λ o. HasNumber objects o × StandsWith g label o) (StandsWith (only_of g objects) label) kept
      (λ k h. in_part g objects (λ x. IsTrue x.standing × Contains x.labels label) k h.0 h.1)
      (λ k h. of_part g objects (λ x. IsTrue x.standing × Contains x.labels label) (λ x so. so.0) k h)
      (subst (λ front. AreThose g label front kept) (take_all i objects le) those)
