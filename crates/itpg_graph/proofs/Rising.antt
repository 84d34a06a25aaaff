-- Rising lists of numbers.
use Rattle.std.proofs.Common.{◌≡◌, ◌≢◌, ℕ, zero, suc, ◌<◌, ◌≤◌, List, [], ◌∷◌, ◌++◌, ◌⊎◌, inl, inr, length, get_or, Bool, Result, Ok, Err, refl, sym, ◌∙◌, subst, arith, true≢false}
use Rattle.std.specs.Prelude.{◌↔◌, IsTrue, is_ok}
use Rattle.std.specs.List.{remove}
use Rattle.std.specs.List.Sorted.{IsBinarySearchResult, IsNonDecreasingBy, IsSearchInRange}
use Rattle.std.specs.Ordering.{nat_cmp, ordering_index}
use Rattle.std.proofs.lemmas.Cmp.{ranked}
use Rattle.std.proofs.lemmas.Bool.Decides.{nat_tests}
use Rattle.itpg_base.specs.declared.object_number.ObjNo.{ObjNo}
use Rattle.itpg_graph.specs.Edges.{HasNumber, AreAbove, AreRising, AreNumbers}

-- a number of a list in which all are greater is greater
pub above : (e : ℕ) (xs : List ObjNo) (k : ℕ) → AreAbove e xs → HasNumber xs k → e < k
above e [] k a h = absurd h
above e (x ∷ xs) k a h = elim h [ inl is ↦ (let lt = a.0 in omega arith) | inr more ↦ above e xs k a.1 more ]

-- a rising list and a greater number
pub pushed_above : (e : ℕ) (xs : List ObjNo) (n : ObjNo) → AreAbove e xs → e < n.0 → AreAbove e (xs ++ n ∷ [])
pushed_above e [] n a lt = (lt, tt)
pushed_above e (x ∷ xs) n a lt = (a.0, pushed_above e xs n a.1 lt)

pub pushed_rising : (xs : List ObjNo) (n : ObjNo) → AreRising xs → ((k : ℕ) → HasNumber xs k → k < n.0) → AreRising (xs ++ n ∷ [])
pushed_rising [] n r below = (tt, tt)
pushed_rising (x ∷ xs) n r below = (pushed_above x.0 xs n r.0 (below x.0 (inl refl)), pushed_rising xs n r.1 (λ k h. below k (inr h)))

pub pushed_has : (xs : List ObjNo) (n : ObjNo) (k : ℕ) → HasNumber xs k ⊎ (k ≡ n.0) → HasNumber (xs ++ n ∷ []) k
pushed_has [] n k h = elim h [ inl never ↦ absurd never | inr is ↦ inl (sym is) ]
pushed_has (x ∷ xs) n k h = elim h [ inl old ↦ elim old [ inl e ↦ inl e | inr more ↦ inr (pushed_has xs n k (inl more)) ] | inr is ↦ inr (pushed_has xs n k (inr is)) ]

pub has_pushed : (xs : List ObjNo) (n : ObjNo) (k : ℕ) → HasNumber (xs ++ n ∷ []) k → HasNumber xs k ⊎ (k ≡ n.0)
has_pushed [] n k h = elim h [ inl e ↦ inr (sym e) | inr never ↦ absurd never ]
has_pushed (x ∷ xs) n k h = elim h [ inl e ↦ inl (inl e) | inr more ↦ elim (has_pushed xs n k more) [ inl old ↦ inl (inr old) | inr is ↦ inr is ] ]

-- a rising list without the number at a place
pub removed_above : (e : ℕ) (xs : List ObjNo) (i : ℕ) → AreAbove e xs → AreAbove e (remove xs i)
removed_above e [] zero a = tt
removed_above e [] (suc i) a = tt
removed_above e (x ∷ xs) zero a = a.1
removed_above e (x ∷ xs) (suc i) a = (a.0, removed_above e xs i a.1)

pub removed_rising : (xs : List ObjNo) (i : ℕ) → AreRising xs → AreRising (remove xs i)
removed_rising [] zero r = tt
removed_rising [] (suc i) r = tt
removed_rising (x ∷ xs) zero r = r.1
removed_rising (x ∷ xs) (suc i) r = (removed_above x.0 xs i r.0, removed_rising xs i r.1)

pub removed_numbers : (xs : List ObjNo) (i : ℕ) (e : ℕ) → AreRising xs → i < length xs → ((d : ObjNo) → (get_or xs i d).0 ≡ e) → AreNumbers (λ k. HasNumber xs k × (k ≢ e)) (remove xs i)
removed_numbers xs i e r lt at = record { whole = λ k h. whole xs i k r lt at h.0 h.1; only = λ k h. only xs i k r lt at h; rising = removed_rising xs i r }
  where
    whole : (xs : List ObjNo) (i k : ℕ) → AreRising xs → i < length xs → ((d : ObjNo) → (get_or xs i d).0 ≡ e) → HasNumber xs k → k ≢ e → HasNumber (remove xs i) k
    whole [] i k r lt at h n = absurd h
    whole (x ∷ xs) zero k r lt at h n = elim h [ inl is ↦ absurd (n (sym is ∙ at x)) | inr more ↦ more ]
    whole (x ∷ xs) (suc i) k r lt at h n = elim h [ inl is ↦ inl is | inr more ↦ inr (whole xs i k r.1 (omega arith) at more n) ]

    get_has : (xs : List ObjNo) (i : ℕ) → i < length xs → ((d : ObjNo) → (get_or xs i d).0 ≡ e) → HasNumber xs e
    get_has [] i lt at = absurd (omega arith)
    get_has (x ∷ xs) zero lt at = inl (at x)
    get_has (x ∷ xs) (suc i) lt at = inr (get_has xs i (omega arith) at)

    only : (xs : List ObjNo) (i k : ℕ) → AreRising xs → i < length xs → ((d : ObjNo) → (get_or xs i d).0 ≡ e) → HasNumber (remove xs i) k → HasNumber xs k × (k ≢ e)
    only [] i k r lt at h = absurd (omega arith)
    only (x ∷ xs) zero k r lt at h = (inr h, λ same. let less = above x.0 xs k r.0 h in let is = at x in omega arith)
    only (x ∷ xs) (suc i) k r lt at h = elim h [
      | inl is ↦ (inl is, λ same. let less = above x.0 xs e r.0 (get_has xs i (omega arith) at) in omega arith)
      | inr more ↦ let old = only xs i k r.1 (omega arith) at more in (inr old.0, old.1)
    ]

-- a list that hasn't the number stays
pub absent_numbers : (xs : List ObjNo) (e : ℕ) → AreRising xs → (HasNumber xs e → ⊥) → AreNumbers (λ k. HasNumber xs k × (k ≢ e)) xs
absent_numbers xs e r none = record { whole = λ k h. h.0; only = λ k h. (h, λ same. none (subst (HasNumber xs) same h)); rising = r }

-- the number at a place of a list is one of it
pub number_there : (xs : List ObjNo) (i : ℕ) (d : ObjNo) → i < length xs → HasNumber xs (get_or xs i d).0
number_there [] i d lt = absurd (omega arith)
number_there (x ∷ xs) zero d lt = inl refl
number_there (x ∷ xs) (suc i) d lt = inr (number_there xs i d (omega arith))

-- rising numbers, place by place
pub number_rises : (xs : List ObjNo) (i j : ℕ) (d : ObjNo) → AreRising xs → i ≤ j → j < length xs → (get_or xs i d).0 ≤ (get_or xs j d).0
number_rises [] i j d r le lt = absurd (omega arith)
number_rises (x ∷ xs) zero zero d r le lt = omega arith
number_rises (x ∷ xs) zero (suc j) d r le lt = let less = above x.0 xs (get_or xs j d).0 r.0 (number_there xs j d (omega arith)) in omega arith
number_rises (x ∷ xs) (suc i) zero d r le lt = absurd (omega arith)
number_rises (x ∷ xs) (suc i) (suc j) d r le lt = number_rises xs i j d r.1 (omega arith) (omega arith)

-- where a number of a list stands
pub number_at : (xs : List ObjNo) (k : ℕ) → HasNumber xs k → (i : ℕ) × (i < length xs) × ((d : ObjNo) → (get_or xs i d).0 ≡ k)
number_at [] k h = absurd h
number_at (x ∷ xs) k h = elim h [ inl is ↦ (0, omega arith, λ d. is) | inr more ↦ let at = number_at xs k more in (suc at.0, (let lt = at.1 in omega arith), at.2) ]

-- what a binary search for a number finds in a rising list
module _ (xs : List ObjNo) (e : ℕ) (r : AreRising xs) where
  comparisons_rise : IsNonDecreasingBy (λ x. ordering_index (nat_cmp x.0 e)) xs
  comparisons_rise = λ i j d le lt. let rise = number_rises xs i j d r le lt in grind (arith, nat_tests)

  pub search_found : (i : ℕ) → IsBinarySearchResult (λ x. nat_cmp x.0 e) xs (Ok i) → (d : ObjNo) → (get_or xs i d).0 ≡ e
  search_found i found d = ranked _ e _ (sym (found d))

  pub search_none : (i : ℕ) → IsBinarySearchResult (λ x. nat_cmp x.0 e) xs (Err i) → HasNumber xs e → ⊥
  search_none i parted has =
      let at = number_at xs e has in
      let d : ObjNo = record { 0 = 0 } in
      let p = parted comparisons_rise in
      let is = at.2 d in
      let below : at.0 < i → ⊥ = λ lt. let less = ranked _ e _ (sym (p.0 at.0 d (omega arith) lt)) in omega arith in
      let over : i ≤ at.0 → ⊥ = λ le. let more = ranked _ e _ (sym (p.1 at.0 d le at.1)) in omega arith in
      omega arith

  pub search_told : (found : Result ℕ ℕ) (is : Bool) → IsSearchInRange found (length xs) → IsBinarySearchResult (λ x. nat_cmp x.0 e) xs found → is ≡ is_ok found → IsTrue is ↔ HasNumber xs e
  search_told (Ok i) is within at same = ((λ h. subst (HasNumber xs) (search_found i at (record { 0 = 0 })) (number_there xs i (record { 0 = 0 }) within)), (λ h. same))
  search_told (Err i) is within at same = ((λ h. absurd (true≢false (sym h ∙ same))), (λ h. absurd (search_none i at h)))
