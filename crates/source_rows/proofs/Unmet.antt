-- What an edit leaves of the follows, one after the other.
use Rattle.std.proofs.Common.{◌≡◌, ℕ, zero, suc, ◌≤◌, List, [], ◌∷◌, length, None, Some, refl, ap, sym, subst, arith}
use Rattle.std.specs.Prelude.{slice_get, slice_set}
use Rattle.source_rows.specs.Follows.{Follow, IsUnmet, IsUnmetAt, AreUnmet}
use Rattle.source_rows.specs.declared.touched.Touched.{Touched}

module _ (touched : Touched) where
  -- so it is with the first n follows, and the rest are as they were
  abbrev pub AreUnmetFirst : ℕ → List Follow → List Follow → Type 0
  AreUnmetFirst zero old new = new ≡ old
  AreUnmetFirst (suc n) [] new = new ≡ []
  AreUnmetFirst (suc n) (f ∷ old) [] = ⊥
  AreUnmetFirst (suc n) (f ∷ old) (g ∷ new) = IsUnmet touched f g × AreUnmetFirst n old new

  first_alone : (b c : List Follow) → IsUnmetAt zero touched b c → AreUnmetFirst 1 b c
  first_alone [] c (f, g, at, is, new) = let none : ⊥ = cc in absurd none
  first_alone (x ∷ b) c (f, g, at, is, new) =
      let same : x ≡ f = cc in
      subst (λ (us : List Follow). AreUnmetFirst 1 (x ∷ b) us) (sym new) (subst (λ (u : Follow). IsUnmet touched u g) (sym same) is, refl)

  -- one follow more
  pub unmet_next : (n : ℕ) (a b c : List Follow) → AreUnmetFirst n a b → IsUnmetAt n touched b c → AreUnmetFirst (suc n) a c
  unmet_next zero a b c h k = subst (λ (us : List Follow). AreUnmetFirst 1 us c) h (first_alone b c k)
  unmet_next (suc n) [] b c h (f, g, at, is, new) =
      let past : None ≡ Some f = subst (λ (us : List Follow). slice_get us (suc n) ≡ Some f) h at in
      let none : ⊥ = cc in absurd none
  unmet_next (suc n) (x ∷ a) [] c h k = absurd h
  unmet_next (suc n) (x ∷ a) (y ∷ b) c h (f, g, at, is, new) =
      subst (λ (us : List Follow). AreUnmetFirst (suc (suc n)) (x ∷ a) us) (sym new) (h.0, unmet_next n a b (slice_set b n g) h.1 (f, g, at, is, refl))

  pub unmet_length : (n : ℕ) (a b : List Follow) → AreUnmetFirst n a b → length b ≡ length a
  unmet_length zero a b h = ap length h
  unmet_length (suc n) [] b h = ap length h
  unmet_length (suc n) (x ∷ a) [] h = absurd h
  unmet_length (suc n) (x ∷ a) (y ∷ b) h = ap suc (unmet_length n a b h.1)

  -- once all are done
  pub unmet_all : (n : ℕ) (a b : List Follow) → length a ≤ n → AreUnmetFirst n a b → AreUnmet touched a b
  unmet_all zero [] b le h = subst (AreUnmet touched []) (sym h) tt
  unmet_all zero (x ∷ a) b le h = absurd (omega (arith, le))
  unmet_all (suc n) [] b le h = subst (AreUnmet touched []) (sym h) tt
  unmet_all (suc n) (x ∷ a) [] le h = absurd h
  unmet_all (suc n) (x ∷ a) (y ∷ b) le h = (h.0, unmet_all n a b (omega (arith, le)) h.1)
