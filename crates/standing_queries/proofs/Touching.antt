-- What a touch leaves of lists of watches, and what is still right of it.
use Rattle.std.proofs.Common.{◌≡◌, inl, inr, ℕ, zero, suc, ◌≤◌, List, [], ◌∷◌, length, Option, Some, None, refl, sym, ◌∙◌, ap, subst, arith}
use Rattle.std.specs.Prelude.{slice_get, slice_set, IfSome}
use Rattle.itpg_base.specs.Lists.{Among}
use Rattle.itpg_base.specs.declared.touch.Touch.{Touch}
use Rattle.label_scope.specs.Touching.{Meets}
use Rattle.relation_rows.specs.Answered.{Answered}
use Rattle.standing_queries.specs.Watches.{Watch}
use Rattle.standing_queries.specs.Touched.{IsTouched, AreTouched, IsTouchedAt, AreTouchedFirst}

module _ (touch : Touch) where
  from_same : (n : ℕ) (a b c : List Watch) → b ≡ a → AreTouchedFirst n touch b c → AreTouchedFirst n touch a c
  from_same n a b c e h = subst (λ (us : List Watch). AreTouchedFirst n touch us c) e h

  first_alone : (b c : List Watch) → IsTouchedAt zero touch b c → AreTouchedFirst 1 touch b c
  first_alone [] c (w, v, at, is, new) = let none : ⊥ = cc in absurd none
  first_alone (x ∷ b) c (w, v, at, is, new) =
      let same : x ≡ w = cc in
      subst (λ (us : List Watch). AreTouchedFirst 1 touch (x ∷ b) us) (sym new) (subst (λ (u : Watch). IsTouched touch u v) (sym same) is, refl)

  -- one watch more
  pub touched_next : (n : ℕ) (a b c : List Watch) → AreTouchedFirst n touch a b → IsTouchedAt n touch b c → AreTouchedFirst (suc n) touch a c
  touched_next zero a b c h k = from_same 1 a b c h (first_alone b c k)
  touched_next (suc n) [] b c h (w, v, at, is, new) =
      let past : None ≡ Some w = subst (λ (us : List Watch). slice_get us (suc n) ≡ Some w) h at in
      let none : ⊥ = cc in absurd none
  touched_next (suc n) (x ∷ a) [] c h k = absurd h
  touched_next (suc n) (x ∷ a) (y ∷ b) c h (w, v, at, is, new) =
      subst (λ (us : List Watch). AreTouchedFirst (suc (suc n)) touch (x ∷ a) us) (sym new) (h.0, touched_next n a b (slice_set b n v) h.1 (w, v, at, is, refl))

  pub touched_length : (n : ℕ) (a b : List Watch) → AreTouchedFirst n touch a b → length b ≡ length a
  touched_length zero a b h = ap length h
  touched_length (suc n) [] b h = ap length h
  touched_length (suc n) (x ∷ a) [] h = absurd h
  touched_length (suc n) (x ∷ a) (y ∷ b) h = ap suc (touched_length n a b h.1)

  -- once all are done
  pub touched_all : (n : ℕ) (a b : List Watch) → length a ≤ n → AreTouchedFirst n touch a b → AreTouched touch a b
  touched_all zero [] b le h = subst (AreTouched touch []) (sym h) tt
  touched_all zero (x ∷ a) b le h = absurd (omega (arith, le))
  touched_all (suc n) [] b le h = subst (AreTouched touch []) (sym h) tt
  touched_all (suc n) (x ∷ a) [] le h = absurd h
  touched_all (suc n) (x ∷ a) (y ∷ b) le h = (h.0, touched_all n a b (omega (arith, le)) h.1)

  -- if what is right of a watch whose footprint isn't met stays right, then each answer that is still kept is right
  module _ (Before After : Watch → Answered → Type 0) (lasts : (w : Watch) (answer : Answered) → (Meets w.foot touch → ⊥) → Before w answer → After w answer) where
    one_right : (old new : Watch) → IsTouched touch old new → IfSome old.now (Before old) → IfSome new.now (After new)
    one_right old new is before = by_answer new.now refl
      where
        by_answer : (o : Option Answered) → new.now ≡ o → IfSome o (After new)
        by_answer None e = tt
        by_answer (Some answer) e =
            let unmet : Meets old.foot touch → ⊥ = λ met. let none : ⊥ = (let gone = is.gone met in cc) in none in
            let kept : old.now ≡ Some answer = sym (is.stays unmet) ∙ e in
            let same : new ≡ old = is.same ∙ (let stays = is.stays unmet in ap (λ (o : Option Answered). record old { now = o }) stays) in
            subst (λ (w : Watch). After w answer) (sym same) (lasts old answer unmet (subst (λ (o : Option Answered). IfSome o (Before old)) kept before))

    pub still_right : (olds news : List Watch) → AreTouched touch olds news → ((w : Watch) → Among olds w → IfSome w.now (Before w)) → (w : Watch) → Among news w → IfSome w.now (After w)
    still_right [] [] h before w a = absurd a
    still_right [] (y ∷ news) h before w a = absurd h
    still_right (x ∷ olds) [] h before w a = absurd h
    still_right (x ∷ olds) (y ∷ news) h before w (inl e) = subst (λ (u : Watch). IfSome u.now (After u)) e (one_right x y h.0 (before x (inl refl)))
    still_right (x ∷ olds) (y ∷ news) h before w (inr a) = still_right olds news h.1 (λ u b. before u (inr b)) w a
