-- The texts of rows, one behind the other.
use Rattle.std.proofs.Common.{◌≡◌, ℕ, zero, suc, ◌+◌, ◌<◌, inl, inr, arith, List, [], ◌∷◌, ◌++◌, length, take, drop, get_or, refl, sym, ap, ◌∙◌, append_assoc, append-nil, take-append-drop}
use Rattle.std.proofs.lemmas.List.{take_more}
use Rattle.itpg_base.specs.Lists.{Among}
use Rattle.row_printer.specs.Texts.{led}

-- what stands at a place is in the list
pub at_among : {X : Type 0} (xs : List X) (i : ℕ) (x : X) → i < length xs → get_or xs i x ≡ x → Among xs x
at_among [] i x h e = absurd (omega arith)
at_among (y ∷ ys) zero x h e = inl e
at_among (y ∷ ys) (suc i) x h e = inr (at_among ys i x (omega arith) e)

-- and what stands there doesn't hang on what would stand behind the end
at_place : {X : Type 0} (xs : List X) (i : ℕ) (d : X) → i < length xs → get_or xs i (get_or xs i d) ≡ get_or xs i d
at_place [] i d h = absurd (omega arith)
at_place (x ∷ xs) zero d h = refl
at_place (x ∷ xs) (suc i) d h = at_place xs i d (omega arith)

module _ {X : Type 0} (lead : List ℕ) (text : X → List ℕ) where
  pub led_none : (xs : List X) → led lead text (take 0 xs) ≡ []
  unfolding led
  led_none xs = refl

  pub led-append : (xs ys : List X) → led lead text (xs ++ ys) ≡ led lead text xs ++ led lead text ys
  unfolding led
  led-append [] ys = refl
  led-append (x ∷ xs) ys = ap (λ t. (lead ++ text x) ++ t) (led-append xs ys) ∙ sym (append_assoc (lead ++ text x) (led lead text xs) (led lead text ys))

  led_one : (x : X) → led lead text (x ∷ []) ≡ lead ++ text x
  unfolding led
  led_one x = append-nil (lead ++ text x)

  -- the texts of the first rows, and of one more
  pub led-more : (xs : List X) (i : ℕ) (x : X) → i < length xs → get_or xs i x ≡ x → led lead text (take i xs) ++ (lead ++ text x) ≡ led lead text (take (i + 1) xs)
  led-more xs i x h e =
      ap (λ t. led lead text (take i xs) ++ t) (sym (led_one x)) ∙ sym (led-append (take i xs) (x ∷ [])) ∙ ap (led lead text) (sym (take_more xs i x h ∙ ap (λ y. take i xs ++ y ∷ []) e))

  -- the texts of the first rows, of one more, and of the rest
  pub led_parts : (xs : List X) (i : ℕ) (x : X) → i < length xs → get_or xs i x ≡ x → (rest : List ℕ) × (led lead text (take i xs) ++ ((lead ++ text x) ++ rest) ≡ led lead text xs)
  led_parts xs i x h e = (
    led lead text (drop (i + 1) xs),
    sym (append_assoc (led lead text (take i xs)) (lead ++ text x) (led lead text (drop (i + 1) xs))) ∙ ap (λ t. t ++ led lead text (drop (i + 1) xs)) (led-more xs i x h e) ∙ sym (led-append (take (i + 1) xs) (drop (i + 1) xs))
        ∙ ap (led lead text) (take-append-drop (i + 1) xs),
  )

  -- the same of the element that is read at the place
  pub led_next : (xs : List X) (i : ℕ) (d : X) → i < length xs → led lead text (take i xs) ++ (lead ++ text (get_or xs i d)) ≡ led lead text (take (i + 1) xs)
  led_next xs i d h = led-more xs i (get_or xs i d) h (at_place xs i d h)

  pub led_around : (xs : List X) (i : ℕ) (d : X) → i < length xs → led lead text (take i xs) ++ ((lead ++ text (get_or xs i d)) ++ led lead text (drop (i + 1) xs)) ≡ led lead text xs
  unfolding led led_parts
  led_around xs i d h = (led_parts xs i (get_or xs i d) h (at_place xs i d h)).1
