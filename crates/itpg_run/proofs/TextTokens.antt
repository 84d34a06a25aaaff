-- The tokens of a text that is written out, worked out.
use Rattle.std.proofs.Common.{◌≡◌, ℕ, zero, suc, ◌+◌, Bool, true, false, List, [], ◌∷◌, length, drop, Option, Some, None, refl, subst}
use Rattle.std.specs.List.{list_all}
use Rattle.script_lex.specs.Bytes.{is_blank}
use Rattle.script_lex.specs.Lexemes.{Lexeme, written}
use Rattle.script_lex.specs.Lines.{Placed, IsNext, AreTokens, behind_blanks}
use Rattle.script_lex.specs.Table.{first_token}
use Rattle.std.proofs.lemmas.Option.{none-some}

abbrev consed : Placed → Option (List Placed) → Option (List Placed)
consed t None = None
consed t (Some ts) = Some (t ∷ ts)

abbrev by_first : Option Lexeme → ℕ → (ℕ → Option (List Placed)) → Bool → Option (List Placed)
by_first None from go true = Some []
by_first None from go false = None
by_first (Some l) from go blank = consed (record { from = from; to = from + length (written l); what = l }) (go (from + length (written l)))

-- the tokens from a place on, with fuel; none where they end with a fault
abbrev pub scan : ℕ → List ℕ → ℕ → Option (List Placed)
scan zero line at = None
scan (suc n) line at = by_first (first_token (drop (behind_blanks line at) line)) (behind_blanks line at) (scan n line) (list_all is_blank (drop at line))

-- the token that begins behind the blanks
abbrev here : List ℕ → ℕ → Lexeme → Placed
here line at l = record { from = behind_blanks line at; to = behind_blanks line at + length (written l); what = l }

pub scan_sound : (n : ℕ) (line : List ℕ) (at : ℕ) (ts : List Placed) → scan n line at ≡ Some ts → AreTokens line at ts None
scan_sound zero line at ts e = absurd (none-some ts e)
scan_sound (suc n) line at ts e = of_first (scan_sound n line) (first_token (drop (behind_blanks line at) line)) refl (list_all is_blank (drop at line)) refl e
  where
    of_rest : ((to : ℕ) (rest : List Placed) → scan n line to ≡ Some rest → AreTokens line to rest None) → (l : Lexeme) → first_token (drop (behind_blanks line at) line) ≡ Some l
        → (o : Option (List Placed)) → scan n line (behind_blanks line at + length (written l)) ≡ o → consed (here line at l) o ≡ Some ts → AreTokens line at ts None
    of_rest sound l is None go e = absurd (none-some ts e)
    of_rest sound l is (Some rest) go e =
        let next : IsNext line at (here line at l) = record { from = refl; what = is; to = refl } in
        let all : AreTokens line at (here line at l ∷ rest) None = (next, sound (behind_blanks line at + length (written l)) rest go) in
        subst (λ (xs : List Placed). AreTokens line at xs None) (let same : here line at l ∷ rest ≡ ts = cc in same) all

    of_first : ((to : ℕ) (rest : List Placed) → scan n line to ≡ Some rest → AreTokens line to rest None) → (o : Option Lexeme) → first_token (drop (behind_blanks line at) line) ≡ o
        → (b : Bool) → list_all is_blank (drop at line) ≡ b → by_first o (behind_blanks line at) (scan n line) b ≡ Some ts → AreTokens line at ts None
    of_first sound None is true blank e = subst (λ (xs : List Placed). AreTokens line at xs None) (let same : [] ≡ ts = cc in same) blank
    of_first sound None is false blank e = absurd (none-some ts e)
    of_first sound (Some l) is b blank e = of_rest sound l is (scan n line (behind_blanks line at + length (written l))) refl e
