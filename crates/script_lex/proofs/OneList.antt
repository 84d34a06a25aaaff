-- A line has one list of tokens, and it is written with them.
use Rattle.std.proofs.Common.{◌≡◌, ℕ, zero, suc, ◌+◌, ◌-◌, ◌<◌, ◌≤◌, List, [], ◌∷◌, ◌++◌, Option, Some, None, ◌⊎◌, inl, inr, length, take, drop, refl, sym, ap, ◌∙◌, subst, arith}
use Rattle.std.proofs.lemmas.Option.{same_Some}
use Rattle.std.specs.Prelude.{slice_range}
use Rattle.std.specs.List.{prefix_len}
use Rattle.std.proofs.lemmas.Bool.{cases_lt}
use Rattle.std.proofs.Math.Seq.{take-append_seam}
use Rattle.itpg_base.specs.declared.text_code.TextCode.{TextCode}
use Rattle.script_lex.specs.Bytes.{is_blank}
use Rattle.script_lex.specs.Lexemes.{Lexeme, written}
use Rattle.script_lex.specs.Table.{first_token, fault_of}
use Rattle.script_lex.specs.Lines.{Placed, AreBlank, behind_blanks, IsNext, EndsAt, AreTokens, LeadTo, AreWritten}
use Rattle.script_lex.proofs.Runs.{run_passes}
use Rattle.script_lex.proofs.Fronts.{token_read}
use Rattle.script_lex.proofs.Places.{blank_end, end_blank, token_inside}

placed_is : (x y : Placed) → x.from ≡ y.from → x.to ≡ y.to → x.what ≡ y.what → x ≡ y
placed_is x y e f g = λ i. record { from = e i; to = f i; what = g i }

pub next_unique : (line : List ℕ) (at : ℕ) (x y : Placed) → IsNext line at x → IsNext line at y → x ≡ y
next_unique line at x y n m =
    let from : x.from ≡ y.from = n.from ∙ sym m.from in
    let what : x.what ≡ y.what = same_Some x.what y.what (sym n.what ∙ ap (λ k. first_token (drop k line)) from ∙ m.what) in
    let width : length (written x.what) ≡ length (written y.what) = ap (λ w. length (written w)) what in
    let to : x.to ≡ y.to = omega (arith, n.to, m.to) in
    placed_is x y from to what

-- where a token follows, the line doesn't end
pub next_goes_on : (line : List ℕ) (at : ℕ) (t : Placed) (end : Option TextCode) → IsNext line at t → EndsAt line at end → ⊥
next_goes_on line at t None n blank =
    let inside = token_inside line t.from t.what n.what in
    let end = end_blank line at blank in
    absurd (omega (arith, n.from, inside.some, inside.fits))
next_goes_on line at t (Some code) n fault =
    let e : None ≡ Some t.what = sym fault.none ∙ ap (λ k. first_token (drop k line)) (sym n.from) ∙ n.what in
    let none : ⊥ = cc in none

pub end_unique : (line : List ℕ) (at : ℕ) (e f : Option TextCode) → EndsAt line at e → EndsAt line at f → e ≡ f
end_unique line at None None x y = refl
end_unique line at None (Some code) x y = absurd (let end = end_blank line at x in omega (arith, y.some))
end_unique line at (Some code) None x y = absurd (let end = end_blank line at y in omega (arith, x.some))
end_unique line at (Some c) (Some d) x y = ap Some (sym x.why ∙ y.why)

pub tokens_unique : (line : List ℕ) (at : ℕ) (xs ys : List Placed) (e f : Option TextCode) → AreTokens line at xs e → AreTokens line at ys f → (xs ≡ ys) × (e ≡ f)
tokens_unique line at [] [] e f a b = (refl, end_unique line at e f a b)
tokens_unique line at [] (y ∷ ys) e f a b = absurd (next_goes_on line at y e b.0 a)
tokens_unique line at (x ∷ xs) [] e f a b = absurd (next_goes_on line at x f a.0 b)
tokens_unique line at (x ∷ xs) (y ∷ ys) e f a b =
    let same : x ≡ y = next_unique line at x y a.0 b.0 in
    let rest = tokens_unique line x.to xs ys e f a.1 (subst (λ (t : Placed). AreTokens line t.to ys f) (sym same) b.1) in
    (λ i. same i ∷ rest.0 i, rest.1)

-- what follows a place: a token that lies in the line, or the end
record GoesOn (line : List ℕ) (at : ℕ) : Type 0 where
  token : Placed
  next : IsNext line at token
  later : at < token.to
  inside : token.to ≤ length line

record Stops (line : List ℕ) (at : ℕ) : Type 0 where
  end : Option TextCode
  ends : EndsAt line at end

goes_on_or_stops : (line : List ℕ) (at : ℕ) → GoesOn line at ⊎ Stops line at
goes_on_or_stops line at = elim (cases_lt (behind_blanks line at) (length line)) [
  | inl some ↦ by_token some (first_token (drop (behind_blanks line at) line)) refl
  | inr none ↦ inr (record { end = None; ends = blank_end line at none })
]
  where
    by_token : behind_blanks line at < length line → (o : Option Lexeme) → first_token (drop (behind_blanks line at) line) ≡ o → GoesOn line at ⊎ Stops line at
    by_token some None e = inr (record { end = Some (fault_of (drop (behind_blanks line at) line)); ends = record { some = some; none = e; why = refl } })
    by_token some (Some w) e =
        let t : Placed = record { from = behind_blanks line at; to = behind_blanks line at + length (written w); what = w } in
        let lies = token_inside line (behind_blanks line at) w e in
        inl (record { token = t; next = record { from = refl; what = e; to = refl }; later = omega (arith, lies.some); inside = lies.fits })

tokens_within : (n : ℕ) (line : List ℕ) (at : ℕ) → length line ≤ at + n → (tokens : List Placed) × ((end : Option TextCode) × AreTokens line at tokens end)
tokens_within zero line at h = elim (goes_on_or_stops line at) [
  | inl g ↦ absurd (omega (arith, g.later, g.inside))
  | inr s ↦ ([], (s.end, s.ends))
]
tokens_within (suc n) line at h = elim (goes_on_or_stops line at) [
  | inl g ↦
      let left : length line ≤ g.token.to + n = omega (arith, g.later) in
      let rest = tokens_within n line g.token.to left in
      (g.token ∷ rest.0, (rest.1.0, (g.next, rest.1.1)))
  | inr s ↦ ([], (s.end, s.ends))
]

pub tokens_exist : (line : List ℕ) (at : ℕ) → (tokens : List Placed) × ((end : Option TextCode) × AreTokens line at tokens end)
tokens_exist line at = tokens_within (length line) line at (omega arith)

pub tokens_written : (line : List ℕ) (at : ℕ) (tokens : List Placed) (end : Option TextCode) → AreTokens line at tokens end → AreWritten line at tokens
tokens_written line at [] end a = tt
tokens_written line at (t ∷ ts) end a =
    let n = a.0 in
    let blanks : (at + prefix_len is_blank (drop at line)) - at ≡ prefix_len is_blank (drop at line) = omega arith in
    let width : t.to - t.from ≡ length (written t.what) = omega (arith, n.to) in
    let front = (token_read (drop t.from line) t.what n.what).front in (
      subst (λ k. AreBlank (slice_range line at k)) (sym n.from) (subst (λ k. AreBlank (take k (drop at line))) (sym blanks) (run_passes is_blank (drop at line))),
      ap (λ k. take k (drop t.from line)) width ∙ ap (take (length (written t.what))) (sym front.split) ∙ take-append_seam (written t.what) front.rest,
      tokens_written line t.to ts end a.1,
    )

pub lead_more : (line : List ℕ) (at to : ℕ) (tokens : List Placed) (t : Placed) → LeadTo line at tokens to → IsNext line to t → LeadTo line at (tokens ++ t ∷ []) t.to
lead_more line at to [] t l n = (subst (λ k. IsNext line k t) (sym l) n, refl)
lead_more line at to (x ∷ xs) t l n = (l.0, lead_more line x.to to xs t l.1 n)

pub lead_end : (line : List ℕ) (at to : ℕ) (tokens : List Placed) (end : Option TextCode) → LeadTo line at tokens to → EndsAt line to end → AreTokens line at tokens end
lead_end line at to [] end l e = subst (λ k. EndsAt line k end) (sym l) e
lead_end line at to (x ∷ xs) end l e = (l.0, lead_end line x.to to xs end l.1 e)

pub lead_rest : (line : List ℕ) (at to : ℕ) (xs ys : List Placed) (end : Option TextCode) → LeadTo line at xs to → AreTokens line to ys end → AreTokens line at (xs ++ ys) end
lead_rest line at to [] ys end l a = subst (λ k. AreTokens line k ys end) (sym l) a
lead_rest line at to (x ∷ xs) ys end l a = (l.0, lead_rest line x.to to xs ys end l.1 a)
