-- Lines that are told to ask for an edit.
use Rattle.std.proofs.Common.{◌≡◌, inl, inr, ℕ, ◌≤◌, List, [], ◌∷◌, Bool, true, false, ◌||◌, Option, Some, None, Ok, Err, length, drop, refl, sym, ap, ◌∙◌, subst, arith, true≢false}
use Rattle.std.specs.Prelude.{nat_eq, nat_lt, slice_get, if◌then◌else◌}
use Rattle.std.specs.Option.{option_and_then, option_map_or}
use Rattle.std.proofs.lemmas.Bool.{cases_lt}
use Rattle.std.proofs.lemmas.Bool.{eqb-true}
use Rattle.std.specs.List.{prefix_len, list_all}
use Rattle.itpg_base.specs.declared.text_code.TextCode.{TextCode}
use Rattle.itpg_edit.specs.declared.edit.Edit.{Edit}
use Rattle.script_lex.specs.Bytes.{is_blank, begins_with}
use Rattle.script_lex.specs.Lexemes.{Lexeme, AWord}
use Rattle.script_lex.specs.Marks.{first_mark}
use Rattle.script_lex.specs.Table.{first_token}
use Rattle.script_lex.specs.Lines.{Placed, AreTokens, IsNext}
use Rattle.script_lex.proofs.OneList.{tokens_exist}
use Rattle.script_lex.proofs.Places.{token_inside}
use Rattle.script_lex.proofs.Runs.{whole_run}
use Rattle.edit_reader.specs.declared.reading.TheConstants.{MAX_LINE}
use Rattle.edit_reader.specs.Readings.{Reading, Changes}
use Rattle.edit_reader.specs.Faults.{is_silent}
use Rattle.edit_reader.specs.Lines.{ReadsAs, TakenAs}
use Rattle.edit_reader.specs.declared.command.Command.{Command}
use Rattle.edit_reader.specs.Commands.{command_of, command_at, is_edit}
use Rattle.edit_reader.specs.Forms.{form, form_of, parts_of, before_query, bytes_behind, lexemes}
use Rattle.edit_reader.specs.Steps.{Told}
use Rattle.edit_reader.specs.Taken.{IsTaken}
use Rattle.edit_reader.specs.Telling.{near, short, form_told, is_byte, end_told, tokens_told, line_told}
use Rattle.edit_reader.proofs.Firsts.{told_line, taken_once}
use Rattle.edit_reader.proofs.PartFaults.{near_or_far, short_or_long}
use Rattle.edit_reader.proofs.PinForms.{is_in}
use Rattle.itpg_base.specs.Words.{Word}
use Rattle.script_lex.specs.declared.token.TheConstants.{MAX_TOKENS}
use Rattle.edit_reader.proofs.Whole.{form_read}

at_hash : (bs : List ℕ) → first_token (35 ∷ bs) ≡ None
unfolding first_token first_mark
at_hash bs = refl

-- no token begins with `#`
no_hash : (bytes : List ℕ) → begins_with (λ b. nat_eq b 35) bytes ≡ true → first_token bytes ≡ None
no_hash [] e = absurd (true≢false (sym e))
no_hash (b ∷ bs) e = let is : b ≡ 35 = eqb-true b 35 e in subst (λ (x : ℕ). first_token (x ∷ bs) ≡ None) (sym is) (at_hash bs)

-- a line that is blank or a comment has no token
silent_bare : (line : List ℕ) (t : Placed) → is_silent line ≡ true → IsNext line 0 t → ⊥
silent_bare line t silent next = by_blanks (list_all is_blank line) refl
  where
    from : t.from ≡ prefix_len is_blank line
    from = let f = next.from in omega (arith, f)

    by_blanks : (b : Bool) → list_all is_blank line ≡ b → ⊥
    by_blanks true e =
        let whole = whole_run is_blank line e in
        let inside = token_inside line t.from t.what next.what in
        let some = inside.some in
        let fits = inside.fits in
        omega (arith, from, whole, some, fits)
    by_blanks false e =
        let hash : begins_with (λ b. nat_eq b 35) (drop (prefix_len is_blank line) line) ≡ true =
        sym (ap (λ b. b || begins_with (λ b. nat_eq b 35) (drop (prefix_len is_blank line) line)) e) ∙ silent in
        let none : first_token (drop t.from line) ≡ None = ap (λ k. first_token (drop k line)) from ∙ no_hash (drop (prefix_len is_blank line) line) hash in
        let both : Some t.what ≡ None = sym next.what ∙ none in
        let never : ⊥ = cc in
        never

-- tokens that tell what a line asks for end with the line, and their form tells it
pub told_end : (end : Option TextCode) (count : ℕ) (go_on : Told) (reading : Reading) → Ok reading ≡ tokens_told end count go_on → (end ≡ None) × (Ok reading ≡ go_on)
told_end end count go_on reading told = by_end end (by_tests (is_byte end) (nat_lt MAX_TOKENS count) told)
  where
    by_tests : (b t : Bool) → Ok reading ≡ (if b then Err TextCode.Byte else (if t then Err TextCode.Tokens else end_told end go_on)) → Ok reading ≡ end_told end go_on
    by_tests false false e = e
    by_tests false true e = absurd (let never : ⊥ = cc in never)
    by_tests true t e = absurd (let never : ⊥ = cc in never)

    by_end : (end : Option TextCode) → Ok reading ≡ end_told end go_on → (end ≡ None) × (Ok reading ≡ go_on)
    by_end None e = (refl, e)
    by_end (Some code) e = absurd (let never : ⊥ = cc in never)

-- a line with no token asks for nothing
bare_told : (line : List ℕ) (end : Option TextCode) (reading : Reading) → Ok reading ≡ line_told line [] end → ⊥
bare_told line end reading e = let told = (told_end end 0 (form_told None []) reading e).1 in let never : ⊥ = cc in never

-- a line whose tokens tell what it asks for is neither blank nor a comment
told_loud : (body : List ℕ) (reading : Reading) (tokens : List Placed) (end : Option TextCode) → AreTokens body 0 tokens end →
    Ok reading ≡ line_told body tokens end → is_silent body ≡ false
told_loud body reading [] end are told = absurd (bare_told body end reading told)
told_loud body reading (t ∷ ts) end are told = by_silence (is_silent body) refl
  where
    by_silence : (b : Bool) → is_silent body ≡ b → is_silent body ≡ false
    by_silence true e = absurd (silent_bare body t e are.0)
    by_silence false e = e

-- and it asks for that
pub told_taken : (body : List ℕ) (reading : Reading) → length body ≤ MAX_LINE →
    ((tokens : List Placed) (end : Option TextCode) → AreTokens body 0 tokens end → Ok reading ≡ line_told body tokens end) → TakenAs body (Ok reading)
told_taken body reading few told =
    let t = tokens_exist body 0 in
    form_read body few (told_loud body reading t.0 t.1.0 t.1.1 (told t.0 t.1.0 t.1.1)) (Ok reading) told

-- a line that asks for an edit is told by its tokens to do so
pub taken_told : (body : List ℕ) (edit : Edit) → TakenAs body (Ok (Changes edit)) →
    (tokens : List Placed) (end : Option TextCode) → AreTokens body 0 tokens end → Ok (Changes edit) ≡ line_told body tokens end
taken_told body edit taken tokens end are = elim (cases_lt MAX_LINE (length body)) [
  | inl long ↦ absurd (taken.0 TextCode.Long long)
  | inr few ↦ taken_once body (Ok (Changes edit)) (line_told body tokens end) taken (told_line body few (loud taken.1) tokens end are)
]
  where
    loud : ReadsAs body (Changes edit) → is_silent body ≡ false
    loud (inl silent) = absurd (let is = silent.1 in let never : ⊥ = cc in never)
    loud (inr of) = of.0

-- a form that is told to ask for something does so
form_some : (parts : List Lexeme) (o : Option Reading) (reading : Reading) → Ok reading ≡ form_told o parts → o ≡ Some reading
form_some parts None reading e = absurd (let never : ⊥ = cc in never)
form_some parts (Some other) reading e = elim (near_or_far parts (short parts (Ok other))) [
  | inl far ↦ absurd (let wrong = e ∙ far.1 in let never : ⊥ = cc in never)
  | inr near ↦ elim (short_or_long parts (Ok other)) [
    | inl long ↦ absurd (let wrong = e ∙ near.1 ∙ long.1 in let never : ⊥ = cc in never)
    | inr short ↦ let same = e ∙ near.1 ∙ short.1 in cc
  ]
]

-- only an edit's form asks for an edit
form_edit : (text : ℕ → List ℕ) (command : Command) (parts : List Lexeme) (edit : Edit) → form text command parts ≡ Some (Changes edit) → is_edit command ≡ true
form_edit text Command.Graph parts edit e = refl
form_edit text Command.Extend parts edit e = refl
form_edit text Command.Node parts edit e = refl
form_edit text Command.Edge parts edit e = refl
form_edit text Command.Live parts edit e = refl
form_edit text Command.Gone parts edit e = refl
form_edit text Command.Set parts edit e = refl
form_edit text Command.Unset parts edit e = refl
form_edit text Command.Drop parts edit e = refl
form_edit text Command.Ask parts edit e = absurd (let never : ⊥ = cc in never)
form_edit text Command.First parts edit e = absurd (let never : ⊥ = cc in never)
form_edit text Command.Last parts edit e = absurd (let never : ⊥ = cc in never)
form_edit text Command.Count parts edit e = absurd (let never : ⊥ = cc in never)
form_edit text Command.Watch (AWord name ∷ rest) edit e = absurd (let never : ⊥ = cc in never)
form_edit text Command.Show (AWord name ∷ []) edit e = absurd (let never : ⊥ = cc in never)
form_edit text Command.Unwatch (AWord name ∷ []) edit e = absurd (let never : ⊥ = cc in never)
form_edit text Command.Tick [] edit e = absurd (let never : ⊥ = cc in never)
form_edit text Command.Open (AWord name ∷ []) edit e = absurd (let never : ⊥ = cc in never)
form_edit text Command.Close (AWord name ∷ []) edit e = absurd (let never : ⊥ = cc in never)
form_edit text Command.In (AWord name ∷ AWord word ∷ rest) edit e = absurd (let is = is_in name word (text 2) (Changes edit) e in let never : ⊥ = cc in never)
form_edit text Command.Follow (AWord name ∷ rest) edit e = absurd (let never : ⊥ = cc in never)
form_edit text Command.Near (AWord name ∷ AWord id ∷ []) edit e = absurd (let never : ⊥ = cc in never)
form_edit text Command.Unfollow (AWord name ∷ []) edit e = absurd (let never : ⊥ = cc in never)
form_edit text _ _ edit e = absurd (let never : ⊥ = cc in never)

-- where tokens tell an edit, their command is one
pub told_edit : (line left : List ℕ) (at : ℕ) (tokens : List Placed) (word : Word) (command : Command) (edit : Edit) →
    IsTaken line tokens (AWord word) left at → command_of word ≡ Some command →
    Ok (Changes edit) ≡ form_told (form_of line tokens) (parts_of tokens) → is_edit command ≡ true
told_edit line left at tokens word command edit t some told =
    let some_at : command_at t.first.what ≡ Some command = ap command_at t.what_is ∙ some in
    let text : ℕ → List ℕ = λ n. bytes_behind line (slice_get (t.first ∷ t.rest) n) in
    let first = subst (λ (ts : List Placed). Ok (Changes edit) ≡ form_told (form_of line ts) (parts_of ts)) t.are told in
    let of_command = subst (λ (o : Option Command). Ok (Changes edit) ≡
    form_told (option_and_then (λ command. form text command (lexemes t.rest)) o) (option_map_or (λ command. before_query command (lexemes t.rest)) o [])) some_at first in
    form_edit text command (lexemes t.rest) edit (form_some (before_query command (lexemes t.rest)) (form text command (lexemes t.rest)) (Changes edit) of_command)
