-- The numbers of a line that has no fault are moments, and its labels a set.
use Rattle.std.proofs.Common.{◌≡◌, inl, inr, ℕ, List, [], ◌∷◌, Bool, true, false, Option, Some, None, Result, Ok, Err, refl, sym, subst}
use Rattle.std.specs.Prelude.{IfOk, slice_get}
use Rattle.std.specs.Option.{option_and_then, option_map_or}
use Rattle.itpg_base.specs.Spans.{IsMoment}
use Rattle.itpg_base.specs.declared.text_code.TextCode.{TextCode}
use Rattle.script_lex.specs.Lexemes.{Lexeme, AWord, ANumber, AQuote}
use Rattle.script_lex.specs.Lines.{Placed}
use Rattle.script_lex.specs.Numbers.{number_value}
use Rattle.edit_reader.specs.declared.command.Command.{Command}
use Rattle.edit_reader.specs.declared.line.Line.{Line}
use Rattle.edit_reader.specs.Readings.{Reading, reading_of, told}
use Rattle.edit_reader.specs.Commands.{command_at}
use Rattle.edit_reader.specs.Forms.{form, form_of, before_query, parts_of, lexemes, bytes_behind}
use Rattle.edit_reader.specs.Faults.{HasFarNumber}
use Rattle.edit_reader.specs.Lines.{ReadsAs, TakenAs}
use Rattle.edit_reader.specs.Moments.{AsksOfMoments, AsksForLabels}
use Rattle.edit_reader.specs.Steps.{is_near}
use Rattle.edit_reader.proofs.PartFaults.{near_moment, far_moment}
use Rattle.edit_reader.specs.Labels.{listed}
use Rattle.edit_reader.proofs.LabelForms.{node_moments, edge_moments, node_labels, edge_labels}
use Rattle.edit_reader.proofs.PinForms.{is_in}

-- a number that isn't no moment is one
moment_there : (number : List ℕ) → ¬ (¬ IsMoment (number_value number)) → IsMoment (number_value number)
moment_there number some = by_test (is_near number) refl
  where
    by_test : (t : Bool) → is_near number ≡ t → IsMoment (number_value number)
    by_test true e = near_moment number e
    by_test false e = absurd (some (far_moment number e))

-- two numbers behind parts that have none
two_there : (a b : List ℕ) → ¬ HasFarNumber (ANumber a ∷ ANumber b ∷ []) → IsMoment (number_value a) × IsMoment (number_value b)
two_there a b none = (moment_there a (λ far. none (inl far)), moment_there b (λ far. none (inr (inl far))))

same_moments : {a b : Reading} → Some a ≡ Some b → AsksOfMoments a → AsksOfMoments b
same_moments {a = a} {b = b} e moments = let same : a ≡ b = cc in subst AsksOfMoments same moments

form_moments : (text : ℕ → List ℕ) (command : Command) (parts : List Lexeme) (reading : Reading) → form text command parts ≡ Some reading → ¬ HasFarNumber (before_query command parts) → AsksOfMoments reading
form_moments text Command.Graph (AWord name ∷ ANumber a ∷ ANumber b ∷ []) reading e none = same_moments e (two_there a b none)
form_moments text Command.Extend (ANumber a ∷ ANumber b ∷ []) reading e none = same_moments e (two_there a b none)
form_moments text Command.Node (AWord id ∷ rest) reading e none = node_moments id (listed 8 rest) reading e
form_moments text Command.Edge (AWord id ∷ rest) reading e none = edge_moments id (listed 8 rest) reading e
form_moments text Command.Live (AWord id ∷ ANumber a ∷ ANumber b ∷ []) reading e none = same_moments e (two_there a b none)
form_moments text Command.Gone (AWord id ∷ ANumber a ∷ ANumber b ∷ []) reading e none = same_moments e (two_there a b none)
form_moments text Command.Set (AWord id ∷ AWord prop ∷ AQuote value ∷ ANumber a ∷ ANumber b ∷ []) reading e none = same_moments e (two_there a b none)
form_moments text Command.Unset (AWord id ∷ AWord prop ∷ ANumber a ∷ ANumber b ∷ []) reading e none = same_moments e (two_there a b none)
form_moments text Command.Drop (AWord id ∷ []) reading e none = same_moments e tt
form_moments text Command.Ask parts reading e none = same_moments e tt
form_moments text Command.First parts reading e none = same_moments e tt
form_moments text Command.Last parts reading e none = same_moments e tt
form_moments text Command.Count parts reading e none = same_moments e tt
form_moments text Command.Watch (AWord name ∷ rest) reading e none = same_moments e tt
form_moments text Command.Show (AWord name ∷ []) reading e none = same_moments e tt
form_moments text Command.Unwatch (AWord name ∷ []) reading e none = same_moments e tt
form_moments text Command.Tick [] reading e none = same_moments e tt
form_moments text Command.Open (AWord name ∷ []) reading e none = same_moments e tt
form_moments text Command.Close (AWord name ∷ []) reading e none = same_moments e tt
form_moments text Command.In (AWord name ∷ AWord word ∷ rest) reading e none = subst AsksOfMoments (sym (is_in name word (text 2) reading e)) tt
form_moments text Command.Follow (AWord name ∷ rest) reading e none = same_moments e tt
form_moments text Command.Near (AWord name ∷ AWord id ∷ []) reading e none = same_moments e tt
form_moments text Command.Unfollow (AWord name ∷ []) reading e none = same_moments e tt
form_moments text _ _ reading e none = absurd (let never : ⊥ = cc in never)

tokens_moments : (line : List ℕ) (tokens : List Placed) (reading : Reading) → form_of line tokens ≡ Some reading → ¬ HasFarNumber (parts_of tokens) → AsksOfMoments reading
tokens_moments line [] reading e none = absurd (let never : ⊥ = cc in never)
tokens_moments line (t ∷ ts) reading e none = by_command (command_at t.what) e none
  where
    by_command : (o : Option Command) → option_and_then (λ command. form (λ n. bytes_behind line (slice_get (t ∷ ts) n)) command (lexemes ts)) o ≡ Some reading → ¬ HasFarNumber (option_map_or (λ command. before_query command (lexemes ts)) o []) → AsksOfMoments reading
    by_command (Some command) is good = form_moments (λ n. bytes_behind line (slice_get (t ∷ ts) n)) command (lexemes ts) reading is good
    by_command None is good = absurd (let never : ⊥ = cc in never)

pub taken_moments : (line : List ℕ) (reading : Reading) → TakenAs line (Ok reading) → AsksOfMoments reading
taken_moments line reading taken = by_reading taken.1
  where
    by_reading : ReadsAs line reading → AsksOfMoments reading
    by_reading (inl silent) = subst AsksOfMoments (sym silent.1) tt
    by_reading (inr (loud, (tokens, (end, (are, is))))) = tokens_moments line tokens reading is (λ far. taken.0 TextCode.Number (loud, (tokens, (end, (are, far)))))

-- the same of an answer of the code
pub told_moments : (line : List ℕ) (answer : Result Line TextCode) → TakenAs line (told answer) → IfOk answer (λ asked. AsksOfMoments (reading_of asked))
told_moments line (Ok asked) taken = taken_moments line (reading_of asked) taken
told_moments line (Err code) taken = tt

same_labels : {a b : Reading} → Some a ≡ Some b → AsksForLabels a → AsksForLabels b
same_labels {a = a} {b = b} e labels = let same : a ≡ b = cc in subst AsksForLabels same labels

form_labels : (text : ℕ → List ℕ) (command : Command) (parts : List Lexeme) (reading : Reading) → form text command parts ≡ Some reading → AsksForLabels reading
form_labels text Command.Graph (AWord name ∷ ANumber a ∷ ANumber b ∷ []) reading e = same_labels e tt
form_labels text Command.Extend (ANumber a ∷ ANumber b ∷ []) reading e = same_labels e tt
form_labels text Command.Node (AWord id ∷ rest) reading e = node_labels id rest (listed 8 rest) refl reading e
form_labels text Command.Edge (AWord id ∷ rest) reading e = edge_labels id rest (listed 8 rest) refl reading e
form_labels text Command.Live (AWord id ∷ ANumber a ∷ ANumber b ∷ []) reading e = same_labels e tt
form_labels text Command.Gone (AWord id ∷ ANumber a ∷ ANumber b ∷ []) reading e = same_labels e tt
form_labels text Command.Set (AWord id ∷ AWord prop ∷ AQuote value ∷ ANumber a ∷ ANumber b ∷ []) reading e = same_labels e tt
form_labels text Command.Unset (AWord id ∷ AWord prop ∷ ANumber a ∷ ANumber b ∷ []) reading e = same_labels e tt
form_labels text Command.Drop (AWord id ∷ []) reading e = same_labels e tt
form_labels text Command.Ask parts reading e = same_labels e tt
form_labels text Command.First parts reading e = same_labels e tt
form_labels text Command.Last parts reading e = same_labels e tt
form_labels text Command.Count parts reading e = same_labels e tt
form_labels text Command.Watch (AWord name ∷ rest) reading e = same_labels e tt
form_labels text Command.Show (AWord name ∷ []) reading e = same_labels e tt
form_labels text Command.Unwatch (AWord name ∷ []) reading e = same_labels e tt
form_labels text Command.Tick [] reading e = same_labels e tt
form_labels text Command.Open (AWord name ∷ []) reading e = same_labels e tt
form_labels text Command.Close (AWord name ∷ []) reading e = same_labels e tt
form_labels text Command.In (AWord name ∷ AWord word ∷ rest) reading e = subst AsksForLabels (sym (is_in name word (text 2) reading e)) tt
form_labels text Command.Follow (AWord name ∷ rest) reading e = same_labels e tt
form_labels text Command.Near (AWord name ∷ AWord id ∷ []) reading e = same_labels e tt
form_labels text Command.Unfollow (AWord name ∷ []) reading e = same_labels e tt
form_labels text _ _ reading e = absurd (let never : ⊥ = cc in never)

tokens_labels : (line : List ℕ) (tokens : List Placed) (reading : Reading) → form_of line tokens ≡ Some reading → AsksForLabels reading
tokens_labels line [] reading e = absurd (let never : ⊥ = cc in never)
tokens_labels line (t ∷ ts) reading e = by_command (command_at t.what) e
  where
    by_command : (o : Option Command) → option_and_then (λ command. form (λ n. bytes_behind line (slice_get (t ∷ ts) n)) command (lexemes ts)) o ≡ Some reading → AsksForLabels reading
    by_command (Some command) is = form_labels (λ n. bytes_behind line (slice_get (t ∷ ts) n)) command (lexemes ts) reading is
    by_command None is = absurd (let never : ⊥ = cc in never)

-- the labels of an object that a line declares are a set
pub taken_labels : (line : List ℕ) (reading : Reading) → TakenAs line (Ok reading) → AsksForLabels reading
taken_labels line reading taken = by_reading taken.1
  where
    by_reading : ReadsAs line reading → AsksForLabels reading
    by_reading (inl silent) = subst AsksForLabels (sym silent.1) tt
    by_reading (inr (loud, (tokens, (end, (are, is))))) = tokens_labels line tokens reading is
