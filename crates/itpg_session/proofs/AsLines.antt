-- From what a line is to the line: what a step does with the one it does with the other, since a line is exactly one thing.
use Rattle.std.proofs.Common.{◌≡◌, ℕ, List, ◌≤◌, length, Bool, true, false, nat_le, refl, sym, subst, ◌∙◌}
use Rattle.std.specs.Prelude.{Result, Ok, Err}
use Rattle.std.specs.List.{list_all}
use Rattle.std.proofs.lemmas.Bool.{leb-true}
use Rattle.itpg_base.specs.declared.outside.Sink.{Ghosts}
use Rattle.itpg_base.specs.declared.text_code.TextCode.{TextCode}
use Rattle.script_lex.specs.Bytes.{is_blank}
use Rattle.edit_reader.specs.declared.reading.TheConstants.{MAX_LINE}
use Rattle.edit_reader.specs.Faults.{without_end}
use Rattle.edit_reader.specs.Readings.{Reading, Nothing}
use Rattle.json_port.specs.declared.line.JsonLine.{JsonLine}
use Rattle.json_port.specs.Lines.{JsonOf, FitIs, ShortIs}
use Rattle.row_printer.specs.declared.form.Form.{Form}
use Rattle.itpg_session.specs.Lines.{Just, JsonAsks, JsonIs}
use Rattle.itpg_session.specs.Machine.{Machine, Standing, Turn, Replies}
use Rattle.itpg_session.specs.declared.reply.Seen.{Seen}
use Rattle.itpg_session.specs.Steps.{Stepped, StepsWithin, LineWants, WantsMemory, IsLineAtHand, ForgetsLine, LeavesLine, LeavesPinsLine, LeavesUnmadeLine, KeepsAskedLine}
use Rattle.itpg_session.specs.Following.{LeavesFollowsLine, HoldsFollowsLine, SparesLine, KeepsNearLine}

-- what is said of any line that is just this is said of a line that is nothing else
module _ (Is : Result Reading TextCode → Type 0) (what : Result Reading TextCode) (only : (other : Result Reading TextCode) → Is other → other ≡ what) (old new : Standing) where
  pub leaves_as : LeavesLine (Just what) old new → LeavesLine Is old new
  leaves_as a = λ other is. a other (only other is)

  pub pins_as : LeavesPinsLine (Just what) old new → LeavesPinsLine Is old new
  pins_as a = λ other is. a other (only other is)

  pub follows_as : LeavesFollowsLine (Just what) old new → LeavesFollowsLine Is old new
  follows_as a = λ other is. a other (only other is)

  pub holds_as : HoldsFollowsLine (Just what) old new → HoldsFollowsLine Is old new
  holds_as a = λ other is. a other (only other is)

  pub near_as : KeepsNearLine (Just what) old new → KeepsNearLine Is old new
  near_as a = λ other is. a other (only other is)

  pub asked_as : KeepsAskedLine (Just what) old new → KeepsAskedLine Is old new
  asked_as a = λ other is. a other (only other is)

  pub unmade_as : LeavesUnmadeLine (Just what) old new → LeavesUnmadeLine Is old new
  unmade_as a = λ other is. a other (only other is)

  pub forgets_as : ForgetsLine (Just what) old new → ForgetsLine Is old new
  forgets_as a = λ edit is unbroken. a edit (only _ is) unbroken

  pub spares_as : SparesLine (Just what) old new → SparesLine Is old new
  spares_as a = λ edit is unbroken. a edit (only _ is) unbroken

  pub hand_as : (IsLineAtHand old (Just what) → ⊥) → IsLineAtHand old Is → ⊥
  hand_as none (reading, is, hand) = none (reading, only _ is, hand)

-- and what a line may do that is just this, any line may do that is this
module _ (Is : Result Reading TextCode → Type 0) (what : Result Reading TextCode) (line : Is what) where
  pub replies_as : (limit : ℕ) (m : Machine) (t : Turn) → Replies limit m (Just what) t → Replies limit m Is t
  replies_as limit m t r = record { what = r.what; line_of = subst Is (sym r.line_of) line; turn = r.turn }

  pub wants_as : (m : Machine) → LineWants m (Just what) → LineWants m Is
  wants_as m (reading, is, wants) = (reading, subst Is (sym is) line, wants)

  pub stepped_as : {K : Type 0} (sink : Ghosts K) (before after : K) (form : Form) (number : ℕ) (old new : Standing) (seen : Seen)
      → Stepped sink before after form (Replies old.limit old.machine (Just what)) number old new seen → Stepped sink before after form (Replies old.limit old.machine Is) number old new seen
  stepped_as sink before after form number old new seen s =
      record { turn = s.turn; turns = replies_as old.limit old.machine s.turn s.turns; written = s.written; next = s.next; sees = s.sees }

  pub within_as : {K : Type 0} (sink : Ghosts K) (before after : K) (form : Form) (number : ℕ) (old : Standing)
      → StepsWithin sink before after form (Replies old.limit old.machine (Just what)) number old → StepsWithin sink before after form (Replies old.limit old.machine Is) number old
  within_as sink before after form number old s = record { turn = s.turn; turns = replies_as old.limit old.machine s.turn s.turns; some = s.some }

-- a line of JSON is what its object asks for
module _ (line : List ℕ) (json : Result JsonLine TextCode) (what : Result Reading TextCode) where
  pub json_only : ((other : Result JsonLine TextCode) → JsonOf line other → json ≡ other) → ((other : Result Reading TextCode) → JsonAsks json other → other ≡ what)
      → (other : Result Reading TextCode) → JsonIs line other → other ≡ what
  json_only one only other (p, of, asks) = only other (subst (λ (q : Result JsonLine TextCode). JsonAsks q other) (sym (one p of)) asks)

  pub json_is : JsonOf line json → JsonAsks json what → JsonIs line what
  json_is of asks = (json, of, asks)

-- what takes memory is neither blank nor too long
wants_something : (m : Machine) (what : Result Reading TextCode) → what ≡ Ok Nothing → LineWants m (Just what) → ⊥
wants_something m what is (reading, read, wants) = subst (WantsMemory m) (let e : reading ≡ Nothing = (let f = read ∙ is in cc) in e) wants

wants_no_fault : (m : Machine) (what : Result Reading TextCode) (code : TextCode) → what ≡ Err code → LineWants m (Just what) → ⊥
wants_no_fault m what code is (reading, read, wants) = let f = read ∙ is in let no : ⊥ = cc in no

module _ (m : Machine) (json : Result JsonLine TextCode) (what : Result Reading TextCode) (asks : JsonAsks json what) (wants : LineWants m (Just what)) where
  not_long : json ≡ Err TextCode.Long → ⊥
  not_long is = wants_no_fault m what TextCode.Long (subst (λ (q : Result JsonLine TextCode). JsonAsks q what) is asks) wants

  not_nothing : json ≡ Ok JsonLine.Blank → ⊥
  not_nothing is = wants_something m what (subst (λ (q : Result JsonLine TextCode). JsonAsks q what) is asks) wants

  wanting_short : (line : List ℕ) (fits : Bool) → nat_le (length line) MAX_LINE ≡ fits → FitIs fits line json → length line ≤ MAX_LINE
  wanting_short line true fits of = leb-true (length line) MAX_LINE fits
  wanting_short line false fits of = absurd (not_long of)

  wanting_some : (line : List ℕ) (fits blank : Bool) → list_all is_blank line ≡ blank → FitIs fits line json → list_all is_blank line ≡ false
  wanting_some line false blank is of = absurd (not_long of)
  wanting_some line true false is of = is
  wanting_some line true true is of = absurd (not_nothing (subst (λ (b : Bool). ShortIs b line json) is of))

  pub wanting_fits : (line : List ℕ) → JsonOf line json → length (without_end line) ≤ MAX_LINE
  wanting_fits line of = wanting_short (without_end line) (nat_le (length (without_end line)) MAX_LINE) refl of

  pub wanting_said : (line : List ℕ) → JsonOf line json → list_all is_blank (without_end line) ≡ false
  wanting_said line of = wanting_some (without_end line) (nat_le (length (without_end line)) MAX_LINE) (list_all is_blank (without_end line)) refl of
