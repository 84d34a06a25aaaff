-- What is seen of a reply, and the parts of deciding one.
use Rattle.std.proofs.Common.{◌≡◌, ◌≢◌, ℕ, List, [], true, false, refl, ap, sym, subst}
use Rattle.std.specs.Prelude.{Result, Ok, Err, Some, None}
use Rattle.itpg_base.specs.Graphs.{Graph}
use Rattle.itpg_base.specs.declared.rule_code.RuleCode.{RuleCode}
use Rattle.itpg_base.specs.declared.text_code.TextCode.{TextCode}
use Rattle.itpg_session.specs.declared.reply.Seen.TheVariants.{Quiet, Answered, Refused as RefusedSeen}
use Rattle.itpg_session.specs.declared.reply.Reply.{Reply as ReplyValue}
use Rattle.relation_rows.specs.Answered.{Answered as Answer}
use Rattle.arrivals.specs.declared.counts.CountRow.{CountRow}
use Rattle.itpg_session.specs.Replies.{Reply, Silent, Bad, Refused, Wide, Rows, Counted, Shown, OfPin, PerWatch, line_reply}
use Rattle.row_printer.specs.declared.form.Form.{Form}
use Rattle.reply_text.specs.Texts.{bad_text, refused_text, wide_text, head_text, rows_text, counts_head_text, counted_text}
use Rattle.itpg_session.specs.Texts.{text_of}
use Rattle.itpg_session.specs.Machine.{Machine, Standing, Turn, told}
use Rattle.itpg_session.specs.Steps.{Sees, IsAlike, IsDecided, Decides}
use Rattle.itpg_session.proofs.Planned.{alike_same}

-- ---- what is seen

pub sees_quiet : Sees Quiet [] false
sees_quiet = record { quiet = (λ e. refl, λ e. refl); refused = (λ e. cc, λ e. cc) }

pub sees_answered : (text : List ℕ) → text ≢ [] → Sees Answered text false
sees_answered text some = record { quiet = (λ e. cc, λ e. absurd (some e)); refused = (λ e. cc, λ e. cc) }

pub sees_refused : (text : List ℕ) → text ≢ [] → Sees RefusedSeen text true
sees_refused text some = record { quiet = (λ e. cc, λ e. absurd (some e)); refused = (λ e. refl, λ e. refl) }

pub refused_seen : (form : Form) (number : ℕ) (rule : RuleCode) → Sees RefusedSeen (refused_text form number rule) true
unfolding refused_text
refused_seen Form.Plain number rule = sees_refused (refused_text Form.Plain number rule) (λ e. cc)
refused_seen Form.Json number rule = sees_refused (refused_text Form.Json number rule) (λ e. cc)

pub bad_seen : (form : Form) (number : ℕ) (code : TextCode) → Sees RefusedSeen (bad_text form number code) true
unfolding bad_text
bad_seen Form.Plain number code = sees_refused (bad_text Form.Plain number code) (λ e. cc)
bad_seen Form.Json number code = sees_refused (bad_text Form.Json number code) (λ e. cc)

pub wide_seen : (form : Form) (number : ℕ) → Sees RefusedSeen (wide_text form number) true
unfolding wide_text
wide_seen Form.Plain number = sees_refused (wide_text Form.Plain number) (λ e. cc)
wide_seen Form.Json number = sees_refused (wide_text Form.Json number) (λ e. cc)

pub rows_seen : (form : Form) (g : Graph) (number : ℕ) (answer : Answer) → Sees Answered (rows_text form g number answer) false
unfolding head_text
rows_seen Form.Plain g number answer = sees_answered (rows_text Form.Plain g number answer) (λ e. cc)
rows_seen Form.Json g number answer = sees_answered (rows_text Form.Json g number answer) (λ e. cc)

pub pin_seen : (form : Form) (m : Machine) (number place : ℕ) (answer : Answer) → Sees Answered (text_of form m number (OfPin place answer)) false
unfolding head_text
pin_seen Form.Plain m number place answer = sees_answered (text_of Form.Plain m number (OfPin place answer)) (λ e. cc)
pin_seen Form.Json m number place answer = sees_answered (text_of Form.Json m number (OfPin place answer)) (λ e. cc)

pub counts_seen : (form : Form) (number : ℕ) (counts : List CountRow) → Sees Answered (counted_text form number counts) false
unfolding counts_head_text
counts_seen Form.Plain number counts = sees_answered (counted_text Form.Plain number counts) (λ e. cc)
counts_seen Form.Json number counts = sees_answered (counted_text Form.Json number counts) (λ e. cc)

-- ---- deciding

module _ {P Q : Turn → Type 0} (old new : Standing) where
  -- a turn of these is one of those
  pub decided_as : ((t : Turn) → P t → Q t) → (reply : Reply) → IsDecided P old new reply → IsDecided Q old new reply
  decided_as to reply d = record { turns = to (told new.machine reply) d.turns; waits = d.waits; limit = d.limit }

  pub decides_as : {V W E : Type 0} → ((t : Turn) → P t → Q t) → (V → W) → (result : Result ReplyValue E) → Decides P V old new result → Decides Q W old new result
  decides_as to wants (Ok reply) d = decided_as to (line_reply reply) d
  decides_as to wants (Err error) d = (d.0, wants d.1)

module _ {P : Turn → Type 0} where
  -- something is said, and nothing changes
  pub said : (s : Standing) (reply : Reply) → P (told s.machine reply) → IsDecided P s s reply
  said s reply p = record { turns = p; waits = λ some. alike_same s; limit = refl }

  -- the same where the session is as it was but for its plans
  pub said_alike : (old new : Standing) (reply : Reply) → IsAlike old new → P (told old.machine reply) → IsDecided P old new reply
  said_alike old new reply alike p = record { turns = subst (λ (m : Machine). P (told m reply)) (sym alike.machine) p; waits = λ some. alike; limit = alike.limit }

  -- nothing is said
  pub silent : (old new : Standing) → new.limit ≡ old.limit → P (told new.machine Silent) → IsDecided P old new Silent
  silent old new limit p = record { turns = p; waits = λ some. absurd (some refl); limit = limit }

-- a reply that says something is to the machine that it was decided for, and one that says nothing has no text
pub same_text : (form : Form) (old new : Standing) (number : ℕ) (reply : Reply) → (reply ≢ Silent → IsAlike old new) → text_of form new.machine number reply ≡ text_of form old.machine number reply
same_text form old new number Silent waits = refl
same_text form old new number (Bad code) waits = refl
same_text form old new number (Refused rule) waits = refl
same_text form old new number Wide waits = refl
same_text form old new number (Rows answer) waits = ap (λ (m : Machine). text_of form m number (Rows answer)) (waits (λ e. let no : ⊥ = cc in no)).machine
same_text form old new number (Counted counts) waits = refl
same_text form old new number (Shown place None) waits = refl
same_text form old new number (Shown place (Some answer)) waits = ap (λ (m : Machine). text_of form m number (Shown place (Some answer))) (waits (λ e. let no : ⊥ = cc in no)).machine
same_text form old new number (OfPin place answer) waits = ap (λ (m : Machine). text_of form m number (OfPin place answer)) (waits (λ e. let no : ⊥ = cc in no)).machine
same_text form old new number (PerWatch found) waits = ap (λ (m : Machine). text_of form m number (PerWatch found)) (waits (λ e. let no : ⊥ = cc in no)).machine
