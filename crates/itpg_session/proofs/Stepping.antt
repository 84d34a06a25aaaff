-- A step: from what a line is to the line, and what is kept and asked for: the answer of a fresh watch, or the rows of an object.
use Rattle.std.proofs.Common.{◌≡◌, inr, ℕ, zero, suc, List, [], ◌∷◌, length, Bool, true, false, refl, sym, ap, subst, ◌∙◌}
use Rattle.std.specs.Prelude.{Result, Ok, Err, Option, Some, None, slice_get, is_some, IfSome, IsSomeAnd, IsOkAnd}
use Rattle.itpg_base.specs.Words.{Word}
use Rattle.itpg_base.specs.Graphs.{Graph}
use Rattle.itpg_base.specs.declared.text_code.TextCode.{TextCode}
use Rattle.edit_reader.specs.declared.line.Line.{Line}
use Rattle.edit_reader.specs.Readings.{reading_of, told as read_as, Reading, Nothing, Changes, Asks, Wants, Watches, Shows, Unwatches, Ticks, Opens, Closes, AsksIn, Follows, Nears, Unfollows}
use Rattle.relation_rows.specs.Answered.{Answered}
use Rattle.row_printer.specs.Texts.{AreDeclared}
use Rattle.itpg_session.specs.declared.reply.Reply.{Reply as ReplyValue}
use Rattle.itpg_edit.specs.Rules.{NoneOf}
use Rattle.plan_cache.specs.Nodes.{Table}
use Rattle.standing_queries.specs.Watches.{Watch, Keeps, IsFresh as IsFreshThere}
use Rattle.standing_queries.proofs.Named.{place_among}
use Rattle.itpg_session.specs.Rules.{TickBreaks, tick_rules}
use Rattle.itpg_session.specs.Questions.{HasAnswer}
use Rattle.itpg_session.specs.Keeping.{AreWatchesRight}
use Rattle.itpg_session.specs.PlainWatches.{PlainWatch, plain, IsFresh, marked_at}
use Rattle.itpg_session.specs.Replies.{Reply, Rows, Shown, FindsFor}
use Rattle.row_printer.specs.declared.form.Form.{Form}
use Rattle.reply_text.specs.Texts.{rows_text}
use Rattle.itpg_session.specs.Texts.{text_of, fails}
use Rattle.itpg_session.specs.PlainFollows.{plain_follow}
use Rattle.itpg_session.specs.Following.{NearsKept}
use Rattle.itpg_session.specs.Machine.{Machine, Standing, Turn, TurnOf, Replies, told, after}
use Rattle.itpg_session.specs.declared.reply.Seen.TheVariants.{Answered as SeenAnswered}
use Rattle.itpg_session.specs.Steps.{Sees, Decides, WhatWants, LineWants, ShowsNameKept, ShowsKept}
use Rattle.itpg_session.proofs.Answering.{replies_read, shows_answers, nears_answers, may_name}
use Rattle.itpg_session.proofs.Nearby.{near_declared}
use Rattle.itpg_session.proofs.Plain.{plain_at, plain_watched, fresh_plain}
use Rattle.source_rows.specs.Follows.{Follow}
use Rattle.itpg_pins.specs.Pins.{Held}
use Rattle.itpg_session.specs.Machine.{stood}
use Rattle.itpg_session.proofs.Replying.{declared}
use Rattle.itpg_session.proofs.Told.{decides_as, rows_seen}

-- the turns of what a line is are the line's
pub line_turn : (limit : ℕ) (m : Machine) (Is : Result Reading TextCode → Type 0) (what : Result Reading TextCode) → Is what → (t : Turn) → TurnOf limit m what t → Replies limit m Is t
line_turn limit m Is what is t a = record { what = what; line_of = is; turn = a }

-- and what it wants, the line wants
pub line_wants : (m : Machine) (Is : Result Reading TextCode → Type 0) (what : Result Reading TextCode) → Is what → WhatWants m what → LineWants m Is
line_wants m Is (Ok reading) is wants = (reading, is, wants)
line_wants m Is (Err code) is wants = absurd wants

pub line_decides : {E : Type 0} (Is : Result Reading TextCode → Type 0) (what : Result Reading TextCode) (old new : Standing) (result : Result ReplyValue E) → Is what
    → Decides (TurnOf old.limit old.machine what) (WhatWants old.machine what) old new result → Decides (Replies old.limit old.machine Is) (LineWants old.machine Is) old new result
line_decides Is what old new result is d = decides_as old new (line_turn old.limit old.machine Is what is) (line_wants old.machine Is what is) result d

-- ---- a watch that is fresh

-- to mark it again changes nothing
marked_again : (ws : List PlainWatch) (place : ℕ) (w : PlainWatch) → slice_get ws place ≡ Some w → w.fresh ≡ true → marked_at place true ws ≡ ws
marked_again [] place w at fresh = refl
marked_again (v ∷ ws) zero w at fresh =
    let same : v ≡ w = cc in
    let marked : v.fresh ≡ true = ap (λ (u : PlainWatch). u.fresh) same ∙ fresh in
    ap (λ (b : Bool). let u : PlainWatch = record { name = v.name; query = v.query; base = v.base; fresh = b } in u ∷ ws) (sym marked)
marked_again (v ∷ ws) (suc place) w at fresh = ap (λ (us : List PlainWatch). v ∷ us) (marked_again ws place w at fresh)

-- what is found for a watch has rows of declared objects alone
pub shown_declared : (g : Graph) (limit : ℕ) (o : Option PlainWatch) (found : Option Answered) → IsSomeAnd o (λ w. FindsFor g limit w.query found) → IfSome found (AreDeclared (length g.objects))
shown_declared g limit o None finds = tt
shown_declared g limit None (Some answer) finds = absurd finds
shown_declared g limit (Some w) (Some answer) finds = declared g w.query.path w.query.first w.query.last answer finds.1

-- the kept answer of a watch that stands
pub keeps_shows : (g : Graph) (limit : ℕ) (table : Table) (ws : List Watch) (ps : List Held) (fs : List Follow) (now : Standing) → stood g limit table ws ps fs ≡ now → AreWatchesRight g limit table.nodes ws → NoneOf (TickBreaks g) tick_rules
    → (name : Word) (answer : Answered) → Keeps ws name answer → ShowsNameKept now name answer
keeps_shows g limit table ws ps fs now view right begun name answer (w, among, named, is, kind) =
    let at = place_among ws w among in
    subst (λ (s : Standing). ShowsNameKept s name answer) view (record {
      unbroken = may_name (stood g limit table ws ps fs).machine name begun (λ none. none (plain_watched ws name (w, among, named)));
      place = at.0;
      watch = plain w;
      at = plain_at ws at.0 w at.1;
      named = named;
      fresh = ap is_some is;
      answers = subst (λ (o : Option Answered). IfSome o (HasAnswer g limit w.query)) is (right w among).answered;
    })

-- and where none is kept, none is shown so
pub keeps_none : (g : Graph) (limit : ℕ) (table : Table) (ws : List Watch) (ps : List Held) (fs : List Follow) (now : Standing) → stood g limit table ws ps fs ≡ now → (name : Word) → (IsFreshThere ws name → ⊥) → IsFresh now.machine.watches name → ⊥
keeps_none g limit table ws ps fs now view name none fresh = none (fresh_plain ws name (subst (λ (s : Standing). IsFresh s.machine.watches name) (sym view) fresh))

-- a line that asks for this answer, which is kept: its turn tells it, and leaves the machine
pub record KeptTurn (s : Standing) (Is : Result Reading TextCode → Type 0) (answer : Answered) : Type 0 where
  pub reply : Reply
  pub replies : Replies s.limit s.machine Is (told s.machine reply)
  pub stays : after s.machine reply ≡ s.machine
  pub text : (form : Form) (number : ℕ) → text_of form s.machine number reply ≡ rows_text form s.machine.graph number answer
  pub fine : fails reply ≡ false
  pub declared : AreDeclared (length s.machine.graph.objects) answer

named_kept : (s : Standing) (Is : Result Reading TextCode → Type 0) (name : Word) (answer : Answered) → Is (Ok (Shows name)) → ShowsNameKept s name answer → KeptTurn s Is answer
named_kept s Is name answer is k = record {
  reply = Shown k.place (Some answer);
  replies = replies_read s.limit s.machine Is (Shows name) is _ (shows_answers s.limit s.machine name _ (inr (record {
    unbroken = k.unbroken;
    place = k.place;
    watch = k.watch;
    at = k.at;
    named = k.named;
    found = Some answer;
    finds = k.answers;
    is = refl;
  })));
  text = λ form number. refl;
  fine = refl;
  stays = ap (λ (ws : List PlainWatch). let m : Machine = record s.machine { watches = ws } in m) (marked_again s.machine.watches k.place k.watch k.at k.fresh);
  declared = declared s.machine.graph (k.watch).query.path (k.watch).query.first (k.watch).query.last answer k.answers.1;
}

near_kept : (s : Standing) (Is : Result Reading TextCode → Type 0) (name id : Word) (answer : Answered) → Is (Ok (Nears name id)) → NearsKept s name id answer → KeptTurn s Is answer
near_kept s Is name id answer is k = record {
  reply = Rows answer;
  replies = replies_read s.limit s.machine Is (Nears name id) is _ (nears_answers s.limit s.machine name id _ (inr (record {
    unbroken = k.unbroken;
    place = k.place;
    follow = plain_follow k.follow;
    at = k.plain_at;
    named = k.named;
    object = k.object;
    is_object = k.is_object;
    reply = Rows answer;
    finds = k.rows;
    is = refl;
  })));
  stays = refl;
  text = λ form number. refl;
  fine = refl;
  declared = near_declared s.machine.graph s.limit (k.follow).query k.object answer k.rows;
}

pub kept_turn : (s : Standing) (Is : Result Reading TextCode → Type 0) (reading : Reading) (answer : Answered) → Is (Ok reading) → ShowsKept s reading answer → KeptTurn s Is answer
kept_turn s Is Nothing answer is k = absurd k
kept_turn s Is (Changes edit) answer is k = absurd k
kept_turn s Is (Asks text) answer is k = absurd k
kept_turn s Is (Wants wanted text) answer is k = absurd k
kept_turn s Is (Watches name text) answer is k = absurd k
kept_turn s Is (Shows name) answer is k = named_kept s Is name answer is k
kept_turn s Is (Unwatches name) answer is k = absurd k
kept_turn s Is Ticks answer is k = absurd k
kept_turn s Is (Opens name) answer is k = absurd k
kept_turn s Is (Closes name) answer is k = absurd k
kept_turn s Is (AsksIn name text) answer is k = absurd k
kept_turn s Is (Follows name text) answer is k = absurd k
kept_turn s Is (Nears name id) answer is k = near_kept s Is name id answer is k
kept_turn s Is (Unfollows name) answer is k = absurd k

pub kept_line : (s : Standing) (Is : Result Reading TextCode → Type 0) (what : Result Line TextCode) (answer : Answered) → Is (read_as what) → IsOkAnd what (λ l. ShowsKept s (reading_of l) answer) → KeptTurn s Is answer
kept_line s Is (Ok l) answer is k = kept_turn s Is (reading_of l) answer is k
kept_line s Is (Err code) answer is k = absurd k

-- what is seen of it
pub kept_sees : (s : Standing) (Is : Result Reading TextCode → Type 0) (answer : Answered) (turn : KeptTurn s Is answer) (form : Form) (number : ℕ) → Sees SeenAnswered (text_of form s.machine number turn.reply) (fails turn.reply)
kept_sees s Is answer turn form number =
    subst (λ (b : Bool). Sees SeenAnswered (text_of form s.machine number turn.reply) b) (sym turn.fine)
    (subst (λ (text : List ℕ). Sees SeenAnswered text false) (sym (turn.text form number)) (rows_seen form s.machine.graph number answer))
