-- From a good machine a line has some turn.
use Rattle.std.proofs.Common.{ℕ, List, ◌⊎◌, inl, inr, refl}
use Rattle.std.specs.Prelude.{Result, Ok, Err}
use Rattle.itpg_base.specs.Words.{Word}
use Rattle.itpg_base.specs.Graphs.{Graph}
use Rattle.itpg_base.specs.declared.rule_code.RuleCode.{RuleCode}
use Rattle.itpg_base.specs.declared.text_code.TextCode.{TextCode}
use Rattle.itpg_edit.specs.declared.edit.Edit.{Edit}
use Rattle.itpg_edit.specs.Rules.{FirstOf, NoneOf}
use Rattle.itpg_edit.specs.Next.{Makes as MakesGraph}
use Rattle.edit_reader.specs.Readings.{Reading, Nothing, Changes, Asks, Wants, Watches, Shows, Unwatches, Ticks, Opens, Closes, AsksIn, Follows, Nears, Unfollows}
use Rattle.edit_reader.specs.declared.line.Wanted.{Wanted}
use Rattle.match_parser.proofs.InRange.{asks_for_one}
use Rattle.itpg_base.specs.declared.touch.Touch.{Touch}
use Rattle.itpg_session.specs.Rules.{WatchBreaks, NameBreaks, TickBreaks, OpenBreaks, PinBreaks, FollowBreaks, UnfollowBreaks, NearBreaks, watch_rules, name_rules, tick_rules, open_rules}
use Rattle.itpg_session.specs.Replies.{Bad, Refused, Shown, PerWatch}
use Rattle.itpg_session.specs.Machine.{Machine, IsGood, Turn, Refuses, AsksText, WantsText, WatchesText, AddsWatch, ShowsWatch, DropsWatch, TicksAll, OpensPin, ClosesPin, AsksPin, AsksPinText, FollowsText, AddsFollow, DropsFollow, TellsNear, Answers, Replies, told, quiet_turn}
use Rattle.row_printer.specs.declared.form.Form.{Form}
use Rattle.itpg_session.specs.Lines.{LineIs}
use Rattle.itpg_session.specs.MachineLaws.{SomeReply}
use Rattle.itpg_session.proofs.Lines.{some_line}
use Rattle.itpg_session.proofs.Decided.{first_or_none, decide_watch, decide_named, decide_tick, decide_open, decide_pin, some_watch}
use Rattle.itpg_session.proofs.PinTurns.{some_asked_pin}
use Rattle.itpg_session.proofs.FollowTurns.{decide_follow, decide_unfollow, decide_near, some_near, some_follow_query}
use Rattle.itpg_session.proofs.Replying.{some_asked, some_finding}
use Rattle.itpg_session.proofs.WantedReplies.{some_wanted}
use Rattle.standing_queries.proofs.Named.{place_among}
use Rattle.itpg_session.proofs.Marks.{some_marked}
use Rattle.itpg_session.proofs.OneTouch.{some_touch}
use Rattle.itpg_session.proofs.Changing.{some_tick}
use Rattle.itpg_session.proofs.Answering.{replies_read, replies_bad, blank_answers, asks_answers, asked_asks, wants_answers, watches_answers, watch_bad, watch_read, shows_answers, unwatches_answers, ticks_answers, opens_answers, closes_answers, asks_in_answers, follows_answers, nears_answers, unfollows_answers, pin_bad, pin_read, edit_refused, refusal}
use Rattle.itpg_session.proofs.OneTurn.{Below}

module _ (below : Below) (limit : ℕ) (m : Machine) (good : IsGood m) where
  some_ask : (text : List ℕ) → (t : Turn) × AsksText limit m text t
  some_ask text = let r = some_asked below.texts m.graph limit text in (told m r.0, asked_asks limit m text r.0 r.1 _ refl)

  some_wants : (wanted : Wanted) (text : List ℕ) → (t : Turn) × WantsText limit m wanted text t
  some_wants wanted text = let r = some_wanted below.texts m.graph limit wanted text in (told m r.0, record { reply = r.0; replies = r.1; is = refl })

  -- the first rule that is broken, or another turn where none is
  some_of : (broken : RuleCode → Type 0) (rules : List RuleCode) (Other : Turn → Type 0) → ((rule : RuleCode) × FirstOf broken rules rule) ⊎ NoneOf broken rules → (NoneOf broken rules → (t : Turn) × Other t) → (t : Turn) × (Refuses m broken rules t ⊎ Other t)
  some_of broken rules Other (inl f) other = (told m (Refused f.0), refusal m broken rules Other f.0 f.1 _ refl)
  some_of broken rules Other (inr none) other = let t = other none in (t.0, inr t.1)

  some_watched : (name : Word) (text : List ℕ) → (t : Turn) × WatchesText m name text t
  some_watched name text = elim (below.texts.some_query text) [
    | inl s ↦ let t = some_of (WatchBreaks m.graph m.watches name s.0) watch_rules (AddsWatch m name s.0) (first_or_none (WatchBreaks m.graph m.watches name s.0) (decide_watch m.graph m.watches name s.0) watch_rules)
        (λ none. (_, record { unbroken = none; is = refl })) in (t.0, watch_read m name text s.0 s.1 t.0 t.1)
    | inr f ↦ (told m (Bad f.0), watch_bad m name text f.0 f.1 _ refl)
  ]

  some_shown : (name : Word) → NoneOf (NameBreaks m.graph m.watches name) name_rules → (t : Turn) × ShowsWatch limit m name t
  some_shown name none =
      let w = some_watch m.watches name none.1.0 in
      let place = place_among m.watches w.0 w.1 in
      let f = some_finding m.graph limit (w.0).query (good.asks w.0 w.1) in
      (told m (Shown place.0 f.0), record { unbroken = none; place = place.0; watch = w.0; at = place.1; named = w.2; found = f.0; finds = f.1; is = refl })

  some_ticked : NoneOf (TickBreaks m.graph) tick_rules → (t : Turn) × TicksAll limit m t
  some_ticked none = let f = some_tick m.graph limit below.some_rest m.watches good.asks good.kinds in (told m (PerWatch f.0), record { unbroken = none; found = f.0; finds = f.1; is = refl })

  some_made : (edit : Edit) (g : Graph) (touch : Touch) → MakesGraph m.graph edit g touch → (t : Turn) × Answers limit m (Changes edit) t
  unfolding Answers
  some_made edit g touch makes =
      let marked = some_marked touch m.watches in
      (_, inr (record { graph = g; touch = touch; makes = makes; watches = marked.0; marked = marked.1; is = refl }))

  some_change : (edit : Edit) → (t : Turn) × Answers limit m (Changes edit) t
  some_change edit = elim (below.rules m.graph edit good.graph) [
    | inl f ↦ (told m (Refused f.0), edit_refused limit m edit f.0 f.1 _ refl)
    | inr u ↦ let n = below.some_next m.graph edit good.graph u in let touch = some_touch m.graph n.0 edit n.1 in some_made edit n.0 touch.0 (record { unbroken = u; next = n.1; touches = touch.1 })
  ]

  some_pin_text : (name : Word) (text : List ℕ) → (t : Turn) × AsksPinText limit m name text t
  some_pin_text name text = elim (below.texts.some_query text) [
    | inl s ↦ let t = some_of (PinBreaks m.graph m.pins name) name_rules (AsksPin limit m name s.0) (first_or_none (PinBreaks m.graph m.pins name) (decide_pin m.graph m.pins name) name_rules)
        (some_asked_pin limit m good name s.0 (asks_for_one text s.0 s.1)) in (t.0, pin_read limit m name text s.0 s.1 t.0 t.1)
    | inr f ↦ (told m (Bad f.0), pin_bad limit m name text f.0 f.1 _ refl)
  ]

  some_follow_text : (name : Word) (text : List ℕ) → (t : Turn) × FollowsText m name text t
  some_follow_text name text = elim (below.texts.some_query text) [
    | inl s ↦ let t = some_follow_query m name (λ q. some_of (FollowBreaks m.graph m.follows name q) watch_rules (AddsFollow m name q) (first_or_none (FollowBreaks m.graph m.follows name q) (decide_follow m.graph m.follows name q) watch_rules)
        (λ none. (_, record { unbroken = none; is = refl }))) s.0 in (t.0, inr (s.0, s.1, t.1))
    | inr f ↦ (told m (Bad f.0), inl (f.0, f.1, refl))
  ]

  some_answer : (reading : Reading) → (t : Turn) × Answers limit m reading t
  some_answer Nothing = (quiet_turn m, blank_answers limit m)
  some_answer (Changes edit) = some_change edit
  some_answer (Asks text) = let t = some_ask text in (t.0, asks_answers limit m text t.0 t.1)
  some_answer (Wants wanted text) = let t = some_wants wanted text in (t.0, wants_answers limit m wanted text t.0 t.1)
  some_answer (Watches name text) = let t = some_watched name text in (t.0, watches_answers limit m name text t.0 t.1)
  some_answer (Shows name) =
      let t = some_of (NameBreaks m.graph m.watches name) name_rules (ShowsWatch limit m name) (first_or_none (NameBreaks m.graph m.watches name) (decide_named m.graph m.watches name) name_rules) (some_shown name) in
      (t.0, shows_answers limit m name t.0 t.1)
  some_answer (Unwatches name) =
      let t = some_of (NameBreaks m.graph m.watches name) name_rules (DropsWatch m name) (first_or_none (NameBreaks m.graph m.watches name) (decide_named m.graph m.watches name) name_rules) (λ none. (_, record { unbroken = none; is = refl })) in
      (t.0, unwatches_answers limit m name t.0 t.1)
  some_answer Ticks =
      let t = some_of (TickBreaks m.graph) tick_rules (TicksAll limit m) (first_or_none (TickBreaks m.graph) (decide_tick m.graph) tick_rules) some_ticked in
      (t.0, ticks_answers limit m t.0 t.1)
  some_answer (Opens name) =
      let t = some_of (OpenBreaks m.graph m.pins name) open_rules (OpensPin m name) (first_or_none (OpenBreaks m.graph m.pins name) (decide_open m.graph m.pins name) open_rules) (λ none. (_, record { unbroken = none; is = refl })) in
      (t.0, opens_answers limit m name t.0 t.1)
  some_answer (Closes name) =
      let t = some_of (PinBreaks m.graph m.pins name) name_rules (ClosesPin m name) (first_or_none (PinBreaks m.graph m.pins name) (decide_pin m.graph m.pins name) name_rules) (λ none. (_, record { unbroken = none; is = refl })) in
      (t.0, closes_answers limit m name t.0 t.1)
  some_answer (AsksIn name text) = let t = some_pin_text name text in (t.0, asks_in_answers limit m name text t.0 t.1)
  some_answer (Follows name text) = let t = some_follow_text name text in (t.0, follows_answers limit m name text t.0 t.1)
  some_answer (Nears name id) =
      let t = some_of (NearBreaks m.graph m.follows name id) name_rules (TellsNear limit m name id) (first_or_none (NearBreaks m.graph m.follows name id) (decide_near m.graph m.follows name id) name_rules) (some_near limit m good name below.near id) in
      (t.0, nears_answers limit m name id t.0 t.1)
  some_answer (Unfollows name) =
      let t = some_of (UnfollowBreaks m.graph m.follows name) name_rules (DropsFollow m name) (first_or_none (UnfollowBreaks m.graph m.follows name) (decide_unfollow m.graph m.follows name) name_rules) (λ none. (_, record { unbroken = none; is = refl })) in
      (t.0, unfollows_answers limit m name t.0 t.1)

  pub some_reply_of : (form : Form) (line : List ℕ) → (t : Turn) × Replies limit m (LineIs form line) t
  some_reply_of form line = by_line (some_line below.lines form line)
    where
      by_line : (result : Result Reading TextCode) × LineIs form line result → (t : Turn) × Replies limit m (LineIs form line) t
      by_line (Ok reading, is) = let t = some_answer reading in (t.0, replies_read limit m (LineIs form line) reading is t.0 t.1)
      by_line (Err code, is) = (told m (Bad code), replies_bad limit m (LineIs form line) code is _ refl)

pub some_reply : Below → SomeReply
some_reply below limit m form line good = some_reply_of below limit m good form line
