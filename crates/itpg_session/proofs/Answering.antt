-- The turns of lines, and the rules of queries, from their parts.
use Rattle.std.proofs.Common.{◌≡◌, ◌⊎◌, ℕ, ◌≤◌, length, List, [], ◌∷◌, ◌++◌, inl, inr, refl, ap}
use Rattle.std.specs.Prelude.{◌↔◌, Result, Ok, Err, take}
use Rattle.itpg_base.specs.Words.{Word}
use Rattle.itpg_base.specs.Graphs.{Graph}
use Rattle.itpg_base.specs.declared.rule_code.RuleCode.{RuleCode}
use Rattle.itpg_base.specs.declared.rule_code.RuleCode.TheVariants.{Taken, Unknown, Full}
use Rattle.itpg_base.specs.declared.text_code.TextCode.{TextCode}
use Rattle.itpg_edit.specs.declared.edit.Edit.{Edit}
use Rattle.itpg_edit.specs.Rules.{FirstOf, NoneOf, Broken}
use Rattle.itpg_base.specs.declared.touch.Touch.{Touch}
use Rattle.itpg_edit.specs.Next.{Makes as MakesGraph}
use Rattle.edit_reader.specs.Readings.{Reading, Nothing, Changes, Asks, Wants, Watches, Shows, Unwatches, Ticks, Opens, Closes, AsksIn, Follows, Nears, Unfollows}
use Rattle.edit_reader.specs.declared.line.Wanted.{Wanted}
use Rattle.path_ast.specs.Terms.{QueryTerm}
use Rattle.match_parser.specs.Reading.{Reads, FaultOf}
use Rattle.standing_queries.specs.Watches.{most_watches}
use Rattle.itpg_session.specs.PlainWatches.{PlainWatch, IsWatched, new_watch, without, AreMarkedAfter}
use Rattle.itpg_pins.specs.Pins.{most_pins}
use Rattle.itpg_session.specs.PlainPins.{Pin, IsPinned}
use Rattle.itpg_session.specs.Rules.{QueryBreaks, WatchBreaks, NameBreaks, TickBreaks, OpenBreaks, PinBreaks, ask_rules, watch_rules, name_rules, tick_rules, open_rules}
use Rattle.itpg_session.specs.Replies.{Reply, Bad, Refused, IsReply}
use Rattle.row_printer.specs.declared.form.Form.{Form}
use Rattle.itpg_session.specs.Lines.{LineIs}
use Rattle.itpg_session.specs.MachineLaws.{FrontReplies}
use Rattle.itpg_session.specs.Machine.{Machine, Turn, Refuses, AsksText, WantsText, WatchesText, WatchesQuery, AddsWatch, ShowsName, DropsWatch, DropsName, TicksOrNot, OpensName, ClosesName, AsksPinQuery, AsksPinText, FollowsText, NearsName, UnfollowsName, Answers, TurnOf, Replies, quiet_turn, told}

module _ (limit : ℕ) (m : Machine) where
  pub turn_read : (reading : Reading) (t : Turn) → Answers limit m reading t → TurnOf limit m (Ok reading) t
  unfolding TurnOf
  turn_read reading t a = a

  pub turn_bad : (code : TextCode) (t : Turn) → t ≡ told m (Bad code) → TurnOf limit m (Err code) t
  unfolding TurnOf
  turn_bad code t a = a

  pub replies_read : (Is : Result Reading TextCode → Type 0) (reading : Reading) → Is (Ok reading) → (t : Turn) → Answers limit m reading t → Replies limit m Is t
  unfolding TurnOf
  replies_read Is reading is t a = record { what = Ok reading; line_of = is; turn = a }

  pub replies_bad : (Is : Result Reading TextCode → Type 0) (code : TextCode) → Is (Err code) → (t : Turn) → t ≡ told m (Bad code) → Replies limit m Is t
  unfolding TurnOf
  replies_bad Is code is t a = record { what = Err code; line_of = is; turn = a }

  pub blank_answers : Answers limit m Nothing (quiet_turn m)
  unfolding Answers
  blank_answers = refl

  pub asks_answers : (text : List ℕ) (t : Turn) → AsksText limit m text t → Answers limit m (Asks text) t
  unfolding Answers
  asks_answers text t a = a

  pub asked_asks : (text : List ℕ) (reply : Reply) → IsReply m.graph limit text reply → (t : Turn) → t ≡ told m reply → AsksText limit m text t
  asked_asks text reply replies t is = record { reply = reply; replies = replies; is = is }

  pub wants_answers : (wanted : Wanted) (text : List ℕ) (t : Turn) → WantsText limit m wanted text t → Answers limit m (Wants wanted text) t
  unfolding Answers
  wants_answers wanted text t a = a

  pub watches_answers : (name : Word) (text : List ℕ) (t : Turn) → WatchesText m name text t → Answers limit m (Watches name text) t
  unfolding Answers
  watches_answers name text t a = a

  pub shows_answers : (name : Word) (t : Turn) → ShowsName limit m name t → Answers limit m (Shows name) t
  unfolding Answers
  shows_answers name t a = a

  pub unwatches_answers : (name : Word) (t : Turn) → DropsName m name t → Answers limit m (Unwatches name) t
  unfolding Answers
  unwatches_answers name t a = a

  pub ticks_answers : (t : Turn) → TicksOrNot limit m t → Answers limit m Ticks t
  unfolding Answers
  ticks_answers t a = a

  pub opens_answers : (name : Word) (t : Turn) → OpensName m name t → Answers limit m (Opens name) t
  unfolding Answers
  opens_answers name t a = a

  pub closes_answers : (name : Word) (t : Turn) → ClosesName m name t → Answers limit m (Closes name) t
  unfolding Answers
  closes_answers name t a = a

  pub asks_in_answers : (name : Word) (text : List ℕ) (t : Turn) → AsksPinText limit m name text t → Answers limit m (AsksIn name text) t
  unfolding Answers
  asks_in_answers name text t a = a

  pub follows_answers : (name : Word) (text : List ℕ) (t : Turn) → FollowsText m name text t → Answers limit m (Follows name text) t
  unfolding Answers
  follows_answers name text t a = a

  pub nears_answers : (name id : Word) (t : Turn) → NearsName limit m name id t → Answers limit m (Nears name id) t
  unfolding Answers
  nears_answers name id t a = a

  pub unfollows_answers : (name : Word) (t : Turn) → UnfollowsName m name t → Answers limit m (Unfollows name) t
  unfolding Answers
  unfollows_answers name t a = a

  pub pin_bad : (name : Word) (text : List ℕ) (code : TextCode) → FaultOf text code → (t : Turn) → t ≡ told m (Bad code) → AsksPinText limit m name text t
  pin_bad name text code fault t is = inl (code, fault, is)

  pub pin_read : (name : Word) (text : List ℕ) (q : QueryTerm) → Reads text q → (t : Turn) → AsksPinQuery limit m name q t → AsksPinText limit m name text t
  pin_read name text q reads t a = inr (q, reads, a)

  pub edit_refused : (edit : Edit) (rule : RuleCode) → Broken m.graph edit rule → (t : Turn) → t ≡ told m (Refused rule) → Answers limit m (Changes edit) t
  unfolding Answers
  edit_refused edit rule first t is = inl (record { rule = rule; first = first; is = is })

  pub edit_made : (edit : Edit) (g : Graph) (touch : Touch) (ws : List PlainWatch) → MakesGraph m.graph edit g touch → AreMarkedAfter touch m.watches ws
      → Answers limit m (Changes edit) (quiet_turn (record m { graph = g; watches = ws }))
  unfolding Answers
  edit_made edit g touch ws makes marked = inr (record { graph = g; touch = touch; makes = makes; watches = ws; marked = marked; is = refl })

pub refuses : (m : Machine) (broken : RuleCode → Type 0) (rules : List RuleCode) (rule : RuleCode) → FirstOf broken rules rule → (t : Turn) → t ≡ told m (Refused rule) → Refuses m broken rules t
refuses m broken rules rule first t is = record { rule = rule; first = first; is = is }

module _ (m : Machine) (name : Word) (text : List ℕ) where
  pub watch_bad : (code : TextCode) → FaultOf text code → (t : Turn) → t ≡ told m (Bad code) → WatchesText m name text t
  watch_bad code fault t is = inl (code, fault, is)

  pub watch_read : (q : QueryTerm) → Reads text q → (t : Turn) → WatchesQuery m name q t → WatchesText m name text t
  watch_read q reads t a = inr (q, reads, a)

-- a refusal among the ways of a turn
pub refusal : (m : Machine) (broken : RuleCode → Type 0) (rules : List RuleCode) (Other : Turn → Type 0) (rule : RuleCode) → FirstOf broken rules rule → (t : Turn) → t ≡ told m (Refused rule) → Refuses m broken rules t ⊎ Other t
refusal m broken rules Other rule first t is = inl (refuses m broken rules rule first t is)

module _ (m : Machine) (name : Word) where
  pub added : (q : QueryTerm) → NoneOf (WatchBreaks m.graph m.watches name q) watch_rules → (ws : List PlainWatch) → ws ≡ m.watches ++ new_watch name q ∷ [] → AddsWatch m name q (quiet_turn (record m { watches = ws }))
  added q unbroken ws is = record { unbroken = unbroken; is = ap (λ (vs : List PlainWatch). quiet_turn (record m { watches = vs })) is }

  pub dropped : NoneOf (NameBreaks m.graph m.watches name) name_rules → (ws : List PlainWatch) → ws ≡ without name m.watches → DropsWatch m name (quiet_turn (record m { watches = ws }))
  dropped unbroken ws is = record { unbroken = unbroken; is = ap (λ (vs : List PlainWatch). quiet_turn (record m { watches = vs })) is }

-- the rules of a query that is to be watched, where asking it breaks none
module _ (g : Graph) (ws : List PlainWatch) (name : Word) (q : QueryTerm) (asked : NoneOf (QueryBreaks g q) ask_rules) where
  pub may_watch : (IsWatched ws name → ⊥) → (most_watches ≤ length ws → ⊥) → NoneOf (WatchBreaks g ws name q) watch_rules
  may_watch free few = (asked.0, (asked.1.0, (free, (few, tt))))

  pub is_taken : IsWatched ws name → FirstOf (WatchBreaks g ws name q) watch_rules Taken
  is_taken taken = inr (asked.0, inr (asked.1.0, inl (taken, refl)))

  pub is_full : (IsWatched ws name → ⊥) → most_watches ≤ length ws → FirstOf (WatchBreaks g ws name q) watch_rules Full
  is_full free full = inr (asked.0, inr (asked.1.0, inr (free, inl (full, refl))))

-- the rules of a watch's name, where a graph is begun
module _ (m : Machine) (name : Word) (begun : NoneOf (TickBreaks m.graph) tick_rules) where
  pub may_name : ((IsWatched m.watches name → ⊥) → ⊥) → NoneOf (NameBreaks m.graph m.watches name) name_rules
  may_name known = (begun.0, (known, tt))

  pub is_unknown : (IsWatched m.watches name → ⊥) → FirstOf (NameBreaks m.graph m.watches name) name_rules Unknown
  is_unknown unknown = inr (begun.0, inl (unknown, refl))

-- the rules of a pin, where a graph is begun
module _ (m : Machine) (name : Word) (begun : NoneOf (TickBreaks m.graph) tick_rules) where
  pub may_open : (IsPinned m.pins name → ⊥) → (most_pins ≤ length m.pins → ⊥) → NoneOf (OpenBreaks m.graph m.pins name) open_rules
  may_open free few = (begun.0, (free, (few, tt)))

  pub is_pinned : IsPinned m.pins name → FirstOf (OpenBreaks m.graph m.pins name) open_rules Taken
  is_pinned taken = inr (begun.0, inl (taken, refl))

  pub is_full_of_pins : (IsPinned m.pins name → ⊥) → most_pins ≤ length m.pins → FirstOf (OpenBreaks m.graph m.pins name) open_rules Full
  is_full_of_pins free full = inr (begun.0, inr (free, inl (full, refl)))

-- the rules of a pin's name
module _ (g : Graph) (pins : List Pin) (name : Word) (begun : NoneOf (TickBreaks g) tick_rules) where
  pub may_pin : ((IsPinned pins name → ⊥) → ⊥) → NoneOf (PinBreaks g pins name) name_rules
  may_pin known = (begun.0, (known, tt))

  pub is_no_pin : (IsPinned pins name → ⊥) → FirstOf (PinBreaks g pins name) name_rules Unknown
  is_no_pin unknown = inr (begun.0, inl (unknown, refl))

-- a line has the turns of its front
pub front_replies : ((form : Form) (line : List ℕ) (n : ℕ) (what : Result Reading TextCode) → 65538 ≤ n → LineIs form (take n line) what ↔ LineIs form line what) → FrontReplies
front_replies law limit m form line n t long = (
  λ r. record { what = r.what; line_of = (law form line n r.what long).0 r.line_of; turn = r.turn },
  λ r. record { what = r.what; line_of = (law form line n r.what long).1 r.line_of; turn = r.turn },
)
