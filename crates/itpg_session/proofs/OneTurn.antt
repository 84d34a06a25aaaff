-- From a good machine a line has at most one turn.
use Rattle.std.proofs.Common.{◌≡◌, ℕ, List, ◌⊎◌, inl, inr, sym, ap, ◌∙◌, subst}
use Rattle.std.specs.Prelude.{slice_get, Option, Some, Result, Ok, Err}
use Rattle.itpg_base.specs.Words.{Word}
use Rattle.itpg_base.specs.Graphs.{Graph, Good}
use Rattle.itpg_base.specs.declared.rule_code.RuleCode.{RuleCode}
use Rattle.itpg_base.specs.declared.text_code.TextCode.{TextCode}
use Rattle.itpg_edit.specs.declared.edit.Edit.{Edit}
use Rattle.itpg_edit.specs.Rules.{Breaks, Broken, NoneOf, Unbroken, rules_of}
use Rattle.itpg_edit.specs.Next.{Next}
use Rattle.itpg_edit.specs.Sites.{HasMoments, HasLabels}
use Rattle.itpg_edit.proofs.FirstOf.{first_unique, first_or_unbroken}
use Rattle.edit_reader.specs.Readings.{Reading, Nothing, Changes, Asks, Wants, Watches, Shows, Unwatches, Ticks, Opens, Closes, AsksIn, Follows, Nears, Unfollows}
use Rattle.edit_reader.specs.declared.line.Wanted.{Wanted}
use Rattle.path_ast.specs.Terms.{QueryTerm}
use Rattle.itpg_base.specs.declared.touch.Touch.{Touch}
use Rattle.itpg_base.proofs.Objects.{same_some}
use Rattle.relation_rows.specs.Answered.{Answered}
use Rattle.standing_queries.specs.Changes.{OneRest, SomeRest}
use Rattle.itpg_session.specs.PlainWatches.{PlainWatch, AreMarkedAfter}
use Rattle.itpg_session.specs.Rules.{WatchBreaks, NameBreaks, TickBreaks, OpenBreaks, PinBreaks, FollowBreaks, UnfollowBreaks, NearBreaks, watch_rules, name_rules, tick_rules, open_rules}
use Rattle.itpg_session.specs.Ticks.{Ticked}
use Rattle.itpg_session.specs.Replies.{Bad, Refused, Shown, PerWatch, FindsFor}
use Rattle.itpg_session.specs.Machine.{Machine, IsGood, Turn, Refuses, AsksText, WantsText, WatchesText, WatchesQuery, AddsWatch, ShowsWatch, DropsWatch, TicksAll, OpensPin, ClosesPin, AsksPin, AsksPinQuery, AsksPinText, FollowsText, FollowsQuery, AddsFollow, DropsFollow, TellsNear, Answers, TurnOf, Replies, told, quiet_turn}
use Rattle.row_printer.specs.declared.form.Form.{Form}
use Rattle.itpg_session.specs.Lines.{LineIs}
use Rattle.itpg_session.specs.MachineLaws.{OneReply}
use Rattle.itpg_session.proofs.Lines.{LineLaws, one_line}
use Rattle.itpg_session.proofs.PinTurns.{one_asked_pin}
use Rattle.itpg_session.proofs.Nearby.{NearLaws}
use Rattle.itpg_session.proofs.FollowTurns.{one_near, one_follow_query}
use Rattle.itpg_session.proofs.Replying.{TextLaws, one_asked, one_finding}
use Rattle.itpg_session.proofs.WantedReplies.{one_wanted}
use Rattle.standing_queries.proofs.Named.{one_place}
use Rattle.itpg_session.proofs.Marks.{one_marked}
use Rattle.itpg_session.proofs.OneTouch.{one_touch}
use Rattle.itpg_session.proofs.Changing.{one_tick}

one_refusal : (m : Machine) (broken : RuleCode → Type 0) (rules : List RuleCode) (x y : Turn) → Refuses m broken rules x → Refuses m broken rules y → x ≡ y
one_refusal m broken rules x y a b = a.is ∙ ap (λ (r : RuleCode). told m (Refused r)) (first_unique broken rules a.rule b.rule a.first b.first) ∙ sym b.is

-- the laws of lines, of query texts, of edits and of what changes
pub record Below : Type 0 where
  pub lines : LineLaws
  pub rules : (g : Graph) (edit : Edit) → Good g → ((rule : RuleCode) × Broken g edit rule) ⊎ Unbroken g edit
  pub good_next : (g new : Graph) (edit : Edit) → Good g → HasMoments edit → HasLabels edit → Unbroken g edit → Next g edit new → Good new
  pub one_next : (g x y : Graph) (edit : Edit) → Good g → Next g edit x → Next g edit y → x ≡ y
  pub some_next : (g : Graph) (edit : Edit) → Good g → Unbroken g edit → (new : Graph) × Next g edit new
  pub texts : TextLaws
  pub near : NearLaws
  pub one_rest : OneRest
  pub some_rest : SomeRest

module _ (below : Below) (limit : ℕ) (m : Machine) (good : IsGood m) where
  one_ask : (text : List ℕ) (x y : Turn) → AsksText limit m text x → AsksText limit m text y → x ≡ y
  one_ask text x y a b = a.is ∙ ap (told m) (one_asked below.texts m.graph limit text a.reply b.reply a.replies b.replies) ∙ sym b.is

  one_wants : (wanted : Wanted) (text : List ℕ) (x y : Turn) → WantsText limit m wanted text x → WantsText limit m wanted text y → x ≡ y
  one_wants wanted text x y a b = a.is ∙ ap (told m) (one_wanted below.texts m.graph limit wanted text a.reply b.reply a.replies b.replies) ∙ sym b.is

  -- a turn is a refusal or another, and not both
  one_of : (broken : RuleCode → Type 0) (rules : List RuleCode) (Other : Turn → Type 0) → ((t : Turn) → Other t → NoneOf broken rules) → ((x y : Turn) → Other x → Other y → x ≡ y)
      → (x y : Turn) → Refuses m broken rules x ⊎ Other x → Refuses m broken rules y ⊎ Other y → x ≡ y
  one_of broken rules Other none one x y (inl a) (inl b) = one_refusal m broken rules x y a b
  one_of broken rules Other none one x y (inl a) (inr b) = absurd (first_or_unbroken broken rules a.rule a.first (none y b))
  one_of broken rules Other none one x y (inr a) (inl b) = absurd (first_or_unbroken broken rules b.rule b.first (none x a))
  one_of broken rules Other none one x y (inr a) (inr b) = one x y a b

  one_watched : (name : Word) (q : QueryTerm) (x y : Turn) → WatchesQuery m name q x → WatchesQuery m name q y → x ≡ y
  one_watched name q x y a b = one_of (WatchBreaks m.graph m.watches name q) watch_rules (AddsWatch m name q) (λ t h. h.unbroken) (λ v w h k. h.is ∙ sym k.is) x y a b

  one_watch : (name : Word) (text : List ℕ) (x y : Turn) → WatchesText m name text x → WatchesText m name text y → x ≡ y
  one_watch name text x y (inl (c, f, e)) (inl (d, h, k)) = e ∙ ap (λ (c : TextCode). told m (Bad c)) (below.texts.one_fault text c d f h) ∙ sym k
  one_watch name text x y (inl (c, f, e)) (inr (q, s, b)) = absurd (below.texts.apart text q c s f)
  one_watch name text x y (inr (p, r, a)) (inl (d, h, k)) = absurd (below.texts.apart text p d r h)
  one_watch name text x y (inr (p, r, a)) (inr (q, s, b)) = one_watched name q x y (subst (λ (q : QueryTerm). WatchesQuery m name q x) (below.texts.one_query text p q r s) a) b

  one_shown : (name : Word) (x y : Turn) → ShowsWatch limit m name x → ShowsWatch limit m name y → x ≡ y
  one_shown name x y a b =
      let place : a.place ≡ b.place = one_place (λ (w : PlainWatch). w.name) m.watches a.place b.place a.watch b.watch good.differ a.at b.at (a.named ∙ sym b.named) in
      let at : slice_get m.watches b.place ≡ Some a.watch = subst (λ (i : ℕ). slice_get m.watches i ≡ Some a.watch) place a.at in
      let watch : a.watch ≡ b.watch = same_some a.watch b.watch (slice_get m.watches b.place) at b.at in
      let finds = subst (λ (w : PlainWatch). FindsFor m.graph limit w.query a.found) watch a.finds in
      let found : a.found ≡ b.found = one_finding m.graph limit (b.watch).query a.found b.found finds b.finds in
      a.is ∙ ap (λ (i : ℕ). told m (Shown i a.found)) place ∙ ap (λ (f : Option Answered). told m (Shown b.place f)) found ∙ sym b.is

  one_ticked : (x y : Turn) → TicksAll limit m x → TicksAll limit m y → x ≡ y
  one_ticked x y a b = a.is ∙ ap (λ (f : List Ticked). told m (PerWatch f)) (one_tick m.graph limit below.one_rest m.watches a.found b.found a.finds b.finds) ∙ sym b.is

  one_change : (edit : Edit) (x y : Turn) → Answers limit m (Changes edit) x → Answers limit m (Changes edit) y → x ≡ y
  unfolding Answers
  one_change edit x y (inl a) (inl b) = one_refusal m (Breaks m.graph edit) (rules_of edit) x y a b
  one_change edit x y (inl a) (inr b) = absurd (first_or_unbroken (Breaks m.graph edit) (rules_of edit) a.rule a.first b.makes.unbroken)
  one_change edit x y (inr a) (inl b) = absurd (first_or_unbroken (Breaks m.graph edit) (rules_of edit) b.rule b.first a.makes.unbroken)
  one_change edit x y (inr a) (inr b) =
      let touch : a.touch ≡ b.touch = one_touch m.graph edit good.graph a.touch b.touch a.makes.touches b.makes.touches in
      let marked = subst (λ (t : Touch). AreMarkedAfter t m.watches a.watches) touch a.marked in
      a.is
      ∙ ap (λ (g : Graph). let n : Machine = record m { graph = g; watches = a.watches } in quiet_turn n) (below.one_next m.graph a.graph b.graph edit good.graph a.makes.next b.makes.next)
      ∙ ap (λ (ws : List PlainWatch). let n : Machine = record m { graph = b.graph; watches = ws } in quiet_turn n) (one_marked b.touch m.watches a.watches b.watches marked b.marked)
      ∙ sym b.is

  one_pin_query : (name : Word) (q : QueryTerm) (x y : Turn) → AsksPinQuery limit m name q x → AsksPinQuery limit m name q y → x ≡ y
  one_pin_query name q x y a b = one_of (PinBreaks m.graph m.pins name) name_rules (AsksPin limit m name q) (λ t h. h.unbroken) (one_asked_pin limit m good name q) x y a b

  one_pin_text : (name : Word) (text : List ℕ) (x y : Turn) → AsksPinText limit m name text x → AsksPinText limit m name text y → x ≡ y
  one_pin_text name text x y (inl (c, f, e)) (inl (d, h, k)) = e ∙ ap (λ (c : TextCode). told m (Bad c)) (below.texts.one_fault text c d f h) ∙ sym k
  one_pin_text name text x y (inl (c, f, e)) (inr (q, s, b)) = absurd (below.texts.apart text q c s f)
  one_pin_text name text x y (inr (p, r, a)) (inl (d, h, k)) = absurd (below.texts.apart text p d r h)
  one_pin_text name text x y (inr (p, r, a)) (inr (q, s, b)) = one_pin_query name q x y (subst (λ (q : QueryTerm). AsksPinQuery limit m name q x) (below.texts.one_query text p q r s) a) b

  one_follow_text : (name : Word) (text : List ℕ) (x y : Turn) → FollowsText m name text x → FollowsText m name text y → x ≡ y
  one_follow_text name text x y (inl (c, f, e)) (inl (d, h, k)) = e ∙ ap (λ (c : TextCode). told m (Bad c)) (below.texts.one_fault text c d f h) ∙ sym k
  one_follow_text name text x y (inl (c, f, e)) (inr (q, s, b)) = absurd (below.texts.apart text q c s f)
  one_follow_text name text x y (inr (p, r, a)) (inl (d, h, k)) = absurd (below.texts.apart text p d r h)
  one_follow_text name text x y (inr (p, r, a)) (inr (q, s, b)) =
      one_follow_query m name (λ n u v c d. one_of (FollowBreaks m.graph m.follows name n) watch_rules (AddsFollow m name n) (λ t h. h.unbroken) (λ i j h k. h.is ∙ sym k.is) u v c d)
      q x y (subst (λ (n : QueryTerm). FollowsQuery m name n x) (below.texts.one_query text p q r s) a) b

  one_answer : (reading : Reading) (x y : Turn) → Answers limit m reading x → Answers limit m reading y → x ≡ y
  unfolding Answers
  one_answer Nothing x y a b = a ∙ sym b
  one_answer (Changes edit) x y a b = one_change edit x y a b
  one_answer (Asks text) x y a b = one_ask text x y a b
  one_answer (Wants wanted text) x y a b = one_wants wanted text x y a b
  one_answer (Watches name text) x y a b = one_watch name text x y a b
  one_answer (Shows name) x y a b = one_of (NameBreaks m.graph m.watches name) name_rules (ShowsWatch limit m name) (λ t h. h.unbroken) (one_shown name) x y a b
  one_answer (Unwatches name) x y a b = one_of (NameBreaks m.graph m.watches name) name_rules (DropsWatch m name) (λ t h. h.unbroken) (λ v w h k. h.is ∙ sym k.is) x y a b
  one_answer Ticks x y a b = one_of (TickBreaks m.graph) tick_rules (TicksAll limit m) (λ t h. h.unbroken) one_ticked x y a b
  one_answer (Opens name) x y a b = one_of (OpenBreaks m.graph m.pins name) open_rules (OpensPin m name) (λ t h. h.unbroken) (λ v w h k. h.is ∙ sym k.is) x y a b
  one_answer (Closes name) x y a b = one_of (PinBreaks m.graph m.pins name) name_rules (ClosesPin m name) (λ t h. h.unbroken) (λ v w h k. h.is ∙ sym k.is) x y a b
  one_answer (AsksIn name text) x y a b = one_pin_text name text x y a b
  one_answer (Follows name text) x y a b = one_follow_text name text x y a b
  one_answer (Nears name id) x y a b = one_of (NearBreaks m.graph m.follows name id) name_rules (TellsNear limit m name id) (λ t h. h.unbroken) (one_near limit m good name below.near id) x y a b
  one_answer (Unfollows name) x y a b = one_of (UnfollowBreaks m.graph m.follows name) name_rules (DropsFollow m name) (λ t h. h.unbroken) (λ v w h k. h.is ∙ sym k.is) x y a b

  one_turn : (what : Result Reading TextCode) (x y : Turn) → TurnOf limit m what x → TurnOf limit m what y → x ≡ y
  unfolding TurnOf
  one_turn (Ok reading) x y a b = one_answer reading x y a b
  one_turn (Err code) x y a b = a ∙ sym b

  pub one_reply_of : (form : Form) (line : List ℕ) (x y : Turn) → Replies limit m (LineIs form line) x → Replies limit m (LineIs form line) y → x ≡ y
  one_reply_of form line x y a b = one_turn b.what x y (subst (λ w. TurnOf limit m w x) (one_line below.lines form line a.what b.what a.line_of b.line_of) a.turn) b.turn

pub one_reply : Below → OneReply
one_reply below limit m form line x y good = one_reply_of below limit m good form line x y
