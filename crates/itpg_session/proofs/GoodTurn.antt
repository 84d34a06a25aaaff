-- Each turn of a line from a good machine leaves a good machine.
use Rattle.std.proofs.Common.{◌≡◌, ℕ, List, ◌⊎◌, inl, inr, refl, sym, ap, ◌∙◌, subst}
use Rattle.std.specs.Prelude.{is_some, IsTrue, Result, Ok, Err}
use Rattle.itpg_base.specs.Words.{Word}
use Rattle.itpg_base.specs.Graphs.{Graph, Good}
use Rattle.itpg_base.specs.declared.rule_code.RuleCode.{RuleCode}
use Rattle.itpg_base.specs.declared.text_code.TextCode.{TextCode}
use Rattle.itpg_edit.specs.declared.edit.Edit.{Edit}
use Rattle.itpg_edit.specs.Rules.{Breaks, rules_of}
use Rattle.itpg_edit.specs.Sites.{HasMoments, HasLabels}
use Rattle.edit_reader.specs.Readings.{Reading, Nothing, Changes, Asks, Wants, Watches, Shows, Unwatches, Ticks, Opens, Closes, AsksIn, Follows, Nears, Unfollows}
use Rattle.edit_reader.specs.Moments.{AsksOfMoments, AsksForLabels}
use Rattle.edit_reader.specs.Names.{is_word, HasNewWord, AsksForWords}
use Rattle.match_parser.specs.Reading.{Reads}
use Rattle.match_parser.proofs.InRange.{asks_for_one}
use Rattle.path_ast.specs.Terms.{QueryTerm}
use Rattle.standing_queries.specs.Watches.{IsOfKind}
use Rattle.itpg_session.specs.PlainWatches.{PlainWatch, IsWatched, new_watch, marked_at}
use Rattle.itpg_session.specs.Rules.{WatchBreaks, NameBreaks, TickBreaks, OpenBreaks, PinBreaks, FollowBreaks, UnfollowBreaks, NearBreaks, watch_rules, name_rules, tick_rules, open_rules}
use Rattle.itpg_session.specs.Watching.{AsksForOne}
use Rattle.itpg_session.specs.Replies.{Reply, Silent, Bad, Refused, Wide, Rows, Counted, Shown, OfPin, PerWatch, IsReply}
use Rattle.itpg_session.specs.Machine.{Machine, HasWords, IsGood, Turn, Refuses, AsksText, WatchesText, AddsWatch, ShowsWatch, DropsWatch, TicksAll, OpensPin, ClosesPin, FollowsText, AddsFollow, DropsFollow, TellsNear, Answers, TurnOf, Replies, after}
use Rattle.row_printer.specs.declared.form.Form.{Form}
use Rattle.itpg_session.specs.Lines.{LineIs}
use Rattle.itpg_session.specs.MachineLaws.{GoodReply}
use Rattle.itpg_session.proofs.Lines.{line_moments, line_labels, line_words}
use Rattle.itpg_session.proofs.Words.{next_words}
use Rattle.itpg_session.proofs.PinTurns.{of_pin_after, good_opened, good_closed}
use Rattle.itpg_session.proofs.FollowTurns.{near_after, good_followed, good_unfollowed}
use Rattle.itpg_session.proofs.WantedReplies.{each_wanted}
use Rattle.standing_queries.proofs.Named.{more_ordered}
use Rattle.itpg_session.proofs.NamedLists.{left_among, left_ordered}
use Rattle.itpg_session.proofs.Watching.{kind_at_first, each_added}
use Rattle.itpg_session.proofs.Marks.{AreRemarked, remarked_at, remarked_after, differ_remarked, each_remarked}
use Rattle.itpg_session.proofs.TickSteps.{among_moved, differ_moved}
use Rattle.itpg_session.proofs.Changing.{kinds_moved}
use Rattle.itpg_session.proofs.OneTurn.{Below}

module _ (below : Below) (limit : ℕ) (m : Machine) (good : IsGood m) where
  -- a refusal, and the line of a fault, leave the machine
  same_good : (t : Turn) → m ≡ t.next → IsGood t.next
  same_good t is = subst IsGood is good

  good_refusal : (broken : RuleCode → Type 0) (rules : List RuleCode) (t : Turn) → Refuses m broken rules t → IsGood t.next
  good_refusal broken rules t a = same_good t (sym (ap (λ (u : Turn). u.next) a.is))

  -- a reply to a text leaves it too
  asked_after : (text : List ℕ) (reply : Reply) → IsReply m.graph limit text reply → m ≡ after m reply
  asked_after text Silent a = refl
  asked_after text (Bad code) a = refl
  asked_after text (Refused rule) a = refl
  asked_after text Wide a = refl
  asked_after text (Rows answer) a = refl
  asked_after text (Counted counts) a = refl
  asked_after text (Shown place found) (q, reads, a) = absurd a.1
  asked_after text (OfPin place answer) (q, reads, a) = absurd a.1
  asked_after text (PerWatch found) (q, reads, a) = absurd a.1

  good_ask : (text : List ℕ) (t : Turn) → AsksText limit m text t → IsGood t.next
  good_ask text t a = same_good t (asked_after text a.reply a.replies ∙ sym (ap (λ (u : Turn). u.next) a.is))

  -- another watch
  good_added : (name : Word) (text : List ℕ) (q : QueryTerm) (t : Turn) → IsTrue (is_word name) → Reads text q → AddsWatch m name q t → IsGood t.next
  good_added name text q t word reads a =
      let free : IsWatched m.watches name → ⊥ = a.unbroken.1.1.0 in
      subst (λ (u : Turn). IsGood u.next) (sym a.is) (record {
        graph = good.graph;
        differ = more_ordered (λ (w : PlainWatch). w.name) m.watches (new_watch name q) good.differ (λ w a e. free (w, a, e));
        asks = each_added (λ (w : PlainWatch). AsksForOne w.query) m.watches (new_watch name q) good.asks (asks_for_one text q reads);
        kinds = each_added (λ (w : PlainWatch). IsOfKind w.query w.base) m.watches (new_watch name q) good.kinds (kind_at_first q);
        pins = good.pins;
        follows = good.follows;
        words = record { objects = good.words.objects; watches = each_added (λ (w : PlainWatch). IsTrue (is_word w.name)) m.watches (new_watch name q) good.words.watches word; pins = good.words.pins; follows = good.words.follows };
      })

  good_watch : (name : Word) (text : List ℕ) (t : Turn) → IsTrue (is_word name) → WatchesText m name text t → IsGood t.next
  good_watch name text t word (inl (c, f, e)) = same_good t (sym (ap (λ (u : Turn). u.next) e))
  good_watch name text t word (inr (q, s, inl b)) = good_refusal (WatchBreaks m.graph m.watches name q) watch_rules t b
  good_watch name text t word (inr (q, s, inr b)) = good_added name text q t word s b

  -- other marks
  good_marks : (g : Graph) (ws : List PlainWatch) → Good g → HasWords g → AreRemarked m.watches ws → IsGood (record m { graph = g; watches = ws })
  good_marks g ws graph words same = record {
    graph = graph;
    differ = differ_remarked m.watches ws same good.differ;
    asks = each_remarked (λ (w : PlainWatch). AsksForOne w.query) (λ w mark h. h) m.watches ws same good.asks;
    kinds = each_remarked (λ (w : PlainWatch). IsOfKind w.query w.base) (λ w mark h. h) m.watches ws same good.kinds;
    pins = good.pins;
    follows = good.follows;
    words = record { objects = words; watches = each_remarked (λ (w : PlainWatch). IsTrue (is_word w.name)) (λ w mark h. h) m.watches ws same good.words.watches; pins = good.words.pins; follows = good.words.follows };
  }

  good_change : (edit : Edit) (t : Turn) → HasMoments edit → HasLabels edit → HasNewWord edit → Answers limit m (Changes edit) t → IsGood t.next
  unfolding Answers
  good_change edit t moments labels word (inl a) = good_refusal (Breaks m.graph edit) (rules_of edit) t a
  good_change edit t moments labels word (inr a) = subst (λ (u : Turn). IsGood u.next) (sym a.is)
      (good_marks a.graph a.watches (below.good_next m.graph a.graph edit good.graph moments labels a.makes.unbroken a.makes.next) (next_words m.graph a.graph edit a.makes.next word good.words.objects) (remarked_after a.touch m.watches a.watches a.marked))

  good_shown : (name : Word) (t : Turn) → ShowsWatch limit m name t → IsGood t.next
  good_shown name t a = subst (λ (u : Turn). IsGood u.next) (sym a.is)
      (good_marks m.graph (marked_at a.place (is_some a.found) m.watches) good.graph good.words.objects (remarked_at a.place (is_some a.found) m.watches))

  -- a watch less
  good_dropped : (name : Word) (t : Turn) → DropsWatch m name t → IsGood t.next
  good_dropped name t a = subst (λ (u : Turn). IsGood u.next) (sym a.is) (record {
    graph = good.graph;
    differ = left_ordered (λ (w : PlainWatch). w.name) name m.watches good.differ;
    asks = λ w h. good.asks w (left_among (λ (w : PlainWatch). w.name) name m.watches w h);
    kinds = λ w h. good.kinds w (left_among (λ (w : PlainWatch). w.name) name m.watches w h);
    pins = good.pins;
    follows = good.follows;
    words = record { objects = good.words.objects; watches = λ w h. good.words.watches w (left_among (λ (w : PlainWatch). w.name) name m.watches w h); pins = good.words.pins; follows = good.words.follows };
  })

  -- other bases
  good_ticked : (t : Turn) → TicksAll limit m t → IsGood t.next
  good_ticked t a = subst (λ (u : Turn). IsGood u.next) (sym a.is) (record {
    graph = good.graph;
    differ = differ_moved m.watches a.found good.differ;
    asks = λ w h. let v = among_moved m.watches a.found w h in subst AsksForOne v.3 (good.asks v.0 v.1);
    kinds = kinds_moved m.graph limit m.watches a.found a.finds good.kinds;
    pins = good.pins;
    follows = good.follows;
    words = record { objects = good.words.objects; watches = λ w h. let v = among_moved m.watches a.found w h in subst (λ (n : Word). IsTrue (is_word n)) v.2 (good.words.watches v.0 v.1); pins = good.words.pins; follows = good.words.follows };
  })

  good_of : (broken : RuleCode → Type 0) (rules : List RuleCode) (Other : Turn → Type 0) → ((t : Turn) → Other t → IsGood t.next) → (t : Turn) → Refuses m broken rules t ⊎ Other t → IsGood t.next
  good_of broken rules Other other t (inl a) = good_refusal broken rules t a
  good_of broken rules Other other t (inr b) = other t b

  good_follow : (name : Word) (text : List ℕ) (t : Turn) → IsTrue (is_word name) → FollowsText m name text t → IsGood t.next
  good_follow name text t word (inl (c, f, e)) = same_good t (sym (ap (λ (u : Turn). u.next) e))
  good_follow name text t word (inr (q, s, inl b)) = same_good t (sym (ap (λ (u : Turn). u.next) b.1))
  good_follow name text t word (inr (q, s, inr (both, b))) = good_of (FollowBreaks m.graph m.follows name q) watch_rules (AddsFollow m name q) (good_followed limit m good name word q) t b

  good_near : (name id : Word) (t : Turn) → TellsNear limit m name id t → IsGood t.next
  good_near name id t a = same_good t (near_after limit m (a.follow).query a.object a.reply a.finds ∙ sym (ap (λ (u : Turn). u.next) a.is))

  good_answer : (reading : Reading) (t : Turn) → AsksOfMoments reading → AsksForLabels reading → AsksForWords reading → Answers limit m reading t → IsGood t.next
  unfolding Answers
  good_answer Nothing t moments labels words a = same_good t (sym (ap (λ (u : Turn). u.next) a))
  good_answer (Changes edit) t moments labels words a = good_change edit t moments labels words a
  good_answer (Asks text) t moments labels words a = good_ask text t a
  good_answer (Wants wanted text) t moments labels words a =
      let left : m ≡ after m a.reply = each_wanted m.graph limit (λ reply. m ≡ after m reply) (λ code. refl) (λ rule. refl) refl (λ counts. refl) (λ rows declared. refl) wanted text a.reply a.replies in
      same_good t (left ∙ sym (ap (λ (u : Turn). u.next) a.is))
  good_answer (Watches name text) t moments labels words a = good_watch name text t words a
  good_answer (Shows name) t moments labels words a = good_of (NameBreaks m.graph m.watches name) name_rules (ShowsWatch limit m name) (good_shown name) t a
  good_answer (Unwatches name) t moments labels words a = good_of (NameBreaks m.graph m.watches name) name_rules (DropsWatch m name) (good_dropped name) t a
  good_answer Ticks t moments labels words a = good_of (TickBreaks m.graph) tick_rules (TicksAll limit m) good_ticked t a
  good_answer (Opens name) t moments labels words a = good_of (OpenBreaks m.graph m.pins name) open_rules (OpensPin m name) (good_opened limit m good name words) t a
  good_answer (Closes name) t moments labels words a = good_of (PinBreaks m.graph m.pins name) name_rules (ClosesPin m name) (good_closed limit m good name) t a
  good_answer (AsksIn name text) t moments labels words (inl (code, fault, is)) = same_good t (sym (ap (λ (u : Turn). u.next) is))
  good_answer (AsksIn name text) t moments labels words (inr (q, reads, inl a)) = good_refusal (PinBreaks m.graph m.pins name) name_rules t a
  good_answer (AsksIn name text) t moments labels words (inr (q, reads, inr a)) = same_good t (of_pin_after (a.pin).graph limit q m a.place a.reply a.replies ∙ sym (ap (λ (u : Turn). u.next) a.is))
  good_answer (Follows name text) t moments labels words a = good_follow name text t words a
  good_answer (Nears name id) t moments labels words a = good_of (NearBreaks m.graph m.follows name id) name_rules (TellsNear limit m name id) (good_near name id) t a
  good_answer (Unfollows name) t moments labels words a = good_of (UnfollowBreaks m.graph m.follows name) name_rules (DropsFollow m name) (good_unfollowed limit m good name) t a

  good_turn : (what : Result Reading TextCode) (t : Turn) → ((reading : Reading) → what ≡ Ok reading → AsksOfMoments reading) → ((reading : Reading) → what ≡ Ok reading → AsksForLabels reading) → ((reading : Reading) → what ≡ Ok reading → AsksForWords reading) → TurnOf limit m what t → IsGood t.next
  unfolding TurnOf
  good_turn (Ok reading) t moments labels words a = good_answer reading t (moments reading refl) (labels reading refl) (words reading refl) a
  good_turn (Err code) t moments labels words a = same_good t (sym (ap (λ (u : Turn). u.next) a))

  pub good_reply_of : (form : Form) (line : List ℕ) (t : Turn) → Replies limit m (LineIs form line) t → IsGood t.next
  good_reply_of form line t a = good_turn a.what t
      (λ reading is. line_moments below.lines form line reading (subst (LineIs form line) is a.line_of))
      (λ reading is. line_labels below.lines form line reading (subst (LineIs form line) is a.line_of))
      (λ reading is. line_words below.lines form line reading (subst (LineIs form line) is a.line_of)) a.turn

pub good_reply : Below → GoodReply
good_reply below limit m form line t good = good_reply_of below limit m good form line t
