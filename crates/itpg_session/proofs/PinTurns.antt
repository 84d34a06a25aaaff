-- A line on pins: from a good machine it has one turn at most, and some turn where nothing forbids it; and its turns leave a good machine.
use Rattle.std.proofs.Common.{◌≡◌, ℕ, Some, refl, sym, ap, ◌∙◌, subst}
use Rattle.std.specs.Prelude.{slice_get, IsTrue}
use Rattle.itpg_base.specs.Words.{Word}
use Rattle.itpg_base.specs.Graphs.{Graph}
use Rattle.itpg_base.proofs.Objects.{same_some}
use Rattle.itpg_edit.specs.Rules.{NoneOf}
use Rattle.edit_reader.specs.Names.{is_word}
use Rattle.path_ast.specs.Terms.{QueryTerm}
use Rattle.standing_queries.proofs.Named.{place_among, one_place, more_ordered}
use Rattle.itpg_session.specs.PlainPins.{Pin, IsPinned, new_pin}
use Rattle.itpg_session.specs.Rules.{PinBreaks, name_rules}
use Rattle.itpg_session.specs.Watching.{AsksForOne}
use Rattle.itpg_session.specs.Replies.{Reply, Silent, Bad, Refused, Wide, Rows, Counted, Shown, OfPin, PerWatch, IsReplyTo, of_pin}
use Rattle.itpg_session.specs.Machine.{Machine, HasWords, IsGood, Turn, OpensPin, ClosesPin, AsksPin, after, told}
use Rattle.itpg_session.proofs.Decided.{some_pin}
use Rattle.itpg_session.proofs.Replying.{one_reply_to, some_reply_to}
use Rattle.itpg_session.proofs.NamedLists.{left_among, left_ordered}
use Rattle.itpg_session.proofs.Watching.{each_added}

-- a reply to a question that is asked of a pin leaves the machine
pub of_pin_after : (g : Graph) (limit : ℕ) (q : QueryTerm) (m : Machine) (place : ℕ) (reply : Reply) → IsReplyTo g limit q reply → m ≡ after m (of_pin place reply)
of_pin_after g limit q m place Silent a = refl
of_pin_after g limit q m place (Bad code) a = refl
of_pin_after g limit q m place (Refused rule) a = refl
of_pin_after g limit q m place Wide a = refl
of_pin_after g limit q m place (Rows answer) a = refl
of_pin_after g limit q m place (Counted counts) a = refl
of_pin_after g limit q m place (Shown i found) a = absurd a.1
of_pin_after g limit q m place (OfPin i answer) a = refl
of_pin_after g limit q m place (PerWatch found) a = absurd a.1

module _ (limit : ℕ) (m : Machine) (good : IsGood m) (name : Word) where
  -- a name stands at one place
  pub one_pin : (i j : ℕ) (p r : Pin) → slice_get m.pins i ≡ Some p → slice_get m.pins j ≡ Some r → p.name ≡ name → r.name ≡ name → i ≡ j
  one_pin i j p r a b e k = one_place (λ (x : Pin). x.name) m.pins i j p r good.pins a b (e ∙ sym k)

  pub one_asked_pin : (q : QueryTerm) (x y : Turn) → AsksPin limit m name q x → AsksPin limit m name q y → x ≡ y
  one_asked_pin q x y a b =
      let place : a.place ≡ b.place = one_pin a.place b.place a.pin b.pin a.at b.at a.named b.named in
      let at : slice_get m.pins b.place ≡ Some a.pin = subst (λ (i : ℕ). slice_get m.pins i ≡ Some a.pin) place a.at in
      let pin : a.pin ≡ b.pin = same_some a.pin b.pin (slice_get m.pins b.place) at b.at in
      let reply : a.reply ≡ b.reply = one_reply_to (b.pin).graph limit q a.reply b.reply (subst (λ (p : Pin). IsReplyTo p.graph limit q a.reply) pin a.replies) b.replies in
      a.is ∙ ap (λ (i : ℕ). told m (of_pin i a.reply)) place ∙ ap (λ (r : Reply). told m (of_pin b.place r)) reply ∙ sym b.is

  pub some_asked_pin : (q : QueryTerm) → AsksForOne q → NoneOf (PinBreaks m.graph m.pins name) name_rules → (t : Turn) × AsksPin limit m name q t
  some_asked_pin q ends none =
      let p = some_pin m.pins name none.1.0 in
      let place = place_among m.pins p.0 p.1 in
      let r = some_reply_to (p.0).graph limit q ends in
      (told m (of_pin place.0 r.0), record { unbroken = none; place = place.0; pin = p.0; at = place.1; named = p.2; reply = r.0; replies = r.1; is = refl })

  pub good_opened : IsTrue (is_word name) → (t : Turn) → OpensPin m name t → IsGood t.next
  good_opened word t a =
      let free : IsPinned m.pins name → ⊥ = a.unbroken.1.0 in
      subst (λ (u : Turn). IsGood u.next) (sym a.is) (record {
        graph = good.graph;
        differ = good.differ;
        asks = good.asks;
        kinds = good.kinds;
        pins = more_ordered (λ (p : Pin). p.name) m.pins (new_pin name m.graph) good.pins (λ p a e. free (p, a, e));
        follows = good.follows;
        words = record { objects = good.words.objects; watches = good.words.watches; pins = each_added (λ (p : Pin). IsTrue (is_word p.name) × HasWords p.graph) m.pins (new_pin name m.graph) good.words.pins (word, good.words.objects); follows = good.words.follows };
      })

  pub good_closed : (t : Turn) → ClosesPin m name t → IsGood t.next
  good_closed t a = subst (λ (u : Turn). IsGood u.next) (sym a.is) (record {
    graph = good.graph;
    differ = good.differ;
    asks = good.asks;
    kinds = good.kinds;
    pins = left_ordered (λ (p : Pin). p.name) name m.pins good.pins;
    follows = good.follows;
    words = record { objects = good.words.objects; watches = good.words.watches; pins = λ p h. good.words.pins p (left_among (λ (p : Pin). p.name) name m.pins p h); follows = good.words.follows };
  })
