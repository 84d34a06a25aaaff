-- What is asked of a pin is told from its graph alone.
use Rattle.std.proofs.Common.{◌≡◌, ℕ, zero, suc, inl, inr, List, [], ◌∷◌, ◌++◌, Option, Some, refl, sym, ap, ◌∙◌, subst}
use Rattle.std.specs.Prelude.{Result, Ok, slice_get}
use Rattle.itpg_base.specs.Words.{Word}
use Rattle.itpg_base.specs.Lists.{Among, Ordered}
use Rattle.itpg_base.specs.Graphs.{Graph}
use Rattle.itpg_base.specs.declared.text_code.TextCode.{TextCode}
use Rattle.itpg_base.proofs.Objects.{same_some}
use Rattle.itpg_edit.proofs.FirstOf.{first_or_unbroken}
use Rattle.edit_reader.specs.Readings.{Reading, AsksIn}
use Rattle.edit_reader.specs.Lines.{LineOf}
use Rattle.path_ast.specs.Terms.{QueryTerm}
use Rattle.match_parser.specs.Reading.{Reads}
use Rattle.itpg_session.specs.PlainPins.{Pin, PinsDiffer}
use Rattle.itpg_session.specs.Rules.{PinBreaks, name_rules}
use Rattle.itpg_session.specs.Replies.{Reply, Silent, Bad, Refused, Wide, Rows, Counted, Shown, OfPin, PerWatch, IsReply, IsReplyTo, of_pin}
use Rattle.itpg_session.specs.Machine.{Machine, IsGood, Turn, Answers, TurnOf, AsksPin, AsksPinText, told}
use Rattle.itpg_session.specs.MachineLaws.{OneAsked}
use Rattle.row_printer.specs.declared.form.Form.{Form}
use Rattle.reply_text.specs.Texts.{head_text}
use Rattle.itpg_session.specs.Texts.{text_of, pin_rows_text, fails}
use Rattle.relation_rows.specs.Answered.{row_number}
use Rattle.itpg_session.proofs.Replying.{of_read}
use Rattle.itpg_run.specs.Out.{plain, Output, LineOut, written}
use Rattle.itpg_run.proofs.PinStays.{Holds}

-- the pin at a place is the one of its name
at_among : (ps : List Pin) (i : ℕ) (p : Pin) → slice_get ps i ≡ Some p → Among ps p
at_among [] i p e = let no : ⊥ = cc in absurd no
at_among (x ∷ ps) zero p e = inl (same_some x p (Some x) refl e)
at_among (x ∷ ps) (suc i) p e = inr (at_among ps i p e)

one_named : (ps : List Pin) → Ordered PinsDiffer ps → (p q : Pin) → Among ps p → Among ps q → p.name ≡ q.name → p ≡ q
one_named [] d p q a b e = absurd a
one_named (x ∷ xs) d p q (inl a) (inl b) e = sym a ∙ b
one_named (x ∷ xs) d p q (inl a) (inr b) e = absurd (d.0 q b (ap (λ (y : Pin). y.name) a ∙ e))
one_named (x ∷ xs) d p q (inr a) (inl b) e = absurd (d.0 p a (ap (λ (y : Pin). y.name) b ∙ sym e))
one_named (x ∷ xs) d p q (inr a) (inr b) e = one_named xs d.1 p q a b e

-- the machine that has this graph and nothing else
abbrev bare : Graph → Machine
bare g = record { graph = g; watches = []; pins = []; follows = [] }

-- what is written is the text of this reply on the graph, at the line of a number
record TextIs (g : Graph) (number : ℕ) (reply : Reply) (o : Output) : Type 0 where
  text : o.text ≡ text_of Form.Plain (bare g) number reply
  failing : o.failing ≡ fails reply

-- of a pin the text is that on its graph
pin_text : (m : Machine) (number place : ℕ) (p : Pin) (limit : ℕ) (q : QueryTerm) (reply : Reply) → slice_get m.pins place ≡ Some p → IsReplyTo p.graph limit q reply → TextIs p.graph number reply (written Form.Plain m number (told m (of_pin place reply)))
pin_text m number place p limit q Silent at a = record { text = refl; failing = refl }
pin_text m number place p limit q (Bad code) at a = record { text = refl; failing = refl }
pin_text m number place p limit q (Refused rule) at a = record { text = refl; failing = refl }
pin_text m number place p limit q Wide at a = record { text = refl; failing = refl }
pin_text m number place p limit q (Rows answer) at a = record { text = ap (λ (o : Option Pin). head_text Form.Plain number (row_number answer) ++ pin_rows_text Form.Plain o answer) at; failing = refl }
pin_text m number place p limit q (Counted counts) at a = record { text = refl; failing = refl }
pin_text m number place p limit q (Shown i found) at a = absurd a.1
pin_text m number place p limit q (OfPin i answer) at a = absurd a.1
pin_text m number place p limit q (PerWatch found) at a = absurd a.1

module _ (one_line : (line : List ℕ) (a b : Result Reading TextCode) → LineOf line a → LineOf line b → a ≡ b) (one_asked : OneAsked) (limit number : ℕ) (name : Word) (text : List ℕ) (g : Graph) where
  -- the reply to the text on the graph is written
  record TellsOn (o : Output) : Type 0 where
    reply : Reply
    replies : IsReply g limit text reply
    is : TextIs g number reply o

  module _ (m : Machine) (holds : Holds name g m) (good : IsGood m) where
    tells_query : (q : QueryTerm) (t : Turn) → Reads text q → AsksPin limit m name q t → TellsOn (written Form.Plain m number t)
    tells_query q t reads a =
        let pin : a.pin ≡ holds.pin = one_named m.pins good.pins a.pin holds.pin (at_among m.pins a.place a.pin a.at) holds.among (a.named ∙ sym holds.named) in
        let graph : (a.pin).graph ≡ g = ap (λ (p : Pin). p.graph) pin ∙ holds.graph in
        let is : TextIs g number a.reply (written Form.Plain m number (told m (of_pin a.place a.reply))) = subst (λ (h : Graph). TextIs h number a.reply (written Form.Plain m number (told m (of_pin a.place a.reply)))) graph (pin_text m number a.place a.pin limit q a.reply a.at a.replies) in
        record {
          reply = a.reply;
          replies = of_read g limit text q reads a.reply (subst (λ (h : Graph). IsReplyTo h limit q a.reply) graph a.replies);
          is = subst (λ (u : Turn). TextIs g number a.reply (written Form.Plain m number u)) (sym a.is) is;
        }

    tells : (t : Turn) → AsksPinText limit m name text t → TellsOn (written Form.Plain m number t)
    tells t (inl (c, f, e)) = record { reply = Bad c; replies = f; is = subst (λ (u : Turn). TextIs g number (Bad c) (written Form.Plain m number u)) (sym e) (record { text = refl; failing = refl }) }
    tells t (inr (q, r, inl a)) = absurd (first_or_unbroken (PinBreaks m.graph m.pins name) name_rules a.rule a.first (holds.begun, ((λ no. no (holds.pin, holds.among, holds.named)), tt)))
    tells t (inr (q, r, inr a)) = tells_query q t r a

    line_tells : (line : List ℕ) → LineOf line (Ok (AsksIn name text)) → (o : Output) → LineOut (plain limit) m number line o → TellsOn o
    unfolding TurnOf Answers
    line_tells line is o a =
        let r = a.replies in
        subst TellsOn (sym a.is) (tells a.turn (subst (λ w. TurnOf limit m w a.turn) (one_line line r.what (Ok (AsksIn name text)) r.line_of is) r.turn))

  one_told : (x y : Output) → TellsOn x → TellsOn y → (x.text ≡ y.text) × (x.failing ≡ y.failing)
  one_told x y a b =
      let same : a.reply ≡ b.reply = one_asked g limit text a.reply b.reply a.replies b.replies in
      ((a.is).text ∙ ap (text_of Form.Plain (bare g) number) same ∙ sym (b.is).text, (a.is).failing ∙ ap fails same ∙ sym (b.is).failing)

  -- from two machines in which a pin of the name stands with this graph
  pub one_in_both : (m n : Machine) (line : List ℕ) → LineOf line (Ok (AsksIn name text)) → Holds name g m → IsGood m → Holds name g n → IsGood n
      → (x y : Output) → LineOut (plain limit) m number line x → LineOut (plain limit) n number line y → (x.text ≡ y.text) × (x.failing ≡ y.failing)
  one_in_both m n line is h good k fine x y a b = one_told x y (line_tells m h good line is x a) (line_tells n k fine line is y b)
