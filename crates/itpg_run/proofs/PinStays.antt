-- A pin stays, with its graph, until a line closes it; and a graph that is begun stays begun.
use Rattle.std.proofs.Common.{◌≡◌, ℕ, ◌+◌, ◌⊎◌, inl, inr, List, [], ◌∷◌, Bool, true, false, refl, sym, ap, ◌∙◌, subst, true≢false}
use Rattle.std.specs.Prelude.{Result, Ok, Err, Option, Some, None, IsNone, option_map, nat_eq}
use Rattle.std.specs.Cmp.Lexicographic.{pointwise}
use Rattle.itpg_base.specs.Words.{Word}
use Rattle.itpg_base.specs.Lists.{Among}
use Rattle.itpg_base.specs.Spans.{Span}
use Rattle.itpg_base.specs.Graphs.{Graph, Begun}
use Rattle.itpg_base.specs.declared.rule_code.RuleCode.{RuleCode}
use Rattle.itpg_base.specs.declared.text_code.TextCode.{TextCode}
use Rattle.itpg_base.proofs.Objects.{word_same, word_refl}
use Rattle.itpg_base.proofs.Lists.{append_first, append_second}
use Rattle.itpg_edit.specs.declared.edit.Edit.{Edit}
use Rattle.itpg_edit.specs.declared.edit.Edit.TheVariants.{Begin, Extend, AddNode, AddEdge, Live, Gone, Put, Clear, Remove}
use Rattle.itpg_edit.specs.Facts.{span_of}
use Rattle.itpg_edit.specs.Next.{Next}
use Rattle.itpg_edit.proofs.FirstOf.{first_or_unbroken}
use Rattle.edit_reader.specs.Readings.{Reading, Nothing, Changes, Asks, Wants, Watches, Shows, Unwatches, Ticks, Opens, Closes, AsksIn, Follows, Nears, Unfollows}
use Rattle.edit_reader.specs.Lines.{LineOf}
use Rattle.itpg_session.specs.PlainPins.{Pin, new_pin, without_pin}
use Rattle.itpg_session.specs.Rules.{OpenBreaks, open_rules}
use Rattle.itpg_session.specs.Replies.{Reply, Silent, Bad, Refused, Wide, Rows, Counted, Shown, OfPin, PerWatch}
use Rattle.itpg_session.specs.Machine.{Machine, Turn, Answers, TurnOf, Refuses, told}
use Rattle.itpg_run.specs.Out.{plain, Output, LineOut, Runs}
use Rattle.itpg_run.specs.StillLaws.{IsOpened}

-- ---- a graph stays begun

abbrev IsBegun : Graph → Type 0
IsBegun g = ¬ IsNone g.begun

begun_too : (g new : Graph) → new.begun ≡ g.begun → IsBegun g → IsBegun new
begun_too g new e begun none = begun (subst IsNone e none)

-- what is none with another horizon was none
none_widened : (s : Span) (b : Option Begun) → IsNone (option_map (λ (c : Begun). record c { horizon = s }) b) → IsNone b
none_widened s None e = e
none_widened s (Some c) e = let no : ⊥ = cc in absurd no

next_begun : (g new : Graph) (edit : Edit) → Next g edit new → IsBegun g → IsBegun new
next_begun g new (Begin name lo hi) n begun = λ none. let e = ap (λ (h : Graph). h.begun) n in let no : ⊥ = cc in no
next_begun g new (Extend lo hi) n begun = λ none. begun (none_widened (span_of lo hi) g.begun (subst IsNone (ap (λ (h : Graph). h.begun) n) none))
next_begun g new (AddNode id labels) n begun = begun_too g new (ap (λ (h : Graph). h.begun) n) begun
next_begun g new (AddEdge id labels source target) n begun = begun_too g new (ap (λ (h : Graph). h.begun) n.4) begun
next_begun g new (Live id from to) n begun = begun_too g new (ap (λ (h : Graph). h.begun) n.2.is) begun
next_begun g new (Gone id from to) n begun = begun_too g new (ap (λ (h : Graph). h.begun) n.2.is) begun
next_begun g new (Put id prop value from to) n begun = begun_too g new (ap (λ (h : Graph). h.begun) n.2.is) begun
next_begun g new (Clear id prop from to) n begun = begun_too g new (ap (λ (h : Graph). h.begun) n.2.is) begun
next_begun g new (Remove id) n begun = begun_too g new (ap (λ (h : Graph). h.begun) n.2) begun

-- ---- a pin of another name stays

same_names : (a b : Word) → ((pointwise nat_eq a b ≡ true) × (a ≡ b)) ⊎ ((pointwise nat_eq a b ≡ false) × (a ≡ b → ⊥))
same_names a b = by_test (pointwise nat_eq a b) refl
  where
    by_test : (t : Bool) → pointwise nat_eq a b ≡ t → ((pointwise nat_eq a b ≡ true) × (a ≡ b)) ⊎ ((pointwise nat_eq a b ≡ false) × (a ≡ b → ⊥))
    by_test true e = inl (e, word_same a b e)
    by_test false e = inr (e, λ k. true≢false (sym (word_refl a) ∙ ap (pointwise nat_eq a) k ∙ e))

without_here : (name : Word) (p : Pin) (ps : List Pin) → pointwise nat_eq p.name name ≡ true → without_pin name (p ∷ ps) ≡ without_pin name ps
without_here name p ps e = rw e refl

without_other : (name : Word) (p : Pin) (ps : List Pin) → pointwise nat_eq p.name name ≡ false → without_pin name (p ∷ ps) ≡ p ∷ without_pin name ps
without_other name p ps e = rw e refl

without_keeps : (name : Word) (ps : List Pin) (x : Pin) → Among ps x → (x.name ≡ name → ⊥) → Among (without_pin name ps) x
without_keeps name [] x a other = a
without_keeps name (p ∷ ps) x (inl e) other = elim (same_names p.name name) [
  | inl h ↦ absurd (other (ap (λ (q : Pin). q.name) (sym e) ∙ h.1))
  | inr h ↦ subst (λ (v : List Pin). Among v x) (sym (without_other name p ps h.0)) (inl e)
]
without_keeps name (p ∷ ps) x (inr a) other = elim (same_names p.name name) [
  | inl h ↦ subst (λ (v : List Pin). Among v x) (sym (without_here name p ps h.0)) (without_keeps name ps x a other)
  | inr h ↦ subst (λ (v : List Pin). Among v x) (sym (without_other name p ps h.0)) (inr (without_keeps name ps x a other))
]

-- ---- a pin stays

-- a graph is begun, and a pin of this name stands with this graph
pub record Holds (name : Word) (g : Graph) (m : Machine) : Type 0 where
  pub begun : IsBegun m.graph
  pub pin : Pin
  pub among : Among m.pins pin
  pub named : pin.name ≡ name
  pub graph : pin.graph ≡ g

-- the graph and the pins are the same
record HasSame (m n : Machine) : Type 0 where
  graph : n.graph ≡ m.graph
  pins : n.pins ≡ m.pins

-- what is told leaves them
after_same : (m : Machine) (reply : Reply) → HasSame m (told m reply).next
after_same m Silent = record { graph = refl; pins = refl }
after_same m (Bad code) = record { graph = refl; pins = refl }
after_same m (Refused rule) = record { graph = refl; pins = refl }
after_same m Wide = record { graph = refl; pins = refl }
after_same m (Rows answer) = record { graph = refl; pins = refl }
after_same m (Counted counts) = record { graph = refl; pins = refl }
after_same m (Shown place found) = record { graph = refl; pins = refl }
after_same m (OfPin place answer) = record { graph = refl; pins = refl }
after_same m (PerWatch found) = record { graph = refl; pins = refl }

module _ (name : Word) (g : Graph) (limit : ℕ) (m : Machine) (holds : Holds name g m) where
  same_holds : (n : Machine) → HasSame m n → Holds name g n
  same_holds n same = record {
    begun = subst IsBegun (sym same.graph) holds.begun;
    pin = holds.pin;
    among = subst (λ (pins : List Pin). Among pins holds.pin) (sym same.pins) holds.among;
    named = holds.named;
    graph = holds.graph;
  }

  told_holds : (t : Turn) (reply : Reply) → t ≡ told m reply → Holds name g t.next
  told_holds t reply is = subst (λ (u : Turn). Holds name g u.next) (sym is) (same_holds (told m reply).next (after_same m reply))

  refused_holds : (broken : RuleCode → Type 0) (rules : List RuleCode) (t : Turn) → Refuses m broken rules t → Holds name g t.next
  refused_holds broken rules t a = told_holds t (Refused a.rule) a.is

  answer_holds : (reading : Reading) → (reading ≡ Closes name → ⊥) → (t : Turn) → Answers limit m reading t → Holds name g t.next
  unfolding Answers
  answer_holds Nothing stays t a = told_holds t Silent a
  answer_holds (Changes edit) stays t (inl a) = refused_holds _ _ t a
  answer_holds (Changes edit) stays t (inr a) = subst (λ (u : Turn). Holds name g u.next) (sym a.is) (record {
    begun = next_begun m.graph a.graph edit (a.makes).next holds.begun;
    pin = holds.pin;
    among = holds.among;
    named = holds.named;
    graph = holds.graph;
  })
  answer_holds (Asks text) stays t a = told_holds t a.reply a.is
  answer_holds (Wants wanted text) stays t a = told_holds t a.reply a.is
  answer_holds (Watches other text) stays t (inl (c, f, e)) = told_holds t (Bad c) e
  answer_holds (Watches other text) stays t (inr (q, r, inl a)) = refused_holds _ _ t a
  answer_holds (Watches other text) stays t (inr (q, r, inr a)) = subst (λ (u : Turn). Holds name g u.next) (sym a.is) (same_holds _ (record { graph = refl; pins = refl }))
  answer_holds (Shows other) stays t (inl a) = refused_holds _ _ t a
  answer_holds (Shows other) stays t (inr a) = told_holds t (Shown a.place a.found) a.is
  answer_holds (Unwatches other) stays t (inl a) = refused_holds _ _ t a
  answer_holds (Unwatches other) stays t (inr a) = subst (λ (u : Turn). Holds name g u.next) (sym a.is) (same_holds _ (record { graph = refl; pins = refl }))
  answer_holds Ticks stays t (inl a) = refused_holds _ _ t a
  answer_holds Ticks stays t (inr a) = told_holds t (PerWatch a.found) a.is
  answer_holds (Opens other) stays t (inl a) = refused_holds _ _ t a
  answer_holds (Opens other) stays t (inr a) = subst (λ (u : Turn). Holds name g u.next) (sym a.is) (record {
    begun = holds.begun;
    pin = holds.pin;
    among = append_first m.pins (new_pin other m.graph ∷ []) holds.pin holds.among;
    named = holds.named;
    graph = holds.graph;
  })
  answer_holds (Closes other) stays t (inl a) = refused_holds _ _ t a
  answer_holds (Closes other) stays t (inr a) = subst (λ (u : Turn). Holds name g u.next) (sym a.is) (record {
    begun = holds.begun;
    pin = holds.pin;
    among = without_keeps other m.pins holds.pin holds.among (λ e. stays (ap Closes (sym e ∙ holds.named)));
    named = holds.named;
    graph = holds.graph;
  })
  answer_holds (AsksIn other text) stays t (inl (c, f, e)) = told_holds t (Bad c) e
  answer_holds (AsksIn other text) stays t (inr (q, r, inl a)) = refused_holds _ _ t a
  answer_holds (AsksIn other text) stays t (inr (q, r, inr a)) = told_holds t _ a.is
  answer_holds (Follows other text) stays t (inl (c, f, e)) = told_holds t (Bad c) e
  answer_holds (Follows other text) stays t (inr (q, r, inl (one, e))) = told_holds t _ e
  answer_holds (Follows other text) stays t (inr (q, r, inr (both, inl a))) = refused_holds _ _ t a
  answer_holds (Follows other text) stays t (inr (q, r, inr (both, inr a))) = subst (λ (u : Turn). Holds name g u.next) (sym a.is) (same_holds _ (record { graph = refl; pins = refl }))
  answer_holds (Nears other id) stays t (inl a) = refused_holds _ _ t a
  answer_holds (Nears other id) stays t (inr a) = told_holds t a.reply a.is
  answer_holds (Unfollows other) stays t (inl a) = refused_holds _ _ t a
  answer_holds (Unfollows other) stays t (inr a) = subst (λ (u : Turn). Holds name g u.next) (sym a.is) (same_holds _ (record { graph = refl; pins = refl }))

  turn_holds : (what : Result Reading TextCode) → (what ≡ Ok (Closes name) → ⊥) → (t : Turn) → TurnOf limit m what t → Holds name g t.next
  unfolding TurnOf
  turn_holds (Ok reading) stays t a = answer_holds reading (λ e. stays (ap Ok e)) t a
  turn_holds (Err code) stays t a = told_holds t (Bad code) a

  -- over a line that doesn't close it
  pub line_holds : (number : ℕ) (line : List ℕ) → (LineOf line (Ok (Closes name)) → ⊥) → (o : Output) → LineOut (plain limit) m number line o → Holds name g o.next
  line_holds number line stays o a =
      let r = a.replies in
      subst (λ (x : Output). Holds name g x.next) (sym a.is) (turn_holds r.what (λ e. stays (subst (LineOf line) e r.line_of)) a.turn r.turn)

-- no line closes the pin of this name
abbrev pub AllStay : Word → List (List ℕ) → Type 0
AllStay name [] = Unit {0}
AllStay name (x ∷ xs) = (LineOf x (Ok (Closes name)) → ⊥) × AllStay name xs

-- over such lines
pub run_holds : (name : Word) (g : Graph) (limit : ℕ) (m : Machine) (number : ℕ) (xs : List (List ℕ)) (o : Output) → AllStay name xs → Holds name g m → Runs (plain limit) m number xs o → Holds name g o.next
unfolding Runs
run_holds name g limit m number [] o stay h r = subst (λ (x : Output). Holds name g x.next) (sym r) h
run_holds name g limit m number (x ∷ xs) o stay h r =
    subst (λ (y : Output). Holds name g y.next) (sym r.is) (run_holds name g limit r.first.next (number + 1) xs r.rest stay.1 (line_holds name g limit m h number x stay.0 r.first r.begins) r.goes_on)

-- ---- an accepted `open` pins the graph

module _ (one_line : (line : List ℕ) (a b : Result Reading TextCode) → LineOf line a → LineOf line b → a ≡ b) where
  pub opened_holds : (limit : ℕ) (m : Machine) (number : ℕ) (line : List ℕ) (name : Word) (o : Output) → IsOpened name m line → LineOut (plain limit) m number line o → Holds name m.graph o.next
  unfolding TurnOf Answers
  opened_holds limit m number line name o is a =
      let r = a.replies in
      subst (λ (x : Output). Holds name m.graph x.next) (sym a.is) (by_turn (subst (λ w. TurnOf limit m w a.turn) (one_line line r.what (Ok (Opens name)) r.line_of is.0) r.turn))
    where
      by_turn : TurnOf limit m (Ok (Opens name)) a.turn → Holds name m.graph (a.turn).next
      by_turn (inl d) = absurd (first_or_unbroken (OpenBreaks m.graph m.pins name) open_rules d.rule d.first is.1)
      by_turn (inr b) = subst (λ (u : Turn). Holds name m.graph u.next) (sym b.is) (record {
        begun = is.1.0;
        pin = new_pin name m.graph;
        among = append_second m.pins (new_pin name m.graph ∷ []) (new_pin name m.graph) (inl refl);
        named = refl;
        graph = refl;
      })
