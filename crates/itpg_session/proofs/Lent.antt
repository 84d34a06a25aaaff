-- A question that is asked of a pin: the pin's table is lent to it, and then put back.
use Rattle.std.proofs.Common.{◌≡◌, inl, inr, ℕ, zero, suc, ◌<◌, List, [], ◌∷◌, length, Some, refl, sym, ap, subst, ◌∙◌, arith}
use Rattle.std.specs.Prelude.{slice_get, IsSomeAnd}
use Rattle.itpg_base.specs.Words.{Word}
use Rattle.itpg_base.specs.Graphs.{Graph}
use Rattle.itpg_edit.specs.Rules.{NoneOf}
use Rattle.path_ast.specs.Terms.{PathTerm, QueryTerm}
use Rattle.match_parser.specs.Reading.{Reads, FaultOf}
use Rattle.itpg_base.specs.declared.text_code.TextCode.{TextCode}
use Rattle.plan_cache.specs.Nodes.{Table}
use Rattle.plan_cache.specs.RightRows.{IsTableRight}
use Rattle.relation_rows.specs.Answered.{Answered}
use Rattle.itpg_pins.specs.Pins.{Held, IsOnlyPlace, retabled}
use Rattle.itpg_session.specs.PlainPins.{Pin, plain_pin, plain_pins}
use Rattle.itpg_session.specs.Rules.{PinBreaks, name_rules}
use Rattle.itpg_session.specs.Replies.{Reply, Silent, Bad, Refused, Wide, Rows, Counted, Shown, OfPin, PerWatch, IsReplyTo, of_pin}
use Rattle.itpg_session.specs.Keeping.{AddsOrRenews, KeepsPath, KeepsText}
use Rattle.itpg_session.specs.Pinning.{AddsAt}
use Rattle.itpg_session.specs.Machine.{Machine, Turn, AsksPinQuery, AsksPinText, told}
use Rattle.itpg_session.proofs.Replying.{one_reply_to}
use Rattle.itpg_session.proofs.NamedLists.{found_at}
use Rattle.itpg_session.proofs.PinLists.{pin_at, table_at}

-- ---- the list of pins

pub retabled_length : (xs : List Held) (i : ℕ) (table : Table) → length (retabled i table xs) ≡ length xs
retabled_length [] i table = refl
retabled_length (x ∷ xs) zero table = refl
retabled_length (x ∷ xs) (suc i) table = ap suc (retabled_length xs i table)

retabled_twice : (xs : List Held) (i : ℕ) (one two : Table) → retabled i two (retabled i one xs) ≡ retabled i two xs
retabled_twice [] i one two = refl
retabled_twice (x ∷ xs) zero one two = refl
retabled_twice (x ∷ xs) (suc i) one two = ap (λ (v : List Held). x ∷ v) (retabled_twice xs i one two)

pub place_within : (P : Held → Type 0) (xs : List Held) (i : ℕ) → IsSomeAnd (slice_get xs i) P → i < length xs
place_within P [] i h = absurd h
place_within P (x ∷ xs) zero h = omega arith
place_within P (x ∷ xs) (suc i) h = let l = place_within P xs i h in omega (arith, l)

at_some : {X : Type 0} (P : X → Type 0) (xs : List X) (i : ℕ) (x : X) → slice_get xs i ≡ Some x → P x → IsSomeAnd (slice_get xs i) P
at_some P xs i x e p = subst (λ o. IsSomeAnd o P) (sym e) p

of_some : {X : Type 0} (P : X → Type 0) (xs : List X) (i : ℕ) (x : X) → slice_get xs i ≡ Some x → IsSomeAnd (slice_get xs i) P → P x
of_some P xs i x e h = subst (λ o. IsSomeAnd o P) e h

-- the pin at a place, whose graph is this one and whose table, this one, was lent: it is right
pub record IsLent (limit : ℕ) (ps : List Held) (i : ℕ) (g : Graph) (given : Table) : Type 0 where
  pub pin : Held
  pub at : slice_get ps i ≡ Some pin
  pub graph : g ≡ pin.graph
  pub own : given ≡ pin.table
  pub right : IsTableRight g limit given

module _ (limit : ℕ) (ps : List Held) (i : ℕ) (empty given : Table) (mid : List Held) (is : mid ≡ retabled i empty ps) where
  pub lent : (g : Graph) → IsSomeAnd (slice_get ps i) (λ p. (given ≡ p.table) × IsTableRight p.graph limit given) → IsSomeAnd (slice_get mid i) (λ p. g ≡ p.graph) → IsLent limit ps i g given
  lent g old graph =
      let h = found_at (λ p. (given ≡ p.table) × IsTableRight p.graph limit given) ps i old in
      let there : slice_get mid i ≡ Some (record h.0 { table = empty }) = ap (λ (v : List Held). slice_get v i) is ∙ table_at ps i h.0 empty h.2 in
      let same : g ≡ h.0.graph = of_some (λ (p : Held). g ≡ p.graph) mid i (record h.0 { table = empty }) there graph in
      let own = h.3 in
      record { pin = h.0; at = h.2; graph = same; own = own.0; right = subst (λ (x : Graph). IsTableRight x limit given) (sym same) own.1 }

  pub mid_length : length mid ≡ length ps
  mid_length = ap length is ∙ retabled_length ps i empty

  module _ (g : Graph) (at : IsLent limit ps i g given) (new : Table) where
    pub right_back : IsTableRight g limit new → IsSomeAnd (slice_get mid i) (λ p. IsTableRight p.graph limit new)
    right_back right =
        at_some (λ p. IsTableRight p.graph limit new) mid i (record at.pin { table = empty }) (ap (λ (v : List Held). slice_get v i) is ∙ table_at ps i at.pin empty at.at)
        (subst (λ (x : Graph). IsTableRight x limit new) at.graph right)

    module _ (fin : List Held) (back : fin ≡ retabled i new mid) where
      pub put_back : fin ≡ retabled i new ps
      put_back = back ∙ ap (retabled i new) is ∙ retabled_twice ps i empty new

      pub adds_at : (p : PathTerm) → AddsOrRenews p [] given new → AddsAt p i ps fin
      adds_at p adds = record { pin = at.pin; at = at.at; table = new; adds = subst (λ (t : Table). AddsOrRenews p [] t new) at.own adds; is = put_back }

      pub keeps_at : (p : PathTerm) → KeepsPath g p new → IsSomeAnd (slice_get fin i) (λ h. KeepsPath h.graph p h.table)
      keeps_at p keeps =
          at_some (λ h. KeepsPath h.graph p h.table) fin i (record at.pin { table = new }) (ap (λ (v : List Held). slice_get v i) put_back ∙ table_at ps i at.pin new at.at)
          (subst (λ (x : Graph). KeepsPath x p new) at.graph keeps)

    pub replies_at : (q : QueryTerm) (reply : Reply) → IsReplyTo g limit q reply → IsSomeAnd (slice_get (plain_pins ps) i) (λ p. IsReplyTo p.graph limit q reply)
    replies_at q reply is = at_some (λ p. IsReplyTo p.graph limit q reply) (plain_pins ps) i (plain_pin at.pin) (pin_at ps i at.pin at.at) (subst (λ (x : Graph). IsReplyTo x limit q reply) at.graph is)

-- ---- the turn

-- rows of a pin are the reply only to a question that is answered with rows
of_pin_is : (g : Graph) (limit : ℕ) (q : QueryTerm) (place i : ℕ) (answer : Answered) (reply : Reply) → IsReplyTo g limit q reply → OfPin place answer ≡ of_pin i reply → (i ≡ place) × (reply ≡ Rows answer)
of_pin_is g limit q place i answer Silent a e = absurd a.1
of_pin_is g limit q place i answer (Bad code) a e = absurd a.1
of_pin_is g limit q place i answer (Refused rule) a e = let no : ⊥ = cc in absurd no
of_pin_is g limit q place i answer Wide a e = let no : ⊥ = cc in absurd no
of_pin_is g limit q place i answer (Rows x) a e = (let same : i ≡ place = cc in same, let same : x ≡ answer = cc in ap Rows same)
of_pin_is g limit q place i answer (Counted counts) a e = absurd a.1
of_pin_is g limit q place i answer (Shown k found) a e = absurd a.1
of_pin_is g limit q place i answer (OfPin k x) a e = absurd a.1
of_pin_is g limit q place i answer (PerWatch found) a e = absurd a.1

module _ (limit : ℕ) (m : Machine) (name : Word) (ps : List Held) (pins : plain_pins ps ≡ m.pins) (place : ℕ) (named : IsSomeAnd (slice_get ps place) (λ p. p.name ≡ name)) where
  pub asked_pin : (q : QueryTerm) (reply : Reply) → NoneOf (PinBreaks m.graph m.pins name) name_rules → IsSomeAnd (slice_get m.pins place) (λ p. IsReplyTo p.graph limit q reply) → AsksPinQuery limit m name q (told m (of_pin place reply))
  asked_pin q reply unbroken replies =
      let h = found_at (λ p. p.name ≡ name) ps place named in
      let at : slice_get m.pins place ≡ Some (plain_pin h.0) = ap (λ (v : List Pin). slice_get v place) (sym pins) ∙ pin_at ps place h.0 h.2 in
      inr (record { unbroken = unbroken; place = place; pin = plain_pin h.0; at = at; named = h.3; reply = reply; replies = of_some (λ p. IsReplyTo p.graph limit q reply) m.pins place (plain_pin h.0) at replies; is = refl })

  -- a turn that tells rows of a pin is that of this pin, and tells what is its reply
  pub one_asked : IsOnlyPlace ps name place → (q : QueryTerm) (reply : Reply) → IsSomeAnd (slice_get m.pins place) (λ p. IsReplyTo p.graph limit q reply) → (other : ℕ) (answer : Answered) → AsksPinQuery limit m name q (told m (OfPin other answer))
      → (other ≡ place) × (reply ≡ Rows answer)
  one_asked only q reply replies other answer (inl refused) = absurd (let e = ap (λ (t : Turn). t.reply) refused.is in let no : ⊥ = cc in no)
  one_asked only q reply replies other answer (inr a) =
      let is = of_pin_is (a.pin).graph limit q other a.place answer a.reply a.replies (ap (λ (t : Turn). t.reply) a.is) in
      let there : IsSomeAnd (slice_get (plain_pins ps) a.place) (λ p. p.name ≡ name) = at_some (λ p. p.name ≡ name) (plain_pins ps) a.place a.pin (ap (λ (v : List Pin). slice_get v a.place) pins ∙ a.at) a.named in
      let here : a.place ≡ place = only a.place (said_held ps a.place there) in
      let at : slice_get m.pins place ≡ Some a.pin = subst (λ (i : ℕ). slice_get m.pins i ≡ Some a.pin) here a.at in
      let same : reply ≡ a.reply = one_reply_to (a.pin).graph limit q reply a.reply (of_some (λ p. IsReplyTo p.graph limit q reply) m.pins place a.pin at replies) a.replies in
      (sym is.0 ∙ here, same ∙ is.1)
    where
      said_held : (xs : List Held) (i : ℕ) → IsSomeAnd (slice_get (plain_pins xs) i) (λ p. p.name ≡ name) → IsSomeAnd (slice_get xs i) (λ p. p.name ≡ name)
      said_held [] i h = absurd h
      said_held (x ∷ xs) zero h = h
      said_held (x ∷ xs) (suc i) h = said_held xs i h

-- a text reads as one query, and so is asked as this one
pub read_asked : (limit : ℕ) (m : Machine) (name : Word) (text : List ℕ) (t : Turn) (q : QueryTerm) → ((p r : QueryTerm) → Reads text p → Reads text r → p ≡ r) → ((c : TextCode) → FaultOf text c → ⊥) → Reads text q → AsksPinText limit m name text t
    → AsksPinQuery limit m name q t
read_asked limit m name text t q one apart reads (inl (c, fault, is)) = absurd (apart c fault)
read_asked limit m name text t q one apart reads (inr (p, also, a)) = subst (λ (r : QueryTerm). AsksPinQuery limit m name r t) (one p q also reads) a

-- what is kept for the path of the query that a text reads as
kept_read : (g : Graph) (text : List ℕ) (table : Table) (q : QueryTerm) → ((p r : QueryTerm) → Reads text p → Reads text r → p ≡ r) → Reads text q → KeepsPath g q.path table → KeepsText g text table
kept_read g text table q one reads keeps = λ r also. subst (λ (t : QueryTerm). KeepsPath g t.path table) (one q r reads also) keeps

pub kept_at : (ps : List Held) (i : ℕ) (text : List ℕ) (q : QueryTerm) → ((p r : QueryTerm) → Reads text p → Reads text r → p ≡ r) → Reads text q → IsSomeAnd (slice_get ps i) (λ h. KeepsPath h.graph q.path h.table)
    → IsSomeAnd (slice_get ps i) (λ h. KeepsText h.graph text h.table)
kept_at [] i text q one reads h = absurd h
kept_at (x ∷ ps) zero text q one reads h = kept_read x.graph text x.table q one reads h
kept_at (x ∷ ps) (suc i) text q one reads h = kept_at ps i text q one reads h

-- a text with a fault isn't answered with rows of a pin
pub bad_asked : (limit : ℕ) (m : Machine) (name : Word) (text : List ℕ) (code : TextCode) (place : ℕ) (answer : Answered) → ((q : QueryTerm) → Reads text q → ⊥) → AsksPinText limit m name text (told m (OfPin place answer)) → ⊥
bad_asked limit m name text code place answer none (inl (c, fault, is)) = let e = ap (λ (t : Turn). t.reply) is in let no : ⊥ = cc in no
bad_asked limit m name text code place answer none (inr (q, reads, a)) = none q reads
