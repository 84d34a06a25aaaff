-- A reply that a line has is one of the session.
use Rattle.std.proofs.Common.{◌≡◌, ◌⊎◌, inl, inr, ℕ, List, length, refl, sym, subst}
use Rattle.std.specs.Prelude.{Result, Ok, Err, Option, Some, IfOk, slice_get, IsSomeAnd}
use Rattle.itpg_base.specs.Words.{Word}
use Rattle.itpg_base.specs.declared.rule_code.RuleCode.{RuleCode}
use Rattle.itpg_base.specs.declared.text_code.TextCode.{TextCode}
use Rattle.edit_reader.specs.Readings.{Reading, Nothing, Changes, Asks, Wants, Watches, Shows, Unwatches, Ticks, Opens, Closes, AsksIn, Follows, Nears, Unfollows}
use Rattle.edit_reader.specs.declared.line.Wanted.{Wanted}
use Rattle.path_ast.specs.Terms.{QueryTerm}
use Rattle.itpg_session.specs.Replies.{Reply, Silent, Bad, Refused, Wide, Rows, Counted, Shown, OfPin, PerWatch, FindsFor, IsFoundNear, IsReply, IsReplyTo, of_pin, line_reply}
use Rattle.relation_rows.specs.Answered.{Answered}
use Rattle.itpg_session.specs.PlainWatches.{PlainWatch}
use Rattle.itpg_session.specs.PlainPins.{Pin}
use Rattle.itpg_session.specs.Machine.{Machine, Standing, Turn, Refuses, WatchesText, WatchesQuery, AsksPinText, FollowsText, Answers, TurnOf}
use Rattle.row_printer.specs.Texts.{AreDeclared}
use Rattle.itpg_session.specs.Ticks.{AreTicked}
use Rattle.itpg_session.specs.Steps.{IsAlike, Decides, Suits}
use Rattle.itpg_session.specs.declared.reply.Reply.{Reply as ReplyValue}
use Rattle.itpg_session.specs.Wanting.{IsReplyWanted}
use Rattle.itpg_session.proofs.Replying.{declared, declared_asked}
use Rattle.itpg_session.proofs.Nearby.{near_declared}
use Rattle.itpg_session.proofs.WantedReplies.{each_wanted}

module _ (s : Standing) where
  asked_suits : (text : List ℕ) (reply : Reply) → IsReply s.machine.graph s.limit text reply → Suits s reply
  asked_suits text Silent a = tt
  asked_suits text (Bad code) a = tt
  asked_suits text (Refused rule) a = tt
  asked_suits text Wide a = tt
  asked_suits text (Rows answer) a = declared_asked s.machine.graph s.limit text (Rows answer) a
  asked_suits text (Counted counts) (q, reads, a) = absurd a.1
  asked_suits text (Shown place found) (q, reads, a) = absurd a.1
  asked_suits text (OfPin place answer) (q, reads, a) = absurd a.1
  asked_suits text (PerWatch found) (q, reads, a) = absurd a.1

  wanted_suits : (wanted : Wanted) (text : List ℕ) (reply : Reply) → IsReplyWanted s.machine.graph s.limit wanted text reply → Suits s reply
  wanted_suits wanted text reply a = each_wanted s.machine.graph s.limit (Suits s) (λ code. tt) (λ rule. tt) tt (λ counts. tt) (λ rows declared. declared) wanted text reply a

  shown_suits : (place : ℕ) (w : PlainWatch) (found : Option Answered) → slice_get s.machine.watches place ≡ Some w → FindsFor s.machine.graph s.limit w.query found → Suits s (Shown place found)
  shown_suits place w found at finds = subst (λ o. IsSomeAnd o (λ v. FindsFor s.machine.graph s.limit v.query found)) (sym at) finds

  -- the turn has this reply, and the reply suits
  replied : (t u : Turn) → t ≡ u → Suits s u.reply → Suits s t.reply
  replied t u is h = subst (λ (v : Turn). Suits s v.reply) (sym is) h

  refusal_suits : (broken : RuleCode → Type 0) (rules : List RuleCode) (t : Turn) → Refuses s.machine broken rules t → Suits s t.reply
  refusal_suits broken rules t a = replied t _ a.is tt

  watched_suits : (name : Word) (q : QueryTerm) (t : Turn) → WatchesQuery s.machine name q t → Suits s t.reply
  watched_suits name q t (inl a) = replied t _ a.is tt
  watched_suits name q t (inr a) = replied t _ a.is tt

  text_suits : (name : Word) (text : List ℕ) (t : Turn) → WatchesText s.machine name text t → Suits s t.reply
  text_suits name text t (inl (code, fault, is)) = replied t _ is tt
  text_suits name text t (inr (q, reads, a)) = watched_suits name q t a

  pinned_suits : (place : ℕ) (p : Pin) (q : QueryTerm) (reply : Reply) → slice_get s.machine.pins place ≡ Some p → IsReplyTo p.graph s.limit q reply → Suits s (of_pin place reply)
  pinned_suits place p q Silent at a = tt
  pinned_suits place p q (Bad code) at a = tt
  pinned_suits place p q (Refused rule) at a = tt
  pinned_suits place p q Wide at a = tt
  pinned_suits place p q (Rows answer) at a = subst (λ o. IsSomeAnd o (λ p. AreDeclared (length p.graph.objects) answer)) (sym at) (declared p.graph q.path q.first q.last answer a.1.1)
  pinned_suits place p q (Counted counts) at a = absurd a.1
  pinned_suits place p q (Shown i found) at a = absurd a.1
  pinned_suits place p q (OfPin i answer) at a = absurd a.1
  pinned_suits place p q (PerWatch found) at a = absurd a.1

  pin_text_suits : (name : Word) (text : List ℕ) (t : Turn) → AsksPinText s.limit s.machine name text t → Suits s t.reply
  pin_text_suits name text t (inl (code, fault, is)) = replied t _ is tt
  pin_text_suits name text t (inr (q, reads, inl a)) = replied t _ a.is tt
  pin_text_suits name text t (inr (q, reads, inr a)) = replied t _ a.is (pinned_suits a.place a.pin q a.reply a.at a.replies)

  near_suits : (q : QueryTerm) (o : ℕ) (reply : Reply) → IsFoundNear s.machine.graph s.limit q o reply → Suits s reply
  near_suits q o Silent a = absurd a
  near_suits q o (Bad code) a = absurd a
  near_suits q o (Refused rule) a = absurd a
  near_suits q o Wide a = tt
  near_suits q o (Rows answer) a = near_declared s.machine.graph s.limit q o answer a
  near_suits q o (Counted counts) a = absurd a
  near_suits q o (Shown i found) a = absurd a
  near_suits q o (OfPin i answer) a = absurd a
  near_suits q o (PerWatch found) a = absurd a

  follow_suits : (name : Word) (text : List ℕ) (t : Turn) → FollowsText s.machine name text t → Suits s t.reply
  follow_suits name text t (inl (code, fault, is)) = replied t _ is tt
  follow_suits name text t (inr (q, reads, inl a)) = replied t _ a.1 tt
  follow_suits name text t (inr (q, reads, inr (both, inl a))) = replied t _ a.is tt
  follow_suits name text t (inr (q, reads, inr (both, inr a))) = replied t _ a.is tt

  answer_suits : (reading : Reading) (t : Turn) → Answers s.limit s.machine reading t → Suits s t.reply
  unfolding Answers
  answer_suits Nothing t a = replied t _ a tt
  answer_suits (Changes edit) t (inl a) = replied t _ a.is tt
  answer_suits (Changes edit) t (inr a) = replied t _ a.is tt
  answer_suits (Asks text) t a = replied t _ a.is (asked_suits text a.reply a.replies)
  answer_suits (Wants wanted text) t a = replied t _ a.is (wanted_suits wanted text a.reply a.replies)
  answer_suits (Watches name text) t a = text_suits name text t a
  answer_suits (Shows name) t (inl a) = replied t _ a.is tt
  answer_suits (Shows name) t (inr a) = replied t _ a.is (shown_suits a.place a.watch a.found a.at a.finds)
  answer_suits (Unwatches name) t (inl a) = replied t _ a.is tt
  answer_suits (Unwatches name) t (inr a) = replied t _ a.is tt
  answer_suits Ticks t (inl a) = replied t _ a.is tt
  answer_suits Ticks t (inr a) = replied t _ a.is a.finds
  answer_suits (Opens name) t (inl a) = replied t _ a.is tt
  answer_suits (Opens name) t (inr a) = replied t _ a.is tt
  answer_suits (Closes name) t (inl a) = replied t _ a.is tt
  answer_suits (Closes name) t (inr a) = replied t _ a.is tt
  answer_suits (AsksIn name text) t a = pin_text_suits name text t a
  answer_suits (Follows name text) t a = follow_suits name text t a
  answer_suits (Nears name id) t (inl a) = replied t _ a.is tt
  answer_suits (Nears name id) t (inr a) = replied t _ a.is (near_suits (a.follow).query a.object a.reply a.finds)
  answer_suits (Unfollows name) t (inl a) = replied t _ a.is tt
  answer_suits (Unfollows name) t (inr a) = replied t _ a.is tt

  turn_suits : (what : Result Reading TextCode) (t : Turn) → TurnOf s.limit s.machine what t → Suits s t.reply
  unfolding TurnOf
  turn_suits (Ok reading) t a = answer_suits reading t a
  turn_suits (Err code) t a = replied t _ a tt

silent_or_not : (reply : Reply) → (reply ≡ Silent → ⊥) ⊎ (reply ≡ Silent)
silent_or_not Silent = inr refl
silent_or_not (Bad code) = inl (λ e. let no : ⊥ = cc in no)
silent_or_not (Refused rule) = inl (λ e. let no : ⊥ = cc in no)
silent_or_not Wide = inl (λ e. let no : ⊥ = cc in no)
silent_or_not (Rows answer) = inl (λ e. let no : ⊥ = cc in no)
silent_or_not (Counted counts) = inl (λ e. let no : ⊥ = cc in no)
silent_or_not (Shown place found) = inl (λ e. let no : ⊥ = cc in no)
silent_or_not (OfPin place answer) = inl (λ e. let no : ⊥ = cc in no)
silent_or_not (PerWatch found) = inl (λ e. let no : ⊥ = cc in no)

-- two sessions with one machine and one limit: what suits the one suits the other
suits_alike : (old new : Standing) (reply : Reply) → new.machine ≡ old.machine → new.limit ≡ old.limit → Suits old reply → Suits new reply
suits_alike old new Silent machine limit h = tt
suits_alike old new (Bad code) machine limit h = tt
suits_alike old new (Refused rule) machine limit h = tt
suits_alike old new Wide machine limit h = tt
suits_alike old new (Rows answer) machine limit h = subst (λ (m : Machine). AreDeclared (length m.graph.objects) answer) (sym machine) h
suits_alike old new (Counted counts) machine limit h = tt
suits_alike old new (Shown place found) machine limit h =
    subst (λ (l : ℕ). IsSomeAnd (slice_get new.machine.watches place) (λ w. FindsFor new.machine.graph l w.query found)) (sym limit)
    (subst (λ (m : Machine). IsSomeAnd (slice_get m.watches place) (λ w. FindsFor m.graph old.limit w.query found)) (sym machine) h)
suits_alike old new (OfPin place answer) machine limit h = subst (λ (m : Machine). IsSomeAnd (slice_get m.pins place) (λ p. AreDeclared (length p.graph.objects) answer)) (sym machine) h
suits_alike old new (PerWatch found) machine limit h =
    subst (λ (l : ℕ). AreTicked new.machine.graph l new.machine.watches found) (sym limit) (subst (λ (m : Machine). AreTicked m.graph old.limit m.watches found) (sym machine) h)

-- a reply that says nothing suits every session, any other the one that it was decided for
suits_new : (old new : Standing) (reply : Reply) → (reply ≡ Silent → ⊥) ⊎ (reply ≡ Silent) → Suits old reply → ((reply ≡ Silent → ⊥) → IsAlike old new) → new.limit ≡ old.limit → Suits new reply
suits_new old new reply (inl some) h waits limit = suits_alike old new reply (waits some).machine limit h
suits_new old new reply (inr none) h waits limit = subst (Suits new) (sym none) tt

pub suits_decided : {E : Type 0} (W : Type 0) (what : Result Reading TextCode) (old new : Standing) (result : Result ReplyValue E) → Decides (TurnOf old.limit old.machine what) W old new result → IfOk result (λ reply. Suits new (line_reply reply))
suits_decided W what old new (Ok reply) d = suits_new old new (line_reply reply) (silent_or_not (line_reply reply)) (turn_suits old what _ d.turns) d.waits d.limit
suits_decided W what old new (Err error) d = tt
