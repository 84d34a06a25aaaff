-- What was worked out for a watch that became fresh in a step is kept.
use Rattle.std.proofs.Common.{◌≡◌, ◌≢◌, ◌⊎◌, inl, inr, ⊎_elim, ℕ, zero, suc, List, [], ◌∷◌, ◌++◌, true, false, Option, Some, None, refl, sym, ap, subst, ◌∙◌}
use Rattle.std.specs.Prelude.{Result, Ok, Err, slice_get, IfOk, IsSomeAnd, is_some}
use Rattle.itpg_base.specs.Words.{Word}
use Rattle.itpg_base.specs.Graphs.{Graph}
use Rattle.itpg_base.specs.Lists.{Among}
use Rattle.itpg_base.proofs.Lists.{among_append}
use Rattle.itpg_base.specs.declared.touch.Touch.{Touch}
use Rattle.itpg_base.specs.declared.text_code.TextCode.{TextCode}
use Rattle.itpg_base.specs.declared.text_code.TextCode.TheVariants.{Names}
use Rattle.edit_reader.specs.Readings.{Reading, Nothing, Changes, Asks, Wants, Watches, Shows, Unwatches, Ticks, Opens, Closes, AsksIn, Follows, Nears, Unfollows}
use Rattle.edit_reader.specs.declared.line.Wanted.{Wanted}
use Rattle.path_ast.specs.Terms.{QueryTerm}
use Rattle.label_scope.specs.declared.scope.Scope.TheVariants.{All}
use Rattle.label_scope.specs.Footprints.{footprint}
use Rattle.label_scope.specs.Touching.{Meets}
use Rattle.plan_cache.specs.Nodes.{Table}
use Rattle.relation_rows.specs.Answered.{Answered}
use Rattle.standing_queries.specs.Watches.{Watch}
use Rattle.itpg_session.specs.PlainWatches.{PlainWatch, all_plain, IsMarkedAfter, AreMarkedAfter, new_watch, without, marked_at}
use Rattle.itpg_session.specs.Ticks.{Ticked, StaysWide, Moves, moved, all_moved}
use Rattle.itpg_session.specs.declared.reply.Reply.{Reply as ReplyValue}
use Rattle.itpg_session.specs.Replies.{Reply, line_reply, Silent, Bad, Refused, Wide, Rows, Counted, Shown, OfPin, PerWatch, IsFoundNear, IsReply, IsReplyTo, of_pin}
use Rattle.itpg_session.specs.Wanting.{IsReplyWanted}
use Rattle.itpg_session.specs.Keeping.{KeepsPath, KeepsFound, KeepsTicked, KeepAllTicked}
use Rattle.itpg_session.specs.Machine.{Machine, Standing, Turn, Answers, TurnOf, WatchesText, AsksPinText, FollowsText, told, after, quiet_turn}
use Rattle.itpg_session.specs.Steps.{StandsAs, IsDecided, Decides, WasFresh, KeepsFresh, KeepsReply}
use Rattle.itpg_session.proofs.NamedLists.{left_among}
use Rattle.itpg_session.proofs.WantedReplies.{each_wanted}

-- each of these fresh watches was fresh among those
abbrev NoneFresher : List PlainWatch → List PlainWatch → Type 0
NoneFresher old new = (w : PlainWatch) → Among new w → w.fresh ≡ true → WasFresh old w

-- ---- no watch becomes fresh

none_same : (ws : List PlainWatch) → NoneFresher ws ws
none_same ws w a fresh = (w, a, refl, refl, fresh)

one_marked : (touch : Touch) (v w : PlainWatch) → IsMarkedAfter touch v w → w.fresh ≡ true → (v.name ≡ w.name) × (v.query ≡ w.query) × (v.fresh ≡ true)
one_marked touch v w is fresh =
    let unmet : Meets (footprint v.query.path All All) touch → ⊥ = λ met. let gone : w.fresh ≡ false = is.gone met in let no : ⊥ = cc in no in
    (ap (λ (u : PlainWatch). u.name) (sym is.same), ap (λ (u : PlainWatch). u.query) (sym is.same), sym (is.stays unmet) ∙ fresh)

none_marked : (touch : Touch) (old new : List PlainWatch) → AreMarkedAfter touch old new → NoneFresher old new
none_marked touch [] [] h w a fresh = absurd a
none_marked touch [] (y ∷ new) h w a fresh = absurd h
none_marked touch (x ∷ old) [] h w a fresh = absurd h
none_marked touch (x ∷ old) (y ∷ new) h w (inl e) fresh =
    let m = one_marked touch x y h.0 (ap (λ (u : PlainWatch). u.fresh) e ∙ fresh) in
    (x, inl refl, m.0 ∙ ap (λ (u : PlainWatch). u.name) e, m.1 ∙ ap (λ (u : PlainWatch). u.query) e, m.2)
none_marked touch (x ∷ old) (y ∷ new) h w (inr a) fresh = let r = none_marked touch old new h.1 w a fresh in (r.0, inr r.1, r.2, r.3, r.4)

none_added : (ws : List PlainWatch) (name : Word) (q : QueryTerm) → NoneFresher ws (ws ++ new_watch name q ∷ [])
none_added ws name q w a fresh =
    ⊎_elim (λ h. (w, h, refl, refl, fresh)) (λ l. ⊎_elim (λ e. let stale : false ≡ true = ap (λ (u : PlainWatch). u.fresh) e ∙ fresh in let no : ⊥ = cc in absurd no) (λ k. absurd k) l) (among_append ws (new_watch name q ∷ []) w a)

none_without : (name : Word) (ws : List PlainWatch) → NoneFresher ws (without name ws)
none_without name ws w a fresh = (w, left_among (λ (w : PlainWatch). w.name) name ws w a, refl, refl, fresh)

-- a turn that says nothing makes no watch fresh
module _ (limit : ℕ) (m : Machine) where
  -- the turn leaves these watches, and says nothing
  left : (n : Machine) (t : Turn) → told n Silent ≡ t → t.next ≡ n
  left n t is = ap (λ (u : Turn). u.next) (sym is)

  same_watches : (n k : Machine) (t : Turn) → told n Silent ≡ t → t ≡ quiet_turn k → NoneFresher m.watches k.watches → NoneFresher m.watches n.watches
  same_watches n k t is quiet none = subst (λ (x : Machine). NoneFresher m.watches x.watches) (sym (ap (λ (u : Turn). u.next) (is ∙ quiet))) none

  says : (n : Machine) (t : Turn) (reply : Reply) → told n Silent ≡ t → t ≡ told m reply → Silent ≡ reply
  says n t reply is other = ap (λ (u : Turn). u.reply) (is ∙ other)

  silent_text : (n : Machine) (t : Turn) (name : Word) (text : List ℕ) → told n Silent ≡ t → WatchesText m name text t → NoneFresher m.watches n.watches
  silent_text n t name text is (inl (code, fault, e)) = absurd (let s = says n t (Bad code) is e in let no : ⊥ = cc in no)
  silent_text n t name text is (inr (q, reads, inl refused)) = absurd (let s = says n t (Refused refused.rule) is refused.is in let no : ⊥ = cc in no)
  silent_text n t name text is (inr (q, reads, inr added)) = same_watches n _ t is added.is (none_added m.watches name q)

  silent_asked : (n : Machine) (text : List ℕ) (reply : Reply) → Silent ≡ reply → IsReply m.graph limit text reply → ⊥
  silent_asked n text Silent e (q, reads, a) = absurd a.1
  silent_asked n text (Bad code) e a = let no : ⊥ = cc in no
  silent_asked n text (Refused rule) e a = let no : ⊥ = cc in no
  silent_asked n text Wide e a = let no : ⊥ = cc in no
  silent_asked n text (Rows answer) e a = let no : ⊥ = cc in no
  silent_asked n text (Counted counts) e a = let no : ⊥ = cc in no
  silent_asked n text (Shown place found) e a = let no : ⊥ = cc in no
  silent_asked n text (OfPin place answer) e a = let no : ⊥ = cc in no
  silent_asked n text (PerWatch found) e a = let no : ⊥ = cc in no

  silent_of_pin : (g : Graph) (q : QueryTerm) (place : ℕ) (reply : Reply) → Silent ≡ of_pin place reply → IsReplyTo g limit q reply → ⊥
  silent_of_pin g q place Silent e a = absurd a.1
  silent_of_pin g q place (Bad code) e a = let no : ⊥ = cc in no
  silent_of_pin g q place (Refused rule) e a = let no : ⊥ = cc in no
  silent_of_pin g q place Wide e a = let no : ⊥ = cc in no
  silent_of_pin g q place (Rows answer) e a = let no : ⊥ = cc in no
  silent_of_pin g q place (Counted counts) e a = let no : ⊥ = cc in no
  silent_of_pin g q place (Shown i found) e a = let no : ⊥ = cc in no
  silent_of_pin g q place (OfPin i answer) e a = let no : ⊥ = cc in no
  silent_of_pin g q place (PerWatch found) e a = let no : ⊥ = cc in no

  silent_pin : (n : Machine) (t : Turn) (name : Word) (text : List ℕ) → told n Silent ≡ t → AsksPinText limit m name text t → ⊥
  silent_pin n t name text is (inl (code, fault, e)) = let s = says n t (Bad code) is e in let no : ⊥ = cc in no
  silent_pin n t name text is (inr (q, reads, inl refused)) = let s = says n t (Refused refused.rule) is refused.is in let no : ⊥ = cc in no
  silent_pin n t name text is (inr (q, reads, inr a)) = silent_of_pin a.pin.graph q a.place a.reply (says n t (of_pin a.place a.reply) is a.is) a.replies

  silent_follow : (n : Machine) (t : Turn) (name : Word) (text : List ℕ) → told n Silent ≡ t → FollowsText m name text t → NoneFresher m.watches n.watches
  silent_follow n t name text is (inl (code, fault, e)) = absurd (let s = says n t (Bad code) is e in let no : ⊥ = cc in no)
  silent_follow n t name text is (inr (q, reads, inl (one, e))) = absurd (let s = says n t (Bad Names) is e in let no : ⊥ = cc in no)
  silent_follow n t name text is (inr (q, reads, inr (both, inl refused))) = absurd (let s = says n t (Refused refused.rule) is refused.is in let no : ⊥ = cc in no)
  silent_follow n t name text is (inr (q, reads, inr (both, inr added))) = same_watches n _ t is added.is (none_same m.watches)

  silent_near : (q : QueryTerm) (o : ℕ) (reply : Reply) → IsFoundNear m.graph limit q o reply → Silent ≡ reply → ⊥
  silent_near q o Silent a e = absurd a
  silent_near q o (Bad code) a e = absurd a
  silent_near q o (Refused rule) a e = absurd a
  silent_near q o Wide a e = let no : ⊥ = cc in no
  silent_near q o (Rows answer) a e = let no : ⊥ = cc in no
  silent_near q o (Counted counts) a e = absurd a
  silent_near q o (Shown i found) a e = absurd a
  silent_near q o (OfPin i answer) a e = absurd a
  silent_near q o (PerWatch found) a e = absurd a

  silent_wanted : (wanted : Wanted) (text : List ℕ) (reply : Reply) → IsReplyWanted m.graph limit wanted text reply → Silent ≡ reply → ⊥
  silent_wanted = each_wanted m.graph limit (λ reply. Silent ≡ reply → ⊥) (λ code e. let no : ⊥ = cc in no) (λ rule e. let no : ⊥ = cc in no) (λ e. let no : ⊥ = cc in no) (λ counts e. let no : ⊥ = cc in no)
      (λ rows declared e. let no : ⊥ = cc in no)

  silent_answer : (n : Machine) (t : Turn) (reading : Reading) → told n Silent ≡ t → Answers limit m reading t → NoneFresher m.watches n.watches
  unfolding Answers
  silent_answer n t Nothing is a = same_watches n m t is a (none_same m.watches)
  silent_answer n t (Changes edit) is (inl refused) = absurd (let s = says n t (Refused refused.rule) is refused.is in let no : ⊥ = cc in no)
  silent_answer n t (Changes edit) is (inr made) = same_watches n _ t is made.is (none_marked made.touch m.watches made.watches made.marked)
  silent_answer n t (Asks text) is a = absurd (silent_asked n text a.reply (says n t a.reply is a.is) a.replies)
  silent_answer n t (Wants wanted text) is a = absurd (silent_wanted wanted text a.reply a.replies (says n t a.reply is a.is))
  silent_answer n t (Watches name text) is a = silent_text n t name text is a
  silent_answer n t (Shows name) is (inl refused) = absurd (let s = says n t (Refused refused.rule) is refused.is in let no : ⊥ = cc in no)
  silent_answer n t (Shows name) is (inr shown) = absurd (let s = says n t (Shown shown.place shown.found) is shown.is in let no : ⊥ = cc in no)
  silent_answer n t (Unwatches name) is (inl refused) = absurd (let s = says n t (Refused refused.rule) is refused.is in let no : ⊥ = cc in no)
  silent_answer n t (Unwatches name) is (inr dropped) = same_watches n _ t is dropped.is (none_without name m.watches)
  silent_answer n t Ticks is (inl refused) = absurd (let s = says n t (Refused refused.rule) is refused.is in let no : ⊥ = cc in no)
  silent_answer n t Ticks is (inr ticks) = absurd (let s = says n t (PerWatch ticks.found) is ticks.is in let no : ⊥ = cc in no)
  silent_answer n t (Opens name) is (inl refused) = absurd (let s = says n t (Refused refused.rule) is refused.is in let no : ⊥ = cc in no)
  silent_answer n t (Opens name) is (inr opened) = same_watches n _ t is opened.is (none_same m.watches)
  silent_answer n t (Closes name) is (inl refused) = absurd (let s = says n t (Refused refused.rule) is refused.is in let no : ⊥ = cc in no)
  silent_answer n t (Closes name) is (inr closed) = same_watches n _ t is closed.is (none_same m.watches)
  silent_answer n t (AsksIn name text) is a = absurd (silent_pin n t name text is a)
  silent_answer n t (Follows name text) is a = silent_follow n t name text is a
  silent_answer n t (Nears name id) is (inl refused) = absurd (let s = says n t (Refused refused.rule) is refused.is in let no : ⊥ = cc in no)
  silent_answer n t (Nears name id) is (inr near) = absurd (silent_near (near.follow).query near.object near.reply near.finds (says n t near.reply is near.is))
  silent_answer n t (Unfollows name) is (inl refused) = absurd (let s = says n t (Refused refused.rule) is refused.is in let no : ⊥ = cc in no)
  silent_answer n t (Unfollows name) is (inr dropped) = same_watches n _ t is dropped.is (none_same m.watches)

  silent_turn : (n : Machine) (what : Result Reading TextCode) → TurnOf limit m what (told n Silent) → NoneFresher m.watches n.watches
  unfolding TurnOf
  silent_turn n (Ok reading) a = silent_answer n (told n Silent) reading refl a
  silent_turn n (Err code) a = absurd (let s = says n (told n Silent) (Bad code) refl a in let no : ⊥ = cc in no)

-- ---- a watch that is shown, and a tick

abbrev FreshOrKept : Graph → Table → List PlainWatch → List PlainWatch → Type 0
FreshOrKept g table old new = (w : PlainWatch) → Among new w → w.fresh ≡ true → WasFresh old w ⊎ KeepsPath g w.query.path table

one_further : (x : PlainWatch) (old : List PlainWatch) (w : PlainWatch) → WasFresh old w → WasFresh (x ∷ old) w
one_further x old w h = (h.0, inr h.1, h.2, h.3, h.4)

shown_fresh : (g : Graph) (table : Table) (ws : List PlainWatch) (place : ℕ) (found : Option Answered) → IsSomeAnd (slice_get ws place) (λ w. KeepsFound g table w found) → FreshOrKept g table ws (marked_at place (is_some found) ws)
shown_fresh g table [] place found keeps w a fresh = absurd a
shown_fresh g table (x ∷ ws) zero None keeps w (inl e) fresh = let stale : false ≡ true = ap (λ (u : PlainWatch). u.fresh) e ∙ fresh in let no : ⊥ = cc in absurd no
shown_fresh g table (x ∷ ws) zero (Some answer) keeps w (inl e) fresh = inr (subst (λ (q : QueryTerm). KeepsPath g q.path table) (ap (λ (u : PlainWatch). u.query) e) keeps)
shown_fresh g table (x ∷ ws) zero found keeps w (inr a) fresh = inl (w, inr a, refl, refl, fresh)
shown_fresh g table (x ∷ ws) (suc place) found keeps w (inl e) fresh = inl (w, inl e, refl, refl, fresh)
shown_fresh g table (x ∷ ws) (suc place) found keeps w (inr a) fresh = ⊎_elim (λ h. inl (one_further x ws w h)) (λ k. inr k) (shown_fresh g table ws place found keeps w a fresh)

one_ticked : (g : Graph) (table : Table) (x : PlainWatch) (found : Ticked) (w : PlainWatch) → KeepsTicked g table x found → moved x found ≡ w → w.fresh ≡ true → ((x.name ≡ w.name) × (x.query ≡ w.query) × (x.fresh ≡ true)) ⊎ KeepsPath g w.query.path table
one_ticked g table x (StaysWide name) w keeps e fresh = let stale : false ≡ true = ap (λ (u : PlainWatch). u.fresh) e ∙ fresh in let no : ⊥ = cc in absurd no
one_ticked g table x (Moves name now gained lost) w (inl was) e fresh = inl (ap (λ (u : PlainWatch). u.name) e, ap (λ (u : PlainWatch). u.query) e, was)
one_ticked g table x (Moves name now gained lost) w (inr keeps) e fresh = inr (subst (λ (q : QueryTerm). KeepsPath g q.path table) (ap (λ (u : PlainWatch). u.query) e) keeps)

ticked_fresh : (g : Graph) (table : Table) (ws : List PlainWatch) (xs : List Ticked) → KeepAllTicked g table ws xs → FreshOrKept g table ws (all_moved ws xs)
ticked_fresh g table [] xs keeps w a fresh = absurd a
ticked_fresh g table (x ∷ ws) [] keeps w a fresh = inl (w, a, refl, refl, fresh)
ticked_fresh g table (x ∷ ws) (y ∷ xs) keeps w (inl e) fresh = ⊎_elim (λ h. inl (x, inl refl, h.0, h.1, h.2)) (λ k. inr k) (one_ticked g table x y w keeps.0 e fresh)
ticked_fresh g table (x ∷ ws) (y ∷ xs) keeps w (inr a) fresh = ⊎_elim (λ h. inl (one_further x ws w h)) (λ k. inr k) (ticked_fresh g table ws xs keeps.1 w a fresh)

-- ---- a step

was_fresh : (g : Graph) (table : Table) (old new : List PlainWatch) → NoneFresher old new → FreshOrKept g table old new
was_fresh g table old new none w a fresh = inl (none w a fresh)

-- the machine after a reply that says something
replied_fresh : (m : Machine) (table : Table) (reply : Reply) → (reply ≡ Silent → ⊥) → (s : Standing) → s.machine ≡ m → s.table ≡ table → KeepsReply reply s → FreshOrKept (after m reply).graph table m.watches (after m reply).watches
replied_fresh m table Silent some s is at keeps = absurd (some refl)
replied_fresh m table (Bad code) some s is at keeps = was_fresh m.graph table m.watches m.watches (none_same m.watches)
replied_fresh m table (Refused rule) some s is at keeps = was_fresh m.graph table m.watches m.watches (none_same m.watches)
replied_fresh m table Wide some s is at keeps = was_fresh m.graph table m.watches m.watches (none_same m.watches)
replied_fresh m table (Rows answer) some s is at keeps = was_fresh m.graph table m.watches m.watches (none_same m.watches)
replied_fresh m table (Counted counts) some s is at keeps = was_fresh m.graph table m.watches m.watches (none_same m.watches)
replied_fresh m table (Shown place found) some s is at keeps =
    shown_fresh m.graph table m.watches place found
    (subst (λ (t : Table). IsSomeAnd (slice_get m.watches place) (λ w. KeepsFound m.graph t w found)) at (subst (λ (n : Machine). IsSomeAnd (slice_get n.watches place) (λ w. KeepsFound n.graph s.table w found)) is keeps))
replied_fresh m table (OfPin place answer) some s is at keeps = was_fresh m.graph table m.watches m.watches (none_same m.watches)
replied_fresh m table (PerWatch found) some s is at keeps =
    ticked_fresh m.graph table m.watches found (subst (λ (t : Table). KeepAllTicked m.graph t m.watches found) at (subst (λ (n : Machine). KeepAllTicked n.graph s.table n.watches found) is keeps))

silent_is : (reply : Reply) → (reply ≡ Silent) ⊎ (reply ≢ Silent)
silent_is Silent = inl refl
silent_is (Bad code) = inr (λ e. let no : ⊥ = cc in no)
silent_is (Refused rule) = inr (λ e. let no : ⊥ = cc in no)
silent_is Wide = inr (λ e. let no : ⊥ = cc in no)
silent_is (Rows answer) = inr (λ e. let no : ⊥ = cc in no)
silent_is (Counted counts) = inr (λ e. let no : ⊥ = cc in no)
silent_is (Shown place found) = inr (λ e. let no : ⊥ = cc in no)
silent_is (OfPin place answer) = inr (λ e. let no : ⊥ = cc in no)
silent_is (PerWatch found) = inr (λ e. let no : ⊥ = cc in no)

pub step_fresh : (what : Result Reading TextCode) (old mid new : Standing) (reply : Reply) (limit : ℕ) → IsDecided (TurnOf old.limit old.machine what) old mid reply → KeepsReply reply mid
    → new.table ≡ mid.table → StandsAs new (after mid.machine reply) limit → KeepsFresh old new
step_fresh what old mid new reply limit d keeps table stands = by_reply (silent_is reply)
  where
    by_reply : (reply ≡ Silent) ⊎ (reply ≢ Silent) → KeepsFresh old new
    by_reply (inl e) =
        let turn : TurnOf old.limit old.machine what (told mid.machine Silent) = subst (λ (r : Reply). TurnOf old.limit old.machine what (told mid.machine r)) e d.turns in
        let next : new.machine ≡ mid.machine = stands.machine ∙ ap (after mid.machine) e in
        λ w a fresh. inl (silent_turn old.limit old.machine mid.machine what turn w (subst (λ (n : Machine). Among n.watches w) next a) fresh)
    by_reply (inr some) =
        let alike = d.waits some in
        let next : new.machine ≡ after old.machine reply = stands.machine ∙ ap (λ (n : Machine). after n reply) alike.machine in
        let kept : FreshOrKept (after old.machine reply).graph new.table old.machine.watches (after old.machine reply).watches = replied_fresh old.machine new.table reply some mid alike.machine (sym table) keeps in
        subst (λ (n : Machine). FreshOrKept n.graph new.table old.machine.watches n.watches) (sym next) kept

pub fresh_same : (s : Standing) → KeepsFresh s s
fresh_same s w a fresh = inl (w, a, refl, refl, fresh)

-- ---- replies to other lines have nothing worked out for a watch

replied_keeps : (s : Standing) (t u : Turn) → t ≡ u → KeepsReply u.reply s → KeepsReply t.reply s
replied_keeps s t u is h = subst (λ (v : Turn). KeepsReply v.reply s) (sym is) h

pub asked_keeps : (g : Graph) (limit : ℕ) (s : Standing) (text : List ℕ) (reply : Reply) → IsReply g limit text reply → KeepsReply reply s
asked_keeps g limit s text Silent a = tt
asked_keeps g limit s text (Bad code) a = tt
asked_keeps g limit s text (Refused rule) a = tt
asked_keeps g limit s text Wide a = tt
asked_keeps g limit s text (Rows answer) a = tt
asked_keeps g limit s text (Counted counts) (q, reads, a) = absurd a.1
asked_keeps g limit s text (Shown place found) (q, reads, a) = absurd a.1
asked_keeps g limit s text (OfPin place answer) (q, reads, a) = absurd a.1
asked_keeps g limit s text (PerWatch found) (q, reads, a) = absurd a.1

pub wanted_keeps : (g : Graph) (limit : ℕ) (s : Standing) (wanted : Wanted) (text : List ℕ) (reply : Reply) → IsReplyWanted g limit wanted text reply → KeepsReply reply s
wanted_keeps g limit s = each_wanted g limit (λ reply. KeepsReply reply s) (λ code. tt) (λ rule. tt) tt (λ counts. tt) (λ rows declared. tt)

text_keeps : (m : Machine) (s : Standing) (name : Word) (text : List ℕ) (t : Turn) → WatchesText m name text t → KeepsReply t.reply s
text_keeps m s name text t (inl (code, fault, is)) = replied_keeps s t _ is tt
text_keeps m s name text t (inr (q, reads, inl refused)) = replied_keeps s t _ refused.is tt
text_keeps m s name text t (inr (q, reads, inr added)) = replied_keeps s t _ added.is tt

of_pin_keeps : (g : Graph) (limit : ℕ) (s : Standing) (q : QueryTerm) (place : ℕ) (reply : Reply) → IsReplyTo g limit q reply → KeepsReply (of_pin place reply) s
of_pin_keeps g limit s q place Silent a = tt
of_pin_keeps g limit s q place (Bad code) a = tt
of_pin_keeps g limit s q place (Refused rule) a = tt
of_pin_keeps g limit s q place Wide a = tt
of_pin_keeps g limit s q place (Rows answer) a = tt
of_pin_keeps g limit s q place (Counted counts) a = tt
of_pin_keeps g limit s q place (Shown i found) a = absurd a.1
of_pin_keeps g limit s q place (OfPin i answer) a = tt
of_pin_keeps g limit s q place (PerWatch found) a = absurd a.1

pin_keeps : (limit : ℕ) (m : Machine) (s : Standing) (name : Word) (text : List ℕ) (t : Turn) → AsksPinText limit m name text t → KeepsReply t.reply s
pin_keeps limit m s name text t (inl (code, fault, is)) = replied_keeps s t _ is tt
pin_keeps limit m s name text t (inr (q, reads, inl refused)) = replied_keeps s t _ refused.is tt
pin_keeps limit m s name text t (inr (q, reads, inr a)) = replied_keeps s t _ a.is (of_pin_keeps a.pin.graph limit s q a.place a.reply a.replies)

follow_keeps : (m : Machine) (s : Standing) (name : Word) (text : List ℕ) (t : Turn) → FollowsText m name text t → KeepsReply t.reply s
follow_keeps m s name text t (inl (code, fault, is)) = replied_keeps s t _ is tt
follow_keeps m s name text t (inr (q, reads, inl (one, is))) = replied_keeps s t _ is tt
follow_keeps m s name text t (inr (q, reads, inr (both, inl refused))) = replied_keeps s t _ refused.is tt
follow_keeps m s name text t (inr (q, reads, inr (both, inr added))) = replied_keeps s t _ added.is tt

near_keeps : (g : Graph) (limit : ℕ) (s : Standing) (q : QueryTerm) (o : ℕ) (reply : Reply) → IsFoundNear g limit q o reply → KeepsReply reply s
near_keeps g limit s q o Silent a = absurd a
near_keeps g limit s q o (Bad code) a = absurd a
near_keeps g limit s q o (Refused rule) a = absurd a
near_keeps g limit s q o Wide a = tt
near_keeps g limit s q o (Rows answer) a = tt
near_keeps g limit s q o (Counted counts) a = absurd a
near_keeps g limit s q o (Shown i found) a = absurd a
near_keeps g limit s q o (OfPin i answer) a = absurd a
near_keeps g limit s q o (PerWatch found) a = absurd a

-- the reading shows no watch and is no tick
abbrev pub IsOther : Reading → Type 0
IsOther (Shows name) = ⊥
IsOther Ticks = ⊥
IsOther reading = Unit {0}

other_keeps : (limit : ℕ) (m : Machine) (s : Standing) (reading : Reading) → IsOther reading → (t : Turn) → Answers limit m reading t → KeepsReply t.reply s
unfolding Answers
other_keeps limit m s Nothing o t a = replied_keeps s t _ a tt
other_keeps limit m s (Changes edit) o t (inl refused) = replied_keeps s t _ refused.is tt
other_keeps limit m s (Changes edit) o t (inr made) = replied_keeps s t _ made.is tt
other_keeps limit m s (Asks text) o t a = replied_keeps s t _ a.is (asked_keeps m.graph limit s text a.reply a.replies)
other_keeps limit m s (Wants wanted text) o t a = replied_keeps s t _ a.is (wanted_keeps m.graph limit s wanted text a.reply a.replies)
other_keeps limit m s (Watches name text) o t a = text_keeps m s name text t a
other_keeps limit m s (Shows name) o t a = absurd o
other_keeps limit m s (Unwatches name) o t (inl refused) = replied_keeps s t _ refused.is tt
other_keeps limit m s (Unwatches name) o t (inr dropped) = replied_keeps s t _ dropped.is tt
other_keeps limit m s Ticks o t a = absurd o
other_keeps limit m s (Opens name) o t (inl refused) = replied_keeps s t _ refused.is tt
other_keeps limit m s (Opens name) o t (inr opened) = replied_keeps s t _ opened.is tt
other_keeps limit m s (Closes name) o t (inl refused) = replied_keeps s t _ refused.is tt
other_keeps limit m s (Closes name) o t (inr closed) = replied_keeps s t _ closed.is tt
other_keeps limit m s (AsksIn name text) o t a = pin_keeps limit m s name text t a
other_keeps limit m s (Follows name text) o t a = follow_keeps m s name text t a
other_keeps limit m s (Nears name id) o t (inl refused) = replied_keeps s t _ refused.is tt
other_keeps limit m s (Nears name id) o t (inr near) = replied_keeps s t _ near.is (near_keeps m.graph limit s (near.follow).query near.object near.reply near.finds)
other_keeps limit m s (Unfollows name) o t (inl refused) = replied_keeps s t _ refused.is tt
other_keeps limit m s (Unfollows name) o t (inr dropped) = replied_keeps s t _ dropped.is tt

pub decided_keeps : {E : Type 0} (W : Type 0) (reading : Reading) → IsOther reading → (old new : Standing) (result : Result ReplyValue E) → Decides (Answers old.limit old.machine reading) W old new result → IfOk result (λ reply. KeepsReply (line_reply reply) new)
decided_keeps W reading o old new (Ok reply) d = other_keeps old.limit old.machine new reading o _ d.turns
decided_keeps W reading o old new (Err error) d = tt

pub one_keeps : (reading : Reading) → IsOther reading → (old new : Standing) (reply : Reply) → IsDecided (Answers old.limit old.machine reading) old new reply → KeepsReply reply new
one_keeps reading o old new reply d = other_keeps old.limit old.machine new reading o _ d.turns

-- the watch at a place has this query
pub query_at : (P : QueryTerm → Type 0) (ws : List Watch) (place : ℕ) (q : QueryTerm) → IsSomeAnd (slice_get ws place) (λ w. w.query ≡ q) → P q → IsSomeAnd (slice_get (all_plain ws) place) (λ w. P w.query)
query_at P [] place q is p = absurd is
query_at P (w ∷ ws) zero q is p = subst P (sym is) p
query_at P (w ∷ ws) (suc place) q is p = query_at P ws place q is p
