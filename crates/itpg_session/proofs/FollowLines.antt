-- What is decided of the follows for what a line is, is so of the line.
use Rattle.std.proofs.Common.{◌≡◌, ◌≢◌, ◌⊎◌, inl, inr, ℕ, List, sym, subst, ◌∙◌}
use Rattle.std.specs.Prelude.{Result, Ok, Err, IfOk, IsOkAnd, IsSomeAnd}
use Rattle.std.specs.List.{AllZip}
use Rattle.itpg_base.specs.Words.{Word}
use Rattle.itpg_base.specs.declared.text_code.TextCode.{TextCode}
use Rattle.itpg_edit.specs.declared.edit.Edit.{Edit}
use Rattle.itpg_edit.specs.Rules.{Unbroken}
use Rattle.edit_reader.specs.declared.line.Line.{Line}
use Rattle.edit_reader.specs.Readings.{Reading, Nothing, Changes, Asks, Wants, Watches, Shows, Unwatches, Ticks, Opens, Closes, AsksIn, Follows, Nears, Unfollows, reading_of, told as read_as}
use Rattle.relation_rows.specs.Answered.{Answered}
use Rattle.source_rows.specs.Follows.{Follow, HasSource, IsKept}
use Rattle.itpg_session.specs.declared.reply.Reply.{Reply as ReplyValue}
use Rattle.itpg_session.specs.Replies.{Silent, line_reply}
use Rattle.itpg_session.specs.Machine.{Standing}
use Rattle.itpg_session.specs.Steps.{IsAtHand, IsLineAtHand, ShowsKept}
use Rattle.itpg_session.specs.Following.{IsSpared, AddsFollowed, GainsRows, GainsAt, LeavesFollows, LeavesFollowsSo, LeavesFollowsLine, HoldsFollows, HoldsFollowsSo, HoldsFollowsLine}
use Rattle.itpg_session.specs.Following.{SparesLine, SparesUntouched, KeepsOrLacks, KeepsTold, KeepsNear, KeepsNearSo, KeepsNearLine, NearsKept, DecidesFollows, DecidesFollowsSo}
use Rattle.itpg_session.proofs.FollowLeaving.{leaves_same, holds_same}

-- ---- what is decided of what a line is, is so of the line

module _ (old mid new : Standing) (is : new.follows ≡ mid.follows) where
  gains_on : (name id : Word) → GainsRows name id old mid ⊎ (mid.follows ≡ old.follows) → GainsRows name id old new ⊎ (new.follows ≡ old.follows)
  gains_on name id (inl a) = inl (record { place = a.place; named = a.named; object = a.object; is_object = a.is_object; gains = subst (λ (fs : List Follow). GainsAt a.place a.object old.follows fs) (sym is) a.gains })
  gains_on name id (inr a) = inr (is ∙ a)

  leaves_on : (reading : Reading) → LeavesFollows reading old mid → LeavesFollows reading old new
  leaves_on Nothing a = is ∙ a
  leaves_on (Changes edit) (inl a) = inl (subst (λ (fs : List Follow). AllZip (IsSpared old.machine.graph edit) old.follows fs) (sym is) a)
  leaves_on (Changes edit) (inr a) = inr (is ∙ a)
  leaves_on (Asks text) a = is ∙ a
  leaves_on (Wants wanted text) a = is ∙ a
  leaves_on (Watches name text) a = is ∙ a
  leaves_on (Shows name) a = is ∙ a
  leaves_on (Unwatches name) a = is ∙ a
  leaves_on Ticks a = is ∙ a
  leaves_on (Opens name) a = is ∙ a
  leaves_on (Closes name) a = is ∙ a
  leaves_on (AsksIn name text) a = is ∙ a
  leaves_on (Follows name text) (inl a) = inl (subst (λ (fs : List Follow). AddsFollowed name text old.follows fs) (sym is) a)
  leaves_on (Follows name text) (inr a) = inr (is ∙ a)
  leaves_on (Nears name id) a = gains_on name id a
  leaves_on (Unfollows name) (inl a) = inl (is ∙ a)
  leaves_on (Unfollows name) (inr a) = inr (is ∙ a)

  holds_on : (reading : Reading) → HoldsFollows reading old mid → HoldsFollows reading old new
  holds_on Nothing a = is ∙ a
  holds_on (Changes edit) a = is ∙ a
  holds_on (Asks text) a = is ∙ a
  holds_on (Wants wanted text) a = is ∙ a
  holds_on (Watches name text) a = is ∙ a
  holds_on (Shows name) a = is ∙ a
  holds_on (Unwatches name) a = is ∙ a
  holds_on Ticks a = is ∙ a
  holds_on (Opens name) a = is ∙ a
  holds_on (Closes name) a = is ∙ a
  holds_on (AsksIn name text) a = is ∙ a
  holds_on (Follows name text) a = is ∙ a
  holds_on (Nears name id) a = gains_on name id a
  holds_on (Unfollows name) a = is ∙ a

  leaves_so : {E : Type 0} (what : Result Reading TextCode) (result : Result ReplyValue E) → DecidesFollowsSo what old mid result → LeavesFollowsSo what old new
  leaves_so (Ok reading) result d = leaves_on reading d.leaves
  leaves_so (Err code) result d = is ∙ d

  holds_so : (E : Type 0) (what : Result Reading TextCode) (reply : ReplyValue) → line_reply reply ≢ Silent → DecidesFollowsSo {E = E} what old mid (Ok reply) → HoldsFollowsSo what old new
  holds_so E (Ok reading) reply says d = holds_on reading (d.holds says)
  holds_so E (Err code) reply says d = is ∙ d

  spares_so : (E : Type 0) (what : Result Reading TextCode) (reply : ReplyValue) → DecidesFollowsSo {E = E} what old mid (Ok reply) → (edit : Edit) → what ≡ Ok (Changes edit) → Unbroken old.machine.graph edit → SparesUntouched edit old new
  spares_so E what reply d edit same unbroken =
      let own : DecidesFollows {E = E} (Changes edit) old mid (Ok reply) = subst (λ w. DecidesFollowsSo {E = E} w old mid (Ok reply)) same d in
      subst (λ (fs : List Follow). AllZip (IsSpared old.machine.graph edit) old.follows fs) (sym is) (own.spares unbroken)

  kept_on : (place o : ℕ) → KeepsOrLacks place o old mid → KeepsOrLacks place o old new
  kept_on place o (inl kept) = inl (subst (λ (fs : List Follow). IsKept fs place o) (sym is) kept)
  kept_on place o (inr lacks) = inr lacks

  told_on : (name id : Word) → KeepsTold name id old mid → KeepsTold name id old new
  told_on name id k = record { place = k.place; named = k.named; object = k.object; is_object = k.is_object; kept = kept_on k.place k.object k.kept }

  near_on : (reading : Reading) → KeepsNear reading old mid → KeepsNear reading old new
  near_on Nothing k = tt
  near_on (Changes edit) k = tt
  near_on (Asks text) k = tt
  near_on (Wants wanted text) k = tt
  near_on (Watches name text) k = tt
  near_on (Shows name) k = tt
  near_on (Unwatches name) k = tt
  near_on Ticks k = tt
  near_on (Opens name) k = tt
  near_on (Closes name) k = tt
  near_on (AsksIn name text) k = tt
  near_on (Follows name text) k = tt
  near_on (Nears name id) k = λ answer turn. told_on name id (k answer turn)
  near_on (Unfollows name) k = tt

  near_so : (E : Type 0) (what : Result Reading TextCode) (reply : ReplyValue) → DecidesFollowsSo {E = E} what old mid (Ok reply) → KeepsNearSo what old new
  near_so E (Ok reading) reply d = near_on reading d.near
  near_so E (Err code) reply d = tt

module _ (Is : Result Reading TextCode → Type 0) (what : Result Reading TextCode) (only : (other : Result Reading TextCode) → Is other → other ≡ what) (old mid new : Standing) (is : new.follows ≡ mid.follows) where
  pub line_follows : {E : Type 0} (result : Result ReplyValue E) → DecidesFollowsSo what old mid result → LeavesFollowsLine Is old new
  line_follows result d = λ other of. subst (λ w. LeavesFollowsSo w old new) (sym (only other of)) (leaves_so old mid new is what result d)

  pub line_holds : (E : Type 0) (reply : ReplyValue) → line_reply reply ≢ Silent → DecidesFollowsSo {E = E} what old mid (Ok reply) → HoldsFollowsLine Is old new
  line_holds E reply says d = λ other of. subst (λ w. HoldsFollowsSo w old new) (sym (only other of)) (holds_so old mid new is E what reply says d)

  pub line_spares : (E : Type 0) (reply : ReplyValue) → DecidesFollowsSo {E = E} what old mid (Ok reply) → SparesLine Is old new
  line_spares E reply d = λ edit of unbroken. spares_so old mid new is E what reply d edit (sym (only (Ok (Changes edit)) of)) unbroken

  pub line_near : (E : Type 0) (reply : ReplyValue) → DecidesFollowsSo {E = E} what old mid (Ok reply) → KeepsNearLine Is old new
  line_near E reply d = λ other of. subst (λ w. KeepsNearSo w old new) (sym (only other of)) (near_so old mid new is E what reply d)

-- where memory runs out, the follows are as they were
pub wanting_same : {E : Type 0} (what : Result Reading TextCode) (old new : Standing) (error : E) → DecidesFollowsSo {E = E} what old new (Err error) → new.follows ≡ old.follows
wanting_same (Ok reading) old new error d = d.holds
wanting_same (Err code) old new error d = d

-- ---- nothing changes

so_leaves : (what : Result Reading TextCode) (old new : Standing) → new.follows ≡ old.follows → LeavesFollowsSo what old new
so_leaves (Ok reading) old new is = leaves_same reading old new is
so_leaves (Err code) old new is = is

so_holds : (what : Result Reading TextCode) (old new : Standing) → new.follows ≡ old.follows → HoldsFollowsSo what old new
so_holds (Ok reading) old new is = holds_same reading old new is
so_holds (Err code) old new is = is

pub line_left : (Is : Result Reading TextCode → Type 0) (old new : Standing) → new.follows ≡ old.follows → LeavesFollowsLine Is old new
line_left Is old new is = λ what of. so_leaves what old new is

pub line_held : (Is : Result Reading TextCode → Type 0) (old new : Standing) → new.follows ≡ old.follows → HoldsFollowsLine Is old new
line_held Is old new is = λ what of. so_holds what old new is

-- ---- what is kept and asked for

module _ (s : Standing) where
  near_kept : (name id : Word) (answer : Answered) → NearsKept s name id answer → KeepsTold name id s s
  near_kept name id answer k = record {
    place = k.place;
    named = subst (λ o. IsSomeAnd o (λ f. f.name ≡ name)) (sym k.at) k.named;
    object = k.object;
    is_object = k.is_object;
    kept = inl (subst (λ o. IsSomeAnd o (λ f. HasSource f.entries k.object)) (sym k.at) ((k.kept).0, (k.kept).1, (k.kept).2));
  }

  shows_near : (reading : Reading) (answer : Answered) → ShowsKept s reading answer → KeepsNear reading s s
  shows_near Nothing answer k = tt
  shows_near (Changes edit) answer k = tt
  shows_near (Asks text) answer k = tt
  shows_near (Wants wanted text) answer k = tt
  shows_near (Watches name text) answer k = tt
  shows_near (Shows name) answer k = tt
  shows_near (Unwatches name) answer k = tt
  shows_near Ticks answer k = tt
  shows_near (Opens name) answer k = tt
  shows_near (Closes name) answer k = tt
  shows_near (AsksIn name text) answer k = tt
  shows_near (Follows name text) answer k = tt
  shows_near (Nears name id) answer k = λ told turn. near_kept name id answer k
  shows_near (Unfollows name) answer k = tt

  module _ (Is : Result Reading TextCode → Type 0) (what : Result Line TextCode) (only : (other : Result Reading TextCode) → Is other → other ≡ read_as what) where
    -- such a line keeps the rows that are kept
    pub kept_near : (answer : Answered) → IsOkAnd what (λ l. ShowsKept s (reading_of l) answer) → KeepsNearLine Is s s
    kept_near answer kept = by_line what only kept
      where
        by_line : (w : Result Line TextCode) → ((other : Result Reading TextCode) → Is other → other ≡ read_as w) → IsOkAnd w (λ l. ShowsKept s (reading_of l) answer) → KeepsNearLine Is s s
        by_line (Ok l) one k = λ other of. subst (λ (w : Result Reading TextCode). KeepsNearSo w s s) (sym (one other of)) (shows_near (reading_of l) answer k)
        by_line (Err code) one k = absurd k

    -- and is no edit
    pub kept_spares : (answer : Answered) → IsOkAnd what (λ l. ShowsKept s (reading_of l) answer) → SparesLine Is s s
    kept_spares answer kept = by_line what only kept
      where
        by_line : (w : Result Line TextCode) → ((other : Result Reading TextCode) → Is other → other ≡ read_as w) → IsOkAnd w (λ l. ShowsKept s (reading_of l) answer) → SparesLine Is s s
        by_line (Ok l) one k = λ edit of unbroken.
            let same : reading_of l ≡ Changes edit = (let e = one (Ok (Changes edit)) of in cc) in
            absurd (subst (λ (r : Reading). ShowsKept s r answer) same k)
        by_line (Err code) one k = absurd k

    -- what isn't at hand of what the line is, isn't so of the line
    pub not_at_hand : IfOk what (λ l. IsAtHand s (reading_of l) → ⊥) → IsLineAtHand s Is → ⊥
    not_at_hand none hand = by_line what only none
      where
        by_line : (w : Result Line TextCode) → ((other : Result Reading TextCode) → Is other → other ≡ read_as w) → IfOk w (λ l. IsAtHand s (reading_of l) → ⊥) → ⊥
        by_line (Ok l) one n =
            let same : reading_of l ≡ hand.0 = (let e = one (Ok hand.0) hand.1 in cc) in
            n (subst (λ (r : Reading). IsAtHand s r) (sym same) hand.2)
        by_line (Err code) one n = let e = one (Ok hand.0) hand.1 in let no : ⊥ = cc in no
