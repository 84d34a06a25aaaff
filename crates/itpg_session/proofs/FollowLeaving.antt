-- What answering a line leaves of the follows.
use Rattle.std.proofs.Common.{◌≡◌, ◌≢◌, inr, ℕ, List}
use Rattle.std.specs.Prelude.{Result, Ok, Err, OnOk, OnErr}
use Rattle.itpg_base.specs.Words.{Word}
use Rattle.itpg_edit.specs.declared.edit.Edit.{Edit}
use Rattle.itpg_edit.specs.Rules.{Unbroken}
use Rattle.edit_reader.specs.Readings.{Reading, Nothing, Changes, Asks, Wants, Watches, Shows, Unwatches, Ticks, Opens, Closes, AsksIn, Follows, Nears, Unfollows}
use Rattle.itpg_session.specs.declared.reply.Reply.{Reply as ReplyValue}
use Rattle.itpg_session.specs.Replies.{Silent, line_reply}
use Rattle.itpg_session.specs.Machine.{Standing}
use Rattle.itpg_session.specs.Following.{LeavesFollows, HoldsFollows, KeepsIfSaid, HoldsIfSaid}
use Rattle.itpg_session.specs.Following.{SparesRead, SparesUntouched, KeepsNear, DecidesFollows}

-- ---- nothing changes

pub leaves_same : (reading : Reading) (old new : Standing) → new.follows ≡ old.follows → LeavesFollows reading old new
leaves_same Nothing old new is = is
leaves_same (Changes edit) old new is = inr is
leaves_same (Asks text) old new is = is
leaves_same (Wants wanted text) old new is = is
leaves_same (Watches name text) old new is = is
leaves_same (Shows name) old new is = is
leaves_same (Unwatches name) old new is = is
leaves_same Ticks old new is = is
leaves_same (Opens name) old new is = is
leaves_same (Closes name) old new is = is
leaves_same (AsksIn name text) old new is = is
leaves_same (Follows name text) old new is = inr is
leaves_same (Nears name id) old new is = inr is
leaves_same (Unfollows name) old new is = inr is

pub holds_same : (reading : Reading) (old new : Standing) → new.follows ≡ old.follows → HoldsFollows reading old new
holds_same Nothing old new is = is
holds_same (Changes edit) old new is = is
holds_same (Asks text) old new is = is
holds_same (Wants wanted text) old new is = is
holds_same (Watches name text) old new is = is
holds_same (Shows name) old new is = is
holds_same (Unwatches name) old new is = is
holds_same Ticks old new is = is
holds_same (Opens name) old new is = is
holds_same (Closes name) old new is = is
holds_same (AsksIn name text) old new is = is
holds_same (Follows name text) old new is = is
holds_same (Nears name id) old new is = inr is
holds_same (Unfollows name) old new is = is

-- the line is no edit, and doesn't ask for rows from an object
abbrev pub IsApart : Reading → Type 0
IsApart (Changes edit) = ⊥
IsApart (Nears name id) = ⊥
IsApart reading = Unit {0}

apart_spares : (reading : Reading) (old new : Standing) → IsApart reading → SparesRead reading old new
apart_spares Nothing old new apart = tt
apart_spares (Changes edit) old new apart = absurd apart
apart_spares (Asks text) old new apart = tt
apart_spares (Wants wanted text) old new apart = tt
apart_spares (Watches name text) old new apart = tt
apart_spares (Shows name) old new apart = tt
apart_spares (Unwatches name) old new apart = tt
apart_spares Ticks old new apart = tt
apart_spares (Opens name) old new apart = tt
apart_spares (Closes name) old new apart = tt
apart_spares (AsksIn name text) old new apart = tt
apart_spares (Follows name text) old new apart = tt
apart_spares (Nears name id) old new apart = tt
apart_spares (Unfollows name) old new apart = tt

apart_near : (reading : Reading) (old new : Standing) → IsApart reading → KeepsNear reading old new
apart_near Nothing old new apart = tt
apart_near (Changes edit) old new apart = tt
apart_near (Asks text) old new apart = tt
apart_near (Wants wanted text) old new apart = tt
apart_near (Watches name text) old new apart = tt
apart_near (Shows name) old new apart = tt
apart_near (Unwatches name) old new apart = tt
apart_near Ticks old new apart = tt
apart_near (Opens name) old new apart = tt
apart_near (Closes name) old new apart = tt
apart_near (AsksIn name text) old new apart = tt
apart_near (Follows name text) old new apart = tt
apart_near (Nears name id) old new apart = absurd apart
apart_near (Unfollows name) old new apart = tt

on_ok_of : {T E : Type 0} {P : Type 0} (result : Result T E) → P → OnOk result P
on_ok_of (Ok value) p = p
on_ok_of (Err error) p = tt

module _ {E : Type 0} (old new : Standing) (result : Result ReplyValue E) where
  holds_if_same : (reading : Reading) → new.follows ≡ old.follows → HoldsIfSaid reading old new result
  holds_if_same reading is = by_result result
    where
      by_result : (r : Result ReplyValue E) → HoldsIfSaid reading old new r
      by_result (Ok reply) = λ says. holds_same reading old new is
      by_result (Err error) = is

  -- such a line leaves the follows
  pub apart_follows : (reading : Reading) → IsApart reading → new.follows ≡ old.follows → DecidesFollows reading old new result
  apart_follows reading apart is = record {
    leaves = leaves_same reading old new is;
    spares = on_ok_of result (apart_spares reading old new apart);
    near = on_ok_of result (apart_near reading old new apart);
    holds = holds_if_same reading is;
  }

-- ---- the lines that change something

module _ {E : Type 0} (old new : Standing) where
  pub edit_follows : (edit : Edit) (result : Result ReplyValue E) → LeavesFollows (Changes edit) old new → OnOk result (Unbroken old.machine.graph edit → SparesUntouched edit old new) → KeepsIfSaid old new result → DecidesFollows (Changes edit) old new result
  edit_follows edit (Ok reply) leaves spares holds = record { leaves = leaves; spares = spares; near = tt; holds = holds }
  edit_follows edit (Err error) leaves spares holds = record { leaves = leaves; spares = tt; near = tt; holds = holds }

  pub follow_follows : (name : Word) (text : List ℕ) (result : Result ReplyValue E) → LeavesFollows (Follows name text) old new → KeepsIfSaid old new result → DecidesFollows (Follows name text) old new result
  follow_follows name text (Ok reply) leaves holds = record { leaves = leaves; spares = tt; near = tt; holds = holds }
  follow_follows name text (Err error) leaves holds = record { leaves = leaves; spares = tt; near = tt; holds = holds }

  pub near_follows : (name id : Word) (result : Result ReplyValue E) → LeavesFollows (Nears name id) old new → OnOk result (KeepsNear (Nears name id) old new) → OnErr result (new.follows ≡ old.follows) → DecidesFollows (Nears name id) old new result
  near_follows name id (Ok reply) leaves near same = record { leaves = leaves; spares = tt; near = near; holds = λ says. leaves }
  near_follows name id (Err error) leaves near same = record { leaves = leaves; spares = tt; near = tt; holds = same }

  pub unfollow_follows : (name : Word) (reply : ReplyValue) → LeavesFollows (Unfollows name) old new → (line_reply reply ≢ Silent → new.follows ≡ old.follows) → DecidesFollows {E = E} (Unfollows name) old new (Ok reply)
  unfollow_follows name reply leaves holds = record { leaves = leaves; spares = tt; near = tt; holds = holds }
