use Rattle.std.proofs.Common.{◌≡◌, refl, sym, subst}
use Rattle.itpg_edit.specs.declared.edit.Edit.{Edit}
use Rattle.itpg_edit.specs.Rules.{Unbroken}
use Rattle.edit_reader.specs.Readings.{Nothing, Changes, Asks, Wants, Watches, Shows, Unwatches, Ticks, Opens, Closes, AsksIn, Follows, Nears, Unfollows, reading_of}
use Rattle.edit_reader.specs.declared.line.Wanted.TheVariants.{First, Last, Count}
use Rattle.itpg_session.specs.Steps.{ForgetsEdit}
use Rattle.itpg_session.proofs.Written.{if_ok}
use Rattle.itpg_session.proofs.KeptFresh.{decided_keeps, one_keeps, asked_keeps, wanted_keeps}
use Rattle.itpg_session.proofs.Outcomes.{wanted_decides, wanted_kept}
use Rattle.itpg_session.specs.Replies.{Silent, Rows, reply_of}
use Rattle.itpg_session.proofs.Answering.{blank_answers, asks_answers, asked_asks, watches_answers, shows_answers, unwatches_answers, ticks_answers, opens_answers, closes_answers, asks_in_answers, follows_answers, nears_answers, unfollows_answers}
use Rattle.itpg_session.proofs.Told.{decided_as, decides_as, said, said_alike}
use Rattle.itpg_session.proofs.FollowLeaving.{apart_follows, follow_follows, near_follows, unfollow_follows}
use Rattle.itpg_session.proofs.session.Session.decide_read.Goals as goal

pub returns-in-Blank-clause-decides : goal.returns-in-Blank-clause-decides
returns-in-Blank-clause-decides c = rw (c.in-Blank.is) (said c.args.self.now Silent (blank_answers c.args.self.now.limit c.args.self.now.machine))

pub returns-in-Watch-clause-decides : goal.returns-in-Watch-clause-decides
returns-in-Watch-clause-decides c = rw (c.in-Watch.is) (decides_as c.args.self.now c.watch.new.self (watches_answers c.args.self.now.limit c.args.self.now.machine _ _) (λ u. u) c.watch.result c.watch.ensures.decides)

pub returns-in-Show-clause-decides : goal.returns-in-Show-clause-decides
returns-in-Show-clause-decides c = rw (c.in-Show.is) (decides_as c.args.self.now c.show.new.self (shows_answers c.args.self.now.limit c.args.self.now.machine _) (λ w. w) c.show.result c.show.ensures.decides)

pub returns-in-Unwatch-clause-decides : goal.returns-in-Unwatch-clause-decides
returns-in-Unwatch-clause-decides c = rw (c.in-Unwatch.is) (decided_as c.args.self.now c.unwatch.new.self (unwatches_answers c.args.self.now.limit c.args.self.now.machine _) _ c.unwatch.ensures.decides)

pub returns-in-Tick-clause-decides : goal.returns-in-Tick-clause-decides
returns-in-Tick-clause-decides c = rw (c.in-Tick.is) (decides_as c.args.self.now c.tick.new.self (ticks_answers c.args.self.now.limit c.args.self.now.machine) (λ w. w) c.tick.result c.tick.ensures.decides)

pub returns-in_ok-ask-in-Ask-clause-decides : goal.returns-in_ok-ask-in-Ask-clause-decides
returns-in_ok-ask-in-Ask-clause-decides c =
    let asked = c.in_ok-ask-in-Ask.field-0 in
    rw (c.in-Ask.is, c.from.ensures) (said_alike c.args.self.now c.ask.new.self (reply_of asked) c.in_ok-ask-in-Ask.ensures.alike
    (asks_answers c.args.self.now.limit c.args.self.now.machine _ _ (asked_asks c.args.self.now.limit c.args.self.now.machine _ (reply_of asked) c.in_ok-ask-in-Ask.ensures.reply _ refl)))

pub returns-in_ok-edit-in-Edit-clause-forgets : goal.returns-in_ok-edit-in-Edit-clause-forgets
returns-in_ok-edit-in-Edit-clause-forgets c = λ edit is unbroken.
    let read : Changes c.in-Edit.edit.now ≡ Changes edit = subst (λ l. reading_of l ≡ Changes edit) c.in-Edit.is is in
    let same : c.in-Edit.edit.now ≡ edit = cc in
    subst (λ (e : Edit). ForgetsEdit e c.args.self.now c.edit.new.self) same (c.in_ok-edit-in-Edit.ensures.forgets (subst (Unbroken c.args.self.now.machine.graph) (sym same) unbroken))

pub returns-in-Blank-clause-table : goal.returns-in-Blank-clause-table
returns-in-Blank-clause-table c = rw (c.in-Blank.is) refl

pub returns-in-Watch-clause-table : goal.returns-in-Watch-clause-table
returns-in-Watch-clause-table c = rw (c.in-Watch.is) c.watch.ensures.adds

pub returns-in-Show-clause-table : goal.returns-in-Show-clause-table
returns-in-Show-clause-table c = rw (c.in-Show.is) c.show.ensures.table

pub returns-in-Unwatch-clause-table : goal.returns-in-Unwatch-clause-table
returns-in-Unwatch-clause-table c = rw (c.in-Unwatch.is) c.unwatch.ensures.table

pub returns-in-Tick-clause-table : goal.returns-in-Tick-clause-table
returns-in-Tick-clause-table c = rw (c.in-Tick.is) c.tick.ensures.table

pub returns-in_ok-ask-in-Ask-clause-table : goal.returns-in_ok-ask-in-Ask-clause-table
returns-in_ok-ask-in-Ask-clause-table c = rw (c.in-Ask.is) c.ask.ensures.adds

pub returns-in_err-ask-in-Ask-clause-table : goal.returns-in_err-ask-in-Ask-clause-table
returns-in_err-ask-in-Ask-clause-table c = rw (c.in-Ask.is) c.ask.ensures.adds

pub returns-in-Watch-clause-keeps : goal.returns-in-Watch-clause-keeps
returns-in-Watch-clause-keeps c =
    let m = c.args.self.now.machine in
    decided_keeps _ (Watches _ _) tt c.args.self.now c.watch.new.self c.watch.result
    (decides_as c.args.self.now c.watch.new.self (watches_answers c.args.self.now.limit m _ _) (λ u. u) c.watch.result c.watch.ensures.decides)

pub returns-in-Unwatch-clause-keeps : goal.returns-in-Unwatch-clause-keeps
returns-in-Unwatch-clause-keeps c =
    one_keeps _ tt c.args.self.now c.unwatch.new.self _ (decided_as c.args.self.now c.unwatch.new.self (unwatches_answers c.args.self.now.limit c.args.self.now.machine _) _ c.unwatch.ensures.decides)

pub returns-in_ok-ask-in-Ask-clause-keeps : goal.returns-in_ok-ask-in-Ask-clause-keeps
returns-in_ok-ask-in-Ask-clause-keeps c =
    rw (c.from.ensures) (asked_keeps _ _ c.ask.new.self _ _ c.in_ok-ask-in-Ask.ensures.reply)

pub returns-in-Show-clause-keeps : goal.returns-in-Show-clause-keeps
returns-in-Show-clause-keeps c = c.show.ensures.keeps

pub returns-in-Tick-clause-keeps : goal.returns-in-Tick-clause-keeps
returns-in-Tick-clause-keeps c = c.tick.ensures.keeps

pub returns-in_ok-ask-in-Ask-clause-asked : goal.returns-in_ok-ask-in-Ask-clause-asked
returns-in_ok-ask-in-Ask-clause-asked c = rw (c.in-Ask.is) (λ answer rows. c.in_ok-ask-in-Ask.ensures.keeps answer (c.in_ok-ask-in-Ask.ensures.only (Rows answer) rows))

pub returns-in-First-clause-decides : goal.returns-in-First-clause-decides
returns-in-First-clause-decides c = rw (c.in-First.is) (wanted_decides First c.in-First.text.now c.args.self.now c.reply_wanted.new.self c.reply_wanted.result c.reply_wanted.ensures.alike c.reply_wanted.ensures.reply)

pub returns-in-First-clause-keeps : goal.returns-in-First-clause-keeps
returns-in-First-clause-keeps c = if_ok (λ reply is. wanted_keeps _ _ c.reply_wanted.new.self First c.in-First.text.now _ is) c.reply_wanted.result c.reply_wanted.ensures.reply

pub returns-in-First-clause-asked : goal.returns-in-First-clause-asked
returns-in-First-clause-asked c = rw (c.in-First.is) (wanted_kept First c.in-First.text.now c.args.self.now c.reply_wanted.new.self c.reply_wanted.result c.reply_wanted.ensures.only c.reply_wanted.ensures.keeps)

pub returns-in-First-clause-table : goal.returns-in-First-clause-table
returns-in-First-clause-table c = rw (c.in-First.is) c.reply_wanted.ensures.adds

pub returns-in-Last-clause-decides : goal.returns-in-Last-clause-decides
returns-in-Last-clause-decides c = rw (c.in-Last.is) (wanted_decides Last c.in-Last.text.now c.args.self.now c.reply_wanted-in-Last.new.self c.reply_wanted-in-Last.result c.reply_wanted-in-Last.ensures.alike c.reply_wanted-in-Last.ensures.reply)

pub returns-in-Last-clause-keeps : goal.returns-in-Last-clause-keeps
returns-in-Last-clause-keeps c = if_ok (λ reply is. wanted_keeps _ _ c.reply_wanted-in-Last.new.self Last c.in-Last.text.now _ is) c.reply_wanted-in-Last.result c.reply_wanted-in-Last.ensures.reply

pub returns-in-Last-clause-asked : goal.returns-in-Last-clause-asked
returns-in-Last-clause-asked c = rw (c.in-Last.is) (wanted_kept Last c.in-Last.text.now c.args.self.now c.reply_wanted-in-Last.new.self c.reply_wanted-in-Last.result c.reply_wanted-in-Last.ensures.only c.reply_wanted-in-Last.ensures.keeps)

pub returns-in-Last-clause-table : goal.returns-in-Last-clause-table
returns-in-Last-clause-table c = rw (c.in-Last.is) c.reply_wanted-in-Last.ensures.adds

pub returns-in-Count-clause-decides : goal.returns-in-Count-clause-decides
returns-in-Count-clause-decides c = rw (c.in-Count.is) (wanted_decides Count c.in-Count.text.now c.args.self.now c.reply_wanted-in-Count.new.self c.reply_wanted-in-Count.result c.reply_wanted-in-Count.ensures.alike c.reply_wanted-in-Count.ensures.reply)

pub returns-in-Count-clause-keeps : goal.returns-in-Count-clause-keeps
returns-in-Count-clause-keeps c = if_ok (λ reply is. wanted_keeps _ _ c.reply_wanted-in-Count.new.self Count c.in-Count.text.now _ is) c.reply_wanted-in-Count.result c.reply_wanted-in-Count.ensures.reply

pub returns-in-Count-clause-asked : goal.returns-in-Count-clause-asked
returns-in-Count-clause-asked c = rw (c.in-Count.is) (wanted_kept Count c.in-Count.text.now c.args.self.now c.reply_wanted-in-Count.new.self c.reply_wanted-in-Count.result c.reply_wanted-in-Count.ensures.only c.reply_wanted-in-Count.ensures.keeps)

pub returns-in-Count-clause-table : goal.returns-in-Count-clause-table
returns-in-Count-clause-table c = rw (c.in-Count.is) c.reply_wanted-in-Count.ensures.adds

pub returns-in-OpenPin-clause-decides : goal.returns-in-OpenPin-clause-decides
returns-in-OpenPin-clause-decides c = rw (c.in-OpenPin.is) (decides_as c.args.self.now c.open.new.self (opens_answers c.args.self.now.limit c.args.self.now.machine _) (λ w. w) c.open.result c.open.ensures.decides)

pub returns-in-ClosePin-clause-decides : goal.returns-in-ClosePin-clause-decides
returns-in-ClosePin-clause-decides c = rw (c.in-ClosePin.is) (decided_as c.args.self.now c.close.new.self (closes_answers c.args.self.now.limit c.args.self.now.machine _) _ c.close.ensures.decides)

pub returns-in-InPin-clause-decides : goal.returns-in-InPin-clause-decides
returns-in-InPin-clause-decides c = rw (c.in-InPin.is) (decides_as c.args.self.now c.ask_in.new.self (asks_in_answers c.args.self.now.limit c.args.self.now.machine _ _) (λ u. u) c.ask_in.result c.ask_in.ensures.decides)

pub returns-in-InPin-clause-asked : goal.returns-in-InPin-clause-asked
returns-in-InPin-clause-asked c = rw (c.in-InPin.is) c.ask_in.ensures.asked

pub returns-in-Blank-clause-follows : goal.returns-in-Blank-clause-follows
returns-in-Blank-clause-follows c = rw (c.in-Blank.is) (apart_follows c.args.self.now c.args.self.now _ Nothing tt refl)

pub returns-in_ok-ask-in-Ask-clause-follows : goal.returns-in_ok-ask-in-Ask-clause-follows
returns-in_ok-ask-in-Ask-clause-follows c = rw (c.in-Ask.is) (apart_follows c.args.self.now c.ask.new.self _ (Asks _) tt c.ask.ensures.follows)

pub returns-in_err-ask-in-Ask-clause-follows : goal.returns-in_err-ask-in-Ask-clause-follows
returns-in_err-ask-in-Ask-clause-follows c = rw (c.in-Ask.is) (apart_follows c.args.self.now c.ask.new.self _ (Asks _) tt c.ask.ensures.follows)

pub returns-in-Watch-clause-follows : goal.returns-in-Watch-clause-follows
returns-in-Watch-clause-follows c = rw (c.in-Watch.is) (apart_follows c.args.self.now c.watch.new.self _ (Watches _ _) tt c.watch.ensures.follows)

pub returns-in-Show-clause-follows : goal.returns-in-Show-clause-follows
returns-in-Show-clause-follows c = rw (c.in-Show.is) (apart_follows c.args.self.now c.show.new.self _ (Shows _) tt c.show.ensures.follows)

pub returns-in-Unwatch-clause-follows : goal.returns-in-Unwatch-clause-follows
returns-in-Unwatch-clause-follows c = rw (c.in-Unwatch.is) (apart_follows c.args.self.now c.unwatch.new.self _ (Unwatches _) tt c.unwatch.ensures.follows)

pub returns-in-Tick-clause-follows : goal.returns-in-Tick-clause-follows
returns-in-Tick-clause-follows c = rw (c.in-Tick.is) (apart_follows c.args.self.now c.tick.new.self _ (Ticks) tt c.tick.ensures.follows)

pub returns-in-First-clause-follows : goal.returns-in-First-clause-follows
returns-in-First-clause-follows c = rw (c.in-First.is) (apart_follows c.args.self.now c.reply_wanted.new.self _ (Wants _ _) tt c.reply_wanted.ensures.follows)

pub returns-in-Last-clause-follows : goal.returns-in-Last-clause-follows
returns-in-Last-clause-follows c = rw (c.in-Last.is) (apart_follows c.args.self.now c.reply_wanted-in-Last.new.self _ (Wants _ _) tt c.reply_wanted-in-Last.ensures.follows)

pub returns-in-Count-clause-follows : goal.returns-in-Count-clause-follows
returns-in-Count-clause-follows c = rw (c.in-Count.is) (apart_follows c.args.self.now c.reply_wanted-in-Count.new.self _ (Wants _ _) tt c.reply_wanted-in-Count.ensures.follows)

pub returns-in-OpenPin-clause-follows : goal.returns-in-OpenPin-clause-follows
returns-in-OpenPin-clause-follows c = rw (c.in-OpenPin.is) (apart_follows c.args.self.now c.open.new.self _ (Opens _) tt c.open.ensures.follows)

pub returns-in-ClosePin-clause-follows : goal.returns-in-ClosePin-clause-follows
returns-in-ClosePin-clause-follows c = rw (c.in-ClosePin.is) (apart_follows c.args.self.now c.close.new.self _ (Closes _) tt c.close.ensures.follows)

pub returns-in-InPin-clause-follows : goal.returns-in-InPin-clause-follows
returns-in-InPin-clause-follows c = rw (c.in-InPin.is) (apart_follows c.args.self.now c.ask_in.new.self _ (AsksIn _ _) tt c.ask_in.ensures.follows)

pub returns-in-Follow-clause-follows : goal.returns-in-Follow-clause-follows
returns-in-Follow-clause-follows c = rw (c.in-Follow.is) (follow_follows c.args.self.now c.follow.new.self _ _ c.follow.result c.follow.ensures.follows c.follow.ensures.holds)

pub returns-in-Near-clause-follows : goal.returns-in-Near-clause-follows
returns-in-Near-clause-follows c = rw (c.in-Near.is) (near_follows c.args.self.now c.near.new.self _ _ c.near.result c.near.ensures.follows c.near.ensures.near c.near.ensures.same)

pub returns-in-Unfollow-clause-follows : goal.returns-in-Unfollow-clause-follows
returns-in-Unfollow-clause-follows c = rw (c.in-Unfollow.is) (unfollow_follows c.args.self.now c.unfollow.new.self _ c.unfollow.result c.unfollow.ensures.follows c.unfollow.ensures.holds)

pub returns-in-Follow-clause-decides : goal.returns-in-Follow-clause-decides
returns-in-Follow-clause-decides c = rw (c.in-Follow.is) (decides_as c.args.self.now c.follow.new.self (follows_answers c.args.self.now.limit c.args.self.now.machine _ _) (λ u. u) c.follow.result c.follow.ensures.decides)

pub returns-in-Near-clause-decides : goal.returns-in-Near-clause-decides
returns-in-Near-clause-decides c = rw (c.in-Near.is) (decides_as c.args.self.now c.near.new.self (nears_answers c.args.self.now.limit c.args.self.now.machine _ _) (λ w. w) c.near.result c.near.ensures.decides)

pub returns-in-Unfollow-clause-decides : goal.returns-in-Unfollow-clause-decides
returns-in-Unfollow-clause-decides c = rw (c.in-Unfollow.is) (decided_as c.args.self.now c.unfollow.new.self (unfollows_answers c.args.self.now.limit c.args.self.now.machine _) _ c.unfollow.ensures.decides)

pub returns-in-Follow-clause-keeps : goal.returns-in-Follow-clause-keeps
returns-in-Follow-clause-keeps c =
    decided_keeps _ (Follows _ _) tt c.args.self.now c.follow.new.self c.follow.result
    (decides_as c.args.self.now c.follow.new.self (follows_answers c.args.self.now.limit c.args.self.now.machine _ _) (λ u. u) c.follow.result c.follow.ensures.decides)

pub returns-in-Near-clause-keeps : goal.returns-in-Near-clause-keeps
returns-in-Near-clause-keeps c =
    decided_keeps _ (Nears _ _) tt c.args.self.now c.near.new.self c.near.result
    (decides_as c.args.self.now c.near.new.self (nears_answers c.args.self.now.limit c.args.self.now.machine _ _) (λ w. w) c.near.result c.near.ensures.decides)

pub returns-in-Unfollow-clause-keeps : goal.returns-in-Unfollow-clause-keeps
returns-in-Unfollow-clause-keeps c =
    one_keeps (Unfollows _) tt c.args.self.now c.unfollow.new.self _ (decided_as c.args.self.now c.unfollow.new.self (unfollows_answers c.args.self.now.limit c.args.self.now.machine _) _ c.unfollow.ensures.decides)
