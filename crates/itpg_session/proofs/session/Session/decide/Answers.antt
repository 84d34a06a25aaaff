use Rattle.std.proofs.Common.{◌≡◌, subst, sym, refl}
use Rattle.std.specs.Prelude.{Ok, IfOk, OnOk, OnErr}
use Rattle.edit_reader.specs.Readings.{Changes, reading_of, told as read_as}
use Rattle.edit_reader.specs.Moments.{AsksOfMoments}
use Rattle.itpg_session.specs.Machine.{TurnOf}
use Rattle.itpg_session.specs.Steps.{WhatWants, IsAtHand, LeavesSo, LeavesUnmade, KeepsAskedSo, Decides}
use Rattle.itpg_session.specs.Replies.{Bad}
use Rattle.itpg_session.proofs.Answering.{turn_read, turn_bad}
use Rattle.itpg_session.proofs.Told.{decides_as, said}
use Rattle.itpg_session.proofs.Suiting.{suits_decided}
use Rattle.itpg_session.proofs.Written.{on_ok}
use Rattle.itpg_session.specs.Following.{DecidesFollowsSo}
use Rattle.itpg_session.proofs.session.Session.decide.Goals as goal

pub decide_read-requires-clause-moments : goal.decide_read-requires-clause-moments
decide_read-requires-clause-moments c = subst (λ r. IfOk r (λ line. AsksOfMoments (reading_of line))) c.in-Ok.is c.requires.moments

pub decide_read-requires-clause-finds : goal.decide_read-requires-clause-finds
decide_read-requires-clause-finds c = subst (λ r. IfOk r (λ line. ¬ IsAtHand c.args.self.now (reading_of line))) c.in-Ok.is c.requires.finds

pub returns-in-Ok-clause-decides : goal.returns-in-Ok-clause-decides
returns-in-Ok-clause-decides c =
    let m = c.args.self.now.machine in
    subst (λ r. Decides (TurnOf c.args.self.now.limit m (read_as r)) (WhatWants m (read_as r)) c.args.self.now c.decide_read.new.self c.decide_read.result) (sym c.in-Ok.is)
    (decides_as c.args.self.now c.decide_read.new.self (turn_read c.args.self.now.limit m (reading_of c.in-Ok.reading)) (λ w. w) c.decide_read.result c.decide_read.ensures.decides)

pub returns-in-Err-clause-decides : goal.returns-in-Err-clause-decides
returns-in-Err-clause-decides c =
    rw (c.in-Err.is) (said c.args.self.now (Bad c.in-Err.code) (turn_bad c.args.self.now.limit c.args.self.now.machine c.in-Err.code _ refl))

pub returns-in-Ok-clause-suits : goal.returns-in-Ok-clause-suits
returns-in-Ok-clause-suits c = suits_decided _ (read_as c.args.what.now) c.args.self.now c.decide_read.new.self c.decide_read.result (returns-in-Ok-clause-decides c)

pub returns-in-Ok-clause-forgets : goal.returns-in-Ok-clause-forgets
returns-in-Ok-clause-forgets c =
    on_ok (λ made. λ edit is unbroken.
    let read : read_as (Ok c.in-Ok.reading) ≡ Ok (Changes edit) = subst (λ r. read_as r ≡ Ok (Changes edit)) c.in-Ok.is is in
    let same : reading_of c.in-Ok.reading ≡ Changes edit = cc in
    made edit same unbroken) c.decide_read.result c.decide_read.ensures.forgets

pub returns-in-Ok-clause-table : goal.returns-in-Ok-clause-table
returns-in-Ok-clause-table c = subst (λ r. LeavesSo (read_as r) c.args.self.now c.decide_read.new.self) (sym c.in-Ok.is) c.decide_read.ensures.table

pub returns-in-Err-clause-forgets : goal.returns-in-Err-clause-forgets
returns-in-Err-clause-forgets c = λ edit is unbroken. let read = subst (λ r. read_as r ≡ Ok (Changes edit)) c.in-Err.is is in let no : ⊥ = cc in absurd no

pub returns-in-Err-clause-table : goal.returns-in-Err-clause-table
returns-in-Err-clause-table c = rw (c.in-Err.is) refl

pub returns-in-Ok-clause-keeps : goal.returns-in-Ok-clause-keeps
returns-in-Ok-clause-keeps c = c.decide_read.ensures.keeps

pub returns-in-Ok-clause-asked : goal.returns-in-Ok-clause-asked
returns-in-Ok-clause-asked c = subst (λ r. OnOk c.decide_read.result (KeepsAskedSo (read_as r) c.args.self.now c.decide_read.new.self)) (sym c.in-Ok.is) c.decide_read.ensures.asked

pub returns-in-Ok-clause-unmade : goal.returns-in-Ok-clause-unmade
returns-in-Ok-clause-unmade c = subst (λ r. OnErr c.decide_read.result (LeavesUnmade (read_as r) c.args.self.now c.decide_read.new.self)) (sym c.in-Ok.is) c.decide_read.ensures.unmade

pub returns-in-Ok-clause-follows : goal.returns-in-Ok-clause-follows
returns-in-Ok-clause-follows c = subst (λ r. DecidesFollowsSo (read_as r) c.args.self.now c.decide_read.new.self c.decide_read.result) (sym c.in-Ok.is) c.decide_read.ensures.follows

pub returns-in-Err-clause-follows : goal.returns-in-Err-clause-follows
returns-in-Err-clause-follows c = rw (c.in-Err.is) refl
