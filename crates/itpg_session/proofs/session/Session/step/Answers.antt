use Rattle.std.specs.Prelude.{Ok}
use Rattle.edit_reader.specs.Lines.{LineOf}
use Rattle.edit_reader.specs.Readings.{Changes, told as read_as}
use Rattle.row_printer.specs.declared.form.Form.{Form}
use Rattle.itpg_session.proofs.Written.{if_ok, on_ok, on_fault}
use Rattle.itpg_session.proofs.AsLines.{asked_as, forgets_as, spares_as, near_as, leaves_as, pins_as, follows_as, holds_as, unmade_as, stepped_as, within_as, hand_as, wants_as}
use Rattle.itpg_session.proofs.session.Session.step.Goals as goal

pub returns-then-read_edit-clause-stepped : goal.returns-then-read_edit-clause-stepped
returns-then-read_edit-clause-stepped g c =
    if_ok (λ seen. stepped_as (LineOf c.args.line.now) (Ok (Changes c.read_edit.new.room)) (c.read_edit.ensures.edit c.if-read_edit.true) g.K.Sink c.args.out.now
    c.take_edit.new.out Form.Plain c.args.no c.args.self.now c.take_edit.new.self seen) _ c.take_edit.ensures.stepped

pub returns-then-read_edit-clause-asked : goal.returns-then-read_edit-clause-asked
returns-then-read_edit-clause-asked g c =
    on_ok (asked_as (LineOf c.args.line.now) (Ok (Changes c.read_edit.new.room)) (c.read_edit.ensures.only c.if-read_edit.true) c.args.self.now c.take_edit.new.self) _
    c.take_edit.ensures.asked

pub returns-then-read_edit-clause-forgets : goal.returns-then-read_edit-clause-forgets
returns-then-read_edit-clause-forgets g c =
    on_ok (forgets_as (LineOf c.args.line.now) (Ok (Changes c.read_edit.new.room)) (c.read_edit.ensures.only c.if-read_edit.true) c.args.self.now c.take_edit.new.self) _
    c.take_edit.ensures.forgets

pub returns-then-read_edit-clause-spares : goal.returns-then-read_edit-clause-spares
returns-then-read_edit-clause-spares g c =
    on_ok (spares_as (LineOf c.args.line.now) (Ok (Changes c.read_edit.new.room)) (c.read_edit.ensures.only c.if-read_edit.true) c.args.self.now c.take_edit.new.self) _
    c.take_edit.ensures.spares

pub returns-then-read_edit-clause-near : goal.returns-then-read_edit-clause-near
returns-then-read_edit-clause-near g c =
    on_ok (near_as (LineOf c.args.line.now) (Ok (Changes c.read_edit.new.room)) (c.read_edit.ensures.only c.if-read_edit.true) c.args.self.now c.take_edit.new.self) _
    c.take_edit.ensures.near

pub returns-then-read_edit-clause-table : goal.returns-then-read_edit-clause-table
returns-then-read_edit-clause-table g c =
    leaves_as (LineOf c.args.line.now) (Ok (Changes c.read_edit.new.room)) (c.read_edit.ensures.only c.if-read_edit.true) c.args.self.now c.take_edit.new.self
    c.take_edit.ensures.table

pub returns-then-read_edit-clause-pins : goal.returns-then-read_edit-clause-pins
returns-then-read_edit-clause-pins g c =
    pins_as (LineOf c.args.line.now) (Ok (Changes c.read_edit.new.room)) (c.read_edit.ensures.only c.if-read_edit.true) c.args.self.now c.take_edit.new.self
    c.take_edit.ensures.pins

pub returns-then-read_edit-clause-follows : goal.returns-then-read_edit-clause-follows
returns-then-read_edit-clause-follows g c =
    follows_as (LineOf c.args.line.now) (Ok (Changes c.read_edit.new.room)) (c.read_edit.ensures.only c.if-read_edit.true) c.args.self.now c.take_edit.new.self
    c.take_edit.ensures.follows

pub returns-then-read_edit-clause-holds : goal.returns-then-read_edit-clause-holds
returns-then-read_edit-clause-holds g c =
    on_fault (holds_as (LineOf c.args.line.now) (Ok (Changes c.read_edit.new.room)) (c.read_edit.ensures.only c.if-read_edit.true) c.args.self.now c.take_edit.new.self) _
    c.take_edit.ensures.holds

pub returns-then-read_edit-clause-unmade : goal.returns-then-read_edit-clause-unmade
returns-then-read_edit-clause-unmade g c =
    on_fault (unmade_as (LineOf c.args.line.now) (Ok (Changes c.read_edit.new.room)) (c.read_edit.ensures.only c.if-read_edit.true) c.args.self.now c.take_edit.new.self) _
    c.take_edit.ensures.unmade

pub returns-then-read_edit-clause-some : goal.returns-then-read_edit-clause-some
returns-then-read_edit-clause-some g c =
    λ write. within_as (LineOf c.args.line.now) (Ok (Changes c.read_edit.new.room)) (c.read_edit.ensures.edit c.if-read_edit.true) g.K.Sink c.args.out.now
    c.take_edit.new.out Form.Plain c.args.no c.args.self.now (c.take_edit.ensures.some write)

pub returns-then-read_edit-clause-at_hand : goal.returns-then-read_edit-clause-at_hand
returns-then-read_edit-clause-at_hand g c =
    λ memory. hand_as (LineOf c.args.line.now) (Ok (Changes c.read_edit.new.room)) (c.read_edit.ensures.only c.if-read_edit.true) c.args.self.now c.args.self.now
    (c.take_edit.ensures.at_hand memory)

pub returns-then-read_edit-clause-wanting : goal.returns-then-read_edit-clause-wanting
returns-then-read_edit-clause-wanting g c =
    λ memory. wants_as (LineOf c.args.line.now) (Ok (Changes c.read_edit.new.room)) (c.read_edit.ensures.edit c.if-read_edit.true) c.args.self.now.machine
    (c.take_edit.ensures.wanting memory)

pub returns-clause-stepped : goal.returns-clause-stepped
returns-clause-stepped g c =
    if_ok (λ seen. stepped_as (LineOf c.args.line.now) (read_as c.read_line.result) c.read_line.ensures.line g.K.Sink c.args.out.now c.step_read.new.out Form.Plain
    c.args.no c.args.self.now c.step_read.new.self seen) _ c.step_read.ensures.stepped

pub returns-clause-asked : goal.returns-clause-asked
returns-clause-asked g c = on_ok (asked_as (LineOf c.args.line.now) (read_as c.read_line.result) c.read_line.ensures.only c.args.self.now c.step_read.new.self) _ c.step_read.ensures.asked

pub returns-clause-forgets : goal.returns-clause-forgets
returns-clause-forgets g c = on_ok (forgets_as (LineOf c.args.line.now) (read_as c.read_line.result) c.read_line.ensures.only c.args.self.now c.step_read.new.self) _ c.step_read.ensures.forgets

pub returns-clause-spares : goal.returns-clause-spares
returns-clause-spares g c = on_ok (spares_as (LineOf c.args.line.now) (read_as c.read_line.result) c.read_line.ensures.only c.args.self.now c.step_read.new.self) _ c.step_read.ensures.spares

pub returns-clause-near : goal.returns-clause-near
returns-clause-near g c = on_ok (near_as (LineOf c.args.line.now) (read_as c.read_line.result) c.read_line.ensures.only c.args.self.now c.step_read.new.self) _ c.step_read.ensures.near

pub returns-clause-table : goal.returns-clause-table
returns-clause-table g c = leaves_as (LineOf c.args.line.now) (read_as c.read_line.result) c.read_line.ensures.only c.args.self.now c.step_read.new.self c.step_read.ensures.table

pub returns-clause-pins : goal.returns-clause-pins
returns-clause-pins g c = pins_as (LineOf c.args.line.now) (read_as c.read_line.result) c.read_line.ensures.only c.args.self.now c.step_read.new.self c.step_read.ensures.pins

pub returns-clause-follows : goal.returns-clause-follows
returns-clause-follows g c = follows_as (LineOf c.args.line.now) (read_as c.read_line.result) c.read_line.ensures.only c.args.self.now c.step_read.new.self c.step_read.ensures.follows

pub returns-clause-holds : goal.returns-clause-holds
returns-clause-holds g c = on_fault (holds_as (LineOf c.args.line.now) (read_as c.read_line.result) c.read_line.ensures.only c.args.self.now c.step_read.new.self) _ c.step_read.ensures.holds

pub returns-clause-unmade : goal.returns-clause-unmade
returns-clause-unmade g c = on_fault (unmade_as (LineOf c.args.line.now) (read_as c.read_line.result) c.read_line.ensures.only c.args.self.now c.step_read.new.self) _ c.step_read.ensures.unmade

pub returns-clause-some : goal.returns-clause-some
returns-clause-some g c =
    λ write. within_as (LineOf c.args.line.now) (read_as c.read_line.result) c.read_line.ensures.line g.K.Sink c.args.out.now c.step_read.new.out Form.Plain c.args.no
    c.args.self.now (c.step_read.ensures.some write)

pub returns-clause-at_hand : goal.returns-clause-at_hand
returns-clause-at_hand g c = λ memory. hand_as (LineOf c.args.line.now) (read_as c.read_line.result) c.read_line.ensures.only c.args.self.now c.args.self.now (c.step_read.ensures.at_hand memory)

pub returns-clause-wanting : goal.returns-clause-wanting
returns-clause-wanting g c = λ memory. wants_as (LineOf c.args.line.now) (read_as c.read_line.result) c.read_line.ensures.line c.args.self.now.machine (c.step_read.ensures.wanting memory)
