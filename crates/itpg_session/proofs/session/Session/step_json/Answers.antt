use Rattle.std.proofs.Common.{refl}
use Rattle.edit_reader.specs.Readings.{told as read_as}
use Rattle.row_printer.specs.declared.form.Form.{Form}
use Rattle.row_printer.proofs.Saying.{on_err}
use Rattle.itpg_session.specs.Lines.{JsonIs}
use Rattle.itpg_session.proofs.Planned.{alike_same}
use Rattle.itpg_session.proofs.Leaving.{line_leaves, line_pins_same, same_unmade}
use Rattle.itpg_session.proofs.FollowLines.{line_left, line_held}
use Rattle.itpg_session.proofs.Written.{if_ok, on_ok, on_fault}
use Rattle.itpg_session.proofs.AsLines.{asked_as, forgets_as, spares_as, near_as, leaves_as, pins_as, follows_as, holds_as, unmade_as, stepped_as, within_as, json_only, json_is, wanting_fits, wanting_said}
use Rattle.itpg_session.proofs.session.Session.step_json.Goals as goal

pub returns-clause-stepped : goal.returns-clause-stepped
returns-clause-stepped g c = if_ok (λ seen. stepped_as (JsonIs c.args.line.now) (read_as c.asked_by.result) (json_is c.args.line.now _ _ c.in_ok-json.ensures.line c.asked_by.ensures.line) g.K.Sink c.args.out.now c.step_read.new.out Form.Json c.args.no c.args.self.now c.step_read.new.self seen) _ c.step_read.ensures.stepped

pub returns-clause-asked : goal.returns-clause-asked
returns-clause-asked g c = on_ok (asked_as (JsonIs c.args.line.now) (read_as c.asked_by.result) (json_only c.args.line.now _ _ c.in_ok-json.ensures.only c.asked_by.ensures.only) c.args.self.now c.step_read.new.self) _ c.step_read.ensures.asked

pub returns-clause-forgets : goal.returns-clause-forgets
returns-clause-forgets g c = on_ok (forgets_as (JsonIs c.args.line.now) (read_as c.asked_by.result) (json_only c.args.line.now _ _ c.in_ok-json.ensures.only c.asked_by.ensures.only) c.args.self.now c.step_read.new.self) _ c.step_read.ensures.forgets

pub returns-clause-spares : goal.returns-clause-spares
returns-clause-spares g c = on_ok (spares_as (JsonIs c.args.line.now) (read_as c.asked_by.result) (json_only c.args.line.now _ _ c.in_ok-json.ensures.only c.asked_by.ensures.only) c.args.self.now c.step_read.new.self) _ c.step_read.ensures.spares

pub returns-clause-near : goal.returns-clause-near
returns-clause-near g c = on_ok (near_as (JsonIs c.args.line.now) (read_as c.asked_by.result) (json_only c.args.line.now _ _ c.in_ok-json.ensures.only c.asked_by.ensures.only) c.args.self.now c.step_read.new.self) _ c.step_read.ensures.near

pub returns-clause-table : goal.returns-clause-table
returns-clause-table g c = leaves_as (JsonIs c.args.line.now) (read_as c.asked_by.result) (json_only c.args.line.now _ _ c.in_ok-json.ensures.only c.asked_by.ensures.only) c.args.self.now c.step_read.new.self c.step_read.ensures.table

pub returns-clause-pins : goal.returns-clause-pins
returns-clause-pins g c = pins_as (JsonIs c.args.line.now) (read_as c.asked_by.result) (json_only c.args.line.now _ _ c.in_ok-json.ensures.only c.asked_by.ensures.only) c.args.self.now c.step_read.new.self c.step_read.ensures.pins

pub returns-clause-follows : goal.returns-clause-follows
returns-clause-follows g c = follows_as (JsonIs c.args.line.now) (read_as c.asked_by.result) (json_only c.args.line.now _ _ c.in_ok-json.ensures.only c.asked_by.ensures.only) c.args.self.now c.step_read.new.self c.step_read.ensures.follows

pub returns-clause-holds : goal.returns-clause-holds
returns-clause-holds g c = on_fault (holds_as (JsonIs c.args.line.now) (read_as c.asked_by.result) (json_only c.args.line.now _ _ c.in_ok-json.ensures.only c.asked_by.ensures.only) c.args.self.now c.step_read.new.self) _ c.step_read.ensures.holds

pub returns-clause-unmade : goal.returns-clause-unmade
returns-clause-unmade g c = on_fault (unmade_as (JsonIs c.args.line.now) (read_as c.asked_by.result) (json_only c.args.line.now _ _ c.in_ok-json.ensures.only c.asked_by.ensures.only) c.args.self.now c.step_read.new.self) _ c.step_read.ensures.unmade

pub returns-clause-some : goal.returns-clause-some
returns-clause-some g c = λ write. within_as (JsonIs c.args.line.now) (read_as c.asked_by.result) (json_is c.args.line.now _ _ c.in_ok-json.ensures.line c.asked_by.ensures.line) g.K.Sink c.args.out.now c.step_read.new.out Form.Json c.args.no c.args.self.now (c.step_read.ensures.some write)

pub returns-clause-blank : goal.returns-clause-blank
returns-clause-blank g c = λ memory. wanting_said c.args.self.now.machine _ (read_as c.asked_by.result) c.asked_by.ensures.line (c.step_read.ensures.wanting memory) c.args.line.now c.in_ok-json.ensures.line

pub returns-clause-fits : goal.returns-clause-fits
returns-clause-fits g c = λ memory. wanting_fits c.args.self.now.machine _ (read_as c.asked_by.result) c.asked_by.ensures.line (c.step_read.ensures.wanting memory) c.args.line.now c.in_ok-json.ensures.line

pub returns-in_err-json-clause-alike : goal.returns-in_err-json-clause-alike
returns-in_err-json-clause-alike g c = on_err _ _ (alike_same c.args.self.now)

pub returns-in_err-json-clause-table : goal.returns-in_err-json-clause-table
returns-in_err-json-clause-table g c = line_leaves c.args.self.now (JsonIs c.args.line.now)

pub returns-in_err-json-clause-pins : goal.returns-in_err-json-clause-pins
returns-in_err-json-clause-pins g c = line_pins_same c.args.self.now (JsonIs c.args.line.now)

pub returns-in_err-json-clause-follows : goal.returns-in_err-json-clause-follows
returns-in_err-json-clause-follows g c = line_left (JsonIs c.args.line.now) c.args.self.now c.args.self.now refl

pub returns-in_err-json-clause-holds : goal.returns-in_err-json-clause-holds
returns-in_err-json-clause-holds g c = on_err _ _ (line_held (JsonIs c.args.line.now) c.args.self.now c.args.self.now refl)

pub returns-in_err-json-clause-unmade : goal.returns-in_err-json-clause-unmade
returns-in_err-json-clause-unmade g c = on_err _ _ (same_unmade c.args.self.now (JsonIs c.args.line.now))
