use Rattle.std.proofs.Common.{refl}
use Rattle.std.specs.Prelude.{Ok}
use Rattle.row_printer.proofs.Saying.{on_err}
use Rattle.edit_reader.specs.Readings.{Changes}
use Rattle.itpg_session.specs.Lines.{Just}
use Rattle.itpg_session.proofs.EditLines.{edit_forgets, edit_fresh, edit_unmade, edit_stepped, edit_within}
use Rattle.itpg_session.proofs.session.Session.take_edit.Goals as goal

pub returns-clause-stepped : goal.returns-clause-stepped
returns-clause-stepped g c =
    edit_stepped (Just (Ok (Changes c.args.edit.now))) c.args.edit.now (λ other of. of) c.args.self.now c.edit.new.self c.in_ok-broken.broken
    c.in_ok-broken.ensures.decides g.K.Sink c.args.out.now c.write_edited.new.out c.args.form c.args.no refl _ c.in_ok-write_edited.ensures.written
    c.in_ok-write_edited.ensures.sees

pub returns-clause-keeps : goal.returns-clause-keeps
returns-clause-keeps g c =
    edit_fresh (Just (Ok (Changes c.args.edit.now))) c.args.edit.now (λ other of. of) c.args.self.now c.edit.new.self c.in_ok-broken.broken c.in_ok-broken.ensures.decides

pub returns-clause-forgets : goal.returns-clause-forgets
returns-clause-forgets g c =
    edit_forgets (Just (Ok (Changes c.args.edit.now))) c.args.edit.now (λ other of. of) c.args.self.now c.edit.new.self c.in_ok-broken.ensures.forgets

pub returns-in_err-write_edited-clause-some : goal.returns-in_err-write_edited-clause-some
returns-in_err-write_edited-clause-some g c =
    λ write. edit_within (Just (Ok (Changes c.args.edit.now))) c.args.edit.now (λ other of. of) c.args.self.now c.edit.new.self c.in_ok-broken.broken
    c.in_ok-broken.ensures.decides g.K.Sink c.args.out.now c.write_edited.new.out c.args.form c.args.no refl c.in_err-write_edited.ensures.some

pub returns-in_err-write_edited-clause-unmade : goal.returns-in_err-write_edited-clause-unmade
returns-in_err-write_edited-clause-unmade g c =
    on_err _ _ (edit_unmade (Just (Ok (Changes c.args.edit.now))) c.args.edit.now (λ other of. of) c.args.self.now c.edit.new.self c.in_ok-broken.broken
    c.in_ok-broken.ensures.decides c.in_err-write_edited.ensures.says c.edit.ensures.table)

pub returns-in_err-broken-clause-wanting : goal.returns-in_err-broken-clause-wanting
returns-in_err-broken-clause-wanting g c =
    λ memory. (Changes c.args.edit.now, refl, c.in_err-broken.ensures.decides.1)
