use Rattle.std.proofs.Common.{length, sym, subst, refl}
use Rattle.itpg_base.specs.Sinks.{Gets, GetsSome}
use Rattle.relation_rows.specs.Answered.{answered}
use Rattle.row_printer.specs.Texts.{AreDeclared}
use Rattle.row_printer.proofs.Saying.{on_err}
use Rattle.edit_reader.specs.Readings.{told as read_as}
use Rattle.reply_text.specs.Texts.{rows_text}
use Rattle.itpg_session.specs.Lines.{Just}
use Rattle.itpg_session.specs.Machine.{Standing}
use Rattle.itpg_session.proofs.Planned.{alike_same}
use Rattle.itpg_session.specs.Replies.{line_reply}
use Rattle.itpg_session.proofs.Stepping.{kept_line, kept_sees}
use Rattle.itpg_session.proofs.KeptFresh.{fresh_same, step_fresh}
use Rattle.itpg_session.proofs.Leaving.{line_leaves, kept_forgets, line_so, line_settled, forgets_settled, kept_asks, asked_settled, same_unmade, line_unmade, said_unmade}
use Rattle.itpg_session.proofs.FollowLines.{line_follows, line_holds, line_spares, line_near, line_left, line_held, wanting_same, kept_near, kept_spares, not_at_hand}
use Rattle.itpg_session.proofs.session.Session.step_read.Goals as goal

pub write_rows-requires : goal.write_rows-requires
write_rows-requires g c =
    let turn = kept_line c.args.self.now (Just (read_as c.args.what.now)) _ _ refl c.in-Some.ensures.some in
    record { declared = subst (λ (s : Standing). AreDeclared (length s.machine.graph.objects) (answered c.in-Some.answer.now)) (sym c.self.view_is) turn.declared }

pub returns-in_err-write_rows-clause-alike : goal.returns-in_err-write_rows-clause-alike
returns-in_err-write_rows-clause-alike g c = on_err _ _ (alike_same c.args.self.now)

pub returns-in_err-write_rows-clause-some : goal.returns-in_err-write_rows-clause-some
returns-in_err-write_rows-clause-some g c = λ write.
    let turn = kept_line c.args.self.now (Just (read_as c.args.what.now)) _ _ refl c.in-Some.ensures.some in
    record {
      turn = _;
      turns = turn.replies;
      some = subst (λ text. GetsSome g.K.Sink c.args.out.now c.write_rows.new.out text) (sym (turn.text c.args.form c.args.no))
          (subst (λ (s : Standing). GetsSome g.K.Sink c.args.out.now c.write_rows.new.out (rows_text c.args.form s.machine.graph c.args.no (answered c.in-Some.answer.now))) c.self.view_is c.in_err-write_rows.ensures.some);
    }

pub returns-in-Some-clause-stepped : goal.returns-in-Some-clause-stepped
returns-in-Some-clause-stepped g c =
    let turn = kept_line c.args.self.now (Just (read_as c.args.what.now)) _ _ refl c.in-Some.ensures.some in
    record {
      turn = _;
      turns = turn.replies;
      written = subst (λ text. Gets g.K.Sink c.args.out.now c.write_rows.new.out text) (sym (turn.text c.args.form c.args.no))
          (subst (λ (s : Standing). Gets g.K.Sink c.args.out.now c.write_rows.new.out (rows_text c.args.form s.machine.graph c.args.no (answered c.in-Some.answer.now))) c.self.view_is c.in_ok-write_rows.ensures.written);
      next = record { machine = sym turn.stays; limit = refl };
      sees = kept_sees c.args.self.now (Just (read_as c.args.what.now)) (answered c.in-Some.answer.now) turn c.args.form c.args.no;
    }

pub returns-in_err-write-clause-alike : goal.returns-in_err-write-clause-alike
returns-in_err-write-clause-alike g c = on_err _ _ (c.in_ok-reply.ensures.decides.waits c.in_err-write.ensures.says)

pub returns-in_err-write_rows-clause-table : goal.returns-in_err-write_rows-clause-table
returns-in_err-write_rows-clause-table g c = line_leaves c.args.self.now (Just (read_as c.args.what.now))

pub returns-in-Some-clause-forgets : goal.returns-in-Some-clause-forgets
returns-in-Some-clause-forgets g c = kept_forgets c.args.self.now (Just (read_as c.args.what.now)) _ _ (λ other is. is) c.in-Some.ensures.some

pub returns-in-Some-clause-table : goal.returns-in-Some-clause-table
returns-in-Some-clause-table g c = line_leaves c.args.self.now (Just (read_as c.args.what.now))

pub returns-in_err-reply-clause-table : goal.returns-in_err-reply-clause-table
returns-in_err-reply-clause-table g c = line_so (Just (read_as c.args.what.now)) _ c.args.self.now c.decide.new.self (λ other is. is) c.decide.ensures.table

pub returns-in_err-write-clause-table : goal.returns-in_err-write-clause-table
returns-in_err-write-clause-table g c = line_so (Just (read_as c.args.what.now)) _ c.args.self.now c.decide.new.self (λ other is. is) c.decide.ensures.table

pub returns-clause-forgets : goal.returns-clause-forgets
returns-clause-forgets g c =
    forgets_settled (Just (read_as c.args.what.now)) _ c.args.self.now c.decide.new.self c.settle.new.self (line_reply c.in_ok-reply.reply) _ (λ other is. is) c.settle.ensures.table c.settle.ensures.stands c.in_ok-reply.ensures.forgets

pub returns-clause-table : goal.returns-clause-table
returns-clause-table g c =
    line_settled (Just (read_as c.args.what.now)) _ c.args.self.now c.decide.new.self c.settle.new.self (line_reply c.in_ok-reply.reply) _ (λ other is. is) c.settle.ensures.table c.settle.ensures.stands c.decide.ensures.table

pub returns-in-Some-clause-keeps : goal.returns-in-Some-clause-keeps
returns-in-Some-clause-keeps g c = fresh_same c.args.self.now

pub returns-clause-keeps : goal.returns-clause-keeps
returns-clause-keeps g c = step_fresh _ c.args.self.now c.decide.new.self c.settle.new.self (line_reply c.in_ok-reply.reply) _ c.in_ok-reply.ensures.decides c.in_ok-reply.ensures.keeps c.settle.ensures.table c.settle.ensures.stands

pub returns-in-Some-clause-asked : goal.returns-in-Some-clause-asked
returns-in-Some-clause-asked g c = kept_asks c.args.self.now (Just (read_as c.args.what.now)) _ _ (λ other is. is) c.in-Some.ensures.some

pub returns-clause-asked : goal.returns-clause-asked
returns-clause-asked g c =
    asked_settled (Just (read_as c.args.what.now)) _ c.args.self.now c.decide.new.self c.settle.new.self (line_reply c.in_ok-reply.reply) _ (λ other is. is) c.settle.ensures.table c.settle.ensures.pins c.settle.ensures.stands c.in_ok-reply.ensures.asked

pub returns-in_err-write_rows-clause-unmade : goal.returns-in_err-write_rows-clause-unmade
returns-in_err-write_rows-clause-unmade g c = on_err _ _ (same_unmade c.args.self.now (Just (read_as c.args.what.now)))

pub returns-in_err-reply-clause-unmade : goal.returns-in_err-reply-clause-unmade
returns-in_err-reply-clause-unmade g c = on_err _ _ (line_unmade (Just (read_as c.args.what.now)) _ c.args.self.now c.decide.new.self (λ other is. is) c.in_err-reply.ensures.unmade)

pub returns-in_err-write-clause-unmade : goal.returns-in_err-write-clause-unmade
returns-in_err-write-clause-unmade g c =
    on_err _ _ (line_unmade (Just (read_as c.args.what.now)) _ c.args.self.now c.decide.new.self (λ other is. is)
    (said_unmade _ c.args.self.now c.decide.new.self (line_reply c.in_ok-reply.reply) c.in_err-write.ensures.says c.in_ok-reply.ensures.decides.turns c.decide.ensures.table))

pub returns-in-Some-clause-follows : goal.returns-in-Some-clause-follows
returns-in-Some-clause-follows g c = line_left (Just (read_as c.args.what.now)) c.args.self.now c.args.self.now refl

pub returns-in-Some-clause-spares : goal.returns-in-Some-clause-spares
returns-in-Some-clause-spares g c = kept_spares c.args.self.now (Just (read_as c.args.what.now)) _ (λ other is. is) _ c.in-Some.ensures.some

pub returns-in-Some-clause-near : goal.returns-in-Some-clause-near
returns-in-Some-clause-near g c = kept_near c.args.self.now (Just (read_as c.args.what.now)) _ (λ other is. is) _ c.in-Some.ensures.some

pub returns-in_err-write_rows-clause-follows : goal.returns-in_err-write_rows-clause-follows
returns-in_err-write_rows-clause-follows g c = line_left (Just (read_as c.args.what.now)) c.args.self.now c.args.self.now refl

pub returns-in_err-write_rows-clause-holds : goal.returns-in_err-write_rows-clause-holds
returns-in_err-write_rows-clause-holds g c = on_err _ _ (line_held (Just (read_as c.args.what.now)) c.args.self.now c.args.self.now refl)

pub returns-in_err-reply-clause-follows : goal.returns-in_err-reply-clause-follows
returns-in_err-reply-clause-follows g c = line_left (Just (read_as c.args.what.now)) c.args.self.now c.decide.new.self (wanting_same _ c.args.self.now c.decide.new.self _ c.in_err-reply.ensures.follows)

pub returns-in_err-reply-clause-holds : goal.returns-in_err-reply-clause-holds
returns-in_err-reply-clause-holds g c = on_err _ _ (line_held (Just (read_as c.args.what.now)) c.args.self.now c.decide.new.self (wanting_same _ c.args.self.now c.decide.new.self _ c.in_err-reply.ensures.follows))

pub returns-in_err-reply-clause-unkept : goal.returns-in_err-reply-clause-unkept
returns-in_err-reply-clause-unkept g c = λ memory. wanting_same _ c.args.self.now c.decide.new.self _ c.in_err-reply.ensures.follows

pub returns-in_err-reply-clause-at_hand : goal.returns-in_err-reply-clause-at_hand
returns-in_err-reply-clause-at_hand g c = λ memory. not_at_hand c.args.self.now (Just (read_as c.args.what.now)) _ (λ other is. is) (c.in_default-kept_answer.ensures.none refl)

pub returns-in_err-write-clause-follows : goal.returns-in_err-write-clause-follows
returns-in_err-write-clause-follows g c = line_follows (Just (read_as c.args.what.now)) _ (λ other is. is) c.args.self.now c.decide.new.self c.decide.new.self refl _ c.decide.ensures.follows

pub returns-in_err-write-clause-holds : goal.returns-in_err-write-clause-holds
returns-in_err-write-clause-holds g c = on_err _ _ (line_holds (Just (read_as c.args.what.now)) _ (λ other is. is) c.args.self.now c.decide.new.self c.decide.new.self refl _ c.in_ok-reply.reply c.in_err-write.ensures.says c.in_ok-reply.ensures.follows)

pub returns-clause-follows : goal.returns-clause-follows
returns-clause-follows g c = line_follows (Just (read_as c.args.what.now)) _ (λ other is. is) c.args.self.now c.decide.new.self c.settle.new.self c.settle.ensures.follows _ c.decide.ensures.follows

pub returns-clause-spares : goal.returns-clause-spares
returns-clause-spares g c = line_spares (Just (read_as c.args.what.now)) _ (λ other is. is) c.args.self.now c.decide.new.self c.settle.new.self c.settle.ensures.follows _ c.in_ok-reply.reply c.in_ok-reply.ensures.follows

pub returns-clause-near : goal.returns-clause-near
returns-clause-near g c = line_near (Just (read_as c.args.what.now)) _ (λ other is. is) c.args.self.now c.decide.new.self c.settle.new.self c.settle.ensures.follows _ c.in_ok-reply.reply c.in_ok-reply.ensures.follows
