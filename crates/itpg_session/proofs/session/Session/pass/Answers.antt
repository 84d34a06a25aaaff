use Rattle.std.proofs.Common.{sym, refl, ◌∙◌}
use Rattle.edit_reader.specs.Lines.{LineOf}
use Rattle.itpg_session.proofs.Stepping.{kept_line}
use Rattle.itpg_session.proofs.Written.{some_value, no_value}
use Rattle.row_printer.proofs.Saying.{on_err}
use Rattle.itpg_session.specs.Replies.{line_reply}
use Rattle.itpg_session.proofs.KeptFresh.{fresh_same, step_fresh}
use Rattle.itpg_session.proofs.Leaving.{line_leaves, kept_forgets, line_so, line_settled, forgets_settled, kept_asks, asked_settled}
use Rattle.itpg_session.proofs.FollowLines.{line_follows, line_spares, line_near, line_left, wanting_same, kept_near, kept_spares, not_at_hand}
use Rattle.itpg_session.proofs.session.Session.pass.Goals as goal

pub returns-then-is_some-clause-passed : goal.returns-then-is_some-clause-passed
returns-then-is_some-clause-passed c =
    let kept = some_value c.kept_answer.result c.kept_answer.ensures.some (sym c.is_some.ensures ∙ c.if-is_some.true) in
    let turn = kept_line c.args.self.now (LineOf c.args.line.now) _ _ c.read_line.ensures.line kept.1 in
    record { turn = _; turns = turn.replies; next = record { machine = sym turn.stays; limit = refl } }

pub returns-then-is_some-clause-keeps : goal.returns-then-is_some-clause-keeps
returns-then-is_some-clause-keeps c = fresh_same c.args.self.now

pub returns-then-is_some-clause-asked : goal.returns-then-is_some-clause-asked
returns-then-is_some-clause-asked c =
    let kept = some_value c.kept_answer.result c.kept_answer.ensures.some (sym c.is_some.ensures ∙ c.if-is_some.true) in
    kept_asks c.args.self.now (LineOf c.args.line.now) _ _ c.read_line.ensures.only kept.1

pub returns-then-is_some-clause-forgets : goal.returns-then-is_some-clause-forgets
returns-then-is_some-clause-forgets c =
    let kept = some_value c.kept_answer.result c.kept_answer.ensures.some (sym c.is_some.ensures ∙ c.if-is_some.true) in
    kept_forgets c.args.self.now (LineOf c.args.line.now) _ _ c.read_line.ensures.only kept.1

pub returns-then-is_some-clause-table : goal.returns-then-is_some-clause-table
returns-then-is_some-clause-table c = line_leaves c.args.self.now (LineOf c.args.line.now)

pub returns-in_err-unsaid-clause-table : goal.returns-in_err-unsaid-clause-table
returns-in_err-unsaid-clause-table c = line_so (LineOf c.args.line.now) _ c.args.self.now c.decide.new.self c.read_line.ensures.only c.decide.ensures.table

pub returns-clause-keeps : goal.returns-clause-keeps
returns-clause-keeps c = step_fresh _ c.args.self.now c.decide.new.self c.settle.new.self (line_reply c.in_ok-unsaid.unsaid) _ c.in_ok-unsaid.ensures.decides c.in_ok-unsaid.ensures.keeps c.settle.ensures.table c.settle.ensures.stands

pub returns-clause-asked : goal.returns-clause-asked
returns-clause-asked c =
    asked_settled (LineOf c.args.line.now) _ c.args.self.now c.decide.new.self c.settle.new.self (line_reply c.in_ok-unsaid.unsaid) _ c.read_line.ensures.only c.settle.ensures.table c.settle.ensures.pins c.settle.ensures.stands c.in_ok-unsaid.ensures.asked

pub returns-clause-forgets : goal.returns-clause-forgets
returns-clause-forgets c =
    forgets_settled (LineOf c.args.line.now) _ c.args.self.now c.decide.new.self c.settle.new.self (line_reply c.in_ok-unsaid.unsaid) _ c.read_line.ensures.only c.settle.ensures.table c.settle.ensures.stands c.in_ok-unsaid.ensures.forgets

pub returns-clause-table : goal.returns-clause-table
returns-clause-table c =
    line_settled (LineOf c.args.line.now) _ c.args.self.now c.decide.new.self c.settle.new.self (line_reply c.in_ok-unsaid.unsaid) _ c.read_line.ensures.only c.settle.ensures.table c.settle.ensures.stands c.decide.ensures.table

pub returns-then-is_some-clause-follows : goal.returns-then-is_some-clause-follows
returns-then-is_some-clause-follows c = line_left (LineOf c.args.line.now) c.args.self.now c.args.self.now refl

pub returns-then-is_some-clause-spares : goal.returns-then-is_some-clause-spares
returns-then-is_some-clause-spares c =
    let kept = some_value c.kept_answer.result c.kept_answer.ensures.some (sym c.is_some.ensures ∙ c.if-is_some.true) in
    kept_spares c.args.self.now (LineOf c.args.line.now) _ c.read_line.ensures.only _ kept.1

pub returns-then-is_some-clause-near : goal.returns-then-is_some-clause-near
returns-then-is_some-clause-near c =
    let kept = some_value c.kept_answer.result c.kept_answer.ensures.some (sym c.is_some.ensures ∙ c.if-is_some.true) in
    kept_near c.args.self.now (LineOf c.args.line.now) _ c.read_line.ensures.only _ kept.1

pub returns-in_err-unsaid-clause-follows : goal.returns-in_err-unsaid-clause-follows
returns-in_err-unsaid-clause-follows c = line_left (LineOf c.args.line.now) c.args.self.now c.decide.new.self (wanting_same _ c.args.self.now c.decide.new.self _ c.in_err-unsaid.ensures.follows)

pub returns-in_err-unsaid-clause-unkept : goal.returns-in_err-unsaid-clause-unkept
returns-in_err-unsaid-clause-unkept c = on_err _ _ (wanting_same _ c.args.self.now c.decide.new.self _ c.in_err-unsaid.ensures.follows)

pub returns-in_err-unsaid-clause-at_hand : goal.returns-in_err-unsaid-clause-at_hand
returns-in_err-unsaid-clause-at_hand c = on_err _ _ (not_at_hand c.args.self.now (LineOf c.args.line.now) _ c.read_line.ensures.only (c.kept_answer.ensures.none (no_value c.kept_answer.result (sym c.is_some.ensures ∙ c.if-is_some.false))))

pub returns-clause-follows : goal.returns-clause-follows
returns-clause-follows c = line_follows (LineOf c.args.line.now) _ c.read_line.ensures.only c.args.self.now c.decide.new.self c.settle.new.self c.settle.ensures.follows _ c.decide.ensures.follows

pub returns-clause-spares : goal.returns-clause-spares
returns-clause-spares c = line_spares (LineOf c.args.line.now) _ c.read_line.ensures.only c.args.self.now c.decide.new.self c.settle.new.self c.settle.ensures.follows _ c.in_ok-unsaid.unsaid c.in_ok-unsaid.ensures.follows

pub returns-clause-near : goal.returns-clause-near
returns-clause-near c = line_near (LineOf c.args.line.now) _ c.read_line.ensures.only c.args.self.now c.decide.new.self c.settle.new.self c.settle.ensures.follows _ c.in_ok-unsaid.unsaid c.in_ok-unsaid.ensures.follows
