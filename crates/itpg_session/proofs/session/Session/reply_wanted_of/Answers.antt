use Rattle.std.proofs.Common.{◌≡◌, true, ap, ◌∙◌, subst}
use Rattle.path_ast.specs.Terms.{query_term}
use Rattle.relation_rows.specs.Answered.{answered}
use Rattle.itpg_session.specs.Machine.{Standing}
use Rattle.itpg_session.specs.Replies.{IsReplyTo, reply_of}
use Rattle.itpg_session.specs.Wanting.{has_ends}
use Rattle.itpg_session.proofs.Planned.{alike_same}
use Rattle.itpg_session.proofs.Outcomes.{rows_told, wide_told, refused_told}
use Rattle.itpg_session.proofs.session.Session.reply_wanted_of.Goals.{in-Rows+in-Pairs-1, in-Rows+in-Times+in-Own-1, in-Rows+in-Times+in-Shared-1, in-Wide, in-Bad, in-Refused}
use Rattle.itpg_session.proofs.session.Session.reply_wanted_of.Goals as goal

pub returns-then-not-has_ends-clause-alike : goal.returns-then-not-has_ends-clause-alike
returns-then-not-has_ends-clause-alike c = alike_same c.args.self.now

pub returns-clause-reply : goal.returns-clause-reply
returns-clause-reply c =
    let g = c.args.self.now.machine.graph in
    let limit = c.args.self.now.limit in
    let q = query_term c.args.query.now in
    let ends : has_ends c.args.wanted (query_term c.args.query.now) ≡ true = (let test = c.if-not-has_ends.false in let is = c.has_ends.ensures in cc) in
    let whole = ap (λ (s : Standing). s.limit) c.self.view_is ∙ c.in_ok-answer.ensures.alike.limit in
    elim c.match-branch-2.branch [
      | in-Rows+in-Pairs-1 w ↦ rw (w.result-is) (rows_told g limit c.args.wanted q ends (answered w.in-Rows.answer) w.max_rows.result (w.max_rows.ensures.value ∙ whole)
          (subst (λ a. IsReplyTo g limit q (reply_of a)) w.in-Rows.is c.in_ok-answer.ensures.reply) w.told.result w.told.ensures)
      | in-Rows+in-Times+in-Own-1 w ↦ rw (w.result-is) (rows_told g limit c.args.wanted q ends (answered w.in-Rows.answer) w.max_rows.result (w.max_rows.ensures.value ∙ whole)
          (subst (λ a. IsReplyTo g limit q (reply_of a)) w.in-Rows.is c.in_ok-answer.ensures.reply) w.told.result w.told.ensures)
      | in-Rows+in-Times+in-Shared-1 w ↦ rw (w.result-is) (rows_told g limit c.args.wanted q ends (answered w.in-Rows.answer) w.max_rows.result (w.max_rows.ensures.value ∙ whole)
          (subst (λ a. IsReplyTo g limit q (reply_of a)) w.in-Rows.is c.in_ok-answer.ensures.reply) w.told.result w.told.ensures)
      | in-Wide w ↦ rw (w.result-is) (wide_told g limit c.args.wanted q ends (subst (λ a. IsReplyTo g limit q (reply_of a)) w.in-Wide.is c.in_ok-answer.ensures.reply))
      | in-Bad w ↦ absurd (subst (λ a. IsReplyTo g limit q (reply_of a)) w.in-Bad.is c.in_ok-answer.ensures.reply).1
      | in-Refused w ↦ rw (w.result-is) (refused_told g limit c.args.wanted q ends w.in-Refused.rule (subst (λ a. IsReplyTo g limit q (reply_of a)) w.in-Refused.is c.in_ok-answer.ensures.reply))
    ]
