use Rattle.std.proofs.Common.{◌∙◌, inl, refl, sym}
use Rattle.itpg_base.specs.declared.text_code.TextCode.TheVariants.{Names}
use Rattle.itpg_session.specs.Replies.{Bad}
use Rattle.itpg_session.proofs.Told.{said}
use Rattle.itpg_session.proofs.session.Session.follow_query.Goals as goal

pub returns-clause-decides : goal.returns-clause-decides
returns-clause-decides c = said c.args.self.now (Bad Names) (inl (sym c.names_both.ensures ∙ c.if-names_both.false, refl))

pub follow_named-requires-clause-ends : goal.follow_named-requires-clause-ends
follow_named-requires-clause-ends c = sym c.names_both.ensures ∙ c.if-names_both.true
