use Rattle.std.proofs.Common.{ap, sym, subst, ◌∙◌}
use Rattle.std.specs.Prelude.{slice_get, IsSomeAnd}
use Rattle.relation_rows.specs.Answered.{Answered}
use Rattle.standing_queries.specs.Watches.{IsOfKind, settled_at}
use Rattle.itpg_session.proofs.ticking.Twice.settle.Goals as goal

pub settle-requires-clause-kind : goal.settle-requires-clause-kind
settle-requires-clause-kind c = subst (λ (a : Answered). IsSomeAnd (slice_get c.args.watches.now c.args.place) (λ w. IsOfKind w.query a)) (sym c.self.view_is) c.requires.kind

pub returns : goal.returns
returns c = c.settle.ensures ∙ ap (λ (a : Answered). settled_at c.args.place a c.args.watches.now) c.self.view_is
