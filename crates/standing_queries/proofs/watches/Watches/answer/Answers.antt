use Rattle.std.proofs.Common.{◌≡◌}
use Rattle.standing_queries.proofs.Keeping.{some_within, kept_answer, no_answer}
use Rattle.standing_queries.proofs.watches.Watches.answer.Goals as goal

pub kept-requires : goal.kept-requires
kept-requires c = some_within c.args.self.now c.in_ok-place.place (λ w. w.name ≡ c.args.name.now) c.in_ok-place.ensures.some

pub returns-clause-some : goal.returns-clause-some
returns-clause-some c = kept_answer (λ r. r.now) c.args.self.now c.args.name.now c.in_ok-place.place c.in_ok-place.ensures.some c.kept.result c.kept.ensures.kept c.kept.ensures.kind

pub returns-clause-none : goal.returns-clause-none
returns-clause-none c = no_answer (λ r. r.now) c.args.self.now c.args.name.now c.in_ok-place.place c.in_ok-place.ensures.some c.in_ok-place.ensures.only c.kept.result c.kept.ensures.kept
