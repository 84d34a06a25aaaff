use Rattle.std.proofs.Common.{◌∙◌, ap, SFits, w64, to_z-of_z, rules}
use Rattle.itpg_base.specs.Spans.{Span}
use Rattle.relation_rows.proofs.Coalescing.{both_moments, greater_of}
use Rattle.condition_eval.proofs.either.joined.Goals as goal

pub returns-clause-moments : goal.returns-clause-moments
returns-clause-moments c =
    let from : SFits w64 c.from.result = search rules in
    let to : SFits w64 c.max-to.result = search rules in
    let first : SFits w64 c.to.result = search rules in
    let second : SFits w64 c.to-2.result = search rules in
    let made = simp to_z-of_z at (rw c.unwrap.ensures at c.new.ensures.value) in
    let max = simp to_z-of_z at c.max-to.ensures.value in
    both_moments c.args.last.now.span c.args.row.now.span c.unwrap.result (ap (λ (s : Span). s.from) made ∙ c.from.ensures.value)
    (ap (λ (s : Span). s.to) made ∙ greater_of _ _ _ _ _ max c.to.ensures.value c.to-2.ensures.value)
    (search rules) c.requires.up c.requires.joins.1
