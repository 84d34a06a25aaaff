use Rattle.std.proofs.Common.{◌∙◌}
use Rattle.relation_rows.proofs.ways.has_ways.Goals as goal

pub returns : goal.returns
returns c = λ h x y g. record { source = c.if-item-source.false ∙ g.source; target = c.if-item-next.false ∙ g.target; pair = c.is_around.ensures h x.moment y.moment g.pair }
