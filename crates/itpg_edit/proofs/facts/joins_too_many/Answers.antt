use Rattle.itpg_edit.proofs.Families.{joins_many, joins_few}
use Rattle.itpg_edit.proofs.facts.joins_too_many.Goals as goal

pub returns-clause-few : goal.returns-clause-few
returns-clause-few c = joins_few c.args.graph.now c.args.site.now.object.0 c.live.result.now c.args.site.now.span c.live.ensures.family c.joins_beyond.result c.joins_beyond.ensures

pub returns-clause-many : goal.returns-clause-many
returns-clause-many c = joins_many c.args.graph.now c.args.site.now.object.0 c.live.result.now c.args.site.now.span c.live.ensures.family c.joins_beyond.result c.joins_beyond.ensures
