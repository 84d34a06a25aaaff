use Rattle.source_rows.proofs.Meeting.{all_meet}
use Rattle.source_rows.proofs.touched.Touched.meets.Goals as goal

pub returns-in-Everything : goal.returns-in-Everything
returns-in-Everything c = all_meet c.args.self.now c.args.objects.now c.is_empty.result c.in-Everything.is c.is_empty.ensures
