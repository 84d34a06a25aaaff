use Rattle.std.proofs.Common.{sym, ◌∙◌}
use Rattle.serde_json.proofs.Views.{members_len-members_view}
use Rattle.serde_json.specs.View.{view, members_view}
use Rattle.json_port.proofs.Counts.{count_of_object}
use Rattle.json_port.proofs.object.members_of.Goals as goal

pub returns-in-Some : goal.returns-in-Some
returns-in-Some c = c.len.ensures.len ∙ sym (count_of_object (view c.args.value.now) (members_view c.in-Some.members.now.entries) c.in-Some.ensures ∙ members_len-members_view c.in-Some.members.now.entries)
