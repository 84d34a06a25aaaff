use Rattle.json_port.proofs.OneLine.{one_line}
use Rattle.json_port.proofs.SomeLine.{some_line}
use Rattle.json_port.proofs.GoodEdits.{good_line}
use Rattle.json_port.proofs.laws.law_of_json_lines.Goals as goal

pub returns-clause-some : goal.returns-clause-some
returns-clause-some c = some_line

pub returns-clause-one : goal.returns-clause-one
returns-clause-one c = one_line

pub returns-clause-moments : goal.returns-clause-moments
returns-clause-moments c = λ line edit of. (good_line line edit of).moments

pub returns-clause-labels : goal.returns-clause-labels
returns-clause-labels c = λ line edit of. (good_line line edit of).labels

pub returns-clause-words : goal.returns-clause-words
returns-clause-words c = λ line edit of. (good_line line edit of).words
