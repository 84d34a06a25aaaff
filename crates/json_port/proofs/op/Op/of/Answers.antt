use Rattle.std.proofs.Common.{nat_eq, ap, sym, ◌∙◌, rules, tests}
use Rattle.std.specs.Cmp.Lexicographic.{pointwise}
use Rattle.std.proofs.lemmas.Iterator.Adapters.{option_map_id}
use Rattle.std.proofs.lemmas.Iterator.{YieldsList-from_slice}
use Rattle.std.proofs.lemmas.Iterator.Consumers.{YieldsList-from_copied}
use Rattle.std.proofs.lemmas.Iterator.Search.{find_from_yields_List}
use Rattle.json_port.specs.Objects.{op_word, ops, op_of}
use Rattle.json_port.proofs.Ops.{told_by_word}
use Rattle.json_port.proofs.op.Op.of.Goals as goal

pub returns-in-Some : goal.returns-in-Some
returns-in-Some c = sym (told_by_word c.in-Some.op) ∙ ap op_of c.in-Some.ensures

pub returns-in-None : goal.returns-in-None
unfolding op_of
returns-in-None c =
    sym (option_map_id c.find.result) ∙ find_from_yields_List (λ k. pointwise nat_eq (op_word k) c.args.word.now) _ _ c.find.result c.find.ensures.ran (YieldsList-from_copied (YieldsList-from_slice ops cc)) (λ x b q k. search (rules, tests))
