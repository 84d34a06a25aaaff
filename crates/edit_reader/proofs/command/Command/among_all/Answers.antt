use Rattle.std.proofs.Common.{nat_eq, sym, ◌∙◌, rules, tests}
use Rattle.std.specs.Cmp.Lexicographic.{pointwise}
use Rattle.std.proofs.lemmas.Iterator.Adapters.{option_map_id}
use Rattle.std.proofs.lemmas.Iterator.{YieldsList-from_slice}
use Rattle.std.proofs.lemmas.Iterator.Consumers.{YieldsList-from_copied}
use Rattle.std.proofs.lemmas.Iterator.Search.{find_from_yields_List}
use Rattle.edit_reader.specs.Commands.{command_word, commands, command_of}
use Rattle.edit_reader.proofs.command.Command.among_all.Goals as goal

pub returns : goal.returns
unfolding command_of
returns c =
    sym (option_map_id c.find.result) ∙ find_from_yields_List (λ k. pointwise nat_eq (command_word k) c.args.word.now) _ _ c.find.result c.find.ensures.ran (YieldsList-from_copied (YieldsList-from_slice commands cc)) (λ x b q k. search (rules, tests))
