use Rattle.std.proofs.Common.{option_map, reverse, ap, ◌∙◌, rules, tests, nat_eq}
use Rattle.std.specs.Cmp.Lexicographic.{pointwise}
use Rattle.std.proofs.lemmas.Iterator.Adapters.{YieldsList-from_rev_slice}
use Rattle.std.proofs.lemmas.Iterator.Search.{find_from_yields_List}
use Rattle.json_port.specs.Keys.{key_word}
use Rattle.json_port.specs.Flats.{member_data}
use Rattle.json_port.proofs.Members.{data_of_ref, find_latest}
use Rattle.json_port.proofs.member.find.Goals as goal

pub returns : goal.returns
returns c = λ names.
    data_of_ref names c.find.result
    ∙ ap (option_map (member_data names)) (find_from_yields_List (λ m. pointwise nat_eq (key_word m.key) (key_word c.args.key)) _ _ c.find.result c.find.ensures.ran (YieldsList-from_rev_slice c.args.members.now cc) (λ x b q k. search (rules, tests)))
    ∙ find_latest names (key_word c.args.key) (reverse c.args.members.now)
