use Rattle.std.proofs.Common.{◌≡◌, ◌∷◌, [], sym, ap, ◌∙◌}
use Rattle.std.specs.Option.{option_or}
use Rattle.script_lex.specs.Marks.{mark_of, first_mark, single_marks}
use Rattle.script_lex.proofs.Rows.{no_double, none_there}
use Rattle.script_lex.proofs.mark.read_mark.Goals as goal

pub returns-in-None : goal.returns-in-None
returns-in-None c =
    let empty : c.args.rest.now ≡ [] = none_there c.args.rest.now (sym c.in-None.ensures.value) in
    c.read_single-in-None.ensures [] ∙ ap (λ d. option_or d (first_mark single_marks (c.args.first ∷ []))) (sym (no_double c.args.first)) ∙ ap (λ rest. mark_of (c.args.first ∷ rest)) (sym empty)
