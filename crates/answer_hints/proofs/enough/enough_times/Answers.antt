use Rattle.std.proofs.Common.{ℕ, subst}
use Rattle.path_ast.specs.Terms.{path_term}
use Rattle.answer_hints.specs.Repeated.{top_repetitions, AllAreGiven}
use Rattle.answer_hints.proofs.RepeatedLemmas.{found_once}
use Rattle.answer_hints.proofs.ToldLemmas.{told_alone, certain, given}
use Rattle.answer_hints.proofs.enough.enough_times.Goals as goal

pub returns-clause-certain : goal.returns-clause-certain
returns-clause-certain c =
    let g = c.args.graph.now in
    let p = path_term c.args.query.now.path in
    let hints = c.add_hints.new.hints.items in
    certain g c.min.result p hints (told_alone g c.min.result (top_repetitions p) c.new-hints.result.items hints c.new-hints.ensures.items c.in_ok-add_hints.ensures)

pub returns-clause-given : goal.returns-clause-given
returns-clause-given c =
    let g = c.args.graph.now in
    let p = path_term c.args.query.now.path in
    let hints = c.add_hints.new.hints.items in
    subst (λ (n : ℕ). AllAreGiven g n p hints) c.min.ensures
    (given g c.min.result (found_once g c.min.result) p hints
    (told_alone g c.min.result (top_repetitions p) c.new-hints.result.items hints c.new-hints.ensures.items c.in_ok-add_hints.ensures))
