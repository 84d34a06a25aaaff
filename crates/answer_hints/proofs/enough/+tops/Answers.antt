use Rattle.path_ast.specs.Terms.{path_term}
use Rattle.answer_hints.specs.Repeated.{top_repetitions}
use Rattle.answer_hints.proofs.ToldLemmas.{tells_both}
use Rattle.answer_hints.proofs.enough.+tops.Goals as goal

pub add_hints_of_both-returns : goal.add_hints_of_both-returns
add_hints_of_both-returns t c =
    tells_both c.args.site.now.graph.now c.args.site.now.max_rows c.add_hints-2.result (top_repetitions (path_term c.args.a.now)) (top_repetitions (path_term c.args.b.now))
    c.args.hints.now.items c.add_hints.new.hints.items c.add_hints-2.new.hints.items c.in_ok-add_hints.ensures c.add_hints-2.ensures
