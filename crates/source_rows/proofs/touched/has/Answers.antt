use Rattle.std.proofs.Common.{rules, of_calls}
use Rattle.std.proofs.lemmas.Fn.{always_returns_same}
use Rattle.itpg_graph.proofs.Rising.{search_told}
use Rattle.source_rows.proofs.touched.has.Goals as goal

pub returns : goal.returns
returns c = search_told c.args.objects.now c.args.o.0 c.requires c.binary_search_by_key.result c.is_ok.result c.binary_search_by_key.ensures.bound
    (c.binary_search_by_key.ensures.position (λ x. x.0) (always_returns_same _ _ _ (λ a r f' k. search (rules, of_calls)))) c.is_ok.ensures.value
