use Rattle.std.proofs.Common.{List, subst}
use Rattle.std.specs.List.Sorted.{IsPermutation}
use Rattle.itpg_base.proofs.Lists.{permutation_among, among_permutation}
use Rattle.relation_rows.specs.declared.rows.Row.{Row}
use Rattle.relation_rows.proofs.beyond.by_arrival.Goals as goal

pub returns : goal.returns
returns c =
    let p = subst (λ (v : List Row). IsPermutation v c.sort_unstable_by_key.new.self.items) c.in_ok-sorted.ensures.items c.sort_unstable_by_key.ensures.permutation in
    λ r. (permutation_among c.args.rows.now c.sort_unstable_by_key.new.self.items p r, among_permutation c.args.rows.now c.sort_unstable_by_key.new.self.items p r)
