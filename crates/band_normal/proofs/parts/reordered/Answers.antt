use Rattle.std.proofs.Common.{List, rules, subst}
use Rattle.std.specs.List.Sorted.{IsPermutation}
use Rattle.std.proofs.lemmas.Fn.{always_returns_same}
use Rattle.zone_core.specs.declared.Bounds.{Bounds}
use Rattle.band_normal.specs.Parts.{begin_of}
use Rattle.band_normal.proofs.PartLemmas.{sorted_begins, found_begins, some-permutation}
use Rattle.band_normal.proofs.parts.reordered.Goals as goal

pub returns-clause-order : goal.returns-clause-order
returns-clause-order c =
    sorted_begins c.args.measure _ (c.in_ok-sort_by_key.ensures.sorted (λ (z : Bounds). begin_of c.args.measure z) (always_returns_same _ _ _ (λ a r q k. search rules)))

pub returns-clause-pairs : goal.returns-clause-pairs
returns-clause-pairs c = λ t u. some-permutation _ _ (subst (λ (v : List Bounds). IsPermutation v c.sort_by_key.new.self.items) c.in_ok-sorted.ensures.items c.sort_by_key.ensures.permutation) t u

pub returns-then-is_sorted_by_key-clause-kept : goal.returns-then-is_sorted_by_key-clause-kept
returns-then-is_sorted_by_key-clause-kept c =
    let up = c.if-is_sorted_by_key.ensures.cases (λ (z : Bounds). begin_of c.args.measure z) (always_returns_same _ _ _ (λ a r q k. search rules)) in
    found_begins c.args.measure c.args.zones.now up
