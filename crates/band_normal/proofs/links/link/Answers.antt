use Rattle.std.proofs.Common.{List, subst, rules}
use Rattle.std.proofs.lemmas.Fn.{always_returns_same}
use Rattle.std.specs.List.Sorted.{IsPermutation}
use Rattle.band_normal.specs.declared.band.Band.{Band}
use Rattle.band_normal.specs.Links.{last_low_of}
use Rattle.band_normal.proofs.Sweeping.{sorted_earlier}
use Rattle.band_normal.proofs.LinkLemmas.{sorted_ends, can_link_sorted, ok_linked}
use Rattle.band_normal.proofs.links.link.Goals as goal

pub linked-requires : goal.linked-requires
linked-requires c =
    let ends = sorted_ends _ (c.in_ok-sort_by_key.ensures.sorted (λ (b : Band). (b.to, last_low_of b)) (always_returns_same _ _ _ (λ a r q k. search rules))) in
    let starts = sorted_earlier _ (c.in_ok-sort_by_key-2.ensures.sorted (λ (b : Band). b.from) (always_returns_same _ _ _ (λ a r q k. search rules))) in
    let same = subst (λ (v : List Band). IsPermutation v c.sort_by_key-2.new.self.items) c.in_ok-starts.ensures.items c.sort_by_key-2.ensures.permutation in
    let same_too = subst (λ (v : List Band). IsPermutation v c.sort_by_key.new.self.items) c.in_ok-ends.ensures.items c.sort_by_key.ensures.permutation in
    can_link_sorted _ _ _ _ _ c.requires.well_formed c.requires.strips starts same ends same_too c.deref.ensures.value c.deref-2.ensures.value

pub returns : goal.returns
returns c =
    let same = subst (λ (v : List Band). IsPermutation v c.sort_by_key-2.new.self.items) c.in_ok-starts.ensures.items c.sort_by_key-2.ensures.permutation in
    ok_linked _ _ _ c.in_ok-linked.field-0.complete.items c.in_ok-linked.field-0.slots.items _ same c.deref.ensures.value c.in_ok-linked.ensures c.rows_linked.ensures
