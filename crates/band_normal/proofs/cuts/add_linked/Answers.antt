use Rattle.std.proofs.Common.{◌≡◌, ◌++◌, List, ◌∙◌, subst}
use Rattle.band_normal.specs.declared.band.Band.{Band}
use Rattle.band_normal.specs.Zones.{SomeMeets}
use Rattle.band_normal.proofs.CutLemmas.{both_strips, both_well, strips_own, linked_adds}
use Rattle.band_normal.proofs.cuts.add_linked.Goals as goal

pub link-requires-clause-well_formed : goal.link-requires-clause-well_formed
link-requires-clause-well_formed c = λ b i. both_well c.args.zones.now _ _ _ _ _ c.requires.front c.requires.back (c.deref.ensures.value ∙ c.in_ok-extend_from_slice.ensures.items) b i

pub link-requires-clause-strips : goal.link-requires-clause-strips
link-requires-clause-strips c = strips_own (SomeMeets c.args.zones.now) _ (both_strips c.args.zones.now _ _ _ _ _ c.requires.cut c.requires.front c.requires.back (c.deref.ensures.value ∙ c.in_ok-extend_from_slice.ensures.items))

pub returns : goal.returns
returns c =
    linked_adds c.args.zones.now c.deref.result.now c.in_ok-linked.linked.items _ _
    (both_strips c.args.zones.now _ _ _ _ _ c.requires.cut c.requires.front c.requires.back (c.deref.ensures.value ∙ c.in_ok-extend_from_slice.ensures.items))
    (both_well c.args.zones.now _ _ _ _ _ c.requires.front c.requires.back (c.deref.ensures.value ∙ c.in_ok-extend_from_slice.ensures.items))
    c.in_ok-linked.ensures
    (subst (λ (v : List Band). c.extend_from_slice-2.new.self.items ≡ c.args.rows.items ++ v) c.deref-2.ensures.value c.in_ok-extend_from_slice-2.ensures.items)
