use Rattle.band_normal.proofs.CutLemmas.{cut_is}
use Rattle.band_normal.proofs.cuts.cut_in_two.Goals as goal

pub returns : goal.returns
returns c = cut_is _ _ _ _ _ _ _ _ c.deref.ensures.value c.in_ok-once.ensures c.in_ok-fewer.ensures c.deref-3.ensures.value c.in_ok-front.ensures.front c.in_ok-front.ensures.back
