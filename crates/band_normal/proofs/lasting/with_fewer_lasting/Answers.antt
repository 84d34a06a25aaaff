use Rattle.band_normal.proofs.CutLemmas.{melted_hold}
use Rattle.band_normal.proofs.lasting.with_fewer_lasting.Goals as goal

pub returns : goal.returns
returns c = λ t u. melted_hold _ _ _ _ _ _ _ _ _ c.in_ok-lasting.ensures c.deref.ensures.value (rw c.in-Some.is at c.in_ok-rows.ensures.rows) c.deref-2.ensures.value c.in_ok-fewer.ensures c.deref-3.ensures.value c.in_ok-extend_from_slice.ensures.items t u
