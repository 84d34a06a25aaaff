use Rattle.zone_core.proofs.Numbers.{extremes}
use Rattle.relation_rows.proofs.direct.clipped.Goals as goal

pub part_of-requires-clause-some : goal.part_of-requires-clause-some
part_of-requires-clause-some c =
    let first = c.max.ensures.value in
    let last = c.min.ensures.value in
    let span = (c.requires.band).formed.span in
    let some = c.requires.some in
    let begins = c.requires.begins in
    let ends = c.requires.ends in
    omega extremes

pub returns-clause-pairs : goal.returns-clause-pairs
returns-clause-pairs c = λ t u.
    let first = c.max.ensures.value in
    let last = c.min.ensures.value in
    let pairs = c.part_of.ensures.pairs t u in (
      λ i.
          let h = pairs.0 i in
          let above = (h.1).above in
          let below = (h.1).below in
          (h.0, record { above = omega extremes; below = omega extremes }),
      λ h.
          let above = (h.1).above in
          let below = (h.1).below in
          let from = (h.0).from in
          let to = (h.0).to in
          pairs.1 (h.0, record { above = omega extremes; below = omega extremes }),
    )
