use Rattle.std.proofs.Common.{SFits, w64, rules}
use Rattle.std.proofs.lemmas.Int.{to_z-of_z}
use Rattle.interval_set.proofs.Walk.{first_begins}
use Rattle.interval_set.proofs.sweep.begin.Goals as goal

pub returns : goal.returns
returns c =
    let fits : SFits w64 c.from.result = search rules in
    simp to_z-of_z (rw c.from.ensures.value (λ t h. first_begins c.args.spans.now c.in_ok-first.field-0.now t c.requires c.in_ok-first.ensures.value h))
