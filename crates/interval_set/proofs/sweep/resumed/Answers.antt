use Rattle.std.proofs.Common.{SFits, w64, rules}
use Rattle.std.proofs.lemmas.Int.{to_z-of_z}
use Rattle.interval_set.proofs.Walk.{first_begins}
use Rattle.interval_set.proofs.sweep.resumed.Goals as goal

pub returns-in-Some-clause-nothing : goal.returns-in-Some-clause-nothing
returns-in-Some-clause-nothing c =
    let fits : SFits w64 c.from-in-Some.result = search rules in
    simp to_z-of_z (rw c.from-in-Some.ensures.value (λ t h. first_begins c.args.spans.now c.in-Some.span.now t c.requires.coalesced c.in-Some.ensures.value h.1))
