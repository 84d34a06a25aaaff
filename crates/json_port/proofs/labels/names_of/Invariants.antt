use Rattle.std.proofs.Common.{◌≡◌, map, take, length}
use Rattle.json_port.proofs.labels.names_of.Given as goal

abbrev pub invariant-loop-i : goal.invariant-loop-i
invariant-loop-i l = (take l.i l.names ≡ take l.i (map (λ w. w.now) l.words)) × (length l.names ≡ 8)
