use Rattle.std.proofs.Common.{◌≡◌, map, take, length}
use Rattle.json_port.specs.Calls.{listed_names}
use Rattle.json_port.proofs.labels.names_in.Given as goal

abbrev pub invariant-loop-i : goal.invariant-loop-i
invariant-loop-i l = (map (λ s. s.now) (take l.i l.names) ≡ take l.i (listed_names l.items)) × (length l.names ≡ 8)
