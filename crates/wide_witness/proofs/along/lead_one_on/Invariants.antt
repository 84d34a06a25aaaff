use Rattle.std.proofs.Common.{take}
use Rattle.wide_witness.specs.Along.{LeadOneOn}
use Rattle.wide_witness.proofs.along.lead_one_on.Given as goal

abbrev pub invariant-loop-row : goal.invariant-loop-row
invariant-loop-row l = LeadOneOn (take l.row-index l.fn.rows)
