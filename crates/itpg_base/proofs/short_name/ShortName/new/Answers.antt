use Rattle.std.proofs.Common.{arith}
use Rattle.itpg_base.specs.declared.short_name.TheConstants.{MAX_SHORT}
use Rattle.itpg_base.proofs.Padding.{is_block, take_padded}
use Rattle.itpg_base.proofs.short_name.ShortName.new.Goals as goal

pub invariant_of-result : goal.invariant_of-result
invariant_of-result c = is_block MAX_SHORT c.args.bytes.now c.short_block.result (omega arith) c.short_block.ensures

pub returns-clause-some : goal.returns-clause-some
returns-clause-some c = take_padded MAX_SHORT c.args.bytes.now c.short_block.result c.short_block.ensures
