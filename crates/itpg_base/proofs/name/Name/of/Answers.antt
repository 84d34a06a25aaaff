use Rattle.std.proofs.Common.{arith}
use Rattle.itpg_base.specs.declared.name.TheConstants.{MAX_NAME}
use Rattle.itpg_base.proofs.Padding.{is_block, take_padded}
use Rattle.itpg_base.proofs.name.Name.of.Goals as goal

pub invariant_of-result : goal.invariant_of-result
invariant_of-result c = is_block MAX_NAME c.args.bytes.now c.padded_block.result (omega arith) c.padded_block.ensures

pub returns : goal.returns
returns c = take_padded MAX_NAME c.args.bytes.now c.padded_block.result c.padded_block.ensures
