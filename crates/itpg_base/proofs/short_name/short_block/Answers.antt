use Rattle.std.proofs.Common.{ℕ, List, ◌++◌, ap₂, length}
use Rattle.std.proofs.lemmas.List.{drop-replicate}
use Rattle.itpg_base.proofs.short_name.short_block.Goals as goal

pub returns : goal.returns
returns c = ap₂ (λ (a b : List ℕ). a ++ b) c.copy_from_slice.ensures.after (drop-replicate (length c.args.bytes.now) 14 0)
