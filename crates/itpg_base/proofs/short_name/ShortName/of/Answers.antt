use Rattle.std.proofs.Common.{take, ap, arith, ◌∙◌}
use Rattle.std.proofs.lemmas.List.{take-take}
use Rattle.itpg_base.specs.declared.name.TheConstants.{MAX_NAME}
use Rattle.itpg_base.specs.declared.short_name.TheConstants.{MAX_SHORT}
use Rattle.itpg_base.proofs.Padding.{front_block}
use Rattle.itpg_base.proofs.short_name.ShortName.of.Goals as goal

pub invariant_of-result : goal.invariant_of-result
invariant_of-result c =
    front_block MAX_NAME MAX_SHORT c.name.inside.bytes c.copy_from_slice.new.self c.name.inside.size c.name.invariant c.if-name-gt-MAX_SHORT.false (omega arith) c.copy_from_slice.ensures.after

pub returns-clause-some : goal.returns-clause-some
returns-clause-some c =
    ap (take c.name.inside.size) c.copy_from_slice.ensures.after ∙ (take-take c.name.inside.size MAX_SHORT c.name.inside.bytes c.if-name-gt-MAX_SHORT.false ∙ c.name.view_is)
