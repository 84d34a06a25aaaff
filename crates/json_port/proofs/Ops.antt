-- Each kind has its own word.
use Rattle.std.proofs.Common.{◌≡◌, Some, refl}
use Rattle.json_port.specs.declared.op.Op.{Op}
use Rattle.json_port.specs.Objects.{op_word, op_of}

pub told_by_word : (op : Op) → op_of (op_word op) ≡ Some op
unfolding op_of
told_by_word Op.Graph = refl
told_by_word Op.Extend = refl
told_by_word Op.Node = refl
told_by_word Op.Edge = refl
told_by_word Op.Live = refl
told_by_word Op.Gone = refl
told_by_word Op.Set = refl
told_by_word Op.Unset = refl
told_by_word Op.Drop = refl
told_by_word Op.Text = refl
