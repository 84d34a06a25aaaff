-- Those of some objects of which a test holds at each moment.
use Rattle.std.specs.Prelude.{ℤ, List}
use Rattle.itpg_base.specs.declared.object_number.ObjNo.{ObjNo}
use Rattle.itpg_base.specs.Graphs.{Graph}
use Rattle.itpg_base.specs.Lists.{Among}
use Rattle.path_ast.specs.Terms.{TestTerm}
use Rattle.path_ast.specs.Meaning.{Sat}
use Rattle.relation_rows.specs.Relations.{Rise}

-- they rise, the test holds of each at each moment, and of the others at none
pub record AreThoseWith (c : TestTerm) (g : Graph) (objects those : List ObjNo) : Type 0 where
  pub rise : Rise those
  pub there : (o : ObjNo) → Among those o → Among objects o
  pub holds : (o : ObjNo) → Among those o → (t : ℤ) → Sat c g (record { object = o.0; moment = t })
  pub whole : (o : ObjNo) → Among objects o → (t : ℤ) → Sat c g (record { object = o.0; moment = t }) → Among those o
