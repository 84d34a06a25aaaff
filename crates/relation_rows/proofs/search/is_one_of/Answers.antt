use Rattle.std.proofs.Common.{◌↔◌, Bool, refl, sym, subst}
use Rattle.std.specs.Prelude.{IsTrue}
use Rattle.relation_rows.specs.Relations.{IsOneOf}
use Rattle.itpg_base.specs.declared.object_number.ObjNo.{ObjNo}
use Rattle.itpg_base.specs.Lists.{Among}
use Rattle.itpg_base.proofs.Lists.{among_at}
use Rattle.relation_rows.proofs.Objects.{searched}
use Rattle.relation_rows.proofs.search.is_one_of.Goals as goal

pub returns : goal.returns
returns c = subst (λ (v : Bool). IsTrue v ↔ IsOneOf c.args.objects.now c.args.object.0) (sym c.is_ok.ensures.value)
    (searched c.args.objects.now c.args.object c.binary_search.result c.requires c.binary_search.ensures.bound c.binary_search.ensures.position)

pub returns-then-there-object : goal.returns-then-there-object
returns-then-there-object c =
    let objects = c.args.objects.now in
    let there = c.in-Some.there.now in
    let at = c.in-Some.ensures.lookup in
    (λ t. (there, subst (λ (v : ObjNo). Among objects v) (sym at.1) (among_at objects c.args.object.0 there (at.3).0), c.if-there-object.true), λ h. refl)
