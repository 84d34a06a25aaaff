-- When every object is touched.
use Rattle.std.proofs.Common.{◌≡◌, ◌==◌, ◌∙◌, inl, inr, List, [], ◌∷◌, length, Bool, not, refl, sym, subst, true≢false, arith}
use Rattle.std.specs.Prelude.{IsTrue, ◌↔◌}
use Rattle.std.proofs.lemmas.Bool.Decides.{eqb_tells}
use Rattle.itpg_base.specs.declared.object_number.ObjNo.{ObjNo}
use Rattle.source_rows.specs.declared.touched.Touched.{Touched}
use Rattle.source_rows.specs.declared.touched.Touched.TheVariants.{Everything}
use Rattle.source_rows.specs.Touched.{Has, Meets}

-- one of the list is, unless it is empty
pub all_meet : (touched : Touched) (objects : List ObjNo) (empty : Bool) → touched ≡ Everything → empty ≡ (length objects == 0) → IsTrue (not empty) ↔ Meets touched objects
all_meet touched [] empty e is = ((λ h. absurd (true≢false (sym (subst (λ b. IsTrue (not b)) is h)))), (λ m. absurd m.1))
all_meet touched (x ∷ rest) empty e is = (
  (λ h. (x.0, inl refl, subst (λ t. Has t x.0) (sym e) tt)),
  (λ m. elim (eqb_tells (length (x ∷ rest)) 0) [
    | inl h ↦ let none = h.1 in absurd (omega (arith, none))
    | inr h ↦ subst (λ b. IsTrue (not b)) (sym (is ∙ h.0)) refl
  ]),
)
