-- The objects with one label, as those within its scope.
use Rattle.std.proofs.Common.{◌≡◌, ℕ, List, [], ◌∷◌, inl, inr, refl, ap, subst, arith}
use Rattle.std.specs.Prelude.{slice_get, Contains}
use Rattle.itpg_base.specs.Words.{Word}
use Rattle.itpg_base.specs.declared.object_number.ObjNo.{ObjNo}
use Rattle.itpg_base.specs.Graphs.{Graph, Object, Stands}
use Rattle.itpg_base.specs.Lists.{Among}
use Rattle.itpg_base.proofs.Objects.{there, here, same_some}
use Rattle.itpg_graph.specs.Edges.{HasNumber, AreRising, AreNumbers}
use Rattle.itpg_graph.specs.WithLabel.{StandsWith}
use Rattle.itpg_graph.proofs.Rising.{above}
use Rattle.relation_rows.specs.Relations.{Rise, IsOneOf}
use Rattle.label_scope.specs.Scopes.{IsWithin, one_label}
use Rattle.label_scope.proofs.Lists.{same_one}
use Rattle.condition_eval.specs.Within.{AreWithin}

-- a number of the list stands in it
pub number_among : (xs : List ObjNo) (k : ℕ) → HasNumber xs k → (x : ObjNo) × Among xs x × (x.0 ≡ k)
number_among [] k h = absurd h
number_among (x ∷ xs) k (inl e) = (x, inl refl, e)
number_among (x ∷ xs) k (inr h) = let w = number_among xs k h in (w.0, inr w.1, w.2)

pub among_number : (xs : List ObjNo) (x : ObjNo) → Among xs x → HasNumber xs x.0
among_number [] x a = absurd a
among_number (y ∷ ys) x (inl e) = inl (ap (λ (v : ObjNo). v.0) e)
among_number (y ∷ ys) x (inr a) = inr (among_number ys x a)

one_number : (xs : List ObjNo) (k : ℕ) → IsOneOf xs k → HasNumber xs k
one_number xs k h = subst (HasNumber xs) h.2 (among_number xs h.0 h.1)

pub rise_from : (xs : List ObjNo) → AreRising xs → Rise xs
rise_from [] r = tt
rise_from (x ∷ xs) r = (λ y a. above x.0 xs y.0 r.0 (among_number xs y a), rise_from xs r.1)

module _ (g : Graph) (label : Word) where
  itself : Contains (label ∷ []) label
  itself = (0, omega arith, refl)

  within_label : (o : ℕ) → StandsWith g label o → IsWithin (one_label label) g o
  within_label o h = let s = there g.objects o _ h in here g.objects o _ s.0 s.1 (label, s.2.1, itself)

  with_label : (o : ℕ) → Stands g o → IsWithin (one_label label) g o → StandsWith g label o
  with_label o stands within =
      let s = there g.objects o _ stands in
      let w = there g.objects o _ within in
      let same : w.0 ≡ s.0 = same_some _ _ (slice_get g.objects o) w.1 s.1 in
      let has = subst (Contains w.0.labels) (same_one (label ∷ []) w.2.0 label (omega arith) w.2.2 itself) w.2.1 in
      here g.objects o _ s.0 s.1 (s.2, subst (λ (x : Object). Contains x.labels label) same has)

  stands_with : (o : ℕ) → StandsWith g label o → Stands g o
  stands_with o h = let s = there g.objects o _ h in here g.objects o _ s.0 s.1 s.2.0

  pub listed_within : (objects : List ObjNo) → AreNumbers (StandsWith g label) objects → AreWithin (one_label label) g objects
  listed_within objects numbers = record {
    rise = rise_from objects numbers.rising;
    whole = λ o stands within. number_among objects o (numbers.whole o (with_label o stands within));
    stand = λ o h. stands_with o (numbers.only o (one_number objects o h));
    within = λ o h. within_label o (numbers.only o (one_number objects o h));
  }
