-- What comparisons of numbers say, and a binary search among objects that rise.
use Rattle.std.proofs.Common.{◌≡◌, ◌↔◌, inl, inr, ℕ, ◌<◌, ◌≤◌, List, length, get_or, Result, Ok, Err, refl, sym, ◌∙◌, ap, subst, arith, true≢false}
use Rattle.std.specs.Prelude.{IsTrue, is_ok}
use Rattle.std.specs.Ordering.{nat_cmp, ordering_index}
use Rattle.std.specs.declared.cmp.Ordering.TheVariants.{Less, Equal, Greater}
use Rattle.std.specs.declared.cmp.Ordering.{Ordering}
use Rattle.std.specs.Cmp.{nat_cmp_is}
use Rattle.std.specs.List.Sorted.{IsBinarySearchResult, IsSearchInRange}
use Rattle.std.proofs.lemmas.Bool.Decides.{eqb_tells}
use Rattle.itpg_base.specs.declared.object_number.ObjNo.{ObjNo}
use Rattle.itpg_base.proofs.Lists.{among_at, place_of, ordered_by_place}
use Rattle.itpg_base.proofs.Searches.{at_most}
use Rattle.relation_rows.specs.Relations.{Rise, IsOneOf}

-- the three answers of a comparison
pub data Compared (a b : ℕ) : Type 0 where
  less : a < b → nat_cmp a b ≡ Less → Compared a b
  equal : a ≡ b → nat_cmp a b ≡ Equal → Compared a b
  greater : b < a → nat_cmp a b ≡ Greater → Compared a b

pub compared : (a b : ℕ) → Compared a b
compared a b = elim (at_most a b) [
  | inl le ↦ elim (eqb_tells a b) [
    | inl e ↦ equal e.1 (sym (nat_cmp_is a b Equal e.1))
    | inr n ↦ less (let ne = n.1 in omega arith) (sym (nat_cmp_is a b Less (let ne = n.1 in omega arith)))
  ]
  | inr gt ↦ greater (omega (arith, gt)) (sym (nat_cmp_is a b Greater (omega (arith, gt))))
]

rises : (a b o : ℕ) → a ≤ b → ordering_index (nat_cmp a o) ≤ ordering_index (nat_cmp b o)
rises a b o le = both (compared a o) (compared b o)
  where
    along : (x y : Ordering) → nat_cmp a o ≡ x → nat_cmp b o ≡ y → ordering_index x ≤ ordering_index y → ordering_index (nat_cmp a o) ≤ ordering_index (nat_cmp b o)
    along x y e f h = subst (λ (v : Ordering). ordering_index v ≤ ordering_index (nat_cmp b o)) (sym e) (subst (λ (v : Ordering). ordering_index x ≤ ordering_index v) (sym f) h)

    both : Compared a o → Compared b o → ordering_index (nat_cmp a o) ≤ ordering_index (nat_cmp b o)
    both (less l e) (less m f) = along Less Less e f (omega arith)
    both (less l e) (equal m f) = along Less Equal e f (omega arith)
    both (less l e) (greater m f) = along Less Greater e f (omega arith)
    both (equal l e) (less m f) = absurd (omega arith)
    both (equal l e) (equal m f) = along Equal Equal e f (omega arith)
    both (equal l e) (greater m f) = along Equal Greater e f (omega arith)
    both (greater l e) (less m f) = absurd (omega arith)
    both (greater l e) (equal m f) = absurd (omega arith)
    both (greater l e) (greater m f) = along Greater Greater e f (omega arith)

not_equal : (a o : ℕ) (x : Ordering) → a ≡ o → nat_cmp a o ≡ x → x ≡ Equal
not_equal a o x e f = sym f ∙ sym (nat_cmp_is a o Equal e)

pub searched : (objects : List ObjNo) (o : ObjNo) (r : Result ℕ ℕ) → Rise objects → IsSearchInRange r (length objects) → IsBinarySearchResult (λ (p : ObjNo). nat_cmp p.0 o.0) objects r → IsTrue (is_ok r) ↔ IsOneOf objects o.0
searched objects o (Ok i) up range found = (
  λ h.
      let at = found o in
      (get_or objects i o, among_at objects i o range, same (compared (get_or objects i o).0 o.0) at),
  λ h. refl,
)
  where
    same : {a b : ℕ} → Compared a b → nat_cmp a b ≡ Equal → a ≡ b
    same (less l e) f = let none : ⊥ = cc in absurd none
    same (equal l e) f = l
    same (greater l e) f = let none : ⊥ = cc in absurd none
searched objects o (Err i) up range found = (
  λ h. absurd (true≢false (sym h)),
  λ h. absurd (missing h),
)
  where
    in_order : (i j : ℕ) (d : ObjNo) → i ≤ j → j < length objects → (get_or objects i d).0 ≤ (get_or objects j d).0
    in_order i j d le lt = elim (eqb_tells i j) [
      | inl e ↦ subst (λ (v : ℕ). (get_or objects i d).0 ≤ (get_or objects v d).0) e.1 (omega arith)
      | inr n ↦ (let l : i < j = (let ne = n.1 in omega arith) in let b = ordered_by_place (λ (x y : ObjNo). x.0 < y.0) objects up i j d l lt in omega arith)
    ]

    missing : IsOneOf objects o.0 → ⊥
    missing (p, among, e) =
        let at = place_of objects p among in
        let point = found (λ i j d le lt. rises _ _ o.0 (in_order i j d le lt)) in
        let there = at.2 o in
        let number : (get_or objects at.0 o).0 ≡ o.0 = ap (λ (v : ObjNo). v.0) there ∙ e in
        elim (at_most i at.0) [
          | inl le ↦ (let g = not_equal _ o.0 _ number (point.1 at.0 o le at.1) in let none : ⊥ = cc in none)
          | inr gt ↦ (let g = not_equal _ o.0 _ number (point.0 at.0 o (omega arith) (omega (arith, gt))) in let none : ⊥ = cc in none)
        ]
