-- The objects within a scope, found one after the other.
use Rattle.std.proofs.Common.{◌≡◌, ◌⊎◌, inl, inr, ⊎_elim, ℕ, ◌+◌, ◌<◌, ◌≤◌, List, [], ◌∷◌, ◌++◌, length, refl, sym, ◌∙◌, ap, subst, arith}
use Rattle.std.proofs.lemmas.Bool.Decides.{eqb_tells, leb_tells}
use Rattle.std.proofs.lemmas.Option.{slice_get_within}
use Rattle.itpg_base.specs.declared.object_number.ObjNo.{ObjNo}
use Rattle.itpg_base.specs.Graphs.{Graph, Stands}
use Rattle.itpg_base.proofs.Objects.{there}
use Rattle.itpg_base.proofs.Lists.{among_append, append_first, append_second, append_ordered}
use Rattle.itpg_graph.specs.GraphParts.{IsNextStanding, NoneStandsBetween, NoneStands}
use Rattle.relation_rows.specs.Relations.{Rise, IsOneOf}
use Rattle.label_scope.specs.declared.scope.Scope.{Scope}
use Rattle.label_scope.specs.Scopes.{IsWithin}
use Rattle.condition_eval.specs.Tested.{Stand}
use Rattle.condition_eval.specs.Within.{AreWithin}

-- those with a number below n were found
pub record FoundBelow (scope : Scope) (g : Graph) (n : ℕ) (objects : List ObjNo) : Type 0 where
  pub rise : Rise objects
  pub below : (o : ℕ) → IsOneOf objects o → o < n
  pub whole : (o : ℕ) → o < n → Stands g o → IsWithin scope g o → IsOneOf objects o
  pub stand : Stand g objects
  pub within : (o : ℕ) → IsOneOf objects o → IsWithin scope g o

module _ (scope : Scope) (g : Graph) where
  module _ (n : ℕ) (objects : List ObjNo) (f : FoundBelow scope g n objects) where
    pub not_within : (Stands g n × IsWithin scope g n → ⊥) → FoundBelow scope g (n + 1) objects
    not_within not = record {
      rise = f.rise;
      below = λ o h. let lt = f.below o h in omega arith;
      whole = λ o lt s w. elim (eqb_tells o n) [
        | inl e ↦ absurd (not (subst (λ (v : ℕ). Stands g v) e.1 s, subst (λ (v : ℕ). IsWithin scope g v) e.1 w))
        | inr e ↦ f.whole o (let ne = e.1 in omega arith) s w
      ];
      stand = f.stand;
      within = f.within;
    }

    pub found : (o : ObjNo) (next : List ObjNo) → o.0 ≡ n → next ≡ objects ++ o ∷ [] → Stands g o.0 × IsWithin scope g o.0 → FoundBelow scope g (n + 1) next
    found o next number e so = subst (λ (v : List ObjNo). FoundBelow scope g (n + 1) v) (sym e) (record {
      rise = append_ordered (λ (a b : ObjNo). a.0 < b.0) objects (o ∷ []) f.rise (λ b a. absurd a, tt)
          (λ a b h k. let lt = f.below a.0 (a, h, refl) in ⊎_elim (λ (d : o ≡ b). let same = ap (λ (v : ObjNo). v.0) d in omega arith) (λ j. absurd j) k);
      below = λ k h. ⊎_elim (λ a. let lt = f.below k a in omega arith) (λ d. omega arith) (one_more k h);
      whole = λ k lt s w. elim (eqb_tells k n) [
        | inl d ↦ (o, append_second objects (o ∷ []) o (inl refl), number ∙ sym d.1)
        | inr d ↦ first k (f.whole k (let ne = d.1 in omega arith) s w)
      ];
      stand = λ k h. ⊎_elim (λ a. f.stand k a) (λ d. subst (λ (v : ℕ). Stands g v) d so.0) (one_more k h);
      within = λ k h. ⊎_elim (λ a. f.within k a) (λ d. subst (λ (v : ℕ). IsWithin scope g v) d so.1) (one_more k h);
    })
      where
        one_more : (k : ℕ) → IsOneOf (objects ++ o ∷ []) k → IsOneOf objects k ⊎ (o.0 ≡ k)
        one_more k h = ⊎_elim
            (λ a. inl (h.0, a, h.2))
            (λ a. ⊎_elim (λ (d : o ≡ h.0). inr (ap (λ (v : ObjNo). v.0) d ∙ h.2)) (λ j. absurd j) a)
            (among_append objects (o ∷ []) h.0 h.1)

        first : (k : ℕ) → IsOneOf objects k → IsOneOf (objects ++ o ∷ []) k
        first k h = (h.0, append_first objects (o ∷ []) h.0 h.1, h.2)

  -- where none stands between, those below the later number are those below the earlier
  past : (n m : ℕ) (objects : List ObjNo) → FoundBelow scope g n objects → n ≤ m → NoneStandsBetween g n m → FoundBelow scope g m objects
  past n m objects f le none = record {
    rise = f.rise;
    below = λ o h. let lt = f.below o h in omega arith;
    whole = λ o lt s w. elim (leb_tells n o) [ inl more ↦ absurd (none o more.1 lt s) | inr less ↦ f.whole o (let few = less.1 in omega arith) s w ];
    stand = f.stand;
    within = f.within;
  }

  module _ (from : ℕ) (objects : List ObjNo) (f : FoundBelow scope g from objects) (o : ObjNo) (next : IsNextStanding g from o.0) where
    reached : FoundBelow scope g o.0 objects
    reached = past from o.0 objects f next.behind next.first

    pub next_not_within : (IsWithin scope g o.0 → ⊥) → FoundBelow scope g (o.0 + 1) objects
    next_not_within outside = not_within o.0 objects reached (λ both. outside both.1)

    pub next_found : (more : List ObjNo) → more ≡ objects ++ o ∷ [] → IsWithin scope g o.0 → FoundBelow scope g (o.0 + 1) more
    next_found more e inside = found o.0 objects reached o more refl e (next.stands, inside)

  pub none_found : (objects : List ObjNo) → objects ≡ [] → FoundBelow scope g 0 objects
  none_found objects e = subst (λ (v : List ObjNo). FoundBelow scope g 0 v) (sym e) (record {
    rise = tt;
    below = λ o h. absurd h.1;
    whole = λ o lt s w. absurd (omega (arith, lt));
    stand = λ o h. absurd h.1;
    within = λ o h. absurd h.1;
  })

  pub all_found : (n : ℕ) (objects : List ObjNo) → NoneStands g n → FoundBelow scope g n objects → AreWithin scope g objects
  all_found n objects none f = record {
    rise = f.rise;
    whole = λ o s w. elim (leb_tells n o) [ inl more ↦ absurd (none o more.1 s) | inr less ↦ f.whole o (let few = less.1 in omega arith) s w ];
    stand = f.stand;
    within = f.within;
  }

  -- a standing object is one of those that were declared
  pub is_declared : (o : ℕ) → Stands g o → o < length g.objects
  is_declared o s = let t = there g.objects o _ s in slice_get_within g.objects o t.0 t.1
