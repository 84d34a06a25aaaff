-- A union of powers leads from a point to just where so many steps lead.
use Rattle.std.proofs.Common.{◌↔◌, inl, inr, ⊎_elim, ℕ, zero, suc, List, arith}
use Rattle.itpg_base.specs.Graphs.{Graph}
use Rattle.itpg_base.specs.Points.{Point}
use Rattle.relation_rows.specs.declared.rows.Row.{Row}
use Rattle.relation_rows.specs.Rows.{RowsHold}
use Rattle.label_scope.specs.declared.scope.Scope.{Scope}
use Rattle.repeat_engine.specs.Powers.{union_of_powers}
use Rattle.repeat_engine.specs.Relations.{Given, relations}
use Rattle.repeat_engine.proofs.UnionLaws.{union_more}
use Rattle.wide_witness.specs.Steps.{IsSeenWide, Reaches}
use Rattle.wide_witness.proofs.Counting.{seen_is_wide}
use Rattle.path_eval.specs.Powers.{IsInside, Leads, StaysInside, FitsInside, Written}
use Rattle.path_eval.specs.Powers.Lawful.{powers_lawful}

module _ (g : Graph) (u : Scope) (rows : List Row) (own : StaysInside g u (Given rows)) where
  abbrev To : ℕ → Written
  To n = union_of_powers relations (Given rows) n

  -- from a point inside
  pub union_reaches : (p : Point) → IsInside g u p → (n : ℕ) (y : Point) → Leads g u (To n) p y ↔ Reaches (RowsHold rows) n p y
  unfolding union_of_powers Reaches
  union_reaches p inside zero y = (λ h. h.1, λ e. (inside, e))
  union_reaches p inside (suc n) y =
      let more = union_more (powers_lawful g u 0) (Given rows) own n in (
        λ h.
            ⊎_elim
            (λ a. inl ((union_reaches p inside n y).0 a))
            (λ b. inr (b.0, (union_reaches p inside n b.0).0 b.1, b.2))
            (more.back p y h),
        λ h.
            more.there p y
            (⊎_elim
            (λ a. inl ((union_reaches p inside n y).1 a))
            (λ b. inr (b.0, (union_reaches p inside n b.0).1 b.1, b.2))
            h),
      )

  -- so it doesn't fit where the steps were seen to lead to too many runs
  pub seen_not_fit : (steps limit : ℕ) → IsSeenWide (RowsHold rows) steps limit → FitsInside g u limit (To steps) → ⊥
  seen_not_fit steps limit seen fits =
      let wide = seen_is_wide (RowsHold rows) steps limit seen (Leads g u (To steps)) (λ s a. union_reaches s.from (own s.from s.to s.leads).0 steps) in
      let more = wide fits.0 fits.1 in
      let few = fits.2 in
      omega (arith, more, few)
