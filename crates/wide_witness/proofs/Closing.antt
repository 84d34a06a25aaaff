-- What steps lead to from one source, until one of them adds nothing.
use Rattle.std.proofs.Common.{◌≡◌, ◌↔◌, ◌⊎◌, inl, inr, ⊎_elim, ℕ, zero, suc, ◌+◌, ◌-◌, ◌≤◌, List, [], ◌∷◌, length, refl, sym, subst, add-one, arith}
use Rattle.itpg_base.specs.Points.{Point, Relation}
use Rattle.itpg_base.proofs.Searches.{at_most}
use Rattle.relation_rows.specs.declared.rows.Row.{Row}
use Rattle.relation_rows.specs.Rows.{Fits, NormalRows, RowsHold}
use Rattle.relation_rows.specs.Relations.{EitherHolds, HasMiddlePoint, HoldsOrLeads, OnlyFirstHolds}
use Rattle.relation_rows.proofs.Alike.{fits_alike, hold_only, rows_alike, rows_hold}
use Rattle.relation_rows.proofs.Finite.{decide_rows}
use Rattle.wide_witness.specs.BySource.{IsAlongFrom}
use Rattle.wide_witness.specs.Steps.{Reaches}

-- a list of length zero has nothing
pub nothing : {X : Type 0} (xs : List X) → length xs ≡ 0 → xs ≡ []
nothing [] e = refl
nothing (x ∷ xs) e = let no : ⊥ = omega arith in absurd no

-- where the newest lead by a step is made first, and what of it is fresh is united with what is known
module _ (known newest steps made fresh all : List Row) (m : NormalRows (HasMiddlePoint newest steps) made) (f : NormalRows (OnlyFirstHolds made known) fresh) (a : NormalRows (EitherHolds known fresh) all) where
  pub leads_on : NormalRows (HoldsOrLeads known newest steps) all
  leads_on = rows_alike (EitherHolds known fresh) (HoldsOrLeads known newest steps)
      (λ x y h. ⊎_elim (λ k. inl k) (λ k. inr (hold_only _ made m x y (hold_only _ fresh f x y k).0)) h)
      (λ x y h. ⊎_elim
      (λ k. inl k)
      (λ k. ⊎_elim (λ old. inl old) (λ new. inr (rows_hold _ fresh f x y (rows_hold _ made m x y k, new))) (decide_rows known x y))
      h)
      all a

  pub fresh_on : NormalRows (OnlyFirstHolds all known) fresh
  fresh_on = rows_alike (OnlyFirstHolds made known) (OnlyFirstHolds all known)
      (λ x y h. (rows_hold _ all a x y (inr (rows_hold _ fresh f x y h)), h.1))
      (λ x y h. ⊎_elim (λ k. absurd (h.1 k)) (λ k. hold_only _ fresh f x y k) (hold_only _ all a x y h.0))
      fresh f

module _ (one steps : List Row) (o : ℕ) where
  abbrev To : ℕ → Relation
  To n = IsAlongFrom one steps o n

  -- these are the pairs to which at most k steps lead from the source, and from each of them but the newest a step leads to one of them; for no
  -- number of steps up to k are the rows more than the bound
  pub record AreClosed (k bound : ℕ) (known newest : List Row) : Type 0 where
    pub all : NormalRows (To k) known
    pub newest_there : (x y : Point) → RowsHold newest x y → RowsHold known x y
    pub led : (x y z : Point) → RowsHold known x y → RowsHold steps y z → RowsHold known x z ⊎ RowsHold newest x y
    pub few : (j : ℕ) → j ≤ k → Fits (To j) bound

  -- one step more leads as far, and further by a step
  along_more : (n : ℕ) (x y : Point) → To (suc n) x y ↔ (To n x y ⊎ ((z : Point) × To n x z × RowsHold steps z y))
  unfolding Reaches
  along_more n x y = (
    λ h. ⊎_elim (λ a. inl ((h.0.0, a), h.1)) (λ a. inr (a.0, ((h.0.0, a.1), h.1), a.2)) h.0.1,
    λ h. ⊎_elim (λ a. ((a.0.0, inl a.0.1), a.1)) (λ a. let b = a.1 in ((b.0.0, inr (a.0, b.0.1, a.2)), b.1)) h,
  )

  -- no step
  none_along : (x y : Point) → To 0 x y ↔ (RowsHold one x x × (x ≡ y) × (x.object ≡ o))
  unfolding Reaches
  none_along x y = (λ h. (h.0.0, h.0.1, h.1), λ h. ((h.0, h.1), h.2))

  -- the rows of the one relation from the source are what no step leads to
  pub none_closed : ((x : Point) → (y : Point) → RowsHold one x y → x ≡ y) → (known newest : List Row) → NormalRows (λ x y. RowsHold one x y × (x.object ≡ o)) known
      → NormalRows (λ x y. RowsHold one x y × (x.object ≡ o)) newest → AreClosed 0 (length known) known newest
  none_closed same known newest n m = record {
    all = all;
    newest_there = λ x y h. rows_hold _ known n x y (hold_only _ newest m x y h);
    led = λ x y z h s. inr (rows_hold _ newest m x y (hold_only _ known n x y h));
    few = λ j le. let none : 0 ≡ j = omega arith in subst (λ (v : ℕ). Fits (To v) (length known)) none (known, all, omega arith);
  }
    where
      all : NormalRows (To 0) known
      all = rows_alike (λ x y. RowsHold one x y × (x.object ≡ o)) (To 0)
          (λ x y h. let e = same x y h.0 in (none_along x y).1 (subst (λ (v : Point). RowsHold one x v) (sym e) h.0, e, h.1))
          (λ x y h. let k = (none_along x y).0 h in (subst (λ (v : Point). RowsHold one x v) k.1 k.0, k.2))
          known n

  module _ (k bound : ℕ) (known newest : List Row) (so : AreClosed k bound known newest) (next fresh : List Row)
      (step : NormalRows (HoldsOrLeads known newest steps) next) (new : NormalRows (OnlyFirstHolds next known) fresh) where
    stays_known : (x y : Point) → RowsHold known x y → RowsHold next x y
    stays_known x y h = rows_hold _ next step x y (inl h)

    -- where a step leads from what is known
    leads : (x y z : Point) → RowsHold known x y → RowsHold steps y z → HoldsOrLeads known newest steps x z
    leads x y z h s = ⊎_elim (λ a. inl a) (λ a. inr (y, a, s)) (so.led x y z h s)

    goes_on : (x y z : Point) → RowsHold known x y → RowsHold steps y z → RowsHold next x z
    goes_on x y z h s = rows_hold _ next step x z (leads x y z h s)

    -- what is next is known, or is fresh
    old_or_new : (x y : Point) → RowsHold next x y → RowsHold known x y ⊎ RowsHold fresh x y
    old_or_new x y h = ⊎_elim (λ a. inl a) (λ not. inr (rows_hold _ fresh new x y (h, not))) (decide_rows known x y)

    next_all : NormalRows (To (suc k)) next
    next_all = rows_alike (HoldsOrLeads known newest steps) (To (suc k))
        (λ x y h. (along_more k x y).1 (⊎_elim
        (λ a. inl (hold_only _ known so.all x y a))
        (λ a. inr (a.0, hold_only _ known so.all x a.0 (so.newest_there x a.0 a.1), a.2))
        h))
        (λ x y h. ⊎_elim
        (λ a. inl (rows_hold _ known so.all x y a))
        (λ a. leads x a.0 y (rows_hold _ known so.all x a.0 a.1) a.2)
        ((along_more k x y).0 h))
        next step

    -- one step more is gone
    pub step_closed : (more : ℕ) → bound ≤ more → length next ≤ more → AreClosed (k + 1) more next fresh
    step_closed more le few = subst (λ (v : ℕ). AreClosed v more next fresh) (sym (add-one k)) (record {
      all = next_all;
      newest_there = λ x y h. (hold_only _ fresh new x y h).0;
      led = λ x y z h s. ⊎_elim (λ a. inl (goes_on x y z a s)) (λ a. inr a) (old_or_new x y h);
      few = λ j up. ⊎_elim
          (λ low. let f = so.few j low in (f.0, f.1, (let l = f.2 in omega arith)))
          (λ high. let e : suc k ≡ j = omega (arith, up, high) in subst (λ (v : ℕ). Fits (To v) more) e (next, next_all, few))
          (at_most j k);
    })

    -- where nothing is fresh, no number of steps leads further
    module _ (none : fresh ≡ []) where
      stays : (x y z : Point) → RowsHold known x y → RowsHold steps y z → RowsHold known x z
      stays x y z h s = ⊎_elim (λ a. a) (λ a. absurd ((subst (λ (v : List Row). RowsHold v x z) none a).1)) (old_or_new x z (goes_on x y z h s))

      beyond : (m n : ℕ) → n ≡ m + k → (x y : Point) → To n x y ↔ To k x y
      beyond zero n e x y = let same : k ≡ n = omega arith in subst (λ (v : ℕ). To v x y ↔ To k x y) same (λ h. h, λ h. h)
      beyond (suc m) n e x y = let same : suc (m + k) ≡ n = omega arith in subst (λ (v : ℕ). To v x y ↔ To k x y) same (
        λ h. ⊎_elim
            (λ a. (beyond m (m + k) refl x y).0 a)
            (λ a. hold_only _ known so.all x y (stays x a.0 y (rows_hold _ known so.all x a.0 ((beyond m (m + k) refl x a.0).0 a.1)) a.2))
            ((along_more (m + k) x y).0 h),
        λ h. (along_more (m + k) x y).1 (inl ((beyond m (m + k) refl x y).1 h)),
      )

      further : (n : ℕ) → k ≤ n → (x y : Point) → To n x y ↔ To k x y
      further n le = beyond (n - k) n (omega (arith, le))

      pub closed_whole : (most : ℕ) → k ≤ most → NormalRows (To most) known
      closed_whole most le = rows_alike (To k) (To most) (λ x y h. (further most le x y).1 h) (λ x y h. (further most le x y).0 h) known so.all

      pub closed_fits : (n : ℕ) → Fits (To n) bound
      closed_fits n = ⊎_elim
          (λ low. so.few n low)
          (λ high. let le : k ≤ n = omega (arith, high) in fits_alike (To k) (To n) (λ x y h. (further n le x y).1 h) (λ x y h. (further n le x y).0 h) bound (so.few k (omega arith)))
          (at_most n k)
