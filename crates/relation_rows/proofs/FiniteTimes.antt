-- Rows of one time have finitely many objects and moments, and it is decided which: so what the first have and the second haven't has rows.
use Rattle.std.proofs.Common.{◌≡◌, ◌⊎◌, inl, inr, ⊎_elim, ℕ, ◌+◌, ◌<◌, ℤ, pos, ◌≤ℤ◌, List, [], ◌∷◌, refl, sym, subst, arith}
use Rattle.std.proofs.lemmas.Int.{ints}
use Rattle.itpg_base.specs.Decided.{Decided}
use Rattle.itpg_base.specs.Spans.{Within}
use Rattle.itpg_base.proofs.PointSearch.{within_span}
use Rattle.itpg_base.proofs.Searches.{both, either, fails, as_well, same_number}
use Rattle.interval_set.proofs.Exists.{runs_exist}
use Rattle.zone_core.specs.Zone.{Between}
use Rattle.relation_rows.specs.declared.times.OneRow.{OneRow}
use Rattle.relation_rows.specs.Times.{InTime, TimesHold, OnlyFirstHas, AreTimes}
use Rattle.relation_rows.proofs.Finite.{lower_of, upper_of, between_wider}
use Rattle.relation_rows.proofs.TimeLaws.{times_exist}

pub has_more : (r : OneRow) (rows : List OneRow) (o : ℕ) (t : ℤ) → TimesHold (r ∷ rows) o t → InTime r o t ⊎ TimesHold rows o t
has_more r rows o t h = ⊎_elim (λ (e : r ≡ h.0). inl (subst (λ (v : OneRow). InTime v o t) (sym e) h.2)) (λ a. inr (h.0, a, h.2)) h.1

pub more_has : (r : OneRow) (rows : List OneRow) (o : ℕ) (t : ℤ) → InTime r o t ⊎ TimesHold rows o t → TimesHold (r ∷ rows) o t
more_has r rows o t (inl i) = (r, inl refl, i)
more_has r rows o t (inr h) = (h.0, inr h.1, h.2)

pub record HasBounds (rows : List OneRow) (objects : ℕ) (low high : ℤ) : Type 0 where
  pub object : (o : ℕ) (t : ℤ) → TimesHold rows o t → o < objects
  pub moment : (o : ℕ) (t : ℤ) → TimesHold rows o t → Between low high t

bounds_more : (r : OneRow) (rows : List OneRow) (objects : ℕ) (low high least greatest : ℤ) → HasBounds rows objects low high → least ≤ℤ r.span.from → least ≤ℤ low → r.span.to ≤ℤ greatest → high ≤ℤ greatest
    → HasBounds (r ∷ rows) (r.object.0 + 1 + objects) least greatest
bounds_more r rows objects low high least greatest b lf ll tg hg = record {
  object = λ o t h. ⊎_elim (λ i. let s = i.object in omega arith) (λ k. let s = b.object o t k in omega arith) (has_more r rows o t h);
  moment = λ o t h. ⊎_elim (λ i. within_wider (i.moment)) (λ k. between_wider low high least greatest t ll hg (b.moment o t k)) (has_more r rows o t h);
}
  where
    within_wider : {t : ℤ} → Within t r.span → Between least greatest t
    within_wider w =
        let begun = w.begun in
        let going = w.going in
        record { above = omega (arith, ints); below = omega (arith, ints) }

pub times_finite : (rows : List OneRow) → (objects : ℕ) × (low : ℤ) × (high : ℤ) × HasBounds rows objects low high
times_finite [] = (0, pos 0, pos 0, record { object = λ o t h. absurd h.1; moment = λ o t h. absurd h.1 })
times_finite (r ∷ rows) =
    let b = times_finite rows in
    let l = lower_of r.span.from b.1 in
    let h = upper_of r.span.to b.2 in
    (r.object.0 + 1 + b.0, l.0, h.0, bounds_more r rows b.0 b.1 b.2 l.0 h.0 b.3 l.1 l.2 h.1 h.2)

decide_time : (r : OneRow) (o : ℕ) (t : ℤ) → Decided (InTime r o t)
decide_time r o t = as_well
    (λ h. record { object = h.0; moment = h.1 })
    (λ i. (i.object, i.moment))
    (both (same_number r.object.0 o) (within_span t r.span))

pub decide_times : (rows : List OneRow) (o : ℕ) (t : ℤ) → Decided (TimesHold rows o t)
decide_times [] o t = inr (λ h. h.1)
decide_times (r ∷ rows) o t = as_well (more_has r rows o t) (has_more r rows o t) (either (decide_time r o t) (decide_times rows o t))

pub rest_there : (first second : List OneRow) → (rows : List OneRow) × AreTimes (OnlyFirstHas first second) rows
rest_there first second =
    let b = times_finite first in
    let n = b.3 in
    times_exist (OnlyFirstHas first second)
    (λ o. runs_exist (OnlyFirstHas first second o) b.1 b.2 (λ t h. (n.moment o t h.0).above) (λ t h. (n.moment o t h.0).below) (λ t. both (decide_times first o t) (fails (decide_times second o t))))
    b.0 (λ o t h. n.object o t h.0)
