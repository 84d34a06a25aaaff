-- Relations that lie far from each other: the rows of both are those of the one and those of the other.
use Rattle.std.proofs.Common.{◌≡◌, ◌⊎◌, ◌↔◌, inl, inr, ⊎_elim, ℕ, zero, suc, ℤ, pos, ◌+ℤ◌, ◌-ℤ◌, ◌≤ℤ◌, List, ◌++◌, subst, arith}
use borrow.Author.Differences.{up}
use Rattle.std.proofs.lemmas.Int.{ints}
use Rattle.band_normal.specs.declared.band.Band.{Band}
use Rattle.band_normal.specs.Bands.{InBand}
use Rattle.band_normal.specs.Normal.{IsRun, Steps, IsRow}
use Rattle.band_normal.specs.Strips.{Holds}
use Rattle.band_normal.specs.Rows.{AreApart, AreAll}
use Rattle.band_normal.specs.Parts.{AreFar}
use Rattle.itpg_base.proofs.Lists.{among_append, append_ordered}
use Rattle.band_normal.proofs.Unique.{steps_near}
use Rattle.band_normal.proofs.Zoning.{holds-append}
use Rattle.band_normal.proofs.Sorting.{row_like}
use Rattle.band_normal.proofs.Sweeping.{up_of}

-- what either holds
abbrev pub Either : (ℤ → ℤ → Type 0) → (ℤ → ℤ → Type 0) → ℤ → ℤ → Type 0
Either R S t u = R t u ⊎ S t u

pub far_flip : (R S : ℤ → ℤ → Type 0) → AreFar R S → AreFar S R
far_flip R S f = record {
  beside = λ t u v s r. ⊎_elim (λ a. inr a) (λ a. inl a) (f.beside t v u r s);
  before = f.after;
  after = f.before;
}

-- what holds at the low end and goes on from each arrival to the next holds up to the high end
climb : (P : ℤ → Type 0) (low high : ℤ) → P low → ((u : ℤ) → low ≤ℤ u → (u +ℤ pos 1) ≤ℤ high → P u → P (u +ℤ pos 1)) → (n : ℕ) → (low +ℤ pos n) ≤ℤ high → P (low +ℤ pos n)
climb P low high first next zero le = subst P (omega (arith, ints)) first
climb P low high first next (suc n) le =
    let here = climb P low high first next n (omega (arith, ints)) in
    subst P (omega (arith, ints)) (next (low +ℤ pos n) (omega (arith, ints)) (omega (arith, ints)) here)

pub climb_to : (P : ℤ → Type 0) (low high : ℤ) → P low → ((u : ℤ) → low ≤ℤ u → (u +ℤ pos 1) ≤ℤ high → P u → P (u +ℤ pos 1)) → (u : ℤ) → low ≤ℤ u → u ≤ℤ high → P u
climb_to P low high first next u a b =
    let is = up_of (u -ℤ low) (omega (arith, ints)) in
    let e : low +ℤ pos (up (u -ℤ low)) ≡ u = omega (arith, ints) in
    subst P e (climb P low high first next (up (u -ℤ low)) (omega (arith, ints)))

module _ (R S : ℤ → ℤ → Type 0) (far : AreFar R S) where
  -- a run of the one is a run of both
  run_both : (t l h : ℤ) → IsRun R t l h → IsRun (Either R S) t l h
  run_both t l h r =
      let some = r.some in
      record {
        some = r.some;
        each = λ u a b. inl (r.each u a b);
        below = λ k. ⊎_elim (λ a. r.below a) (λ s. ⊎_elim (λ lt. omega (arith, ints)) (λ lt. omega (arith, ints)) (far.beside t l (l -ℤ pos 1) (r.each l (omega (arith, ints)) some) s)) k;
        above = λ k. ⊎_elim (λ a. r.above a) (λ s. ⊎_elim (λ lt. omega (arith, ints)) (λ lt. omega (arith, ints)) (far.beside t h (h +ℤ pos 1) (r.each h some (omega (arith, ints))) s)) k;
      }

  -- a run of both that continues one of the one is a run of it
  run_back : (t low high l h : ℤ) → IsRun R t low high → IsRun (Either R S) (t +ℤ pos 1) l h → Steps low l → IsRun R (t +ℤ pos 1) l h
  run_back t low high l h last r step =
      let near = steps_near low l step in
      let n0 = near.0 in let n1 = near.1 in
      let some = r.some in
      let first : R (t +ℤ pos 1) l = ⊎_elim (λ a. a) (λ s. absurd (⊎_elim (λ lt. omega (arith, ints)) (λ lt. omega (arith, ints)) (far.before t low l (last.each low (omega (arith, ints)) last.some) s))) (r.each l (omega (arith, ints)) some) in
      record {
        some = r.some;
        each = climb_to (R (t +ℤ pos 1)) l h first
            (λ u a b here. ⊎_elim (λ k. k) (λ s. absurd (⊎_elim (λ lt. omega (arith, ints)) (λ lt. omega (arith, ints)) (far.beside (t +ℤ pos 1) u (u +ℤ pos 1) here s))) (r.each (u +ℤ pos 1) (omega (arith, ints)) b));
        below = λ k. r.below (inl k);
        above = λ k. r.above (inl k);
      }

  pub row_both : (b : Band) → IsRow R b → IsRow (Either R S) b
  row_both b w = record {
    span = w.span;
    runs = λ t p q. run_both t _ _ (w.runs t p q);
    single_low = w.single_low;
    single_high = w.single_high;
    stops = λ l h r sl sh. w.stops l h (run_back b.to _ _ l h (w.runs b.to w.span (omega (arith, ints))) r sl) sl sh;
  }

row_in : (R : ℤ → ℤ → Type 0) (b : Band) → IsRow R b → (t u : ℤ) → InBand b t u → R t u
row_in R b w t u i = (w.runs t i.from i.to).each u i.low i.high

-- all rows of a relation are all rows of one that holds the same
pub all_like : (R S : ℤ → ℤ → Type 0) (rows : List Band) → ((t u : ℤ) → R t u ↔ S t u) → AreAll R rows → AreAll S rows
all_like R S rows f a = record { each = λ b i. row_like R S b f (a.each b i); whole = λ t u s. a.whole t u ((f t u).1 s); apart = a.apart }

-- the rows of two relations far from each other are those of both
pub all_both : (R S : ℤ → ℤ → Type 0) (xs ys : List Band) → AreFar R S → AreAll R xs → AreAll S ys → AreAll (Either R S) (xs ++ ys)
all_both R S xs ys far ax ay = record {
  each = λ b i. ⊎_elim (λ j. row_both R S far b (ax.each b j))
      (λ j. row_like (Either S R) (Either R S) b (λ t u. (λ h. ⊎_elim (λ a. inr a) (λ a. inl a) h, λ h. ⊎_elim (λ a. inr a) (λ a. inl a) h)) (row_both S R (far_flip R S far) b (ay.each b j)))
      (among_append xs ys b i);
  whole = λ t u h. (holds-append xs ys t u).1 (⊎_elim (λ r. inl (ax.whole t u r)) (λ s. inr (ay.whole t u s)) h);
  apart = append_ordered AreApart xs ys ax.apart ay.apart
      (λ x y i j t u p q. ⊎_elim (λ lt. omega (arith, ints)) (λ lt. omega (arith, ints)) (far.beside t u u (row_in R x (ax.each x i) t u p) (row_in S y (ay.each y j) t u q)));
}

-- the rows of a relation hold its pairs and no others
pub all-holds : (R : ℤ → ℤ → Type 0) (rows : List Band) → AreAll R rows → (t u : ℤ) → Holds rows t u ↔ R t u
all-holds R rows a t u = (λ h. row_in R h.0 (a.each h.0 h.1) t u h.2, a.whole t u)
