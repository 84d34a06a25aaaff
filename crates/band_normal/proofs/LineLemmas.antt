-- Rows that stand from low to high, and strips that do so: each is passed once.
use Rattle.std.proofs.Common.{◌≡◌, inl, inr, ⊎_elim, ℕ, zero, suc, ◌+◌, ◌<◌, ◌≤◌, ℤ, pos, ◌+ℤ◌, ◌≤ℤ◌, ◌<ℤ◌, List, [], ◌∷◌, ◌++◌, length, get_or, take, drop, Option, None, Some, refl, sym, ◌∙◌, subst, arith, append_assoc}
use Rattle.std.specs.Prelude.{slice_get, IfSome, IfNone}
use Rattle.std.specs.Option.{option_to_list}
use Rattle.std.proofs.lemmas.Int.{ints}
use Rattle.std.proofs.lemmas.List.{drop_more, take_more, take_all}
use Rattle.band_normal.specs.declared.band.Band.{Band}
use Rattle.band_normal.specs.declared.strips.Stretch.{Stretch}
use Rattle.band_normal.specs.declared.strips.Ends.{Ends}
use Rattle.itpg_base.specs.Lists.{Among, Ordered}
use Rattle.band_normal.specs.Bands.{end_at, InBand, IsWellFormed}
use Rattle.band_normal.specs.Normal.{IsInRange}
use Rattle.band_normal.specs.Strips.{HaveGap, AreRuns}
use Rattle.band_normal.specs.Rows.{strip, Continues, IsTaken, CanTake, CanFollow, TakesStrip, AreRowsTo, IsUnder, RunsBelow, JoinsStrip}
use Rattle.itpg_base.proofs.Lists.{among_append, append_first, append_second, append_ordered, ordered_second, among_at}
use Rattle.band_normal.proofs.Unique.{same_run, steps_near}
use Rattle.band_normal.proofs.WellFormed.{strip-well_formed}
use Rattle.band_normal.proofs.Joining.{AreJoining, joining_start, joining_more, joining_end, can_take, leader_follows}

get_drop : {X : Type 0} (xs : List X) (n : ℕ) → slice_get (drop n xs) 0 ≡ slice_get xs n
get_drop [] zero = refl
get_drop [] (suc n) = refl
get_drop (x ∷ xs) zero = refl
get_drop (x ∷ xs) (suc n) = get_drop xs n

ordered_drop : {X : Type 0} (Before : X → X → Type 0) (xs : List X) (n : ℕ) → Ordered Before xs → Ordered Before (drop n xs)
ordered_drop Before [] zero o = tt
ordered_drop Before [] (suc n) o = tt
ordered_drop Before (x ∷ xs) zero o = o
ordered_drop Before (x ∷ xs) (suc n) o = ordered_drop Before xs n o.1

pub record AreLining (R : ℤ → ℤ → Type 0) (s : Stretch) (runs : List Ends) (i : ℕ) (complete next passed waiting : List Band) : Type 0 where
  pub joining : AreJoining R s (take i runs) complete next (passed ++ waiting)
  pub line : Ordered RunsBelow waiting
  pub under : (b : Band) (e : Ends) → Among passed b → Among (drop i runs) e → IsUnder b (strip s e)
  pub ahead : (b : Band) (e : Ends) → Among next b → Among (drop i runs) e → (end_at b.low b.to +ℤ pos 1) <ℤ end_at e.low s.to
  pub next_line : Ordered RunsBelow next

-- a row that ends too low isn't continued
under_not : (b st : Band) → IsUnder b st → Continues b st → ⊥
under_not b st u c = let near = steps_near _ _ c.low in let a = near.1 in omega (arith, ints)

-- the first of the rows in line isn't too low; if the strip doesn't continue it, it continues none of them
first_only : (rows : List Band) (st : Band) → Ordered RunsBelow rows → ((b : Band) → Among rows b → st.from ≡ b.to +ℤ pos 1) → ((b : Band) → slice_get rows 0 ≡ Some b → IsUnder b st → ⊥) → ((b : Band) → slice_get rows 0 ≡ Some b → Continues b st → ⊥)
    → (b : Band) → Among rows b → Continues b st → ⊥
first_only [] st o next over none b i c = i
first_only (r ∷ rs) st o next over none b (inl e) c = none r refl (subst (λ (v : Band). Continues v st) (sym e) c)
first_only (r ∷ rs) st o next over none b (inr i) c =
    let below = o.0 b i in
    let near = steps_near _ _ c.low in let n0 = near.0 in
    over r refl (omega (arith, ints))

-- the rows after the one that the strip continues
after_led : (others front later : List Band) (row : Option Band) → IfSome row (λ r. slice_get others 0 ≡ Some r) → others ≡ front ++ later → front ≡ take (length (option_to_list row)) others → others ≡ option_to_list row ++ later
after_led others front later None some e f = subst (λ (v : List Band). others ≡ v ++ later) f e
after_led [] front later (Some r) some e f = absurd (none_some r some)
  where
    none_some : (r : Band) → None ≡ Some r → ⊥
    none_some r e = let none : ⊥ = cc in none
after_led (x ∷ xs) front later (Some r) some e f =
    let same : x ≡ r = cc in
    let g : x ∷ xs ≡ (x ∷ []) ++ later = subst (λ (v : List Band). x ∷ xs ≡ v ++ later) f e in
    subst (λ (v : Band). x ∷ xs ≡ v ∷ later) same g

pub waiting_formed : (R : ℤ → ℤ → Type 0) (s : Stretch) (runs : List Ends) (i : ℕ) (complete next passed waiting : List Band) → IsInRange R → AreLining R s runs i complete next passed waiting → (b : Band) → Among waiting b → IsWellFormed b
waiting_formed R s runs i complete next passed waiting range l b k = strip-well_formed R b range (l.joining.wait b (append_second passed waiting b k)).strip

pub waiting_next : (R : ℤ → ℤ → Type 0) (s : Stretch) (runs : List Ends) (i : ℕ) (complete next passed waiting : List Band) → AreLining R s runs i complete next passed waiting → (b : Band) → Among waiting b → s.from ≡ b.to +ℤ pos 1
waiting_next R s runs i complete next passed waiting l b k = let to = (l.joining.wait b (append_second passed waiting b k)).to in omega (arith, ints)

module _ (R : ℤ → ℤ → Type 0) (s : Stretch) (runs : List Ends) (i : ℕ) (d : Ends) (complete next passed waiting : List Band) (range : IsInRange R) (h : AreRuns R s runs) (span : s.from ≤ℤ s.to) (lt : i < length runs)
    (l : AreLining R s runs i complete next passed waiting) where
  e : Ends
  e = get_or runs i d

  st : Band
  st = strip s (get_or runs i d)

  take_it : CanTake R (passed ++ waiting) (strip s (get_or runs i d))
  take_it = can_take R s runs i d complete next (passed ++ waiting) range h span lt l.joining

  pub strip_formed : IsWellFormed (strip s (get_or runs i d))
  strip_formed = strip-well_formed R (strip s (get_or runs i d)) range take_it.strip_runs

  here : Among (drop i runs) (get_or runs i d)
  here = subst (λ (v : List Ends). Among v (get_or runs i d)) (sym (drop_more runs i d lt)) (inl refl)

  later_run : (f : Ends) → Among (drop (i + 1) runs) f → Among (drop i runs) f
  later_run f k = subst (λ (v : List Ends). Among v f) (sym (drop_more runs i d lt)) (inr k)

  gap : (f : Ends) → Among (drop (i + 1) runs) f → HaveGap s (get_or runs i d) f
  gap f k = (subst (λ (v : List Ends). Ordered (HaveGap s) v) (drop_more runs i d lt) (ordered_drop (HaveGap s) runs i h.order)).0 f k

  run_some : (t : ℤ) → s.from ≤ℤ t → t ≤ℤ s.to → end_at (get_or runs i d).low t ≤ℤ end_at (get_or runs i d).high t
  run_some t p q = (h.each (get_or runs i d) (among_at runs i d lt) t p q).some

  module _ (under others front later : List Band) (n : ℕ) (row : Option Band) (whole : waiting ≡ under ++ others) (is_under : under ≡ take n waiting) (is_others : others ≡ drop n waiting)
      (each_under : (b : Band) → Among (take n waiting) b → IsUnder b (strip s (get_or runs i d))) (over : (b : Band) → slice_get waiting n ≡ Some b → IsUnder b (strip s (get_or runs i d)) → ⊥)
      (some : IfSome row (λ r. slice_get others 0 ≡ Some r)) (found : IfSome row (λ r. Continues r (strip s (get_or runs i d)))) (none : IfNone row ((b : Band) → slice_get others 0 ≡ Some b → Continues b (strip s (get_or runs i d)) → ⊥))
      (parts : others ≡ front ++ later) (is_front : front ≡ take (length (option_to_list row)) others) where
    split : others ≡ option_to_list row ++ later
    split = after_led others front later row some parts is_front

    others_in : (b : Band) → Among others b → Among waiting b
    others_in b k = subst (λ (v : List Band). Among v b) (sym whole) (append_second under others b k)

    others_line : Ordered RunsBelow others
    others_line = ordered_second RunsBelow under others (subst (λ (v : List Band). Ordered RunsBelow v) whole l.line)

    under_each : (b : Band) → Among under b → IsUnder b (strip s (get_or runs i d))
    under_each b k = each_under b (subst (λ (v : List Band). Among v b) is_under k)

    taken : (passed' : List Band) → passed' ≡ passed ++ under → IsTaken (passed ++ waiting) row (passed' ++ later)
    taken passed' e = record {
      front = passed ++ under;
      back = later;
      was = subst (λ (v : List Band). passed ++ waiting ≡ v) (sym (append_assoc passed under (option_to_list row ++ later)))
          (subst (λ (v : List Band). passed ++ waiting ≡ passed ++ (under ++ v)) split (subst (λ (v : List Band). passed ++ waiting ≡ passed ++ v) whole refl));
      is = subst (λ (v : List Band). passed' ++ later ≡ v ++ later) e refl;
    }

    found_each : (o : Option Band) → IfSome o (λ r. Continues r (strip s (get_or runs i d))) → (b : Band) → Among (option_to_list o) b → Continues b (strip s (get_or runs i d))
    found_each None f b k = absurd k
    found_each (Some r) f b k = ⊎_elim (λ (g : r ≡ b). subst (λ (v : Band). Continues v (strip s (get_or runs i d))) g f) absurd k

    none_others : (o : Option Band) → o ≡ None → IfNone o ((b : Band) → slice_get others 0 ≡ Some b → Continues b (strip s (get_or runs i d)) → ⊥) → (b : Band) → slice_get others 0 ≡ Some b → Continues b (strip s (get_or runs i d)) → ⊥
    none_others None g f = f
    none_others (Some r) g f = absurd (let no : ⊥ = cc in no)

    over_others : (b : Band) → slice_get others 0 ≡ Some b → IsUnder b (strip s (get_or runs i d)) → ⊥
    over_others b g = over b (sym (get_drop waiting n) ∙ subst (λ (v : List Band). slice_get v 0 ≡ Some b) is_others g)

    none_at_all : row ≡ None → (b : Band) → Among (passed ++ waiting) b → Continues b (strip s (get_or runs i d)) → ⊥
    none_at_all g b k c = ⊎_elim
        (λ m. under_not b (strip s (get_or runs i d)) (l.under b (get_or runs i d) m here) c)
        (λ m. ⊎_elim
        (λ q. under_not b (strip s (get_or runs i d)) (under_each b q) c)
        (λ q. first_only others (strip s (get_or runs i d)) others_line (λ v j. waiting_next R s runs i complete next passed waiting l v (others_in v j)) over_others (none_others row g none) b q c)
        (among_append under others b (subst (λ (v : List Band). Among v b) whole m)))
        (among_append passed waiting b k)

    -- the row, if any, may be followed by the strip
    pub lined_follow : CanFollow R (option_to_list row) (strip s (get_or runs i d))
    lined_follow = leader_follows R (passed ++ waiting) ((passed ++ under) ++ later) row (strip s (get_or runs i d)) take_it (taken (passed ++ under) refl) (found_each row found)

    module _ (complete' next' passed' : List Band) (j : JoinsStrip R complete next passed under row (strip s (get_or runs i d)) complete' next' passed') where
      takes : TakesStrip R complete next (passed ++ waiting) (strip s (get_or runs i d)) complete' next' (passed' ++ later)
      takes = record {
        leader = row;
        taken = taken passed' j.passed_is;
        continues = found_each row found;
        none = none_at_all;
        stopped = j.stopped;
        goes_on = j.goes_on;
        joint = j.joint;
        complete_is = j.complete_is;
        next_is = j.next_is;
      }

      led_in : (b : Band) → Among (option_to_list row) b → Among waiting b
      led_in b k = others_in b (subst (λ (v : List Band). Among v b) (sym split) (append_first (option_to_list row) later b k))

      -- the row that goes on ends with the strip's last run
      goes_low : end_at j.goes_on.low j.goes_on.to ≡ end_at (get_or runs i d).low s.to
      goes_low =
          let g = j.joint.goes_on in
          let to = g.to in
          let last = g.strip.runs j.goes_on.to g.strip.span (omega (arith, ints)) in
          let some = last.some in
          let pair : InBand j.goes_on j.goes_on.to (end_at j.goes_on.low j.goes_on.to) = record { from = g.strip.span; to = omega (arith, ints); low = omega (arith, ints); high = some } in
          let old = j.joint.sound j.goes_on.to (end_at j.goes_on.low j.goes_on.to) (inr pair) in
          let inside : InBand (strip s (get_or runs i d)) j.goes_on.to (end_at j.goes_on.low j.goes_on.to) = ⊎_elim
          (λ k. absurd (let a = waiting_next R s runs i complete next passed waiting l k.0 (led_in k.0 k.1) in let b = k.2.to in omega (arith, ints)))
          (λ k. k) old in
          let a = inside.low in let b = inside.high in
          let run = h.each (get_or runs i d) (among_at runs i d lt) j.goes_on.to (subst (λ (v : ℤ). s.from ≤ℤ v) (sym to) span) (omega (arith, ints)) in
          let one = (same_run R j.goes_on.to _ _ _ _ last run (omega (arith, ints)) (omega (arith, ints))).0 in
          subst (λ (v : ℤ). end_at j.goes_on.low j.goes_on.to ≡ end_at (get_or runs i d).low v) to one

      pub lining_step : AreLining R s runs (i + 1) complete' next' passed' later
      lining_step = record {
        joining = joining_more R s runs i d complete next (passed ++ waiting) complete' next' (passed' ++ later) h span lt l.joining takes;
        line = ordered_second RunsBelow (option_to_list row) later (subst (λ (v : List Band). Ordered RunsBelow v) split others_line);
        under = λ b f k m. ⊎_elim
            (λ q. l.under b f q (later_run f m))
            (λ q. let u = under_each b q in let g = (gap f m).at s.from (omega (arith, ints)) span in let r = run_some s.from (omega (arith, ints)) span in omega (arith, ints))
            (among_append passed under b (subst (λ (v : List Band). Among v b) j.passed_is k));
        ahead = λ b f k m. ⊎_elim
            (λ q. l.ahead b f q (later_run f m))
            (λ q. ⊎_elim (λ (o : j.goes_on ≡ b). subst (λ (v : Band). (end_at v.low v.to +ℤ pos 1) <ℤ end_at f.low s.to) o
            (let x = goes_low in let g = (gap f m).at s.to span (omega (arith, ints)) in let r = run_some s.to span (omega (arith, ints)) in omega (arith, ints))) absurd q)
            (among_append next (j.goes_on ∷ []) b (subst (λ (v : List Band). Among v b) j.next_is k));
        next_line = subst (λ (v : List Band). Ordered RunsBelow v) (sym j.next_is)
            (append_ordered RunsBelow next (j.goes_on ∷ []) l.next_line (λ y k. absurd k, tt)
            (λ x y k m. ⊎_elim (λ (o : j.goes_on ≡ y). subst (λ (v : Band). (end_at x.low x.to +ℤ pos 1) <ℤ end_at v.low v.to) o
            (let g = l.ahead x (get_or runs i d) k here in let z = goes_low in omega (arith, ints))) absurd m));
      }

pub lining_start : (R : ℤ → ℤ → Type 0) (s : Stretch) (runs : List Ends) (complete reaching next passed waiting : List Band) → next ≡ [] → passed ≡ [] → waiting ≡ reaching
    → AreRowsTo R s.from complete reaching → s.from ≤ℤ s.to → Ordered RunsBelow reaching → AreLining R s runs 0 complete next passed waiting
lining_start R s runs complete reaching next passed waiting e f g h span o =
    let P : List Band → Type 0 = λ v. AreLining R s runs 0 complete v passed waiting in
    let Q : List Band → Type 0 = λ v. AreLining R s runs 0 complete [] v waiting in
    let S : List Band → Type 0 = λ v. AreLining R s runs 0 complete [] [] v in
    subst P (sym e) (subst Q (sym f) (subst S (sym g) (record { joining = joining_start R s complete reaching h span; line = o; under = λ b e k m. absurd k; ahead = λ b e k m. absurd k; next_line = tt })))

-- the rows so far are too low, and so is one more
pub under_more : (rows : List Band) (i : ℕ) (d st : Band) → i < length rows → ((b : Band) → Among (take i rows) b → IsUnder b st) → IsUnder (get_or rows i d) st → (b : Band) → Among (take (i + 1) rows) b → IsUnder b st
under_more rows i d st lt all here b h = ⊎_elim
    (λ j. all b j)
    (λ j. ⊎_elim (λ (e : get_or rows i d ≡ b). subst (λ (v : Band). IsUnder v st) e here) absurd j)
    (among_append (take i rows) (get_or rows i d ∷ []) b (subst (λ (v : List Band). Among v b) (take_more rows i d lt) h))

pub first_in : (rows : List Band) (b : Band) → Some b ≡ slice_get rows 0 → Among rows b
first_in [] b e = let none : ⊥ = cc in absurd none
first_in (r ∷ rs) b e = inl (cc)

pub lining_rows : (R : ℤ → ℤ → Type 0) (s : Stretch) (runs : List Ends) (i : ℕ) (complete next passed waiting complete' reaching : List Band) → AreRuns R s runs → s.from ≤ℤ s.to → length runs ≤ i
    → AreLining R s runs i complete next passed waiting → complete' ≡ complete ++ (passed ++ waiting) → reaching ≡ next → AreRowsTo R (s.to +ℤ pos 1) complete' reaching
lining_rows R s runs i complete next passed waiting complete' reaching h span le l c o =
    let P : List Band → Type 0 = λ w. AreRowsTo R (s.to +ℤ pos 1) w reaching in
    let Q : List Band → Type 0 = λ w. AreRowsTo R (s.to +ℤ pos 1) (complete ++ (passed ++ waiting)) w in
    let all = subst (λ (w : List Ends). AreJoining R s w complete next (passed ++ waiting)) (take_all i runs le) l.joining in
    subst P (sym c) (subst Q (sym o) (joining_end R s runs complete next (passed ++ waiting) h span all))
