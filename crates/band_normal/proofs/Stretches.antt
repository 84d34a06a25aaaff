-- Ends along a stretch of departures, and runs with one more band.
use Rattle.std.proofs.Common.{◌≡◌, ◌↔◌, ◌⊎◌, inl, ℤ, pos, ◌+ℤ◌, ◌-ℤ◌, ◌≤ℤ◌, ◌<ℤ◌, List, [], ◌∷◌, ◌++◌, refl, sym, ◌∙◌, subst, arith, true≢false, false}
use Rattle.std.specs.Prelude.{IsTrue}
use Rattle.std.proofs.lemmas.Int.{ints, by_lt_z}
use lib.Signed.{le_z}
use Rattle.band_normal.specs.declared.band.End.{End}
use Rattle.band_normal.specs.declared.band.End.TheVariants.{Fixed, Moving}
use Rattle.band_normal.specs.declared.strips.Stretch.{Stretch}
use Rattle.band_normal.specs.declared.strips.Ends.{Ends}
use Rattle.band_normal.specs.declared.strips.Merged.{Merged}
use Rattle.itpg_base.specs.Lists.{Among}
use Rattle.band_normal.specs.Bands.{end_at}
use Rattle.band_normal.specs.Strips.{IsFront, StayOrdered, AreOne}
use Rattle.itpg_base.proofs.Lists.{append_second}

pub le_tells : (a b a' b' : ℤ) → a' ≡ a → b' ≡ b → IsTrue (le_z a' b') ↔ (a ≤ℤ b)
le_tells a b a' b' e f = (λ h. grind (arith, ints), λ h. grind (arith, ints))

-- a fixed end is at most so much where it is so at first, whatever the other does
pub fixed_stays : (m : ℤ) (y : End) (slack : ℤ) (s : Stretch) → m ≤ℤ (end_at y s.from +ℤ slack) → StayOrdered (Fixed m) y slack s
fixed_stays m (Fixed n) slack s h = record { at = λ t a b. h }
fixed_stays m (Moving k) slack s h = record { at = λ t a b. omega (arith, ints) }

pub moving_stays : (j k slack : ℤ) (s : Stretch) → (s.from +ℤ j) ≤ℤ ((s.from +ℤ k) +ℤ slack) → StayOrdered (Moving j) (Moving k) slack s
moving_stays j k slack s h = record { at = λ t a b. omega (arith, ints) }

pub moving_until : (k n slack : ℤ) (s : Stretch) → s.to ≤ℤ ((n +ℤ slack) -ℤ k) → StayOrdered (Moving k) (Fixed n) slack s
moving_until k n slack s h = record { at = λ t a b. omega (arith, ints) }

pub front_front : (a b c : Stretch) → IsFront a b → IsFront b c → IsFront a c
front_front a b c f g =
    let f0 = f.from in let f1 = f.within in let g0 = g.from in let g1 = g.some in let g2 = g.within in
    record { from = g0 ∙ f0; some = omega (arith, ints); within = omega (arith, ints) }

pub front_ordered : (x y : End) (slack : ℤ) (a b : Stretch) → IsFront a b → StayOrdered x y slack a → StayOrdered x y slack b
front_ordered x y slack a b f h = record { at = λ t p q. let f0 = f.from in let f2 = f.within in h.at t (omega (arith, ints)) (omega (arith, ints)) }

pub self_ordered : (x : End) (s : Stretch) → StayOrdered x x (pos 0) s
self_ordered x s = record { at = λ t p q. omega (arith, ints) }

pub not_at_most : (a b : ℤ) → (IsTrue false ↔ (a ≤ℤ b)) → b <ℤ a
not_at_most a b h = by_lt_z b a (λ lt. lt) (λ le. absurd (true≢false (sym (h.1 le))))

pub one_run : (run band : Ends) (along touching lower : Stretch) (m : Merged) → IsFront along touching → StayOrdered band.low run.high (pos 1) touching
    → IsFront touching lower → StayOrdered run.low band.low (pos 0) lower → IsFront lower m.along → m.ends.low ≡ run.low
    → StayOrdered run.high m.ends.high (pos 0) m.along → StayOrdered band.high m.ends.high (pos 0) m.along → (m.ends.high ≡ run.high) ⊎ (m.ends.high ≡ band.high)
    → AreOne run band along m
one_run run band along touching lower m f touch g low h is_low run_high band_high high = record {
  front = front_front _ _ _ (front_front _ _ _ f g) h;
  touch = front_ordered _ _ _ _ _ (front_front _ _ _ g h) touch;
  lower = front_ordered _ _ _ _ _ h low;
  low = is_low;
  run_high = run_high;
  band_high = band_high;
  high = high;
}

pub last_among : {X : Type 0} (front : List X) (x : X) (all : List X) → all ≡ front ++ x ∷ [] → Among all x
last_among {X} front x all e = subst (λ (v : List X). Among v x) (sym e) (append_second front (x ∷ []) x (inl refl))
