-- What the first span that ends at a moment or later says of a set of moments.
use Rattle.std.proofs.Common.{◌↔◌, ℤ, pos, ◌+ℤ◌, ◌≤ℤ◌, List, [], None, map, refl, arith}
use Rattle.std.specs.Int.{int_max}
use Rattle.std.proofs.lemmas.Int.{ints, clamps, by_lt_z}
use Rattle.itpg_base.specs.Spans.{Span, IsSpan, Within, Covers}
use Rattle.interval_set.specs.Places.{IsInside, IsNext, IsNextRun}
use Rattle.interval_set.specs.Plain.{plain_run}
use Rattle.interval_set.proofs.Plain.{has_of_covers, covers_of_has}

pub none_held : (xs : List Span) (t u : ℤ) → IsNext (map plain_run xs) t None → t ≤ℤ u → Covers xs u → ⊥
none_held xs t u next late c = next u [] late (has_of_covers xs u c)

module _ (xs : List Span) (t : ℤ) (x : Span) (next : IsNextRun (map plain_run xs) t (plain_run x)) where
  pub held : x.from ≤ℤ t ↔ Covers xs t
  held = (
    λ begun. (covers_of_has xs t [] (next.has t (record { begun = begun; going = next.going }))).0,
    λ c. next.first t [] (omega (arith, ints)) (has_of_covers xs t c),
  )

module _ (xs : List Span) (s : Span) (span : IsSpan s) (x : Span) (next : IsNextRun (map plain_run xs) s.from (plain_run x)) where
  s_span : s.from ≤ℤ s.to
  s_span = span

  pub all_held : IsInside s x ↔ ((t : ℤ) → Within t s → Covers xs t)
  all_held = (
    λ inside t w. (covers_of_has xs t [] (next.has t (record { begun = omega (arith, ints); going = omega (arith, ints) }))).0,
    λ all.
        let own = s_span in
        let going = next.going in
        let from = next.first s.from [] (omega (arith, ints)) (has_of_covers xs s.from (all s.from (record { begun = omega (arith, ints); going = own }))) in
        record {
          from = from;
          to = by_lt_z x.to s.to
              (λ short.
              let gap = next.after (x.to +ℤ pos 1) [] (omega (arith, ints)) (has_of_covers xs (x.to +ℤ pos 1) (all (x.to +ℤ pos 1) (record { begun = omega (arith, ints); going = omega (arith, ints) }))) refl in
              absurd (omega (arith, ints)))
              (λ le. le);
        },
  )

  pub some_held : x.from ≤ℤ s.to ↔ ((t : ℤ) × Within t s × Covers xs t)
  some_held = (
    λ begun.
        let own = s_span in let going = next.going in let x_span : x.from ≤ℤ x.to = next.span in
        let t = int_max s.from x.from in (
          t,
          record { begun = omega (arith, ints, clamps); going = omega (arith, ints, clamps) },
          (covers_of_has xs t [] (next.has t (record { begun = omega (arith, ints, clamps); going = omega (arith, ints, clamps) }))).0,
        ),
    λ h. let w = h.1 in let begun = w.begun in let going = w.going in
        let first = next.first h.0 [] begun (has_of_covers xs h.0 h.2) in omega (arith, ints),
  )

pub iff_trans : {A B C : Type 0} → A ↔ B → B ↔ C → A ↔ C
iff_trans f g = (λ a. g.0 (f.0 a), λ c. f.1 (g.1 c))
