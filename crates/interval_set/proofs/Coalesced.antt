-- Coalesced lists: their members, their moments, and how two are put together.
use Rattle.std.proofs.Common.{inl, inr, ⊎_elim, ℕ, zero, suc, ◌<◌, ℤ, pos, ◌+ℤ◌, ◌≤ℤ◌, ◌<ℤ◌, List, [], ◌∷◌, length, get_or, refl, sym, subst, arith}
use Rattle.std.proofs.lemmas.Int.{ints, by_lt_z}
use Rattle.itpg_base.specs.Spans.{Span, IsSpan, Within, Covers, StartsApart, IsCoalesced}
use Rattle.itpg_base.specs.Decided.{Decided}
use Rattle.interval_set.specs.Places.{IsApartBefore}
use Rattle.itpg_base.specs.Lists.{Among}
use Rattle.itpg_base.proofs.Lists.{among_at}

-- a span of the list has the moment
pub covers_from : (xs : List Span) (s : Span) (t : ℤ) → Among xs s → Within t s → Covers xs t
covers_from [] s t m w = absurd m
covers_from (x ∷ xs) s t (inl e) w = inl (subst (λ (y : Span). Within t y) (sym e) w)
covers_from (x ∷ xs) s t (inr m) w = inr (covers_from xs s t m w)

pub covers_by : (xs : List Span) (t : ℤ) → Covers xs t → (s : Span) × Among xs s × Within t s
covers_by [] t c = absurd c
covers_by (x ∷ xs) t (inl w) = (x, inl refl, w)
covers_by (x ∷ xs) t (inr c) = let p = covers_by xs t c in (p.0, inr p.1, p.2)

-- each member of a coalesced list is a span
pub each_span : (xs : List Span) (x : Span) → IsCoalesced xs → Among xs x → IsSpan x
each_span [] x c m = absurd m
each_span (y ∷ xs) x c (inl e) = subst IsSpan e c.0
each_span (y ∷ xs) x c (inr m) = each_span xs x c.2 m

-- what comes after a moment's gap comes after it whole
pub starts_late : (p : ℤ) (xs : List Span) (x : Span) → IsCoalesced xs → StartsApart p xs → Among xs x → (p +ℤ pos 1) <ℤ x.from
starts_late p [] x c a m = absurd m
starts_late p (y ∷ xs) x c a (inl e) = subst (λ (z : Span). (p +ℤ pos 1) <ℤ z.from) e a
starts_late p (y ∷ xs) x c a (inr m) = let later = starts_late y.to xs x c.2 c.1 m in let span : y.from ≤ℤ y.to = c.0 in let here : (p +ℤ pos 1) <ℤ y.from = a in omega (arith, ints)

pub covered_late : (p : ℤ) (xs : List Span) (t : ℤ) → IsCoalesced xs → StartsApart p xs → Covers xs t → (p +ℤ pos 1) <ℤ t
covered_late p xs t c a h = let m = covers_by xs t h in let late = starts_late p xs m.0 c a m.1 in let w = m.2 in omega (arith, ints)

pub starts_apart : (p : ℤ) (xs : List Span) → ((x : Span) → Among xs x → (p +ℤ pos 1) <ℤ x.from) → StartsApart p xs
starts_apart p [] h = tt
starts_apart p (x ∷ xs) h = h x (inl refl)

-- at least one moment is missing between an earlier span and a later one
pub gaps : (xs : List Span) (i j : ℕ) (d : Span) → IsCoalesced xs → i < j → j < length xs → IsApartBefore (get_or xs i d) (get_or xs j d)
gaps [] i j d c le lt = absurd (omega arith)
gaps (x ∷ xs) zero zero d c le lt = absurd (omega arith)
gaps (x ∷ xs) zero (suc j) d c le lt = starts_late x.to xs (get_or xs j d) c.2 c.1 (among_at xs j d (omega arith))
gaps (x ∷ xs) (suc i) zero d c le lt = absurd (omega arith)
gaps (x ∷ xs) (suc i) (suc j) d c le lt = gaps xs i j d c.2 (omega arith) (omega arith)

-- whether a span has a moment, and whether a list has it
pub decide_within : (x : Span) (t : ℤ) → Decided (Within t x)
decide_within x t =
    by_lt_z t x.from (λ before. inr (λ w. let a = w.begun in omega (arith, ints)))
    (λ begun. by_lt_z x.to t (λ after. inr (λ w. let a = w.going in omega (arith, ints))) (λ going. inl (record { begun = begun; going = going })))

pub decide_covers : (xs : List Span) (t : ℤ) → Decided (Covers xs t)
decide_covers [] t = inr (λ c. c)
decide_covers (x ∷ xs) t = elim (decide_within x t) [
  | inl w ↦ inl (inl w)
  | inr none ↦ elim (decide_covers xs t) [ inl c ↦ inl (inr c) | inr n ↦ inr (λ c. ⊎_elim none n c) ]
]
