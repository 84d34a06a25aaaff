-- Lists of runs that rise: their members, what they have, and how two are put together.
use Rattle.std.proofs.Common.{◌≡◌, ◌⊎◌, inl, inr, ⊎_elim, ℕ, zero, suc, ◌<◌, ◌≤◌, ℤ, pos, ◌+ℤ◌, ◌≤ℤ◌, ◌<ℤ◌, List, [], ◌∷◌, ◌++◌, length, get_or, map, Option, Some, None, option_to_list, refl, sym, subst, arith, ◌∙◌}
use Rattle.std.proofs.lemmas.Int.{ints}
use Rattle.std.proofs.lemmas.List.{length-map, get_or-map}
use Rattle.itpg_base.specs.Spans.{IsSpan, Within}
use Rattle.itpg_base.specs.Words.{Word}
use Rattle.itpg_base.specs.Graphs.{Valued, RunsHave, RunsApart, AreRunsOfValues}
use Rattle.itpg_base.specs.Lists.{Among}
use Rattle.itpg_base.proofs.Lists.{among_at, append_first, append_second, among_append}

-- the first run ends before the second begins, and where the value is the same at least one moment is missing
pub record Precedes (r q : Valued) : Type 0 where
  pub rise : r.span.to <ℤ q.span.from
  pub gap : r.value ≡ q.value → (r.span.to +ℤ pos 1) <ℤ q.span.from

pub precedes_apart : (r q : Valued) → (r.span.to +ℤ pos 1) <ℤ q.span.from → Precedes r q
precedes_apart r q h = record { rise = omega (arith, ints); gap = λ e. h }

-- a run of the list has the value at the moment
pub has_from : (xs : List Valued) (r : Valued) (t : ℤ) (value : Word) → Among xs r → Within t r.span → r.value ≡ value → RunsHave xs t value
has_from [] r t value m w e = absurd m
has_from (x ∷ xs) r t value (inl f) w e = inl (subst (λ (y : Valued). Within t y.span × (y.value ≡ value)) (sym f) (w, e))
has_from (x ∷ xs) r t value (inr m) w e = inr (has_from xs r t value m w e)

pub has_by : (xs : List Valued) (t : ℤ) (value : Word) → RunsHave xs t value → (r : Valued) × Among xs r × Within t r.span × (r.value ≡ value)
has_by [] t value h = absurd h
has_by (x ∷ xs) t value (inl h) = (x, inl refl, h.0, h.1)
has_by (x ∷ xs) t value (inr h) = let p = has_by xs t value h in (p.0, inr p.1, p.2, p.3)

pub has-append_left : (xs ys : List Valued) (t : ℤ) (value : Word) → RunsHave xs t value → RunsHave (xs ++ ys) t value
has-append_left [] ys t value h = absurd h
has-append_left (x ∷ xs) ys t value (inl h) = inl h
has-append_left (x ∷ xs) ys t value (inr h) = inr (has-append_left xs ys t value h)

pub has-append_right : (xs ys : List Valued) (t : ℤ) (value : Word) → RunsHave ys t value → RunsHave (xs ++ ys) t value
has-append_right [] ys t value h = h
has-append_right (x ∷ xs) ys t value h = inr (has-append_right xs ys t value h)

pub has-append_cases : (xs ys : List Valued) (t : ℤ) (value : Word) → RunsHave (xs ++ ys) t value → RunsHave xs t value ⊎ RunsHave ys t value
has-append_cases [] ys t value h = inr h
has-append_cases (x ∷ xs) ys t value (inl h) = inl (inl h)
has-append_cases (x ∷ xs) ys t value (inr h) = elim (has-append_cases xs ys t value h) [ inl d ↦ inl (inr d) | inr d ↦ inr d ]

pub each_run_span : (xs : List Valued) (r : Valued) → AreRunsOfValues xs → Among xs r → IsSpan r.span
each_run_span [] r c m = absurd m
each_run_span (x ∷ xs) r c (inl e) = subst (λ (y : Valued). IsSpan y.span) e c.0
each_run_span (x ∷ xs) r c (inr m) = each_run_span xs r c.2 m

-- what a run comes before, it comes before whole
pub precedes_each : (r : Valued) (xs : List Valued) (q : Valued) → AreRunsOfValues xs → RunsApart r xs → Among xs q → Precedes r q
precedes_each r [] q c a m = absurd m
precedes_each r (x ∷ xs) q c a (inl e) = subst (λ (y : Valued). Precedes r y) e (record { rise = a.0; gap = a.1 })
precedes_each r (x ∷ xs) q c a (inr m) =
    let later = precedes_each x xs q c.2 c.1 m in
    let span : x.span.from ≤ℤ x.span.to = c.0 in
    let rise = later.rise in
    let here = a.0 in
    precedes_apart r q (omega (arith, ints))

pub runs_apart : (r : Valued) (xs : List Valued) → ((q : Valued) → Among xs q → Precedes r q) → RunsApart r xs
runs_apart r [] h = tt
runs_apart r (x ∷ xs) h = let p = h x (inl refl) in (p.rise, p.gap)

-- two lists of runs, the first before the second, are one
pub runs_append : (xs ys : List Valued) → AreRunsOfValues xs → AreRunsOfValues ys → ((r q : Valued) → Among xs r → Among ys q → Precedes r q) → AreRunsOfValues (xs ++ ys)
runs_append [] ys c d apart = d
runs_append (x ∷ xs) ys c d apart = (
  c.0,
  runs_apart x (xs ++ ys) (λ y m. ⊎_elim (λ n. precedes_each x xs y c.2 c.1 n) (λ n. apart x y (inl refl) n) (among_append xs ys y m)),
  runs_append xs ys c.2 d (λ a b m n. apart a b (inr m) n),
)

pub runs_left : (xs ys : List Valued) → AreRunsOfValues (xs ++ ys) → AreRunsOfValues xs
runs_left [] ys c = tt
runs_left (x ∷ xs) ys c = (c.0, runs_apart x xs (λ y m. precedes_each x (xs ++ ys) y c.2 c.1 (append_first xs ys y m)), runs_left xs ys c.2)

pub runs_right : (xs ys : List Valued) → AreRunsOfValues (xs ++ ys) → AreRunsOfValues ys
runs_right [] ys c = c
runs_right (x ∷ xs) ys c = runs_right xs ys c.2

pub runs_between : (xs ys : List Valued) (r q : Valued) → AreRunsOfValues (xs ++ ys) → Among xs r → Among ys q → Precedes r q
runs_between [] ys r q c m n = absurd m
runs_between (x ∷ xs) ys r q c (inl e) n = subst (λ (z : Valued). Precedes z q) e (precedes_each x (xs ++ ys) q c.2 c.1 (append_second xs ys q n))
runs_between (x ∷ xs) ys r q c (inr m) n = runs_between xs ys r q c.2 m n

-- a run that may be missing, as a list
pub among_option : (o : Option Valued) (r : Valued) → Among (option_to_list o) r → o ≡ Some r
among_option None r m = absurd m
among_option (Some x) r (inl e) = let P = λ (y : Valued). Some x ≡ Some y in subst P e refl
among_option (Some x) r (inr m) = absurd m

pub runs_option : (o : Option Valued) → ((r : Valued) → o ≡ Some r → IsSpan r.span) → AreRunsOfValues (option_to_list o)
runs_option None h = tt
runs_option (Some x) h = (h x refl, tt, tt)

-- an earlier run neither begins nor ends after a later one
pub record Rises (r q : Valued) : Type 0 where
  pub from : r.span.from ≤ℤ q.span.from
  pub to : r.span.to ≤ℤ q.span.to

pub rises : (xs : List Valued) (i j : ℕ) (d : Valued) → AreRunsOfValues xs → i ≤ j → j < length xs → Rises (get_or xs i d) (get_or xs j d)
rises [] i j d c le lt = absurd (omega arith)
rises (x ∷ xs) zero zero d c le lt = record { from = omega (arith, ints); to = omega (arith, ints) }
rises (x ∷ xs) zero (suc j) d c le lt =
    let m = among_at xs j d (omega arith) in
    let later = precedes_each x xs (get_or xs j d) c.2 c.1 m in
    let rise = later.rise in
    let span : x.span.from ≤ℤ x.span.to = c.0 in
    let other : (get_or xs j d).span.from ≤ℤ (get_or xs j d).span.to = each_run_span xs (get_or xs j d) c.2 m in
    record { from = omega (arith, ints); to = omega (arith, ints) }
rises (x ∷ xs) (suc i) zero d c le lt = absurd (omega arith)
rises (x ∷ xs) (suc i) (suc j) d c le lt = rises xs i j d c.2 (omega arith) (omega arith)

-- at a moment there is one run
pub one_run : (xs : List Valued) (r q : Valued) (t : ℤ) → AreRunsOfValues xs → Among xs r → Among xs q → Within t r.span → Within t q.span → r ≡ q
one_run [] r q t c m n v w = absurd m
one_run (x ∷ xs) r q t c (inl e) (inl f) v w = sym e ∙ f
one_run (x ∷ xs) r q t c (inl e) (inr n) v w =
    let v' = subst (λ (y : Valued). Within t y.span) (sym e) v in
    let a = v'.going in let b = w.begun in let p = precedes_each x xs q c.2 c.1 n in let rise = p.rise in absurd (omega (arith, ints))
one_run (x ∷ xs) r q t c (inr m) (inl f) v w =
    let w' = subst (λ (y : Valued). Within t y.span) (sym f) w in
    let a = w'.going in let b = v.begun in let p = precedes_each x xs r c.2 c.1 m in let rise = p.rise in absurd (omega (arith, ints))
one_run (x ∷ xs) r q t c (inr m) (inr n) v w = one_run xs r q t c.2 m n v w

-- the same of items that are each a run
pub rises_mapped : {X : Type 0} (run : X → Valued) (xs : List X) (i j : ℕ) (d : X) → AreRunsOfValues (map run xs) → i ≤ j → j < length xs → Rises (run (get_or xs i d)) (run (get_or xs j d))
rises_mapped run xs i j d c le lt =
    let at_i = get_or-map run xs i d (run d) (omega arith) in
    let at_j = get_or-map run xs j d (run d) lt in
    subst (λ (y : Valued). Rises y (run (get_or xs j d))) at_i (subst (λ (y : Valued). Rises (get_or (map run xs) i (run d)) y) at_j (rises (map run xs) i j (run d) c le (omega (arith, length-map xs run))))

-- a run with a moment after another ends comes after it
pub precedes_later : (xs : List Valued) (r q : Valued) (t : ℤ) → AreRunsOfValues xs → Among xs r → Among xs q → r.span.to <ℤ t → Within t q.span → Precedes r q
precedes_later [] r q t c m n late w = absurd m
precedes_later (x ∷ xs) r q t c (inl e) (inl f) late w =
    let same = subst (λ (y : Valued). Within t y.span) (sym f ∙ e) w in let going = same.going in absurd (omega (arith, ints))
precedes_later (x ∷ xs) r q t c (inl e) (inr n) late w = subst (λ (y : Valued). Precedes y q) e (precedes_each x xs q c.2 c.1 n)
precedes_later (x ∷ xs) r q t c (inr m) (inl f) late w =
    let v = subst (λ (y : Valued). Within t y.span) (sym f) w in
    let p = precedes_each x xs r c.2 c.1 m in
    let rise = p.rise in let going = v.going in
    let own : r.span.from ≤ℤ r.span.to = each_run_span xs r c.2 m in
    absurd (omega (arith, ints))
precedes_later (x ∷ xs) r q t c (inr m) (inr n) late w = precedes_later xs r q t c.2 m n late w
