-- Values over moments have at most one list of runs.
use Rattle.std.proofs.Common.{◌≡◌, ◌↔◌, inl, inr, ⊎_elim, ℤ, pos, ◌+ℤ◌, ◌≤ℤ◌, ◌<ℤ◌, List, [], ◌∷◌, refl, sym, subst, arith, ◌∙◌}
use Rattle.std.proofs.lemmas.Int.{ints, by_lt_z}
use Rattle.itpg_base.specs.Spans.{Span, Within}
use Rattle.itpg_base.specs.Words.{Word}
use Rattle.itpg_base.specs.Graphs.{Valued, RunsHave, AreRunsOfValues}
use Rattle.interval_set.specs.Runs.{AreRunsOf}
use Rattle.interval_set.proofs.Rising.{has_by, precedes_each}
use Rattle.interval_set.proofs.Unique.{same_span}

-- what the rest of a list has comes after its first run
rest_late : (x : Valued) (xs : List Valued) (t : ℤ) (value : Word) → AreRunsOfValues (x ∷ xs) → RunsHave xs t value → (x.span.to <ℤ t) × (x.value ≡ value → (x.span.to +ℤ pos 1) <ℤ t)
rest_late x xs t value c h =
    let m = has_by xs t value h in
    let p = precedes_each x xs m.0 c.2 c.1 m.1 in
    let w = m.2 in let begun = w.begun in let rise = p.rise in
    (omega (arith, ints), λ same. let gap = p.gap (same ∙ sym m.3) in omega (arith, ints))

-- the first list of the two begins no later than the second
begins : (x y : Valued) (xs ys : List Valued) → AreRunsOfValues (x ∷ xs) → AreRunsOfValues (y ∷ ys) → ((t : ℤ) (value : Word) → RunsHave (y ∷ ys) t value → RunsHave (x ∷ xs) t value) → x.span.from ≤ℤ y.span.from
begins x y xs ys c d back =
    let span : y.span.from ≤ℤ y.span.to = d.0 in
    let own : x.span.from ≤ℤ x.span.to = c.0 in
    ⊎_elim (λ h. (h.0).begun) (λ h. let late = (rest_late x xs y.span.from y.value c h).0 in omega (arith, ints))
    (back y.span.from y.value (inl (record { begun = omega (arith, ints); going = span }, refl)))

-- and where both begin together, they begin with one value
same_value : (x y : Valued) (xs ys : List Valued) → AreRunsOfValues (x ∷ xs) → AreRunsOfValues (y ∷ ys) → ((t : ℤ) (value : Word) → RunsHave (x ∷ xs) t value → RunsHave (y ∷ ys) t value) → x.span.from ≡ y.span.from → x.value ≡ y.value
same_value x y xs ys c d there e =
    let own : x.span.from ≤ℤ x.span.to = c.0 in
    let span : y.span.from ≤ℤ y.span.to = d.0 in
    ⊎_elim (λ h. sym h.1) (λ h. let late = (rest_late y ys x.span.from x.value d h).0 in absurd (omega (arith, ints)))
    (there x.span.from x.value (inl (record { begun = omega (arith, ints); going = own }, refl)))

-- and the first run of the first ends no later
ends : (x y : Valued) (xs ys : List Valued) → AreRunsOfValues (x ∷ xs) → AreRunsOfValues (y ∷ ys) → ((t : ℤ) (value : Word) → RunsHave (x ∷ xs) t value → RunsHave (y ∷ ys) t value) → x.span.from ≡ y.span.from → x.value ≡ y.value → x.span.to ≤ℤ y.span.to
ends x y xs ys c d there e same =
    let own : x.span.from ≤ℤ x.span.to = c.0 in
    let span : y.span.from ≤ℤ y.span.to = d.0 in
    by_lt_z y.span.to x.span.to
    (λ lt. ⊎_elim (λ h. let w = h.0 in let a = w.going in absurd (omega (arith, ints)))
    (λ h. let late = (rest_late y ys (y.span.to +ℤ pos 1) x.value d h).1 (sym same) in absurd (omega (arith, ints)))
    (there (y.span.to +ℤ pos 1) x.value (inl (record { begun = omega (arith, ints); going = omega (arith, ints) }, refl))))
    (λ le. le)

same_parts : (s t : Span) (v w : Word) → s ≡ t → v ≡ w → let x : Valued = record { span = s; value = v } in let y : Valued = record { span = t; value = w } in x ≡ y
same_parts s t v w e f = cc

same_run : (x y : Valued) → x.span ≡ y.span → x.value ≡ y.value → x ≡ y
same_run x y e f = same_parts x.span y.span x.value y.value e f

-- what the rest of the first list has is in the rest of the second
rest : (x y : Valued) (xs ys : List Valued) → AreRunsOfValues (x ∷ xs) → x ≡ y → ((t : ℤ) (value : Word) → RunsHave (x ∷ xs) t value → RunsHave (y ∷ ys) t value) → (t : ℤ) (value : Word) → RunsHave xs t value → RunsHave ys t value
rest x y xs ys c e there t value h =
    let late = (rest_late x xs t value c h).0 in
    ⊎_elim (λ n. let w = subst (λ (r : Valued). Within t r.span) (sym e) n.0 in let a = w.going in absurd (omega (arith, ints))) (λ n. n) (there t value (inr h))

pub values_unique : (xs ys : List Valued) → AreRunsOfValues xs → AreRunsOfValues ys → ((t : ℤ) (value : Word) → RunsHave xs t value ↔ RunsHave ys t value) → xs ≡ ys
values_unique [] [] c d same = refl
values_unique [] (y ∷ ys) c d same = let span : y.span.from ≤ℤ y.span.to = d.0 in absurd ((same y.span.from y.value).1 (inl (record { begun = omega (arith, ints); going = span }, refl)))
values_unique (x ∷ xs) [] c d same = let span : x.span.from ≤ℤ x.span.to = c.0 in absurd ((same x.span.from x.value).0 (inl (record { begun = omega (arith, ints); going = span }, refl)))
values_unique (x ∷ xs) (y ∷ ys) c d same =
    let there = λ (t : ℤ) (value : Word). (same t value).0 in
    let back = λ (t : ℤ) (value : Word). (same t value).1 in
    let one = begins x y xs ys c d back in
    let two = begins y x ys xs d c there in
    let from : x.span.from ≡ y.span.from = omega (arith, ints) in
    let from' : y.span.from ≡ x.span.from = omega (arith, ints) in
    let value = same_value x y xs ys c d there from in
    let three = ends x y xs ys c d there from value in
    let four = ends y x ys xs d c back from' (sym value) in
    let head = same_run x y (same_span x.span y.span from (omega (arith, ints))) value in
    let tail = values_unique xs ys c.2 d.2 (λ t v. (rest x y xs ys c head there t v, rest y x ys xs d (sym head) back t v)) in
    cc

-- the list of runs of values over moments is the only one
pub runs_of_unique : (H : ℤ → Word → Type 0) (xs ys : List Valued) → AreRunsOf H xs → AreRunsOf H ys → xs ≡ ys
runs_of_unique H xs ys a b = values_unique xs ys a.coalesced b.coalesced (λ t v. (λ h. b.whole t v (a.only t v h), λ h. a.whole t v (b.only t v h)))
