-- A set of moments has at most one coalesced list.
use Rattle.std.proofs.Common.{◌≡◌, ◌↔◌, inl, inr, ⊎_elim, ℤ, pos, ◌+ℤ◌, ◌≤ℤ◌, List, [], ◌∷◌, refl, arith}
use Rattle.std.proofs.lemmas.Int.{ints, by_lt_z}
use Rattle.itpg_base.specs.Spans.{Span, Covers, IsCoalesced}
use Rattle.interval_set.specs.Runs.{AreRuns}
use Rattle.interval_set.proofs.Coalesced.{covered_late}

-- the first list of the two begins no later than the second
begins : (x y : Span) (xs ys : List Span) → IsCoalesced (x ∷ xs) → IsCoalesced (y ∷ ys) → ((t : ℤ) → Covers (y ∷ ys) t → Covers (x ∷ xs) t) → x.from ≤ℤ y.from
begins x y xs ys c d back =
    let span : y.from ≤ℤ y.to = d.0 in
    let own : x.from ≤ℤ x.to = c.0 in
    ⊎_elim (λ w. w.begun) (λ m. let late = covered_late x.to xs y.from c.2 c.1 m in omega (arith, ints)) (back y.from (inl (record { begun = omega (arith, ints); going = span })))

-- and where both begin together, its first span ends no later
ends : (x y : Span) (xs ys : List Span) → IsCoalesced (x ∷ xs) → IsCoalesced (y ∷ ys) → ((t : ℤ) → Covers (x ∷ xs) t → Covers (y ∷ ys) t) → x.from ≡ y.from → x.to ≤ℤ y.to
ends x y xs ys c d there e =
    let own : x.from ≤ℤ x.to = c.0 in
    let span : y.from ≤ℤ y.to = d.0 in
    by_lt_z y.to x.to
    (λ lt. ⊎_elim (λ w. let a = w.going in absurd (omega (arith, ints))) (λ m. let late = covered_late y.to ys (y.to +ℤ pos 1) d.2 d.1 m in absurd (omega (arith, ints)))
    (there (y.to +ℤ pos 1) (inl (record { begun = omega (arith, ints); going = omega (arith, ints) }))))
    (λ le. le)

same_parts : (a b c d : ℤ) → a ≡ c → b ≡ d → let x : Span = record { from = a; to = b } in let y : Span = record { from = c; to = d } in x ≡ y
same_parts a b c d e f = cc

pub same_span : (x y : Span) → x.from ≡ y.from → x.to ≡ y.to → x ≡ y
same_span x y e f = same_parts x.from x.to y.from y.to e f

-- what the rest of the first list has is in the rest of the second
rest : (x y : Span) (xs ys : List Span) → IsCoalesced (x ∷ xs) → x ≡ y → ((t : ℤ) → Covers (x ∷ xs) t → Covers (y ∷ ys) t) → (t : ℤ) → Covers xs t → Covers ys t
rest x y xs ys c e there t m =
    let late = covered_late x.to xs t c.2 c.1 m in
    ⊎_elim (λ w. let a = w.going in let same : x.to ≡ y.to = cc in absurd (omega (arith, ints))) (λ n. n) (there t (inr m))

pub coalesced_unique : (xs ys : List Span) → IsCoalesced xs → IsCoalesced ys → ((t : ℤ) → Covers xs t ↔ Covers ys t) → xs ≡ ys
coalesced_unique [] [] c d same = refl
coalesced_unique [] (y ∷ ys) c d same = let span : y.from ≤ℤ y.to = d.0 in absurd ((same y.from).1 (inl (record { begun = omega (arith, ints); going = span })))
coalesced_unique (x ∷ xs) [] c d same = let span : x.from ≤ℤ x.to = c.0 in absurd ((same x.from).0 (inl (record { begun = omega (arith, ints); going = span })))
coalesced_unique (x ∷ xs) (y ∷ ys) c d same =
    let there = λ (t : ℤ). (same t).0 in
    let back = λ (t : ℤ). (same t).1 in
    let one = begins x y xs ys c d back in
    let two = begins y x ys xs d c there in
    let from : x.from ≡ y.from = omega (arith, ints) in
    let from' : y.from ≡ x.from = omega (arith, ints) in
    let three = ends x y xs ys c d there from in
    let four = ends y x ys xs d c back from' in
    let to : x.to ≡ y.to = omega (arith, ints) in
    let head = same_span x y from to in
    let head' = same_span y x from' (omega (arith, ints)) in
    let tail = coalesced_unique xs ys c.2 d.2 (λ t. (rest x y xs ys c head there t, rest y x ys xs d head' back t)) in
    cc

-- the coalesced list of a set of moments is the only one
pub runs_unique : (S : ℤ → Type 0) (xs ys : List Span) → AreRuns S xs → AreRuns S ys → xs ≡ ys
runs_unique S xs ys a b = coalesced_unique xs ys a.coalesced b.coalesced (λ t. (λ c. b.whole t (a.only t c), λ c. a.whole t (b.only t c)))

-- sets with the same moments have the same lists
pub runs_alike : (S T : ℤ → Type 0) (xs : List Span) → ((t : ℤ) → S t → T t) → ((t : ℤ) → T t → S t) → AreRuns S xs → AreRuns T xs
runs_alike S T xs there back a = record { whole = λ t h. a.whole t (back t h); only = λ t c. there t (a.only t c); coalesced = a.coalesced }
