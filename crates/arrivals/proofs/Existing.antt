-- What is kept of a decided relation of finitely many points is decided, and there.
use Rattle.std.proofs.Common.{◌≡◌, ◌⊎◌, inl, inr, ℕ, zero, suc, ℤ, pos, negsuc, ◌+ℤ◌, ◌-ℤ◌, ◌≤ℤ◌, ◌<ℤ◌, Bool, List, refl, sym, subst, arith}
use Rattle.std.specs.Prelude.{IsTrue}
use Rattle.std.proofs.lemmas.Int.{ints, by_lt_z}
use Rattle.itpg_base.specs.Decided.{Decided}
use Rattle.itpg_base.specs.Points.{Point, Relation}
use Rattle.itpg_base.proofs.Searches.{is_true}
use Rattle.relation_rows.specs.declared.rows.Row.{Row}
use Rattle.relation_rows.specs.Rows.{NormalRows, Fits, IsWide, IsFinite}
use Rattle.relation_rows.proofs.Exists.{rows_exist, rows_either}
use Rattle.arrivals.specs.Firsts.{Least, Latest}

-- none of the moments from one on, or some and what it is
module _ (P : ℤ → Type 0) (decide : (v : ℤ) → Decided (P v)) where
  -- the first of n moments at which it is so, or it is at none
  abbrev FirstOf : ℤ → ℕ → Type 0
  FirstOf low n = ((v : ℤ) × (low ≤ℤ v) × (v <ℤ (low +ℤ pos n)) × P v × ((w : ℤ) → low ≤ℤ w → w <ℤ v → ¬ P w)) ⊎ ((v : ℤ) → low ≤ℤ v → v <ℤ (low +ℤ pos n) → ¬ P v)

  pub first_of_moments : (low : ℤ) (n : ℕ) → FirstOf low n
  first_of_moments low zero = inr (λ v a b p. absurd (omega (arith, ints)))
  first_of_moments low (suc n) = elim (first_of_moments low n) [
    | inl w ↦ inl (w.0, w.1, (let lt = w.2 in omega (arith, ints)), w.3, w.4)
    | inr none ↦ elim (decide (low +ℤ pos n)) [
      | inl here ↦ inl (low +ℤ pos n, (omega (arith, ints)), (omega (arith, ints)), here, none)
      | inr no_one ↦ inr (λ v a b p. by_lt_z v (low +ℤ pos n) (λ lt. none v a lt p) (λ le. no_one (subst P (let e : v ≡ low +ℤ pos n = omega (arith, ints) in e) p)))
    ]
  ]

  -- the last of n moments
  abbrev LastOf : ℤ → ℕ → Type 0
  LastOf low n = ((v : ℤ) × (low ≤ℤ v) × (v <ℤ (low +ℤ pos n)) × P v × ((w : ℤ) → v <ℤ w → w <ℤ (low +ℤ pos n) → ¬ P w)) ⊎ ((v : ℤ) → low ≤ℤ v → v <ℤ (low +ℤ pos n) → ¬ P v)

  pub last_of_moments : (low : ℤ) (n : ℕ) → LastOf low n
  last_of_moments low zero = inr (λ v a b p. absurd (omega (arith, ints)))
  last_of_moments low (suc n) = elim (decide (low +ℤ pos n)) [
    | inl here ↦ inl (low +ℤ pos n, (omega (arith, ints)), (omega (arith, ints)), here, λ w a b p. absurd (omega (arith, ints)))
    | inr no_one ↦ elim (last_of_moments low n) [
      | inl w ↦ inl (w.0, w.1, (let lt = w.2 in omega (arith, ints)), w.3, λ v a b p. by_lt_z v (low +ℤ pos n) (λ lt. w.4 v a lt p) (λ le. no_one (subst P (let e : v ≡ low +ℤ pos n = omega (arith, ints) in e) p)))
      | inr none ↦ inr (λ v a b p. by_lt_z v (low +ℤ pos n) (λ lt. none v a lt p) (λ le. no_one (subst P (let e : v ≡ low +ℤ pos n = omega (arith, ints) in e) p)))
    ]
  ]

-- a moment is so many after another
away : (a b : ℤ) → a ≤ℤ b → (n : ℕ) × (b ≡ a +ℤ pos n)
away a b le = go (b -ℤ a) refl
  where
    go : (z : ℤ) → (b -ℤ a) ≡ z → (n : ℕ) × (b ≡ a +ℤ pos n)
    go (pos n) e = (n, omega (arith, ints))
    go (negsuc n) e = absurd (omega (arith, ints))

module _ (R : Relation) (decide : (x y : Point) → Decided (R x y)) (objects : ℕ) (low high : ℤ) (finite : IsFinite objects low high R) where
  abbrev to : Point → Point → ℤ → Type 0
  to x y v = R x (record { object = y.object; moment = v })

  abbrev from : Point → Point → ℤ → Type 0
  from x y s = R (record { object = x.object; moment = s }) y

  decide_least : (x y : Point) → Decided (Least R x y)
  decide_least x y = elim (decide x y) [
    | inr none ↦ inr (λ h. none h.0)
    | inl r ↦ (
        let a = away low y.moment (finite.arrives x y r).above in
        let b = a.1 in
        elim (first_of_moments (to x y) (λ v. decide x (record { object = y.object; moment = v })) low a.0) [
          | inl w ↦ inr (λ h. h.1 w.0 (let lt = w.2 in omega (arith, ints)) w.3)
          | inr none ↦ inl (r, λ v lt q. none v (finite.arrives x (record { object = y.object; moment = v }) q).above (omega (arith, ints)) q)
        ]
        )
  ]

  decide_latest : (x y : Point) → Decided (Latest R x y)
  decide_latest x y = elim (decide x y) [
    | inr none ↦ inr (λ h. none h.0)
    | inl r ↦ (
        let a = away x.moment high (finite.departs x y r).below in
        let b = a.1 in
        elim (first_of_moments (from x y) (λ s. decide (record { object = x.object; moment = s }) y) (x.moment +ℤ pos 1) a.0) [
          | inl w ↦ inr (λ h. h.1 w.0 (let le = w.1 in omega (arith, ints)) w.3)
          | inr none ↦ inl (r, λ s lt q. none s (omega (arith, ints)) (let le = (finite.departs (record { object = x.object; moment = s }) y q).below in omega (arith, ints)) q)
        ]
        )
  ]

  finite_least : IsFinite objects low high (Least R)
  finite_least = record { source = λ x y h. finite.source x y h.0; target = λ x y h. finite.target x y h.0; departs = λ x y h. finite.departs x y h.0; arrives = λ x y h. finite.arrives x y h.0 }

  finite_latest : IsFinite objects low high (Latest R)
  finite_latest = record { source = λ x y h. finite.source x y h.0; target = λ x y h. finite.target x y h.0; departs = λ x y h. finite.departs x y h.0; arrives = λ x y h. finite.arrives x y h.0 }

  pub least_exists : (rows : List Row) × NormalRows (Least R) rows
  least_exists = rows_exist objects low high (Least R) decide_least finite_least

  pub latest_exists : (rows : List Row) × NormalRows (Latest R) rows
  latest_exists = rows_exist objects low high (Latest R) decide_latest finite_latest

  pub least_either : (limit : ℕ) → Fits (Least R) limit ⊎ IsWide (Least R) limit
  least_either = rows_either objects low high (Least R) decide_least finite_least

  pub latest_either : (limit : ℕ) → Fits (Latest R) limit ⊎ IsWide (Latest R) limit
  latest_either = rows_either objects low high (Latest R) decide_latest finite_latest

  pub some_least : (x y : Point) → R x y → (u : ℤ) × Least R x (record { object = y.object; moment = u })
  some_least x y r =
      let in_time = finite.arrives x y r in
      let a = away low high (let p = in_time.above in let q = in_time.below in omega (arith, ints)) in
      let b = a.1 in
      elim (first_of_moments (to x y) (λ v. decide x (record { object = y.object; moment = v })) low (suc a.0)) [
        | inl w ↦ (w.0, (w.3, λ v lt q. w.4 v (finite.arrives x (record { object = y.object; moment = v }) q).above lt q))
        | inr none ↦ absurd (none y.moment in_time.above (let p = in_time.below in omega (arith, ints)) r)
      ]

  pub some_latest : (x y : Point) → R x y → (t : ℤ) × Latest R (record { object = x.object; moment = t }) y
  some_latest x y r =
      let in_time = finite.departs x y r in
      let a = away low high (let p = in_time.above in let q = in_time.below in omega (arith, ints)) in
      let b = a.1 in
      elim (last_of_moments (from x y) (λ s. decide (record { object = x.object; moment = s }) y) low (suc a.0)) [
        | inl w ↦ (w.0, (w.3, λ s lt q. w.4 s lt (let p = (finite.departs (record { object = x.object; moment = s }) y q).below in omega (arith, ints)) q))
        | inr none ↦ absurd (none x.moment in_time.above (let p = in_time.below in omega (arith, ints)) r)
      ]

pub one_least : (R : Relation) (x y z : Point) → Least R x y → Least R x z → y.object ≡ z.object → y.moment ≡ z.moment
one_least R x y z h k e = by_lt_z y.moment z.moment
    (λ lt. absurd (k.1 y.moment lt (subst (λ (o : ℕ). R x (record { object = o; moment = y.moment })) e h.0)))
    (λ le. by_lt_z z.moment y.moment
    (λ lt. absurd (h.1 z.moment lt (subst (λ (o : ℕ). R x (record { object = o; moment = z.moment })) (sym e) k.0)))
    (λ ge. omega (arith, ints)))

pub one_latest : (R : Relation) (x z y : Point) → Latest R x y → Latest R z y → x.object ≡ z.object → x.moment ≡ z.moment
one_latest R x z y h k e = by_lt_z x.moment z.moment
    (λ lt. absurd (h.1 z.moment lt (subst (λ (o : ℕ). R (record { object = o; moment = z.moment }) y) (sym e) k.0)))
    (λ le. by_lt_z z.moment x.moment
    (λ lt. absurd (k.1 x.moment lt (subst (λ (o : ℕ). R (record { object = o; moment = x.moment }) y) e h.0)))
    (λ ge. omega (arith, ints)))

module _ (test : Point → Point → Bool) where
  abbrev Tested : Relation
  Tested x y = IsTrue (test x y)

  pub tested : (x y : Point) → Decided (Tested x y)
  tested x y = is_true (test x y)
