-- Bounds on numbers of steps.
use Rattle.std.proofs.Common.{◌≡◌, inl, inr, ℕ, zero, suc, ◌+◌, ◌*◌, ◌≤◌, Bool, Option, Some, None, refl, sym, subst, arith, suc-mul}
use Rattle.std.specs.Prelude.{IfSome, cond, max}
use Rattle.std.proofs.lemmas.Bool.Decides.{leb_tells}
use Rattle.source_rows.specs.Steps.{most_steps, capped, together, repeated_steps, IsUpTo}

pub upto_none : (bound : Option ℕ) → IsUpTo bound 0
upto_none None = tt
upto_none (Some s) = omega arith

pub upto_less : (bound : Option ℕ) (m n : ℕ) → m ≤ n → IsUpTo bound n → IsUpTo bound m
upto_less None m n le h = tt
upto_less (Some s) m n le h = omega (arith, le, h)

pub upto_capped : (k n : ℕ) → n ≤ k → IsUpTo (capped k) n
upto_capped k n le = elim (leb_tells k most_steps) [
  | inl h ↦ subst (λ (b : Bool). IsUpTo (cond b (Some k) None) n) (sym h.0) le
  | inr h ↦ subst (λ (b : Bool). IsUpTo (cond b (Some k) None) n) (sym h.0) tt
]

pub upto_sum : (a b : Option ℕ) (m n : ℕ) → IsUpTo a m → IsUpTo b n → IsUpTo (together (λ i j. i + j) a b) (m + n)
upto_sum None b m n h k = tt
upto_sum (Some i) None m n h k = tt
upto_sum (Some i) (Some j) m n h k = upto_capped (i + j) (m + n) (omega (arith, h, k))

pub upto_left : (a b : Option ℕ) (m : ℕ) → IsUpTo a m → IsUpTo (together max a b) m
upto_left None b m h = tt
upto_left (Some i) None m h = tt
upto_left (Some i) (Some j) m h = upto_capped (max i j) m (omega (arith, h))

pub upto_right : (a b : Option ℕ) (m : ℕ) → IsUpTo b m → IsUpTo (together max a b) m
upto_right None b m h = tt
upto_right (Some i) None m h = tt
upto_right (Some i) (Some j) m h = upto_capped (max i j) m (omega (arith, h))

-- the sum of k numbers, each at most s
pub times : ℕ → ℕ → ℕ
times zero s = 0
times (suc k) s = s + times k s

-- the number is at most k times the bound, or there is no bound
abbrev pub IsUpToTimes : Option ℕ → ℕ → ℕ → Type 0
IsUpToTimes bound k n = IfSome bound (λ most. n ≤ times k most)

pub times_none : (bound : Option ℕ) (k : ℕ) → IsUpToTimes bound k 0
times_none None k = tt
times_none (Some s) k = omega arith

pub times_more : (bound : Option ℕ) (k m n : ℕ) → IsUpTo bound m → IsUpToTimes bound k n → IsUpToTimes bound (suc k) (m + n)
unfolding times
times_more None k m n h j = tt
times_more (Some s) k m n h j = omega (arith, h, j)

times_zero : (k : ℕ) → times k 0 ≡ 0
unfolding times
times_zero zero = refl
times_zero (suc k) = omega (arith, times_zero k)

times_product : (k most s : ℕ) → k ≤ most → times k s ≤ most * s
unfolding times
times_product zero most s le = omega arith
times_product (suc k) zero s le = absurd (omega (arith, le))
times_product (suc k) (suc most) s le = let ih = times_product k most s (omega (arith, le)) in omega (arith, ih, suc-mul most s)

-- a body so often, no more than the most times
pub upto_times : (body most : Option ℕ) (k n : ℕ) → IfSome most (λ m. k ≤ m) → IsUpToTimes body k n → IsUpTo (repeated_steps body most) n
upto_times None most k n le h = tt
upto_times (Some zero) most k n le h = omega (arith, times_zero k, h)
upto_times (Some (suc s)) None k n le h = tt
upto_times (Some (suc s)) (Some m) k n le h = upto_capped (m * suc s) n (let p = times_product k m (suc s) le in omega (arith, p, h))
