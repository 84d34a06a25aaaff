-- Sums modulo 2^64.
use Rattle.std.proofs.Common.{◌≡◌, ℕ, ◌+◌, ◌%◌, ◌^◌, ◌<◌, ℤ, pos, negsuc, ◌+ℤ◌, List, [], ◌∷◌, ◌++◌, length, take, get_or, refl, ap, ◌∙◌, sym, arith, FitsSigned, w64}
use Rattle.std.specs.Int.{cast_unsigned}
use Rattle.std.proofs.lemmas.Int.{ints}
use Rattle.std.proofs.lemmas.List.{take_more}
use Rattle.band_normal.specs.declared.band.End.{End}
use Rattle.band_normal.specs.declared.band.End.TheVariants.{Moving}
use Rattle.band_normal.specs.Bands.{end_at}
use Rattle.relation_rows.specs.declared.times.OneRow.{OneRow}
use Rattle.itpg_run.specs.Sums.{residue, times_value, total}

residue_of : (z t n : ℤ) → z ≡ t +ℤ n → FitsSigned w64 n → (residue t + cast_unsigned w64 n) % 2 ^ 64 ≡ residue z
unfolding residue
residue_of (pos c) (pos a) (pos b) e f = omega (arith, ints, e, f)
residue_of (pos c) (pos a) (negsuc b) e f = omega (arith, ints, e, f)
residue_of (pos c) (negsuc a) (pos b) e f = omega (arith, ints, e, f)
residue_of (pos c) (negsuc a) (negsuc b) e f = omega (arith, ints, e, f)
residue_of (negsuc c) (pos a) (pos b) e f = omega (arith, ints, e, f)
residue_of (negsuc c) (pos a) (negsuc b) e f = omega (arith, ints, e, f)
residue_of (negsuc c) (negsuc a) (pos b) e f = omega (arith, ints, e, f)
residue_of (negsuc c) (negsuc a) (negsuc b) e f = omega (arith, ints, e, f)

-- a number more
pub residue_more : (s : ℕ) (t n : ℤ) → FitsSigned w64 n → s ≡ residue t → (s + cast_unsigned w64 n) % 2 ^ 64 ≡ residue (t +ℤ n)
residue_more s t n f e = ap (λ k. (k + cast_unsigned w64 n) % 2 ^ 64) e ∙ residue_of (t +ℤ n) t n refl f

-- with an end that moves
pub moved : (t d k : ℤ) (e : End) → e ≡ Moving k → residue ((t +ℤ d) +ℤ k) ≡ residue (t +ℤ end_at e d)
moved t d k e is = ap residue (let a : (t +ℤ d) +ℤ k ≡ t +ℤ (d +ℤ k) = omega (arith, ints) in a) ∙ ap (λ (x : End). residue (t +ℤ end_at x d)) (sym is)

two_more : (t a b : ℤ) → residue ((t +ℤ a) +ℤ b) ≡ residue (t +ℤ (a +ℤ b))
two_more t a b = ap residue (let e : (t +ℤ a) +ℤ b ≡ t +ℤ (a +ℤ b) = omega (arith, ints) in e)

pub four_more : (t a b c d : ℤ) → residue ((((t +ℤ a) +ℤ b) +ℤ c) +ℤ d) ≡ residue (t +ℤ (a +ℤ b +ℤ c +ℤ d))
four_more t a b c d = ap residue (let e : (((t +ℤ a) +ℤ b) +ℤ c) +ℤ d ≡ t +ℤ (a +ℤ b +ℤ c +ℤ d) = omega (arith, ints) in e)

pub total_push : {X : Type 0} (value : X → ℤ) (xs : List X) (x : X) → total value (xs ++ x ∷ []) ≡ total value xs +ℤ value x
unfolding total
total_push value [] x = omega (arith, ints)
total_push value (y ∷ xs) x = let e = total_push value xs x in omega (arith, ints, e)

pub total_none : {X : Type 0} (value : X → ℤ) (xs : List X) → 0 ≡ residue (total value (take 0 xs))
unfolding residue total
total_none value [] = refl
total_none value (x ∷ xs) = refl

-- one of the elements more
pub total_more : {X : Type 0} (value : X → ℤ) (xs : List X) (i : ℕ) (d : X) → i < length xs → total value (take i xs) +ℤ value (get_or xs i d) ≡ total value (take (i + 1) xs)
total_more value xs i d lt = sym (ap (total value) (take_more xs i d lt) ∙ total_push value (take i xs) (get_or xs i d))

-- a row more
pub one_more : {X : Type 0} (value : X → ℤ) (xs : List X) (i : ℕ) (d x : X) → i < length xs → x ≡ get_or xs i d → residue (total value (take i xs) +ℤ value x) ≡ residue (total value (take (i + 1) xs))
one_more {X} value xs i d x lt is = ap residue (ap (λ (y : X). total value (take i xs) +ℤ value y) is ∙ total_more value xs i d lt)

-- the two moments of a row of one time
pub times_more : (t f u : ℤ) (r : OneRow) → f ≡ r.span.from → u ≡ r.span.to → residue ((t +ℤ f) +ℤ u) ≡ residue (t +ℤ times_value r)
times_more t f u r e h = two_more t f u ∙ ap (λ (a : ℤ). residue (t +ℤ (a +ℤ u))) e ∙ ap (λ (b : ℤ). residue (t +ℤ (r.span.from +ℤ b))) h
