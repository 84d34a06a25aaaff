-- Spans of lengths, up to a longest one, are lawful.
use Rattle.std.proofs.Common.{◌≡◌, ℕ, zero, suc, ◌+◌, ◌^◌, ◌≤◌, min, max, refl, sym, ◌∙◌, subst, arith}
use Rattle.std.specs.Prelude.{count_ones}
use Rattle.repeat_engine.specs.Powers.{Algebra, nth_power, union_of_powers}
use Rattle.repeat_engine.specs.Composed.{IsLawful}

-- they have the same ends
abbrev pub Alike : ℕ × ℕ → ℕ × ℕ → Type 0
Alike x y = (x.0 ≡ y.0) × (x.1 ≡ y.1)

-- no end is beyond the longest length
abbrev pub Own : ℕ → ℕ × ℕ → Type 0
Own longest x = (x.0 ≤ longest) × (x.1 ≤ longest)

-- its ends, in binary, have so few ones between them
abbrev pub Fits : ℕ → ℕ × ℕ → Type 0
Fits ones x = count_ones x.0 + count_ones x.1 ≤ ones

fits_same : (ones : ℕ) (x y : ℕ × ℕ) → Alike x y → Fits ones x → Fits ones y
fits_same ones x y e fits =
    subst (λ (m : ℕ). count_ones y.0 + count_ones m ≤ ones) e.1 (subst (λ (l : ℕ). count_ones l + count_ones x.1 ≤ ones) e.0 fits)

module _ (longest : ℕ) where
  -- composed their ends add up, to the longest; united they are the span over both
  abbrev pub spans : Algebra (ℕ × ℕ)
  spans = record {
    one = (0, 0);
    compose = λ x y. (min (x.0 + y.0) longest, min (x.1 + y.1) longest);
    unite = λ x y. (min x.0 y.0, max x.1 y.1);
  }

  abbrev Pow : ℕ × ℕ → ℕ → ℕ × ℕ
  Pow x n = nth_power spans x n

  abbrev To : ℕ × ℕ → ℕ → ℕ × ℕ
  To x n = union_of_powers spans x n

  power_within : (x : ℕ × ℕ) (n : ℕ) → (Pow x n).1 ≤ longest
  unfolding nth_power
  power_within x zero = omega arith
  power_within x (suc n) = omega arith

  power_of_none : (x : ℕ × ℕ) → x.1 ≡ 0 → (n : ℕ) → (Pow x n).1 ≡ 0
  unfolding nth_power
  power_of_none x none zero = omega arith
  power_of_none x none (suc n) = omega (arith, none, power_of_none x none n)

  -- the most of a power grows with it, up to the longest
  power_grows : (x : ℕ × ℕ) (n : ℕ) → 1 ≤ x.1 → min n longest ≤ (Pow x n).1
  unfolding nth_power
  power_grows x zero some = omega arith
  power_grows x (suc n) some = omega (arith, some, power_grows x n some)

  last_in_union : (x : ℕ × ℕ) (n : ℕ) → (Pow x n).1 ≤ (To x n).1
  unfolding nth_power union_of_powers
  last_in_union x zero = omega arith
  last_in_union x (suc n) = omega arith

  union_from_zero : (x : ℕ × ℕ) (n : ℕ) → (To x n).0 ≡ 0
  unfolding union_of_powers
  union_from_zero x zero = omega arith
  union_from_zero x (suc n) = omega (arith, union_from_zero x n)

  held : (x : ℕ × ℕ) (n m : ℕ) → longest ≤ m → Alike (spans.unite (To x m) (Pow x n)) (To x m)
  held x n m many = (omega (arith, union_from_zero x m), most_held x.1 refl)
    where
      most_held : (most : ℕ) → x.1 ≡ most → max (To x m).1 (Pow x n).1 ≡ (To x m).1
      most_held zero e = omega (arith, power_of_none x e n)
      most_held (suc k) e = omega (arith, power_within x n, power_grows x m (omega (arith, e)), last_in_union x m)

  pub spans_lawful : (ones : ℕ) → longest ≤ 2 ^ 60 → IsLawful Alike (Own longest) (Fits ones) spans
  spans_lawful ones few = record {
    same = λ x. (refl, refl);
    turned = λ x y e. (sym e.0, sym e.1);
    joined = λ x y z e f. (e.0 ∙ f.0, e.1 ∙ f.1);
    own_alike = λ x y e own. (omega (arith, e, own), omega (arith, e, own));
    fits_alike = fits_same ones;
    composed_alike = λ x y v w e f. (omega (arith, e, f), omega (arith, e, f));
    united_alike = λ x y v w e f. (omega (arith, e, f), omega (arith, e, f));
    own_one = (omega arith, omega arith);
    own_composed = λ x y a b. (omega arith, omega arith);
    own_united = λ x y a b. (omega (arith, a, b), omega (arith, a, b));
    associative = λ x y z a b c. (omega (arith, a, c), omega (arith, a, c));
    one_left = λ x a. (omega (arith, a), omega (arith, a));
    one_right = λ x a. (omega (arith, a), omega (arith, a));
    over_left = λ x y z a b c. (omega arith, omega arith);
    over_right = λ x y z a b c. (omega arith, omega arith);
    united_associative = λ x y z a b c. (omega arith, omega arith);
    united_commutative = λ x y a b. (omega arith, omega arith);
    united_twice = λ x a. (omega arith, omega arith);
    bounded = λ x n a above. held x n (2 ^ 60) few;
  }
