-- The chain of a power of two.
use Rattle.std.proofs.Common.{◌≡◌, ℕ, zero, suc, ◌*◌, ◌/◌, ◌^◌, ◌≤◌, ◌⊎◌, inl, inr, sym, subst, arith, All}
use Rattle.std.proofs.Math.Nat.{pow-succ'}
use Rattle.std.proofs.lemmas.List.Elements.{All-from_recursion}
use Rattle.itpg_base.specs.Chains.{chain}
use Rattle.repeat_engine.proofs.ChainLaws.{chain_one, chain_first, chain_split, chain_join}

at_or_below : (j i : ℕ) → j ≤ suc i → (j ≤ i) ⊎ (suc i ≡ j)
at_or_below j i h = grind arith

some_double : (i : ℕ) → 1 ≤ 2 ^ i
some_double zero = omega arith
some_double (suc i) = let e = pow-succ' 2 i in let h = some_double i in omega (arith, e, h)

two_double : (i : ℕ) → 2 ≤ 2 ^ suc i
two_double i = let e = pow-succ' 2 i in let h = some_double i in omega (arith, e, h)

half_double : (i : ℕ) → 2 ^ suc i / 2 ≡ 2 ^ i
half_double i = let e = pow-succ' 2 i in omega (arith, e)

twice_half : (i : ℕ) → 2 * (2 ^ suc i / 2) ≡ 2 ^ suc i
twice_half i = let e = pow-succ' 2 i in omega (arith, e)

-- it has the powers of two up to it, and nothing else
pub doubles_of : (P : ℕ → Type 0) (i : ℕ) → All P (chain (2 ^ i)) → (j : ℕ) → j ≤ i → P (2 ^ j)
doubles_of P zero all j below = subst (λ (k : ℕ). P (2 ^ k)) (let e : 0 ≡ j = omega (arith, below) in e) (chain_first P (2 ^ 0) (omega arith) all)
doubles_of P (suc i) all j below =
    let parts = chain_split P (2 ^ suc i) (two_double i) all in
    elim (at_or_below j i below) [
      | inl before ↦ doubles_of P i (subst (λ (k : ℕ). All P (chain k)) (half_double i) parts.half) j before
      | inr last ↦ subst (λ (k : ℕ). P (2 ^ k)) last parts.whole
    ]

pub chain_of_doubles : (P : ℕ → Type 0) (i : ℕ) → ((j : ℕ) → j ≤ i → P (2 ^ j)) → All P (chain (2 ^ i))
chain_of_doubles P zero each = All-from_recursion P (chain (2 ^ 0)) (rw chain_one (each 0 (omega arith), tt))
chain_of_doubles P (suc i) each =
    let last : P (2 ^ suc i) = each (suc i) (omega arith) in
    chain_join P (2 ^ suc i) (two_double i)
    (record {
      half = subst (λ (k : ℕ). All P (chain k)) (sym (half_double i)) (chain_of_doubles P i (λ j below. each j (omega (arith, below))));
      double = subst P (sym (twice_half i)) last;
      whole = last;
    })
