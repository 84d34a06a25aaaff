-- Which unions are looked at before any is made.
use Rattle.std.proofs.Common.{ℕ, ◌/◌, ◌≤◌, arith, All}
use Rattle.itpg_base.specs.Chains.{chain}
use Rattle.repeat_engine.proofs.ChainLaws.{chain_split, chain_last}

-- what holds along the chain of n holds along that of the member, which isn't 0
pub record StandsIn (P : ℕ → Type 0) (n member : ℕ) : Type 0 where
  pub some : 1 ≤ member
  pub within : All P (chain n) → All P (chain member)

-- n itself does
pub stands_first : (P : ℕ → Type 0) (n : ℕ) → 1 ≤ n → StandsIn P n n
stands_first P n some = record { some = some; within = λ all. all }

-- and so does the half of one that does, if it isn't 0
pub stands_half : (P : ℕ → Type 0) (n member : ℕ) → 1 ≤ member / 2 → StandsIn P n member → StandsIn P n (member / 2)
stands_half P n member some s =
    let two : 2 ≤ member = omega (arith, some) in
    record { some = some; within = λ all. (chain_split P member two (s.within all)).half }

-- so it holds at the member
pub stands_at : (P : ℕ → Type 0) (n member : ℕ) → StandsIn P n member → All P (chain n) → P member
stands_at P n member s all = chain_last P member s.some (s.within all)
