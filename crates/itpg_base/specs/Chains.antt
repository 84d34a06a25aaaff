-- The exponents on the way to a power by squaring.
use Rattle.std.specs.Prelude.{ℕ, zero, suc, ◌*◌, ◌/◌, List, [], ◌∷◌, ◌++◌}

-- the chain of a number, with fuel for its halvings: as much as the number itself is enough
unfoldable pub chain_within : ℕ → ℕ → List ℕ
chain_within fuel zero = []
chain_within fuel (suc zero) = 1 ∷ []
chain_within zero (suc (suc n)) = []
chain_within (suc fuel) (suc (suc n)) =
    let half = suc (suc n) / 2 in chain_within fuel half ++ 2 * half ∷ suc (suc n) ∷ []

-- none for 0, and 1 alone for 1; above that the chain of the half, rounded down, then twice the half and the number
unfoldable pub chain : ℕ → List ℕ
chain n = chain_within n n
