-- The greater and the lesser of a sum and a difference, read back from their bits.
use Rattle.std.proofs.Common.{◌≡◌, ℤ, ◌+ℤ◌, ◌-ℤ◌, SFits, w64, to_z-of_z}
use Rattle.std.specs.Int.{int_max, int_min}
use Rattle.zone_core.specs.Zone.{Within, difference_reach}
use Rattle.zone_core.proofs.ReadBack.{reread, sum_back, difference_back}

-- `(x + y).max(z - v)`
pub max_sum_difference_back : (x y z v r : ℤ)
    → Within difference_reach x → Within difference_reach y → Within difference_reach z
    → Within difference_reach v → SFits w64 r
    → r ≡ int_max (reread (reread x +ℤ reread y)) (reread (reread z -ℤ reread v))
    → reread r ≡ int_max (x +ℤ y) (z -ℤ v)
max_sum_difference_back x y z v r hx hy hz hv fr e =
    let e2 = rw (sum_back x y hx hy, difference_back z v hz hv) at e in
    simp to_z-of_z e2

-- `(x + y).min(z - v)`
pub min_sum_difference_back : (x y z v r : ℤ)
    → Within difference_reach x → Within difference_reach y → Within difference_reach z
    → Within difference_reach v → SFits w64 r
    → r ≡ int_min (reread (reread x +ℤ reread y)) (reread (reread z -ℤ reread v))
    → reread r ≡ int_min (x +ℤ y) (z -ℤ v)
min_sum_difference_back x y z v r hx hy hz hv fr e =
    let e2 = rw (sum_back x y hx hy, difference_back z v hz hv) at e in
    simp to_z-of_z e2
