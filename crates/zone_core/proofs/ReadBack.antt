-- A signed number that is passed, stored or computed stands in a goal as its bits, read back. These
-- lemmas give the number itself.
use Rattle.std.proofs.Common.{◌≡◌, ℤ, ◌+ℤ◌, ◌-ℤ◌, ◌≤ℤ◌, SFits, FitsSigned, w64, to_z, of_z, to_z-of_z}
use Rattle.std.specs.Int.{int_max, int_min}
use Rattle.zone_core.proofs.Numbers.{signed}
use Rattle.zone_core.specs.Zone.{Within, moment_reach, difference_reach}

-- a number, as its bits are read back
abbrev pub reread : ℤ → ℤ
reread z = to_z w64 (of_z w64 z)

pub le_back : (x y : ℤ) → SFits w64 x → SFits w64 y → reread x ≤ℤ reread y → x ≤ℤ y
le_back x y fx fy h = simp to_z-of_z at h

pub le_there : (x y : ℤ) → SFits w64 x → SFits w64 y → x ≤ℤ y → reread x ≤ℤ reread y
le_there x y fx fy h = simp to_z-of_z h

-- `x.max(y)` and `x.min(y)`
pub max_back : (x y r : ℤ) → SFits w64 x → SFits w64 y → SFits w64 r
    → r ≡ int_max (reread x) (reread y) → reread r ≡ int_max x y
max_back x y r fx fy fr e = let e2 = simp to_z-of_z at e in simp to_z-of_z e2

pub min_back : (x y r : ℤ) → SFits w64 x → SFits w64 y → SFits w64 r
    → r ≡ int_min (reread x) (reread y) → reread r ≡ int_min x y
min_back x y r fx fy fr e = let e2 = simp to_z-of_z at e in simp to_z-of_z e2

-- ---- numbers that may bound a zone

-- what may bound a moment may bound a difference
pub moment-difference : (z : ℤ) → Within moment_reach z → Within difference_reach z
moment-difference z h = record { above = omega signed; below = omega signed }

pub within-fits : (z : ℤ) → Within difference_reach z → SFits w64 z
within-fits z h = omega signed

pub sum_fits : (x y : ℤ) → Within difference_reach x → Within difference_reach y
    → FitsSigned w64 (reread x +ℤ reread y)
sum_fits x y hx hy = omega signed

pub difference_fits : (x y : ℤ) → Within difference_reach x → Within difference_reach y
    → FitsSigned w64 (reread x -ℤ reread y)
difference_fits x y hx hy = omega signed

pub sum_back : (x y : ℤ) → Within difference_reach x → Within difference_reach y
    → reread (reread x +ℤ reread y) ≡ x +ℤ y
sum_back x y hx hy = omega signed

pub difference_back : (x y : ℤ) → Within difference_reach x → Within difference_reach y
    → reread (reread x -ℤ reread y) ≡ x -ℤ y
difference_back x y hx hy = omega signed

-- `x.max(y - z)` and its like
pub max_difference_back : (x y z r : ℤ)
    → Within difference_reach x → Within difference_reach y → Within difference_reach z → SFits w64 r
    → r ≡ int_max (reread x) (reread (reread y -ℤ reread z)) → reread r ≡ int_max x (y -ℤ z)
max_difference_back x y z r hx hy hz fr e =
    let fx : SFits w64 x = within-fits x hx in
    let e2 = simp to_z-of_z at (rw (difference_back y z hy hz) at e) in
    simp to_z-of_z e2

pub min_difference_back : (x y z r : ℤ)
    → Within difference_reach x → Within difference_reach y → Within difference_reach z → SFits w64 r
    → r ≡ int_min (reread x) (reread (reread y -ℤ reread z)) → reread r ≡ int_min x (y -ℤ z)
min_difference_back x y z r hx hy hz fr e =
    let fx : SFits w64 x = within-fits x hx in
    let e2 = simp to_z-of_z at (rw (difference_back y z hy hz) at e) in
    simp to_z-of_z e2

pub max_sum_back : (x y z r : ℤ)
    → Within difference_reach x → Within difference_reach y → Within difference_reach z → SFits w64 r
    → r ≡ int_max (reread x) (reread (reread y +ℤ reread z)) → reread r ≡ int_max x (y +ℤ z)
max_sum_back x y z r hx hy hz fr e =
    let fx : SFits w64 x = within-fits x hx in
    let e2 = simp to_z-of_z at (rw (sum_back y z hy hz) at e) in
    simp to_z-of_z e2

pub min_sum_back : (x y z r : ℤ)
    → Within difference_reach x → Within difference_reach y → Within difference_reach z → SFits w64 r
    → r ≡ int_min (reread x) (reread (reread y +ℤ reread z)) → reread r ≡ int_min x (y +ℤ z)
min_sum_back x y z r hx hy hz fr e =
    let fx : SFits w64 x = within-fits x hx in
    let e2 = simp to_z-of_z at (rw (sum_back y z hy hz) at e) in
    simp to_z-of_z e2
