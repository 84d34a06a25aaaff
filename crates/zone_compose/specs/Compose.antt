-- The relations whose zones the calls give.
use Rattle.std.specs.Prelude.{◌≡◌, ◌↔◌, ℤ, pos, negsuc, ◌+ℤ◌, ◌≤ℤ◌, ◌⊎◌}
use Rattle.zone_core.specs.declared.Bounds.{Bounds}
use Rattle.zone_core.specs.Zone.{Between, Meets}
use Rattle.zone_compose.specs.declared.Middle.{Middle}

-- some middle moment is an arrival from t in the first zone, and a departure to u in the second
pub record HasMiddle (first second : Bounds) (t u : ℤ) : Type 0 where
  pub middle : ℤ
  pub left : Meets first t middle
  pub right : Meets second middle u

-- the moments of m are exactly those that x can arrive at and y can depart at
abbrev pub AreShared : Bounds → Bounds → Middle → Type 0
AreShared x y m = (s : ℤ) → Between m.low m.high s ↔ (Between x.c x.d s × Between y.a y.b s)

-- the least and the greatest departure of the zone
pub record AreDepartures (z : Bounds) (first last : ℤ) : Type 0 where
  pub least : (t u : ℤ) → Meets z t u → first ≤ℤ t
  pub greatest : (t u : ℤ) → Meets z t u → t ≤ℤ last
  pub least_met : (u : ℤ) × Meets z first u
  pub greatest_met : (u : ℤ) × Meets z last u

-- the least and the greatest arrival of the zone
pub record AreArrivals (z : Bounds) (first last : ℤ) : Type 0 where
  pub least : (t u : ℤ) → Meets z t u → first ≤ℤ u
  pub greatest : (t u : ℤ) → Meets z t u → u ≤ℤ last
  pub least_met : (t : ℤ) × Meets z t first
  pub greatest_met : (t : ℤ) × Meets z t last

-- the pair arrives where it departs, at a moment of the span
pub record Stays (first last t u : ℤ) : Type 0 where
  pub from : first ≤ℤ t
  pub to : t ≤ℤ last
  pub same : u ≡ t

-- one moment on, or one back
abbrev pub IsOneStep : ℤ → Type 0
IsOneStep step = (step ≡ pos 1) ⊎ (step ≡ negsuc 0)

-- the pair arrives one step from where it departs, both in the span
pub record Moves (step first last t u : ℤ) : Type 0 where
  pub from : first ≤ℤ t
  pub to : t ≤ℤ last
  pub low : first ≤ℤ u
  pub high : u ≤ℤ last
  pub by : u ≡ (t +ℤ step)
