-- The edges at a node, as a list of their numbers.
use Rattle.std.specs.Prelude.{◌≡◌, ℕ, ◌<◌, List, [], ◌∷◌, IsTrue, IsSomeAnd, ◌⊎◌}
use Rattle.itpg_base.specs.Graphs.{Graph, Ends, ObjectIs}
use Rattle.itpg_base.specs.declared.object_number.ObjNo.{ObjNo}

-- e is a standing edge, and the end of it that is asked for is o
abbrev pub LeadsBy : (Ends → ℕ) → Graph → ℕ → ℕ → Type 0
LeadsBy end g o e = ObjectIs g e (λ x. IsTrue x.standing × IsSomeAnd x.ends (λ n. end n ≡ o))

-- e is a standing edge, and o is its source
abbrev pub LeadsFrom : Graph → ℕ → ℕ → Type 0
LeadsFrom = LeadsBy (λ n. n.source)

-- e is a standing edge, and o is its target
abbrev pub LeadsTo : Graph → ℕ → ℕ → Type 0
LeadsTo = LeadsBy (λ n. n.target)

-- the list has the number
abbrev pub HasNumber : List ObjNo → ℕ → Type 0
HasNumber [] e = ⊥
HasNumber (x ∷ rest) e = (x.0 ≡ e) ⊎ HasNumber rest e

-- each number of the list is greater than this one
abbrev pub AreAbove : ℕ → List ObjNo → Type 0
AreAbove e [] = Unit {0}
AreAbove e (x ∷ rest) = (e < x.0) × AreAbove e rest

-- the numbers rise
abbrev pub AreRising : List ObjNo → Type 0
AreRising [] = Unit {0}
AreRising (x ∷ rest) = AreAbove x.0 rest × AreRising rest

-- the list has exactly the numbers of the set, and they rise
pub record AreNumbers (S : ℕ → Type 0) (numbers : List ObjNo) : Type 0 where
  pub whole : (e : ℕ) → S e → HasNumber numbers e
  pub only : (e : ℕ) → HasNumber numbers e → S e
  pub rising : AreRising numbers
