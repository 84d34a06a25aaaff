-- Repetitions that add nothing from some number of times on.
use Rattle.std.specs.Prelude.{◌≡◌, ◌↔◌, ℕ, ◌+◌, ◌<◌, ◌≤◌, min, List, [], ◌∷◌, ◌++◌, Option, Some, None, IfSome}
use Rattle.itpg_base.specs.Graphs.{Graph}
use Rattle.itpg_base.specs.Points.{Point}
use Rattle.itpg_base.specs.Lists.{Among}
use Rattle.path_ast.specs.Terms.{PathTerm, OfTest, Forward, Backward, Next, Previous, Sequence, Choice, Repetition}
use Rattle.path_ast.specs.Meaning.{Rel}
use Rattle.answer_hints.specs.declared.repeated.TheConstants.{MOST_FURTHER, MOST_TIMES}
use Rattle.answer_hints.specs.RuledOut.{FitsWithin}

-- a path that is repeated, and how many times at least and at most
pub record Repeating : Type 0 where
  pub body : PathTerm
  pub least : ℕ
  pub most : Option ℕ

-- the repetition as a path
abbrev pub repeated : Repeating → PathTerm
repeated r = Repetition r.body r.least r.most

-- the same at most k times
abbrev pub up_to : Repeating → ℕ → PathTerm
up_to r k = Repetition r.body r.least (Some k)

-- the repetitions that stand in the path through "then" and "or" alone, from left to right
abbrev pub top_repetitions : PathTerm → List Repeating
top_repetitions (OfTest c) = []
top_repetitions Forward = []
top_repetitions Backward = []
top_repetitions Next = []
top_repetitions Previous = []
top_repetitions (Sequence p q) = top_repetitions p ++ top_repetitions q
top_repetitions (Choice p q) = top_repetitions p ++ top_repetitions q
top_repetitions (Repetition p n m) = record { body = p; least = n; most = m } ∷ []

-- on the graph the two paths lead between the same points
abbrev pub LeadAlike : Graph → PathTerm → PathTerm → Type 0
LeadAlike g p q = (x y : Point) → Rel p g x y ↔ Rel q g x y

-- more than k times add nothing
abbrev pub AddsNothingFrom : Graph → Repeating → ℕ → Type 0
AddsNothingFrom g r k = LeadAlike g (repeated r) (up_to r k)

-- k is the least number, from the least number of times on and below the most, from which on it adds nothing
pub record IsEnough (g : Graph) (r : Repeating) (k : ℕ) : Type 0 where
  pub least : r.least ≤ k
  pub below : IfSome r.most (λ m. k < m)
  pub nothing : AddsNothingFrom g r k
  pub first : (i : ℕ) → r.least ≤ i → i < k → ¬ AddsNothingFrom g r i

-- the greatest number of times that is looked at: at most some more than the least, the most, and what a query can say
abbrev pub farthest_of : ℕ → Option ℕ → ℕ
farthest_of n None = min MOST_TIMES (n + MOST_FURTHER)
farthest_of n (Some m) = min m (n + MOST_FURTHER)

abbrev pub farthest : Repeating → ℕ
farthest r = farthest_of r.least r.most

-- k is enough and isn't beyond the farthest, and the repetition fits as it stands, up to the farthest number of times, and up to each
-- that is tried on the way to k
pub record IsFound (g : Graph) (limit : ℕ) (r : Repeating) (k : ℕ) : Type 0 where
  pub enough : IsEnough g r k
  pub near : k ≤ farthest r
  pub whole : FitsWithin g limit (repeated r)
  pub far : FitsWithin g limit (up_to r (farthest r))
  pub tried : (i : ℕ) → r.least ≤ i → i ≤ k → FitsWithin g limit (up_to r i)

-- what is found for a repetition: none exactly if there is none to be found
abbrev pub IsFinding : Graph → ℕ → Repeating → Option ℕ → Type 0
IsFinding g limit r None = (k : ℕ) → ¬ IsFound g limit r k
IsFinding g limit r (Some k) = IsFound g limit r k

-- what is told: a repetition, from how many times on it adds nothing, and what to write instead
pub record Told : Type 0 where
  pub path : PathTerm
  pub times : ℕ
  pub instead : PathTerm

-- what is told of a repetition for which k is found
abbrev pub told_at : Repeating → ℕ → Told
told_at r k = record { path = repeated r; times = k; instead = up_to r k }

-- nothing is told of one for which none is found
abbrev pub told_of : Repeating → Option ℕ → List Told
told_of r None = []
told_of r (Some k) = told_at r k ∷ []

-- this is told of the repetitions, in their order: of each what is found for it
abbrev pub AreTold : Graph → ℕ → List Repeating → List Told → Type 0
AreTold g limit [] told = told ≡ []
AreTold g limit (r ∷ rs) told = (found : Option ℕ) × IsFinding g limit r found × ((rest : List Told) × AreTold g limit rs rest × (told ≡ told_of r found ++ rest))

-- behind what was told comes what is told of the repetitions
abbrev pub TellsOf : Graph → ℕ → List Repeating → List Told → List Told → Type 0
TellsOf g limit rs old new = (more : List Told) × AreTold g limit rs more × (new ≡ old ++ more)

-- it is told that one of the path's top repetitions adds nothing from a number of times on, and that number is enough
abbrev pub IsCertain : Graph → PathTerm → Told → Type 0
IsCertain g p t = (r : Repeating) × Among (top_repetitions p) r × IsEnough g r t.times × (t ≡ told_at r t.times)

-- where a number can be found for a top repetition of the path, it is told
abbrev pub AllAreGiven : Graph → ℕ → PathTerm → List Told → Type 0
AllAreGiven g limit p told = (r : Repeating) (k : ℕ) → Among (top_repetitions p) r → IsFound g limit r k → Among told (told_at r k)
