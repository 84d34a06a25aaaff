-- The first member that is over.
use Rattle.std.proofs.Common.{◌≡◌, ℕ, zero, suc, ◌<◌, List, [], ◌∷◌, length, slice_get, slice_index_or, Option, Some, None, MatchOption, inl, inr, sym, ap, arith}
use Rattle.std.specs.Prelude.{IfSome, IsNone}
use Rattle.std.proofs.lemmas.Bool.{false≢true}
use Rattle.std.specs.List.{HoldsAt, AllWithin}
use Rattle.itpg_base.specs.Lists.{Among}
use Rattle.question_costs.specs.declared.count.Count.TheVariants.{Over}
use Rattle.question_costs.specs.declared.count.MemberCount.{MemberCount}
use Rattle.question_costs.specs.Counts.{NoneOverBefore, counts_of}

abbrev pub IsOverHere : MemberCount → Type 0
IsOverHere m = m.count ≡ Over

abbrev pub IsNotOver : MemberCount → Type 0
IsNotOver m = m.count ≡ Over → ⊥

over_at : (ms : List MemberCount) (i : ℕ) → i < length ms → HoldsAt IsOverHere ms i → slice_get (counts_of ms) i ≡ Some Over
over_at [] i l h = absurd (let none : ⊥ = omega (arith, l) in none)
over_at (m ∷ ms) zero l h = ap Some (h m)
over_at (m ∷ ms) (suc i) l h = over_at ms i (omega (arith, l)) (λ d. h d)

none_over : (ms : List MemberCount) → ((k : ℕ) (d : MemberCount) → k < length ms → IsNotOver (slice_index_or ms k d)) → Among (counts_of ms) Over → ⊥
none_over [] all i = i
none_over (m ∷ ms) all (inl e) = all zero m (omega arith) e
none_over (m ∷ ms) all (inr i) = none_over ms (λ k d l. all (suc k) d (omega (arith, l))) i

none_before : (ms : List MemberCount) (i : ℕ) → ((k : ℕ) (d : MemberCount) → k < i → IsNotOver (slice_index_or ms k d)) → NoneOverBefore (counts_of ms) i
none_before [] i all k l e = let none : ⊥ = cc in none
none_before (m ∷ ms) i all zero l e = all zero m l (let same : m.count ≡ Over = cc in same)
none_before (m ∷ ms) zero all (suc k) l e = let none : ⊥ = omega (arith, l) in none
none_before (m ∷ ms) (suc i) all (suc k) l e = none_before ms i (λ j d b. all (suc j) d (omega (arith, b))) k (omega (arith, l)) e

-- the place is the first at which it is so; none where it is so nowhere
abbrev pub IsFirst : Option ℕ → List MemberCount → Type 0
IsFirst r ms = MatchOption r (AllWithin IsNotOver ms 0 (length ms)) (λ i. (i < length ms) × HoldsAt IsOverHere ms i × AllWithin IsNotOver ms 0 i)

pub first_some : (r : Option ℕ) (ms : List MemberCount) → IsFirst r ms → IfSome r (λ place. slice_get (counts_of ms) place ≡ Some Over)
first_some None ms h = tt
first_some (Some i) ms h = over_at ms i h.0 h.1

pub first_before : (r : Option ℕ) (ms : List MemberCount) → IsFirst r ms → IfSome r (λ place. NoneOverBefore (counts_of ms) place)
first_before None ms h = tt
first_before (Some i) ms h = none_before ms i (λ k d l. h.2 k d (omega arith) l)

pub first_none : (r : Option ℕ) (ms : List MemberCount) → IsFirst r ms → IsNone r → Among (counts_of ms) Over → ⊥
first_none None ms h e = none_over ms (λ k d l. h k d (omega arith) l)
first_none (Some i) ms h e = absurd (false≢true (sym e))
