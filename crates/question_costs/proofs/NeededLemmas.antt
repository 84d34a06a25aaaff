-- The greatest number of rows.
use Rattle.std.proofs.Common.{◌≡◌, ℕ, zero, suc, ◌+◌, ◌<◌, ◌≤◌, ◌⊎◌, List, [], ◌∷◌, drop, length, get_or, drop-cons, add-one, Some, None, nat_cmp, inl, inr, refl, sym, ap, subst, ◌∙◌, arith}
use Rattle.std.specs.Ordering.{ord_max}
use Rattle.itpg_base.specs.Lists.{Among}
use Rattle.question_costs.specs.declared.count.Count.{Count}
use Rattle.question_costs.specs.declared.count.Count.TheVariants.{Rows, Over, Unknown}
use Rattle.question_costs.specs.declared.count.MemberCount.{MemberCount}
use Rattle.question_costs.specs.Counts.{counts_of}
use Rattle.question_costs.specs.Needed.{HasAtMost, HasNone, IsGreatest}

pub left_of_max : (a b : ℕ) → a ≤ ord_max nat_cmp a b
left_of_max a b = grind arith

pub right_of_max : (a b : ℕ) → b ≤ ord_max nat_cmp a b
right_of_max a b = grind arith

pub one_of_max : (a b : ℕ) → (ord_max nat_cmp a b ≡ a) ⊎ (ord_max nat_cmp a b ≡ b)
one_of_max a b = grind arith

-- a count has at most n rows if it has k, which is at most n
at_most : (n k : ℕ) (c : Count) → c ≡ Rows k → k ≤ n → HasAtMost n c
at_most n k c e l = subst (HasAtMost n) (sym e) l

from_place : (members : List MemberCount) (i : ℕ) (m : MemberCount) → i < length members → get_or members i m ≡ m → drop i members ≡ m ∷ drop (i + 1) members
from_place members i m lt is = drop-cons members i m lt ∙ ap (λ y. y ∷ drop (suc i) members) is ∙ ap (λ n. m ∷ drop n members) (sym (add-one i))

behind : (members : List MemberCount) (i : ℕ) (c : Count) → Among (counts_of (drop i members)) c → Among (counts_of members) c
behind members zero c h = h
behind [] (suc i) c h = h
behind (m ∷ members) (suc i) c h = inr (behind members i c h)

-- the member at the place is one of the members
pub one_at : (members : List MemberCount) (i : ℕ) (m : MemberCount) → i < length members → get_or members i m ≡ m → Among (counts_of members) m.count
one_at members i m lt is = behind members i m.count (subst (λ v. Among (counts_of v) m.count) (sym (from_place members i m lt is)) (inl refl))

-- the greatest number of rows before the place
pub record IsGreatestSoFar (members : List MemberCount) (i most : ℕ) : Type 0 where
  pub each : (n : ℕ) → most ≤ n → ((c : Count) → Among (counts_of (drop i members)) c → HasAtMost n c) → (c : Count) → Among (counts_of members) c → HasAtMost n c
  pub some : (most ≡ 0) ⊎ Among (counts_of members) (Rows most)

pub before_all : (members : List MemberCount) → IsGreatestSoFar members 0 0
before_all members = record { each = λ n l h. h; some = inl refl }

-- what is so of the next count and of all behind it is so of all from the place on
from_next : (n : ℕ) (x : Count) (rest : List MemberCount) → HasAtMost n x → ((c : Count) → Among (counts_of rest) c → HasAtMost n c) → (c : Count) → (x ≡ c) ⊎ Among (counts_of rest) c → HasAtMost n c
from_next n x rest h more c (inl e) = subst (HasAtMost n) e h
from_next n x rest h more c (inr i) = more c i

greatest_of : (members : List MemberCount) (most rows : ℕ) (new : ℕ) → (new ≡ most) ⊎ (new ≡ rows) → (most ≡ 0) ⊎ Among (counts_of members) (Rows most) → Among (counts_of members) (Rows rows) → (new ≡ 0) ⊎ Among (counts_of members) (Rows new)
greatest_of members most rows new (inl e) s a = subst (λ v. (v ≡ 0) ⊎ Among (counts_of members) (Rows v)) (sym e) s
greatest_of members most rows new (inr e) s a = inr (subst (λ v. Among (counts_of members) (Rows v)) (sym e) a)

pub with_next : (members : List MemberCount) (i most : ℕ) (m : MemberCount) (rows : ℕ) → i < length members → get_or members i m ≡ m → m.count ≡ Rows rows → IsGreatestSoFar members i most → IsGreatestSoFar members (i + 1) (ord_max nat_cmp most rows)
with_next members i most m rows lt is e so =
    let new = ord_max nat_cmp most rows in
    let left = left_of_max most rows in
    let right = right_of_max most rows in
    record {
      each = λ n l h. so.each n (omega (arith, l, left)) (λ c a.
          from_next n m.count (drop (i + 1) members) (at_most n rows m.count e (omega (arith, l, right))) h c
          (subst (λ v. Among (counts_of v) c) (from_place members i m lt is) a));
      some = greatest_of members most rows new (one_of_max most rows) so.some (subst (Among (counts_of members)) e (one_at members i m lt is));
    }

pub after_all : (members : List MemberCount) (i most : ℕ) → drop i members ≡ [] → IsGreatestSoFar members i most → IsGreatest (counts_of members) (Some most)
after_all members i most none so = (so.each most (omega arith) (subst (λ v. (c : Count) → Among (counts_of v) c → HasAtMost most c) (sym none) (λ c a. absurd a)), so.some)

pub no_rows : (c : Count) → ((k : ℕ) → c ≡ Rows k → ⊥) → HasNone c
no_rows (Rows k) h = h k refl
no_rows Over h = tt {0}
no_rows Unknown h = tt {0}

pub one_without : (members : List MemberCount) (i : ℕ) (m : MemberCount) → i < length members → get_or members i m ≡ m → ((k : ℕ) → m.count ≡ Rows k → ⊥) → IsGreatest (counts_of members) None
one_without members i m lt is h = (m.count, one_at members i m lt is, no_rows m.count h)
