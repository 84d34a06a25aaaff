-- What holds of the watches of a machine, after each line.
use Rattle.std.proofs.Common.{◌≡◌, ⊎_elim, ℕ, ◌≤◌, List, [], ◌∷◌, ◌++◌, Bool, true, false, refl, sym, subst, arith}
use Rattle.std.specs.Prelude.{slice_get, IsSomeAnd, Some, if◌then◌else◌}
use Rattle.itpg_base.specs.Lists.{Among}
use Rattle.itpg_base.proofs.Lists.{among_append}
use Rattle.relation_rows.specs.Answered.{Answered, pairs, times}
use Rattle.path_ast.specs.Terms.{QueryTerm}
use Rattle.row_printer.specs.Texts.{AreDeclared}
use Rattle.standing_queries.specs.Watches.{IsOfKind, asks_for_both, no_rows}

-- ---- places, in lists of any watches

module _ {X : Type 0} where
  pub at_watch : (ws : List X) (i : ℕ) (w : X) (P : X → Type 0) → slice_get ws i ≡ Some w → P w → IsSomeAnd (slice_get ws i) P
  at_watch ws i w P is p = subst (λ o. IsSomeAnd o P) (sym is) p

  pub of_watch : (ws : List X) (i : ℕ) (w : X) (P : X → Type 0) → slice_get ws i ≡ Some w → IsSomeAnd (slice_get ws i) P → P w
  of_watch ws i w P is h = subst (λ o. IsSomeAnd o P) is h

  -- what holds of each watch and of the new one
  pub each_added : (P : X → Type 0) (ws : List X) (n : X) → ((w : X) → Among ws w → P w) → P n → (w : X) → Among (ws ++ n ∷ []) w → P w
  each_added P ws n all new w a = ⊎_elim (λ h. all w h) (λ l. ⊎_elim (λ e. subst P e new) (λ k. absurd k) l) (among_append ws (n ∷ []) w a)

-- ---- kinds, and declared objects

pub kind_at_first : (q : QueryTerm) → IsOfKind q (no_rows q)
kind_at_first q = by_test (asks_for_both q) refl
  where
    by_test : (b : Bool) → asks_for_both q ≡ b → IsOfKind q (if b then pairs [] else times [])
    by_test true e = e
    by_test false e = e

-- where there is no row, each is of declared objects
pub none_declared : (n : ℕ) (q : QueryTerm) → AreDeclared n (no_rows q)
none_declared n q = by_test (asks_for_both q)
  where
    by_test : (b : Bool) → AreDeclared n (if b then pairs [] else times [])
    by_test true = λ r a. absurd a
    by_test false = λ r a. absurd a

-- as many objects were declared, or more
pub more_declared : (n m : ℕ) → n ≤ m → (answer : Answered) → AreDeclared n answer → AreDeclared m answer
more_declared n m up (pairs rows) all = λ r a. let b = all r a in let s = b.0 in let t = b.1 in (omega (arith, up, s), omega (arith, up, t))
more_declared n m up (times rows) all = λ r a. let b = all r a in omega (arith, up, b)
