-- Names in their order, and lists of properties that rise by them.
use Rattle.std.proofs.Common.{◌≡◌, ℕ, zero, suc, ◌<◌, ◌≤◌, ℤ, List, [], ◌∷◌, ◌++◌, ◌⊎◌, inl, inr, length, take, drop, get_or, Result, Ok, Err, IfOk, IfErr, refl, sym, ap, ◌∙◌, subst, arith}
use Rattle.std.specs.Cmp.Lexicographic.{slice_cmp}
use Rattle.std.specs.Ordering.{nat_cmp, ordering_reverse, ordering_index, is_eq}
use Rattle.std.specs.declared.cmp.Ordering.{Ordering}
use Rattle.std.specs.declared.cmp.Ordering.TheVariants.{Less, Equal, Greater}
use Rattle.std.specs.List.Sorted.{IsBinarySearchResult, IsNonDecreasingBy, IsSearchInRange}
use Rattle.std.proofs.lemmas.Cmp.{nat_list_cmp_total}
use Rattle.std.specs.Cmp.{tied_itself}
use Rattle.std.proofs.lemmas.Slice.Eq.{bytes_eq-Decides}
use Rattle.std.proofs.lemmas.Map.Text.{is_eq-slice_cmp}
use Rattle.itpg_base.specs.Words.{Word, IsBefore, IsRising}
use Rattle.itpg_base.specs.Graphs.{Property, PropertiesHave, property_names}
use Rattle.std.proofs.lemmas.Bool.{cases_lt}
use Rattle.std.proofs.lemmas.Option.{get_or_from_slice_get}
use Rattle.itpg_base.proofs.Objects.{here}
use Rattle.itpg_graph.proofs.Lists.{there_within}
use Rattle.itpg_graph.specs.Tables.{AreBefore, AreAfter, IsPlace, IsGap}

abbrev order : Word → Word → Ordering
order = slice_cmp nat_cmp

-- names that the order doesn't tell apart are equal
pub order_same : (a b : Word) → order a b ≡ Equal → a ≡ b
order_same a b e = (bytes_eq-Decides a b).0 (sym (is_eq-slice_cmp a b) ∙ ap is_eq e)

pub order_itself : (a : Word) → order a a ≡ Equal
order_itself a = tied_itself nat_list_cmp_total a

pub not_before_itself : (a : Word) → IsBefore a a → ⊥
not_before_itself a e = let is = order_itself a in let never : ⊥ = cc in never

pub before_then : (a b c : Word) → IsBefore a b → IsBefore b c → IsBefore a c
before_then = nat_list_cmp_total.trans

pub turned : (a b : Word) → order a b ≡ Greater → IsBefore b a
turned a b e = nat_list_cmp_total.antisymm b a ∙ ap ordering_reverse e

-- two names are equal, or one comes before the other
pub compare : (a b : Word) → (a ≡ b) ⊎ (IsBefore a b ⊎ IsBefore b a)
compare a b = by_order (order a b) refl
  where
    by_order : (r : Ordering) → order a b ≡ r → (a ≡ b) ⊎ (IsBefore a b ⊎ IsBefore b a)
    by_order Less e = inr (inl e)
    by_order Equal e = inl (order_same a b e)
    by_order Greater e = inr (inr (turned a b e))

-- in a rising list each later name comes after
pub after_first : (p : Property) (rest : List Property) → IsRising (property_names (p ∷ rest)) → AreAfter p.name rest
after_first p [] r = tt
after_first p (q ∷ rest) r = (r.0, later p.name q rest r.0 (after_first q rest r.1))
  where
    later : (name : Word) (q : Property) (rest : List Property) → IsBefore name q.name → AreAfter q.name rest → AreAfter name rest
    later name q [] b a = tt
    later name q (x ∷ xs) b a = (before_then name q.name x.name b a.0, later name q xs b a.1)

pub rising_first : (p : Property) (rest : List Property) → AreAfter p.name rest → IsRising (property_names rest) → IsRising (property_names (p ∷ rest))
rising_first p [] a r = (tt, tt)
rising_first p (q ∷ rest) a r = (a.0, r)

pub rising_rest : (p : Property) (rest : List Property) → IsRising (property_names (p ∷ rest)) → IsRising (property_names rest)
rising_rest p rest r = r.1

-- two rising lists, with a name between them
pub rising_join : (name : Word) (front back : List Property) → AreBefore name front → AreAfter name back → IsRising (property_names front) → IsRising (property_names back) → IsRising (property_names (front ++ back))
rising_join name [] back b a r s = s
rising_join name (p ∷ front) back b a r s = rising_first p (front ++ back) (all front (after_first p front r)) (rising_join name front back b.1 a r.1 s)
  where
    behind : (xs : List Property) → AreAfter name xs → AreAfter p.name xs
    behind [] a = tt
    behind (x ∷ xs) a = (before_then p.name name x.name b.0 a.0, behind xs a.1)

    all : (xs : List Property) → AreAfter p.name xs → AreAfter p.name (xs ++ back)
    all [] h = behind back a
    all (x ∷ xs) h = (h.0, all xs h.1)

-- and with a property between them
pub rising_insert : (p : Property) (front back : List Property) → AreBefore p.name front → AreAfter p.name back → IsRising (property_names front) → IsRising (property_names back) → IsRising (property_names (front ++ p ∷ back))
rising_insert p [] back b a r s = rising_first p back a s
rising_insert p (x ∷ front) back b a r s = rising_first x (front ++ p ∷ back) (all front (after_first x front r)) (rising_insert p front back b.1 a (rising_rest x front r) s)
  where
    behind : (xs : List Property) → AreAfter p.name xs → AreAfter x.name xs
    behind [] a = tt
    behind (y ∷ ys) a = (before_then x.name p.name y.name b.0 a.0, behind ys a.1)

    all : (xs : List Property) → AreAfter x.name xs → AreAfter x.name (xs ++ p ∷ back)
    all [] h = (b.0, behind back a)
    all (y ∷ ys) h = (h.0, all ys h.1)

-- the parts of a rising list around one property
pub after_middle : (front back : List Property) (p : Property) → IsRising (property_names (front ++ p ∷ back)) → AreAfter p.name back
after_middle [] back p r = after_first p back r
after_middle (x ∷ front) back p r = after_middle front back p (rising_rest x (front ++ p ∷ back) r)

pub names_replaced : (front back : List Property) (p q : Property) → p.name ≡ q.name → property_names (front ++ p ∷ back) ≡ property_names (front ++ q ∷ back)
names_replaced [] back p q e = ap (λ n. n ∷ property_names back) e
names_replaced (x ∷ front) back p q e = ap (λ ns. x.name ∷ ns) (names_replaced front back p q e)

pub rising_front : (front back : List Property) → IsRising (property_names (front ++ back)) → IsRising (property_names front)
rising_front [] back r = tt
rising_front (p ∷ []) back r = (tt, tt)
rising_front (p ∷ q ∷ front) back r = (r.0, rising_front (q ∷ front) back r.1)

pub rising_back : (front back : List Property) → IsRising (property_names (front ++ back)) → IsRising (property_names back)
rising_back [] back r = r
rising_back (p ∷ front) back r = rising_back front back (rest (front ++ back) r)
  where
    rest : (xs : List Property) → IsRising (property_names (p ∷ xs)) → IsRising (property_names xs)
    rest xs r = r.1

pub before_middle : (front back : List Property) (p : Property) → IsRising (property_names (front ++ p ∷ back)) → AreBefore p.name front
before_middle [] back p r = tt
before_middle (x ∷ front) back p r = (middle front (after_first x (front ++ p ∷ back) r), before_middle front back p r.1)
  where
    middle : (xs : List Property) → AreAfter x.name (xs ++ p ∷ back) → IsBefore x.name p.name
    middle [] a = a.0
    middle (y ∷ ys) a = middle ys a.1

-- a property that has a value is one of the list
pub has_after : (name n : Word) (t : ℤ) (value : Word) (ps : List Property) → AreAfter name ps → PropertiesHave ps n t value → IsBefore name n
has_after name n t value [] a h = absurd h
has_after name n t value (p ∷ ps) a h = elim h [ inl own ↦ subst (IsBefore name) own.0 a.0 | inr more ↦ has_after name n t value ps a.1 more ]

pub has_before : (name n : Word) (t : ℤ) (value : Word) (ps : List Property) → AreBefore name ps → PropertiesHave ps n t value → IsBefore n name
has_before name n t value [] a h = absurd h
has_before name n t value (p ∷ ps) a h = elim h [ inl own ↦ subst (λ m. IsBefore m name) own.0 a.0 | inr more ↦ has_before name n t value ps a.1 more ]

-- what a binary search for a name finds
module _ (ps : List Property) (name : Word) (rising : IsRising (property_names ps)) where
  get_after : (n : Word) (xs : List Property) (k : ℕ) (d : Property) → AreAfter n xs → k < length xs → IsBefore n (get_or xs k d).name
  get_after n [] k d a lt = absurd (omega arith)
  get_after n (x ∷ xs) zero d a lt = a.0
  get_after n (x ∷ xs) (suc k) d a lt = get_after n xs k d a.1 (omega arith)

  names_rise : (xs : List Property) (i j : ℕ) (d : Property) → IsRising (property_names xs) → i < j → j < length xs → IsBefore (get_or xs i d).name (get_or xs j d).name
  names_rise [] i j d r lt le = absurd (omega arith)
  names_rise (x ∷ xs) i zero d r lt le = absurd (omega arith)
  names_rise (x ∷ xs) zero (suc j) d r lt le = get_after x.name xs j d (after_first x xs r) (omega arith)
  names_rise (x ∷ xs) (suc i) (suc j) d r lt le = names_rise xs i j d (rest xs r) (omega arith) (omega arith)
    where
      rest : (xs : List Property) → IsRising (property_names (x ∷ xs)) → IsRising (property_names xs)
      rest xs r = r.1

  answers_rise : (a b : Word) → IsBefore a b → ordering_index (order a name) ≤ ordering_index (order b name)
  answers_rise a b h = by_order (order b name) refl
    where
      least : order a name ≡ Less → ordering_index (order a name) ≤ ordering_index (order b name)
      least e = let is : ordering_index (order a name) ≡ 0 = ap ordering_index e in omega arith

      most : (r : Ordering) → ordering_index r ≤ 2
      most Less = omega arith
      most Equal = omega arith
      most Greater = omega arith

      by_order : (r : Ordering) → order b name ≡ r → ordering_index (order a name) ≤ ordering_index (order b name)
      by_order Less e = least (before_then a b name h e)
      by_order Equal e = least (subst (λ n. order a n ≡ Less) (order_same b name e) h)
      by_order Greater e = let is : ordering_index (order b name) ≡ 2 = ap ordering_index e in let le = most (order a name) in omega arith

  comparisons_rise : IsNonDecreasingBy (λ p. ordering_index (order p.name name)) ps
  comparisons_rise = λ i j d le lt. elim (cases_lt i j) [
    | inl less ↦ answers_rise (get_or ps i d).name (get_or ps j d).name (names_rise ps i j d rising less lt)
    | inr more ↦ let same : i ≡ j = omega arith in let is = ap (λ k. ordering_index (order (get_or ps k d).name name)) same in omega arith
  ]

  take_before : (xs : List Property) (i : ℕ) → ((k : ℕ) (d : Property) → k < i → k < length xs → IsBefore (get_or xs k d).name name) → AreBefore name (take i xs)
  take_before [] zero h = tt
  take_before [] (suc i) h = tt
  take_before (x ∷ xs) zero h = tt
  take_before (x ∷ xs) (suc i) h = (h 0 x (omega arith) (omega arith), take_before xs i (λ k d lt le. h (suc k) d (omega arith) (omega arith)))

  drop_after : (xs : List Property) (i : ℕ) → ((k : ℕ) (d : Property) → i ≤ k → k < length xs → IsBefore name (get_or xs k d).name) → AreAfter name (drop i xs)
  drop_after [] zero h = tt
  drop_after [] (suc i) h = tt
  drop_after (x ∷ xs) zero h = (h 0 x (omega arith) (omega arith), drop_after xs zero (λ k d le lt. h (suc k) d (omega arith) (omega arith)))
  drop_after (x ∷ xs) (suc i) h = drop_after xs i (λ k d le lt. h (suc k) d (omega arith) (omega arith))

  found : (i : ℕ) → i < length ps → IsBinarySearchResult (λ p. order p.name name) ps (Ok i) → IsPlace ps name i
  found i lt at =
      let x = there_within ps i lt in
      let is : get_or ps i x.0 ≡ x.0 = get_or_from_slice_get ps i x.0 x.0 x.1 in
      record { within = lt; named = here ps i _ x.0 x.1 (subst (λ (p : Property). p.name ≡ name) is (order_same (get_or ps i x.0).name name (at x.0))) }

  missing : (i : ℕ) → i ≤ length ps → IsBinarySearchResult (λ p. order p.name name) ps (Err i) → IsGap ps name i
  missing i le parted =
      let parts = parted comparisons_rise in
      record {
        within = le;
        before = take_before ps i (λ k d lt within. parts.0 k d (omega arith) lt);
        after = drop_after ps i (λ k d le lt. turned (get_or ps k d).name name (parts.1 k d le lt));
      }

  pub searched : (r : Result ℕ ℕ) → IsSearchInRange r (length ps) → IsBinarySearchResult (λ p. order p.name name) ps r → record { found : IfOk r (IsPlace ps name); missing : IfErr r (IsGap ps name) }
  searched (Ok i) within equal = record { found = found i within equal; missing = tt }
  searched (Err i) within parted = record { found = tt; missing = missing i within parted }
