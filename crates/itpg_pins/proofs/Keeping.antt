-- Lists of pins: the search for a name, one more, one less, and another table.
use Rattle.std.proofs.Common.{◌≡◌, ◌⊎◌, ⊎_elim, inl, inr, ℕ, zero, suc, ◌+◌, ◌<◌, ◌≤◌, Bool, true, false, List, ◌∷◌, [], ◌++◌, length, take, get_or, Option, Some, None, refl, sym, ◌∙◌, ap, subst, arith, true≢false, length-append, take_all}
use Rattle.std.proofs.lemmas.Option.{slice_get_read}
use Rattle.std.specs.Prelude.{nat_eq, slice_get, slice_set, is_some, IfSome, IsSomeAnd}
use Rattle.std.specs.List.{remove}
use Rattle.std.specs.Cmp.Lexicographic.{pointwise}
use Rattle.itpg_base.specs.Words.{Word}
use Rattle.itpg_base.specs.Graphs.{changed_at}
use Rattle.itpg_base.proofs.Objects.{word_same, word_refl}
use Rattle.itpg_base.specs.Lists.{Among, Ordered}
use Rattle.plan_cache.specs.Nodes.{Table}
use Rattle.plan_cache.specs.RightRows.{IsTableRight}
use Rattle.itpg_pins.specs.Pins.{Held, IsHeld, IsOnlyPlace, NamesDiffer, without, retabled, AreSound}

get_among : {X : Type 0} (xs : List X) (i : ℕ) (x : X) → slice_get xs i ≡ Some x → Among xs x
get_among [] i x e = let no : ⊥ = cc in absurd no
get_among (y ∷ ys) zero x e = inl (cc)
get_among (y ∷ ys) (suc i) x e = inr (get_among ys i x e)

-- what is among one element more
among_next : {X : Type 0} (xs : List X) (i : ℕ) (k x : X) → i < length xs → k ≡ get_or xs i k → Among (take (suc i) xs) x → Among (take i xs) x ⊎ (k ≡ x)
among_next [] i k x lt e a = absurd (omega (arith, lt))
among_next (y ∷ ys) zero k x lt e (inl h) = inr (e ∙ h)
among_next (y ∷ ys) zero k x lt e (inr h) = absurd h
among_next (y ∷ ys) (suc i) k x lt e (inl h) = inl (inl h)
among_next (y ∷ ys) (suc i) k x lt e (inr h) = ⊎_elim (λ a. inl (inr a)) (λ b. inr b) (among_next ys i k x (omega (arith, lt)) e h)

among_more : {X : Type 0} (xs : List X) (i : ℕ) (k x : X) → i < length xs → k ≡ get_or xs i k → Among (take (i + 1) xs) x → Among (take i xs) x ⊎ (k ≡ x)
among_more {X} xs i k x lt e a = among_next xs i k x lt e (subst (λ (n : ℕ). Among (take n xs) x) (let n : i + 1 ≡ suc i = omega arith in n) a)

-- ---- the search for a name

pub not_more : (items : List Held) (name : Word) (i : ℕ) (k : Held) → i < length items → k ≡ get_or items i k → ((x : Held) → Among (take i items) x → x.name ≡ name → ⊥) → (k.name ≡ name → ⊥)
    → (x : Held) → Among (take (i + 1) items) x → x.name ≡ name → ⊥
not_more items name i k lt e before other x a same = ⊎_elim (λ b. before x b same) (λ (here : k ≡ x). other (ap (λ (v : Held). v.name) here ∙ same)) (among_more items i k x lt e a)

pub at_place : (items : List Held) (i : ℕ) (k : Held) (P : Held → Type 0) → slice_get items i ≡ Some k → P k → IsSomeAnd (slice_get items i) P
at_place items i k P e p = subst (λ o. IsSomeAnd o P) (sym e) p

pub of_place : (items : List Held) (i : ℕ) (k : Held) (P : Held → Type 0) → slice_get items i ≡ Some k → IsSomeAnd (slice_get items i) P → P k
of_place items i k P e p = subst (λ o. IsSomeAnd o P) e p

pub found_here : (items : List Held) (name : Word) (i : ℕ) (k : Held) → i < length items → k ≡ get_or items i k → k.name ≡ name → IsSomeAnd (slice_get items i) (λ p. p.name ≡ name)
found_here items name i k lt e same = at_place items i k (λ p. p.name ≡ name) (slice_get_read items (length items) i k refl lt e) same

pub nowhere : (items : List Held) (name : Word) (i : ℕ) → length items ≤ i → ((x : Held) → Among (take i items) x → x.name ≡ name → ⊥) → IsHeld items name → ⊥
nowhere items name i le before h = before h.0 (subst (λ (w : List Held). Among w h.0) (sym (take_all i items le)) h.1) h.2

pub pinned_some : (ps : List Held) (i : ℕ) (name : Word) → IsSomeAnd (slice_get ps i) (λ p. p.name ≡ name) → IsHeld ps name
pinned_some [] i name h = absurd h
pinned_some (p ∷ ps) zero name h = (p, inl refl, h)
pinned_some (p ∷ ps) (suc i) name h = let k = pinned_some ps i name h in (k.0, inr k.1, k.2)

pub pinned_found : (ps : List Held) (name : Word) (r : Option ℕ) → IfSome r (λ i. IsSomeAnd (slice_get ps i) (λ p. p.name ≡ name)) → is_some r ≡ true → IsHeld ps name
pinned_found ps name None h e = absurd (true≢false (sym e))
pinned_found ps name (Some i) h e = pinned_some ps i name h

-- a name stands at one place
pub only_here : (ps : List Held) (i : ℕ) (name : Word) → IsSomeAnd (slice_get ps i) (λ p. p.name ≡ name) → Ordered NamesDiffer ps → IsOnlyPlace ps name i
only_here [] i name h o j k = absurd h
only_here (p ∷ ps) zero name h o zero k = refl
only_here (p ∷ ps) zero name h o (suc j) k = let there = pinned_some ps j name k in absurd (o.0 there.0 there.1 (h ∙ sym there.2))
only_here (p ∷ ps) (suc i) name h o zero k = let there = pinned_some ps i name h in absurd (o.0 there.0 there.1 (k ∙ sym there.2))
only_here (p ∷ ps) (suc i) name h o (suc j) k = ap suc (only_here ps i name h o.1 j k)

-- ---- one more

among_append : (xs ys : List Held) (x : Held) → Among (xs ++ ys) x → Among xs x ⊎ Among ys x
among_append [] ys x a = inr a
among_append (y ∷ xs) ys x (inl e) = inl (inl e)
among_append (y ∷ xs) ys x (inr a) = ⊎_elim (λ b. inl (inr b)) (λ b. inr b) (among_append xs ys x a)

more_ordered : (ps : List Held) (p : Held) → Ordered NamesDiffer ps → (IsHeld ps p.name → ⊥) → Ordered NamesDiffer (ps ++ p ∷ [])
more_ordered [] p o none = ((λ y a. absurd a), tt)
more_ordered (q ∷ ps) p o none = (
  (λ y a. ⊎_elim (λ b. o.0 y b) (λ l. ⊎_elim (λ (e : p ≡ y). λ (same : q.name ≡ y.name). none (q, inl refl, same ∙ ap (λ (v : Held). v.name) (sym e))) (λ k. absurd k) l) (among_append ps (p ∷ []) y a)),
  more_ordered ps p o.1 (λ h. none (h.0, inr h.1, h.2)),
)

pub sound_more : (limit : ℕ) (ps : List Held) (p : Held) → AreSound limit ps → IsTableRight p.graph limit p.table → (IsHeld ps p.name → ⊥) → length ps < 8 → AreSound limit (ps ++ p ∷ [])
sound_more limit ps p s right none few = record {
  few = omega (arith, length-append ps (p ∷ []), few);
  differ = more_ordered ps p s.differ none;
  right = λ x a. ⊎_elim (λ b. s.right x b) (λ l. ⊎_elim (λ (e : p ≡ x). subst (λ (q : Held). IsTableRight q.graph limit q.table) e right) (λ no. absurd no) l) (among_append ps (p ∷ []) x a);
}

-- ---- one less

same_names : (a b : Word) → ((pointwise nat_eq a b ≡ true) × (a ≡ b)) ⊎ ((pointwise nat_eq a b ≡ false) × (a ≡ b → ⊥))
same_names a b = by_test (pointwise nat_eq a b) refl
  where
    by_test : (t : Bool) → pointwise nat_eq a b ≡ t → ((pointwise nat_eq a b ≡ true) × (a ≡ b)) ⊎ ((pointwise nat_eq a b ≡ false) × (a ≡ b → ⊥))
    by_test true e = inl (e, word_same a b e)
    by_test false e = inr (e, λ k. true≢false (sym (word_refl a) ∙ ap (pointwise nat_eq a) k ∙ e))

without_here : (name : Word) (p : Held) (ps : List Held) → p.name ≡ name → without name (p ∷ ps) ≡ without name ps
without_here name p ps e = elim (same_names p.name name) [ inl h ↦ rw h.0 refl | inr h ↦ absurd (h.1 e) ]

without_other : (name : Word) (p : Held) (ps : List Held) → (p.name ≡ name → ⊥) → without name (p ∷ ps) ≡ p ∷ without name ps
without_other name p ps n = elim (same_names p.name name) [ inl h ↦ absurd (n h.1) | inr h ↦ rw h.0 refl ]

none_named : (name : Word) (ps : List Held) → ((q : Held) → Among ps q → q.name ≡ name → ⊥) → without name ps ≡ ps
none_named name [] none = refl
none_named name (p ∷ ps) none = without_other name p ps (none p (inl refl)) ∙ ap (λ (v : List Held). p ∷ v) (none_named name ps (λ q a. none q (inr a)))

pub taken_out : (ps : List Held) (i : ℕ) (name : Word) → IsSomeAnd (slice_get ps i) (λ p. p.name ≡ name) → Ordered NamesDiffer ps → remove ps i ≡ without name ps
taken_out [] i name h o = absurd h
taken_out (p ∷ ps) zero name h o = sym (without_here name p ps h ∙ none_named name ps (λ q a e. o.0 q a (h ∙ sym e)))
taken_out (p ∷ ps) (suc i) name h o =
    let there = pinned_some ps i name h in
    ap (λ (v : List Held). p ∷ v) (taken_out ps i name h o.1) ∙ sym (without_other name p ps (λ e. o.0 there.0 there.1 (e ∙ sym there.2)))

without_among : (name : Word) (ps : List Held) (x : Held) → Among (without name ps) x → Among ps x
without_among name [] x a = a
without_among name (p ∷ ps) x a = elim (same_names p.name name) [
  | inl h ↦ inr (without_among name ps x (subst (λ (v : List Held). Among v x) (without_here name p ps h.1) a))
  | inr h ↦ ⊎_elim (λ e. inl e) (λ b. inr (without_among name ps x b)) (subst (λ (v : List Held). Among v x) (without_other name p ps h.1) a)
]

without_ordered : (name : Word) (ps : List Held) → Ordered NamesDiffer ps → Ordered NamesDiffer (without name ps)
without_ordered name [] o = tt
without_ordered name (p ∷ ps) o = elim (same_names p.name name) [
  | inl h ↦ subst (λ (v : List Held). Ordered NamesDiffer v) (sym (without_here name p ps h.1)) (without_ordered name ps o.1)
  | inr h ↦ subst (λ (v : List Held). Ordered NamesDiffer v) (sym (without_other name p ps h.1)) ((λ y a. o.0 y (without_among name ps y a)), without_ordered name ps o.1)
]

without_few : (name : Word) (ps : List Held) → length (without name ps) ≤ length ps
without_few name [] = omega arith
without_few name (p ∷ ps) = elim (same_names p.name name) [
  | inl h ↦ (let l = without_few name ps in let e = ap length (without_here name p ps h.1) in omega arith)
  | inr h ↦ (let l = without_few name ps in let e = ap length (without_other name p ps h.1) in omega arith)
]

pub sound_less : (limit : ℕ) (ps : List Held) (i : ℕ) (name : Word) → IsSomeAnd (slice_get ps i) (λ p. p.name ≡ name) → AreSound limit ps → AreSound limit (remove ps i)
sound_less limit ps i name h s = subst (AreSound limit) (sym (taken_out ps i name h s.differ)) (record {
  few = (let l = without_few name ps in let few = s.few in omega arith);
  differ = without_ordered name ps s.differ;
  right = λ x a. s.right x (without_among name ps x a);
})

-- ---- another table

retabled_few : (i : ℕ) (table : Table) (ps : List Held) → length (retabled i table ps) ≡ length ps
retabled_few i table [] = refl
retabled_few zero table (p ∷ ps) = refl
retabled_few (suc i) table (p ∷ ps) = ap suc (retabled_few i table ps)

-- each pin has the name of one that stood
retabled_named : (i : ℕ) (table : Table) (ps : List Held) (x : Held) → Among (retabled i table ps) x → (p : Held) × Among ps p × (p.name ≡ x.name)
retabled_named i table [] x a = absurd a
retabled_named zero table (p ∷ ps) x (inl e) = (p, inl refl, ap (λ (v : Held). v.name) e)
retabled_named zero table (p ∷ ps) x (inr a) = (x, inr a, refl)
retabled_named (suc i) table (p ∷ ps) x (inl e) = (p, inl refl, ap (λ (v : Held). v.name) e)
retabled_named (suc i) table (p ∷ ps) x (inr a) = let h = retabled_named i table ps x a in (h.0, inr h.1, h.2)

retabled_ordered : (i : ℕ) (table : Table) (ps : List Held) → Ordered NamesDiffer ps → Ordered NamesDiffer (retabled i table ps)
retabled_ordered i table [] o = tt
retabled_ordered zero table (p ∷ ps) o = ((λ y a. o.0 y a), o.1)
retabled_ordered (suc i) table (p ∷ ps) o = ((λ y a. let h = retabled_named i table ps y a in λ e. o.0 h.0 h.1 (e ∙ sym h.2)), retabled_ordered i table ps o.1)

retabled_right : (limit i : ℕ) (table : Table) (ps : List Held) → ((p : Held) → Among ps p → IsTableRight p.graph limit p.table) → IsSomeAnd (slice_get ps i) (λ p. IsTableRight p.graph limit table)
    → (x : Held) → Among (retabled i table ps) x → IsTableRight x.graph limit x.table
retabled_right limit i table [] each new x a = absurd a
retabled_right limit zero table (p ∷ ps) each new x (inl e) = subst (λ (q : Held). IsTableRight q.graph limit q.table) e new
retabled_right limit zero table (p ∷ ps) each new x (inr a) = each x (inr a)
retabled_right limit (suc i) table (p ∷ ps) each new x (inl e) = each x (inl e)
retabled_right limit (suc i) table (p ∷ ps) each new x (inr a) = retabled_right limit i table ps (λ v c. each v (inr c)) new x a

pub sound_retabled : (limit i : ℕ) (table : Table) (ps : List Held) → AreSound limit ps → IsSomeAnd (slice_get ps i) (λ p. IsTableRight p.graph limit table) → AreSound limit (retabled i table ps)
sound_retabled limit i table ps s new = record {
  few = (let e = retabled_few i table ps in let few = s.few in omega arith);
  differ = retabled_ordered i table ps s.differ;
  right = retabled_right limit i table ps s.right new;
}

-- to put an element that is changed in the place of the old one is to change it
set_changed : {X : Type 0} (xs : List X) (i : ℕ) (x y : X) (f : X → X) → slice_get xs i ≡ Some x → y ≡ f x → slice_set xs i y ≡ changed_at xs i f
set_changed [] i x y f at is = let no : ⊥ = cc in absurd no
set_changed (z ∷ xs) zero x y f at is = let same : z ≡ x = cc in ap (λ v. v ∷ xs) (is ∙ ap f (sym same))
set_changed (z ∷ xs) (suc i) x y f at is = ap (λ v. z ∷ v) (set_changed xs i x y f at is)

pub set_retabled : (ps : List Held) (i : ℕ) (p new : Held) (table : Table) → slice_get ps i ≡ Some p → new ≡ record p { table = table } → slice_set ps i new ≡ retabled i table ps
set_retabled ps i p new table at is = set_changed ps i p new (λ q. record q { table = table }) at is

pub right_at : (limit i : ℕ) (ps : List Held) (p : Held) → AreSound limit ps → slice_get ps i ≡ Some p → IsTableRight p.graph limit p.table
right_at limit i ps p s at = s.right p (get_among ps i p at)
