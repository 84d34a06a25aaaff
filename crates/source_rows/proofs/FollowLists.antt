-- Lists of follows: the search for a name, one more, one less, and another in the place of one.
use Rattle.std.proofs.Common.{◌≡◌, ◌⊎◌, ⊎_elim, inl, inr, ℕ, zero, suc, ◌+◌, ◌<◌, ◌≤◌, Bool, true, false, List, ◌∷◌, [], ◌++◌, length, take, get_or, Option, Some, None, refl, sym, ◌∙◌, ap, subst, arith, true≢false, length-append, take_all}
use Rattle.std.proofs.lemmas.Option.{slice_get_read}
use Rattle.std.proofs.lemmas.List.Sums.{sum_by-cons, sum_by-append, sum_by_push}
use Rattle.std.specs.Prelude.{nat_eq, slice_get, slice_set, is_some, IfSome, IsSomeAnd}
use Rattle.std.specs.List.{remove, sum_by}
use Rattle.std.specs.Cmp.Lexicographic.{pointwise}
use Rattle.itpg_base.specs.Words.{Word}
use Rattle.itpg_base.proofs.Objects.{word_same, word_refl}
use Rattle.itpg_base.specs.Lists.{Among, Ordered}
use Rattle.itpg_base.proofs.Lists.{among_append}
use Rattle.path_ast.specs.Terms.{QueryTerm}
use Rattle.relation_rows.specs.Answered.{row_number}
use Rattle.itpg_graph.proofs.Lists.{set_changed}
use Rattle.source_rows.specs.Follows.{Entry, Follow, IsUnmet, with_entry, IsFollowed, IsOnlyPlace, FollowsDiffer, without, MayBeFollowed, AreSound, kept_rows, kept_objects, entry_rows, entry_objects, most_rows, most_objects}
use Rattle.source_rows.specs.declared.touched.Touched.{Touched}

pub get_among : {X : Type 0} (xs : List X) (i : ℕ) (x : X) → slice_get xs i ≡ Some x → Among xs x
get_among [] i x e = let no : ⊥ = cc in absurd no
get_among (y ∷ ys) zero x e = inl (cc)
get_among (y ∷ ys) (suc i) x e = inr (get_among ys i x e)

-- what is among one element more
among_next : {X : Type 0} (xs : List X) (i : ℕ) (k x : X) → i < length xs → k ≡ get_or xs i k → Among (take (suc i) xs) x → Among (take i xs) x ⊎ (k ≡ x)
among_next [] i k x lt e a = absurd (omega (arith, lt))
among_next (y ∷ ys) zero k x lt e (inl h) = inr (e ∙ h)
among_next (y ∷ ys) zero k x lt e (inr h) = absurd h
among_next (y ∷ ys) (suc i) k x lt e (inl h) = inl (inl h)
among_next (y ∷ ys) (suc i) k x lt e (inr h) = ⊎_elim (λ a. inl (inr a)) (λ b. inr b) (among_next ys i k x (omega (arith, lt)) e h)

among_more : {X : Type 0} (xs : List X) (i : ℕ) (k x : X) → i < length xs → k ≡ get_or xs i k → Among (take (i + 1) xs) x → Among (take i xs) x ⊎ (k ≡ x)
among_more {X} xs i k x lt e a = among_next xs i k x lt e (subst (λ (n : ℕ). Among (take n xs) x) (let n : i + 1 ≡ suc i = omega arith in n) a)

-- ---- what is counted of each element

-- of one element more
count_next : {X : Type 0} (weight : X → ℕ) (xs : List X) (i : ℕ) (k : X) → i < length xs → k ≡ get_or xs i k → sum_by weight (take (suc i) xs) ≡ sum_by weight (take i xs) + weight k
count_next weight [] i k lt e = absurd (omega (arith, lt))
count_next weight (x ∷ xs) zero k lt e = let c = sum_by-cons weight x [] in let same = ap weight e in omega (arith, c, same)
count_next weight (x ∷ xs) (suc i) k lt e =
    let more = count_next weight xs i k (omega (arith, lt)) e in
    omega (arith, more, sum_by-cons weight x (take (suc i) xs), sum_by-cons weight x (take i xs))

pub count_more : {X : Type 0} (weight : X → ℕ) (xs : List X) (i : ℕ) (k : X) → i < length xs → k ≡ get_or xs i k → sum_by weight (take (i + 1) xs) ≡ sum_by weight (take i xs) + weight k
count_more weight xs i k lt e =
    subst (λ (n : ℕ). sum_by weight (take n xs) ≡ sum_by weight (take i xs) + weight k) (let n : suc i ≡ i + 1 = omega arith in n) (count_next weight xs i k lt e)

-- of the element at a place no more than of all
pub count_one : {X : Type 0} (weight : X → ℕ) (xs : List X) (i : ℕ) (x : X) → slice_get xs i ≡ Some x → weight x ≤ sum_by weight xs
count_one weight [] i x e = let no : ⊥ = cc in absurd no
count_one weight (y ∷ ys) zero x e = let same : y ≡ x = cc in let w = ap weight same in omega (arith, w, sum_by-cons weight y ys)
count_one weight (y ∷ ys) (suc i) x e = let less = count_one weight ys i x e in omega (arith, less, sum_by-cons weight y ys)

-- where another is in its place
pub count_set : {X : Type 0} (weight : X → ℕ) (xs : List X) (i : ℕ) (x new : X) → slice_get xs i ≡ Some x → sum_by weight (slice_set xs i new) + weight x ≡ sum_by weight xs + weight new
count_set weight [] i x new e = let no : ⊥ = cc in absurd no
count_set weight (y ∷ ys) zero x new e =
    let same : y ≡ x = cc in let w = ap weight same in omega (arith, w, sum_by-cons weight y ys, sum_by-cons weight new ys)
count_set weight (y ∷ ys) (suc i) x new e =
    let more = count_set weight ys i x new e in omega (arith, more, sum_by-cons weight y ys, sum_by-cons weight y (slice_set ys i new))

-- ---- the search for a name

pub not_more : (items : List Follow) (name : Word) (i : ℕ) (k : Follow) → i < length items → k ≡ get_or items i k → ((x : Follow) → Among (take i items) x → x.name ≡ name → ⊥) → (k.name ≡ name → ⊥)
    → (x : Follow) → Among (take (i + 1) items) x → x.name ≡ name → ⊥
not_more items name i k lt e before other x a same = ⊎_elim (λ b. before x b same) (λ (here : k ≡ x). other (ap (λ (v : Follow). v.name) here ∙ same)) (among_more items i k x lt e a)

pub at_place : {X : Type 0} (items : List X) (i : ℕ) (k : X) (P : X → Type 0) → slice_get items i ≡ Some k → P k → IsSomeAnd (slice_get items i) P
at_place items i k P e p = subst (λ o. IsSomeAnd o P) (sym e) p

pub of_place : {X : Type 0} (items : List X) (i : ℕ) (k : X) (P : X → Type 0) → slice_get items i ≡ Some k → IsSomeAnd (slice_get items i) P → P k
of_place items i k P e p = subst (λ o. IsSomeAnd o P) e p

pub found_here : (items : List Follow) (name : Word) (i : ℕ) (k : Follow) → i < length items → k ≡ get_or items i k → k.name ≡ name → IsSomeAnd (slice_get items i) (λ f. f.name ≡ name)
found_here items name i k lt e same = at_place items i k (λ f. f.name ≡ name) (slice_get_read items (length items) i k refl lt e) same

pub nowhere : (items : List Follow) (name : Word) (i : ℕ) → length items ≤ i → ((x : Follow) → Among (take i items) x → x.name ≡ name → ⊥) → IsFollowed items name → ⊥
nowhere items name i le before h = before h.0 (subst (λ (w : List Follow). Among w h.0) (sym (take_all i items le)) h.1) h.2

pub followed_some : (fs : List Follow) (i : ℕ) (name : Word) → IsSomeAnd (slice_get fs i) (λ f. f.name ≡ name) → IsFollowed fs name
followed_some [] i name h = absurd h
followed_some (f ∷ fs) zero name h = (f, inl refl, h)
followed_some (f ∷ fs) (suc i) name h = let k = followed_some fs i name h in (k.0, inr k.1, k.2)

pub followed_found : (fs : List Follow) (name : Word) (r : Option ℕ) → IfSome r (λ i. IsSomeAnd (slice_get fs i) (λ f. f.name ≡ name)) → is_some r ≡ true → IsFollowed fs name
followed_found fs name None h e = absurd (true≢false (sym e))
followed_found fs name (Some i) h e = followed_some fs i name h

-- a name stands at one place
pub only_here : (fs : List Follow) (i : ℕ) (name : Word) → IsSomeAnd (slice_get fs i) (λ f. f.name ≡ name) → Ordered FollowsDiffer fs → IsOnlyPlace fs name i
only_here [] i name h o j k = absurd h
only_here (f ∷ fs) zero name h o zero k = refl
only_here (f ∷ fs) zero name h o (suc j) k = let there = followed_some fs j name k in absurd (o.0 there.0 there.1 (h ∙ sym there.2))
only_here (f ∷ fs) (suc i) name h o zero k = let there = followed_some fs i name h in absurd (o.0 there.0 there.1 (k ∙ sym there.2))
only_here (f ∷ fs) (suc i) name h o (suc j) k = ap suc (only_here fs i name h o.1 j k)

-- ---- one more

more_ordered : (fs : List Follow) (f : Follow) → Ordered FollowsDiffer fs → (IsFollowed fs f.name → ⊥) → Ordered FollowsDiffer (fs ++ f ∷ [])
more_ordered [] f o none = ((λ y a. absurd a), tt)
more_ordered (g ∷ fs) f o none = (
  (λ y a. ⊎_elim (λ b. o.0 y b) (λ l. ⊎_elim (λ (e : f ≡ y). λ (same : g.name ≡ y.name). none (g, inl refl, same ∙ ap (λ (v : Follow). v.name) (sym e))) (λ k. absurd k) l) (among_append fs (f ∷ []) y a)),
  more_ordered fs f o.1 (λ h. none (h.0, inr h.1, h.2)),
)

pub sound_none : AreSound []
sound_none = record { few = omega arith; differ = tt; asks = λ f a. absurd a; rows = omega arith; objects = omega arith }

pub sound_more : (fs : List Follow) (f : Follow) → AreSound fs → f.entries ≡ [] → MayBeFollowed f.query → (IsFollowed fs f.name → ⊥) → length fs < 8 → AreSound (fs ++ f ∷ [])
sound_more fs f s fresh asks none few = record {
  few = omega (arith, length-append fs (f ∷ []), few);
  differ = more_ordered fs f s.differ none;
  asks = λ x a. ⊎_elim (λ b. s.asks x b) (λ l. ⊎_elim (λ (e : f ≡ x). subst (λ (g : Follow). MayBeFollowed g.query) e asks) (λ no. absurd no) l) (among_append fs (f ∷ []) x a);
  rows =
      let old = s.rows in
      let none : entry_rows f.entries ≡ 0 = ap entry_rows fresh in
      omega (arith, old, none, sum_by-append (λ (g : Follow). entry_rows g.entries) fs (f ∷ []), sum_by-cons (λ (g : Follow). entry_rows g.entries) f []);
  objects =
      let old = s.objects in
      let none : entry_objects f.entries ≡ 0 = ap entry_objects fresh in
      omega (arith, old, none, sum_by-append (λ (g : Follow). entry_objects g.entries) fs (f ∷ []), sum_by-cons (λ (g : Follow). entry_objects g.entries) f []);
}

-- ---- one less

same_names : (a b : Word) → ((pointwise nat_eq a b ≡ true) × (a ≡ b)) ⊎ ((pointwise nat_eq a b ≡ false) × (a ≡ b → ⊥))
same_names a b = by_test (pointwise nat_eq a b) refl
  where
    by_test : (t : Bool) → pointwise nat_eq a b ≡ t → ((pointwise nat_eq a b ≡ true) × (a ≡ b)) ⊎ ((pointwise nat_eq a b ≡ false) × (a ≡ b → ⊥))
    by_test true e = inl (e, word_same a b e)
    by_test false e = inr (e, λ k. true≢false (sym (word_refl a) ∙ ap (pointwise nat_eq a) k ∙ e))

without_here : (name : Word) (f : Follow) (fs : List Follow) → f.name ≡ name → without name (f ∷ fs) ≡ without name fs
without_here name f fs e = elim (same_names f.name name) [ inl h ↦ rw h.0 refl | inr h ↦ absurd (h.1 e) ]

without_other : (name : Word) (f : Follow) (fs : List Follow) → (f.name ≡ name → ⊥) → without name (f ∷ fs) ≡ f ∷ without name fs
without_other name f fs n = elim (same_names f.name name) [ inl h ↦ absurd (n h.1) | inr h ↦ rw h.0 refl ]

none_named : (name : Word) (fs : List Follow) → ((g : Follow) → Among fs g → g.name ≡ name → ⊥) → without name fs ≡ fs
none_named name [] none = refl
none_named name (f ∷ fs) none = without_other name f fs (none f (inl refl)) ∙ ap (λ (v : List Follow). f ∷ v) (none_named name fs (λ g a. none g (inr a)))

pub taken_out : (fs : List Follow) (i : ℕ) (name : Word) → IsSomeAnd (slice_get fs i) (λ f. f.name ≡ name) → Ordered FollowsDiffer fs → remove fs i ≡ without name fs
taken_out [] i name h o = absurd h
taken_out (f ∷ fs) zero name h o = sym (without_here name f fs h ∙ none_named name fs (λ g a e. o.0 g a (h ∙ sym e)))
taken_out (f ∷ fs) (suc i) name h o =
    let there = followed_some fs i name h in
    ap (λ (v : List Follow). f ∷ v) (taken_out fs i name h o.1) ∙ sym (without_other name f fs (λ e. o.0 there.0 there.1 (e ∙ sym there.2)))

-- a list without some of the elements of another
removed_among : {X : Type 0} (xs : List X) (i : ℕ) (x : X) → Among (remove xs i) x → Among xs x
removed_among [] zero x a = a
removed_among [] (suc i) x a = a
removed_among (y ∷ ys) zero x a = inr a
removed_among (y ∷ ys) (suc i) x (inl e) = inl e
removed_among (y ∷ ys) (suc i) x (inr a) = inr (removed_among ys i x a)

removed_ordered : (fs : List Follow) (i : ℕ) → Ordered FollowsDiffer fs → Ordered FollowsDiffer (remove fs i)
removed_ordered [] zero o = tt
removed_ordered [] (suc i) o = tt
removed_ordered (f ∷ fs) zero o = o.1
removed_ordered (f ∷ fs) (suc i) o = ((λ y a. o.0 y (removed_among fs i y a)), removed_ordered fs i o.1)

removed_count : {X : Type 0} (weight : X → ℕ) (xs : List X) (i : ℕ) → sum_by weight (remove xs i) ≤ sum_by weight xs
removed_count weight [] zero = omega arith
removed_count weight [] (suc i) = omega arith
removed_count weight (x ∷ xs) zero = omega (arith, sum_by-cons weight x xs)
removed_count weight (x ∷ xs) (suc i) = let less = removed_count weight xs i in omega (arith, less, sum_by-cons weight x xs, sum_by-cons weight x (remove xs i))

removed_few : {X : Type 0} (xs : List X) (i : ℕ) → length (remove xs i) ≤ length xs
removed_few [] zero = omega arith
removed_few [] (suc i) = omega arith
removed_few (x ∷ xs) zero = omega arith
removed_few (x ∷ xs) (suc i) = let less = removed_few xs i in omega (arith, less)

pub sound_less : (fs : List Follow) (i : ℕ) → AreSound fs → AreSound (remove fs i)
sound_less fs i s = record {
  few = let old = s.few in let less = removed_few fs i in omega (arith, old, less);
  differ = removed_ordered fs i s.differ;
  asks = λ f a. s.asks f (removed_among fs i f a);
  rows = let old = s.rows in omega (arith, old, removed_count (λ (g : Follow). entry_rows g.entries) fs i);
  objects = let old = s.objects in omega (arith, old, removed_count (λ (g : Follow). entry_objects g.entries) fs i);
}

-- ---- another in the place of one

length_set : {X : Type 0} (xs : List X) (i : ℕ) (x : X) → length (slice_set xs i x) ≡ length xs
length_set [] i x = refl
length_set (y ∷ ys) zero x = refl
length_set (y ∷ ys) (suc i) x = ap suc (length_set ys i x)

module _ (f g : Follow) (named : g.name ≡ f.name) (asks : g.query ≡ f.query) where
  -- each follow has the name and the query of one that was there
  set_was : (fs : List Follow) (i : ℕ) → slice_get fs i ≡ Some f → (x : Follow) → Among (slice_set fs i g) x → (p : Follow) × Among fs p × (p.name ≡ x.name) × (p.query ≡ x.query)
  set_was [] i e x a = absurd a
  set_was (p ∷ fs) zero e x (inl is) = (p, inl refl, (let same : p ≡ f = cc in ap (λ (v : Follow). v.name) same ∙ sym named ∙ ap (λ (v : Follow). v.name) is), (let same : p ≡ f = cc in ap (λ (v : Follow). v.query) same ∙ sym asks ∙ ap (λ (v : Follow). v.query) is))
  set_was (p ∷ fs) zero e x (inr a) = (x, inr a, refl, refl)
  set_was (p ∷ fs) (suc i) e x (inl is) = (p, inl refl, ap (λ (v : Follow). v.name) is, ap (λ (v : Follow). v.query) is)
  set_was (p ∷ fs) (suc i) e x (inr a) = let h = set_was fs i e x a in (h.0, inr h.1, h.2, h.3)

  set_ordered : (fs : List Follow) (i : ℕ) → slice_get fs i ≡ Some f → Ordered FollowsDiffer fs → Ordered FollowsDiffer (slice_set fs i g)
  set_ordered [] i e o = tt
  set_ordered (p ∷ fs) zero e o = ((λ y a. let same : p ≡ f = cc in λ k. o.0 y a (ap (λ (v : Follow). v.name) same ∙ sym named ∙ k)), o.1)
  set_ordered (p ∷ fs) (suc i) e o = ((λ y a. let h = set_was fs i e y a in λ k. o.0 h.0 h.1 (k ∙ sym h.2)), set_ordered fs i e o.1)

  pub sound_set : (fs : List Follow) (i : ℕ) → slice_get fs i ≡ Some f → AreSound fs → kept_rows (slice_set fs i g) ≤ most_rows → kept_objects (slice_set fs i g) ≤ most_objects → AreSound (slice_set fs i g)
  sound_set fs i e s rows objects = record {
    few = let old = s.few in omega (arith, old, length_set fs i g);
    differ = set_ordered fs i e s.differ;
    asks = λ x a. let h = set_was fs i e x a in subst MayBeFollowed h.3 (s.asks h.0 h.1);
    rows = rows;
    objects = objects;
  }

-- ---- what is at a place

pub read_at : (items now : List Follow) (i : ℕ) (f : Follow) → items ≡ now → i < length now → f ≡ get_or items i f → slice_get items i ≡ Some f
read_at items now i f is lt e = slice_get_read items (length items) i f refl (subst (λ (v : List Follow). i < length v) (sym is) lt) e

pub asked_at : (items now : List Follow) (i : ℕ) (f : Follow) (q : QueryTerm) → items ≡ now → AreSound items → i < length now → f ≡ get_or items i f → q ≡ f.query → MayBeFollowed q
asked_at items now i f q is s lt e same = subst MayBeFollowed (sym same) (s.asks f (get_among items i f (read_at items now i f is lt e)))

-- an edit leaves no more of it
pub unmet_set : (touched : Touched) (items : List Follow) (i : ℕ) (f g : Follow) → slice_get items i ≡ Some f → AreSound items → IsUnmet touched f g → entry_rows g.entries ≤ entry_rows f.entries
    → entry_objects g.entries ≤ entry_objects f.entries → AreSound (slice_set items i g)
unmet_set touched items i f g at s unmet less_rows less_objects =
    let old_rows = s.rows in
    let old_objects = s.objects in
    sound_set f g unmet.name unmet.query items i at s
    (omega (arith, old_rows, less_rows, count_set (λ (h : Follow). entry_rows h.entries) items i f g at))
    (omega (arith, old_objects, less_objects, count_set (λ (h : Follow). entry_objects h.entries) items i f g at))

-- one entry more, where there is room
pub entry_set : (items : List Follow) (i : ℕ) (f g : Follow) (e : Entry) → slice_get items i ≡ Some f → AreSound items → g ≡ record f { entries = f.entries ++ e ∷ [] } → kept_rows items + row_number e.rows ≤ most_rows
    → kept_objects items + length e.objects ≤ most_objects → AreSound (slice_set items i g)
entry_set items i f g e at s new room_rows room_objects =
    let rows : entry_rows g.entries ≡ entry_rows f.entries + row_number e.rows = ap (λ (h : Follow). entry_rows h.entries) new ∙ sum_by_push (λ (x : Entry). row_number x.rows) f.entries e in
    let objects : entry_objects g.entries ≡ entry_objects f.entries + length e.objects = ap (λ (h : Follow). entry_objects h.entries) new ∙ sum_by_push (λ (x : Entry). length x.objects) f.entries e in
    sound_set f g (ap (λ (h : Follow). h.name) new) (ap (λ (h : Follow). h.query) new) items i at s
    (omega (arith, room_rows, rows, count_set (λ (h : Follow). entry_rows h.entries) items i f g at))
    (omega (arith, room_objects, objects, count_set (λ (h : Follow). entry_objects h.entries) items i f g at))

pub set_entry : (items now : List Follow) (i : ℕ) (f g : Follow) (e : Entry) → items ≡ now → slice_get items i ≡ Some f → g ≡ record f { entries = f.entries ++ e ∷ [] } → slice_set items i g ≡ with_entry i e now
set_entry items now i f g e is at new =
    set_changed items i f g (λ (h : Follow). record h { entries = h.entries ++ e ∷ [] }) at new ∙ ap (with_entry i e) is
