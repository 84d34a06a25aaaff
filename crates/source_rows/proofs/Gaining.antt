-- What is found at one object, at the objects of a list, and what is listed in the end.
use Rattle.std.proofs.Common.{◌≡◌, ◌⊎◌, inl, inr, ℕ, zero, suc, ◌≤◌, ◌<◌, ◌+◌, take, get_or, ◌||◌, true≢false, List, [], ◌∷◌, ◌++◌, length, true, false, cond, Some, None, refl, sym, ◌∙◌, subst, ap, arith, append-nil}
use Rattle.std.specs.Prelude.{IsTrue, ◌↔◌, nat_eq}
use Rattle.std.specs.BTreeSet.{BTreeSet, contains, Updates}
use Rattle.std.specs.BTreeMap.{is_at}
use Rattle.std.specs.Ordering.{nat_cmp, is_eq}
use Rattle.std.specs.List.{AllByRecursion, list_any}
use Rattle.std.specs.List.Sorted.{IsStrictlySortedBy}
use Rattle.std.specs.declared.cmp.Ordering.TheVariants.{Less, Equal, Greater}
use Rattle.std.proofs.lemmas.Bool.Decides.{eqb_tells, leb_tells}
use Rattle.itpg_base.specs.Graphs.{Graph, Stands, HasEnd, ObjectIs}
use Rattle.itpg_base.specs.declared.object_number.ObjNo.{ObjNo}
use Rattle.itpg_graph.specs.Edges.{HasNumber, AreNumbers, AreAbove, AreRising}
use Rattle.itpg_graph.proofs.Rising.{pushed_has, has_pushed}
use Rattle.itpg_graph.specs.Kinds.{ends_of}
use Rattle.itpg_graph.proofs.Asked.{edge_ends, ends_edge, node_ends}
use Rattle.source_rows.specs.Reach.{IsStep}
use Rattle.source_rows.specs.Found.{Found, IsSeen, Gains, IsNext, IsEndOf}

pub either : {A B C D : Type 0} → (A → C) → (B → D) → A ⊎ B → C ⊎ D
either f g (inl a) = inl (f a)
either f g (inr b) = inr (g b)

-- two gains, one after the other
pub gains_then : (A B C : ℕ → Type 0) (old mid new : Found) → Gains A old mid → Gains B mid new → ((a : ℕ) → C a ↔ (A a ⊎ B a)) → Gains C old new
gains_then A B C old mid new first more both = record {
  seen = λ a. (
    (λ h. elim ((more.seen a).0 h) [
      | inl k ↦ either (λ j. j) (λ j. (both a).1 (inl j)) ((first.seen a).0 k)
      | inr k ↦ inr ((both a).1 (inr k))
    ]),
    (λ h. elim h [
      | inl k ↦ (more.seen a).1 (inl ((first.seen a).1 (inl k)))
      | inr k ↦ elim ((both a).0 k) [ inl j ↦ (more.seen a).1 (inl ((first.seen a).1 (inr j))) | inr j ↦ (more.seen a).1 (inr j) ]
    ]),
  );
  only = λ a h. elim (more.only a h) [
    | inl k ↦ either (λ j. j) (λ j. (both a).1 (inl j)) (first.only a k)
    | inr k ↦ inr ((both a).1 (inr k))
  ];
  kept = λ a h. more.kept a (first.kept a h);
  listed = λ a h. elim (more.listed a h) [ inl k ↦ either (λ j. j) (more.kept a) (first.listed a k) | inr k ↦ inr k ];
}

pub gains_none : (A : ℕ → Type 0) (f : Found) → ((a : ℕ) → A a → ⊥) → Gains A f f
gains_none A f refutes = record {
  seen = λ a. ((λ h. inl h), (λ h. elim h [ inl k ↦ k | inr k ↦ absurd (refutes a k) ]));
  only = λ a h. inl h;
  kept = λ a h. h;
  listed = λ a h. inl h;
}

pub gains_as : (A B : ℕ → Type 0) (old new : Found) → Gains A old new → ((a : ℕ) → B a ↔ A a) → Gains B old new
gains_as A B old new gains same = record {
  seen = λ a. ((λ h. either (λ j. j) ((same a).1) ((gains.seen a).0 h)), (λ h. (gains.seen a).1 (either (λ j. j) ((same a).0) h)));
  only = λ a h. either (λ j. j) ((same a).1) (gains.only a h);
  kept = gains.kept;
  listed = gains.listed;
}

-- how a number compares to another
by_cmp : (k q : ℕ) → ((is_at (nat_cmp k) q ≡ true) × (k ≡ q)) ⊎ ((is_at (nat_cmp k) q ≡ false) × (k ≡ q → ⊥))
by_cmp k q = elim (leb_tells (suc k) q) [
  | inl lt ↦ inr (ap (λ b. is_eq (cond b Less (cond (nat_eq k q) Equal Greater))) lt.0, (λ e. let below = lt.1 in omega (arith, e, below)))
  | inr ge ↦ elim (eqb_tells k q) [
    | inl e ↦ inl (ap (λ b. is_eq (cond b Less (cond (nat_eq k q) Equal Greater))) ge.0 ∙ ap (λ b. is_eq (cond b Equal Greater)) e.0, e.1)
    | inr n ↦ inr (ap (λ b. is_eq (cond b Less (cond (nat_eq k q) Equal Greater))) ge.0 ∙ ap (λ b. is_eq (cond b Equal Greater)) n.0, n.1)
  ]
]

-- a set with one number more
pub set_more : (s n : BTreeSet ℕ) (k : ℕ) → Updates nat_cmp s n k true → (a : ℕ) → IsTrue (contains nat_cmp n a) ↔ (IsTrue (contains nat_cmp s a) ⊎ (a ≡ k))
set_more s n k updates a = (to, back)
  where
    to : IsTrue (contains nat_cmp n a) → IsTrue (contains nat_cmp s a) ⊎ (a ≡ k)
    to h = elim (by_cmp k a) [
      | inl e ↦ inr (sym e.1)
      | inr other ↦ inl (ap (λ b. cond b true (contains nat_cmp s a)) (sym other.0) ∙ sym (updates.0 a) ∙ h)
    ]

    back : IsTrue (contains nat_cmp s a) ⊎ (a ≡ k) → IsTrue (contains nat_cmp n a)
    back h = elim (by_cmp k a) [
      | inl e ↦ updates.0 a ∙ ap (λ b. cond b true (contains nat_cmp s a)) e.0
      | inr other ↦ elim h [
        | inl had ↦ updates.0 a ∙ ap (λ b. cond b true (contains nat_cmp s a)) other.0 ∙ had
        | inr e ↦ absurd (other.1 (sym e))
      ]
    ]

-- one object is found; it is fresh
pub gains_one : (f : Found) (seen : BTreeSet ℕ) (k : ObjNo) → Updates nat_cmp f.seen seen k.0 true → Gains (λ a. a ≡ k.0) f (record { seen = seen; fresh = f.fresh ++ k ∷ [] })
gains_one f seen k updates = record {
  seen = set_more f.seen seen k.0 updates;
  only = λ a h. has_pushed f.fresh k a h;
  kept = λ a h. pushed_has f.fresh k a (inl h);
  listed = λ a h. elim ((set_more f.seen seen k.0 updates a).0 h) [ inl had ↦ inl had | inr e ↦ inr (pushed_has f.fresh k a (inr e)) ];
}

-- one that was found before
pub gains_same : (f : Found) (seen : BTreeSet ℕ) (k : ObjNo) → Updates nat_cmp f.seen seen k.0 true → IsTrue (contains nat_cmp f.seen k.0) → Gains (λ a. a ≡ k.0) f (record { seen = seen; fresh = f.fresh })
gains_same f seen k updates had = record {
  seen = set_more f.seen seen k.0 updates;
  only = λ a h. inl h;
  kept = λ a h. h;
  listed = λ a h. inl (elim ((set_more f.seen seen k.0 updates a).0 h) [ inl was ↦ was | inr e ↦ subst (λ i. IsTrue (contains nat_cmp f.seen i)) (sym e) had ]);
}

pub gains_pushed : (inside old : Found) (seen : BTreeSet ℕ) (fresh : List ObjNo) (k : ObjNo) → inside ≡ old → fresh ≡ inside.fresh ++ k ∷ [] → Updates nat_cmp inside.seen seen k.0 true → Gains (λ a. a ≡ k.0) old (record { seen = seen; fresh = fresh })
gains_pushed inside old seen fresh k e pushed updates =
    subst (λ f. Gains (λ a. a ≡ k.0) f (record { seen = seen; fresh = fresh })) e
    (subst (λ list. Gains (λ a. a ≡ k.0) inside (record { seen = seen; fresh = list })) (sym pushed) (gains_one inside seen k updates))

pub gains_kept : (inside old : Found) (seen : BTreeSet ℕ) (k : ObjNo) → inside ≡ old → Updates nat_cmp inside.seen seen k.0 true → IsTrue (contains nat_cmp inside.seen k.0) → Gains (λ a. a ≡ k.0) old (record { seen = seen; fresh = inside.fresh })
gains_kept inside old seen k e updates had = subst (λ f. Gains (λ a. a ≡ k.0) f (record { seen = seen; fresh = inside.fresh })) e (gains_same inside seen k updates had)

-- numbers as objects
abbrev pub objects_of : List ℕ → List ObjNo
objects_of [] = []
objects_of (x ∷ xs) = record { 0 = x } ∷ objects_of xs

has_of : (keys : List ℕ) (a : ℕ) → list_any (is_at (nat_cmp a)) keys ≡ true → HasNumber (objects_of keys) a
has_of [] a h = absurd (true≢false (sym h))
has_of (x ∷ xs) a h = elim (by_cmp a x) [
  | inl e ↦ inl (sym e.1)
  | inr other ↦ inr (has_of xs a (ap (λ b. b || list_any (is_at (nat_cmp a)) xs) (sym other.0) ∙ h))
]

of_has : (keys : List ℕ) (a : ℕ) → HasNumber (objects_of keys) a → list_any (is_at (nat_cmp a)) keys ≡ true
of_has [] a h = absurd h
of_has (x ∷ xs) a h = elim (by_cmp a x) [
  | inl e ↦ ap (λ b. b || list_any (is_at (nat_cmp a)) xs) e.0
  | inr other ↦ elim h [
    | inl e ↦ absurd (other.1 (sym e))
    | inr k ↦ ap (λ b. b || list_any (is_at (nat_cmp a)) xs) other.0 ∙ of_has xs a k
  ]
]

below_of : (x : ℕ) (ys : List ℕ) → AllByRecursion (λ y. nat_cmp x y ≡ Less) ys → AreAbove x (objects_of ys)
below_of x [] all = tt
below_of x (y ∷ ys) all = (less x y all.0, below_of x ys all.1)
  where
    less : (x y : ℕ) → nat_cmp x y ≡ Less → x < y
    less x y e = elim (leb_tells (suc x) y) [
      | inl lt ↦ lt.1
      | inr ge ↦ absurd (elim (eqb_tells x y) [
        | inl same ↦ (let f : Equal ≡ Less = sym (ap (λ b. cond b Less (cond (nat_eq x y) Equal Greater)) ge.0 ∙ ap (λ b. cond b Equal Greater) same.0) ∙ e in let never : ⊥ = cc in never)
        | inr other ↦ (let f : Greater ≡ Less = sym (ap (λ b. cond b Less (cond (nat_eq x y) Equal Greater)) ge.0 ∙ ap (λ b. cond b Equal Greater) other.0) ∙ e in let never : ⊥ = cc in never)
      ])
    ]

rising_of : (keys : List ℕ) → IsStrictlySortedBy nat_cmp keys → AreRising (objects_of keys)
unfolding IsStrictlySortedBy
rising_of [] sorted = tt
rising_of (x ∷ xs) sorted = (below_of x xs sorted.0, rising_of xs sorted.1)

pub keys_listed : (f : Found) (objects : List ObjNo) → IsStrictlySortedBy nat_cmp f.seen.keys → objects ≡ objects_of f.seen.keys → AreNumbers (IsSeen f) objects
keys_listed f objects sorted e = subst (AreNumbers (IsSeen f)) (sym e) (record { whole = λ a h. has_of f.seen.keys a h; only = λ a h. of_has f.seen.keys a h; rising = rising_of f.seen.keys sorted })

-- the first places of a list, one more
has_next : (xs : List ObjNo) (i : ℕ) (d : ObjNo) (a : ℕ) → i < length xs → HasNumber (take (suc i) xs) a ↔ (HasNumber (take i xs) a ⊎ (a ≡ (get_or xs i d).0))
has_next [] i d a lt = absurd (omega (arith, lt))
has_next (y ∷ ys) zero d a lt = ((λ h. elim h [ inl k ↦ inr (sym k) | inr k ↦ absurd k ]), (λ h. elim h [ inl k ↦ absurd k | inr k ↦ inl (sym k) ]))
has_next (y ∷ ys) (suc i) d a lt =
    let rest : HasNumber (take (suc i) ys) a ↔ (HasNumber (take i ys) a ⊎ (a ≡ (get_or ys i d).0)) = has_next ys i d a (omega (arith, lt)) in (
      (λ h. elim h [ inl k ↦ inl (inl k) | inr k ↦ either (λ j. inr j) (λ j. j) (rest.0 k) ]),
      (λ h. elim h [ inl k ↦ elim k [ inl j ↦ inl j | inr j ↦ inr (rest.1 (inl j)) ] | inr k ↦ inr (rest.1 (inr k)) ]),
    )

pub has_more : (xs : List ObjNo) (i : ℕ) (d : ObjNo) (a : ℕ) → i < length xs → HasNumber (take (i + 1) xs) a ↔ (HasNumber (take i xs) a ⊎ (a ≡ (get_or xs i d).0))
has_more xs i d a lt = let e : suc i ≡ i + 1 = omega arith in subst (λ n. HasNumber (take n xs) a ↔ (HasNumber (take i xs) a ⊎ (a ≡ (get_or xs i d).0))) e (has_next xs i d a lt)

pub has_taken : (xs : List ObjNo) (n a : ℕ) → HasNumber (take n xs) a → HasNumber xs a
has_taken [] zero a h = h
has_taken [] (suc n) a h = h
has_taken (x ∷ xs) zero a h = absurd h
has_taken (x ∷ xs) (suc n) a h = either (λ k. k) (has_taken xs n a) h

pub has_item : (xs : List ObjNo) (i : ℕ) (d : ObjNo) → i < length xs → HasNumber xs (get_or xs i d).0
has_item xs i d lt = has_taken xs (i + 1) (get_or xs i d).0 ((has_more xs i d (get_or xs i d).0 lt).1 (inr refl))

pub taken_all : (xs : List ObjNo) (n a : ℕ) → length xs ≤ n → HasNumber xs a → HasNumber (take n xs) a
taken_all [] n a le h = absurd h
taken_all (x ∷ xs) zero a le h = absurd (omega (arith, le))
taken_all (x ∷ xs) (suc n) a le h = either (λ k. k) (taken_all xs n a (omega (arith, le))) h

pub gains_item : (xs : List ObjNo) (i : ℕ) (d : ObjNo) (old mid new : Found) → i < length xs → Gains (λ a. HasNumber (take i xs) a) old mid → Gains (λ a. a ≡ (get_or xs i d).0) mid new → Gains (λ a. HasNumber (take (i + 1) xs) a) old new
gains_item xs i d old mid new lt first more = gains_then (λ a. HasNumber (take i xs) a) (λ a. a ≡ (get_or xs i d).0) (λ a. HasNumber (take (i + 1) xs) a) old mid new first more (λ a. has_more xs i d a lt)

-- what a step leads to from the first places of a list, one more; and so of the ends of edges
pub some_more : (Q : ℕ → ℕ → Type 0) (xs : List ObjNo) (i : ℕ) (d : ObjNo) (a : ℕ) → i < length xs → ((b : ℕ) × HasNumber (take (i + 1) xs) b × Q b a) ↔ (((b : ℕ) × HasNumber (take i xs) b × Q b a) ⊎ Q (get_or xs i d).0 a)
some_more Q xs i d a lt = (
  (λ h. elim ((has_more xs i d h.0 lt).0 h.1) [ inl k ↦ inl (h.0, k, h.2) | inr e ↦ inr (subst (λ b. Q b a) e h.2) ]),
  (λ h. elim h [ inl k ↦ (k.0, (has_more xs i d k.0 lt).1 (inl k.1), k.2) | inr k ↦ ((get_or xs i d).0, (has_more xs i d (get_or xs i d).0 lt).1 (inr refl), k) ]),
)

pub gains_step : (g : Graph) (xs : List ObjNo) (i : ℕ) (d : ObjNo) (old mid new : Found) → i < length xs → Gains (IsNext g (take i xs)) old mid → Gains (λ a. IsStep g (get_or xs i d).0 a) mid new → Gains (IsNext g (take (i + 1) xs)) old new
gains_step g xs i d old mid new lt first more = gains_then (IsNext g (take i xs)) (λ a. IsStep g (get_or xs i d).0 a) (IsNext g (take (i + 1) xs)) old mid new first more (λ a. some_more (IsStep g) xs i d a lt)

pub gains_ends : (g : Graph) (xs : List ObjNo) (i : ℕ) (d : ObjNo) (old mid new : Found) → i < length xs → Gains (IsEndOf g (take i xs)) old mid → Gains (λ a. HasEnd g (get_or xs i d).0 a) mid new → Gains (IsEndOf g (take (i + 1) xs)) old new
gains_ends g xs i d old mid new lt first more = gains_then (IsEndOf g (take i xs)) (λ a. HasEnd g (get_or xs i d).0 a) (IsEndOf g (take (i + 1) xs)) old mid new first more (λ a. some_more (HasEnd g) xs i d a lt)

-- at the end of a list
pub gains_all : (A : List ObjNo → ℕ → Type 0) (xs : List ObjNo) (i : ℕ) (old new : Found) → ((a : ℕ) → A xs a ↔ A (take i xs) a) → Gains (A (take i xs)) old new → Gains (A xs) old new
gains_all A xs i old new same gains = gains_as (A (take i xs)) (A xs) old new gains same

pub next_all : (g : Graph) (xs : List ObjNo) (i : ℕ) → length xs ≤ i → (a : ℕ) → IsNext g xs a ↔ IsNext g (take i xs) a
next_all g xs i le a = ((λ h. (h.0, taken_all xs i h.0 le h.1, h.2)), (λ h. (h.0, has_taken xs i h.0 h.1, h.2)))

pub ends_all : (g : Graph) (xs : List ObjNo) (i : ℕ) → length xs ≤ i → (a : ℕ) → IsEndOf g xs a ↔ IsEndOf g (take i xs) a
ends_all g xs i le a = ((λ h. (h.0, taken_all xs i h.0 le h.1, h.2)), (λ h. (h.0, has_taken xs i h.0 h.1, h.2)))

-- two ends
pub gains_two : (A : ℕ → Type 0) (s t : ℕ) (old mid new : Found) → Gains (λ a. a ≡ s) old mid → Gains (λ a. a ≡ t) mid new → ((a : ℕ) → A a ↔ ((a ≡ s) ⊎ (a ≡ t))) → Gains A old new
gains_two A s t old mid new first more same = gains_then (λ a. a ≡ s) (λ a. a ≡ t) A old mid new first more same

-- the list that a loop goes along is the one that was fresh
pub item_of : (xs ys : List ObjNo) (i : ℕ) (d : ObjNo) → xs ≡ ys → i < length xs → HasNumber ys (get_or xs i d).0
item_of xs ys i d e lt = subst (λ list. HasNumber list (get_or xs i d).0) e (has_item xs i d lt)

pub next_done : (g : Graph) (xs ys : List ObjNo) (i : ℕ) (old new : Found) → xs ≡ ys → length xs ≤ i → Gains (IsNext g (take i xs)) old new → Gains (IsNext g ys) old new
next_done g xs ys i old new e le gains = subst (λ list. Gains (IsNext g list) old new) e (gains_as (IsNext g (take i xs)) (IsNext g xs) old new gains (next_all g xs i le))

pub ends_done : (g : Graph) (xs ys : List ObjNo) (i : ℕ) (old new : Found) → xs ≡ ys → length xs ≤ i → Gains (IsEndOf g (take i xs)) (record old { fresh = [] }) new → (a : ℕ) → IsSeen new a ↔ (IsSeen old a ⊎ IsEndOf g ys a)
ends_done g xs ys i old new e le gains = subst (λ list. (a : ℕ) → IsSeen new a ↔ (IsSeen old a ⊎ IsEndOf g list a)) e (gains_as (IsEndOf g (take i xs)) (IsEndOf g xs) (record old { fresh = [] }) new gains (ends_all g xs i le)).seen

-- the ends of an edge, and of a node none
pub gains_edge : (g : Graph) (o : ℕ) (s t : ObjNo) (old mid new : Found) → Stands g o → ObjectIs g o (λ x. ends_of (Some (s, t)) ≡ x.ends) → Gains (λ a. a ≡ s.0) old mid → Gains (λ a. a ≡ t.0) mid new → Gains (λ a. HasEnd g o a) old new
gains_edge g o s t old mid new stands ends first more =
    gains_two (λ a. HasEnd g o a) s.0 t.0 old mid new first more (λ a. ((λ h. either sym sym (edge_ends g o s t ends a h)), (λ h. ends_edge g o s t stands ends a (either sym sym h))))

pub gains_node : (g : Graph) (o : ℕ) (f : Found) → ObjectIs g o (λ x. ends_of None ≡ x.ends) → Gains (λ a. HasEnd g o a) f f
gains_node g o f ends = gains_none (λ a. HasEnd g o a) f (λ a h. node_ends g o ends a h)

pub ends_edge_step : (g : Graph) (xs : List ObjNo) (i : ℕ) (d s t : ObjNo) (old mid one new now : Found) → i < length xs → Stands g (get_or xs i d).0 → ObjectIs g (get_or xs i d).0 (λ x. ends_of (Some (s, t)) ≡ x.ends) → Gains (IsEndOf g (take i xs)) old mid → Gains (λ a. a ≡ s.0) mid one → Gains (λ a. a ≡ t.0) one new → now ≡ new → Gains (IsEndOf g (take (i + 1) xs)) old now
ends_edge_step g xs i d s t old mid one new now lt stands ends was first more e =
    subst (λ f. Gains (IsEndOf g (take (i + 1) xs)) old f) (sym e) (gains_ends g xs i d old mid new lt was (gains_edge g (get_or xs i d).0 s t mid one new stands ends first more))

pub ends_node_step : (g : Graph) (xs : List ObjNo) (i : ℕ) (d : ObjNo) (old mid now : Found) → i < length xs → ObjectIs g (get_or xs i d).0 (λ x. ends_of None ≡ x.ends) → Gains (IsEndOf g (take i xs)) old mid → now ≡ mid → Gains (IsEndOf g (take (i + 1) xs)) old now
ends_node_step g xs i d old mid now lt ends was e =
    subst (λ f. Gains (IsEndOf g (take (i + 1) xs)) old f) (sym e) (gains_ends g xs i d old mid mid lt was (gains_node g (get_or xs i d).0 mid ends))

-- the list of the keys
pub keys_all : (inside old : Found) (objects : List ObjNo) (rest : List ℕ) → inside ≡ old → IsStrictlySortedBy nat_cmp inside.seen.keys → rest ≡ [] → objects ++ objects_of rest ≡ objects_of old.seen.keys → AreNumbers (IsSeen old) objects
keys_all inside old objects rest e sorted none done =
    keys_listed old objects (subst (λ (f : Found). IsStrictlySortedBy nat_cmp f.seen.keys) e sorted)
    (sym (append-nil objects) ∙ subst (λ r. objects ++ objects_of r ≡ objects_of old.seen.keys) none done)
