-- The order of names, and sets of labels, taken from a list by rising name.
use Rattle.std.proofs.Common.{◌≡◌, ℕ, zero, suc, ◌+◌, ◌-◌, ◌<◌, ◌≤◌, List, [], ◌∷◌, ◌++◌, ◌⊎◌, inl, inr, length, Option, Some, None, get_or, take, drop, refl, sym, ap, subst, ◌∙◌, arith}
use Rattle.std.specs.Prelude.{Contains, MatchOption, IfSome, option_map, slice_get, slice_set, replicate}
use Rattle.std.specs.Ordering.{nat_cmp, ordering_reverse}
use Rattle.std.specs.Cmp.Lexicographic.{slice_cmp, nat_list_cmp_total}
use Rattle.std.specs.FinMap.{slice_cmp-IsAntisymmetric, nat_cmp-IsAntisymmetric}
use Rattle.std.specs.declared.cmp.Ordering.{Ordering}
use Rattle.std.specs.declared.cmp.Ordering.TheVariants.{Less, Equal, Greater}
use Rattle.std.proofs.lemmas.Option.{slice_get_past, slice_get_read, slice_get_cases}
use Rattle.std.specs.Borrow.{Bor}
use Rattle.std.specs.List.{HoldsAt}
use Rattle.std.proofs.Common.{length-append}
use Rattle.std.proofs.lemmas.List.{length-set, drop-set-lt, drop-replicate, take_more_set, length-take-le}
use Rattle.std.proofs.lemmas.List.Elements.{Contains-append_left, Contains-append_right, Contains-append_cases}
use Rattle.itpg_base.specs.Words.{Word, IsBefore, IsRising, IsLabels}
use Rattle.itpg_base.specs.LabelSets.{SameNames, IsAfter, IsUnder, IsLeastAfter, IsNext}

-- the order of names
pub turned : (a b : Word) → slice_cmp nat_cmp a b ≡ Greater → IsBefore b a
turned a b e = nat_list_cmp_total.antisymm b a ∙ ap ordering_reverse e

pub before_all : (a b c : Word) → IsBefore a b → IsBefore b c → IsBefore a c
before_all a b c h k = nat_list_cmp_total.trans a b c h k

pub compared : (a b : Word) → (a ≡ b) ⊎ (IsBefore a b ⊎ IsBefore b a)
compared a b = by_order (slice_cmp nat_cmp a b) refl
  where
    by_order : (o : Ordering) → slice_cmp nat_cmp a b ≡ o → (a ≡ b) ⊎ (IsBefore a b ⊎ IsBefore b a)
    by_order Less e = inr (inl e)
    by_order Equal e = inl (slice_cmp-IsAntisymmetric nat_cmp-IsAntisymmetric a b e)
    by_order Greater e = inr (inr (turned a b e))

pub not_before_itself : (a : Word) → IsBefore a a → ⊥
not_before_itself a h = let e : Less ≡ ordering_reverse Less = sym h ∙ nat_list_cmp_total.antisymm a a ∙ ap ordering_reverse h in let never : ⊥ = cc in never

-- the names of a list with one in front
pub first : (x : Word) (xs : List Word) → Contains (x ∷ xs) x
first x xs = (0, omega arith, refl)

pub more : (name x : Word) (xs : List Word) → Contains xs name → Contains (x ∷ xs) name
more name x xs (k, below, is) = (suc k, omega (arith, below), is)

pub nothing : (name : Word) → Contains [] name → ⊥
nothing name (k, below, is) = omega (arith, below)

pub first_or_more : (name x : Word) (xs : List Word) → Contains (x ∷ xs) name → (x ≡ name) ⊎ Contains xs name
first_or_more name x xs (zero, below, is) = inl is
first_or_more name x xs (suc k, below, is) = inr (k, omega (arith, below), is)

-- what stands in a rising list behind its first name comes after it
pub behind_first : (x : Word) (xs : List Word) → IsRising (x ∷ xs) → (name : Word) → Contains xs name → IsBefore x name
behind_first x [] rising name h = absurd (nothing name h)
behind_first x (y ∷ ys) rising name h = elim (first_or_more name y ys h) [
  | inl same ↦ subst (IsBefore x) same rising.0
  | inr later ↦ before_all x y name rising.0 (behind_first y ys rising.1 name later)
]

-- a rising list whose names all stand in another has no more of them
pub no_longer : (xs ys : List Word) → IsRising xs → IsRising ys → ((name : Word) → Contains xs name → Contains ys name) → length xs ≤ length ys
no_longer [] ys rx ry within = omega arith
no_longer (x ∷ xs) [] rx ry within = absurd (nothing x (within x (first x xs)))
no_longer (x ∷ xs) (y ∷ ys) rx ry within = elim (first_or_more x y ys (within x (first x xs))) [
  | inl same ↦ let fewer = no_longer xs ys rx.1 ry.1 (λ name h. elim (first_or_more name y ys (within name (more name x xs h))) [
    | inl again ↦ absurd (not_before_itself x (subst (IsBefore x) (sym again ∙ same) (behind_first x xs rx name h)))
    | inr later ↦ later
  ]) in omega arith
  | inr later ↦ let fewer = no_longer (x ∷ xs) ys rx ry.1 (λ name h. elim (first_or_more name y ys (within name h)) [
    | inl is ↦
        let low = behind_first y ys ry x later in
        elim (first_or_more name x xs h) [
          | inl same ↦ absurd (not_before_itself y (subst (IsBefore y) (same ∙ sym is) low))
          | inr rest ↦ absurd (not_before_itself y (before_all y x y low (subst (IsBefore x) (sym is) (behind_first x xs rx name rest))))
        ]
    | inr rest ↦ rest
  ]) in omega arith
]

-- two rising lists of the same names are one list
pub rising_unique : (xs ys : List Word) → IsRising xs → IsRising ys → SameNames xs ys → xs ≡ ys
rising_unique [] [] rx ry same = refl
rising_unique [] (y ∷ ys) rx ry same = absurd (nothing y ((same y).1 (first y ys)))
rising_unique (x ∷ xs) [] rx ry same = absurd (nothing x ((same x).0 (first x xs)))
rising_unique (x ∷ xs) (y ∷ ys) rx ry same =
    let heads : x ≡ y = elim (first_or_more x y ys ((same x).0 (first x xs))) [
      | inl e ↦ sym e
      | inr later ↦ elim (first_or_more y x xs ((same y).1 (first y ys))) [
        | inl e ↦ e
        | inr too ↦ absurd (not_before_itself x (before_all x y x (behind_first x xs rx y too) (behind_first y ys ry x later)))
      ]
    ] in
    let tails : xs ≡ ys = rising_unique xs ys rx.1 ry.1 (λ name. (
      λ h. elim (first_or_more name y ys ((same name).0 (more name x xs h))) [
        | inl e ↦ absurd (not_before_itself x (subst (IsBefore x) (sym e ∙ sym heads) (behind_first x xs rx name h)))
        | inr k ↦ k
      ],
      λ h. elim (first_or_more name x xs ((same name).1 (more name y ys h))) [
        | inl e ↦ absurd (not_before_itself y (subst (IsBefore y) (sym e ∙ heads) (behind_first y ys ry name h)))
        | inr k ↦ k
      ],
    )) in
    cc

-- a rising list with a name behind all of its own
pub rising_more : (xs : List Word) (x : Word) → IsRising xs → ((name : Word) → Contains xs name → IsBefore name x) → IsRising (xs ++ x ∷ [])
rising_more [] x rising low = (tt, tt)
rising_more (y ∷ []) x rising low = (low y (first y []), (tt, tt))
rising_more (y ∷ z ∷ zs) x rising low = (rising.0, rising_more (z ∷ zs) x rising.1 (λ name h. low name (more name y (z ∷ zs) h)))

-- what was taken of the labels so far: by rising name exactly those that don't come after the last
pub record AreTaken (labels : List Word) (last : Option Word) (taken : List Word) : Type 0 where
  pub rising : IsRising taken
  pub only : (name : Word) → Contains taken name → Contains labels name × (¬ IsAfter last name)
  pub whole : (name : Word) → Contains labels name → (¬ IsAfter last name) → Contains taken name

pub none_taken : (labels : List Word) → AreTaken labels None []
none_taken labels = record { rising = tt; only = λ name h. absurd (nothing name h); whole = λ name h not. absurd (not tt) }

-- what doesn't come after the last comes before what does
before_next : (last : Option Word) (name next : Word) → (¬ IsAfter last name) → IsAfter last next → IsBefore name next
before_next None name next not after = absurd (not tt)
before_next (Some l) name next not after = elim (compared l name) [
  | inl same ↦ subst (λ w. IsBefore w next) same after
  | inr apart ↦ elim apart [ inl below ↦ absurd (not below) | inr above ↦ before_all name l next above after ]
]

is_after : (last : Option Word) (name : Word) → IsAfter last name ⊎ (¬ IsAfter last name)
is_after None name = inl tt
is_after (Some l) name = elim (compared l name) [
  | inl same ↦ inr (λ h. not_before_itself l (subst (IsBefore l) (sym same) h))
  | inr apart ↦ elim apart [ inl below ↦ inl below | inr above ↦ inr (λ h. not_before_itself l (before_all l name l h above)) ]
]

pub one_taken : (labels : List Word) (last : Option Word) (taken : List Word) (next : Word) → AreTaken labels last taken → IsLeastAfter labels last next → AreTaken labels (Some next) (taken ++ next ∷ [])
one_taken labels last taken next are is = record {
  rising = rising_more taken next are.rising low;
  only = λ name h. elim (Contains-append_cases taken (next ∷ []) name h) [
    | inl old ↦ ((are.only name old).0, λ k. not_before_itself next (before_all next name next k (low name old)))
    | inr new ↦ elim (first_or_more name next [] new) [
      | inl same ↦ (subst (Contains labels) same is.has, λ k. not_before_itself next (subst (IsBefore next) (sym same) k))
      | inr none ↦ absurd (nothing name none)
    ]
  ];
  whole = λ name h not. elim (is_after last name) [
    | inl after ↦ elim (compared name next) [
      | inl same ↦ Contains-append_right taken (next ∷ []) name (subst (Contains (next ∷ [])) (sym same) (first next []))
      | inr apart ↦ elim apart [ inl below ↦ absurd (is.least name h after below) | inr above ↦ absurd (not above) ]
    ]
    | inr before ↦ Contains-append_left taken (next ∷ []) name (are.whole name h before)
  ];
}
  where
    low : (name : Word) → Contains taken name → IsBefore name next
    low name h = before_next last name next (are.only name h).1 is.after

-- none is left, so all are taken
pub all_taken : (labels : List Word) (last : Option Word) (taken : List Word) → AreTaken labels last taken → IsNext labels last None → SameNames labels taken
all_taken labels last taken are none = λ name. (λ h. are.whole name h (none name h), λ h. (are.only name h).0)

-- where one is left, a set of these labels has more than were taken
pub more_than : (labels set : List Word) (last : Option Word) (taken : List Word) (next : Word) → AreTaken labels last taken → IsLeastAfter labels last next → IsRising set → SameNames labels set → length (taken ++ next ∷ []) ≤ length set
more_than labels set last taken next are is rising same =
    let now = one_taken labels last taken next are is in
    no_longer (taken ++ next ∷ []) set now.rising rising (λ name h. (same name).0 (now.only name h).0)

-- labels of which none is taken and none is left have no set
pub no_set : (labels set : List Word) → SameNames labels [] → SameNames labels set → 0 < length set → ⊥
no_set labels [] empty same some = omega (arith, some)
no_set labels (x ∷ rest) empty same some = nothing x ((empty x).0 ((same x).1 (first x rest)))

-- the block of names so far: those taken, and behind them empty names; and the place of the next
pub record AreBlock (labels : List Word) (names : List Word) (count place : ℕ) : Type 0 where
  pub block : length names ≡ 8
  pub few : count ≤ 8
  pub empty : drop count names ≡ replicate (8 - count) []
  pub last : Option Word
  pub taken : AreTaken labels last (take count names)
  pub next : IsNext labels last (slice_get labels place)

-- the least of the labels looked at so far, and one more of them
pub one_nearer : (front : List Word) (last next : Option Word) (label : Word) → IsNext front last next → IsAfter last label → IsUnder label next → IsNext (front ++ label ∷ []) last (Some label)
one_nearer front last None label is after under = record {
  has = Contains-append_right front (label ∷ []) label (first label []);
  after = after;
  least = λ name h far below. elim (Contains-append_cases front (label ∷ []) name h) [
    | inl old ↦ is name old far
    | inr new ↦ elim (first_or_more name label [] new) [ inl same ↦ not_before_itself label (subst (λ w. IsBefore w label) (sym same) below) | inr none ↦ nothing name none ]
  ];
}
one_nearer front last (Some n) label is after under = record {
  has = Contains-append_right front (label ∷ []) label (first label []);
  after = after;
  least = λ name h far below. elim (Contains-append_cases front (label ∷ []) name h) [
    | inl old ↦ is.least name old far (before_all name label n below under)
    | inr new ↦ elim (first_or_more name label [] new) [ inl same ↦ not_before_itself label (subst (λ w. IsBefore w label) (sym same) below) | inr none ↦ nothing name none ]
  ];
}

pub one_passed : (front : List Word) (last next : Option Word) (label : Word) → IsNext front last next → (IsAfter last label → IsUnder label next → ⊥) → IsNext (front ++ label ∷ []) last next
one_passed front last None label is out = λ name h far. elim (Contains-append_cases front (label ∷ []) name h) [
  | inl old ↦ is name old far
  | inr new ↦ elim (first_or_more name label [] new) [ inl same ↦ out (subst (IsAfter last) (sym same) far) tt | inr none ↦ nothing name none ]
]
one_passed front last (Some n) label is out = record {
  has = Contains-append_left front (label ∷ []) n is.has;
  after = is.after;
  least = λ name h far below. elim (Contains-append_cases front (label ∷ []) name h) [
    | inl old ↦ is.least name old far below
    | inr new ↦ elim (first_or_more name label [] new) [ inl same ↦ out (subst (IsAfter last) (sym same) far) (subst (λ w. IsBefore w n) (sym same) below) | inr none ↦ nothing name none ]
  ];
}

pub none_looked_at : (labels : List Word) (last : Option Word) (next : ℕ) → length labels ≤ next → IsNext [] last (slice_get labels next)
none_looked_at labels last next past = subst (IsNext [] last) (sym (slice_get_past labels next past)) (λ name h far. nothing name h)

-- the block of names at first, and with one more
pub no_block : (labels names : List Word) (place : ℕ) → names ≡ replicate 8 [] → IsNext labels None (slice_get labels place) → AreBlock labels names 0 place
no_block labels names place are next = record {
  block = ap length are;
  few = omega arith;
  empty = are;
  last = None;
  taken = none_taken labels;
  next = next;
}

next_there : (labels : List Word) (last : Option Word) (place : ℕ) (label : Word) → slice_get labels place ≡ Some label → IsNext labels last (slice_get labels place) → IsLeastAfter labels last label
next_there labels last place label at is = subst (IsNext labels last) at is

drop_one : (xs : List Word) (k : ℕ) → drop (suc k) xs ≡ drop 1 (drop k xs)
drop_one [] zero = refl
drop_one [] (suc k) = refl
drop_one (x ∷ xs) zero = refl
drop_one (x ∷ xs) (suc k) = drop_one xs k

pub label_at : (xs : List Word) (i : ℕ) → i < length xs → (x : Word) × (slice_get xs i ≡ Some x)
label_at xs i lt = elim (slice_get_cases xs i).1 [ inl h ↦ (h.0, h.2) | inr past ↦ let far = past.0 in absurd (omega arith) ]

pub more_block : (labels names : List Word) (count place then : ℕ) (label : Word) → AreBlock labels names count place → count < 8 → slice_get labels place ≡ Some label → IsNext labels (Some label) (slice_get labels then)
    → AreBlock labels (slice_set names count label) (count + 1) then
more_block labels names count place then label are room at next = record {
  block = length-set names count label ∙ are.block;
  few = omega arith;
  empty = drop-set-lt (count + 1) names count label (omega arith) ∙ behind names count are.empty;
  last = Some label;
  taken = subst (AreTaken labels (Some label)) (sym (take_more_set names count label (subst (λ n. count < n) (sym are.block) room))) (one_taken labels are.last (take count names) label are.taken (next_there labels are.last place label at are.next));
  next = next;
}
  where
    behind : (xs : List Word) (k : ℕ) → drop k xs ≡ replicate (8 - k) [] → drop (k + 1) xs ≡ replicate (8 - (k + 1)) []
    behind xs k e = (let next : k + 1 ≡ suc k = omega arith in ap (λ n. drop n xs) next) ∙ drop_one xs k ∙ ap (drop 1) e ∙ drop-replicate 1 (8 - k) [] ∙ ap (λ n. replicate n []) (omega arith)

-- a ninth label is left
pub too_many : (labels names : List Word) (place : ℕ) (label : Word) (set : List Word) → AreBlock labels names 8 place → slice_get labels place ≡ Some label → IsLabels set → SameNames labels set → ⊥
too_many labels names place label set are at is same =
    let long = more_than labels set are.last (take 8 names) label are.taken (next_there labels are.last place label at are.next) is.rising same in
    let count : length (take 8 names ++ label ∷ []) ≡ 9 = length-append (take 8 names) (label ∷ []) ∙ ap (λ k. k + 1) (length-take-le 8 names (subst (λ n. 8 ≤ n) (sym are.block) (omega arith))) in
    let few = is.few in
    omega (arith, long, count, few)

-- none is left
pub taken_all : (labels names : List Word) (count place : ℕ) → AreBlock labels names count place → length labels ≤ place → SameNames labels (take count names)
taken_all labels names count place are past = all_taken labels are.last (take count names) are.taken (subst (IsNext labels are.last) (slice_get_past labels place past) are.next)

pub taken_none : (labels names : List Word) (place : ℕ) (set : List Word) → AreBlock labels names 0 place → length labels ≤ place → IsLabels set → SameNames labels set → ⊥
taken_none labels names place set are past is same = no_set labels set (taken_all labels names 0 place are past) same is.some

-- a label that is read by its place
pub same_get : (xs : List Word) (i : ℕ) (r : Option (Bor Word)) → IfSome r (λ x. x.now ≡ get_or xs i x.now) → MatchOption r (length xs ≤ i) (λ x. (i < length xs) × HoldsAt (λ (y : Word). x.now ≡ y) xs i) → option_map (λ x. x.now) r ≡ slice_get xs i
same_get xs i None is cases = sym (slice_get_past xs i cases)
same_get xs i (Some x) is cases = sym (slice_get_read xs (length xs) i x.now refl cases.0 is)
