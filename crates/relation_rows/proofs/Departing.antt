-- The legs that a search in a timetable finds.
use Rattle.std.proofs.Common.{◌≡◌, ◌↔◌, ◌⊎◌, inl, inr, ⊎_elim, ℕ, suc, ◌<◌, ◌/◌, ℤ, ◌≤ℤ◌, ◌<ℤ◌, List, [], ◌∷◌, ◌++◌, length, sym, ◌∙◌, subst, arith, true, false, true≢false}
use Rattle.std.proofs.lemmas.Int.{ints}
use Rattle.std.proofs.lemmas.Bool.Decides.{Decides-ltb}
use Rattle.itpg_base.specs.Lists.{Among, Ordered}
use Rattle.itpg_base.proofs.Lists.{among_append, append_first, append_second, ordered_first, ordered_second}
use Rattle.relation_rows.specs.declared.timetable.Farthest.{Farthest}
use Rattle.relation_rows.specs.declared.timetable.Leg.{Leg}
use Rattle.relation_rows.specs.Timetables.{LegUpTo, AreReached, DepartsWithin, HasFound, departs_within, departs_by, is_short_of}

within_is : (s : Leg) (o : ℕ) (first last : ℤ) → departs_within s o first last ≡ true → DepartsWithin s o first last
within_is s o first last e = record { source = grind (arith, ints, Decides-ltb); begins = grind (arith, ints, Decides-ltb); ends = grind (arith, ints, Decides-ltb) }

is_within : (s : Leg) (o : ℕ) (first last : ℤ) → DepartsWithin s o first last → departs_within s o first last ≡ true
is_within s o first last d =
    let e = d.source in
    let b = d.begins in
    let f = d.ends in
    grind (arith, ints, Decides-ltb)

is_departed : (s : Leg) (o : ℕ) (t : ℤ) → (s.row.source.0 ≡ o) → (s.row.band.from ≤ℤ t) → departs_by s o t ≡ true
is_departed s o t e l = grind (arith, ints, Decides-ltb)

departs_late : (s : Leg) (o : ℕ) (t : ℤ) → departs_by s o t ≡ false → (o < s.row.source.0) ⊎ ((s.row.source.0 ≡ o) × (t <ℤ s.row.band.from))
departs_late s o t e = grind (arith, ints, Decides-ltb)

short_is : (reach : Farthest) (o : ℕ) (t : ℤ) → is_short_of reach o t ≡ true → (reach.source.0 < o) ⊎ ((reach.source.0 ≡ o) × (reach.to <ℤ t))
short_is reach o t e = grind (arith, ints, Decides-ltb)

-- one leg
pub found_one : (leg : Leg) (o : ℕ) (first last : ℤ) → departs_within leg o first last ≡ true → (old next : List Leg) → next ≡ old ++ leg ∷ []
    → (s : Leg) → Among next s ↔ (Among old s ⊎ ((leg ≡ s) × DepartsWithin s o first last))
found_one leg o first last e old next is s = (
  λ a. ⊎_elim
      (λ b. inl b)
      (λ b. ⊎_elim (λ (g : leg ≡ s). inr (g, subst (λ (v : Leg). DepartsWithin v o first last) g (within_is leg o first last e))) (λ j. absurd j) b)
      (among_append old (leg ∷ []) s (subst (λ (v : List Leg). Among v s) is a)),
  λ h. subst (λ (v : List Leg). Among v s) (sym is) (⊎_elim (λ a. append_first old (leg ∷ []) s a) (λ a. append_second old (leg ∷ []) s (inl a.0)) h),
)

pub found_none : (leg : Leg) (o : ℕ) (first last : ℤ) → departs_within leg o first last ≡ false → (old : List Leg)
    → (s : Leg) → Among old s ↔ (Among old s ⊎ ((leg ≡ s) × DepartsWithin s o first last))
found_none leg o first last e old s = (
  λ a. inl a,
  λ h. ⊎_elim (λ a. a) (λ a. absurd (true≢false (sym (is_within leg o first last (subst (λ (v : Leg). DepartsWithin v o first last) (sym a.0) a.1)) ∙ e))) h,
)

-- no legs
pub found_nowhere : (legs : List Leg) → length legs ≡ 0 → (o : ℕ) (first last : ℤ) (old : List Leg) → HasFound legs o first last old old
found_nowhere [] e o first last old = λ s. (λ a. inl a, λ h. ⊎_elim (λ a. a) (λ a. absurd a.0) h)
found_nowhere (x ∷ xs) e o first last old = absurd (omega arith)

-- the middle leg, and the halves before and behind it
module _ (legs before behind : List Leg) (middle : Leg) (is : legs ≡ before ++ middle ∷ behind) (order : Ordered LegUpTo legs) where
  whole_order : Ordered LegUpTo (before ++ middle ∷ behind)
  whole_order = subst (λ (v : List Leg). Ordered LegUpTo v) is order

  pub before_order : Ordered LegUpTo before
  before_order = ordered_first LegUpTo before (middle ∷ behind) whole_order

  middle_order : Ordered LegUpTo (middle ∷ behind)
  middle_order = ordered_second LegUpTo before (middle ∷ behind) whole_order

  pub behind_order : Ordered LegUpTo behind
  behind_order = middle_order.1

  part : (s : Leg) → Among legs s → Among before s ⊎ ((middle ≡ s) ⊎ Among behind s)
  part s a = among_append before (middle ∷ behind) s (subst (λ (v : List Leg). Among v s) is a)

  of_before : (s : Leg) → Among before s → Among legs s
  of_before s a = subst (λ (v : List Leg). Among v s) (sym is) (append_first before (middle ∷ behind) s a)

  of_middle : (s : Leg) → (middle ≡ s) ⊎ Among behind s → Among legs s
  of_middle s a = subst (λ (v : List Leg). Among v s) (sym is) (append_second before (middle ∷ behind) s a)

  module _ (o : ℕ) (first last : ℤ) where
    -- the middle leg doesn't depart by then, nor any behind it
    pub found_before : departs_by middle o last ≡ false → (old next : List Leg) → HasFound before o first last old next → HasFound legs o first last old next
    found_before late old next h = λ s. (
      λ a. ⊎_elim (λ b. inl b) (λ b. inr (of_before s b.0, b.1)) ((h s).0 a),
      λ k. (h s).1 (⊎_elim (λ a. inl a) (λ a. inr (⊎_elim (λ b. b) (λ b. absurd (later s b a.1)) (part s a.0), a.1)) k),
    )
      where
        later : (s : Leg) → (middle ≡ s) ⊎ Among behind s → DepartsWithin s o first last → ⊥
        later s (inl e) d = true≢false (sym (is_departed s o last d.source d.begins) ∙ subst (λ (v : Leg). departs_by v o last ≡ false) e late)
        later s (inr a) d =
            let f = d.source in
            let b = d.begins in
            ⊎_elim
            (λ (l : o < middle.row.source.0). ⊎_elim (λ m. omega arith) (λ m. let g = m.0 in omega arith) (middle_order.0 s a))
            (λ (l : (middle.row.source.0 ≡ o) × (last <ℤ middle.row.band.from)).
            let k = l.1 in
            let g = l.0 in
            ⊎_elim (λ m. omega arith) (λ m. let n = m.1 in omega (arith, ints)) (middle_order.0 s a))
            (departs_late middle o last late)

    pub found_each : (old next more all : List Leg) → HasFound before o first last old next
        → ((s : Leg) → Among more s ↔ (Among next s ⊎ ((middle ≡ s) × DepartsWithin s o first last)))
        → HasFound behind o first last more all → HasFound legs o first last old all
    found_each old next more all h one k = λ s. (
      λ a. ⊎_elim
          (λ b. ⊎_elim
          (λ c. ⊎_elim (λ d. inl d) (λ d. inr (of_before s d.0, d.1)) ((h s).0 c))
          (λ c. inr (of_middle s (inl c.0), c.1))
          ((one s).0 b))
          (λ b. inr (of_middle s (inr b.0), b.1))
          ((k s).0 a),
      λ m. (k s).1 (⊎_elim
          (λ a. inl ((one s).1 (inl ((h s).1 (inl a)))))
          (λ a. ⊎_elim
          (λ b. inl ((one s).1 (inl ((h s).1 (inr (b, a.1))))))
          (λ b. ⊎_elim (λ c. inl ((one s).1 (inr (c, a.1)))) (λ c. inr (c, a.1)) b)
          (part s a.0))
          m),
    )

  module _ (half : length before ≡ length legs / 2) (reach : (depth : ℕ) → AreReached depth legs) where
    pub before_reach : (depth : ℕ) → AreReached depth before
    before_reach depth = (reach (suc depth) before behind middle is half).1

    pub behind_reach : (depth : ℕ) → AreReached depth behind
    behind_reach depth = (reach (suc depth) before behind middle is half).2

    -- none of the legs reaches so far
    pub found_short : (o : ℕ) (first last : ℤ) → is_short_of middle.reach o first ≡ true → (old : List Leg) → HasFound legs o first last old old
    found_short o first last short old = λ s. (λ a. inl a, λ h. ⊎_elim (λ a. a) (λ a. absurd (none s a.0 a.1)) h)
      where
        none : (s : Leg) → Among legs s → DepartsWithin s o first last → ⊥
        none s a d =
            let e = d.source in
            let f = d.ends in
            ⊎_elim
            (λ l. ⊎_elim (λ m. omega arith) (λ m. omega arith) (short_is middle.reach o first short))
            (λ l. let g = l.0 in let k = l.1 in ⊎_elim (λ m. omega arith) (λ m. let n = m.1 in omega (arith, ints)) (short_is middle.reach o first short))
            ((reach 1 before behind middle is half).0 s a)

-- the same list, by another name
pub found_as : (legs found those : List Leg) (o : ℕ) (first last : ℤ) → those ≡ found
    → ((s : Leg) → Among found s ↔ (Among legs s × DepartsWithin s o first last)) → (s : Leg) → Among those s ↔ (Among legs s × DepartsWithin s o first last)
found_as legs found those o first last e = subst (λ (v : List Leg). (s : Leg) → Among v s ↔ (Among legs s × DepartsWithin s o first last)) (sym e)
