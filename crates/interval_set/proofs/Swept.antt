-- What the walk along two lists has found, up to the next moment.
use Rattle.std.proofs.Common.{◌≡◌, ◌↔◌, ◌⊎◌, inl, inr, ⊎_elim, ℕ, suc, ◌<◌, ℤ, pos, negsuc, ◌+ℤ◌, ◌-ℤ◌, ◌≤ℤ◌, ◌<ℤ◌, List, [], ◌∷◌, Option, Some, None, IfSome, Bool, IsTrue, ap, arith}
use Rattle.std.specs.Int.{int_min}
use Rattle.std.proofs.lemmas.Int.{ints, clamps, by_lt_z}
use Rattle.itpg_base.specs.Spans.{Span, Within, Covers, IsCoalesced}
use Rattle.interval_set.specs.declared.sweep.Operation.{Operation}
use Rattle.interval_set.specs.declared.sweep.Operation.TheVariants.{Meet, Join, Minus}
use Rattle.interval_set.specs.Runs.{AreRuns}
use Rattle.interval_set.specs.Operations.{Keeps, EndsFrom, IsStretch, NothingBefore, earlier_of}

-- what is left of one of the two lists at a moment
pub record IsLeft (all rest : List Span) (at : ℤ) : Type 0 where
  pub coalesced : IsCoalesced rest
  pub ends : EndsFrom at rest
  pub same : (t : ℤ) → at ≤ℤ t → Covers all t ↔ Covers rest t

-- the walk has done all moments before the next one, or all moments if there is no next one
pub record IsWalking (operation : Operation) (all_own all_other own other : List Span) (at : ℤ) (done : List Span) : Type 0 where
  pub own_left : IsLeft all_own own at
  pub other_left : IsLeft all_other other at
  pub runs : AreRuns (λ t. (t <ℤ at) × Keeps operation (Covers all_own t) (Covers all_other t)) done

abbrev pub Walks : Operation → List Span → List Span → List Span → List Span → Option ℤ → List Span → Type 0
Walks operation all_own all_other own other None done = AreRuns (λ t. Keeps operation (Covers all_own t) (Covers all_other t)) done
Walks operation all_own all_other own other (Some at) done = IsWalking operation all_own all_other own other at done

-- the number, or 0 where it is negative
abbrev pub natural : ℤ → ℕ
natural (pos n) = n
natural (negsuc n) = 0

natural_falls : (a b : ℤ) → a <ℤ b → pos 0 <ℤ b → natural a < natural b
natural_falls (pos m) (pos n) lt some = omega (arith, ints)
natural_falls (negsuc m) (pos n) lt some = omega (arith, ints)
natural_falls (pos m) (negsuc n) lt some = absurd (omega (arith, ints))
natural_falls (negsuc m) (negsuc n) lt some = absurd (omega (arith, ints))

-- how far the walk can still go
abbrev pub ahead : Option ℤ → ℕ
ahead None = 0
ahead (Some at) = suc (natural (pos 9223372036854775808 -ℤ at))

-- the three operations keep no moment that is in neither set, and speak alike of sets with the same moments
pub keeps_none : (operation : Operation) (A B : Type 0) → (¬ A) → (¬ B) → Keeps operation A B → ⊥
keeps_none Meet A B a b k = a k.0
keeps_none Join A B a b k = ⊎_elim a b k
keeps_none Minus A B a b k = a k.0

pub keeps_alike : (operation : Operation) (A B C D : Type 0) → A ↔ C → B ↔ D → Keeps operation A B → Keeps operation C D
keeps_alike Meet A B C D f g k = (f.0 k.0, g.0 k.1)
keeps_alike Join A B C D f g k = ⊎_elim (λ a. inl (f.0 a)) (λ b. inr (g.0 b)) k
keeps_alike Minus A B C D f g k = (f.0 k.0, λ d. k.1 (g.1 d))

back : {A B : Type 0} → A ↔ B → B ↔ A
back f = (f.1, f.0)

-- the walk begins at the first moment of both lists
ends_first : (xs : List Span) (at : ℤ) → IsCoalesced xs → ((t : ℤ) → Covers xs t → at ≤ℤ t) → EndsFrom at xs
ends_first [] at c first = tt
ends_first (x ∷ xs) at c first = let own : x.from ≤ℤ x.to = c.0 in first x.to (inl (record { begun = own; going = omega (arith, ints) }))

nothing_yet : (operation : Operation) (own other : List Span) (at : ℤ) → ((t : ℤ) → Covers own t → at ≤ℤ t) → ((t : ℤ) → Covers other t → at ≤ℤ t) → AreRuns (λ t. (t <ℤ at) × Keeps operation (Covers own t) (Covers other t)) []
nothing_yet operation own other at first second = record {
  whole = λ t h. let early = h.0 in keeps_none operation (Covers own t) (Covers other t) (λ c. let late = first t c in omega (arith, ints)) (λ c. let late = second t c in omega (arith, ints)) h.1;
  only = λ t c. absurd c;
  coalesced = tt;
}

begins_at : (operation : Operation) (own other : List Span) (at : ℤ) → IsCoalesced own → IsCoalesced other → ((t : ℤ) → Covers own t → at ≤ℤ t) → ((t : ℤ) → Covers other t → at ≤ℤ t) → IsWalking operation own other own other at []
begins_at operation own other at c d first second = record {
  own_left = record { coalesced = c; ends = ends_first own at c first; same = λ t le. (λ h. h, λ h. h) };
  other_left = record { coalesced = d; ends = ends_first other at d second; same = λ t le. (λ h. h, λ h. h) };
  runs = nothing_yet operation own other at first second;
}

pub walk_begins : (operation : Operation) (own other : List Span) (a b : Option ℤ) → IsCoalesced own → IsCoalesced other → NothingBefore (Covers own) a → NothingBefore (Covers other) b → Walks operation own other own other (earlier_of a b) []
walk_begins operation own other None None c d none nothing = record {
  whole = λ t k. keeps_none operation (Covers own t) (Covers other t) (none t) (nothing t) k;
  only = λ t h. absurd h;
  coalesced = tt;
}
walk_begins operation own other None (Some b) c d none second = begins_at operation own other b c d (λ t h. absurd (none t h)) second
walk_begins operation own other (Some a) None c d first none = begins_at operation own other a c d first (λ t h. absurd (none t h))
walk_begins operation own other (Some a) (Some b) c d first second =
    begins_at operation own other (int_min a b) c d (λ t h. let le = first t h in omega (arith, ints, clamps)) (λ t h. let le = second t h in omega (arith, ints, clamps))

pub ends_sooner : (xs : List Span) (t u : ℤ) → u ≤ℤ t → EndsFrom t xs → EndsFrom u xs
ends_sooner [] t u le ends = tt
ends_sooner (x ∷ xs) t u le ends = omega (arith, ints)

-- the walk has done all moments up to this one
abbrev pub HasDone : Operation → List Span → List Span → ℤ → List Span → Type 0
HasDone operation all_own all_other last done = AreRuns (λ t. (t ≤ℤ last) × Keeps operation (Covers all_own t) (Covers all_other t)) done

-- along a stretch that both lists share, each has all moments or none
module _ (operation : Operation) (all_own all_other own other : List Span) (at last : ℤ) (done : List Span) (walking : IsWalking operation all_own all_other own other at done)
    (in_own in_other : Bool) (own_last other_last : ℤ) (own_stretch : IsStretch own at in_own own_last) (other_stretch : IsStretch other at in_other other_last) (is_last : last ≡ int_min own_last other_last) where
  pub stretch_ordered : at ≤ℤ last
  stretch_ordered = let a = own_stretch.some in let b = other_stretch.some in omega (arith, ints, clamps)

  pub own_ends : EndsFrom last own
  own_ends = ends_sooner own own_last last (omega (arith, ints, clamps)) own_stretch.ends

  pub other_ends : EndsFrom last other
  other_ends = ends_sooner other other_last last (omega (arith, ints, clamps)) other_stretch.ends

  -- a moment of the stretch is kept where the two answers say so
  keeps_here : (t : ℤ) → at ≤ℤ t → t ≤ℤ last → Keeps operation (IsTrue in_own) (IsTrue in_other) ↔ Keeps operation (Covers all_own t) (Covers all_other t)
  keeps_here t a b =
      let own_answer = own_stretch.same t a (omega (arith, ints, clamps)) in
      let other_answer = other_stretch.same t a (omega (arith, ints, clamps)) in
      let own_all = walking.own_left.same t a in
      let other_all = walking.other_left.same t a in
      let f : IsTrue in_own ↔ Covers all_own t = (λ h. own_all.1 (own_answer.0 h), λ h. own_answer.1 (own_all.0 h)) in
      let g : IsTrue in_other ↔ Covers all_other t = (λ h. other_all.1 (other_answer.0 h), λ h. other_answer.1 (other_all.0 h)) in (
        keeps_alike operation (IsTrue in_own) (IsTrue in_other) (Covers all_own t) (Covers all_other t) f g,
        keeps_alike operation (Covers all_own t) (Covers all_other t) (IsTrue in_own) (IsTrue in_other) (back f) (back g),
      )

  pub stretch_kept : (done' : List Span) (s : Span) → s ≡ record { from = at; to = last } → Keeps operation (IsTrue in_own) (IsTrue in_other) → AreRuns (λ t. Covers done t ⊎ Within t s) done' → HasDone operation all_own all_other last done'
  stretch_kept done' s is keeps runs =
      let from : s.from ≡ at = ap (λ (y : Span). y.from) is in
      let to : s.to ≡ last = ap (λ (y : Span). y.to) is in
      let ordered = stretch_ordered in
      record {
        whole = λ t h. let until = h.0 in by_lt_z t at
            (λ early. runs.whole t (inl (walking.runs.whole t (early, h.1))))
            (λ begun. runs.whole t (inr (record { begun = omega (arith, ints); going = omega (arith, ints) })));
        only = λ t c. ⊎_elim
            (λ d. let old = walking.runs.only t d in let early = old.0 in (omega (arith, ints), old.1))
            (λ w. let begun = w.begun in let going = w.going in
            let a : at ≤ℤ t = omega (arith, ints) in let b : t ≤ℤ last = omega (arith, ints) in (b, (keeps_here t a b).0 keeps)) (runs.only t c);
        coalesced = runs.coalesced;
      }

  pub stretch_left : (¬ Keeps operation (IsTrue in_own) (IsTrue in_other)) → HasDone operation all_own all_other last done
  stretch_left out =
      let ordered = stretch_ordered in
      record {
        whole = λ t h. let until = h.0 in by_lt_z t at (λ early. walking.runs.whole t (early, h.1)) (λ begun. absurd (out ((keeps_here t begun until).1 h.1)));
        only = λ t c. let old = walking.runs.only t c in let early = old.0 in (omega (arith, ints), old.1);
        coalesced = walking.runs.coalesced;
      }

-- what is left of a list after a moment
pub record IsRest (own : List Span) (last : ℤ) (rest : List Span) : Type 0 where
  pub coalesced : IsCoalesced rest
  pub ends : EndsFrom (last +ℤ pos 1) rest
  pub same : (t : ℤ) → last <ℤ t → Covers own t ↔ Covers rest t

-- from the end of a stretch to the next moment that one of the lists has
module _ (operation : Operation) (all_own all_other own other own' other' : List Span) (at last : ℤ) (done : List Span) (ordered : at ≤ℤ last) (has_done : HasDone operation all_own all_other last done)
    (own_left : IsLeft all_own own at) (other_left : IsLeft all_other other at) (own_rest : IsRest own last own') (other_rest : IsRest other last other') where
  all_same : (all rest rest' : List Span) → IsLeft all rest at → IsRest rest last rest' → (t : ℤ) → last <ℤ t → Covers all t ↔ Covers rest' t
  all_same all rest rest' left more t late =
      let f = left.same t (omega (arith, ints)) in
      let g = more.same t late in
      (λ h. g.0 (f.0 h), λ h. f.1 (g.1 h))

  left_at : (all rest rest' : List Span) (next : ℤ) → IsLeft all rest at → IsRest rest last rest' → last <ℤ next → ((t : ℤ) → last <ℤ t → Covers rest' t → next ≤ℤ t) → IsLeft all rest' next
  left_at all rest rest' next left more later first = record {
    coalesced = more.coalesced;
    ends = ends_next rest' more.coalesced more.ends first;
    same = λ t le. all_same all rest rest' left more t (omega (arith, ints));
  }
    where
      ends_next : (xs : List Span) → IsCoalesced xs → EndsFrom (last +ℤ pos 1) xs → ((t : ℤ) → last <ℤ t → Covers xs t → next ≤ℤ t) → EndsFrom next xs
      ends_next [] c ends first = tt
      ends_next (x ∷ xs) c ends first =
          let own_span : x.from ≤ℤ x.to = c.0 in
          first x.to (omega (arith, ints)) (inl (record { begun = own_span; going = omega (arith, ints) }))

  walk_on : (next : ℤ) → last <ℤ next → ((t : ℤ) → last <ℤ t → Covers own' t → next ≤ℤ t) → ((t : ℤ) → last <ℤ t → Covers other' t → next ≤ℤ t) → IsWalking operation all_own all_other own' other' next done
  walk_on next later first second = record {
    own_left = left_at all_own own own' next own_left own_rest later first;
    other_left = left_at all_other other other' next other_left other_rest later second;
    runs = record {
      whole = λ t h. let early = h.0 in by_lt_z last t
          (λ late. absurd (keeps_none operation (Covers all_own t) (Covers all_other t)
          (λ c. let le = first t late ((all_same all_own own own' own_left own_rest t late).0 c) in omega (arith, ints))
          (λ c. let le = second t late ((all_same all_other other other' other_left other_rest t late).0 c) in omega (arith, ints)) h.1))
          (λ until. has_done.whole t (until, h.1));
      only = λ t c. let old = has_done.only t c in let until = old.0 in (omega (arith, ints), old.1);
      coalesced = has_done.coalesced;
    };
  }

  pub walk_step : (a b : Option ℤ) → NothingBefore (λ t. (last <ℤ t) × Covers own' t) a → NothingBefore (λ t. (last <ℤ t) × Covers other' t) b → IfSome a (λ next. last <ℤ next) → IfSome b (λ next. last <ℤ next)
      → Walks operation all_own all_other own' other' (earlier_of a b) done
  walk_step None None none nothing later later' = record {
    whole = λ t k. by_lt_z last t
        (λ late. absurd (keeps_none operation (Covers all_own t) (Covers all_other t)
        (λ c. none t (late, (all_same all_own own own' own_left own_rest t late).0 c)) (λ c. nothing t (late, (all_same all_other other other' other_left other_rest t late).0 c)) k))
        (λ until. has_done.whole t (until, k));
    only = λ t c. (has_done.only t c).1;
    coalesced = has_done.coalesced;
  }
  walk_step None (Some b) none second later later' = walk_on b later' (λ t late c. absurd (none t (late, c))) (λ t late c. second t (late, c))
  walk_step (Some a) None first none later later' = walk_on a later (λ t late c. first t (late, c)) (λ t late c. absurd (none t (late, c)))
  walk_step (Some a) (Some b) first second later later' =
      walk_on (int_min a b) (omega (arith, ints, clamps)) (λ t late c. let le = first t (late, c) in omega (arith, ints, clamps)) (λ t late c. let le = second t (late, c) in omega (arith, ints, clamps))

advances : (at next : ℤ) → at <ℤ next → at <ℤ pos 9223372036854775808 → ahead (Some next) < ahead (Some at)
advances at next later bound = let fall = natural_falls (pos 9223372036854775808 -ℤ next) (pos 9223372036854775808 -ℤ at) (omega (arith, ints)) (omega (arith, ints)) in omega arith

-- each stretch comes later than the one before
pub walk_advances : (at last : ℤ) (a b : Option ℤ) → at ≤ℤ last → at <ℤ pos 9223372036854775808 → IfSome a (λ next. last <ℤ next) → IfSome b (λ next. last <ℤ next) → ahead (earlier_of a b) < ahead (Some at)
walk_advances at last None None ordered bound later later' = omega arith
walk_advances at last None (Some b) ordered bound later later' = advances at b (omega (arith, ints)) bound
walk_advances at last (Some a) None ordered bound later later' = advances at a (omega (arith, ints)) bound
walk_advances at last (Some a) (Some b) ordered bound later later' = advances at (int_min a b) (omega (arith, ints, clamps)) bound
