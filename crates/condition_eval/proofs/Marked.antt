-- What marks say of single points, and marks that are listed object by object.
use Rattle.std.proofs.Common.{◌≡◌, ◌⊎◌, inl, inr, ⊎_elim, ℕ, ◌+◌, ◌<◌, ◌≤◌, ℤ, List, [], ◌∷◌, ◌++◌, length, slice_index_or, take, refl, sym, ◌∙◌, ap, subst, arith}
use Rattle.std.proofs.lemmas.Int.{ints}
use Rattle.std.proofs.lemmas.List.{take_more, take_all}
use Rattle.itpg_base.specs.declared.object_number.ObjNo.{ObjNo}
use Rattle.itpg_base.specs.Spans.{Span, Within as IsInside}
use Rattle.itpg_base.specs.Points.{Point}
use Rattle.itpg_base.specs.Lists.{Among}
use Rattle.itpg_base.proofs.Lists.{among_append, append_first, append_second, ordered_at}
use Rattle.interval_set.specs.Runs.{AreRuns}
use Rattle.zone_core.specs.Zone.{Within, moment_reach}
use Rattle.relation_rows.specs.declared.times.OneRow.{OneRow}
use Rattle.relation_rows.specs.Relations.{Rise, IsOneOf}
use Rattle.relation_rows.specs.Resting.{AreNearTimes}
use Rattle.relation_rows.specs.Times.{TimesHold, IsOneTime, OnlyFirstHas, AreTimes}
use Rattle.relation_rows.proofs.Runs.{times_alike}
use Rattle.relation_rows.proofs.TimeLaws.{rows_of, of_rows, covers_rows, covers_among, spans_of, rows_ordered}
use Rattle.relation_rows.proofs.TimesMinus.{append_times, at_first, at_last}
use Rattle.condition_eval.specs.Marking.{IsMarked, ArePoints, AreMarks}
use Rattle.condition_eval.specs.Combined.{IsUnmarked}
use Rattle.condition_eval.specs.Walking.{HasRuns, over_spans}

-- the object at the moment
abbrev pub point : ObjNo → ℤ → Point
point o t = record { object = o.0; moment = t }

module _ (objects : List ObjNo) (Holds : Point → Type 0) (marks : List OneRow) (m : AreMarks objects Holds marks) where
  pub marked : (x : Point) → IsOneOf objects x.object → Holds x → IsMarked marks x
  marked x o h = m.whole x.object x.moment (o, h)

  pub marked_one : (x : Point) → IsMarked marks x → IsOneOf objects x.object
  marked_one x k = (m.only x.object x.moment k).0

  pub marked_holds : (x : Point) → IsMarked marks x → Holds x
  marked_holds x k = (m.only x.object x.moment k).1

-- marks of points near zero are near zero, and the other way round
pub near_marks : (Holds : Point → Type 0) (marks : List OneRow) → ((x : Point) → Holds x → Within moment_reach x.moment) → ArePoints Holds marks → AreNearTimes marks
near_marks Holds marks near m r a =
    let span = m.spans r a in (
      near (record { object = r.object.0; moment = r.span.from }) (m.only r.object.0 r.span.from (r, a, at_first r span)),
      near (record { object = r.object.0; moment = r.span.to }) (m.only r.object.0 r.span.to (r, a, at_last r span)),
    )

module _ (objects : List ObjNo) (Holds : Point → Type 0) (marks : List OneRow) where
  pub near_of : ((x : Point) → Holds x → Within moment_reach x.moment) → AreMarks objects Holds marks → AreNearTimes marks
  near_of near m = near_marks (λ x. IsOneOf objects x.object × Holds x) marks (λ x h. near x h.1) m

  pub marks_order : AreMarks objects Holds marks → IsOneTime marks
  marks_order m = record { spans = m.spans; order = m.order }

pub mark_near : (marks : List OneRow) → AreNearTimes marks → (x : Point) → IsMarked marks x → Within moment_reach x.moment
mark_near marks near x k =
    let n = near k.0 k.1 in
    let first = n.0 in
    let last = n.1 in
    let low = first.above in
    let high = last.below in
    let i = k.2 in
    let w = i.moment in
    let begun = w.begun in
    let going = w.going in
    record { above = omega (arith, ints); below = omega (arith, ints) }

pub near_within : (horizon : Span) → Within moment_reach horizon.from → Within moment_reach horizon.to → (x : Point) → IsInside x.moment horizon → Within moment_reach x.moment
near_within horizon from to x w =
    let begun = w.begun in
    let going = w.going in
    let low = from.above in
    let high = to.below in
    record { above = omega (arith, ints); below = omega (arith, ints) }

-- ---- the points that aren't marked

-- the objects over the horizon without the marks
pub turned_marks : (objects : List ObjNo) (horizon : Span) (own all first marks : List OneRow) → AreTimes (λ o t. IsOneOf objects o × IsInside t horizon) all → first ≡ all → AreTimes (OnlyFirstHas first own) marks
    → AreMarks objects (IsUnmarked horizon own) marks
turned_marks objects horizon own all first marks are e rest =
    times_alike (OnlyFirstHas all own) (λ o t. IsOneOf objects o × IsUnmarked horizon own (record { object = o; moment = t }))
    (λ o t h. let k = are.only o t h.0 in (k.0, (k.1, h.1)))
    (λ o t h. let k = h.1 in (are.whole o t (h.0, k.0), k.1))
    marks (subst (λ (v : List OneRow). AreTimes (OnlyFirstHas v own) marks) e rest)

-- ---- the object over spans

over_is : (o : ObjNo) (spans : List Span) → over_spans o spans ≡ rows_of o.0 spans
over_is o [] = refl
over_is o (s ∷ ss) = ap (λ (v : List OneRow). record { object = o; span = s } ∷ v) (over_is o ss)

pub over_times : (o : ObjNo) (S : ℤ → Type 0) (spans : List Span) → AreRuns S spans → AreTimes (λ p t. (o.0 ≡ p) × S t) (over_spans o spans)
over_times o S spans runs = subst (λ (v : List OneRow). AreTimes (λ p t. (o.0 ≡ p) × S t) v) (sym (over_is o spans)) (record {
  whole = λ p t h. subst (λ (v : ℕ). TimesHold (rows_of o.0 spans) v t) h.0 (covers_rows o.0 spans t (runs.whole t h.1));
  only = λ p t h.
      let w = of_rows o.0 spans h.0 h.1 in
      let i = h.2 in
      (sym w.0 ∙ i.object, runs.only t (covers_among spans (h.0).span t w.1 i.moment));
  spans = λ r a. spans_of spans runs.coalesced r.span (of_rows o.0 spans r a).1;
  order = rows_ordered o.0 spans runs.coalesced;
})

-- ---- object by object

module _ (Holds : Point → Type 0) (objects : List ObjNo) where
  pub no_objects : (marks : List OneRow) → marks ≡ [] → AreMarks (take 0 objects) Holds marks
  no_objects marks e = subst (λ (v : List OneRow). AreMarks (take 0 objects) Holds v) (sym e)
      (record { whole = λ o t h. absurd (none objects h.0.0 h.0.1); only = λ o t h. absurd h.1; spans = λ r a. absurd a; order = tt })
    where
      none : (xs : List ObjNo) (x : ObjNo) → Among (take 0 xs) x → ⊥
      none [] x a = a
      none (y ∷ ys) x a = a

  module _ (rise : Rise objects) (i : ℕ) (d : ObjNo) (lt : i < length objects) (marks next : List OneRow) where
    abbrev one : ObjNo
    one = slice_index_or objects i d

    more : take (i + 1) objects ≡ take i objects ++ one ∷ []
    more = take_more objects i d lt

    split : (o : ℕ) → IsOneOf (take (i + 1) objects) o → IsOneOf (take i objects) o ⊎ (one.0 ≡ o)
    split o h = ⊎_elim
        (λ a. inl (h.0, a, h.2))
        (λ a. ⊎_elim (λ (e : one ≡ h.0). inr (ap (λ (v : ObjNo). v.0) e ∙ h.2)) (λ b. absurd b) a)
        (among_append (take i objects) (one ∷ []) h.0 (subst (λ (v : List ObjNo). Among v h.0) more h.1))

    earlier : (o : ℕ) → IsOneOf (take i objects) o → IsOneOf (take (i + 1) objects) o
    earlier o h = (h.0, subst (λ (v : List ObjNo). Among v h.0) (sym more) (append_first (take i objects) (one ∷ []) h.0 h.1), h.2)

    this : (o : ℕ) → one.0 ≡ o → IsOneOf (take (i + 1) objects) o
    this o e = (one, subst (λ (v : List ObjNo). Among v one) (sym more) (append_second (take i objects) (one ∷ []) one (inl refl)), e)

    before : (o : ℕ) → IsOneOf (take i objects) o → o < one.0
    before o h =
        let lt' = ordered_at (λ (o p : ObjNo). o.0 < p.0) objects i d rise lt h.0 h.1 in
        let e = h.2 in
        omega (arith, lt', e)

    -- the next of the objects over its moments
    pub next_object : HasRuns (slice_index_or objects i d) (λ t. Holds (point (slice_index_or objects i d) t)) marks next → AreMarks (take i objects) Holds marks → AreMarks (take (i + 1) objects) Holds next
    next_object added m =
        let pieces = over_spans one added.spans in
        let times = over_times one (λ t. Holds (point one t)) added.spans added.runs in
        subst (λ (v : List OneRow). AreMarks (take (i + 1) objects) Holds v) (sym added.added)
        (append_times (λ o t. IsOneOf (take i objects) o × Holds (record { object = o; moment = t })) (λ o t. (one.0 ≡ o) × Holds (point one t))
        (λ o t. IsOneOf (take (i + 1) objects) o × Holds (record { object = o; moment = t })) marks pieces m times
        (λ r s a b.
        let h = m.only r.object.0 r.span.from (r, a, at_first r (m.spans r a)) in
        let k = times.only s.object.0 s.span.from (s, b, at_first s (times.spans s b)) in
        let l = before r.object.0 h.0 in
        let e = k.0 in
        inl (omega (arith, l, e)))
        (λ o t. (
          λ h. ⊎_elim
              (λ k. inl (k, h.1))
              (λ (e : one.0 ≡ o). inr (e, subst (λ (v : ℕ). Holds (record { object = v; moment = t })) (sym e) h.1))
              (split o h.0),
          λ h. ⊎_elim
              (λ k. (earlier o k.0, k.1))
              (λ (k : (one.0 ≡ o) × Holds (point one t)). (this o k.0, subst (λ (v : ℕ). Holds (record { object = v; moment = t })) k.0 k.1))
              h,
        )))

  pub all_objects : (i : ℕ) (marks : List OneRow) → length objects ≤ i → AreMarks (take i objects) Holds marks → AreMarks objects Holds marks
  all_objects i marks le = subst (λ (v : List ObjNo). AreMarks v Holds marks) (take_all i objects le)
