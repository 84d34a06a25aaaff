-- What steps lead to, and what they reach.
use Rattle.std.proofs.Common.{◌≡◌, ◌↔◌, ◌⊎◌, inl, inr, ⊎_elim, ℕ, zero, suc, ◌+◌, ◌<◌, ◌≤◌, List, [], ◌∷◌, ◌++◌, length, slice_index_or, take, drop, refl, sym, ◌∙◌, ap, subst, arith, add-one, max}
use Rattle.std.proofs.lemmas.List.{take_more, take_all}
use Rattle.itpg_base.specs.Lists.{Among}
use Rattle.itpg_base.specs.Points.{Point, Relation}
use Rattle.itpg_base.specs.Spans.{IsSpan}
use Rattle.itpg_base.proofs.Lists.{among_append, append_first, append_second}
use Rattle.band_normal.specs.Bands.{IsWellFormed, end_at}
use Rattle.zone_core.proofs.Numbers.{signed}
use Rattle.relation_rows.specs.declared.rows.Row.{Row}
use Rattle.relation_rows.specs.declared.times.OneRow.{OneRow}
use Rattle.relation_rows.specs.Rows.{RowsHold}
use Rattle.relation_rows.specs.Times.{AreTimes, InTime}
use Rattle.relation_rows.proofs.Coalescing.{hold_more}
use Rattle.relation_rows.proofs.Partitions.{front_among, rest_among}
use Rattle.relation_rows.proofs.Pushing.{rows_more}
use Rattle.wide_witness.specs.Steps.{AreReached, AreSeenFrom, AreSpans, HavePoint, IsAdded, IsDepartureOf, IsPushed, LeadsFrom, Reaches, point}

-- what runs at the end of a list have, the list has
pub rest_has : (all part : List OneRow) (k : ℕ) → part ≡ drop k all → (y : Point) → HavePoint part y → HavePoint all y
rest_has all part k is y h = (h.0, rest_among all k h.0 (subst (λ (v : List OneRow). Among v h.0) is h.1), h.2)

-- what runs in the middle of the first ones of a list have, the list has
pub part_has : (all front : List OneRow) (k m n : ℕ) → front ≡ take k all → (y : Point) → HavePoint (take n (drop m front)) y → HavePoint all y
part_has all front k m n is y h =
    let a = rest_among front m h.0 (front_among (drop m front) n h.0 h.1) in
    (h.0, front_among all k h.0 (subst (λ (v : List OneRow). Among v h.0) is a), h.2)

-- before the first place nothing stands
none_read : {X : Type 0} (xs : List X) (x : X) → Among (take 0 xs) x → ⊥
none_read [] x h = h
none_read (y ∷ ys) x h = h

-- spans with one more are spans
spans_more : (runs : List OneRow) (run : OneRow) → IsSpan run.span → AreSpans runs → AreSpans (runs ++ run ∷ [])
spans_more runs run span spans r h = ⊎_elim
    (λ a. spans r a)
    (λ a. ⊎_elim (λ (e : run ≡ r). subst (λ (v : OneRow). IsSpan v.span) e span) (λ b. absurd b) a)
    (among_append runs (run ∷ []) r h)

-- what runs have, they have with others behind them
first_has : (runs others : List OneRow) (y : Point) → HavePoint runs y → HavePoint (runs ++ others) y
first_has runs others y h = (h.0, append_first runs others h.0 h.1, h.2)

-- what runs have, they have behind others
second_has : (runs others : List OneRow) (y : Point) → HavePoint others y → HavePoint (runs ++ others) y
second_has runs others y h = (h.0, append_second runs others h.0 h.1, h.2)

-- what two lists have together, one of them has
either_has : (runs others : List OneRow) (y : Point) → HavePoint (runs ++ others) y → HavePoint runs y ⊎ HavePoint others y
either_has runs others y h = ⊎_elim (λ a. inl (h.0, a, h.2)) (λ a. inr (h.0, a, h.2)) (among_append runs others h.0 h.1)

module _ (run : OneRow) (rows : List Row) (all : List OneRow) where
  -- before the first row nothing is added
  pub none_pushed : (old : List OneRow) → IsPushed run (take 0 rows) all old old
  none_pushed old = record {
    whole = λ z y i h. absurd (none_read rows h.0 h.1);
    only = λ y h. inl h;
    kept = λ y h. h;
    spans = λ s. s;
  }

  -- all rows were read
  pub all_pushed : (old new : List OneRow) (i : ℕ) → length rows ≤ i → IsPushed run (take i rows) all old new → IsPushed run rows all old new
  all_pushed old new i le so = subst (λ (v : List Row). IsPushed run v all old new) (take_all i rows le) so

  module _ (old now : List OneRow) (i : ℕ) (d : Row) (lt : i < length rows) (so : IsPushed run (take i rows) all old now) where
    -- the row doesn't lead from the run
    pub row_passed : ((y : Point) → LeadsFrom (slice_index_or rows i d) run y → HavePoint all y) → (next : List OneRow) → next ≡ now → IsPushed run (take (i + 1) rows) all old next
    row_passed had next e = subst (λ (v : List OneRow). IsPushed run (take (i + 1) rows) all old v) (sym e) (record {
      whole = λ z y m h. ⊎_elim (λ a. so.whole z y m a) (λ a. inl (had y (z, m, a))) ((rows_more rows i d lt z y).0 h);
      only = λ y h. ⊎_elim (λ a. inl a) (λ a. inr (a.0, a.1, (rows_more rows i d lt a.0 y).1 (inl a.2))) (so.only y h);
      kept = so.kept;
      spans = so.spans;
    })

    -- where the row leads is added
    pub row_pushed : (led : OneRow) → IsSpan led.span → ((y : Point) → InTime led y.object y.moment → LeadsFrom (slice_index_or rows i d) run y)
        → ((y : Point) → LeadsFrom (slice_index_or rows i d) run y → InTime led y.object y.moment)
        → (next : List OneRow) → next ≡ now ++ led ∷ [] → IsPushed run (take (i + 1) rows) all old next
    row_pushed led span only whole next e = subst (λ (v : List OneRow). IsPushed run (take (i + 1) rows) all old v) (sym e) (record {
      whole = λ z y m h. ⊎_elim
          (λ a. ⊎_elim (λ b. inl b) (λ b. inr (first_has now (led ∷ []) y b)) (so.whole z y m a))
          (λ a. inr ((hold_more now led y.object y.moment).1 (inr (whole y (z, m, a)))))
          ((rows_more rows i d lt z y).0 h);
      only = λ y h. ⊎_elim
          (λ a. ⊎_elim (λ b. inl b) (λ b. inr (b.0, b.1, (rows_more rows i d lt b.0 y).1 (inl b.2))) (so.only y a))
          (λ a. let f = only y a in inr (f.0, f.1, (rows_more rows i d lt f.0 y).1 (inr f.2)))
          ((hold_more now led y.object y.moment).0 h);
      kept = λ y h. first_has now (led ∷ []) y (so.kept y h);
      spans = λ s. spans_more now led span (so.spans s);
    })

module _ (rows : List Row) (newest all : List OneRow) where
  -- one more run is gone on from, by the rows from its object
  pub run_added : (i : ℕ) (run : OneRow) → i < length newest → run ≡ slice_index_or newest i run
      → (here : List Row) → ((r : Row) → Among here r ↔ (Among rows r × (r.source.0 ≡ run.object.0)))
      → (now next : List OneRow) → IsPushed run here all now next → IsAdded rows (take i newest) all now → IsAdded rows (take (i + 1) newest) all next
  run_added i run lt read here from now next pushed so =
      let more : take (i + 1) newest ≡ take i newest ++ run ∷ [] = take_more newest i run lt ∙ ap (λ (v : OneRow). take i newest ++ v ∷ []) (sym read) in
      subst (λ (v : List OneRow). IsAdded rows v all next) (sym more) (record {
        whole = λ y h. ⊎_elim
            (λ a. ⊎_elim (λ b. inl b) (λ b. inr (pushed.kept y b)) (so.whole y (h.0, a, h.2)))
            (λ (a : InTime run (h.0).object (h.0).moment). let r = h.2 in let f = r.2 in pushed.whole h.0 y a (r.0, (from r.0).1 (r.1, f.source ∙ sym a.object), r.2))
            ((hold_more (take i newest) run (h.0).object (h.0).moment).0 h.1);
        only = λ y h. ⊎_elim
            (λ a. let f = so.only y a in (f.0, first_has (take i newest) (run ∷ []) f.0 f.1, f.2))
            (λ a. let r = a.2 in (a.0, (hold_more (take i newest) run (a.0).object (a.0).moment).1 (inr a.1), (r.0, ((from r.0).0 r.1).0, r.2)))
            (pushed.only y h);
        spans = pushed.spans so.spans;
      })

-- a step leads from the newest to what it adds, and all of that to the next newest
pub step_reached : (rows : List Row) (from : Point) (n : ℕ) (all newest added next : List OneRow) → IsAdded rows newest all added → next ≡ all ++ added
    → AreReached (RowsHold rows) from n all newest → AreReached (RowsHold rows) from (n + 1) next added
unfolding Reaches
step_reached rows from n all newest added next so e r =
    subst (λ (v : ℕ). AreReached (RowsHold rows) from v next added) (sym (add-one n))
    (subst (λ (v : List OneRow). AreReached (RowsHold rows) from (suc n) v added) (sym e) (record {
      whole = λ y h. ⊎_elim (λ a. first_has all added y (r.whole y a)) (λ a. gone a.0 y (r.whole a.0 a.1) a.2) h;
      only = λ y h. ⊎_elim
          (λ a. inl (r.only y a))
          (λ a. let f = so.only y a in inr (f.0, r.only f.0 (r.newest_there f.0 f.1), f.2))
          (either_has all added y h);
      spans = λ s h. ⊎_elim (λ a. r.spans s a) (λ a. so.spans s a) (among_append all added s h);
      newest_there = λ y h. second_has all added y h;
      newest_spans = so.spans;
      led = λ z y h s. ⊎_elim (λ a. inl (gone z y a s)) (λ a. inr a) (either_has all added z h);
    }))
  where
    -- a step from one of them leads to one of them, or to what it adds
    gone : (z y : Point) → HavePoint all z → RowsHold rows z y → HavePoint (all ++ added) y
    gone z y h s = ⊎_elim
        (λ a. first_has all added y a)
        (λ a. ⊎_elim (λ b. first_has all added y b) (λ b. second_has all added y b) (so.whole y (z, a, s)))
        (r.led z y h s)

-- runs put in order reach what they reached
pub settled_reached : (R : Relation) (from : Point) (n : ℕ) (all newest next later : List OneRow) → AreTimes (λ o t. HavePoint all (point o t)) next → later ≡ newest
    → AreReached R from n all newest → AreReached R from n next later
settled_reached R from n all newest next later times e r = subst (λ (v : List OneRow). AreReached R from n next v) (sym e) (record {
  whole = λ y h. times.whole y.object y.moment (r.whole y h);
  only = λ y h. r.only y (times.only y.object y.moment h);
  spans = times.spans;
  newest_there = λ y h. times.whole y.object y.moment (r.newest_there y h);
  newest_spans = r.newest_spans;
  led = λ z y h s. ⊎_elim (λ a. inl (times.whole y.object y.moment a)) (λ a. inr a) (r.led z y (times.only z.object z.moment h) s);
})

-- at the start the one point is reached, by no step
pub start_reached : (R : Relation) (from : Point) (run : OneRow) → run.object.0 ≡ from.object → run.span.from ≡ from.moment → run.span.to ≡ from.moment
    → (all newest : List OneRow) → all ≡ run ∷ [] → newest ≡ run ∷ [] → AreReached R from 0 all newest
unfolding Reaches
start_reached R from run object begin end all newest is also =
    subst (λ (v : List OneRow). AreReached R from 0 v newest) (sym is)
    (subst (λ (v : List OneRow). AreReached R from 0 (run ∷ []) v) (sym also) (record {
      whole = λ y e. subst (λ (v : Point). HavePoint (run ∷ []) v) e (run, inl refl, record { object = object; moment = record { begun = omega signed; going = omega signed } });
      only = λ y h. ⊎_elim (λ (e : run ≡ h.0). same y (subst (λ (v : OneRow). InTime v y.object y.moment) (sym e) h.2)) (λ a. absurd a) h.1;
      spans = span;
      newest_there = λ y h. h;
      newest_spans = span;
      led = λ z y h s. inr h;
    }))
  where
    -- the run is a span
    span : AreSpans (run ∷ [])
    span r h = ⊎_elim (λ (e : run ≡ r). subst (λ (v : OneRow). IsSpan v.span) e (omega signed)) (λ a. absurd a) h

    -- it has no other point
    same : (y : Point) → InTime run y.object y.moment → from ≡ y
    same y h =
        let w = h.moment in
        let begun = w.begun in
        let going = w.going in
        let o : from.object ≡ y.object = sym object ∙ h.object in
        let m : from.moment ≡ y.moment = omega signed in
        λ i. record { object = o i; moment = m i }

-- so many runs are reached from where the row departs
pub seen_from : (rows : List Row) (row : Row) → Among rows row → IsWellFormed row.band → (start : OneRow) → IsDepartureOf row start → (steps : ℕ) (all newest runs : List OneRow)
    → AreReached (RowsHold rows) (point start.object.0 start.span.from) steps all newest → AreTimes (λ o t. HavePoint all (point o t)) runs → (count : ℕ) → count ≤ length runs
    → AreSeenFrom (RowsHold rows) steps start.object.0 count
seen_from rows row there formed start departs steps all newest runs r times count le =
    let then = start.span.from in
    let to = end_at row.band.low then in
    inr (
      record {
        from = point start.object.0 then;
        to = point row.target.0 to;
        leads = (row, there, record { source = sym departs.object; target = refl; pair = record { from = departs.from; to = departs.to; low = omega signed; high = formed.some then departs.from departs.to } });
        runs = runs;
        are = record { whole = λ o t h. times.whole o t (r.whole (point o t) h); only = λ o t h. r.only (point o t) (times.only o t h); spans = times.spans; order = times.order };
      },
      refl,
      le,
    )

module _ (R : Relation) (steps o : ℕ) where
  -- fewer are seen, too
  fewer_seen : (count few : ℕ) → few ≤ count → AreSeenFrom R steps o count → AreSeenFrom R steps o few
  fewer_seen count few le seen = ⊎_elim (λ (e : count ≡ 0). inl (omega (arith, e, le))) (λ s. let more = s.2 in inr (s.0, s.1, omega (arith, more, le))) seen

  -- the greater of two numbers is one of them
  greater : (a b : ℕ) → (max a b ≤ a) ⊎ (max a b ≤ b)
  greater zero b = inr (omega arith)
  greater (suc a) zero = inl (omega arith)
  greater (suc a) (suc b) = ⊎_elim (λ (l : max a b ≤ a). inl (omega (arith, l))) (λ (l : max a b ≤ b). inr (omega (arith, l))) (greater a b)

  -- the more of both are seen
  pub more_seen : (one other most : ℕ) → most ≡ max one other → AreSeenFrom R steps o one → AreSeenFrom R steps o other → AreSeenFrom R steps o most
  more_seen one other most e own also = subst (AreSeenFrom R steps o) (sym e)
      (⊎_elim (λ l. fewer_seen one (max one other) l own) (λ l. fewer_seen other (max one other) l also) (greater one other))
