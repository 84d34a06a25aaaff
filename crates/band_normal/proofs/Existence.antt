-- A decided relation within bounds has a normal list: its runs are listed departure by departure, and joined to rows.
use Rattle.std.proofs.Common.{◌≡◌, ◌⊎◌, inl, inr, ⊎_elim, ℕ, zero, suc, ◌+◌, ℤ, pos, ◌+ℤ◌, ◌-ℤ◌, ◌≤ℤ◌, ◌<ℤ◌, List, [], ◌∷◌, ◌++◌, Option, None, Some, refl, sym, ◌∙◌, ap, subst, arith, append_assoc, append-nil}
use Rattle.std.specs.Option.{option_to_list}
use Rattle.std.proofs.lemmas.Int.{ints, by_lt_z}
use borrow.Author.Differences.{up, down}
use Rattle.itpg_base.specs.Decided.{Decided}
use Rattle.itpg_base.proofs.Searches.{both, either, as_well, same_moment}
use Rattle.band_normal.specs.declared.band.End.{End}
use Rattle.band_normal.specs.declared.band.End.TheVariants.{Fixed, Moving}
use Rattle.band_normal.specs.declared.band.Band.{Band}
use Rattle.band_normal.specs.declared.strips.Stretch.{Stretch}
use Rattle.band_normal.specs.declared.strips.Ends.{Ends}
use Rattle.itpg_base.specs.Lists.{Among, Ordered}
use Rattle.band_normal.specs.Bands.{end_at, IsFixed, InBand}
use Rattle.band_normal.specs.Normal.{IsRun, Steps, IsRow, IsBefore, Normal, LiesWithin, IsStrip}
use Rattle.band_normal.specs.Strips.{InEnds, HaveGap, AreRuns}
use Rattle.band_normal.specs.Rows.{strip, Continues, IsRowTo, AreApart, IsAlone, IsGrown, IsJoint, IsTaken, AreRowsTo, AreAll}
use Rattle.itpg_base.proofs.Lists.{among_append, append_first, append_second, append_ordered, ordered_across, ordered_either}
use Rattle.band_normal.proofs.Prolonging.{first_joint, closed_joint, whole_joint}
use Rattle.band_normal.proofs.Joining.{AreJoining, taken_among, joining_start, joining_step, joining_end}
use Rattle.band_normal.proofs.Sorting.{row_start, rows_all, before-trans}

-- one departure
abbrev one : ℤ → Stretch
one p = record { from = p; to = p }

-- the ends of one run
abbrev ends : ℤ → ℤ → Ends
ends l h = record { low = Fixed l; high = Fixed h }

module _ (R : ℤ → ℤ → Type 0) where
  -- the runs at p below the arrival u
  record AreListed (p u : ℤ) (runs : List Ends) : Type 0 where
    each : (e : Ends) → Among runs e → IsRun R p (end_at e.low p) (end_at e.high p)
    fixed : (e : Ends) → Among runs e → (l : ℤ) × (h : ℤ) × (e ≡ ends l h)
    whole : (v : ℤ) → R p v → v <ℤ u → (e : Ends) × Among runs e × InEnds e p v
    order : Ordered (HaveGap (one p)) runs
    early : (e : Ends) → Among runs e → end_at e.high p ≤ℤ (u -ℤ pos 2)

  only : {X : Type 0} (x y : X) → Among (x ∷ []) y → x ≡ y
  only x y (inl e) = e
  only x y (inr k) = absurd k

  add_run : (p l h : ℤ) (runs : List Ends) → AreListed p l runs → IsRun R p l h → AreListed p (h +ℤ pos 2) (runs ++ ends l h ∷ [])
  add_run p l h runs w run = record {
    each = λ e i. ⊎_elim (λ k. w.each e k) (λ k. subst (λ (v : Ends). IsRun R p (end_at v.low p) (end_at v.high p)) (only (ends l h) e k) run) (among_append runs (ends l h ∷ []) e i);
    fixed = λ e i. ⊎_elim (λ k. w.fixed e k) (λ k. (l, h, sym (only (ends l h) e k))) (among_append runs (ends l h ∷ []) e i);
    whole = λ v r lt. by_lt_z v l
        (λ less. let k = w.whole v r less in (k.0, append_first runs (ends l h ∷ []) k.0 k.1, k.2))
        (λ ge. by_lt_z h v
        (λ gt. absurd (run.above (subst (λ (z : ℤ). R p z) (let e : v ≡ h +ℤ pos 1 = omega (arith, ints) in e) r)))
        (λ le. (ends l h, append_second runs (ends l h ∷ []) (ends l h) (inl refl), record { low = ge; high = le })));
    order = append_ordered (HaveGap (one p)) runs (ends l h ∷ []) w.order (λ y i. absurd i, tt)
        (λ x y i k. subst (λ (v : Ends). HaveGap (one p) x v) (only (ends l h) y k) (record {
          at = λ t a b. let here : p ≡ t = omega (arith, ints) in let e = ap (end_at x.high) here in let m = w.early x i in omega (arith, ints);
        }));
    early = λ e i. ⊎_elim
        (λ k. let m = w.early e k in let some = run.some in omega (arith, ints))
        (λ k. subst (λ (v : Ends). end_at v.high p ≤ℤ ((h +ℤ pos 2) -ℤ pos 2)) (only (ends l h) e k) (omega (arith, ints)))
        (among_append runs (ends l h ∷ []) e i);
  }

  skip : (p u : ℤ) (runs : List Ends) → ¬ R p u → AreListed p u runs → AreListed p (u +ℤ pos 1) runs
  skip p u runs none w = record {
    each = w.each;
    fixed = w.fixed;
    whole = λ v r lt. by_lt_z v u (λ less. w.whole v r less) (λ ge. absurd (none (subst (λ (z : ℤ). R p z) (let e : v ≡ u = omega (arith, ints) in e) r)));
    order = w.order;
    early = λ e i. let m = w.early e i in omega (arith, ints);
  }

  module _ (low high : ℤ) (lies : LiesWithin low high R) (decide : (t u : ℤ) → Decided (R t u)) where
    -- the run that begins at l and has come to u
    run_end : (n : ℕ) (p l u : ℤ) → high <ℤ (u +ℤ pos n) → l ≤ℤ u → ((v : ℤ) → l ≤ℤ v → v ≤ℤ u → R p v) → ¬ R p (l -ℤ pos 1) → (h : ℤ) × IsRun R p l h
    run_end zero p l u far le each below = absurd (let m = lies.last p u (each u le (omega (arith, ints))) in omega (arith, ints))
    run_end (suc n) p l u far le each below = elim (decide p (u +ℤ pos 1)) [
      | inl more ↦ run_end n p l (u +ℤ pos 1) (omega (arith, ints)) (omega (arith, ints))
          (λ v a b. by_lt_z u v (λ lt. let at : u +ℤ pos 1 ≡ v = omega (arith, ints) in subst (λ (z : ℤ). R p z) at more) (λ ge. each v a ge)) below
      | inr none ↦ (u, record { some = le; each = each; below = below; above = none })
    ]

    list_from : (n : ℕ) (p u : ℤ) (runs : List Ends) → high <ℤ (u +ℤ pos n) → ¬ R p (u -ℤ pos 1) → AreListed p u runs → (v : ℤ) × (all : List Ends) × (high <ℤ v) × AreListed p v all
    list_from zero p u runs far none w = (u, runs, omega (arith, ints), w)
    list_from (suc n) p u runs far none w = elim (decide p u) [
      | inl here ↦
          (let r = run_end (suc n) p u u far (omega (arith, ints)) (λ v a b. let at : u ≡ v = omega (arith, ints) in subst (λ (z : ℤ). R p z) at here) none in
          let some = (r.1).some in
          list_from n p (r.0 +ℤ pos 2) (runs ++ ends u r.0 ∷ []) (omega (arith, ints)) (λ q. (r.1).above (subst (λ (z : ℤ). R p z) (let at : (r.0 +ℤ pos 2) -ℤ pos 1 ≡ r.0 +ℤ pos 1 = omega (arith, ints) in at) q)) (add_run p u r.0 runs w r.1))
      | inr not ↦ list_from n p (u +ℤ pos 1) runs (omega (arith, ints)) (λ q. not (subst (λ (z : ℤ). R p z) (let at : (u +ℤ pos 1) -ℤ pos 1 ≡ u = omega (arith, ints) in at) q)) (skip p u runs not w)
    ]

    -- the runs at one departure
    runs_at : (p : ℤ) → (runs : List Ends) × AreRuns R (one p) runs × ((e : Ends) → Among runs e → (l : ℤ) × (h : ℤ) × (e ≡ ends l h))
    runs_at p =
        let w = list_from (suc (up high + down low)) p low [] (omega (arith, ints)) (λ q. let m = lies.first p (low -ℤ pos 1) q in omega (arith, ints)) (record {
          each = λ e i. absurd i;
          fixed = λ e i. absurd i;
          whole = λ v r lt. absurd (let m = lies.first p v r in omega (arith, ints));
          order = tt;
          early = λ e i. absurd i;
        }) in (
          w.1,
          record {
            each = λ e i t a b. let here : p ≡ t = omega (arith, ints) in subst (λ (v : ℤ). IsRun R v (end_at e.low v) (end_at e.high v)) here ((w.3).each e i);
            whole = λ t u a b r.
                let here : t ≡ p = omega (arith, ints) in
                let m = lies.last t u r in let past = w.2 in
                let k = (w.3).whole u (subst (λ (v : ℤ). R v u) here r) (omega (arith, ints)) in
                (k.0, k.1, subst (λ (v : ℤ). InEnds k.0 v u) (sym here) k.2);
            order = (w.3).order;
          },
          (w.3).fixed,
        )

  -- a row that a strip continues, taken out of the list
  steps : (x y : ℤ) → Decided (Steps x y)
  steps x y = either (same_moment y x) (same_moment y (x +ℤ pos 1))

  continues : (b s : Band) → Decided (Continues b s)
  continues b s = as_well (λ h. record { next = h.0; low = h.1.0; high = h.1.1 }) (λ c. (c.next, (c.low, c.high)))
      (both (same_moment s.from (b.to +ℤ pos 1)) (both (steps (end_at b.low b.to) (end_at s.low s.from)) (steps (end_at b.high b.to) (end_at s.high s.from))))

  record Taken (rest : List Band) (s : Band) : Type 0 where
    leader : Option Band
    left : List Band
    taken : IsTaken rest leader left
    follows : (b : Band) → Among (option_to_list leader) b → Continues b s
    none : leader ≡ None → (b : Band) → Among rest b → Continues b s → ⊥

  pass : (x : Band) (xs : List Band) (s : Band) → ¬ Continues x s → Taken xs s → Taken (x ∷ xs) s
  pass x xs s n t = record {
    leader = t.leader;
    left = x ∷ t.left;
    taken = record { front = x ∷ (t.taken).front; back = (t.taken).back; was = ap (λ (v : List Band). x ∷ v) (t.taken).was; is = ap (λ (v : List Band). x ∷ v) (t.taken).is };
    follows = t.follows;
    none = λ e b i c. ⊎_elim (λ (g : x ≡ b). n (subst (λ (v : Band). Continues v s) (sym g) c)) (λ k. t.none e b k c) i;
  }

  take_out : (rest : List Band) (s : Band) → Taken rest s
  take_out [] s = record { leader = None; left = []; taken = record { front = []; back = []; was = refl; is = refl }; follows = λ b i. absurd i; none = λ e b i c. i }
  take_out (x ∷ xs) s = elim (continues x s) [
    | inl c ↦ record {
      leader = Some x;
      left = xs;
      taken = record { front = []; back = xs; was = refl; is = refl };
      follows = λ b i. subst (λ (v : Band). Continues v s) (only x b i) c;
      none = λ e. absurd (let wrong : ⊥ = cc in wrong);
    }
    | inr n ↦ pass x xs s n (take_out xs s)
  ]

  -- an end that stands at x at t, and at v one later
  lift : (x v t : ℤ) → Steps x v → (e : End) × (end_at e t ≡ x) × (end_at e (t +ℤ pos 1) ≡ v)
  lift x v t (inl e) = (Fixed x, refl, sym e)
  lift x v t (inr e) = (Moving (x -ℤ t), omega (arith, ints), omega (arith, ints))

  grow : (row s : Band) → row.from ≤ℤ row.to → Continues row s → (longer : Band) × IsGrown row s longer
  grow row s span c = by_lt_z row.from row.to
      (λ long. (
        record { from = row.from; to = s.from; low = row.low; high = row.high },
        record {
          from = refl;
          to = refl;
          long_low = λ l. refl;
          long_high = λ l. refl;
          row_low = λ e. refl;
          row_high = λ e. refl;
          strip_low = λ e. absurd (omega (arith, ints));
          strip_high = λ e. absurd (omega (arith, ints));
        },
      ))
      (λ short.
      let low = lift (end_at row.low row.to) (end_at s.low s.from) row.to c.low in
      let high = lift (end_at row.high row.to) (end_at s.high s.from) row.to c.high in (
        record { from = row.from; to = s.from; low = low.0; high = high.0 },
        record {
          from = refl;
          to = refl;
          long_low = λ l. absurd (omega (arith, ints));
          long_high = λ l. absurd (omega (arith, ints));
          row_low = λ e. low.1;
          row_high = λ e. high.1;
          strip_low = λ e. ap (end_at low.0) c.next ∙ low.2;
          strip_high = λ e. ap (end_at high.0) c.next ∙ high.2;
        },
      ))

  joint_of : (o : Option Band) (s : Band) → IsStrip R s → s.from ≡ s.to → IsAlone s s → ((b : Band) → Among (option_to_list o) b → IsRowTo R b.to b) → ((b : Band) → Among (option_to_list o) b → Continues b s)
      → (stopped : List Band) × (goes_on : Band) × IsJoint R (option_to_list o) s stopped goes_on
  joint_of None s st single alone rows follows = ([], s, first_joint R s s st alone)
  joint_of (Some row) s st single alone rows follows =
      let r = rows row (inl refl) in
      let c = follows row (inl refl) in
      let g = grow row s r.strip.span c in
      elim (both (same_moment (end_at (g.0).low s.from) (end_at s.low s.from)) (same_moment (end_at (g.0).high s.from) (end_at s.high s.from))) [
        | inl a ↦ (
          [],
          record { from = row.from; to = s.to; low = (g.0).low; high = (g.0).high },
          whole_joint R row s g.0 r st c g.1 (record { from = row.from; to = s.to; low = (g.0).low; high = (g.0).high }) (record { low = a.0; high = a.1 }) (inl single) refl refl refl refl,
        )
        | inr n ↦ (row ∷ [], s, closed_joint R row s g.0 r st c g.1 s (λ a. n (a.low, a.high)) alone)
      ]

  record Joined (s : Stretch) (done : List Ends) : Type 0 where
    complete : List Band
    next : List Band
    rest : List Band
    is : AreJoining R s done complete next rest

  -- one run of a departure is joined
  join_one : (p : ℤ) (done : List Ends) (e : Ends) → IsStrip R (strip (one p) e) → (l : ℤ) × (h : ℤ) × (e ≡ ends l h) → ((f : Ends) → Among done f → HaveGap (one p) f e) → Joined (one p) done → Joined (one p) (done ++ e ∷ [])
  join_one p done e st fixed later j =
      let s = strip (one p) e in
      let t = take_out j.rest (strip (one p) e) in
      let alone : IsAlone (strip (one p) e) (strip (one p) e) = record {
        from = refl;
        to = refl;
        low = λ v a b. refl;
        high = λ v a b. refl;
        single_low = λ i. subst (λ (v : Ends). IsFixed v.low) (sym fixed.2) tt;
        single_high = λ i. subst (λ (v : Ends). IsFixed v.high) (sym fixed.2) tt;
      } in
      let k = joint_of t.leader (strip (one p) e) st refl alone
      (λ b i. let w = (j.is).wait b (taken_among j.rest t.left t.leader t.taken b i) in record { strip = w.strip; single_low = w.single_low; single_high = w.single_high; to = refl }) t.follows in
      record {
        complete = j.complete ++ k.0;
        next = j.next ++ k.1 ∷ [];
        rest = t.left;
        is = joining_step R (one p) done e j.complete j.next j.rest (j.complete ++ k.0) (j.next ++ k.1 ∷ []) t.left j.is st later (record {
          leader = t.leader;
          taken = t.taken;
          continues = t.follows;
          none = t.none;
          stopped = k.0;
          goes_on = k.1;
          joint = k.2;
          complete_is = refl;
          next_is = refl;
        });
      }

  join_all : (p : ℤ) (done todo : List Ends) → AreRuns R (one p) (done ++ todo) → ((e : Ends) → Among todo e → (l : ℤ) × (h : ℤ) × (e ≡ ends l h)) → Joined (one p) done → Joined (one p) (done ++ todo)
  join_all p done [] h fixed j = subst (λ (v : List Ends). Joined (one p) v) (sym (append-nil done)) j
  join_all p done (e ∷ es) h fixed j =
      subst (λ (v : List Ends). Joined (one p) v) (append_assoc done (e ∷ []) es)
      (join_all p (done ++ e ∷ []) es (subst (λ (v : List Ends). AreRuns R (one p) v) (sym (append_assoc done (e ∷ []) es)) h) (λ x i. fixed x (inr i))
      (join_one p done e (record { span = omega (arith, ints); runs = h.each e (append_second done (e ∷ es) e (inl refl)) }) (fixed e (inl refl))
      (λ f k. ordered_across (HaveGap (one p)) done (e ∷ es) h.order f e k (inl refl)) j))

  -- rows that share no pair are in order, one way or the other
  before_or_after : (x y : Band) → IsRow R x → IsRow R y → AreApart x y → IsBefore x y ⊎ IsBefore y x
  before_or_after x y rx ry apart = by_lt_z x.from y.from (λ lt. inl (inl lt)) (λ ge. by_lt_z y.from x.from (λ lt. inr (inl lt)) (λ le.
      let e : x.from ≡ y.from = omega (arith, ints) in
      by_lt_z (end_at x.low x.from) (end_at y.low y.from) (λ lt. inl (inr (e, lt))) (λ ge2. by_lt_z (end_at y.low y.from) (end_at x.low x.from) (λ lt. inr (inr (sym e, lt))) (λ le2.
      let f : end_at x.low x.from ≡ end_at y.low y.from = omega (arith, ints) in
      absurd (apart y.from (end_at y.low y.from)
      (subst (λ (v : ℤ). InBand x v (end_at y.low y.from)) e (subst (λ (v : ℤ). InBand x x.from v) f (row_start R x rx)))
      (row_start R y ry))))))

  record Put (x : Band) (ys : List Band) : Type 0 where
    rows : List Band
    order : Ordered IsBefore rows
    back : (b : Band) → Among rows b → (x ≡ b) ⊎ Among ys b
    there : (b : Band) → (x ≡ b) ⊎ Among ys b → Among rows b

  put : (x : Band) (ys : List Band) → Ordered IsBefore ys → ((y : Band) → Among ys y → IsBefore x y ⊎ IsBefore y x) → Put x ys
  put x [] o f = record { rows = x ∷ []; order = (λ y i. absurd i, tt); back = λ b i. i; there = λ b i. i }
  put x (y ∷ ys) o f = elim (f y (inl refl)) [
    | inl b ↦ record {
      rows = x ∷ y ∷ ys;
      order = (λ z i. ⊎_elim (λ (e : y ≡ z). subst (λ (v : Band). IsBefore x v) e b) (λ k. before-trans x y z b (o.0 z k)) i, o);
      back = λ z i. i;
      there = λ z i. i;
    }
    | inr a ↦ (let r = put x ys o.1 (λ z i. f z (inr i)) in record {
      rows = y ∷ r.rows;
      order = (λ z i. ⊎_elim (λ (e : x ≡ z). subst (λ (v : Band). IsBefore y v) e a) (λ k. o.0 z k) (r.back z i), r.order);
      back = λ z i. ⊎_elim (λ e. inr (inl e)) (λ k. ⊎_elim (λ e. inl e) (λ m. inr (inr m)) (r.back z k)) i;
      there = λ z i. ⊎_elim (λ e. inr (r.there z (inl e))) (λ k. ⊎_elim (λ e. inl e) (λ m. inr (r.there z (inr m))) k) i;
    })
  ]

  arranged : (xs : List Band) → ((b : Band) → Among xs b → IsRow R b) → Ordered AreApart xs → (rows : List Band) × Ordered IsBefore rows × ((b : Band) → Among rows b → Among xs b) × ((b : Band) → Among xs b → Among rows b)
  arranged [] each apart = ([], tt, λ b i. i, λ b i. i)
  arranged (x ∷ xs) each apart =
      let w = arranged xs (λ b i. each b (inr i)) apart.1 in
      let r = put x w.0 w.1 (λ y i. before_or_after x y (each x (inl refl)) (each y (inr (w.2 y i))) (apart.0 y (w.2 y i))) in (
        r.rows,
        r.order,
        λ b i. ⊎_elim (λ e. inl e) (λ k. inr (w.2 b k)) (r.back b i),
        λ b i. r.there b (⊎_elim (λ e. inl e) (λ k. inr (w.3 b k)) i),
      )

  all_normal : (xs : List Band) → AreAll R xs → (rows : List Band) × Normal R rows
  all_normal xs all =
      let w = arranged xs all.each all.apart in (
        w.0,
        record {
          whole = λ t u r. let k = all.whole t u r in (k.0, w.3 k.0 k.1, k.2);
          once = λ x y t u i j p q. ⊎_elim (λ e. e) (λ g. absurd (⊎_elim (λ a. a t u p q) (λ a. a t u q p) g)) (ordered_either AreApart xs all.apart x y (w.2 x i) (w.2 y j));
          each = λ b i. all.each b (w.2 b i);
          order = w.1;
        },
      )

  module _ (low high : ℤ) (lies : LiesWithin low high R) (decide : (t u : ℤ) → Decided (R t u)) where
    sweep : (n : ℕ) (p : ℤ) → high <ℤ (p +ℤ pos n) → (complete reaching : List Band) → AreRowsTo R p complete reaching → (q : ℤ) × (c : List Band) × (o : List Band) × (high <ℤ q) × AreRowsTo R q c o
    sweep zero p far complete reaching h = (p, complete, reaching, omega (arith, ints), h)
    sweep (suc n) p far complete reaching h =
        let w = runs_at low high lies decide p in
        let j = join_all p [] w.0 w.1 w.2 (record { complete = complete; next = []; rest = reaching; is = joining_start R (one p) complete reaching h (omega (arith, ints)) }) in
        sweep n (p +ℤ pos 1) (omega (arith, ints)) (j.complete ++ j.rest) j.next (joining_end R (one p) w.0 j.complete j.next j.rest w.1 (omega (arith, ints)) j.is)

    -- a normal list
    pub normal_exists : (rows : List Band) × Normal R rows
    normal_exists =
        let w = sweep (suc (up high + down low)) low (omega (arith, ints)) [] [] (record {
          stop = λ b i. absurd i;
          go_on = λ b i. absurd i;
          whole = λ t u r lt. absurd (let m = lies.from t u r in omega (arith, ints));
          apart = tt;
        }) in
        let past = w.3 in
        all_normal (w.1 ++ w.2) (rows_all R (w.0 -ℤ pos 1) w.1 w.2 (λ t u r. let m = lies.to t u r in omega (arith, ints))
        (subst (λ (v : ℤ). AreRowsTo R v w.1 w.2) (let e : w.0 ≡ (w.0 -ℤ pos 1) +ℤ pos 1 = omega (arith, ints) in e) w.4))
