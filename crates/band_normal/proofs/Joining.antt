-- Rows to which the strips of a stretch are joined one by one.
use Rattle.std.proofs.Common.{◌≡◌, ◌⊎◌, inl, inr, ⊎_elim, ℕ, ◌+◌, ◌<◌, ℤ, pos, ◌+ℤ◌, ◌-ℤ◌, ◌≤ℤ◌, ◌<ℤ◌, List, [], ◌∷◌, ◌++◌, length, get_or, take, Option, None, Some, refl, sym, subst, arith}
use Rattle.std.specs.Option.{option_to_list}
use Rattle.std.proofs.lemmas.Int.{ints, by_lt_z}
use Rattle.std.proofs.lemmas.List.{take_more}
use Rattle.band_normal.specs.declared.band.Band.{Band}
use Rattle.band_normal.specs.declared.strips.Stretch.{Stretch}
use Rattle.band_normal.specs.declared.strips.Ends.{Ends}
use Rattle.itpg_base.specs.Lists.{Among, Ordered}
use Rattle.band_normal.specs.Bands.{end_at, InBand}
use Rattle.band_normal.specs.Normal.{IsRun, Steps, IsRow, IsStrip, IsInRange}
use Rattle.band_normal.specs.Strips.{Holds, HaveGap, AreRuns}
use Rattle.band_normal.specs.Rows.{strip, Continues, IsRowTo, AreApart, IsTaken, CanTake, CanFollow, TakesStrip, AreRowsTo}
use Rattle.itpg_base.proofs.Lists.{among_append, append_first, append_second, append_ordered, ordered_first, ordered_second, ordered_across, ordered_at, among_at}
use Rattle.band_normal.proofs.Unique.{same_run, continued_one}

-- three lists of rows: complete, up to the end of the stretch, and up to its beginning
abbrev pub InOne : List Band → List Band → List Band → Band → Type 0
InOne complete next rest b = Among complete b ⊎ (Among next b ⊎ Among rest b)

pub record AreJoining (R : ℤ → ℤ → Type 0) (s : Stretch) (done : List Ends) (complete next rest : List Band) : Type 0 where
  pub stop : (b : Band) → Among complete b → IsRow R b × (b.to ≤ℤ s.to)
  pub reach : (b : Band) → Among next b → IsRowTo R s.to b
  pub wait : (b : Band) → Among rest b → IsRowTo R (s.from -ℤ pos 1) b
  pub free : (b : Band) (e : Ends) → Among rest b → Among done e → Continues b (strip s e) → ⊥
  pub whole : (t u : ℤ) → R t u → (t <ℤ s.from) ⊎ ((e : Ends) × Among done e × InBand (strip s e) t u) → (b : Band) × InOne complete next rest b × InBand b t u
  pub sound : (b : Band) (t u : ℤ) → InOne complete next rest b → InBand b t u → (t <ℤ s.from) ⊎ ((e : Ends) × Among done e × InBand (strip s e) t u)
  pub apart_complete : Ordered AreApart complete
  pub apart_next : Ordered AreApart next
  pub apart_rest : Ordered AreApart rest
  pub complete_next : (x y : Band) → Among complete x → Among next y → AreApart x y
  pub complete_rest : (x y : Band) → Among complete x → Among rest y → AreApart x y
  pub next_rest : (x y : Band) → Among next x → Among rest y → AreApart x y

flip_apart : (x y : Band) → AreApart x y → AreApart y x
flip_apart x y h t u i j = h t u j i

-- what is left is among what was
rest_among : (rest rest' : List Band) (o : Option Band) → IsTaken rest o rest' → (b : Band) → Among rest' b → Among rest b
rest_among rest rest' o h b i =
    subst (λ (v : List Band). Among v b) (sym h.was)
    (⊎_elim (λ j. append_first h.front (option_to_list o ++ h.back) b j) (λ j. append_second h.front (option_to_list o ++ h.back) b (append_second (option_to_list o) h.back b j))
    (among_append h.front h.back b (subst (λ (v : List Band). Among v b) h.is i)))

pub taken_among : (rest rest' : List Band) (o : Option Band) → IsTaken rest o rest' → (b : Band) → Among (option_to_list o) b → Among rest b
taken_among rest rest' o h b i =
    subst (λ (v : List Band). Among v b) (sym h.was) (append_second h.front (option_to_list o ++ h.back) b (append_first (option_to_list o) h.back b i))

-- what was is left or was taken
among_either : (rest rest' : List Band) (o : Option Band) → IsTaken rest o rest' → (b : Band) → Among rest b → Among (option_to_list o) b ⊎ Among rest' b
among_either rest rest' o h b i = ⊎_elim
    (λ j. inr (subst (λ (v : List Band). Among v b) (sym h.is) (append_first h.front h.back b j)))
    (λ j. ⊎_elim (λ k. inl k) (λ k. inr (subst (λ (v : List Band). Among v b) (sym h.is) (append_second h.front h.back b k))) (among_append (option_to_list o) h.back b j))
    (among_append h.front (option_to_list o ++ h.back) b (subst (λ (v : List Band). Among v b) h.was i))

module _ (rest rest' : List Band) (o : Option Band) (h : IsTaken rest o rest') (apart : Ordered AreApart rest) where
  split : Ordered AreApart (h.front ++ (option_to_list o ++ h.back))
  split = subst (λ (v : List Band). Ordered AreApart v) h.was apart

  rest_apart : Ordered AreApart rest'
  rest_apart = subst (λ (v : List Band). Ordered AreApart v) (sym h.is)
      (append_ordered AreApart h.front h.back (ordered_first AreApart h.front (option_to_list o ++ h.back) split)
      (ordered_second AreApart (option_to_list o) h.back (ordered_second AreApart h.front (option_to_list o ++ h.back) split))
      (λ x y i j. ordered_across AreApart h.front (option_to_list o ++ h.back) split x y i (append_second (option_to_list o) h.back y j)))

  -- what was taken is apart from what is left
  taken_apart : (x y : Band) → Among (option_to_list o) x → Among rest' y → AreApart x y
  taken_apart x y i j = ⊎_elim
      (λ k. flip_apart y x (ordered_across AreApart h.front (option_to_list o ++ h.back) split y x k (append_first (option_to_list o) h.back x i)))
      (λ k. ordered_across AreApart (option_to_list o) h.back (ordered_second AreApart h.front (option_to_list o ++ h.back) split) x y i k)
      (among_append h.front h.back y (subst (λ (v : List Band). Among v y) h.is j))

only : {X : Type 0} (x y : X) → Among (x ∷ []) y → x ≡ y
only x y (inl e) = e
only x y (inr k) = absurd k

module _ (R : ℤ → ℤ → Type 0) (s : Stretch) where
  -- two rows that one strip continues share a pair
  share : (b c : Band) (e : Ends) → IsRowTo R (s.from -ℤ pos 1) b → IsRowTo R (s.from -ℤ pos 1) c → IsStrip R (strip s e) → Continues b (strip s e) → Continues c (strip s e) → AreApart b c → ⊥
  share b c e rb rc st cb cc apart =
      let to_b = rb.to in let to_c = rc.to in let span_b = rb.strip.span in let span_c = rc.strip.span in
      let same : b.to ≡ c.to = omega (arith, ints) in
      let last_b = rb.strip.runs b.to span_b (omega (arith, ints)) in
      let last_c = rc.strip.runs b.to (omega (arith, ints)) (omega (arith, ints)) in
      let first = st.runs s.from (omega (arith, ints)) st.span in
      let q = continued_one R b.to _ _ _ _ _ _ first.some last_b last_c cb.low cb.high
      (subst (λ (v : ℤ). Steps (end_at c.low v) (end_at e.low s.from)) (sym same) cc.low) (subst (λ (v : ℤ). Steps (end_at c.high v) (end_at e.high s.from)) (sym same) cc.high) in
      let q0 = q.0 in let q1 = q.1 in let some = last_b.some in
      apart b.to (end_at b.low b.to)
      (record { from = span_b; to = omega (arith, ints); low = omega (arith, ints); high = some })
      (record { from = omega (arith, ints); to = omega (arith, ints); low = omega (arith, ints); high = omega (arith, ints) })

  module _ (done : List Ends) (e : Ends) (complete next rest complete' next' rest' : List Band) (j : AreJoining R s done complete next rest)
      (st : IsStrip R (strip s e)) (later : (f : Ends) → Among done f → HaveGap s f e) (tk : TakesStrip R complete next rest (strip s e) complete' next' rest') where
    led : List Band
    led = option_to_list tk.leader

    -- a pair of the leader or of the strip is in no row that stays as it was
    fresh : (y : Band) → Among complete y ⊎ (Among next y ⊎ Among rest' y) → (t u : ℤ) → Holds (option_to_list tk.leader) t u ⊎ InBand (strip s e) t u → InBand y t u → ⊥
    fresh y i t u (inl h) p =
        let l = taken_among rest rest' tk.leader tk.taken h.0 h.1 in
        ⊎_elim (λ k. j.complete_rest y h.0 k l t u p h.2)
        (λ m. ⊎_elim (λ k. j.next_rest y h.0 k l t u p h.2) (λ k. taken_apart rest rest' tk.leader tk.taken j.apart_rest h.0 y h.1 k t u h.2 p) m) i
    fresh y i t u (inr h) p =
        let old : InOne complete next rest y = ⊎_elim (λ k. inl k) (λ m. inr (⊎_elim (λ k. inl k) (λ k. inr (rest_among rest rest' tk.leader tk.taken y k)) m)) i in
        ⊎_elim (λ lt. let a = h.from in omega (arith, ints))
        (λ w. let g = (later w.0 w.1).at t h.from h.to in let a = w.2.high in let b = h.low in omega (arith, ints))
        (j.sound y t u old p)

    new_pair : (x : Band) → Among tk.stopped x ⊎ (tk.goes_on ≡ x) → (t u : ℤ) → InBand x t u → Holds (option_to_list tk.leader) t u ⊎ InBand (strip s e) t u
    new_pair x i t u p = tk.joint.sound t u (⊎_elim (λ k. inl (x, k, p)) (λ (g : tk.goes_on ≡ x). inr (subst (λ (v : Band). InBand v t u) (sym g) p)) i)

    new_apart : (x y : Band) → Among tk.stopped x ⊎ (tk.goes_on ≡ x) → Among complete y ⊎ (Among next y ⊎ Among rest' y) → AreApart x y
    new_apart x y i k t u p q = fresh y k t u (new_pair x i t u p) q

    in_complete : (x : Band) → Among complete' x → Among complete x ⊎ Among tk.stopped x
    in_complete x i = among_append complete tk.stopped x (subst (λ (v : List Band). Among v x) tk.complete_is i)

    in_next : (x : Band) → Among next' x → Among next x ⊎ (tk.goes_on ≡ x)
    in_next x i = ⊎_elim (λ k. inl k) (λ k. inr (only tk.goes_on x k)) (among_append next (tk.goes_on ∷ []) x (subst (λ (v : List Band). Among v x) tk.next_is i))

    complete_in : (x : Band) → Among complete x ⊎ Among tk.stopped x → Among complete' x
    complete_in x i = subst (λ (v : List Band). Among v x) (sym tk.complete_is) (⊎_elim (λ k. append_first complete tk.stopped x k) (λ k. append_second complete tk.stopped x k) i)

    next_in : (x : Band) → Among next x ⊎ (tk.goes_on ≡ x) → Among next' x
    next_in x i = subst (λ (v : List Band). Among v x) (sym tk.next_is) (⊎_elim (λ k. append_first next (tk.goes_on ∷ []) x k) (λ k. append_second next (tk.goes_on ∷ []) x (inl k)) i)

    apart_within : Ordered AreApart (tk.stopped ++ tk.goes_on ∷ [])
    apart_within = tk.joint.apart

    made : (t u : ℤ) → Holds (option_to_list tk.leader) t u ⊎ InBand (strip s e) t u → (b : Band) × InOne complete' next' rest' b × InBand b t u
    made t u h = ⊎_elim
        (λ k. (k.0, inl (complete_in k.0 (inr k.1)), k.2))
        (λ i. (tk.goes_on, inr (inl (next_in tk.goes_on (inr refl))), i))
        (tk.joint.whole t u h)

    none_waits : (b : Band) → Among rest' b → Continues b (strip s e) → ⊥
    none_waits b i c = by_leader tk.leader refl
      where
        by_leader : (o : Option Band) → tk.leader ≡ o → ⊥
        by_leader None g = tk.none g b (rest_among rest rest' tk.leader tk.taken b i) c
        by_leader (Some l) g =
            let m : Among (option_to_list tk.leader) l = subst (λ (v : Option Band). Among (option_to_list v) l) (sym g) (inl refl) in
            share l b e (j.wait l (taken_among rest rest' tk.leader tk.taken l m)) (j.wait b (rest_among rest rest' tk.leader tk.taken b i)) st (tk.continues l m) c
            (taken_apart rest rest' tk.leader tk.taken j.apart_rest l b m i)

    pub joining_step : AreJoining R s (done ++ e ∷ []) complete' next' rest'
    joining_step = record {
      stop = λ b i. ⊎_elim (λ k. j.stop b k) (λ k. tk.joint.stops b k) (in_complete b i);
      reach = λ b i. ⊎_elim (λ k. j.reach b k) (λ (g : tk.goes_on ≡ b). subst (λ (v : Band). IsRowTo R s.to v) g tk.joint.goes_on) (in_next b i);
      wait = λ b i. j.wait b (rest_among rest rest' tk.leader tk.taken b i);
      free = λ b f i k c. ⊎_elim
          (λ m. j.free b f (rest_among rest rest' tk.leader tk.taken b i) m c)
          (λ m. none_waits b i (subst (λ (v : Ends). Continues b (strip s v)) (sym (only e f m)) c))
          (among_append done (e ∷ []) f k);
      whole = λ t u r h. ⊎_elim
          (λ lt. kept t u (j.whole t u r (inl lt)))
          (λ w. ⊎_elim
          (λ k. kept t u (j.whole t u r (inr (w.0, k, w.2))))
          (λ k. made t u (inr (subst (λ (v : Ends). InBand (strip s v) t u) (sym (only e w.0 k)) w.2)))
          (among_append done (e ∷ []) w.0 w.1)) h;
      sound = λ b t u i p. ⊎_elim
          (λ k. ⊎_elim (λ m. old t u (j.sound b t u (inl m) p)) (λ m. from_new t u (new_pair b (inl m) t u p)) (in_complete b k))
          (λ k. ⊎_elim
          (λ n. ⊎_elim (λ m. old t u (j.sound b t u (inr (inl m)) p)) (λ m. from_new t u (new_pair b (inr m) t u p)) (in_next b n))
          (λ n. old t u (j.sound b t u (inr (inr (rest_among rest rest' tk.leader tk.taken b n))) p)) k) i;
      apart_complete = subst (λ (v : List Band). Ordered AreApart v) (sym tk.complete_is)
          (append_ordered AreApart complete tk.stopped j.apart_complete (ordered_first AreApart tk.stopped (tk.goes_on ∷ []) apart_within)
          (λ x y i k. flip_apart y x (new_apart y x (inl k) (inl i))));
      apart_next = subst (λ (v : List Band). Ordered AreApart v) (sym tk.next_is)
          (append_ordered AreApart next (tk.goes_on ∷ []) j.apart_next (λ y i. absurd i, tt)
          (λ x y i k. flip_apart y x (new_apart y x (inr (only tk.goes_on y k)) (inr (inl i)))));
      apart_rest = rest_apart rest rest' tk.leader tk.taken j.apart_rest;
      complete_next = λ x y i k. ⊎_elim
          (λ m. ⊎_elim (λ n. j.complete_next x y m n) (λ n. flip_apart y x (new_apart y x (inr n) (inl m))) (in_next y k))
          (λ m. ⊎_elim (λ n. new_apart x y (inl m) (inr (inl n)))
          (λ (n : tk.goes_on ≡ y). subst (λ (v : Band). AreApart x v) n (ordered_across AreApart tk.stopped (tk.goes_on ∷ []) apart_within x tk.goes_on m (inl refl))) (in_next y k))
          (in_complete x i);
      complete_rest = λ x y i k. ⊎_elim
          (λ m. j.complete_rest x y m (rest_among rest rest' tk.leader tk.taken y k))
          (λ m. new_apart x y (inl m) (inr (inr k)))
          (in_complete x i);
      next_rest = λ x y i k. ⊎_elim
          (λ m. j.next_rest x y m (rest_among rest rest' tk.leader tk.taken y k))
          (λ m. new_apart x y (inr m) (inr (inr k)))
          (in_next x i);
    }
      where
        kept : (t u : ℤ) → (b : Band) × InOne complete next rest b × InBand b t u → (b : Band) × InOne complete' next' rest' b × InBand b t u
        kept t u w = ⊎_elim
            (λ i. (w.0, inl (complete_in w.0 (inl i)), w.2))
            (λ m. ⊎_elim
            (λ i. (w.0, inr (inl (next_in w.0 (inl i))), w.2))
            (λ i. ⊎_elim (λ k. made t u (inl (w.0, k, w.2))) (λ k. (w.0, inr (inr k), w.2)) (among_either rest rest' tk.leader tk.taken w.0 i)) m)
            w.1

        old : (t u : ℤ) → (t <ℤ s.from) ⊎ ((f : Ends) × Among done f × InBand (strip s f) t u) → (t <ℤ s.from) ⊎ ((f : Ends) × Among (done ++ e ∷ []) f × InBand (strip s f) t u)
        old t u h = ⊎_elim (λ lt. inl lt) (λ w. inr (w.0, append_first done (e ∷ []) w.0 w.1, w.2)) h

        from_new : (t u : ℤ) → Holds (option_to_list tk.leader) t u ⊎ InBand (strip s e) t u → (t <ℤ s.from) ⊎ ((f : Ends) × Among (done ++ e ∷ []) f × InBand (strip s f) t u)
        from_new t u h = ⊎_elim
            (λ w. let a = w.2.to in let b = (j.wait w.0 (taken_among rest rest' tk.leader tk.taken w.0 w.1)).to in inl (omega (arith, ints)))
            (λ i. inr (e, append_second done (e ∷ []) e (inl refl), i)) h

  -- before the first strip
  pub joining_start : (complete reaching : List Band) → AreRowsTo R s.from complete reaching → s.from ≤ℤ s.to → AreJoining R s [] complete [] reaching
  joining_start complete reaching h span = record {
    stop = λ b i. let w = h.stop b i in let lt = w.1 in (w.0, omega (arith, ints));
    reach = λ b i. absurd i;
    wait = h.go_on;
    free = λ b e i k c. k;
    whole = λ t u r k. ⊎_elim
        (λ lt. let w = h.whole t u r lt in (w.0, ⊎_elim (λ i. inl i) (λ i. inr (inr i)) (among_append complete reaching w.0 w.1), w.2))
        (λ w. absurd w.1) k;
    sound = λ b t u i p. inl (⊎_elim
        (λ k. let a = (h.stop b k).1 in let c = p.to in omega (arith, ints))
        (λ k. ⊎_elim (λ m. absurd m) (λ m. let a = (h.go_on b m).to in let c = p.to in omega (arith, ints)) k) i);
    apart_complete = ordered_first AreApart complete reaching h.apart;
    apart_next = tt;
    apart_rest = ordered_second AreApart complete reaching h.apart;
    complete_next = λ x y i k. absurd k;
    complete_rest = λ x y i k. ordered_across AreApart complete reaching h.apart x y i k;
    next_rest = λ x y i k. absurd i;
  }

  -- after the last one, the rows that no strip continued are complete
  pub joining_end : (runs : List Ends) (complete next rest : List Band) → AreRuns R s runs → s.from ≤ℤ s.to → AreJoining R s runs complete next rest → AreRowsTo R (s.to +ℤ pos 1) (complete ++ rest) next
  joining_end runs complete next rest h span j = record {
    stop = λ b i. ⊎_elim
        (λ k. let w = j.stop b k in let le = w.1 in (w.0, omega (arith, ints)))
        (λ k. (stopped b k, let a = (j.wait b k).to in omega (arith, ints)))
        (among_append complete rest b i);
    go_on = λ b i. let last : s.to ≡ (s.to +ℤ pos 1) -ℤ pos 1 = omega (arith, ints) in subst (λ (v : ℤ). IsRowTo R v b) last (j.reach b i);
    whole = λ t u r lt.
        let w = j.whole t u r (by_lt_z t s.from (λ less. inl less)
        (λ le. let e = h.whole t u le (omega (arith, ints)) r in let x = e.2 in inr (e.0, e.1, record { from = le; to = omega (arith, ints); low = x.low; high = x.high }))) in (
          w.0,
          ⊎_elim
              (λ i. append_first (complete ++ rest) next w.0 (append_first complete rest w.0 i))
              (λ k. ⊎_elim (λ i. append_second (complete ++ rest) next w.0 i) (λ i. append_first (complete ++ rest) next w.0 (append_second complete rest w.0 i)) k) w.1,
          w.2,
        );
    apart = append_ordered AreApart (complete ++ rest) next (append_ordered AreApart complete rest j.apart_complete j.apart_rest j.complete_rest) j.apart_next
        (λ x y i k. ⊎_elim (λ m. j.complete_next x y m k) (λ m. flip_apart y x (j.next_rest y x k m)) (among_append complete rest x i));
  }
    where
      stopped : (b : Band) → Among rest b → IsRow R b
      stopped b i =
          let w = j.wait b i in let last = w.to in
          let next_is : s.from ≡ b.to +ℤ pos 1 = omega (arith, ints) in
          record {
            span = w.strip.span;
            runs = w.strip.runs;
            single_low = w.single_low;
            single_high = w.single_high;
            stops = λ l u run sl sh. absurd
                (let r : IsRun R s.from l u = subst (λ (v : ℤ). IsRun R v l u) (sym next_is) run in
                let e = h.whole s.from l (omega (arith, ints)) span (r.each l (omega (arith, ints)) r.some) in
                let x = e.2 in let low = x.low in let high = x.high in let some = r.some in
                let q = same_run R s.from _ _ _ _ (h.each e.0 e.1 s.from (omega (arith, ints)) span) r (omega (arith, ints)) (omega (arith, ints)) in
                j.free b e.0 i e.1 (record {
                  next = next_is;
                  low = subst (λ (v : ℤ). Steps (end_at b.low b.to) v) (sym q.0) sl;
                  high = subst (λ (v : ℤ). Steps (end_at b.high b.to) v) (sym q.1) sh;
                }));
          }

  -- one strip more, by its place
  pub joining_more : (runs : List Ends) (i : ℕ) (d : Ends) (complete next rest complete' next' rest' : List Band) → AreRuns R s runs → s.from ≤ℤ s.to → i < length runs
      → AreJoining R s (take i runs) complete next rest → TakesStrip R complete next rest (strip s (get_or runs i d)) complete' next' rest' → AreJoining R s (take (i + 1) runs) complete' next' rest'
  joining_more runs i d complete next rest complete' next' rest' h span lt j tk =
      let P : List Ends → Type 0 = λ v. AreJoining R s v complete' next' rest' in
      subst P (sym (take_more runs i d lt)) (joining_step (take i runs) (get_or runs i d) complete next rest complete' next' rest' j
      (strip_at runs i d h span lt) (λ f k. ordered_at (HaveGap s) runs i d h.order lt f k) tk)
    where
      strip_at : (runs : List Ends) (i : ℕ) (d : Ends) → AreRuns R s runs → s.from ≤ℤ s.to → i < length runs → IsStrip R (strip s (get_or runs i d))
      strip_at runs i d h span lt = record { span = span; runs = h.each (get_or runs i d) (among_at runs i d lt) }

  -- the strip may be taken
  pub can_take : (runs : List Ends) (i : ℕ) (d : Ends) (complete next rest : List Band) → IsInRange R → AreRuns R s runs → s.from ≤ℤ s.to → i < length runs → AreJoining R s (take i runs) complete next rest
      → CanTake R rest (strip s (get_or runs i d))
  can_take runs i d complete next rest range h span lt j = record {
    in_range = range;
    strip_runs = record { span = span; runs = h.each (get_or runs i d) (among_at runs i d lt) };
    rows_so_far = j.wait;
  }

pub waits_next : (R : ℤ → ℤ → Type 0) (b strip : Band) → IsRowTo R (strip.from -ℤ pos 1) b → strip.from ≡ b.to +ℤ pos 1
waits_next R b strip h = let a = h.to in omega (arith, ints)

-- what was taken may be followed by the strip
pub leader_follows : (R : ℤ → ℤ → Type 0) (rest rest' : List Band) (o : Option Band) (strip : Band) → CanTake R rest strip → IsTaken rest o rest' → ((b : Band) → Among (option_to_list o) b → Continues b strip)
    → CanFollow R (option_to_list o) strip
leader_follows R rest rest' o strip h tk found = record {
  in_range = h.in_range;
  strip_runs = h.strip_runs;
  row_so_far = λ b i. let w = h.rows_so_far b (taken_among rest rest' o tk b i) in record { strip = w.strip; single_low = w.single_low; single_high = w.single_high; to = refl };
  continues = found;
}
