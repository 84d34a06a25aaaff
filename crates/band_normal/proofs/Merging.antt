-- Runs with one more band hold what they held and the band; runs that hold what the bands hold are the runs of the relation.
use Rattle.std.proofs.Common.{◌≡◌, ◌⊎◌, inl, inr, ⊎_elim, ℤ, pos, negsuc, ◌+ℤ◌, ◌-ℤ◌, ◌≤ℤ◌, ◌<ℤ◌, List, [], ◌∷◌, ◌++◌, refl, sym, ◌∙◌, ap, subst, arith}
use Rattle.std.proofs.lemmas.Int.{ints, by_lt_z}
use Rattle.zone_core.specs.Zone.{Within, moment_reach}
use Rattle.band_normal.specs.declared.band.End.{End}
use Rattle.band_normal.specs.declared.strips.Stretch.{Stretch}
use Rattle.band_normal.specs.declared.strips.Ends.{Ends}
use Rattle.band_normal.specs.declared.strips.Merged.{Merged}
use Rattle.itpg_base.specs.Lists.{Among}
use Rattle.band_normal.specs.Bands.{end_at}
use Rattle.band_normal.specs.Strips.{InEnds, AreNear, IsFront, StayOrdered, HaveGap, AreOne, AddsBand, first, joins, follows, AreMerged, AreRuns}
use Rattle.itpg_base.proofs.Lists.{among_append, append_first, append_second, append_ordered, ordered_first, ordered_across, ordered_as, ordered_either}
use Rattle.band_normal.proofs.Stretches.{front_ordered}

pub whole_front : (s : Stretch) → s.from ≤ℤ s.to → IsFront s s
whole_front s h = record { from = refl; some = h; within = omega (arith, ints) }

pub front-span : (s s' : Stretch) → IsFront s s' → s'.from ≤ℤ s'.to
front-span s s' f = let a = f.from in let b = f.some in omega (arith, ints)

-- what holds along a stretch holds along its front
pub merged-front : (bands runs : List Ends) (s s' : Stretch) → IsFront s s' → AreMerged bands s runs → AreMerged bands s' runs
merged-front bands runs s s' f m =
    let a = f.from in let b = f.within in
    record {
      some = λ e i t p q. m.some e i t (omega (arith, ints)) (omega (arith, ints));
      near = λ e i. subst (λ (v : ℤ). AreNear e v) (sym a) (m.near e i);
      begins = m.begins;
      order = ordered_as (HaveGap s) (HaveGap s') (λ x y. front_ordered x.high y.low (negsuc 1) s s' f) runs m.order;
      whole = λ e t u p q. m.whole e t u (omega (arith, ints)) (omega (arith, ints));
      sound = λ e t u p q. m.sound e t u (omega (arith, ints)) (omega (arith, ints));
    }

in_ends : (e : Ends) (t u : ℤ) → end_at e.low t ≤ℤ u → u ≤ℤ end_at e.high t → InEnds e t u
in_ends e t u a b = record { low = a; high = b }

only_last : {X : Type 0} (x y : X) → Among (x ∷ []) y → x ≡ y
only_last x y (inl e) = e
only_last x y (inr i) = absurd i

begins_more : (bands : List Ends) (band : Ends) (e : Ends) → (b : Ends) × Among bands b × (b.low ≡ e.low) → (b : Ends) × Among (bands ++ band ∷ []) b × (b.low ≡ e.low)
begins_more bands band e h = (h.0, append_first bands (band ∷ []) h.0 h.1, h.2)

sound_more : (bands : List Ends) (band : Ends) (t u : ℤ) → (b : Ends) × Among bands b × InEnds b t u → (b : Ends) × Among (bands ++ band ∷ []) b × InEnds b t u
sound_more bands band t u h = (h.0, append_first bands (band ∷ []) h.0 h.1, h.2)

has_last : (bands : List Ends) (band : Ends) → Among (bands ++ band ∷ []) band
has_last bands band = append_second bands (band ∷ []) band (inl refl)

-- the first band is the first run
add_first : (bands : List Ends) (s : Stretch) (band : Ends) → AreMerged bands s [] → AreNear band s.from → ((t : ℤ) → s.from ≤ℤ t → t ≤ℤ s.to → end_at band.low t ≤ℤ end_at band.high t)
    → AreMerged (bands ++ band ∷ []) s (band ∷ [])
add_first bands s band m near some = record {
  some = λ e i. subst (λ (v : Ends). (t : ℤ) → s.from ≤ℤ t → t ≤ℤ s.to → end_at v.low t ≤ℤ end_at v.high t) (only_last band e i) some;
  near = λ e i. subst (λ (v : Ends). AreNear v s.from) (only_last band e i) near;
  begins = λ e i. (band, has_last bands band, ap (λ (v : Ends). v.low) (only_last band e i));
  order = (λ y i. absurd i, tt);
  whole = λ b t u p q i h. ⊎_elim
      (λ j. let w = m.whole b t u p q j h in absurd w.1)
      (λ j. (b, j, h)) (among_append bands (band ∷ []) b i);
  sound = λ e t u p q i h. (band, has_last bands band, subst (λ (v : Ends). InEnds v t u) (sym (only_last band e i)) h);
}

-- the band becomes one with the last run
add_joined : (bands front : List Ends) (run band : Ends) (s : Stretch) (m : Merged) → AreMerged bands s (front ++ run ∷ []) → AreOne run band s m → AreNear band s.from
    → AreMerged (bands ++ band ∷ []) m.along (front ++ m.ends ∷ [])
add_joined bands front run band s m old one near = record {
  some = λ e i t p q. ⊎_elim
      (λ j. narrow.some e (append_first front (run ∷ []) e j) t p q)
      (λ j. subst (λ (v : Ends). end_at v.low t ≤ℤ end_at v.high t) (only_last m.ends e j)
      (let a = narrow.some run there t p q in let b = one.run_high.at t p q in let l = low_is t in omega (arith, ints)))
      (among_append front (m.ends ∷ []) e i);
  near = λ e i. ⊎_elim
      (λ j. narrow.near e (append_first front (run ∷ []) e j))
      (λ j. subst (λ (v : Ends). AreNear v m.along.from) (only_last m.ends e j)
      (record {
        low = subst (λ (v : End). Within moment_reach (end_at v m.along.from)) (sym one.low) (narrow.near run there).low;
        high = ⊎_elim
            (λ g. subst (λ (v : End). Within moment_reach (end_at v m.along.from)) (sym g) (narrow.near run there).high)
            (λ g. subst (λ (v : End). Within moment_reach (end_at v m.along.from)) (sym g) (subst (λ (v : ℤ). Within moment_reach (end_at band.high v)) (sym one.front.from) near.high)) one.high;
      }))
      (among_append front (m.ends ∷ []) e i);
  begins = λ e i. ⊎_elim
      (λ j. begins_more bands band e (old.begins e (append_first front (run ∷ []) e j)))
      (λ j. begins_more bands band e (let w = old.begins run there in (w.0, w.1, w.2 ∙ sym one.low ∙ ap (λ (v : Ends). v.low) (only_last m.ends e j))))
      (among_append front (m.ends ∷ []) e i);
  order = append_ordered (HaveGap m.along) front (m.ends ∷ []) (ordered_first (HaveGap m.along) front (run ∷ []) narrow.order) (λ y i. absurd i, tt)
      (λ x y i j. subst (λ (v : Ends). HaveGap m.along x v) (only_last m.ends y j)
      (subst (λ (v : End). StayOrdered x.high v (negsuc 1) m.along) (sym one.low) (ordered_across (HaveGap m.along) front (run ∷ []) narrow.order x run i (inl refl))));
  whole = λ b t u p q i h. ⊎_elim
      (λ j. let w = narrow.whole b t u p q j h in ⊎_elim
      (λ k. (w.0, append_first front (m.ends ∷ []) w.0 k, w.2))
      (λ k. (m.ends, last, (let x : InEnds run t u = subst (λ (v : Ends). InEnds v t u) (sym (only_last run w.0 k)) w.2 in let a = x.low in let c = x.high in let d = one.run_high.at t p q in let l = low_is t in in_ends m.ends t u (omega (arith, ints)) (omega (arith, ints)))))
      (among_append front (run ∷ []) w.0 w.1))
      (λ j. (m.ends, last, (let x : InEnds band t u = subst (λ (v : Ends). InEnds v t u) (sym (only_last band b j)) h in let a = x.low in let c = x.high in let d = one.band_high.at t p q in let f = one.lower.at t p q in let l = low_is t in in_ends m.ends t u (omega (arith, ints)) (omega (arith, ints)))))
      (among_append bands (band ∷ []) b i);
  sound = λ e t u p q i h. ⊎_elim
      (λ j. sound_more bands band t u (narrow.sound e t u p q (append_first front (run ∷ []) e j) h))
      (λ j. let x : InEnds m.ends t u = subst (λ (v : Ends). InEnds v t u) (sym (only_last m.ends e j)) h in from_either t u p q x)
      (among_append front (m.ends ∷ []) e i);
}
  where
    narrow : AreMerged bands m.along (front ++ run ∷ [])
    narrow = merged-front bands (front ++ run ∷ []) s m.along one.front old

    there : Among (front ++ run ∷ []) run
    there = append_second front (run ∷ []) run (inl refl)

    last : Among (front ++ m.ends ∷ []) m.ends
    last = append_second front (m.ends ∷ []) m.ends (inl refl)

    low_is : (t : ℤ) → end_at m.ends.low t ≡ end_at run.low t
    low_is t = ap (λ (v : End). end_at v t) one.low

    from_either : (t u : ℤ) → m.along.from ≤ℤ t → t ≤ℤ m.along.to → InEnds m.ends t u → (b : Ends) × Among (bands ++ band ∷ []) b × InEnds b t u
    from_either t u p q x =
        let a = x.low in let c = x.high in let l = low_is t in
        by_lt_z (end_at run.high t) u
        (λ above. (
          band,
          has_last bands band,
          (let d = one.touch.at t p q in in_ends band t u (omega (arith, ints))
              (⊎_elim (λ g. let k = ap (λ (v : End). end_at v t) g in omega (arith, ints)) (λ g. let k = ap (λ (v : End). end_at v t) g in omega (arith, ints)) one.high)),
        ))
        (λ within. sound_more bands band t u (narrow.sound run t u p q there (in_ends run t u (omega (arith, ints)) within)))

-- the band is a run of its own
add_after : (bands front : List Ends) (run band : Ends) (s s' : Stretch) → AreMerged bands s (front ++ run ∷ []) → IsFront s s' → HaveGap s' run band → AreNear band s.from
    → ((t : ℤ) → s.from ≤ℤ t → t ≤ℤ s.to → end_at band.low t ≤ℤ end_at band.high t) → AreMerged (bands ++ band ∷ []) s' ((front ++ run ∷ []) ++ band ∷ [])
add_after bands front run band s s' old f gap near some = record {
  some = λ e i t p q. ⊎_elim
      (λ j. narrow.some e j t p q)
      (λ j. subst (λ (v : Ends). end_at v.low t ≤ℤ end_at v.high t) (only_last band e j) (let a = f.from in let b = f.within in some t (omega (arith, ints)) (omega (arith, ints))))
      (among_append runs (band ∷ []) e i);
  near = λ e i. ⊎_elim
      (λ j. narrow.near e j)
      (λ j. subst (λ (v : Ends). AreNear v s'.from) (only_last band e j) (subst (λ (v : ℤ). AreNear band v) (sym f.from) near))
      (among_append runs (band ∷ []) e i);
  begins = λ e i. ⊎_elim
      (λ j. begins_more bands band e (old.begins e j))
      (λ j. (band, has_last bands band, ap (λ (v : Ends). v.low) (only_last band e j)))
      (among_append runs (band ∷ []) e i);
  order = append_ordered (HaveGap s') runs (band ∷ []) narrow.order (λ y i. absurd i, tt)
      (λ x y i j. subst (λ (v : Ends). HaveGap s' x v) (only_last band y j) (before x i));
  whole = λ b t u p q i h. ⊎_elim
      (λ j. let w = narrow.whole b t u p q j h in (w.0, append_first runs (band ∷ []) w.0 w.1, w.2))
      (λ j. (b, append_second runs (band ∷ []) b j, h))
      (among_append bands (band ∷ []) b i);
  sound = λ e t u p q i h. ⊎_elim
      (λ j. sound_more bands band t u (narrow.sound e t u p q j h))
      (λ j. (band, has_last bands band, subst (λ (v : Ends). InEnds v t u) (sym (only_last band e j)) h))
      (among_append runs (band ∷ []) e i);
}
  where
    runs : List Ends
    runs = front ++ run ∷ []

    narrow : AreMerged bands s' (front ++ run ∷ [])
    narrow = merged-front bands (front ++ run ∷ []) s s' f old

    before : (x : Ends) → Among (front ++ run ∷ []) x → HaveGap s' x band
    before x i = ⊎_elim
        (λ j. let g = ordered_across (HaveGap s') front (run ∷ []) narrow.order x run j (inl refl) in
        record { at = λ t p q. let a = g.at t p q in let b = gap.at t p q in let c = narrow.some run (append_second front (run ∷ []) run (inl refl)) t p q in omega (arith, ints) })
        (λ j. subst (λ (v : Ends). HaveGap s' v band) (only_last run x j) gap)
        (among_append front (run ∷ []) x i)

pub adds-front : (runs runs' : List Ends) (s s' : Stretch) (band : Ends) → s.from ≤ℤ s.to → AddsBand runs s band runs' s' → IsFront s s'
adds-front runs runs' s s' band h (first e g k) = subst (λ (v : Stretch). IsFront s v) (sym k) (whole_front s h)
adds-front runs runs' s s' band h (joins front run m e g k one) = subst (λ (v : Stretch). IsFront s v) (sym k) one.front
adds-front runs runs' s s' band h (follows front run e g f gap) = f

pub adds-merged : (bands runs runs' : List Ends) (s s' : Stretch) (band : Ends) → AreMerged bands s runs → AddsBand runs s band runs' s' → AreNear band s.from
    → ((t : ℤ) → s.from ≤ℤ t → t ≤ℤ s.to → end_at band.low t ≤ℤ end_at band.high t) → AreMerged (bands ++ band ∷ []) s' runs'
adds-merged bands runs runs' s s' band old (first e g k) near some =
    let P : List Ends → Type 0 = λ v. AreMerged bands s v in
    let Q : List Ends → Type 0 = λ v. AreMerged (bands ++ band ∷ []) s v in
    subst (λ (v : Stretch). AreMerged (bands ++ band ∷ []) v runs') (sym k) (subst Q (sym g) (add_first bands s band (subst P e old) near some))
adds-merged bands runs runs' s s' band old (joins front run m e g k one) near some =
    let P : List Ends → Type 0 = λ v. AreMerged bands s v in
    let Q : List Ends → Type 0 = λ v. AreMerged (bands ++ band ∷ []) m.along v in
    subst (λ (v : Stretch). AreMerged (bands ++ band ∷ []) v runs') (sym k) (subst Q (sym g) (add_joined bands front run band s m (subst P e old) one near))
adds-merged bands runs runs' s s' band old (follows front run e g f gap) near some =
    let P : List Ends → Type 0 = λ v. AreMerged bands s v in
    let Q : List Ends → Type 0 = λ v. AreMerged (bands ++ band ∷ []) s' v in
    subst Q (sym g) (add_after bands front run band s s' (subst P e old) f gap near some)

-- runs that hold, along a stretch, what the relation holds there are its runs
pub runs_of_merged : (R : ℤ → ℤ → Type 0) (bands runs : List Ends) (s : Stretch) → AreMerged bands s runs
    → ((t u : ℤ) → s.from ≤ℤ t → t ≤ℤ s.to → R t u → (b : Ends) × Among bands b × InEnds b t u)
    → ((b : Ends) (t u : ℤ) → s.from ≤ℤ t → t ≤ℤ s.to → Among bands b → InEnds b t u → R t u)
    → AreRuns R s runs
runs_of_merged R bands runs s m there back = record {
  each = λ e i t p q. record {
    some = m.some e i t p q;
    each = λ u a b. let w = m.sound e t u p q i (in_ends e t u a b) in back w.0 t u p q w.1 w.2;
    below = λ r. next_to e i t (end_at e.low t -ℤ pos 1) p q (omega (arith, ints)) (let s = m.some e i t p q in omega (arith, ints)) (inl (omega (arith, ints))) (held t (end_at e.low t -ℤ pos 1) p q r);
    above = λ r. next_to e i t (end_at e.high t +ℤ pos 1) p q (let s = m.some e i t p q in omega (arith, ints)) (omega (arith, ints)) (inr (omega (arith, ints))) (held t (end_at e.high t +ℤ pos 1) p q r);
  };
  whole = λ t u p q r. held t u p q r;
  order = m.order;
}
  where
    held : (t u : ℤ) → s.from ≤ℤ t → t ≤ℤ s.to → R t u → (e : Ends) × Among runs e × InEnds e t u
    held t u p q r = let w = there t u p q r in m.whole w.0 t u p q w.1 w.2

    -- no run has a neighbour of a run
    next_to : (e : Ends) → Among runs e → (t u : ℤ) → s.from ≤ℤ t → t ≤ℤ s.to → (end_at e.low t -ℤ pos 1) ≤ℤ u → u ≤ℤ (end_at e.high t +ℤ pos 1)
        → (u <ℤ end_at e.low t) ⊎ (end_at e.high t <ℤ u) → (f : Ends) × Among runs f × InEnds f t u → ⊥
    next_to e i t u p q low high out w =
        let a = w.2.low in let b = w.2.high in
        ⊎_elim
        (λ g. let c = ap (λ (v : Ends). end_at v.low t) g in let d = ap (λ (v : Ends). end_at v.high t) g in ⊎_elim (λ l. omega (arith, ints)) (λ l. omega (arith, ints)) out)
        (λ g. ⊎_elim (λ l. let c = l.at t p q in omega (arith, ints)) (λ l. let c = l.at t p q in omega (arith, ints)) g)
        (ordered_either (HaveGap s) runs m.order e w.0 i w.1)
