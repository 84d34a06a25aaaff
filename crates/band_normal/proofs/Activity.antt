-- The bands that are active along a stretch hold what all bands hold there.
use Rattle.std.proofs.Common.{◌≡◌, inl, inr, ⊎_elim, ℕ, ◌+◌, ◌<◌, ℤ, ◌≤ℤ◌, List, [], ◌∷◌, ◌++◌, length, get_or, take, refl, sym, ◌∙◌, ap, subst, arith, false}
use Rattle.std.proofs.lemmas.Int.{ints}
use Rattle.std.proofs.lemmas.List.{take_more}
use Rattle.std.specs.List.Sorted.{IsPermutation, IsSortedByKey}
use Rattle.std.specs.Ordering.{int_cmp, is_lt}
use Rattle.zone_core.specs.Zone.{Within, moment_reach}
use Rattle.band_normal.specs.declared.band.End.{End}
use Rattle.band_normal.specs.declared.band.Band.{Band}
use Rattle.band_normal.specs.declared.strips.Stretch.{Stretch}
use Rattle.band_normal.specs.declared.strips.Ends.{Ends}
use Rattle.band_normal.specs.declared.active.Reach.{Reach}
use Rattle.itpg_base.specs.Lists.{Among, Ordered}
use Rattle.band_normal.specs.Bands.{end_at, IsWellFormed}
use Rattle.band_normal.specs.Strips.{Holds, AreNear, IsFront, AddsBand, AreMerged, AreRuns}
use Rattle.band_normal.specs.Actives.{ends_of, BeginsLower, IsReach, IsActiveAt, AreActive, AddsReach, IsFit}
use Rattle.itpg_base.proofs.Lists.{among_append, append_first, append_second, among_at, permutation_among, among_permutation, ordered_from_neighbours, among_take, ordered_at}
use Rattle.band_normal.proofs.Stretches.{front_front}
use Rattle.band_normal.proofs.Merging.{front-span, adds-front, adds-merged, runs_of_merged}

reach_later : (bands : List Band) (band : Band) (s s' : Stretch) (r : Reach) → IsFront s s' → IsReach bands s r → IsReach (bands ++ band ∷ []) s' r
reach_later bands band s s' r f h =
    let a = f.from in let b = f.within in let c = h.from in let d = h.to in
    record {
      band = h.band;
      there = append_first bands (band ∷ []) h.band h.there;
      low = h.low;
      high = h.high;
      from = omega (arith, ints);
      to = omega (arith, ints);
      begins = h.begins ∙ ap (end_at r.ends.low) (sym a);
    }

adds-active : (bands : List Band) (band : Band) (s s' : Stretch) (rs rs' : List Reach) → band.from ≤ℤ s.from → AreActive bands s rs → AddsReach s rs band s' rs' → AreActive (bands ++ band ∷ []) s' rs'
adds-active bands band s s' rs rs' from h add =
    let a = add.front.from in
    let P : List Reach → Type 0 = λ v. AreActive (bands ++ band ∷ []) s' v in
    subst P (sym add.is) (record {
      each = λ x i. ⊎_elim
          (λ j. reach_later bands band s s' x add.front (h.each x j))
          (λ j. ⊎_elim (λ (e : add.reach ≡ x). subst (λ (v : Reach). IsReach (bands ++ band ∷ []) s' v) e (record {
            band = band;
            there = append_second bands (band ∷ []) band (inl refl);
            low = sym add.low;
            high = sym add.high;
            from = omega (arith, ints);
            to = add.to;
            begins = add.begins ∙ ap (λ (v : End). end_at v s.from) (sym add.low) ∙ ap (end_at (add.reach).ends.low) (sym a);
          })) (λ k. absurd k) j)
          (among_append rs (add.reach ∷ []) x i);
      whole = λ x i. ⊎_elim
          (λ j. let w = h.whole x j in (w.0, append_first rs (add.reach ∷ []) w.0 w.1, w.2, w.3))
          (λ j. ⊎_elim (λ (e : band ≡ x). (add.reach, append_second rs (add.reach ∷ []) add.reach (inl refl), sym (ap (λ (v : Band). v.low) e) ∙ sym add.low, sym (ap (λ (v : Band). v.high) e) ∙ sym add.high)) (λ k. absurd k) j)
          (among_append bands (band ∷ []) x i);
    })

-- the band at a place is active where the stretch begins
pub active_at : (bands : List Band) (i : ℕ) (d : Band) (s s' : Stretch) → IsFront s s' → ((b : Band) → Among bands b → IsActiveAt s.from b) → i < length bands → IsActiveAt s'.from (get_or bands i d)
active_at bands i d s s' f all lt = subst (λ (v : ℤ). IsActiveAt v (get_or bands i d)) (sym f.from) (all (get_or bands i d) (among_at bands i d lt))

pub active_step : (bands : List Band) (i : ℕ) (d : Band) (s s' : Stretch) (rs rs' : List Reach) → i < length bands → IsActiveAt s.from (get_or bands i d) → AreActive (take i bands) s rs → AddsReach s rs (get_or bands i d) s' rs'
    → AreActive (take (i + 1) bands) s' rs'
active_step bands i d s s' rs rs' lt at h a =
    let P : List Band → Type 0 = λ v. AreActive v s' rs' in
    subst P (sym (take_more bands i d lt)) (adds-active (take i bands) (get_or bands i d) s s' rs rs' at.from h a)

pub active_sorted : (bands : List Band) (s : Stretch) (rs rs' : List Reach) → IsPermutation rs rs' → AreActive bands s rs → AreActive bands s rs'
active_sorted bands s rs rs' p h = record {
  each = λ r i. h.each r (permutation_among rs rs' p r i);
  whole = λ b i. let w = h.whole b i in (w.0, among_permutation rs rs' p w.0 w.1, w.2, w.3);
}

pub active-front : (bands : List Band) (s s' : Stretch) (rs : List Reach) → IsFront s s' → AreActive bands s rs → AreActive bands s' rs
active-front bands s s' rs f h =
    let a = f.from in let b = f.within in
    record {
      each = λ r i. let x = h.each r i in let c = x.from in let d = x.to in record {
        band = x.band;
        there = x.there;
        low = x.low;
        high = x.high;
        from = omega (arith, ints);
        to = omega (arith, ints);
        begins = x.begins ∙ ap (end_at r.ends.low) (sym a);
      };
      whole = h.whole;
    }

pub not_below : (a b : ℤ) → is_lt (int_cmp b a) ≡ false → a ≤ℤ b
not_below a b h = grind (arith, ints)

pub sorted_ordered : (rs : List Reach) → IsSortedByKey (λ (r : Reach). r.low) int_cmp rs → Ordered BeginsLower rs
sorted_ordered rs h = ordered_from_neighbours BeginsLower (λ x y z a b. omega (arith, ints)) rs (λ k d l. not_below _ _ (h k d (omega arith) l))

-- the reaches of well-formed bands are fit
pub reach_fit : (bands : List Band) (s : Stretch) (r : Reach) → s.from ≤ℤ s.to → ((b : Band) → Among bands b → IsWellFormed b) → IsReach bands s r → IsFit s r
reach_fit bands s r span well h =
    let w = well h.band h.there in
    let c = h.from in let d = h.to in
    let low = w.low s.from c (omega (arith, ints)) in
    let high = w.high s.from c (omega (arith, ints)) in
    record {
      begins = h.begins;
      near = record { low = subst (λ (v : End). Within moment_reach (end_at v s.from)) h.low low; high = subst (λ (v : End). Within moment_reach (end_at v s.from)) h.high high };
      some = λ t p q.
          let o = w.some t (omega (arith, ints)) (omega (arith, ints)) in
          subst (λ (v : End). end_at v t ≤ℤ end_at r.ends.high t) h.low (subst (λ (v : End). end_at h.band.low t ≤ℤ end_at v t) h.high o);
    }

among_ends : (rs : List Reach) (e : Ends) → Among (ends_of rs) e → (r : Reach) × Among rs r × (r.ends ≡ e)
among_ends [] e h = absurd h
among_ends (r ∷ rs) e (inl g) = (r, inl refl, g)
among_ends (r ∷ rs) e (inr i) = let w = among_ends rs e i in (w.0, inr w.1, w.2)

ends_among : (rs : List Reach) (r : Reach) → Among rs r → Among (ends_of rs) r.ends
ends_among [] r h = absurd h
ends_among (x ∷ rs) r (inl e) = inl (ap (λ (v : Reach). v.ends) e)
ends_among (x ∷ rs) r (inr i) = inr (ends_among rs r i)

-- the runs of what is active are the runs of all bands
pub runs_of_active : (bands : List Band) (s : Stretch) (rs : List Reach) (runs : List Ends) → AreActive bands s rs → AreMerged (ends_of rs) s runs → AreRuns (Holds bands) s runs
runs_of_active bands s rs runs h m = runs_of_merged (Holds bands) (ends_of rs) runs s m
    (λ t u p q w. let x = w.2 in let r = h.whole w.0 w.1 in (
      (r.0).ends,
      ends_among rs r.0 r.1,
      (let a = ap (λ (v : End). end_at v t) r.2 in let b = ap (λ (v : End). end_at v t) r.3 in let c = x.low in let d = x.high in record { low = omega (arith, ints); high = omega (arith, ints) }),
    ))
    (λ e t u p q i x.
    let w = among_ends rs e i in
    let r = h.each w.0 w.1 in
    let a = ap (λ (v : End). end_at v t) r.low in let b = ap (λ (v : End). end_at v t) r.high in
    let g = ap (λ (v : Ends). end_at v.low t) w.2 in let k = ap (λ (v : Ends). end_at v.high t) w.2 in
    let c = r.from in let d = r.to in let f = x.low in let j = x.high in
    (r.band, r.there, record { from = omega (arith, ints); to = omega (arith, ints); low = omega (arith, ints); high = omega (arith, ints) }))

ends_of-append : (xs : List Reach) (r : Reach) → ends_of (xs ++ r ∷ []) ≡ ends_of xs ++ r.ends ∷ []
ends_of-append [] r = refl
ends_of-append (x ∷ xs) r = ap (λ (v : List Ends). x.ends ∷ v) (ends_of-append xs r)

-- what one more reach needs and gives
module _ (s s' : Stretch) (rs : List Reach) (i : ℕ) (d : Reach) (runs : List Ends) (fit : (r : Reach) → Among rs r → IsFit s r) (lt : i < length rs) (front : IsFront s s')
    (merged : AreMerged (ends_of (take i rs)) s' runs) where
  pub band_near : AreNear (get_or rs i d).ends s'.from
  band_near = subst (λ (v : ℤ). AreNear (get_or rs i d).ends v) (sym front.from) (fit (get_or rs i d) (among_at rs i d lt)).near

  pub band_some : (t : ℤ) → s'.from ≤ℤ t → t ≤ℤ s'.to → end_at (get_or rs i d).ends.low t ≤ℤ end_at (get_or rs i d).ends.high t
  band_some t p q = let a = front.from in let b = front.within in (fit (get_or rs i d) (among_at rs i d lt)).some t (omega (arith, ints)) (omega (arith, ints))

  pub band_lower : Ordered BeginsLower rs → (e : Ends) → Among runs e → end_at e.low s'.from ≤ℤ end_at (get_or rs i d).ends.low s'.from
  band_lower o e h =
      let w = merged.begins e h in
      let r = among_ends (take i rs) w.0 w.1 in
      let before = ordered_at BeginsLower rs i d o lt r.0 r.1 in
      let a = (fit r.0 (among_take rs i r.0 r.1)).begins in
      let b = (fit (get_or rs i d) (among_at rs i d lt)).begins in
      let g = ap (λ (v : Ends). end_at v.low s.from) r.2 in
      let k = ap (λ (v : End). end_at v s.from) w.2 in
      let P : ℤ → Type 0 = λ v. end_at e.low v ≤ℤ end_at (get_or rs i d).ends.low v in
      subst P (sym front.from) (omega (arith, ints))

  pub band_merged : (s'' : Stretch) (runs' : List Ends) → AddsBand runs s' (get_or rs i d).ends runs' s'' → AreMerged (ends_of (take (i + 1) rs)) s'' runs'
  band_merged s'' runs' a =
      let P : List Ends → Type 0 = λ v. AreMerged v s'' runs' in
      let Q : List Reach → Type 0 = λ v. AreMerged (ends_of v) s'' runs' in
      subst Q (sym (take_more rs i d lt)) (subst P (sym (ends_of-append (take i rs) (get_or rs i d)))
      (adds-merged (ends_of (take i rs)) runs runs' s' s'' (get_or rs i d).ends merged a band_near band_some))

  pub band_front : (s'' : Stretch) (runs' : List Ends) → AddsBand runs s' (get_or rs i d).ends runs' s'' → IsFront s s''
  band_front s'' runs' a = front_front s s' s'' front (adds-front runs runs' s' s'' (get_or rs i d).ends (front-span s s' front) a)
