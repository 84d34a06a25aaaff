-- A row and a strip that continues it: where the row stops, and what the rows hold.
use Rattle.std.proofs.Common.{◌≡◌, ◌↔◌, ◌⊎◌, inl, inr, ⊎_elim, ℤ, pos, ◌+ℤ◌, ◌≤ℤ◌, ◌<ℤ◌, [], ◌∷◌, refl, sym, ◌∙◌, ap, subst, arith, SFits, w64, true≢false, false}
use Rattle.std.specs.Prelude.{IsTrue}
use Rattle.zone_core.specs.Zone.{Within, moment_reach}
use Rattle.std.proofs.lemmas.Int.{ints, by_lt_z}
use Rattle.band_normal.specs.declared.band.End.{End}
use Rattle.band_normal.specs.declared.band.Band.{Band}
use Rattle.itpg_base.specs.Lists.{Among}
use Rattle.band_normal.specs.Bands.{end_at, InBand, IsWellFormed}
use Rattle.band_normal.specs.Normal.{IsRun, Steps, IsRow, IsStrip}
use Rattle.band_normal.specs.Strips.{Holds}
use Rattle.band_normal.specs.Rows.{Continues, IsRowTo, AreApart, IsAlone, Agree, IsGrown, IsRest, IsJoint}
use Rattle.band_normal.proofs.Unique.{continues_one, end_steps, ends_agree}
use Rattle.band_normal.proofs.Extended.{IsExtended, run_as, extended-strip, extended-split, extended-left, extended-right}

-- the strip's first departure alone
abbrev first_of : Band → Band
first_of s = record { from = s.from; to = s.from; low = s.low; high = s.high }

alone-in : (b a : Band) (t u : ℤ) → IsAlone b a → InBand b t u → InBand a t u
alone-in b a t u h i =
    let from = h.from in let to = h.to in let f = i.from in let g = i.to in
    let l = h.low t f g in let k = h.high t f g in let x = i.low in let y = i.high in
    record { from = omega (arith, ints); to = omega (arith, ints); low = omega (arith, ints); high = omega (arith, ints) }

in-alone : (b a : Band) (t u : ℤ) → IsAlone b a → InBand a t u → InBand b t u
in-alone b a t u h i =
    let from = h.from in let to = h.to in let f = i.from in let g = i.to in let x = i.low in let y = i.high in
    let l = h.low t (omega (arith, ints)) (omega (arith, ints)) in let k = h.high t (omega (arith, ints)) (omega (arith, ints)) in
    record { from = omega (arith, ints); to = omega (arith, ints); low = omega (arith, ints); high = omega (arith, ints) }

held_one : (b : Band) (t u : ℤ) → InBand b t u → Holds (b ∷ []) t u
held_one b t u i = (b, inl refl, i)

pub one_held : (b : Band) (t u : ℤ) → Holds (b ∷ []) t u → InBand b t u
one_held b t u h = ⊎_elim (λ (e : b ≡ h.0). subst (λ (v : Band). InBand v t u) (sym e) h.2) (λ k. absurd k) h.1

only : (b c : Band) → Among (b ∷ []) c → b ≡ c
only b c (inl e) = e
only b c (inr k) = absurd k

module _ (R : ℤ → ℤ → Type 0) where
  alone-row : (b a : Band) → IsStrip R b → IsAlone b a → IsRowTo R b.to a
  alone-row b a s h =
      let from = h.from in let to = h.to in let span = s.span in
      record {
        strip = record {
          span = omega (arith, ints);
          runs = λ t p q. run_as R t _ _ _ _ (h.low t (omega (arith, ints)) (omega (arith, ints))) (h.high t (omega (arith, ints)) (omega (arith, ints))) (s.runs t (omega (arith, ints)) (omega (arith, ints)));
        };
        single_low = λ e. h.single_low (omega (arith, ints));
        single_high = λ e. h.single_high (omega (arith, ints));
        to = to;
      }

  -- a strip that continues no row
  pub first_joint : (strip new_row : Band) → IsStrip R strip → IsAlone strip new_row → IsJoint R [] strip [] new_row
  first_joint strip new_row s a = record {
    goes_on = alone-row strip new_row s a;
    stops = λ b i. absurd i;
    whole = λ t u h. ⊎_elim (λ k. absurd k.1) (λ i. inr (alone-in strip new_row t u a i)) h;
    sound = λ t u h. ⊎_elim (λ k. absurd k.1) (λ i. inr (in-alone strip new_row t u a i)) h;
    apart = (λ y i. absurd i, tt);
  }

  module _ (row strip longer : Band) (r : IsRowTo R row.to row) (s : IsStrip R strip) (c : Continues row strip) (g : IsGrown row strip longer) where
    long_or_single : {P : Type 0} → (row.from <ℤ row.to → P) → (row.from ≡ row.to → P) → P
    long_or_single f h = by_lt_z row.from row.to f (λ le. h (let span = r.strip.span in omega (arith, ints)))

    old_low : (t : ℤ) → row.from ≤ℤ t → t ≤ℤ row.to → end_at longer.low t ≡ end_at row.low t
    old_low t a b = long_or_single
        (λ long. ap (λ (v : End). end_at v t) (g.long_low long))
        (λ one. let here : row.to ≡ t = omega (arith, ints) in ap (end_at longer.low) (sym here) ∙ g.row_low one ∙ ap (end_at row.low) here)

    old_high : (t : ℤ) → row.from ≤ℤ t → t ≤ℤ row.to → end_at longer.high t ≡ end_at row.high t
    old_high t a b = long_or_single
        (λ long. ap (λ (v : End). end_at v t) (g.long_high long))
        (λ one. let here : row.to ≡ t = omega (arith, ints) in ap (end_at longer.high) (sym here) ∙ g.row_high one ∙ ap (end_at row.high) here)

    -- the strip's run is the one that continues the row
    next_run : (l h : ℤ) → IsRun R (row.to +ℤ pos 1) l h → Steps (end_at row.low row.to) l → Steps (end_at row.high row.to) h
        → (l ≡ end_at strip.low strip.from) × (h ≡ end_at strip.high strip.from)
    next_run l h run sl sh =
        let span = r.strip.span in
        let last = r.strip.runs row.to span (omega (arith, ints)) in
        let first = s.runs strip.from (omega (arith, ints)) s.span in
        continues_one R (row.to +ℤ pos 1) _ _ _ _ _ _ last.some run (subst (λ (v : ℤ). IsRun R v (end_at strip.low strip.from) (end_at strip.high strip.from)) c.next first) sl sh c.low c.high

    apart_row : (x : Band) → strip.from ≤ℤ x.from → AreApart row x
    apart_row x later t u i j = let a = i.to in let b = j.from in let n = c.next in omega (arith, ints)

    -- the row stops where the strip begins
    pub closed_joint : (new_row : Band) → (Agree longer strip → ⊥) → IsAlone strip new_row → IsJoint R (row ∷ []) strip (row ∷ []) new_row
    closed_joint new_row apart a = record {
      goes_on = alone-row strip new_row s a;
      stops = λ b i. subst (λ (v : Band). IsRow R v × (v.to ≤ℤ strip.to)) (only row b i) (
        record {
          span = r.strip.span;
          runs = r.strip.runs;
          single_low = r.single_low;
          single_high = r.single_high;
          stops = λ l h run sl sh.
              let e = next_run l h run sl sh in
              long_or_single
              (λ long. (
                long,
                λ p. apart (record {
                  low = ap (λ (v : End). end_at v strip.from) (g.long_low long) ∙ ap (end_at row.low) c.next ∙ p.0 ∙ e.0;
                  high = ap (λ (v : End). end_at v strip.from) (g.long_high long) ∙ ap (end_at row.high) c.next ∙ p.1 ∙ e.1;
                }),
              ))
              (λ one. absurd (apart (record { low = g.strip_low one; high = g.strip_high one })));
        },
        (let n = c.next in let span = s.span in omega (arith, ints)),
      );
      whole = λ t u h. ⊎_elim (λ k. inl k) (λ i. inr (alone-in strip new_row t u a i)) h;
      sound = λ t u h. ⊎_elim (λ k. inl k) (λ i. inr (in-alone strip new_row t u a i)) h;
      apart = (λ y i. subst (λ (v : Band). AreApart row v) (only new_row y i) (apart_row new_row (let f = a.from in omega (arith, ints))), (λ y i. absurd i, tt));
    }

    -- the row goes on to the end of the strip
    pub whole_joint : (new_row : Band) → Agree longer strip → (strip.from ≡ strip.to) ⊎ ((longer.low ≡ strip.low) × (longer.high ≡ strip.high))
        → new_row.from ≡ row.from → new_row.to ≡ strip.to → new_row.low ≡ longer.low → new_row.high ≡ longer.high → IsJoint R (row ∷ []) strip [] new_row
    whole_joint new_row agree alike from to low high = record {
      goes_on = record {
        strip = extended-strip R row strip new_row r.strip s ext;
        single_low = λ one. absurd (let n = c.next in let a = r.strip.span in let b = s.span in omega (arith, ints));
        single_high = λ one. absurd (let n = c.next in let a = r.strip.span in let b = s.span in omega (arith, ints));
        to = to;
      };
      stops = λ b i. absurd i;
      whole = λ t u h. inr (⊎_elim (λ k. extended-left row strip new_row t u s.span ext (one_held row t u k)) (λ i. extended-right row strip new_row t u r.strip.span ext i) h);
      sound = λ t u h. ⊎_elim (λ k. absurd k.1)
          (λ i. ⊎_elim (λ j. inl (held_one row t u j)) (λ j. inr j) (extended-split row strip new_row t u r.strip.span s.span ext i)) h;
      apart = (λ y i. absurd i, tt);
    }
      where
        ext : IsExtended row strip new_row
        ext = record {
          from = from;
          to = to;
          next = c.next;
          low_old = λ t a b. ap (λ (v : End). end_at v t) low ∙ old_low t a b;
          high_old = λ t a b. ap (λ (v : End). end_at v t) high ∙ old_high t a b;
          low_new = λ t a b. ap (λ (v : End). end_at v t) low ∙ ⊎_elim
              (λ (one : strip.from ≡ strip.to). let here : strip.from ≡ t = omega (arith, ints) in ap (end_at longer.low) (sym here) ∙ agree.low ∙ ap (end_at strip.low) here)
              (λ e. ap (λ (v : End). end_at v t) e.0) alike;
          high_new = λ t a b. ap (λ (v : End). end_at v t) high ∙ ⊎_elim
              (λ (one : strip.from ≡ strip.to). let here : strip.from ≡ t = omega (arith, ints) in ap (end_at longer.high) (sym here) ∙ agree.high ∙ ap (end_at strip.high) here)
              (λ e. ap (λ (v : End). end_at v t) e.1) alike;
        }

    -- the row takes the strip's first departure, and a new row begins after it
    pub part_joint : (rest new_row : Band) → Agree longer strip → ((strip.from ≡ strip.to) ⊎ ((longer.low ≡ strip.low) × (longer.high ≡ strip.high)) → ⊥) → IsRest strip rest → IsAlone rest new_row
        → IsJoint R (row ∷ []) strip (longer ∷ []) new_row
    part_joint rest new_row agree other is_rest a = record {
      goes_on = subst (λ (v : ℤ). IsRowTo R v new_row) is_rest.to (alone-row rest new_row rest_strip a);
      stops = λ b i. subst (λ (v : Band). IsRow R v × (v.to ≤ℤ strip.to)) (only longer b i) (
        record {
          span = grown_strip.span;
          runs = grown_strip.runs;
          single_low = λ one. absurd (let f = g.from in let k = g.to in let n = c.next in let b = r.strip.span in omega (arith, ints));
          single_high = λ one. absurd (let f = g.from in let k = g.to in let n = c.next in let b = r.strip.span in omega (arith, ints));
          stops = λ l h run sl sh. (
            (let f = g.from in let k = g.to in let n = c.next in let b = r.strip.span in omega (arith, ints)),
            λ p.
                let e = after l h (subst (λ (v : ℤ). IsRun R (v +ℤ pos 1) l h) g.to run)
                (subst (λ (v : ℤ). Steps v l) (ap (end_at longer.low) g.to ∙ agree.low) sl) (subst (λ (v : ℤ). Steps v h) (ap (end_at longer.high) g.to ∙ agree.high) sh) in
                let up : longer.to +ℤ pos 1 ≡ strip.from +ℤ pos 1 = ap (λ (v : ℤ). v +ℤ pos 1) g.to in
                other (inr (
                  ends_agree longer.low strip.low strip.from agree.low (ap (end_at longer.low) (sym up) ∙ p.0 ∙ e.0),
                  ends_agree longer.high strip.high strip.from agree.high (ap (end_at longer.high) (sym up) ∙ p.1 ∙ e.1),
                )),
          );
        },
        (let k = g.to in let span = s.span in omega (arith, ints)),
      );
      whole = λ t u h. ⊎_elim
          (λ k. inl (held_one longer t u (extended-left row (first_of strip) longer t u (omega (arith, ints)) ext (one_held row t u k))))
          (λ i. by_lt_z strip.from t
          (λ later. inr (alone-in rest new_row t u a (let f = is_rest.from in let k = is_rest.to in let x = i.to in let y = i.low in let z = i.high in
          let l = ap (λ (v : End). end_at v t) is_rest.low in let m = ap (λ (v : End). end_at v t) is_rest.high in
          record { from = omega (arith, ints); to = omega (arith, ints); low = omega (arith, ints); high = omega (arith, ints) })))
          (λ here. inl (held_one longer t u (extended-right row (first_of strip) longer t u r.strip.span ext
          (record { from = i.from; to = here; low = i.low; high = i.high }))))) h;
      sound = λ t u h. ⊎_elim
          (λ k. ⊎_elim (λ i. inl (held_one row t u i)) (λ i. inr (let x = i.to in let span = s.span in record { from = i.from; to = omega (arith, ints); low = i.low; high = i.high }))
          (extended-split row (first_of strip) longer t u r.strip.span (omega (arith, ints)) ext (one_held longer t u k)))
          (λ i. inr (let j = in-alone rest new_row t u a i in
          let f = is_rest.from in let k = is_rest.to in let w = j.from in let x = j.to in let y = j.low in let z = j.high in
          let l = ap (λ (v : End). end_at v t) is_rest.low in let m = ap (λ (v : End). end_at v t) is_rest.high in
          record { from = omega (arith, ints); to = omega (arith, ints); low = omega (arith, ints); high = omega (arith, ints) })) h;
      apart = (λ y i. subst (λ (v : Band). AreApart longer v) (only new_row y i) (λ t u p q. let k = p.to in let m = q.from in let f = a.from in let e = is_rest.from in let n = g.to in omega (arith, ints)), (λ y i. absurd i, tt));
    }
      where
        longer_than_one : strip.from <ℤ strip.to
        longer_than_one = by_lt_z strip.from strip.to (λ lt. lt) (λ le. absurd (other (inl (let span = s.span in omega (arith, ints)))))

        rest_strip : IsStrip R rest
        rest_strip =
            let f = is_rest.from in let k = is_rest.to in let lt = longer_than_one in
            record {
              span = omega (arith, ints);
              runs = λ t p q. run_as R t _ _ _ _ (ap (λ (v : End). end_at v t) is_rest.low) (ap (λ (v : End). end_at v t) is_rest.high) (s.runs t (omega (arith, ints)) (omega (arith, ints)));
            }

        ext : IsExtended row (first_of strip) longer
        ext = record {
          from = g.from;
          to = g.to;
          next = c.next;
          low_old = old_low;
          high_old = old_high;
          low_new = λ t p q. let here : strip.from ≡ t = omega (arith, ints) in ap (end_at longer.low) (sym here) ∙ agree.low ∙ ap (end_at strip.low) here;
          high_new = λ t p q. let here : strip.from ≡ t = omega (arith, ints) in ap (end_at longer.high) (sym here) ∙ agree.high ∙ ap (end_at strip.high) here;
        }

        grown_strip : IsStrip R longer
        grown_strip = extended-strip R row (first_of strip) longer r.strip (record { span = omega (arith, ints); runs = λ t p q. let span = s.span in s.runs t p (omega (arith, ints)) }) ext

        -- the strip's second run is the one that continues its first
        after : (l h : ℤ) → IsRun R (strip.from +ℤ pos 1) l h → Steps (end_at strip.low strip.from) l → Steps (end_at strip.high strip.from) h
            → (l ≡ end_at strip.low (strip.from +ℤ pos 1)) × (h ≡ end_at strip.high (strip.from +ℤ pos 1))
        after l h run sl sh =
            let lt = longer_than_one in
            let first = s.runs strip.from (omega (arith, ints)) s.span in
            let second = s.runs (strip.from +ℤ pos 1) (omega (arith, ints)) (omega (arith, ints)) in
            continues_one R (strip.from +ℤ pos 1) _ _ _ _ _ _ first.some run second sl sh (end_steps strip.low strip.from) (end_steps strip.high strip.from)

    -- the row made longer stands in range where the strip begins
    pub longer_fits : IsWellFormed row → IsWellFormed strip → SFits w64 (end_at longer.low strip.from) × SFits w64 (end_at longer.high strip.from)
    longer_fits wr ws =
        let span = r.strip.span in
        let row_low = wr.low row.to span (omega (arith, ints)) in
        let row_high = wr.high row.to span (omega (arith, ints)) in
        let strip_low = ws.low strip.from (omega (arith, ints)) s.span in
        let strip_high = ws.high strip.from (omega (arith, ints)) s.span in (
          long_or_single
              (λ long.
              let e = ap (λ (v : End). end_at v strip.from) (g.long_low long) in
              let at = ap (end_at row.low) c.next in
              ⊎_elim (λ (q : end_at row.low (row.to +ℤ pos 1) ≡ end_at row.low row.to). omega (arith, ints)) (λ (q : end_at row.low (row.to +ℤ pos 1) ≡ end_at row.low row.to +ℤ pos 1). omega (arith, ints)) (end_steps row.low row.to))
              (λ one. let e = g.strip_low one in omega (arith, ints)),
          long_or_single
              (λ long.
              let e = ap (λ (v : End). end_at v strip.from) (g.long_high long) in
              let at = ap (end_at row.high) c.next in
              ⊎_elim (λ (q : end_at row.high (row.to +ℤ pos 1) ≡ end_at row.high row.to). omega (arith, ints)) (λ (q : end_at row.high (row.to +ℤ pos 1) ≡ end_at row.high row.to +ℤ pos 1). omega (arith, ints)) (end_steps row.high row.to))
              (λ one. let e = g.strip_high one in omega (arith, ints)),
        )

-- the rest of a well-formed strip is well formed
pub rest-formed : (strip rest : Band) → IsWellFormed strip → strip.from <ℤ strip.to → IsRest strip rest → IsWellFormed rest
rest-formed strip rest w lt h =
    let from = h.from in let to = h.to in
    let first = w.from in let last = w.to in
    record {
      span = omega (arith, ints);
      from = record { above = omega (arith, ints); below = omega (arith, ints) };
      to = subst (λ (v : ℤ). Within moment_reach v) (sym to) last;
      low = λ t p q. subst (λ (v : End). Within moment_reach (end_at v t)) (sym h.low) (w.low t (omega (arith, ints)) (omega (arith, ints)));
      high = λ t p q. subst (λ (v : End). Within moment_reach (end_at v t)) (sym h.high) (w.high t (omega (arith, ints)) (omega (arith, ints)));
      some = λ t p q.
          let l = ap (λ (v : End). end_at v t) h.low in let m = ap (λ (v : End). end_at v t) h.high in
          let o = w.some t (omega (arith, ints)) (omega (arith, ints)) in
          omega (arith, ints);
    }

pub longer_than_one : (strip : Band) {P : Type 0} → strip.from ≤ℤ strip.to → (IsTrue false ↔ (strip.from ≡ strip.to) ⊎ P) → strip.from <ℤ strip.to
longer_than_one strip span h = by_lt_z strip.from strip.to (λ lt. lt) (λ le. absurd (true≢false (sym (h.1 (inl (omega (arith, ints)))))))

pub not_true : {P : Type 0} → (IsTrue false ↔ P) → P → ⊥
not_true h p = true≢false (sym (h.1 p))
