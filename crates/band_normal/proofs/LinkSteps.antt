-- Strips linked to rows, one by one.
use Rattle.std.proofs.Common.{◌≡◌, ◌≢◌, ◌⊎◌, inl, inr, ⊎_elim, ℕ, zero, suc, ◌<◌, ◌≤◌, ℤ, pos, ◌-ℤ◌, ◌≤ℤ◌, List, [], ◌∷◌, ◌++◌, length, get_or, set, Option, None, Some, refl, sym, ◌∙◌, ap, subst, arith}
use Rattle.std.specs.Option.{option_to_list}
use Rattle.std.proofs.lemmas.Int.{ints, by_lt_z}
use Rattle.std.proofs.lemmas.List.{get_or-set_same, get_or-set_other, length-set}
use Rattle.band_normal.specs.declared.band.Band.{Band}
use Rattle.itpg_base.specs.Lists.{Among, Ordered}
use Rattle.band_normal.specs.Bands.{end_at, InBand, IsWellFormed}
use Rattle.band_normal.specs.Normal.{IsRun, Steps, IsRow, IsStrip}
use Rattle.band_normal.specs.Strips.{Holds}
use Rattle.band_normal.specs.Rows.{Continues, IsRowTo, AreApart}
use Rattle.band_normal.specs.Links.{EndsBefore, EndsUpTo, last_low_of, last_corner, corner_before, cleared, LinksStrip}
use Rattle.itpg_base.proofs.Lists.{among_append, append_first, append_second, append_ordered, among_at, place_of, ordered_first, ordered_across, ordered_by_place}
use Rattle.band_normal.proofs.Unique.{same_run, continued_one, steps_near}
use Rattle.band_normal.proofs.Sorting.{clamped-end}

pub not_none : (b : Band) → None ≡ Some b → ⊥
not_none b e = let none : ⊥ = cc in none

pub some_one : (b c : Band) → Some b ≡ Some c → b ≡ c
some_one b c e = cc

last_low-is : (b : Band) → IsWellFormed b → last_low_of b ≡ end_at b.low b.to
last_low-is b w = clamped-end b.low b.to (w.low b.to w.span (omega (arith, ints)))

-- a row up to where it ends holds its last low end
pub last_pair : (R : ℤ → ℤ → Type 0) (b : Band) → IsStrip R b → InBand b b.to (end_at b.low b.to)
last_pair R b s = let some = (s.runs b.to s.span (omega (arith, ints))).some in record { from = s.span; to = omega (arith, ints); low = omega (arith, ints); high = some }

-- the rows under way, by their places
pub record IsOpen (slots : List (Option Band)) (k : ℕ) (b : Band) : Type 0 where
  pub is : get_or slots k None ≡ Some b

-- the row ends as the strip at its place does
pub record EndsThere (ends : List Band) (k : ℕ) (b : Band) : Type 0 where
  pub within : k < length ends
  pub to : (d : Band) → (get_or ends k d).to ≡ b.to
  pub low : (d : Band) → end_at (get_or ends k d).low b.to ≡ end_at b.low b.to

pub record AreLinking (R : ℤ → ℤ → Type 0) (ends done complete : List Band) (slots : List (Option Band)) : Type 0 where
  pub some : length slots ≡ length ends
  pub stop : (b : Band) → Among complete b → IsRow R b
  pub reach : (k : ℕ) (b : Band) → IsOpen slots k b → IsRowTo R b.to b
  pub ends_there : (k : ℕ) (b : Band) → IsOpen slots k b → EndsThere ends k b
  pub free : (k : ℕ) (b s : Band) → IsOpen slots k b → Among done s → Continues b s → ⊥
  pub whole : (t u : ℤ) → Holds done t u → Holds complete t u ⊎ ((k : ℕ) × ((b : Band) × (IsOpen slots k b × InBand b t u)))
  pub sound_complete : (b : Band) (t u : ℤ) → Among complete b → InBand b t u → Holds done t u
  pub sound_open : (k : ℕ) (b : Band) (t u : ℤ) → IsOpen slots k b → InBand b t u → Holds done t u
  pub apart : Ordered AreApart complete
  pub complete_open : (x : Band) (k : ℕ) (y : Band) → Among complete x → IsOpen slots k y → AreApart x y
  pub open_open : (k j : ℕ) (x y : Band) → IsOpen slots k x → IsOpen slots j y → k ≢ j → AreApart x y

nat_same : (i j : ℕ) → (i ≡ j) ⊎ (i ≢ j)
nat_same zero zero = inl refl
nat_same zero (suc j) = inr (λ e. omega arith)
nat_same (suc i) zero = inr (λ e. omega arith)
nat_same (suc i) (suc j) = ⊎_elim (λ e. inl (ap suc e)) (λ n. inr (λ e. n (omega arith))) (nat_same i j)

pub lt_or_eq : (i n : ℕ) → i ≤ n → (i < n) ⊎ (i ≡ n)
lt_or_eq i n le = ⊎_elim (λ e. inr e) (λ ne. inl (omega arith)) (nat_same i n)

lt_or_le : (i n : ℕ) → (i < n) ⊎ (n ≤ i)
lt_or_le zero zero = inr (omega arith)
lt_or_le zero (suc n) = inl (omega arith)
lt_or_le (suc i) zero = inr (omega arith)
lt_or_le (suc i) (suc n) = ⊎_elim (λ lt. inl (omega arith)) (λ le. inr (omega arith)) (lt_or_le i n)

same_corner : (e s : Band) → EndsUpTo e s → (EndsBefore e (last_corner s) → ⊥) → (e.to ≡ s.to) × (last_low_of e ≡ last_low_of s)
same_corner e s (inl lt) n = absurd (n (inl lt))
same_corner e s (inr (q, le)) n = (q, by_lt_z (last_low_of e) (last_low_of s) (λ lt. absurd (n (inr (q, lt)))) (λ ge. omega (arith, ints)))

-- what is under way once a row was taken from its place
cleared_was : (slots : List (Option Band)) (from : ℕ) (row : Option Band) → (k : ℕ) (b : Band) → ((c : Band) → row ≡ Some c → from < length slots) → IsOpen (cleared slots from row) k b → IsOpen slots k b × ((c : Band) → row ≡ Some c → k ≢ from)
cleared_was slots from None k b within o = (o, λ c e. absurd (not_none c e))
cleared_was slots from (Some c) k b within o = by_place (nat_same k from)
  where
    by_place : (k ≡ from) ⊎ (k ≢ from) → IsOpen slots k b × ((d : Band) → Some c ≡ Some d → k ≢ from)
    by_place (inl e) = absurd (not_none b (sym (get_or-set_same slots from None None (within c refl)) ∙ subst (λ (v : ℕ). get_or (set slots from None) v None ≡ Some b) e o.is))
    by_place (inr n) = (record { is = sym (get_or-set_other slots from k None None n) ∙ o.is }, λ d e. n)

-- what stays under way
cleared_stays : (slots : List (Option Band)) (from : ℕ) (row : Option Band) (k : ℕ) (b : Band) → ((c : Band) → row ≡ Some c → k ≢ from) → IsOpen slots k b → IsOpen (cleared slots from row) k b
cleared_stays slots from None k b n o = o
cleared_stays slots from (Some c) k b n o = record { is = get_or-set_other slots from k None None (n c refl) ∙ o.is }

cleared_len : (slots : List (Option Band)) (from : ℕ) (row : Option Band) → length (cleared slots from row) ≡ length slots
cleared_len slots from None = refl
cleared_len slots from (Some c) = length-set slots from None

module _ (R : ℤ → ℤ → Type 0) (ends done complete : List Band) (slots : List (Option Band)) (s : Band) (from at : ℕ) (complete' : List Band) (slots' : List (Option Band))
    (a : AreLinking R ends done complete slots) (st : IsStrip R s) (well : IsWellFormed s) (ends_strips : (b : Band) → Among ends b → IsStrip R b) (ends_well : (b : Band) → Among ends b → IsWellFormed b)
    (order : Ordered EndsUpTo ends) (ends_apart : Ordered AreApart ends) (here : Among ends s)
    (new : (b : Band) → Among done b → AreApart b s) (earlier : (b : Band) → Among done b → b.from ≤ℤ s.from)
    (from_within : from ≤ length ends) (from_before : (i : ℕ) (d : Band) → i < from → EndsBefore (get_or ends i d) (corner_before s)) (from_after : (i : ℕ) (d : Band) → from ≤ i → i < length ends → EndsBefore (get_or ends i d) (corner_before s) → ⊥)
    (at_within : at ≤ length ends) (at_before : (i : ℕ) (d : Band) → i < at → EndsBefore (get_or ends i d) (last_corner s)) (at_after : (i : ℕ) (d : Band) → at ≤ i → i < length ends → EndsBefore (get_or ends i d) (last_corner s) → ⊥)
    (l : LinksStrip R complete slots from at s complete' slots') where
  led_is : (o : Option Band) (b : Band) → Among (option_to_list o) b → o ≡ Some b
  led_is None b k = absurd k
  led_is (Some c) b k = ⊎_elim (λ e. ap Some e) absurd k

  led_among : (o : Option Band) (b : Band) → o ≡ Some b → Among (option_to_list o) b
  led_among None b e = absurd (not_none b e)
  led_among (Some c) b e = inl (some_one c b e)

  led_open : (b : Band) → l.row ≡ Some b → IsOpen slots from b
  led_open b e = record { is = l.is_there b e }

  led_within : (b : Band) → l.row ≡ Some b → from < length slots
  led_within b e = let w = (a.ends_there from b (led_open b e)).within in let q = a.some in omega arith

  -- the strip's own place
  s_place : (k : ℕ) × (k < length ends) × ((d : Band) → get_or ends k d ≡ s)
  s_place = place_of ends s here

  low_is : (b : Band) → Among ends b → last_low_of b ≡ end_at b.low b.to
  low_is b i = last_low-is b (ends_well b i)

  not_before_self : EndsBefore s (last_corner s) → ⊥
  not_before_self (inl lt) = omega (arith, ints)
  not_before_self (inr (e, lt)) = omega (arith, ints)

  at_first : at ≤ s_place.0
  at_first = ⊎_elim (λ lt. absurd (not_before_self (subst (λ (v : Band). EndsBefore v (last_corner s)) (s_place.2 s) (at_before s_place.0 s lt)))) (λ le. le) (lt_or_le s_place.0 at)

  at_in : at < length ends
  at_in = let w = s_place.1 in let f = at_first in omega arith

  at_alike : (d : Band) → ((get_or ends at d).to ≡ s.to) × (last_low_of (get_or ends at d) ≡ last_low_of s)
  at_alike d = ⊎_elim
      (λ lt. same_corner (get_or ends at d) s (subst (λ (v : Band). EndsUpTo (get_or ends at d) v) (s_place.2 d) (ordered_by_place EndsUpTo ends order at s_place.0 d lt s_place.1)) (at_after at d (omega arith) at_in))
      (λ e. let q : get_or ends at d ≡ s = subst (λ (v : ℕ). get_or ends v d ≡ s) (sym e) (s_place.2 d) in (ap (λ (v : Band). v.to) q, ap (λ (v : Band). last_low_of v) q))
      (lt_or_eq at s_place.0 at_first)

  at_there : EndsThere ends at s
  at_there = record {
    within = at_in;
    to = λ d. (at_alike d).0;
    low = λ d.
        let q = at_alike d in
        let e = low_is (get_or ends at d) (among_at ends at d at_in) in
        let f = last_low-is s well in
        subst (λ (v : ℤ). end_at (get_or ends at d).low v ≡ end_at s.low s.to) q.0 (sym e ∙ q.1 ∙ f);
  }

  -- no row stands where the strip's will
  at_free : (b : Band) → IsOpen slots at b → ⊥
  at_free b o =
      let x = a.ends_there at b o in
      let to : b.to ≡ s.to = sym (x.to s) ∙ at_there.to s in
      let low : end_at b.low b.to ≡ end_at s.low s.to = sym (x.low s) ∙ subst (λ (v : ℤ). end_at (get_or ends at s).low v ≡ end_at s.low s.to) (sym to) (at_there.low s) in
      let h = a.sound_open at b b.to (end_at b.low b.to) o (last_pair R b (a.reach at b o).strip) in
      let p : InBand s b.to (end_at b.low b.to) = subst (λ (v : ℤ). InBand s v (end_at b.low b.to)) (sym to) (subst (λ (v : ℤ). InBand s s.to v) (sym low) (last_pair R s st)) in
      new h.0 h.1 b.to (end_at b.low b.to) h.2 p

  -- the row that goes on ends with the strip's last run
  goes_low : (l.goes_on.to ≡ s.to) × (end_at l.goes_on.low l.goes_on.to ≡ end_at s.low s.to)
  goes_low =
      let g = l.joint.goes_on in
      let to = g.to in
      let pair = last_pair R l.goes_on g.strip in
      let inside : InBand s l.goes_on.to (end_at l.goes_on.low l.goes_on.to) = ⊎_elim
      (λ k. absurd (let c = (l.continues k.0 (led_is l.row k.0 k.1)).next in let b = k.2.to in let q = st.span in omega (arith, ints)))
      (λ k. k) (l.joint.sound l.goes_on.to (end_at l.goes_on.low l.goes_on.to) (inr pair)) in
      let x = inside.low in let y = inside.high in
      let last = g.strip.runs l.goes_on.to g.strip.span (omega (arith, ints)) in
      let some = last.some in
      let run = st.runs l.goes_on.to inside.from inside.to in
      let one = (same_run R l.goes_on.to _ _ _ _ last run (omega (arith, ints)) (omega (arith, ints))).0 in
      (to, subst (λ (v : ℤ). end_at l.goes_on.low l.goes_on.to ≡ end_at s.low v) to one)

  -- two rows that the strip continues share a pair
  share : (b c : Band) → IsRowTo R b.to b → IsRowTo R c.to c → Continues b s → Continues c s → AreApart b c → ⊥
  share b c rb rc cb cc apart =
      let to_b = cb.next in let to_c = cc.next in let span_b = rb.strip.span in let span_c = rc.strip.span in
      let same : b.to ≡ c.to = omega (arith, ints) in
      let last_b = rb.strip.runs b.to span_b (omega (arith, ints)) in
      let last_c = rc.strip.runs b.to (omega (arith, ints)) (omega (arith, ints)) in
      let first = st.runs s.from (omega (arith, ints)) st.span in
      let q = continued_one R b.to _ _ _ _ _ _ first.some last_b last_c cb.low cb.high
      (subst (λ (v : ℤ). Steps (end_at c.low v) (end_at s.low s.from)) (sym same) cc.low) (subst (λ (v : ℤ). Steps (end_at c.high v) (end_at s.high s.from)) (sym same) cc.high) in
      let q0 = q.0 in let q1 = q.1 in let some = last_b.some in
      apart b.to (end_at b.low b.to)
      (record { from = span_b; to = omega (arith, ints); low = omega (arith, ints); high = some })
      (record { from = omega (arith, ints); to = omega (arith, ints); low = omega (arith, ints); high = omega (arith, ints) })

  -- where no row was taken, the strip continues none
  not_under : (b e : Band) → e.to ≡ b.to → last_low_of e ≡ end_at b.low b.to → Continues b s → EndsBefore e (corner_before s) → ⊥
  not_under b e q r c (inl lt) = let n = c.next in omega (arith, ints)
  not_under b e q r c (inr (t, lt)) = let near = steps_near _ _ c.low in let n = near.1 in omega (arith, ints)

  no_other : l.row ≡ None → (k : ℕ) (b : Band) → IsOpen slots k b → Continues b s → ⊥
  no_other e k b o c =
      let x = a.ends_there k b o in
      let f = get_or ends k s in
      let fin = among_at ends k s x.within in
      let f_low : last_low_of (get_or ends k s) ≡ end_at b.low b.to = low_is (get_or ends k s) fin ∙ subst (λ (v : ℤ). end_at (get_or ends k s).low v ≡ end_at b.low b.to) (sym (x.to s)) (x.low s) in
      let f_not = not_under b (get_or ends k s) (x.to s) f_low c in
      ⊎_elim (λ lt. f_not (from_before k s lt))
      (λ le. ⊎_elim
      (λ lt. later_place (get_or ends from s) (get_or ends k s) (among_at ends from s (let w = x.within in omega arith)) fin (x.to s) f_low
      (ordered_by_place EndsUpTo ends order from k s lt x.within) (from_after from s (omega arith) (let w = x.within in omega arith)) (ordered_by_place AreApart ends ends_apart from k s lt x.within))
      (λ g. l.none e b (subst (λ (v : ℕ). get_or slots v None ≡ Some b) (sym g) o.is) c)
      (lt_or_eq from k le))
      (lt_or_le k from)
    where
      later_place : (x y : Band) → Among ends x → Among ends y → y.to ≡ b.to → last_low_of y ≡ end_at b.low b.to → EndsUpTo x y → (EndsBefore x (corner_before s) → ⊥) → AreApart x y → ⊥
      later_place x y i j to low (inl lt) not apart = let n = c.next in not (inl (omega (arith, ints)))
      later_place x y i j to low (inr (t, le)) not apart =
          let n = c.next in
          let near = steps_near _ _ c.low in let n0 = near.0 in let n1 = near.1 in
          let lx = low_is x i in let ly = low_is y j in
          let above : (end_at s.low s.from -ℤ pos 1) ≤ℤ last_low_of x = by_lt_z (last_low_of x) (end_at s.low s.from -ℤ pos 1) (λ lt. absurd (not (inr (omega (arith, ints), lt)))) (λ ge. ge) in
          let rx = (ends_strips x i).runs x.to (ends_strips x i).span (omega (arith, ints)) in
          let ry = (ends_strips y j).runs y.to (ends_strips y j).span (omega (arith, ints)) in
          let sx = rx.some in let sy = ry.some in
          let ry' : IsRun R x.to (end_at y.low y.to) (end_at y.high y.to) = subst (λ (v : ℤ). IsRun R v (end_at y.low y.to) (end_at y.high y.to)) (sym t) ry in
          let q = (same_run R x.to _ _ _ _ rx ry' (omega (arith, ints)) (omega (arith, ints))).0 in
          apart x.to (end_at x.low x.to) (last_pair R x (ends_strips x i))
          (subst (λ (v : ℤ). InBand y x.to v) (sym q) (subst (λ (v : ℤ). InBand y v (end_at y.low y.to)) (sym t) (last_pair R y (ends_strips y j))))

  -- what is under way afterwards
  was : (k : ℕ) (b : Band) → IsOpen slots' k b → ((k ≡ at) × (l.goes_on ≡ b)) ⊎ ((k ≢ at) × (IsOpen slots k b × ((c : Band) → l.row ≡ Some c → k ≢ from)))
  was k b o = ⊎_elim
      (λ e. inl (
        e,
        some_one l.goes_on b (sym (get_or-set_same (cleared slots from l.row) at (Some l.goes_on) None (let q = cleared_len slots from l.row in let r = a.some in let w = at_in in omega arith))
            ∙ subst (λ (v : List (Option Band)). get_or v at None ≡ Some b) l.slots_is (subst (λ (v : ℕ). get_or slots' v None ≡ Some b) e o.is)),
      ))
      (λ n. inr (n, cleared_was slots from l.row k b led_within (record { is = sym (get_or-set_other (cleared slots from l.row) at k (Some l.goes_on) None n) ∙ subst (λ (v : List (Option Band)). get_or v k None ≡ Some b) l.slots_is o.is })))
      (nat_same k at)

  stays : (k : ℕ) (b : Band) → IsOpen slots k b → ((c : Band) → l.row ≡ Some c → k ≢ from) → IsOpen slots' k b
  stays k b o n =
      let off : k ≢ at = λ e. at_free b (subst (λ (v : ℕ). IsOpen slots v b) e o) in
      record { is = subst (λ (v : List (Option Band)). get_or v k None ≡ Some b) (sym l.slots_is) (get_or-set_other (cleared slots from l.row) at k (Some l.goes_on) None off ∙ (cleared_stays slots from l.row k b n o).is) }

  put : IsOpen slots' at l.goes_on
  put = record { is = subst (λ (v : List (Option Band)). get_or v at None ≡ Some l.goes_on) (sym l.slots_is) (get_or-set_same (cleared slots from l.row) at (Some l.goes_on) None (let q = cleared_len slots from l.row in let r = a.some in let w = at_in in omega arith)) }

  -- a pair of the row that was taken, or of the strip
  abbrev Old : ℤ → ℤ → Type 0
  Old t u = Holds (option_to_list l.row) t u ⊎ InBand s t u

  -- rows that stay hold none of them
  fresh : (y : Band) → Among complete y ⊎ ((k : ℕ) × (IsOpen slots k y × ((c : Band) → l.row ≡ Some c → k ≢ from))) → (t u : ℤ) → Old t u → InBand y t u → ⊥
  fresh y (inl i) t u (inl h) p = a.complete_open y from h.0 i (led_open h.0 (led_is l.row h.0 h.1)) t u p h.2
  fresh y (inr w) t u (inl h) p = a.open_open w.0 from y h.0 w.1.0 (led_open h.0 (led_is l.row h.0 h.1)) (w.1.1 h.0 (led_is l.row h.0 h.1)) t u p h.2
  fresh y (inl i) t u (inr q) p = let h = a.sound_complete y t u i p in new h.0 h.1 t u h.2 q
  fresh y (inr w) t u (inr q) p = let h = a.sound_open w.0 y t u w.1.0 p in new h.0 h.1 t u h.2 q

  sound_new : (x : Band) → Among l.stopped x ⊎ (l.goes_on ≡ x) → (t u : ℤ) → InBand x t u → Old t u
  sound_new x i t u p = l.joint.sound t u (⊎_elim (λ k. inl (x, k, p)) (λ (g : l.goes_on ≡ x). inr (subst (λ (v : Band). InBand v t u) (sym g) p)) i)

  old_done : (t u : ℤ) → Old t u → Holds (done ++ s ∷ []) t u
  old_done t u (inl h) = let k = a.sound_open from h.0 t u (led_open h.0 (led_is l.row h.0 h.1)) h.2 in (k.0, append_first done (s ∷ []) k.0 k.1, k.2)
  old_done t u (inr p) = (s, append_second done (s ∷ []) s (inl refl), p)

  grow : (t u : ℤ) → Holds done t u → Holds (done ++ s ∷ []) t u
  grow t u h = (h.0, append_first done (s ∷ []) h.0 h.1, h.2)

  in_complete : (x : Band) → Among complete' x → Among complete x ⊎ Among l.stopped x
  in_complete x i = among_append complete l.stopped x (subst (λ (v : List Band). Among v x) l.complete_is i)

  complete_in : (x : Band) → Among complete x ⊎ Among l.stopped x → Among complete' x
  complete_in x i = subst (λ (v : List Band). Among v x) (sym l.complete_is) (⊎_elim (λ k. append_first complete l.stopped x k) (λ k. append_second complete l.stopped x k) i)

  abbrev Placed : ℤ → ℤ → Type 0
  Placed t u = Holds complete' t u ⊎ ((k : ℕ) × ((b : Band) × (IsOpen slots' k b × InBand b t u)))

  made : (t u : ℤ) → Old t u → Placed t u
  made t u h = ⊎_elim (λ k. inl (k.0, complete_in k.0 (inr k.1), k.2)) (λ p. inr (at, (l.goes_on, (put, p)))) (l.joint.whole t u h)

  kept : (t u : ℤ) → Holds complete t u ⊎ ((k : ℕ) × ((b : Band) × (IsOpen slots k b × InBand b t u))) → Placed t u
  kept t u (inl h) = inl (h.0, complete_in h.0 (inl h.1), h.2)
  kept t u (inr w) = by_row l.row refl
    where
      by_row : (o : Option Band) → l.row ≡ o → Placed t u
      by_row None e = inr (w.0, (w.1.0, (stays w.0 w.1.0 w.1.1.0 (λ c q. absurd (not_none c (sym e ∙ q))), w.1.1.1)))
      by_row (Some c) e = ⊎_elim
          (λ (q : w.0 ≡ from). let same : c ≡ w.1.0 = some_one c w.1.0 (sym (l.is_there c e) ∙ subst (λ (v : ℕ). get_or slots v None ≡ Some w.1.0) q w.1.1.0.is) in
          made t u (inl (c, led_among l.row c e, subst (λ (v : Band). InBand v t u) (sym same) w.1.1.1)))
          (λ n. inr (w.0, (w.1.0, (stays w.0 w.1.0 w.1.1.0 (λ d q. n), w.1.1.1))))
          (nat_same w.0 from)

  free_now : (k : ℕ) (b : Band) → IsOpen slots k b → ((c : Band) → l.row ≡ Some c → k ≢ from) → Continues b s → ⊥
  free_now k b o n c = by_row l.row refl
    where
      by_row : (r : Option Band) → l.row ≡ r → ⊥
      by_row None e = no_other e k b o c
      by_row (Some d) e = share b d (a.reach k b o) (a.reach from d (led_open d e)) c (l.continues d e) (a.open_open k from b d o (led_open d e) (n d e))

  pub linking_step : AreLinking R ends (done ++ s ∷ []) complete' slots'
  linking_step = record {
    some = subst (λ (v : List (Option Band)). length v ≡ length ends) (sym l.slots_is) (length-set (cleared slots from l.row) at (Some l.goes_on) ∙ cleared_len slots from l.row ∙ a.some);
    stop = λ b i. ⊎_elim (λ k. a.stop b k) (λ k. (l.joint.stops b k).0) (in_complete b i);
    reach = λ k b o. ⊎_elim
        (λ w. subst (λ (v : Band). IsRowTo R v.to v) w.1 (subst (λ (v : ℤ). IsRowTo R v l.goes_on) (sym goes_low.0) l.joint.goes_on))
        (λ w. a.reach k b w.1.0) (was k b o);
    ends_there = λ k b o. ⊎_elim
        (λ w. subst (λ (v : Band). EndsThere ends k v) w.1 (subst (λ (v : ℕ). EndsThere ends v l.goes_on) (sym w.0) goes_there))
        (λ w. a.ends_there k b w.1.0) (was k b o);
    free = λ k b x o i c. ⊎_elim
        (λ w. goes_free b x w.1 i c)
        (λ w. ⊎_elim (λ j. a.free k b x w.1.0 j c) (λ j. free_now k b w.1.0 w.1.1 (⊎_elim (λ e. subst (λ (v : Band). Continues b v) (sym e) c) absurd j)) (among_append done (s ∷ []) x i))
        (was k b o);
    whole = λ t u h. ⊎_elim
        (λ i. kept t u (a.whole t u (h.0, i, h.2)))
        (λ i. made t u (inr (⊎_elim (λ e. subst (λ (v : Band). InBand v t u) (sym e) h.2) absurd i)))
        (among_append done (s ∷ []) h.0 h.1);
    sound_complete = λ b t u i p. ⊎_elim (λ k. grow t u (a.sound_complete b t u k p)) (λ k. old_done t u (sound_new b (inl k) t u p)) (in_complete b i);
    sound_open = λ k b t u o p. ⊎_elim (λ w. old_done t u (sound_new b (inr w.1) t u p)) (λ w. grow t u (a.sound_open k b t u w.1.0 p)) (was k b o);
    apart = subst (λ (v : List Band). Ordered AreApart v) (sym l.complete_is)
        (append_ordered AreApart complete l.stopped a.apart (ordered_first AreApart l.stopped (l.goes_on ∷ []) l.joint.apart)
        (λ x y i j t u p q. fresh x (inl i) t u (sound_new y (inl j) t u q) p));
    complete_open = λ x k y i o. ⊎_elim
        (λ j. ⊎_elim (λ w t u p q. fresh x (inl j) t u (sound_new y (inr w.1) t u q) p) (λ w. a.complete_open x k y j w.1.0) (was k y o))
        (λ j. ⊎_elim (λ w. subst (λ (v : Band). AreApart x v) w.1 (ordered_across AreApart l.stopped (l.goes_on ∷ []) l.joint.apart x l.goes_on j (inl refl)))
        (λ w t u p q. fresh y (inr (k, w.1)) t u (sound_new x (inl j) t u p) q) (was k y o))
        (in_complete x i);
    open_open = λ k j x y o q n. ⊎_elim
        (λ w. ⊎_elim (λ v. absurd (n (w.0 ∙ sym v.0))) (λ v t u p r. fresh y (inr (j, v.1)) t u (sound_new x (inr w.1) t u p) r) (was j y q))
        (λ w. ⊎_elim (λ v t u p r. fresh x (inr (k, w.1)) t u (sound_new y (inr v.1) t u r) p) (λ v. a.open_open k j x y w.1.0 v.1.0 n) (was j y q))
        (was k x o);
  }
    where
      goes_there : EndsThere ends at l.goes_on
      goes_there = record {
        within = at_in;
        to = λ d. at_there.to d ∙ sym goes_low.0;
        low = λ d. subst (λ (v : ℤ). end_at (get_or ends at d).low v ≡ end_at l.goes_on.low l.goes_on.to) (sym goes_low.0) (at_there.low d ∙ sym goes_low.1);
      }

      goes_free : (b x : Band) → l.goes_on ≡ b → Among (done ++ s ∷ []) x → Continues b x → ⊥
      goes_free b x e i c =
          let g = goes_low.0 in
          let q = ap (λ (v : Band). v.to) e in
          let n = c.next in let span = st.span in
          ⊎_elim (λ j. let le = earlier x j in omega (arith, ints)) (λ j. ⊎_elim (λ (f : s ≡ x). let r = ap (λ (v : Band). v.from) f in omega (arith, ints)) absurd j) (among_append done (s ∷ []) x i)
