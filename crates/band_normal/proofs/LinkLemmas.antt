-- All strips linked to rows.
use Rattle.std.proofs.Common.{◌≡◌, ◌≢◌, inl, inr, ⊎_elim, ℕ, zero, suc, ◌+◌, ◌<◌, ◌≤◌, ℤ, pos, ◌+ℤ◌, List, [], ◌∷◌, ◌++◌, length, get_or, take, Option, None, Some, Result, Ok, Err, refl, sym, ◌∙◌, ap, subst, arith, append_assoc}
use Rattle.std.specs.Prelude.{IfOk, IfSome}
use Rattle.std.specs.Option.{option_to_list}
use Rattle.std.specs.Global.{Global}
use Rattle.std.specs.declared.vec.Vec.{Vec}
use Rattle.std.specs.declared.alloc.AllocError.{AllocError}
use Rattle.std.specs.List.{IsDistinct}
use Rattle.std.specs.List.Sorted.{IsPermutation, IsSortedByKey}
use Rattle.std.specs.Ordering.{int_cmp, ordering_then}
use Rattle.std.proofs.lemmas.Int.{ints, by_lt_z}
use Rattle.std.proofs.lemmas.List.{take_more}
use Rattle.std.proofs.lemmas.Map.Keys.{apart_from_distinct, IsDistinct-from_apart, IsDistinct-IsPermutation}
use Rattle.band_normal.specs.declared.band.Band.{Band}
use Rattle.band_normal.specs.declared.links.Corner.{Corner}
use Rattle.itpg_base.specs.Lists.{Among, Ordered}
use Rattle.band_normal.specs.Bands.{end_at, InBand, IsWellFormed}
use Rattle.band_normal.specs.Normal.{IsRun, Steps, IsRow, IsInRange}
use Rattle.band_normal.specs.Strips.{Holds, BeginsEarlier}
use Rattle.band_normal.specs.Zones.{present}
use Rattle.band_normal.specs.Rows.{Continues, CanFollow, AreApart, AreAll, first_low_of}
use Rattle.band_normal.specs.Links.{AreStrips, EndsUpTo, EndsBefore, last_low_of, LinksAt, CanLink, CanLinkAll}
use Rattle.itpg_base.proofs.Lists.{among_append, append_first, append_second, append_ordered, among_at, place_of, ordered_either, ordered_by_place, ordered_at, ordered_from_neighbours, among_permutation, permutation_among}
use Rattle.band_normal.proofs.Unique.{same_run, continued_one, end_steps}
use Rattle.band_normal.proofs.WellFormed.{strip-well_formed, held-in_range}
use Rattle.band_normal.proofs.Sweeping.{holds-permutation}
use Rattle.band_normal.proofs.Far.{all_like}
use Rattle.band_normal.proofs.CutLemmas.{strips_own}
use Rattle.band_normal.proofs.Sorting.{BeginAlike, alike, same, test_fails, fails_test, alike-flip, first_low-is, not_after}
use Rattle.band_normal.proofs.LinkSteps.{IsOpen, AreLinking, last_pair, some_one, not_none, lt_or_eq, linking_step}

-- what the full places hold
pub present_at : (os : List (Option Band)) (b : Band) → Among (present os) b → (k : ℕ) × IsOpen os k b
present_at [] b h = absurd h
present_at (None ∷ os) b h = let w = present_at os b h in (suc w.0, record { is = w.1.is })
present_at (Some x ∷ os) b (inl e) = (zero, record { is = ap Some e })
present_at (Some x ∷ os) b (inr h) = let w = present_at os b h in (suc w.0, record { is = w.1.is })

pub at_present : (os : List (Option Band)) (k : ℕ) (b : Band) → IsOpen os k b → Among (present os) b
at_present [] k b o = absurd (not_none b o.is)
at_present (None ∷ os) zero b o = absurd (not_none b o.is)
at_present (None ∷ os) (suc k) b o = at_present os k b (record { is = o.is })
at_present (Some x ∷ os) zero b o = inl (some_one x b o.is)
at_present (Some x ∷ os) (suc k) b o = inr (at_present os k b (record { is = o.is }))

pub present_apart : (os : List (Option Band)) → ((k j : ℕ) (x y : Band) → IsOpen os k x → IsOpen os j y → k ≢ j → AreApart x y) → Ordered AreApart (present os)
present_apart [] h = tt
present_apart (None ∷ os) h = present_apart os (λ k j x y o q n. h (suc k) (suc j) x y (record { is = o.is }) (record { is = q.is }) (λ e. n (omega arith)))
present_apart (Some z ∷ os) h = (
  λ y i. let w = present_at os y i in h zero (suc w.0) z y (record { is = refl }) (record { is = w.1.is }) (λ e. omega arith),
  present_apart os (λ k j x y o q n. h (suc k) (suc j) x y (record { is = o.is }) (record { is = q.is }) (λ e. n (omega arith))),
)

pub present_more : (os : List (Option Band)) (o : Option Band) → present (os ++ o ∷ []) ≡ present os ++ option_to_list o
present_more [] None = refl
present_more [] (Some x) = refl
present_more (None ∷ os) o = present_more os o
present_more (Some x ∷ os) o = ap (λ (v : List Band). x ∷ v) (present_more os o)

pub linking_start : (R : ℤ → ℤ → Type 0) (ends complete : List Band) (slots : List (Option Band)) → complete ≡ [] → length slots ≡ length ends → ((k : ℕ) → get_or slots k None ≡ None) → AreLinking R ends [] complete slots
linking_start R ends complete slots e len none = subst (λ (v : List Band). AreLinking R ends [] v slots) (sym e) (record {
  some = len;
  stop = λ b i. absurd i;
  reach = λ k b o. absurd (closed k b o);
  ends_there = λ k b o. absurd (closed k b o);
  free = λ k b s o i c. i;
  whole = λ t u h. absurd h.1;
  sound_complete = λ b t u i p. absurd i;
  sound_open = λ k b t u o p. absurd (closed k b o);
  apart = tt;
  complete_open = λ x k y i o. absurd i;
  open_open = λ k j x y o q n. absurd (closed k x o);
})
  where
    closed : (k : ℕ) (b : Band) → IsOpen slots k b → ⊥
    closed k b o = not_none b (sym (none k) ∙ o.is)

module _ (R : ℤ → ℤ → Type 0) (starts ends : List Band) (c : CanLinkAll R starts ends) where
  start_well : (b : Band) → Among starts b → IsWellFormed b
  start_well b i = strip-well_formed R b c.in_range (c.strips.each b i)

  pub can_link : (i : ℕ) (d : Band) (complete : List Band) (slots : List (Option Band)) → i < length starts → AreLinking R ends (take i starts) complete slots → CanLink R ends slots (get_or starts i d)
  can_link i d complete slots lt a = record {
    in_range = c.in_range;
    strip_runs = c.strips.each (get_or starts i d) (among_at starts i d lt);
    order = c.order;
    some = a.some;
    here = c.there (get_or starts i d) (among_at starts i d lt);
    rows_so_far = λ k b e. a.reach k b (record { is = e });
  }

  pub linking_more : (i : ℕ) (d : Band) (complete complete' : List Band) (slots slots' : List (Option Band)) → i < length starts → AreLinking R ends (take i starts) complete slots
      → LinksAt R ends complete slots (get_or starts i d) complete' slots' → AreLinking R ends (take (i + 1) starts) complete' slots'
  linking_more i d complete complete' slots slots' lt a l =
      let here = among_at starts i d lt in
      subst (λ (v : List Band). AreLinking R ends v complete' slots') (sym (take_more starts i d lt))
      (linking_step R ends (take i starts) complete slots (get_or starts i d) l.from l.at complete' slots' a (c.strips.each (get_or starts i d) here) (start_well (get_or starts i d) here)
      (λ b k. c.strips.each b (c.back b k)) (λ b k. start_well b (c.back b k)) c.order c.apart (c.there (get_or starts i d) here)
      (λ b k. ordered_at AreApart starts i d c.strips.apart lt b k) (λ b k. ordered_at BeginsEarlier starts i d c.begins lt b k)
      l.from_within l.from_before l.from_after l.at_within l.at_before l.at_after l.links)

  pub linking_end : (complete : List Band) (slots : List (Option Band)) → AreLinking R ends starts complete slots → AreAll R (complete ++ present slots)
  linking_end complete slots a = record {
    each = λ b i. ⊎_elim (λ j. a.stop b j) (λ j. let w = present_at slots b j in complete_row w.0 b w.1) (among_append complete (present slots) b i);
    whole = λ t u r. ⊎_elim
        (λ h. (h.0, append_first complete (present slots) h.0 h.1, h.2))
        (λ h. (h.1.0, append_second complete (present slots) h.1.0 (at_present slots h.0 h.1.0 h.1.1.0), h.1.1.1))
        (a.whole t u (c.strips.whole t u r));
    apart = append_ordered AreApart complete (present slots) a.apart (present_apart slots a.open_open) (λ x y i j. let w = present_at slots y j in a.complete_open x w.0 y i w.1);
  }
    where
      complete_row : (k : ℕ) (b : Band) → IsOpen slots k b → IsRow R b
      complete_row k b o =
          let w = a.reach k b o in
          record {
            span = w.strip.span;
            runs = w.strip.runs;
            single_low = w.single_low;
            single_high = w.single_high;
            stops = λ l u run sl sh. absurd (goes_on l u run sl sh);
          }
        where
          goes_on : (l u : ℤ) → IsRun R (b.to +ℤ pos 1) l u → Steps (end_at b.low b.to) l → Steps (end_at b.high b.to) u → ⊥
          goes_on l u run sl sh =
              let some = run.some in
              let h = c.strips.whole (b.to +ℤ pos 1) l (run.each l (omega (arith, ints)) some) in
              let s = h.0 in
              let st = c.strips.each h.0 h.1 in
              let from = h.2.from in let to = h.2.to in let low = h.2.low in let high = h.2.high in
              let first = st.runs (b.to +ℤ pos 1) from to in
              let q = same_run R (b.to +ℤ pos 1) _ _ _ _ first run (omega (arith, ints)) (omega (arith, ints)) in
              by_lt_z b.to (h.0).from
              (λ lt.
              let is : (h.0).from ≡ b.to +ℤ pos 1 = omega (arith, ints) in
              a.free k b h.0 o h.1 (record {
                next = is;
                low = subst (λ (v : ℤ). Steps (end_at b.low b.to) (end_at (h.0).low v)) (sym is) (subst (λ (v : ℤ). Steps (end_at b.low b.to) v) (sym q.0) sl);
                high = subst (λ (v : ℤ). Steps (end_at b.high b.to) (end_at (h.0).high v)) (sym is) (subst (λ (v : ℤ). Steps (end_at b.high b.to) v) (sym q.1) sh);
              }))
              (λ le.
              let w = a.reach k b o in
              let last = w.strip.runs b.to w.strip.span (omega (arith, ints)) in
              let some_last = last.some in
              let mine = st.runs b.to le (omega (arith, ints)) in
              let r = continued_one R b.to _ _ _ _ _ _ some mine last
              (subst (λ (v : ℤ). Steps (end_at (h.0).low b.to) v) q.0 (end_steps (h.0).low b.to)) (subst (λ (v : ℤ). Steps (end_at (h.0).high b.to) v) q.1 (end_steps (h.0).high b.to)) sl sh in
              let r0 = r.0 in let r1 = r.1 in
              let x = a.ends_there k b o in
              let e = get_or ends k b in
              let ein = c.back (get_or ends k b) (among_at ends k b x.within) in
              let eto = x.to b in let elow = x.low b in
              let ep : InBand (get_or ends k b) b.to (end_at b.low b.to) = subst (λ (v : ℤ). InBand (get_or ends k b) b.to v) elow (subst (λ (v : ℤ). InBand (get_or ends k b) v (end_at (get_or ends k b).low v)) eto (last_pair R (get_or ends k b) (c.strips.each (get_or ends k b) ein))) in
              let sp : InBand h.0 b.to (end_at b.low b.to) = record { from = le; to = omega (arith, ints); low = omega (arith, ints); high = omega (arith, ints) } in
              ⊎_elim
              (λ (g : h.0 ≡ get_or ends k b). let f = ap (λ (v : Band). v.to) g in omega (arith, ints))
              (λ m. ⊎_elim (λ p. p b.to (end_at b.low b.to) sp ep) (λ p. p b.to (end_at b.low b.to) ep sp) m)
              (ordered_either AreApart starts c.strips.apart h.0 (get_or ends k b) h.1 ein))

get_or-any : {X : Type 0} (xs : List X) (i : ℕ) (x y : X) → i < length xs → get_or xs i x ≡ get_or xs i y
get_or-any [] i x y lt = absurd (omega arith)
get_or-any (z ∷ zs) zero x y lt = refl
get_or-any (z ∷ zs) (suc i) x y lt = get_or-any zs i x y (omega arith)

-- places in order make a list in order
ordered_places : {X : Type 0} (Before : X → X → Type 0) (xs : List X) → ((i j : ℕ) (d : X) → i < j → j < length xs → Before (get_or xs i d) (get_or xs j d)) → Ordered Before xs
ordered_places Before [] h = tt
ordered_places {X} Before (x ∷ xs) h = (
  λ y i. let w = place_of xs y i in subst (λ (v : X). Before x v) (w.2 x) (h zero (suc w.0) x (omega arith) (let l = w.1 in omega arith)),
  ordered_places Before xs (λ i j d lt l. h (suc i) (suc j) d (omega arith) (omega arith)),
)

-- strips in another order are apart too
module _ (R : ℤ → ℤ → Type 0) (xs ys : List Band) (strips : AreStrips R xs) (well : (b : Band) → Among xs b → IsWellFormed b) (p : IsPermutation xs ys) where
  first_pair : (b : Band) → Among xs b → InBand b b.from (end_at b.low b.from)
  first_pair b i = let st = strips.each b i in let some = (st.runs b.from (omega (arith, ints)) st.span).some in record { from = omega (arith, ints); to = st.span; low = omega (arith, ints); high = some }

  alike_share : (x y : Band) → Among xs x → Among xs y → BeginAlike x y → AreApart x y → ⊥
  alike_share x y i j b apart =
      let e : end_at x.low x.from ≡ end_at y.low y.from = sym (first_low-is x (well x i)) ∙ b.1 ∙ first_low-is y (well y j) in
      apart y.from (end_at y.low y.from)
      (subst (λ (v : ℤ). InBand x v (end_at y.low y.from)) b.0 (subst (λ (v : ℤ). InBand x x.from v) e (first_pair x i)))
      (first_pair y j)

  distinct : IsDistinct alike ys
  distinct = IsDistinct-IsPermutation alike alike-flip xs ys p
      (IsDistinct-from_apart alike xs (λ i j d lt l. fails_test (same (get_or xs i d) (get_or xs j d))
      (λ b. alike_share (get_or xs i d) (get_or xs j d) (among_at xs i d (omega arith)) (among_at xs j d l) b (ordered_by_place AreApart xs strips.apart i j d lt l))))

  pub apart_permutation : Ordered AreApart ys
  apart_permutation = ordered_places AreApart ys (λ i j d lt l.
      let x = get_or ys i d in let y = get_or ys j d in
      let not = test_fails (same (get_or ys i d) (get_or ys j d)) (apart_from_distinct alike ys i j d distinct lt l) in
      ⊎_elim
      (λ (e : get_or ys i d ≡ get_or ys j d). absurd (not (ap (λ (v : Band). v.from) e, ap (λ (v : Band). first_low_of v) e)))
      (λ m. ⊎_elim (λ q. q) (λ q t u a b. q t u b a) m)
      (ordered_either AreApart xs strips.apart (get_or ys i d) (get_or ys j d) (permutation_among xs ys p (get_or ys i d) (among_at ys i d (omega arith))) (permutation_among xs ys p (get_or ys j d) (among_at ys j d l))))

pub sorted_ends : (strips : List Band) → IsSortedByKey (λ (b : Band). (b.to, last_low_of b)) (λ (x : ℤ × ℤ) (y : ℤ × ℤ). ordering_then (int_cmp x.0 y.0) (int_cmp x.1 y.1)) strips → Ordered EndsUpTo strips
sorted_ends strips up = ordered_from_neighbours EndsUpTo up_trans strips (λ k d lt. not_after _ _ _ _ (up k d (omega arith) lt))
  where
    up_trans : (x y z : Band) → EndsUpTo x y → EndsUpTo y z → EndsUpTo x z
    up_trans x y z (inl a) (inl b) = inl (omega (arith, ints))
    up_trans x y z (inl a) (inr (e, b)) = inl (omega (arith, ints))
    up_trans x y z (inr (e, a)) (inl b) = inl (omega (arith, ints))
    up_trans x y z (inr (e, a)) (inr (f, b)) = inr (e ∙ f, omega (arith, ints))

-- sorted both ways, strips can be linked
pub can_link_all : (strips starts ends : List Band) → ((b : Band) → Among strips b → IsWellFormed b) → AreStrips (Holds strips) strips → Ordered BeginsEarlier starts → IsPermutation strips starts → Ordered EndsUpTo ends → IsPermutation strips ends
    → IsInRange (Holds strips) → CanLinkAll (Holds strips) starts ends
can_link_all strips starts ends well h o p q r range = record {
  in_range = range;
  strips = record {
    each = λ b i. h.each b (permutation_among strips starts p b i);
    whole = λ t u k. let w = h.whole t u k in (w.0, among_permutation strips starts p w.0 w.1, w.2);
    apart = apart_permutation (Holds strips) strips starts h well p;
  };
  begins = o;
  order = q;
  apart = apart_permutation (Holds strips) strips ends h well r;
  there = λ b i. among_permutation strips ends r b (permutation_among strips starts p b i);
  back = λ b i. among_permutation strips starts p b (permutation_among strips ends r b i);
}

-- so for what the strips in order hold
pub can_link_sorted : (strips starts ends xs ys : List Band) → ((b : Band) → Among strips b → IsWellFormed b) → AreStrips (Holds strips) strips → Ordered BeginsEarlier starts → IsPermutation strips starts → Ordered EndsUpTo ends → IsPermutation strips ends
    → xs ≡ starts → ys ≡ ends → CanLinkAll (Holds xs) xs ys
can_link_sorted strips starts ends xs ys well h o p q r e f =
    let can = can_link_all strips starts ends well h o p q r (held-in_range strips well) in
    let own : CanLinkAll (Holds starts) starts ends = record {
      in_range = held-in_range starts (λ b i. well b (permutation_among strips starts p b i));
      strips = strips_own (Holds strips) starts can.strips;
      begins = can.begins;
      order = can.order;
      apart = can.apart;
      there = can.there;
      back = can.back;
    } in
    subst (λ (v : List Band). CanLinkAll (Holds v) v ys) (sym e) (subst (λ (v : List Band). CanLinkAll (Holds starts) starts v) (sym f) own)

up_before : (x y : Band) (c : Corner) → EndsUpTo x y → EndsBefore y c → EndsBefore x c
up_before x y c (inl a) (inl b) = inl (omega (arith, ints))
up_before x y c (inl a) (inr (e, b)) = inl (omega (arith, ints))
up_before x y c (inr (e, a)) (inl b) = inl (omega (arith, ints))
up_before x y c (inr (e, a)) (inr (f, b)) = inr (e ∙ f, omega (arith, ints))

end_up : (ends : List Band) → Ordered EndsUpTo ends → (i j : ℕ) (d : Band) → i ≤ j → j < length ends → EndsUpTo (get_or ends i d) (get_or ends j d)
end_up ends o i j d le lt = ⊎_elim
    (λ l. ordered_by_place EndsUpTo ends o i j d l lt)
    (λ e. subst (λ (v : ℕ). EndsUpTo (get_or ends i d) (get_or ends v d)) e (inr (refl, omega (arith, ints))))
    (lt_or_eq i j le)

pub half_before : (ends : List Band) (c : Corner) (middle : ℕ) (e : Band) → Ordered EndsUpTo ends → middle < length ends → EndsBefore (get_or ends middle e) c → (i : ℕ) (d : Band) → i < middle + 1 → EndsBefore (get_or ends i d) c
half_before ends c middle e o lt h i d l =
    up_before (get_or ends i d) (get_or ends middle d) c (end_up ends o i middle d (omega arith) lt) (subst (λ (v : Band). EndsBefore v c) (get_or-any ends middle e d lt) h)

pub half_after : (ends : List Band) (c : Corner) (middle : ℕ) (e : Band) → Ordered EndsUpTo ends → middle < length ends → (EndsBefore (get_or ends middle e) c → ⊥) → (i : ℕ) (d : Band) → middle ≤ i → i < length ends → EndsBefore (get_or ends i d) c → ⊥
half_after ends c middle e o lt h i d l lt2 b =
    h (subst (λ (v : Band). EndsBefore v c) (sym (get_or-any ends middle e d lt)) (up_before (get_or ends middle d) (get_or ends i d) c (end_up ends o middle i d l lt2) b))

pub slot_formed : (R : ℤ → ℤ → Type 0) (ends : List Band) (slots slots' : List (Option Band)) (strip : Band) (k : ℕ) (o : Option Band) → CanLink R ends slots strip → slots' ≡ slots → o ≡ get_or slots' k None → IfSome o (λ b. IsWellFormed b)
slot_formed R ends slots slots' strip k None c e f = tt
slot_formed R ends slots slots' strip k (Some b) c e f = strip-well_formed R b c.in_range (c.rows_so_far k b (sym (f ∙ ap (λ (v : List (Option Band)). get_or v k None) e))).strip

pub slot_follow : (R : ℤ → ℤ → Type 0) (ends : List Band) (slots slots' : List (Option Band)) (strip : Band) (k : ℕ) (o row : Option Band) → CanLink R ends slots strip → slots' ≡ slots → o ≡ get_or slots' k None
    → IfSome row (λ b. o ≡ Some b) → IfSome row (λ b. Continues b strip) → CanFollow R (option_to_list row) strip
slot_follow R ends slots slots' strip k o None c e f g h = record { in_range = c.in_range; strip_runs = c.strip_runs; row_so_far = λ b i. absurd i; continues = λ b i. absurd i }
slot_follow R ends slots slots' strip k o (Some r) c e f g h = record {
  in_range = c.in_range;
  strip_runs = c.strip_runs;
  row_so_far = λ b i. c.rows_so_far k b (sym (ap (λ (v : List (Option Band)). get_or v k None) e) ∙ sym f ∙ g ∙ ap Some (is b i));
  continues = λ b i. subst (λ (v : Band). Continues v strip) (is b i) h;
}
  where
    is : (b : Band) → Among (r ∷ []) b → r ≡ b
    is b i = ⊎_elim (λ q. q) absurd i

pub rows_more : (slots : List (Option Band)) (i : ℕ) (d : Option Band) (start complete complete' : List Band) → i < length slots → complete ≡ start ++ present (take i slots) → complete' ≡ complete ++ option_to_list (get_or slots i d)
    → complete' ≡ start ++ present (take (i + 1) slots)
rows_more slots i d start complete complete' lt e f =
    let P : List (Option Band) → Type 0 = λ v. complete' ≡ start ++ present v in
    let all : complete' ≡ (start ++ present (take i slots)) ++ option_to_list (get_or slots i d) = subst (λ (v : List Band). complete' ≡ v ++ option_to_list (get_or slots i d)) e f in
    subst P (sym (take_more slots i d lt))
    (subst (λ (v : List Band). complete' ≡ start ++ v) (sym (present_more (take i slots) (get_or slots i d))) (all ∙ append_assoc start (present (take i slots)) (option_to_list (get_or slots i d))))

pub ok_linked : (strips starts xs complete : List Band) (slots : List (Option Band)) (r : Result (Vec Band Global) AllocError) → IsPermutation strips starts → xs ≡ starts → AreAll (Holds xs) (complete ++ present slots) → IfOk r (λ v. v.items ≡ complete ++ present slots)
    → IfOk r (λ v. AreAll (Holds strips) v.items)
ok_linked strips starts xs complete slots (Ok v) p e a f =
    let b : AreAll (Holds starts) v.items = subst (λ (w : List Band). AreAll (Holds starts) w) (sym f) (subst (λ (w : List Band). AreAll (Holds w) (complete ++ present slots)) e a) in
    all_like (Holds starts) (Holds strips) v.items (λ t u. holds-permutation strips starts p t u) b
ok_linked strips starts xs complete slots (Err x) p e a f = tt
