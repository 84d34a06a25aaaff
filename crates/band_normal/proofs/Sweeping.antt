-- Bands that wait to begin, and bands that are active, along a sweep of the departures.
use Rattle.std.proofs.Common.{◌≡◌, ◌↔◌, ◌⊎◌, inl, inr, ⊎_elim, ℕ, ◌+◌, ◌<◌, ℤ, pos, negsuc, ◌+ℤ◌, ◌≤ℤ◌, ◌<ℤ◌, List, [], ◌∷◌, ◌++◌, length, get_or, take, drop, Bool, true, false, filter, refl, sym, ap, subst, arith, cond, ◌∙◌, ◌-ℤ◌, true≢false}
use borrow.Author.Differences.{up}
use Rattle.std.specs.Prelude.{int_le, IsTrue}
use Rattle.std.proofs.lemmas.List.{take_more}
use Rattle.std.proofs.lemmas.Int.{ints, by_lt_z}
use Rattle.std.specs.List.Sorted.{IsPermutation, IsSortedByKey}
use Rattle.std.specs.Ordering.{int_cmp}
use Rattle.band_normal.specs.declared.band.Band.{Band}
use Rattle.band_normal.specs.declared.strips.Stretch.{Stretch}
use Rattle.band_normal.specs.declared.strips.Ends.{Ends}
use Rattle.itpg_base.specs.Lists.{Among, Ordered}
use Rattle.band_normal.specs.Bands.{IsWellFormed}
use Rattle.band_normal.specs.Normal.{IsRun}
use Rattle.band_normal.specs.Actives.{IsActiveAt}
use Rattle.band_normal.specs.Strips.{Holds, BeginsEarlier, AreRuns}
use Rattle.itpg_base.proofs.Lists.{among_append, append_first, append_second, ordered_second, ordered_from, ordered_from_neighbours, permutation_among, among_permutation}
use Rattle.band_normal.proofs.Activity.{not_below}

pub later_than : (bands : List Band) (i : ℕ) (d : Band) (from : ℤ) → Ordered BeginsEarlier bands → i < length bands → from <ℤ (get_or bands i d).from → (b : Band) → Among (drop i bands) b → from <ℤ b.from
later_than bands i d from o lt later b h = ⊎_elim
    (λ e. let f = ap (λ (v : Band). v.from) e in omega (arith, ints))
    (λ le. omega (arith, ints))
    (ordered_from BeginsEarlier bands i d o lt b h)

pub begun_more : (bands : List Band) (i : ℕ) (d : Band) (from : ℤ) → i < length bands → ((b : Band) → Among (take i bands) b → b.from ≤ℤ from) → (get_or bands i d).from ≤ℤ from
    → (b : Band) → Among (take (i + 1) bands) b → b.from ≤ℤ from
begun_more bands i d from lt all here b h = ⊎_elim
    (λ j. all b j)
    (λ j. ⊎_elim (λ (e : get_or bands i d ≡ b). subst (λ (v : Band). v.from ≤ℤ from) e here) (λ f. absurd f) j)
    (among_append (take i bands) (get_or bands i d ∷ []) b (subst (λ (v : List Band). Among v b) (take_more bands i d lt) h))

pub not_after : (a b : ℤ) → (IsTrue false ↔ (a <ℤ b)) → b ≤ℤ a
not_after a b h = by_lt_z a b (λ lt. absurd (true≢false (sym (h.1 lt)))) (λ le. le)

pub record IsSweeping (held : List Band) (from : ℤ) (waiting active : List Band) : Type 0 where
  pub waits : (b : Band) → Among waiting b → Among held b
  pub acts : (b : Band) → Among active b → Among held b
  pub begun : (b : Band) → Among active b → b.from ≤ℤ from
  pub whole : (b : Band) → Among held b → Among waiting b ⊎ (Among active b ⊎ (b.to <ℤ from))
  pub order : Ordered BeginsEarlier waiting

filter_among : {X : Type 0} (p : X → Bool) (xs : List X) (x : X) → Among (filter p xs) x → Among xs x
filter_among p [] x h = absurd h
filter_among {X} p (y ∷ ys) x h = by_test (p y) (filter_among p ys x) h
  where
    by_test : (b : Bool) → (Among (filter p ys) x → Among ys x) → Among (cond b (y ∷ filter p ys) (filter p ys)) x → Among (y ∷ ys) x
    by_test true f (inl e) = inl e
    by_test true f (inr k) = inr (f k)
    by_test false f k = inr (f k)

among_filter : {X : Type 0} (p : X → Bool) (xs : List X) (x : X) → Among xs x → p x ≡ true → Among (filter p xs) x
among_filter p [] x h t = absurd h
among_filter {X} p (y ∷ ys) x h t = by_test (p y) refl (λ k. among_filter p ys x k t) h
  where
    by_test : (b : Bool) → p y ≡ b → (Among ys x → Among (filter p ys) x) → Among (y ∷ ys) x → Among (cond b (y ∷ filter p ys) (filter p ys)) x
    by_test true e f (inl g) = inl g
    by_test true e f (inr k) = inr (f k)
    by_test false e f (inl g) = absurd (true≢false (sym t ∙ ap p (sym g) ∙ e))
    by_test false e f (inr k) = f k

filter_passes : {X : Type 0} (p : X → Bool) (xs : List X) (x : X) → Among (filter p xs) x → p x ≡ true
filter_passes p [] x h = absurd h
filter_passes {X} p (y ∷ ys) x h = by_test (p y) refl (filter_passes p ys x) h
  where
    by_test : (b : Bool) → p y ≡ b → (Among (filter p ys) x → p x ≡ true) → Among (cond b (y ∷ filter p ys) (filter p ys)) x → p x ≡ true
    by_test true e f (inl g) = ap p (sym g) ∙ e
    by_test true e f (inr k) = f k
    by_test false e f k = f k

le_true : (a b : ℤ) → a ≤ℤ b → int_le a b ≡ true
le_true a b h = grind (arith, ints)

true_le : (a b : ℤ) → int_le a b ≡ true → a ≤ℤ b
true_le a b h = grind (arith, ints)

pub sweep_start : (bands : List Band) (from : ℤ) → Ordered BeginsEarlier bands → IsSweeping bands from bands []
sweep_start bands from o = record { waits = λ b i. i; acts = λ b i. absurd i; begun = λ b i. absurd i; whole = λ b i. inl i; order = o }

-- the bands that have begun are active, and those that are over are no more
module _ (held : List Band) (from : ℤ) (waiting begun later active active' : List Band) (w : IsSweeping held from waiting active) (parts : waiting ≡ begun ++ later)
    (is : active' ≡ filter (λ b. int_le from b.to) (active ++ begun)) (n : ℕ) (front : begun ≡ take n waiting) (started : (b : Band) → Among (take n waiting) b → b.from ≤ℤ from) where
  back : (b : Band) → Among (begun ++ later) b → Among waiting b
  back b i = subst (λ (v : List Band). Among v b) (sym parts) i

  kept : (b : Band) → Among active' b → Among active b ⊎ Among begun b
  kept b i = among_append active begun b (filter_among (λ v. int_le from v.to) (active ++ begun) b (subst (λ (v : List Band). Among v b) is i))

  now : (b : Band) → Among (active ++ begun) b → Among active' b ⊎ (b.to <ℤ from)
  now b i = by_lt_z b.to from (λ lt. inr lt)
      (λ le. inl (subst (λ (v : List Band). Among v b) (sym is) (among_filter (λ v. int_le from v.to) (active ++ begun) b i (le_true from b.to le))))

  pub sweep_advance : IsSweeping held from later active'
  sweep_advance = record {
    waits = λ b i. w.waits b (back b (append_second begun later b i));
    acts = λ b i. ⊎_elim (λ k. w.acts b k) (λ k. w.waits b (back b (append_first begun later b k))) (kept b i);
    begun = λ b i. ⊎_elim (λ k. w.begun b k) (λ k. started b (subst (λ (v : List Band). Among v b) front k)) (kept b i);
    whole = λ b i. ⊎_elim
        (λ k. ⊎_elim (λ m. inr (now b (append_second active begun b m))) (λ m. inl m) (among_append begun later b (subst (λ (v : List Band). Among v b) parts k)))
        (λ k. inr (⊎_elim (λ m. now b (append_first active begun b m)) (λ m. inr m) k))
        (w.whole b i);
    order = ordered_second BeginsEarlier begun later (subst (λ (v : List Band). Ordered BeginsEarlier v) parts w.order);
  }

  pub advanced_active : (b : Band) → Among active' b → IsActiveAt from b
  advanced_active b i = record {
    from = ⊎_elim (λ k. w.begun b k) (λ k. started b (subst (λ (v : List Band). Among v b) front k)) (kept b i);
    to = true_le from b.to (filter_passes (λ v. int_le from v.to) (active ++ begun) b (subst (λ (v : List Band). Among v b) is i));
  }

pub sweep_later : (held : List Band) (from from' : ℤ) (waiting active : List Band) → from ≤ℤ from' → IsSweeping held from waiting active → IsSweeping held from' waiting active
sweep_later held from from' waiting active le w = record {
  waits = w.waits;
  acts = w.acts;
  begun = λ b i. let a = w.begun b i in omega (arith, ints);
  whole = λ b i. ⊎_elim (λ k. inl k) (λ k. inr (⊎_elim (λ m. inl m) (λ m. inr (omega (arith, ints))) k)) (w.whole b i);
  order = w.order;
}

-- before a waiting band begins, the runs of the active bands are the runs of all
pub sweep_runs : (held : List Band) (s : Stretch) (waiting active : List Band) (runs : List Ends) → IsSweeping held s.from waiting active → ((b : Band) → Among waiting b → s.to <ℤ b.from)
    → AreRuns (Holds active) s runs → AreRuns (Holds held) s runs
sweep_runs held s waiting active runs w later h = record {
  each = λ e i t p q. run_at t p q _ _ (h.each e i t p q);
  whole = λ t u p q r. h.whole t u p q (there t u p q r);
  order = h.order;
}
  where
    back : (t u : ℤ) → Holds active t u → Holds held t u
    back t u k = (k.0, w.acts k.0 k.1, k.2)

    there : (t u : ℤ) → s.from ≤ℤ t → t ≤ℤ s.to → Holds held t u → Holds active t u
    there t u p q k = ⊎_elim
        (λ m. absurd (let a = later k.0 m in let b = k.2.from in omega (arith, ints)))
        (λ m. ⊎_elim (λ i. (k.0, i, k.2)) (λ lt. absurd (let b = k.2.to in omega (arith, ints))) m)
        (w.whole k.0 k.1)

    run_at : (t : ℤ) → s.from ≤ℤ t → t ≤ℤ s.to → (l u : ℤ) → IsRun (Holds active) t l u → IsRun (Holds held) t l u
    run_at t p q l u r = record {
      some = r.some;
      each = λ v a b. back t v (r.each v a b);
      below = λ k. r.below (there t (l -ℤ pos 1) p q k);
      above = λ k. r.above (there t (u +ℤ pos 1) p q k);
    }

-- bands in another order hold the same
pub holds-permutation : (xs ys : List Band) → IsPermutation xs ys → (t u : ℤ) → Holds ys t u ↔ Holds xs t u
holds-permutation xs ys p t u = (λ h. (h.0, permutation_among xs ys p h.0 h.1, h.2), λ h. (h.0, among_permutation xs ys p h.0 h.1, h.2))

pub sorted_earlier : (bands : List Band) → IsSortedByKey (λ (b : Band). b.from) int_cmp bands → Ordered BeginsEarlier bands
sorted_earlier bands h = ordered_from_neighbours BeginsEarlier (λ x y z a b. omega (arith, ints)) bands (λ k d l. not_below _ _ (h k d (omega arith) l))

-- the active bands of a sweep are well formed where all bands are
pub active_formed : (held bands waiting active : List Band) (from : ℤ) → held ≡ bands → ((b : Band) → Among bands b → IsWellFormed b) → IsSweeping held from waiting active → (b : Band) → Among active b → IsWellFormed b
active_formed held bands waiting active from e well w b i = well b (subst (λ (v : List Band). Among v b) e (w.acts b i))

pub up_of : (z : ℤ) → pos 0 ≤ℤ z → pos (up z) ≡ z
up_of (pos n) h = refl
up_of (negsuc n) h = absurd (omega (arith, ints))

-- less is left after a stretch
pub less_left : (from to last from' to' : ℤ) → from ≤ℤ to → from ≤ℤ last → last ≤ℤ to → from' ≡ last +ℤ pos 1 → to' ≡ to → up ((to' +ℤ pos 1) -ℤ from') < up ((to +ℤ pos 1) -ℤ from)
less_left from to last from' to' a b c e f =
    let new = up_of ((to' +ℤ pos 1) -ℤ from') (omega (arith, ints)) in
    let old = up_of ((to +ℤ pos 1) -ℤ from) (omega (arith, ints)) in
    omega (arith, ints)
