-- What one item of a list of runs says of the parts before and after it: they rise.
use Rattle.std.proofs.Common.{◌≡◌, ℕ, ◌+◌, ◌<◌, ℤ, ◌≤ℤ◌, ◌<ℤ◌, List, length, get_or, take, drop, map, All, ap, sym, subst, arith, ◌∙◌}
use Rattle.std.proofs.lemmas.List.{length-take, length-drop, length-map, get_or-take, get_or-drop, get_or-map}
use Rattle.std.proofs.lemmas.Int.{ints}
use Rattle.itpg_base.specs.Graphs.{Valued, AreRunsOfValues}
use Rattle.interval_set.proofs.Rising.{rises}

module _ {X : Type 0} (run : X → Valued) (items : List X) (n : ℕ) (x : X) (m : ℤ) (c : AreRunsOfValues (map run items)) where
  -- where one begins after the moment, so do those behind it
  pub all_later : n < length items → x ≡ get_or items n x → m <ℤ (run x).span.from → All (λ r. m <ℤ r.span.from) (drop n (map run items))
  all_later within is late k d lt =
      let inside : n + k < length (map run items) = omega (arith, length-drop n (map run items)) in
      let r = rises (map run items) n (n + k) d c (omega arith) inside in
      let here : get_or (map run items) n d ≡ run x = get_or-map run items n x d within ∙ ap run (sym is) in
      let from = subst (λ (y : Valued). y.span.from ≤ℤ (get_or (map run items) (n + k) d).span.from) here r.from in
      rw (get_or-drop n (map run items) k d) (omega (arith, ints))

  -- where one begins by the moment, so do those before it
  pub all_earlier : n < length items → x ≡ get_or items n x → (run x).span.from ≤ℤ m → All (λ r. r.span.from ≤ℤ m) (take (n + 1) (map run items))
  all_earlier within is early k d lt =
      let below : k < n + 1 = omega (arith, length-take (n + 1) (map run items)) in
      let inside : n < length (map run items) = omega (arith, length-map items run) in
      let r = rises (map run items) k n d c (omega arith) inside in
      let here : get_or (map run items) n d ≡ run x = get_or-map run items n x d within ∙ ap run (sym is) in
      let from = subst (λ (y : Valued). (get_or (map run items) k d).span.from ≤ℤ y.span.from) here r.from in
      rw (get_or-take (n + 1) (map run items) k d below) (omega (arith, ints))
