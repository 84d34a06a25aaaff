-- The run of a list at which a moment is looked for: the first that ends at the moment or later.
use Rattle.std.proofs.Common.{◌≡◌, ◌↔◌, ⊎_elim, ℕ, ◌≤◌, ◌<◌, ℤ, map, ap, nat_lt, Option, Some, None, Bor, option_map, IfSome, is_some, ◌≤ℤ◌, ◌<ℤ◌, List, length, get_or, take, drop, All, sym, subst, refl, arith, ◌∙◌}
use Rattle.std.specs.Option.{option_copied}
use Rattle.std.proofs.lemmas.Bool.{cases_lt, ltb-true, ltb-false}
use Rattle.std.proofs.lemmas.List.{length-map, get_or-map}
use Rattle.std.proofs.lemmas.Int.{ints}
use Rattle.itpg_base.specs.Spans.{Within}
use Rattle.itpg_base.specs.Words.{Word}
use Rattle.itpg_base.specs.Graphs.{Valued, RunsHave, AreRunsOfValues}
use Rattle.interval_set.specs.Places.{IsNextRun, IsNext}
use Rattle.itpg_base.specs.Lists.{Among}
use Rattle.itpg_base.proofs.Lists.{among_at, place_of}
use Rattle.interval_set.proofs.Rising.{has_from, has_by, each_run_span, rises, one_run, precedes_later}
use Rattle.interval_set.proofs.Searched.{at_take, at_drop}

module _ (xs : List Valued) (t : ℤ) (n : ℕ) (c : AreRunsOfValues xs) (ended : All (λ r. r.span.to <ℤ t) (take n xs)) (going : All (λ r. t ≤ℤ r.span.to) (drop n xs)) where
  -- what the list has from the moment on lies in a run from that place on
  had_at : (u : ℤ) (value : Word) → t ≤ℤ u → RunsHave xs u value → (r : Valued) × Among xs r × Within u r.span × (r.value ≡ value) × (k : ℕ) × (n ≤ k) × (k < length xs) × ((d : Valued) → get_or xs k d ≡ r)
  had_at u value late h =
      let m = has_by xs u value h in
      let k = place_of xs m.0 m.1 in
      let w = m.2 in
      ⊎_elim
      (λ below.
      let early = subst (λ (y : Valued). y.span.to <ℤ t) (k.2 m.0) (at_take (λ r. r.span.to <ℤ t) xs n k.0 m.0 ended below k.1) in
      let until = w.going in absurd (omega (arith, ints)))
      (λ above. (m.0, m.1, m.2, m.3, k.0, above, k.1, k.2)) (cases_lt k.0 n)

  pub nothing_next : length xs ≤ n → (u : ℤ) (value : Word) → t ≤ℤ u → RunsHave xs u value → ⊥
  nothing_next past u value late h = let m = had_at u value late h in let above = m.5 in let below = m.6 in omega arith

  pub next_run : (x : Valued) → n < length xs → get_or xs n x ≡ x → IsNextRun xs t x
  next_run x within is =
      let member = subst (λ (y : Valued). Among xs y) is (among_at xs n x within) in
      record {
        span = each_run_span xs x c member;
        going = subst (λ (y : Valued). t ≤ℤ y.span.to) is (at_drop (λ r. t ≤ℤ r.span.to) xs n n x going (omega arith) within);
        has = λ u w. has_from xs x u x.value member w refl;
        first = λ u value late h.
            let m = had_at u value late h in
            let r = rises xs n m.4 x c m.5 m.6 in
            let w = m.2 in let begun = w.begun in
            let from = subst (λ (y : Valued). y.span.from ≤ℤ (m.0).span.from) is (subst (λ (y : Valued). (get_or xs n x).span.from ≤ℤ y.span.from) (m.7 x) r.from) in
            omega (arith, ints);
        only = λ u value w h. let m = has_by xs u value h in subst (λ (y : Valued). y.value ≡ value) (sym (one_run xs x m.0 u c member m.1 w m.2)) m.3;
        after = λ u value late h same.
            let m = has_by xs u value h in
            let w = m.2 in
            let p = precedes_later xs x m.0 u c member m.1 late w in
            let gap = p.gap (same ∙ sym m.3) in let begun = w.begun in
            omega (arith, ints);
      }

-- the same of the item that `get` gives
pub next_by : {X : Type 0} (run : X → Valued) (items : List X) (t : ℤ) (n : ℕ) (o : Option (Bor X)) → AreRunsOfValues (map run items) → All (λ r. r.span.to <ℤ t) (take n (map run items)) → All (λ r. t ≤ℤ r.span.to) (drop n (map run items))
    → is_some o ≡ nat_lt n (length items) → IfSome o (λ x. x.now ≡ get_or items n x.now) → IsNext (map run items) t (option_map run (option_copied o))
next_by run items t n None c ended going there is =
    let past : length items ≤ n = ltb-false n (length items) (sym there) in
    nothing_next (map run items) t n c ended going (omega (arith, length-map items run))
next_by run items t n (Some x) c ended going there is =
    let within : n < length items = ltb-true n (length items) (sym there) in
    next_run (map run items) t n c ended going (run x.now) (omega (arith, length-map items run)) (get_or-map run items n x.now (run x.now) within ∙ ap run (sym is))

-- the next run that has begun gives the value
pub value_at : (xs : List Valued) (t : ℤ) (x : Valued) → IsNextRun xs t x → x.span.from ≤ℤ t → (value : Word) → x.value ≡ value ↔ RunsHave xs t value
value_at xs t x next begun value =
    let here : Within t x.span = record { begun = begun; going = next.going } in
    (λ e. subst (λ (v : Word). RunsHave xs t v) e (next.has t here), λ h. next.only t value here h)
