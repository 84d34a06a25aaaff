-- A list of properties around one of them, and what a change of that one leaves.
use Rattle.std.proofs.Common.{take-append-drop, ◌≡◌, ◌≢◌, ℕ, suc, ℤ, ◌≤ℤ◌, List, [], ◌∷◌, ◌++◌, ◌⊎◌, inl, inr, take, drop, Some, refl, sym, subst, arith}
use Rattle.std.proofs.lemmas.Int.{ints}
use Rattle.std.specs.Prelude.{slice_get, slice_set}
use Rattle.std.specs.List.{insert, remove}
use Rattle.itpg_base.specs.Words.{Word, IsBefore, IsRising}
use Rattle.itpg_base.specs.Spans.{Span, IsSpan}
use Rattle.itpg_base.specs.Graphs.{Property, Valued, RunsHave, PropertiesHave, AreRunsOfValues}
use Rattle.itpg_base.proofs.Objects.{there, same_some}
use Rattle.interval_set.specs.Runs.{AreRunsOf, HasPut, HasCleared}
use Rattle.itpg_graph.specs.Families.{IsValued, AreValued, IsOrderly, AreProperties}
use Rattle.itpg_graph.specs.Tables.{AreBefore, AreAfter, IsPlace, IsGap, HasLess, HasMore}
use Rattle.itpg_graph.proofs.Lists.{split_at, split_set, split_removed}
use Rattle.itpg_graph.proofs.Names.{not_before_itself, rising_rest, rising_join, rising_insert, rising_front, rising_back, before_middle, after_middle, names_replaced, has_after, has_before}

-- values in one of two lists
pub have_join : (front back : List Property) (n : Word) (t : ℤ) (value : Word) → PropertiesHave (front ++ back) n t value → PropertiesHave front n t value ⊎ PropertiesHave back n t value
have_join [] back n t value h = inr h
have_join (p ∷ front) back n t value h = elim h [ inl own ↦ inl (inl own) | inr more ↦ elim (have_join front back n t value more) [ inl a ↦ inl (inr a) | inr b ↦ inr b ] ]

pub join_have : (front back : List Property) (n : Word) (t : ℤ) (value : Word) → PropertiesHave front n t value ⊎ PropertiesHave back n t value → PropertiesHave (front ++ back) n t value
join_have [] back n t value h = elim h [ inl never ↦ absurd never | inr b ↦ b ]
join_have (p ∷ front) back n t value h = elim h [
  | inl a ↦ elim a [ inl own ↦ inl own | inr more ↦ inr (join_have front back n t value (inl more)) ]
  | inr b ↦ inr (join_have front back n t value (inr b))
]

pub valued_join : (front back : List Property) → AreValued front → AreValued back → AreValued (front ++ back)
valued_join [] back a b = b
valued_join (p ∷ front) back a b = (a.0, valued_join front back a.1 b)

pub valued_front : (front back : List Property) → AreValued (front ++ back) → AreValued front
valued_front [] back a = tt
valued_front (p ∷ front) back a = (a.0, valued_front front back a.1)

pub valued_back : (front back : List Property) → AreValued (front ++ back) → AreValued back
valued_back [] back a = a
valued_back (p ∷ front) back a = valued_back front back a.1

-- runs, if any, have a value at some moment
pub some_value : (runs : List Valued) → AreRunsOfValues runs → runs ≢ [] → (t : ℤ) × (value : Word) × RunsHave runs t value
some_value [] c some = absurd (some refl)
some_value (r ∷ rest) c some = let ordered : r.span.from ≤ℤ r.span.to = c.0 in (r.span.from, r.value, inl (record { begun = omega (arith, ints); going = ordered }, refl))

pub not_empty : (runs : List Valued) (t : ℤ) (value : Word) → RunsHave runs t value → runs ≢ []
not_empty [] t value h e = h
not_empty (r ∷ rest) t value h e = let never : ⊥ = cc in never

-- before, in the middle and behind, where the middle has these runs
abbrev pub InParts : List Property → Word → List Valued → List Property → Word → ℤ → Word → Type 0
InParts front name middle back n t value = PropertiesHave front n t value ⊎ (((name ≡ n) × RunsHave middle t value) ⊎ PropertiesHave back n t value)

-- the list has what the parts have
pub record HasParts (properties front : List Property) (name : Word) (middle : List Valued) (back : List Property) : Type 0 where
  pub there : (n : Word) (t : ℤ) (value : Word) → PropertiesHave properties n t value → InParts front name middle back n t value
  pub back_again : (n : Word) (t : ℤ) (value : Word) → InParts front name middle back n t value → PropertiesHave properties n t value

pub parts_with : (front : List Property) (p : Property) (back : List Property) → HasParts (front ++ p ∷ back) front p.name p.runs back
parts_with front p back = record { there = λ n t v h. have_join front (p ∷ back) n t v h; back_again = λ n t v h. join_have front (p ∷ back) n t v h }

pub parts_without : (front : List Property) (name : Word) (back : List Property) → HasParts (front ++ back) front name [] back
parts_without front name back = record {
  there = λ n t v h. elim (have_join front back n t v h) [ inl a ↦ inl a | inr b ↦ inr (inr b) ];
  back_again = λ n t v h. join_have front back n t v (elim h [ inl a ↦ inl a | inr more ↦ elim more [ inl never ↦ absurd never.1 | inr b ↦ inr b ] ]);
}

module _ (old new front : List Property) (name : Word) (m m' : List Valued) (back : List Property) (was : HasParts old front name m back) (is : HasParts new front name m' back) (before : AreBefore name front) (after : AreAfter name back) where
  -- beside the middle no property has its name
  front_apart : (n : Word) (t : ℤ) (value : Word) → PropertiesHave front n t value → n ≡ name → ⊥
  front_apart n t value h e = not_before_itself name (subst (λ k. IsBefore k name) e (has_before name n t value front before h))

  back_apart : (n : Word) (t : ℤ) (value : Word) → PropertiesHave back n t value → n ≡ name → ⊥
  back_apart n t value h e = not_before_itself name (subst (λ k. IsBefore name k) e (has_after name n t value back after h))

  module _ (s : Span) where
    -- the middle lost its values in the span
    pub less_is : AreRunsOf (HasCleared m s) m' → IsOrderly new → AreProperties (HasLess old name s) new
    less_is runs orderly = record {
      whole = λ n t v h. is.back_again n t v (elim (was.there n t v h.0) [
        | inl a ↦ inl a
        | inr more ↦ elim more [ inl own ↦ inr (inl (own.0, runs.whole t v (own.1, λ w. h.1 (sym own.0, w)))) | inr b ↦ inr (inr b) ]
      ]);
      only = λ n t v h. elim (is.there n t v h) [
        | inl a ↦ (was.back_again n t v (inl a), λ both. front_apart n t v a both.0)
        | inr more ↦ elim more [
          | inl own ↦ let r = runs.only t v own.1 in (was.back_again n t v (inr (inl (own.0, r.0))), λ both. r.1 both.1)
          | inr b ↦ (was.back_again n t v (inr (inr b)), λ both. back_apart n t v b both.0)
        ]
      ];
      orderly = orderly;
    }

    -- the middle got a value at the moments of the span
    pub more_is : (value : Word) → AreRunsOf (HasPut m s value) m' → IsOrderly new → AreProperties (HasMore old name value s) new
    more_is value runs orderly = record {
      whole = λ n t v h. elim h [
        | inl put ↦ is.back_again n t v (inr (inl (sym put.0, runs.whole t v (inl (put.1, put.2)))))
        | inr kept ↦ is.back_again n t v (elim (was.there n t v kept.0) [
          | inl a ↦ inl a
          | inr more ↦ elim more [ inl own ↦ inr (inl (own.0, runs.whole t v (inr (own.1, λ w. kept.1 (sym own.0, w))))) | inr b ↦ inr (inr b) ]
        ])
      ];
      only = λ n t v h. elim (is.there n t v h) [
        | inl a ↦ inr (was.back_again n t v (inl a), λ both. front_apart n t v a both.0)
        | inr more ↦ elim more [
          | inl own ↦ elim (runs.only t v own.1) [
            | inl put ↦ inl (sym own.0, put.0, put.1)
            | inr kept ↦ inr (was.back_again n t v (inr (inl (own.0, kept.0))), λ both. kept.1 both.1)
          ]
          | inr b ↦ inr (was.back_again n t v (inr (inr b)), λ both. back_apart n t v b both.0)
        ]
      ];
      orderly = orderly;
    }

-- a property with other runs in its place
module _ (front : List Property) (p : Property) (back : List Property) (orderly : IsOrderly (front ++ p ∷ back)) where
  pub replaced_orderly : (q : Property) → q.name ≡ p.name → IsValued q → IsOrderly (front ++ q ∷ back)
  replaced_orderly q same valued = record {
    rising = subst IsRising (sym (names_replaced front back q p same)) orderly.rising;
    valued = valued_join front (q ∷ back) (valued_front front (p ∷ back) orderly.valued) (valued, (valued_back front (p ∷ back) orderly.valued).1);
  }

  pub removed_orderly : IsOrderly (front ++ back)
  removed_orderly = record {
    rising = rising_join p.name front back (before_middle front back p orderly.rising) (after_middle front back p orderly.rising) (rising_front front (p ∷ back) orderly.rising) (rising_rest p back (rising_back front (p ∷ back) orderly.rising));
    valued = valued_join front back (valued_front front (p ∷ back) orderly.valued) (valued_back front (p ∷ back) orderly.valued).1;
  }

  -- its values are those of its name
  pub own_runs : AreRunsOf (PropertiesHave (front ++ p ∷ back) p.name) p.runs
  own_runs = record {
    whole = λ t v h. elim (have_join front (p ∷ back) p.name t v h) [
      | inl a ↦ absurd (not_before_itself p.name (has_before p.name p.name t v front (before_middle front back p orderly.rising) a))
      | inr more ↦ elim more [ inl own ↦ own.1 | inr b ↦ absurd (not_before_itself p.name (has_after p.name p.name t v back (after_middle front back p orderly.rising) b)) ]
    ];
    only = λ t v h. join_have front (p ∷ back) p.name t v (inr (inl (refl, h)));
    coalesced = ((valued_back front (p ∷ back) orderly.valued).0).runs;
  }

  module _ (name : Word) (named : p.name ≡ name) (s : Span) (runs : List Valued) where
    module _ (value : Word) (span : IsSpan s) (put : AreRunsOf (HasPut p.runs s value) runs) where
      pub put_replaced : AreProperties (HasMore (front ++ p ∷ back) name value s) (front ++ record p { runs = runs } ∷ back)
      put_replaced =
          let q : Property = record p { runs = runs } in
          let some = not_empty runs s.from value (put.whole s.from value (inl (record { begun = let h : s.from ≤ℤ s.to = span in omega (arith, ints); going = span }, refl))) in
          subst (λ n. AreProperties (HasMore (front ++ p ∷ back) n value s) (front ++ q ∷ back)) named
          (more_is (front ++ p ∷ back) (front ++ q ∷ back) front p.name p.runs runs back (parts_with front p back) (parts_with front q back) (before_middle front back p orderly.rising) (after_middle front back p orderly.rising) s value put
          (replaced_orderly q refl (record { some = some; runs = put.coalesced })))

    module _ (cleared : AreRunsOf (HasCleared p.runs s) runs) where
      pub clear_replaced : runs ≢ [] → AreProperties (HasLess (front ++ p ∷ back) name s) (front ++ record p { runs = runs } ∷ back)
      clear_replaced some =
          let q : Property = record p { runs = runs } in
          subst (λ n. AreProperties (HasLess (front ++ p ∷ back) n s) (front ++ q ∷ back)) named
          (less_is (front ++ p ∷ back) (front ++ q ∷ back) front p.name p.runs runs back (parts_with front p back) (parts_with front q back) (before_middle front back p orderly.rising) (after_middle front back p orderly.rising) s cleared
          (replaced_orderly q refl (record { some = some; runs = cleared.coalesced })))

      pub clear_removed : runs ≡ [] → AreProperties (HasLess (front ++ p ∷ back) name s) (front ++ back)
      clear_removed none =
          subst (λ n. AreProperties (HasLess (front ++ p ∷ back) n s) (front ++ back)) named
          (less_is (front ++ p ∷ back) (front ++ back) front p.name p.runs [] back (parts_with front p back) (parts_without front p.name back) (before_middle front back p orderly.rising) (after_middle front back p orderly.rising) s (subst (AreRunsOf (HasCleared p.runs s)) none cleared)
          removed_orderly)

-- the same, at the place that a search found
module _ (ps : List Property) (orderly : IsOrderly ps) (place : ℕ) (p : Property) (at : slice_get ps place ≡ Some p) where
  apart : IsOrderly (take place ps ++ p ∷ drop (suc place) ps)
  apart = subst IsOrderly (split_at ps place p at) orderly

  together : (P : List Property → Type 0) → P (take place ps ++ p ∷ drop (suc place) ps) → P ps
  together P h = subst P (sym (split_at ps place p at)) h

  pub place_named : (name : Word) → IsPlace ps name place → p.name ≡ name
  place_named name found = let x = there ps place _ found.named in subst (λ (q : Property). q.name ≡ name) (same_some _ _ (slice_get ps place) x.1 at) x.2

  pub found_runs : (name : Word) → p.name ≡ name → AreRunsOf (PropertiesHave ps name) p.runs
  found_runs name named = subst (λ n. AreRunsOf (PropertiesHave ps n) p.runs) named (together (λ xs. AreRunsOf (PropertiesHave xs p.name) p.runs) (own_runs (take place ps) p (drop (suc place) ps) apart))

  pub found_value : (name : Word) → p.name ≡ name → (t : ℤ) × (value : Word) × PropertiesHave ps name t value
  found_value name named =
      let valued = (valued_back (take place ps) (p ∷ drop (suc place) ps) apart.valued).0 in
      let some = some_value p.runs valued.runs valued.some in
      (some.0, some.1, together (λ xs. PropertiesHave xs name some.0 some.1) (join_have (take place ps) (p ∷ drop (suc place) ps) name some.0 some.1 (inr (inl (named, some.2)))))

  module _ (name : Word) (named : p.name ≡ name) (s : Span) (runs : List Valued) where
    pub found_put : (value : Word) → IsSpan s → AreRunsOf (HasPut p.runs s value) runs → AreProperties (HasMore ps name value s) (slice_set ps place (record p { runs = runs }))
    found_put value span put = subst (AreProperties (HasMore ps name value s)) (sym (split_set ps place p (record p { runs = runs }) at))
        (together (λ xs. AreProperties (HasMore xs name value s) (take place ps ++ record p { runs = runs } ∷ drop (suc place) ps)) (put_replaced (take place ps) p (drop (suc place) ps) apart name named s runs value span put))

    pub found_cleared : AreRunsOf (HasCleared p.runs s) runs → runs ≢ [] → AreProperties (HasLess ps name s) (slice_set ps place (record p { runs = runs }))
    found_cleared cleared some = subst (AreProperties (HasLess ps name s)) (sym (split_set ps place p (record p { runs = runs }) at))
        (together (λ xs. AreProperties (HasLess xs name s) (take place ps ++ record p { runs = runs } ∷ drop (suc place) ps)) (clear_replaced (take place ps) p (drop (suc place) ps) apart name named s runs cleared some))

    pub found_emptied : AreRunsOf (HasCleared p.runs s) runs → runs ≡ [] → AreProperties (HasLess ps name s) (remove (slice_set ps place (record p { runs = runs })) place)
    found_emptied cleared none = subst (AreProperties (HasLess ps name s)) (sym (split_removed ps place (record p { runs = runs })))
        (together (λ xs. AreProperties (HasLess xs name s) (take place ps ++ drop (suc place) ps)) (clear_removed (take place ps) p (drop (suc place) ps) apart name named s runs cleared none))

-- the same, where there is no such property
pub missing_values : (ps : List Property) (name : Word) (place : ℕ) → IsGap ps name place → (t : ℤ) (value : Word) → PropertiesHave ps name t value → ⊥
missing_values ps name place gap t value h = elim (have_join (take place ps) (drop place ps) name t value (subst (λ xs. PropertiesHave xs name t value) (sym (take-append-drop place ps)) h)) [
  | inl a ↦ not_before_itself name (has_before name name t value (take place ps) gap.before a)
  | inr b ↦ not_before_itself name (has_after name name t value (drop place ps) gap.after b)
]

module _ (ps : List Property) (orderly : IsOrderly ps) (name : Word) (place : ℕ) (gap : IsGap ps name place) where
  split : ps ≡ take place ps ++ drop place ps
  split = sym (take-append-drop place ps)

  pub missing_cleared : (s : Span) → AreProperties (HasLess ps name s) ps
  missing_cleared s = record {
    whole = λ n t v h. h.0;
    only = λ n t v h. (h, λ both. missing_values ps name place gap t v (subst (λ k. PropertiesHave ps k t v) both.0 h));
    orderly = orderly;
  }

  pub missing_put : (s : Span) (value : Word) (runs : List Valued) → IsSpan s → AreRunsOf (HasPut [] s value) runs → AreProperties (HasMore ps name value s) (insert ps place (record { name = name; runs = runs }))
  missing_put s value runs span put =
      let q : Property = record { name = name; runs = runs } in
      let front = take place ps in
      let back = drop place ps in
      let was = subst IsOrderly split orderly in
      let some = not_empty runs s.from value (put.whole s.from value (inl (record { begun = let h : s.from ≤ℤ s.to = span in omega (arith, ints); going = span }, refl))) in
      let made : IsOrderly (front ++ q ∷ back) = record {
        rising = rising_insert q front back gap.before gap.after (rising_front front back was.rising) (rising_back front back was.rising);
        valued = valued_join front (q ∷ back) (valued_front front back was.valued) (record { some = some; runs = put.coalesced }, valued_back front back was.valued);
      } in
      subst (λ xs. AreProperties (HasMore xs name value s) (front ++ q ∷ back)) (sym split)
      (more_is (front ++ back) (front ++ q ∷ back) front name [] runs back (parts_without front name back) (parts_with front q back) gap.before gap.after s value put made)
