-- A list of properties without the values in a span, worked out from its front.
use Rattle.std.proofs.Common.{◌≡◌, ◌≢◌, ℕ, suc, ℤ, List, [], ◌∷◌, ◌++◌, inl, inr, ◌+◌, length, take, drop, max, Some, refl, sym, ap, ◌∙◌, subst, arith}
use Rattle.std.specs.Prelude.{slice_get}
use Rattle.std.proofs.lemmas.Bool.{cases_lt}
use Rattle.std.proofs.lemmas.List.{take_more}
use Rattle.std.proofs.lemmas.Option.{slice_get_within, get_or_from_slice_get}
use Rattle.itpg_base.specs.Words.{Word, IsBefore, IsRising}
use Rattle.itpg_base.specs.Spans.{Span, Within}
use Rattle.itpg_base.specs.Graphs.{Property, Valued, RunsHave, PropertiesHave, AreRunsOfValues, property_names}
use Rattle.itpg_base.proofs.Searches.{same_word}
use Rattle.interval_set.specs.Runs.{AreRunsOf, HasCleared}
use Rattle.interval_set.proofs.Changed.{clear_exists}
use Rattle.itpg_graph.specs.Families.{AreValued, IsOrderly, AreProperties}
use Rattle.itpg_graph.specs.Tables.{AreBefore, HasRuns, IsWidest}
use Rattle.itpg_graph.proofs.Names.{not_before_itself, has_before, rising_insert, before_middle}
use Rattle.itpg_graph.proofs.Parts.{have_join, join_have, valued_join, valued_back, some_value}
use Rattle.itpg_graph.proofs.Lists.{split_at}

-- the same runs for other values that are the same
pub values_alike : (H K : ℤ → Word → Type 0) (runs : List Valued) → ((t : ℤ) (value : Word) → H t value → K t value) → ((t : ℤ) (value : Word) → K t value → H t value) → AreRunsOf H runs → AreRunsOf K runs
values_alike H K runs there back are = record { whole = λ t v h. are.whole t v (back t v h); only = λ t v h. there t v (are.only t v h); coalesced = are.coalesced }

pub no_runs : (H : ℤ → Word → Type 0) (runs : List Valued) → AreRunsOf H runs → ((t : ℤ) (value : Word) → H t value → ⊥) → runs ≡ []
no_runs H [] are none = refl
no_runs H (r ∷ rest) are none = let some = some_value (r ∷ rest) are.coalesced (λ e. let never : ⊥ = cc in never) in absurd (none some.0 some.1 (are.only some.0 some.1 some.2))

-- a name comes after all that have a value, so after all
pub each_before : (name : Word) (ps : List Property) → AreValued ps → ((n : Word) (t : ℤ) (value : Word) → PropertiesHave ps n t value → IsBefore n name) → AreBefore name ps
each_before name [] valued before = tt
each_before name (p ∷ ps) valued before =
    let some = some_value p.runs (valued.0).runs (valued.0).some in
    (before p.name some.0 some.1 (inl (refl, some.2)), each_before name ps valued.1 (λ n t v h. before n t v (inr h)))

-- one more property of a list
module _ (items : List Property) (i : ℕ) (p : Property) (at : slice_get items i ≡ Some p) (orderly : IsOrderly items) where
  pub next_front : take (i + 1) items ≡ take i items ++ p ∷ []
  next_front = take_more items i p (slice_get_within items i p at) ∙ ap (λ x. take i items ++ x ∷ []) (get_or_from_slice_get items i p p at)

  pub next_before : AreBefore p.name (take i items)
  next_before = before_middle (take i items) (drop (suc i) items) p (subst (λ xs. IsRising (property_names xs)) (split_at items i p at) orderly.rising)

  pub next_runs : AreRunsOfValues p.runs
  next_runs = ((valued_back (take i items) (p ∷ drop (suc i) items) (subst AreValued (split_at items i p at) orderly.valued)).0).runs

module _ (s : Span) where
  abbrev pub Outside : List Property → Word → ℤ → Word → Type 0
  Outside ps name t value = PropertiesHave ps name t value × (¬ Within t s)

  pub cut_none : AreProperties (Outside []) []
  cut_none = record { whole = λ n t v h. absurd h.0; only = λ n t v h. absurd h; orderly = record { rising = tt; valued = tt } }

  module _ (front kept : List Property) (p : Property) (runs : List Valued) (before : AreBefore p.name front) (cleared : AreRunsOf (HasCleared p.runs s) runs) (are : AreProperties (Outside front) kept) where
    pub cut_gone : runs ≡ [] → AreProperties (Outside (front ++ p ∷ [])) kept
    cut_gone none = record {
      whole = λ n t v h. elim (have_join front (p ∷ []) n t v h.0) [
        | inl a ↦ are.whole n t v (a, h.1)
        | inr more ↦ elim more [ inl own ↦ absurd (subst (λ xs. RunsHave xs t v) none (cleared.whole t v (own.1, h.1))) | inr never ↦ absurd never ]
      ];
      only = λ n t v h. let o = are.only n t v h in (join_have front (p ∷ []) n t v (inl o.0), o.1);
      orderly = are.orderly;
    }

    pub cut_kept : runs ≢ [] → AreProperties (Outside (front ++ p ∷ [])) (kept ++ record p { runs = runs } ∷ [])
    cut_kept some =
        let q : Property = record p { runs = runs } in
        record {
          whole = λ n t v h. join_have kept (q ∷ []) n t v (elim (have_join front (p ∷ []) n t v h.0) [
            | inl a ↦ inl (are.whole n t v (a, h.1))
            | inr more ↦ elim more [ inl own ↦ inr (inl (own.0, cleared.whole t v (own.1, h.1))) | inr never ↦ absurd never ]
          ]);
          only = λ n t v h. elim (have_join kept (q ∷ []) n t v h) [
            | inl a ↦ let o = are.only n t v a in (join_have front (p ∷ []) n t v (inl o.0), o.1)
            | inr more ↦ elim more [
              | inl own ↦ let c = cleared.only t v own.1 in (join_have front (p ∷ []) n t v (inr (inl (own.0, c.0))), c.1)
              | inr never ↦ absurd never
            ]
          ];
          orderly = record {
            rising = rising_insert q kept [] (each_before p.name kept are.orderly.valued (λ n t v h. has_before p.name n t v front before (are.only n t v h).0)) tt are.orderly.rising tt;
            valued = valued_join kept (q ∷ []) are.orderly.valued (record { some = some; runs = cleared.coalesced }, tt);
          };
        }

  pub widest_none : IsWidest [] s 0
  widest_none = record {
    some = ([], ([], record { whole = λ t v h. absurd h.0; only = λ t v h. absurd h; coalesced = tt }, refl));
    most = λ name m has. let none = no_runs _ has.0 has.1 (λ t v h. h.0) in let is = has.2 in let short = ap length none in omega arith;
  }

  module _ (front : List Property) (p : Property) (w c : ℕ) (before : AreBefore p.name front) (runs : AreRunsOfValues p.runs) (count : (cut : List Valued) → AreRunsOf (HasCleared p.runs s) cut → c ≡ length cut) (widest : IsWidest front s w) where
    -- the values of a property, in front and in the whole
    whole_has : (name : Word) (t : ℤ) (value : Word) → Outside front name t value → Outside (front ++ p ∷ []) name t value
    whole_has name t value h = (join_have front (p ∷ []) name t value (inl h.0), h.1)

    front_has : (name : Word) → name ≢ p.name → (t : ℤ) (value : Word) → Outside (front ++ p ∷ []) name t value → Outside front name t value
    front_has name apart t value h = (elim (have_join front (p ∷ []) name t value h.0) [ inl a ↦ a | inr more ↦ elim more [ inl own ↦ absurd (apart (sym own.0)) | inr never ↦ absurd never ] ], h.1)

    own_has : (t : ℤ) (value : Word) → Outside (front ++ p ∷ []) p.name t value → HasCleared p.runs s t value
    own_has t value h = (
      elim (have_join front (p ∷ []) p.name t value h.0) [
        | inl a ↦ absurd (not_before_itself p.name (has_before p.name p.name t value front before a))
        | inr more ↦ elim more [ inl own ↦ own.1 | inr never ↦ absurd never ]
      ],
      h.1,
    )

    has_own : (t : ℤ) (value : Word) → HasCleared p.runs s t value → Outside (front ++ p ∷ []) p.name t value
    has_own t value h = (join_have front (p ∷ []) p.name t value (inr (inl (refl, h.0))), h.1)

    own_count : (m : ℕ) → HasRuns (front ++ p ∷ []) s p.name m → m ≡ c
    own_count m has = sym has.2 ∙ sym (count has.0 (values_alike _ _ has.0 own_has has_own has.1))

    pub widest_more : IsWidest (front ++ p ∷ []) s (max c w)
    widest_more = record {
      some = elim (cases_lt c w) [
        | inl less ↦
            let old = widest.some in
            let is : max c w ≡ w = omega arith in
            let apart : old.0 ≢ p.name = λ same.
            let none = no_runs _ old.1.0 old.1.1 (λ t v h. not_before_itself p.name (subst (λ n. IsBefore n p.name) same (has_before p.name old.0 t v front before h.0))) in
            let short = ap length none in let long = old.1.2 in omega arith in
            (old.0, (old.1.0, values_alike _ _ old.1.0 (whole_has old.0) (front_has old.0 apart) old.1.1, old.1.2 ∙ sym is))
        | inr most ↦
            let made = clear_exists p.runs s runs in
            let is : max c w ≡ c = omega arith in
            (p.name, (made.0, values_alike _ _ made.0 has_own own_has made.1, sym (count made.0 made.1) ∙ sym is))
      ];
      most = λ name m has. elim (same_word name p.name) [
        | inl same ↦ let is = own_count m (subst (λ n. HasRuns (front ++ p ∷ []) s n m) same has) in omega arith
        | inr apart ↦ let le = widest.most name m (has.0, values_alike _ _ has.0 (front_has name apart) (whole_has name) has.1, has.2) in omega arith
      ];
    }
