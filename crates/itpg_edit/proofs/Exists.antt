-- An edit that breaks no rule leads from a good graph to a graph.
use Rattle.std.proofs.Common.{◌≡◌, ◌≢◌, ℕ, suc, ℤ, List, [], ◌∷◌, ◌++◌, ◌⊎◌, inl, inr, ⊎_elim, Some, refl, sym, subst, arith, append_assoc}
use Rattle.std.specs.Prelude.{slice_get}
use Rattle.std.proofs.lemmas.List.{append-nil}
use Rattle.itpg_base.specs.Words.{Word}
use Rattle.itpg_base.specs.Spans.{Span, IsSpan, Within, Covers}
use Rattle.itpg_base.specs.Decided.{Decided}
use Rattle.itpg_base.specs.Graphs.{Graph, Object, Property, Good, Named, PropertiesHave}
use Rattle.itpg_base.proofs.Objects.{there, here}
use Rattle.interval_set.proofs.Unique.{runs_alike}
use Rattle.interval_set.proofs.Changed.{joined_exists, cut_exists, put_exists, clear_exists}
use Rattle.itpg_graph.specs.Changes.{begun_as, widened, with_node, with_edge, with_live, with_object, with_properties, without, JoinsLive, CutsLive, PutsValue, ClearsValue, ValCleared, ValChanged}
use Rattle.itpg_graph.specs.Families.{IsOrderly, AreProperties, ExistsOutside, ValOutside}
use Rattle.itpg_graph.specs.Tables.{IsGap, HasLess, HasMore}
use Rattle.itpg_graph.proofs.Names.{compare, after_first, rising_rest, before_middle}
use Rattle.itpg_graph.proofs.Parts.{some_value, valued_back, put_replaced, clear_replaced, clear_removed, missing_put}
use Rattle.itpg_graph.proofs.Families.{properties_alike, named_split}
use Rattle.itpg_graph.proofs.Cutting.{Outside, cut_none, cut_gone, cut_kept}
use Rattle.itpg_graph.proofs.Kept.{exists_at, at_exists, val_at, at_val, own_properties}
use Rattle.itpg_edit.specs.declared.edit.Edit.{Edit}
use Rattle.itpg_edit.specs.declared.edit.Edit.TheVariants.{Begin, Extend, AddNode, AddEdge, Live, Gone, Put, Clear, Remove}
use Rattle.itpg_edit.specs.Facts.{span_of, IsUnknown}
use Rattle.itpg_edit.specs.Rules.{Unbroken}
use Rattle.itpg_edit.specs.Next.{Next}
use Rattle.itpg_edit.proofs.Moments.{alike_joined}
use Rattle.itpg_edit.proofs.Deciding.{decide_taken, decide_property}
use Rattle.itpg_edit.proofs.Unbroken.{not_after}

empty_or_not : {X : Type 0} (xs : List X) → (xs ≡ []) ⊎ (xs ≢ [])
empty_or_not [] = inl refl
empty_or_not (x ∷ xs) = inr (λ e. let none : ⊥ = cc in none)

-- some property of the list has a value and this name
abbrev HasValues : List Property → Word → Type 0
HasValues ps name = (t : ℤ) × (value : Word) × PropertiesHave ps name t value

-- the place that a new name has among those that rise
gap_there : (ps : List Property) (name : Word) → IsOrderly ps → (HasValues ps name → ⊥) → (place : ℕ) × IsGap ps name place
gap_there [] name is none = (0, record { within = omega arith; before = tt; after = tt })
gap_there (p ∷ ps) name is none = elim (compare name p.name) [
  | inl same ↦ let some = some_value p.runs is.valued.0.runs is.valued.0.some in absurd (none (some.0, some.1, inl (sym same, some.2)))
  | inr apart ↦ elim apart [
    | inl first ↦ (0, record { within = omega arith; before = tt; after = after_first (record p { name = name }) (p ∷ ps) (first, is.rising) })
    | inr later ↦
        let rest = gap_there ps name (record { rising = rising_rest p ps is.rising; valued = is.valued.1 }) (λ h. none (h.0, h.1, inr h.2)) in
        let short = rest.1.within in
        (suc rest.0, record { within = omega arith; before = (later, rest.1.before); after = rest.1.after })
  ]
]

-- a list with a value put, with the values of a property cleared, and with all values cut
put_there : (ps : List Property) (name value : Word) (s : Span) → IsOrderly ps → IsSpan s → Decided (HasValues ps name) → (new : List Property) × AreProperties (HasMore ps name value s) new
put_there ps name value s is span (inl has) =
    let split = named_split ps name has.0 has.1 has.2 in
    let own = subst IsOrderly split.is is in
    let valued = (valued_back split.front (split.own ∷ split.back) own.valued).0 in
    let runs = put_exists split.own.runs s value valued.runs in
    let new : List Property = split.front ++ record split.own { runs = runs.0 } ∷ split.back in
    (new, subst (λ xs. AreProperties (HasMore xs name value s) new) (sym split.is) (put_replaced split.front split.own split.back own name split.named s runs.0 value span runs.1))
put_there ps name value s is span (inr none) =
    let gap = gap_there ps name is none in
    let runs = put_exists [] s value tt in
    (_, missing_put ps is name gap.0 gap.1 s value runs.0 span runs.1)

clear_there : (ps : List Property) (name : Word) (s : Span) → IsOrderly ps → Decided (HasValues ps name) → (new : List Property) × AreProperties (HasLess ps name s) new
clear_there ps name s is (inl has) =
    let split = named_split ps name has.0 has.1 has.2 in
    let own = subst IsOrderly split.is is in
    let valued = (valued_back split.front (split.own ∷ split.back) own.valued).0 in
    let runs = clear_exists split.own.runs s valued.runs in
    elim (empty_or_not runs.0) [
      | inl none ↦ (
        split.front ++ split.back,
        subst (λ xs. AreProperties (HasLess xs name s) (split.front ++ split.back)) (sym split.is) (clear_removed split.front split.own split.back own name split.named s runs.0 runs.1 none),
      )
      | inr some ↦
          let new : List Property = split.front ++ record split.own { runs = runs.0 } ∷ split.back in
          (new, subst (λ xs. AreProperties (HasLess xs name s) new) (sym split.is) (clear_replaced split.front split.own split.back own name split.named s runs.0 runs.1 some))
    ]
clear_there ps name s is (inr none) = (
  ps,
  record {
    whole = λ n t v h. h.0;
    only = λ n t v h. (h, λ both. none (t, v, subst (λ k. PropertiesHave ps k t v) both.0 h));
    orderly = is;
  },
)

cut_from : (s : Span) (front back kept : List Property) → IsOrderly (front ++ back) → AreProperties (Outside s front) kept → (new : List Property) × AreProperties (Outside s (front ++ back)) new
cut_from s front [] kept is are = (kept, subst (λ xs. AreProperties (Outside s xs) kept) (sym (append-nil front)) are)
cut_from s front (p ∷ back) kept is are =
    let before = before_middle front back p is.rising in
    let valued = (valued_back front (p ∷ back) is.valued).0 in
    let runs = clear_exists p.runs s valued.runs in
    let e : (front ++ p ∷ []) ++ back ≡ front ++ p ∷ back = append_assoc front (p ∷ []) back in
    let next = subst IsOrderly (sym e) is in
    let rest : (new : List Property) × AreProperties (Outside s ((front ++ p ∷ []) ++ back)) new = elim (empty_or_not runs.0) [
      | inl none ↦ cut_from s (front ++ p ∷ []) back kept next (cut_gone s front kept p runs.0 before runs.1 are none)
      | inr some ↦ cut_from s (front ++ p ∷ []) back (kept ++ record p { runs = runs.0 } ∷ []) next (cut_kept s front kept p runs.0 before runs.1 are some)
    ] in
    (rest.0, subst (λ xs. AreProperties (Outside s xs) rest.0) e rest.1)

-- each change of an object of a good graph
module _ (g : Graph) (good : Good g) (o : ℕ) (x : Object) (at : slice_get g.objects o ≡ Some x) (s : Span) where
  orderly : IsOrderly x.properties
  orderly = (own_properties g o x at good).orderly

  decide_values : (name : Word) → Decided (HasValues x.properties name)
  decide_values name = elim (decide_property g good o x at name) [
    | inl has ↦ inl (has.0, has.1, val_at g o x at name has.0 has.1 has.2)
    | inr none ↦ inr (λ h. none (h.0, h.1, at_val g o x at name h.0 h.1 h.2))
  ]

  joins_there : (new : Graph) × JoinsLive g o s new
  joins_there =
      let r = joined_exists x.live s in
      (with_live g o r.0, record { live = r.0; runs = alike_joined g o x.live (here g.objects o _ x at refl) s r.0 r.1; is = refl })

  cuts_there : (new : Graph) × CutsLive g o s new
  cuts_there =
      let r = cut_exists x.live s in
      let p = cut_from s [] x.properties [] orderly (cut_none s) in
      let runs = runs_alike (λ t. Covers x.live t × (¬ Within t s)) (ExistsOutside g o s) r.0 (λ t h. (at_exists g o x at t h.0, h.1)) (λ t h. (exists_at g o x at t h.0, h.1)) r.1 in
      let values = properties_alike (Outside s x.properties) (ValOutside g o s) p.0 (λ n t v h. (at_val g o x at n t v h.0, h.1)) (λ n t v h. (val_at g o x at n t v h.0, h.1)) p.1 in
      (with_object g o (λ y. record y { live = r.0; properties = p.0 }), record { live = r.0; properties = p.0; runs = runs; values = values; is = refl })

  puts_there : (name value : Word) → IsSpan s → (new : Graph) × PutsValue g o name value s new
  puts_there name value span =
      let p = put_there x.properties name value s orderly span (decide_values name) in
      let values = properties_alike (HasMore x.properties name value s) (ValChanged g o s name value) p.0
      (λ n t v h. ⊎_elim (λ put. inl put) (λ kept. inr (at_val g o x at n t v kept.0, kept.1)) h)
      (λ n t v h. ⊎_elim (λ put. inl put) (λ kept. inr (val_at g o x at n t v kept.0, kept.1)) h) p.1 in
      (with_properties g o p.0, record { properties = p.0; values = values; is = refl })

  clears_there : (name : Word) → (new : Graph) × ClearsValue g o name s new
  clears_there name =
      let p = clear_there x.properties name s orderly (decide_values name) in
      let values = properties_alike (HasLess x.properties name s) (ValCleared g o s name) p.0 (λ n t v h. (at_val g o x at n t v h.0, h.1)) (λ n t v h. (val_at g o x at n t v h.0, h.1)) p.1 in
      (with_properties g o p.0, record { properties = p.0; values = values; is = refl })

-- a name that isn't unknown is an object's
known : (g : Graph) (name : Word) → (IsUnknown g name → ⊥) → (o : ℕ) × Named g o name
known g name never = elim (decide_taken g name) [ inl h ↦ h | inr none ↦ absurd (never (λ o h. none (o, h))) ]

pub next_exists : (g : Graph) (edit : Edit) → Good g → Unbroken g edit → (new : Graph) × Next g edit new
next_exists g (Begin name lo hi) good u = (begun_as g name (span_of lo hi), refl)
next_exists g (Extend lo hi) good u = (widened g (span_of lo hi), refl)
next_exists g (AddNode id labels) good u = (with_node g id labels, refl)
next_exists g (AddEdge id labels source target) good u =
    let s = known g source (λ none. u.1.1.0 (inl none)) in
    let t = known g target (λ none. u.1.1.0 (inr none)) in
    (with_edge g id labels s.0 t.0, (s.0, t.0, s.1, t.1, refl))
next_exists g (Live id from to) good u =
    let o = known g id u.1.0 in
    let x = there g.objects o.0 _ o.1 in
    let new = joins_there g good o.0 x.0 x.1 (span_of from to) in
    (new.0, (o.0, o.1, new.1))
next_exists g (Gone id from to) good u =
    let o = known g id u.1.0 in
    let x = there g.objects o.0 _ o.1 in
    let new = cuts_there g good o.0 x.0 x.1 (span_of from to) in
    (new.0, (o.0, o.1, new.1))
next_exists g (Put id prop value from to) good u =
    let o = known g id u.1.0 in
    let x = there g.objects o.0 _ o.1 in
    let new = puts_there g good o.0 x.0 x.1 (span_of from to) prop value (not_after from to u.1.1.0) in
    (new.0, (o.0, o.1, new.1))
next_exists g (Clear id prop from to) good u =
    let o = known g id u.1.0 in
    let x = there g.objects o.0 _ o.1 in
    let new = clears_there g good o.0 x.0 x.1 (span_of from to) prop in
    (new.0, (o.0, o.1, new.1))
next_exists g (Remove id) good u =
    let o = known g id u.1.0 in
    (without g o.0, (o.0, o.1, refl))
