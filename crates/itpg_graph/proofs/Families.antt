-- The families of an object of a good graph, and how many there are.
use Rattle.std.proofs.Common.{◌≡◌, ◌≢◌, suc, ◌≤◌, ℤ, List, [], ◌∷◌, ◌++◌, ◌⊎◌, inl, inr, length, refl, sym, ap, ◌∙◌, subst, arith, append_assoc}
use Rattle.itpg_base.specs.Words.{Word, IsBefore, IsRising}
use Rattle.itpg_base.specs.Graphs.{Property, Valued, RunsHave, PropertiesHave, IsFamily, AreFamilies, property_names}
use Rattle.interval_set.specs.Runs.{AreRunsOf}
use Rattle.interval_set.proofs.UniqueValues.{values_unique, runs_of_unique}
use Rattle.itpg_graph.specs.Families.{IsValued, AreValued, IsOrderly, AreProperties}
use Rattle.itpg_graph.proofs.Names.{not_before_itself, compare, before_then, after_first, rising_rest, has_after}
use Rattle.itpg_graph.proofs.Parts.{own_runs, some_value}
use Rattle.itpg_graph.proofs.Cutting.{values_alike}

-- the same properties for other values that are the same
pub properties_alike : (H K : Word → ℤ → Word → Type 0) (ps : List Property) → ((n : Word) (t : ℤ) (v : Word) → H n t v → K n t v) → ((n : Word) (t : ℤ) (v : Word) → K n t v → H n t v) → AreProperties H ps → AreProperties K ps
properties_alike H K ps there back are = record { whole = λ n t v h. are.whole n t v (back n t v h); only = λ n t v h. there n t v (are.only n t v h); orderly = are.orderly }

-- families have values
pub families_valued : (ps : List Property) → AreFamilies ps → AreValued ps
families_valued [] f = tt
families_valued (p ∷ ps) f = (record { some = (f.0).some; runs = (f.0).runs }, families_valued ps f.1)

-- a property that has a value, among the others
pub record Splits (ps : List Property) (n : Word) : Type 0 where
  pub front : List Property
  pub own : Property
  pub back : List Property
  pub is : ps ≡ front ++ own ∷ back
  pub named : own.name ≡ n

pub named_split : (ps : List Property) (n : Word) (t : ℤ) (v : Word) → PropertiesHave ps n t v → Splits ps n
named_split [] n t v h = absurd h
named_split (p ∷ ps) n t v h = elim h [
  | inl own ↦ record { front = []; own = p; back = ps; is = refl; named = own.0 }
  | inr more ↦ let r = named_split ps n t v more in record { front = p ∷ r.front; own = r.own; back = r.back; is = ap (λ xs. p ∷ xs) r.is; named = r.named }
]

family_at : (front : List Property) (p : Property) (back : List Property) → AreFamilies (front ++ p ∷ back) → IsFamily p
family_at [] p back f = f.0
family_at (x ∷ front) p back f = family_at front p back f.1

-- the runs of a property are few, as those of a family
pub few_runs : (ps : List Property) (n : Word) (runs : List Valued) → AreFamilies ps → IsRising (property_names ps) → AreRunsOf (PropertiesHave ps n) runs → length runs ≤ 4096
few_runs ps n [] f r are = omega arith
few_runs ps n (x ∷ rest) f r are =
    let some = some_value (x ∷ rest) are.coalesced (λ e. let never : ⊥ = cc in never) in
    let split = named_split ps n some.0 some.1 (are.only some.0 some.1 some.2) in
    let family = family_at split.front split.own split.back (subst AreFamilies split.is f) in
    let orderly : IsOrderly ps = record { rising = r; valued = families_valued ps f } in
    let runs = own_runs split.front split.own split.back (subst IsOrderly split.is orderly) in
    let own : AreRunsOf (PropertiesHave ps n) split.own.runs = subst (λ m. AreRunsOf (PropertiesHave ps m) split.own.runs) split.named (subst (λ xs. AreRunsOf (PropertiesHave xs split.own.name) split.own.runs) (sym split.is) runs) in
    let same : x ∷ rest ≡ split.own.runs = runs_of_unique (PropertiesHave ps n) (x ∷ rest) split.own.runs are own in
    subst (λ (xs : List Valued). length xs ≤ 4096) (sym same) family.few

-- properties whose runs are few are families
pub families_from : (H : Word → ℤ → Word → Type 0) (ps : List Property) → AreProperties H ps → ((n : Word) (runs : List Valued) → AreRunsOf (H n) runs → length runs ≤ 4096) → AreFamilies ps
families_from H ps are few = each [] ps are.orderly (λ n t v h. are.only n t v h) (λ n t v h. are.whole n t v h)
  where
    each : (front back : List Property) → IsOrderly (front ++ back) → ((n : Word) (t : ℤ) (v : Word) → PropertiesHave (front ++ back) n t v → H n t v) → ((n : Word) (t : ℤ) (v : Word) → H n t v → PropertiesHave (front ++ back) n t v) → AreFamilies back
    each front [] orderly there again = tt
    each front (p ∷ back) orderly there again =
        let own = values_alike (PropertiesHave (front ++ p ∷ back) p.name) (H p.name) p.runs (there p.name) (again p.name) (own_runs front p back orderly) in
        let valued = valued_at front p back orderly.valued in
        let e : (front ++ p ∷ []) ++ back ≡ front ++ p ∷ back = append_assoc front (p ∷ []) back in (
          record { some = valued.some; few = few p.name p.runs own; runs = valued.runs },
          each (front ++ p ∷ []) back (subst IsOrderly (sym e) orderly) (λ n t v h. there n t v (subst (λ xs. PropertiesHave xs n t v) e h)) (λ n t v h. subst (λ xs. PropertiesHave xs n t v) (sym e) (again n t v h)),
        )
      where
        valued_at : (front : List Property) (p : Property) (back : List Property) → AreValued (front ++ p ∷ back) → IsValued p
        valued_at [] p back f = f.0
        valued_at (x ∷ front) p back f = valued_at front p back f.1

-- a list of names has the name
abbrev pub InNames : List Word → Word → Type 0
InNames [] n = ⊥
InNames (w ∷ ws) n = (w ≡ n) ⊎ InNames ws n

taken_out : (ws : List Word) (w : Word) → InNames ws w → (rest : List Word) × (length ws ≡ suc (length rest)) × ((n : Word) → n ≢ w → InNames ws n → InNames rest n)
taken_out [] w h = absurd h
taken_out (x ∷ ws) w h = elim h [
  | inl is ↦ (ws, refl, λ n apart has. elim has [ inl own ↦ absurd (apart (sym own ∙ is)) | inr more ↦ more ])
  | inr more ↦
      let r = taken_out ws w more in
      (x ∷ r.0, ap (λ n. suc n) r.1, λ n apart has. elim has [ inl own ↦ inl own | inr other ↦ inr (r.2 n apart other) ])
]

-- different names of a list aren't more than the list has
names_few : (ns ws : List Word) → IsRising ns → ((n : Word) → InNames ns n → InNames ws n) → length ns ≤ length ws
names_few [] ws r there = omega arith
names_few (n ∷ ns) ws r there =
    let out = taken_out ws n (there n (inl refl)) in
    let fewer = names_few ns out.0 (rest ns r) (λ m has. out.2 m (λ same. not_before_itself n (subst (IsBefore n) same (later n ns m r has))) (there m (inr has))) in
    let long = out.1 in
    omega arith
  where
    rest : (ns : List Word) → IsRising (n ∷ ns) → IsRising ns
    rest ns r = r.1

    later : (n : Word) (ns : List Word) (m : Word) → IsRising (n ∷ ns) → InNames ns m → IsBefore n m
    later n [] m r has = absurd has
    later n (x ∷ xs) m r has = elim has [ inl own ↦ subst (IsBefore n) own r.0 | inr more ↦ before_then n x m r.0 (later x xs m r.1 more) ]

name_has : (ps : List Property) (n : Word) → AreValued ps → InNames (property_names ps) n → (t : ℤ) × (v : Word) × PropertiesHave ps n t v
name_has [] n valued h = absurd h
name_has (p ∷ ps) n valued h = elim h [
  | inl own ↦ let some = some_value p.runs (valued.0).runs (valued.0).some in (some.0, some.1, inl (own, some.2))
  | inr more ↦ let r = name_has ps n valued.1 more in (r.0, r.1, inr r.2)
]

pub has_name : (ps : List Property) (n : Word) (t : ℤ) (v : Word) → PropertiesHave ps n t v → InNames (property_names ps) n
has_name [] n t v h = absurd h
has_name (p ∷ ps) n t v h = elim h [ inl own ↦ inl own.0 | inr more ↦ inr (has_name ps n t v more) ]

length_names : (ps : List Property) → length (property_names ps) ≡ length ps
length_names [] = refl
length_names (p ∷ ps) = ap (λ n. suc n) (length_names ps)

-- properties whose names are among these aren't more
pub fewer : (H : Word → ℤ → Word → Type 0) (ps : List Property) (ws : List Word) → AreProperties H ps → ((n : Word) (t : ℤ) (v : Word) → H n t v → InNames ws n) → length ps ≤ length ws
fewer H ps ws are there =
    let le = names_few (property_names ps) ws are.orderly.rising (λ n has. let h = name_has ps n are.orderly.valued has in there n h.0 h.1 (are.only n h.0 h.1 h.2)) in
    let long = length_names ps in
    omega arith

pub fewer_properties : (H : Word → ℤ → Word → Type 0) (ps qs : List Property) → AreProperties H ps → ((n : Word) (t : ℤ) (v : Word) → H n t v → InNames (property_names qs) n) → length ps ≤ length qs
fewer_properties H ps qs are there = let le = fewer H ps (property_names qs) are there in let long = length_names qs in omega arith

pub one_more : (H : Word → ℤ → Word → Type 0) (ps qs : List Property) (name : Word) → AreProperties H ps → ((n : Word) (t : ℤ) (v : Word) → H n t v → (n ≡ name) ⊎ InNames (property_names qs) n) → length ps ≤ suc (length qs)
one_more H ps qs name are there =
    let le = fewer H ps (name ∷ property_names qs) are (λ n t v h. elim (there n t v h) [ inl same ↦ inl (sym same) | inr more ↦ inr more ]) in
    let long = length_names qs in
    omega arith

-- values have one list of properties
same_property : (p q : Property) → p.name ≡ q.name → p.runs ≡ q.runs → p ≡ q
same_property p q e f = parts p.name q.name p.runs q.runs e f
  where
    parts : (m n : Word) (xs ys : List Valued) → m ≡ n → xs ≡ ys → let p : Property = record { name = m; runs = xs } in let q : Property = record { name = n; runs = ys } in p ≡ q
    parts m n xs ys e f = cc

pub properties_same : (ps qs : List Property) → IsOrderly ps → IsOrderly qs → ((n : Word) (t : ℤ) (v : Word) → PropertiesHave ps n t v → PropertiesHave qs n t v) → ((n : Word) (t : ℤ) (v : Word) → PropertiesHave qs n t v → PropertiesHave ps n t v) → ps ≡ qs
properties_same [] [] a b there again = refl
properties_same [] (q ∷ qs) a b there again = let some = some_value q.runs (b.valued.0).runs (b.valued.0).some in absurd (again q.name some.0 some.1 (inl (refl, some.2)))
properties_same (p ∷ ps) [] a b there again = let some = some_value p.runs (a.valued.0).runs (a.valued.0).some in absurd (there p.name some.0 some.1 (inl (refl, some.2)))
properties_same (p ∷ ps) (q ∷ qs) a b there again =
    let name : p.name ≡ q.name = first in
    let runs : p.runs ≡ q.runs = values_unique p.runs q.runs (a.valued.0).runs (b.valued.0).runs
    (λ t v. (λ h. own p q ps qs b name t v (there p.name t v (inl (refl, h))), λ h. own q p qs ps a (sym name) t v (again q.name t v (inl (refl, h))))) in
    let head = same_property p q name runs in
    let tail = properties_same ps qs (behind p ps a) (behind q qs b) (rest p q ps qs a name there) (rest q p qs ps b (sym name) again) in
    cc
  where
    behind : (p : Property) (ps : List Property) → IsOrderly (p ∷ ps) → IsOrderly ps
    behind p ps a = record { rising = rising_rest p ps a.rising; valued = a.valued.1 }

    -- a first name that comes before the other's first is no name of the other
    not_before : (p q : Property) (ps qs : List Property) → IsOrderly (p ∷ ps) → IsOrderly (q ∷ qs) → ((n : Word) (t : ℤ) (v : Word) → PropertiesHave (p ∷ ps) n t v → PropertiesHave (q ∷ qs) n t v) → IsBefore p.name q.name → ⊥
    not_before p q ps qs a b there before =
        let some = some_value p.runs (a.valued.0).runs (a.valued.0).some in
        elim (there p.name some.0 some.1 (inl (refl, some.2))) [
          | inl own ↦ not_before_itself p.name (subst (IsBefore p.name) own.0 before)
          | inr more ↦ not_before_itself p.name (before_then p.name q.name p.name before (has_after q.name p.name some.0 some.1 qs (after_first q qs b.rising) more))
        ]

    first : p.name ≡ q.name
    first = elim (compare p.name q.name) [
      | inl same ↦ same
      | inr apart ↦ elim apart [ inl before ↦ absurd (not_before p q ps qs a b there before) | inr after ↦ absurd (not_before q p qs ps b a again after) ]
    ]

    own : (p q : Property) (ps qs : List Property) → IsOrderly (q ∷ qs) → p.name ≡ q.name → (t : ℤ) (v : Word) → PropertiesHave (q ∷ qs) p.name t v → RunsHave q.runs t v
    own p q ps qs b name t v h = elim h [ inl is ↦ is.1 | inr more ↦ absurd (not_before_itself q.name (subst (IsBefore q.name) name (has_after q.name p.name t v qs (after_first q qs b.rising) more))) ]

    rest : (p q : Property) (ps qs : List Property) → IsOrderly (p ∷ ps) → p.name ≡ q.name → ((n : Word) (t : ℤ) (v : Word) → PropertiesHave (p ∷ ps) n t v → PropertiesHave (q ∷ qs) n t v) → (n : Word) (t : ℤ) (v : Word) → PropertiesHave ps n t v → PropertiesHave qs n t v
    rest p q ps qs a name there n t v h = elim (there n t v (inr h)) [
      | inl is ↦ absurd (not_before_itself p.name (subst (IsBefore p.name) (sym is.0 ∙ sym name) (has_after p.name n t v ps (after_first p ps a.rising) h)))
      | inr more ↦ more
    ]

pub properties_unique : (H : Word → ℤ → Word → Type 0) (ps qs : List Property) → AreProperties H ps → AreProperties H qs → ps ≡ qs
properties_unique H ps qs a b = properties_same ps qs a.orderly b.orderly (λ n t v h. b.whole n t v (a.only n t v h)) (λ n t v h. a.whole n t v (b.only n t v h))
