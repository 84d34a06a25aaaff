-- A part of a good graph that holds the ends of its edges is good; and a list of objects makes a part.
use Rattle.std.proofs.Common.{◌≡◌, ◌⊎◌, inl, inr, ℕ, zero, suc, ◌+◌, ◌≤◌, ℤ, List, [], ◌∷◌, length, Bool, true, false, ◌||◌, cond, Option, Some, None, refl, sym, ◌∙◌, subst, ap, arith, true≢false}
use Rattle.std.specs.Prelude.{IsTrue, IsSomeAnd, IfSome, option_map, slice_get, ◌↔◌}
use Rattle.std.proofs.lemmas.Bool.Decides.{eqb_tells}
use Rattle.std.proofs.lemmas.Option.{slice_get_within}
use Rattle.itpg_base.specs.Spans.{Within}
use Rattle.itpg_base.specs.Words.{Word}
use Rattle.interval_set.specs.Runs.{AreRunsOf}
use Rattle.itpg_base.specs.Graphs.{Graph, HasEnd, Ends, Good, Valued, Begun, Object, IsObject, IsBegun, ObjectIs, Stands, Val, PropertiesHave}
use Rattle.itpg_base.proofs.Objects.{there}
use Rattle.itpg_base.specs.declared.object_number.ObjNo.{ObjNo}
use Rattle.itpg_graph.specs.Changes.{dropped}
use Rattle.itpg_graph.specs.Edges.{HasNumber, AreNumbers, AreRising, LeadsBy}
use Rattle.itpg_graph.specs.Kinds.{IsNode, ends_of}
use Rattle.itpg_graph.specs.GraphParts.{IsOnly, HoldsEnds, ArePart, has_number, kept_from, only_of, part_of, NoneStandsBetween, NoneStands, IsNextStanding, IsNextNumber, NoNumber, StandingAreNumbers}

-- what is so of an object of the part is so of it in the whole, or of it dropped
part_or_dropped : (g part : Graph) (S : ℕ → Type 0) → IsOnly g S part → (P : Object → Type 0) (o : ℕ) → ObjectIs part o P → (S o × ObjectIs g o P) ⊎ ObjectIs g o (λ x. P (dropped x))
part_or_dropped g part S only P o h = elim (only.each o) [
  | inl k ↦ inl (k.0, subst (λ w. IsSomeAnd w P) k.1 h)
  | inr k ↦ inr (of_dropped (slice_get g.objects o) (subst (λ w. IsSomeAnd w P) k.1 h))
]
  where
    of_dropped : (w : Option Object) → IsSomeAnd (option_map dropped w) P → IsSomeAnd w (λ x. P (dropped x))
    of_dropped None h = h
    of_dropped (Some x) h = h

nothing : (w : Option Object) (P : Object → Type 0) → ((x : Object) → P x → ⊥) → IsSomeAnd w P → ⊥
nothing None P refutes h = h
nothing (Some x) P refutes h = refutes x h

not_standing : (x : Object) → IsTrue (dropped x).standing → ⊥
not_standing x h = true≢false (sym h)

-- what can't be so of a dropped object is so of an object of the set
from_part : (g part : Graph) (S : ℕ → Type 0) → IsOnly g S part → (P : Object → Type 0) → ((x : Object) → P (dropped x) → ⊥) → (o : ℕ) → ObjectIs part o P → S o × ObjectIs g o P
from_part g part S only P refutes o h = elim (part_or_dropped g part S only P o h) [
  | inl k ↦ k
  | inr k ↦ absurd (nothing (slice_get g.objects o) (λ x. P (dropped x)) refutes k)
]

to_part : (g part : Graph) (S : ℕ → Type 0) → IsOnly g S part → (P : Object → Type 0) (o : ℕ) → S o → ObjectIs g o P → ObjectIs part o P
to_part g part S only P o s h = elim (only.each o) [
  | inl k ↦ subst (λ w. IsSomeAnd w P) (sym k.1) h
  | inr k ↦ absurd (k.0 s)
]

dropped_is_object : (x : Object) → IsObject x → IsObject (dropped x)
dropped_is_object x is = record { labels = is.labels; live = tt; few_spans = omega arith; properties = tt; differ = tt; few_properties = omega arith }

none_from : {X : Type 0} (xs ys : List X) → length xs ≡ length ys → ys ≡ [] → xs ≡ []
none_from [] ys e refutes = refl
none_from (x ∷ xs) [] e refutes = absurd (omega (arith, e))
none_from (x ∷ xs) (y ∷ ys) e refutes = let never : ⊥ = cc in absurd never

pub part_good : (g part : Graph) (S : ℕ → Type 0) → Good g → IsOnly g S part → HoldsEnds g S → Good part
part_good g part S good only holds = record {
  ends_exist = λ e a t has exists.
      let h = from_part g part S only _ (λ x k. not_standing x k.0) e has in
      let x = from_part g part S only _ (λ y k. k) e exists in
      to_part g part S only _ a (holds e a h.0 h.1) (good.ends_exist e a t h.1 x.1);
  values_exist = λ o name t value val.
      let v = from_part g part S only _ (λ x k. k) o val in
      to_part g part S only _ o v.0 (good.values_exist o name t value v.1);
  ends_stand = λ e a has.
      let h = from_part g part S only _ (λ x k. not_standing x k.0) e has in
      to_part g part S only _ a (holds e a h.0 h.1) (good.ends_stand e a h.1);
  names_differ = λ o p name first second.
      good.names_differ o p name (from_part g part S only _ (λ x k. not_standing x k.0) o first).1 (from_part g part S only _ (λ x k. not_standing x k.0) p second).1;
  inside = λ o t exists.
      let x = from_part g part S only _ (λ y k. k) o exists in
      let at = good.inside o t x.1 in
      record { stands = to_part g part S only _ o x.0 at.stands; within = subst (λ b. IsSomeAnd b (λ (c : Begun). Within t c.horizon)) (sym only.begun) at.within };
  objects = λ o x e. elim (only.each o) [
    | inl k ↦ good.objects o x (sym k.1 ∙ e)
    | inr k ↦ of_dropped o (slice_get g.objects o) refl x (sym k.1 ∙ e)
  ];
  few = let most = good.few in omega (arith, most, only.count);
  begun = subst (λ b. IfSome b IsBegun) (sym only.begun) good.begun;
  unbegun = λ none. none_from part.objects g.objects only.count (good.unbegun (sym only.begun ∙ none));
}
  where
    of_dropped : (o : ℕ) (w : Option Object) → slice_get g.objects o ≡ w → (x : Object) → option_map dropped w ≡ Some x → IsObject x
    of_dropped o None at x e = let never : ⊥ = cc in absurd never
    of_dropped o (Some y) at x e =
        let same : dropped y ≡ x = cc in
        subst IsObject same (dropped_is_object y (good.objects o y at))

number_told : (objects : List ObjNo) (o : ℕ) → ((has_number objects o ≡ true) × HasNumber objects o) ⊎ ((has_number objects o ≡ false) × (HasNumber objects o → ⊥))
number_told [] o = inr (refl, (λ h. h))
number_told (x ∷ rest) o = elim (eqb_tells x.0 o) [
  | inl e ↦ inl (ap (λ b. b || has_number rest o) e.0, inl e.1)
  | inr n ↦ elim (number_told rest o) [
    | inl k ↦ inl (ap (λ b. b || has_number rest o) n.0 ∙ k.0, inr k.1)
    | inr k ↦ inr (ap (λ b. b || has_number rest o) n.0 ∙ k.0, (λ h. elim h [ inl e ↦ n.1 e | inr j ↦ k.1 j ]))
  ]
]

length-kept_from : (keep : ℕ → Bool) (i : ℕ) (xs : List Object) → length (kept_from keep i xs) ≡ length xs
length-kept_from keep i [] = refl
length-kept_from keep i (x ∷ xs) = ap suc (length-kept_from keep (suc i) xs)

kept_there : (keep : ℕ → Bool) (i k n : ℕ) (xs : List Object) → n ≡ i + k → keep n ≡ true → slice_get (kept_from keep i xs) k ≡ slice_get xs k
kept_there keep i k n [] e keeps = refl
kept_there keep i zero n (x ∷ xs) e keeps = let same : n ≡ i = omega (arith, e) in ap (λ b. Some (cond b x (dropped x))) (subst (λ m. keep m ≡ true) same keeps)
kept_there keep i (suc k) n (x ∷ xs) e keeps = kept_there keep (suc i) k n xs (omega (arith, e)) keeps

kept_gone : (keep : ℕ → Bool) (i k n : ℕ) (xs : List Object) → n ≡ i + k → keep n ≡ false → slice_get (kept_from keep i xs) k ≡ option_map dropped (slice_get xs k)
kept_gone keep i k n [] e refutes = refl
kept_gone keep i zero n (x ∷ xs) e refutes = let same : n ≡ i = omega (arith, e) in ap (λ b. Some (cond b x (dropped x))) (subst (λ m. keep m ≡ false) same refutes)
kept_gone keep i (suc k) n (x ∷ xs) e refutes = kept_gone keep (suc i) k n xs (omega (arith, e)) refutes

-- the graph of a list of objects is the part
pub only_is : (g : Graph) (objects : List ObjNo) → IsOnly g (HasNumber objects) (only_of g objects)
only_is g objects = record {
  begun = refl;
  count = length-kept_from (has_number objects) 0 g.objects;
  each = λ o. elim (number_told objects o) [
    | inl k ↦ inl (k.1, kept_there (has_number objects) 0 o o g.objects (omega arith) k.0)
    | inr k ↦ inr (k.1, kept_gone (has_number objects) 0 o o g.objects (omega arith) k.0)
  ];
}

-- what stands in the graph of a list is in the list, and is the same in the whole
pub part_stands : (g : Graph) (objects : List ObjNo) (o : ℕ) → Stands (only_of g objects) o → HasNumber objects o × Stands g o
part_stands g objects o h = from_part g (only_of g objects) (HasNumber objects) (only_is g objects) (λ x. IsTrue x.standing) not_standing o h

pub part_object : (g : Graph) (objects : List ObjNo) (o : ℕ) (P : Object → Type 0) → Stands (only_of g objects) o → ObjectIs g o P → ObjectIs (only_of g objects) o P
part_object g objects o P stands h = to_part g (only_of g objects) (HasNumber objects) (only_is g objects) P o (part_stands g objects o stands).0 h

-- the same of what can't be so of a dropped object
pub of_part : (g : Graph) (objects : List ObjNo) (P : Object → Type 0) → ((x : Object) → P x → IsTrue x.standing) → (o : ℕ) → ObjectIs (only_of g objects) o P → HasNumber objects o × ObjectIs g o P
of_part g objects P stands o h = from_part g (only_of g objects) (HasNumber objects) (only_is g objects) P (λ x so. not_standing x (stands (dropped x) so)) o h

pub in_part : (g : Graph) (objects : List ObjNo) (P : Object → Type 0) (o : ℕ) → HasNumber objects o → ObjectIs g o P → ObjectIs (only_of g objects) o P
in_part g objects P o has h = to_part g (only_of g objects) (HasNumber objects) (only_is g objects) P o has h

-- by its list alone, a part is the graph of the list, and no list is the whole
pub listed_alike : (g seen : Graph) (listed : Option (List ObjNo)) (objects : List ObjNo) → listed ≡ Some objects → part_of g listed ≡ seen → only_of g objects ≡ seen
listed_alike g seen listed objects is e = subst (λ l. part_of g l ≡ seen) is e

pub whole_alike : (g seen : Graph) (listed : Option (List ObjNo)) → listed ≡ None → part_of g listed ≡ seen → g ≡ seen
whole_alike g seen listed is e = subst (λ l. part_of g l ≡ seen) is e

-- the same of what a part, or a whole graph, is seen as
pub seen_stands : (g seen : Graph) (listed : Option (List ObjNo)) (o : ℕ) → part_of g listed ≡ seen → Stands seen o → Stands g o
seen_stands g seen None o e h = subst (λ p. Stands p o) (sym e) h
seen_stands g seen (Some objects) o e h = (part_stands g objects o (subst (λ p. Stands p o) (sym e) h)).1

pub seen_object : (g seen : Graph) (listed : Option (List ObjNo)) (o : ℕ) (P : Object → Type 0) → part_of g listed ≡ seen → Stands seen o → ObjectIs g o P → ObjectIs seen o P
seen_object g seen None o P e stands h = subst (λ p. ObjectIs p o P) e h
seen_object g seen (Some objects) o P e stands h = subst (λ p. ObjectIs p o P) e (part_object g objects o P (subst (λ p. Stands p o) (sym e) stands) h)

pub seen_good : (g seen : Graph) (listed : Option (List ObjNo)) → part_of g listed ≡ seen → IfSome listed (ArePart g) → Good g → Good seen
seen_good g seen None e are good = subst Good e good
seen_good g seen (Some objects) e are good = subst Good e (part_good g (only_of g objects) (HasNumber objects) good (only_is g objects) are.ends)

-- by its list alone
pub listed_good : (g seen : Graph) (listed : Option (List ObjNo)) (objects : List ObjNo) → listed ≡ Some objects → part_of g listed ≡ seen → IfSome listed (ArePart g) → Good seen
listed_good g seen listed objects is e are = seen_good g seen listed e are (subst (λ l. IfSome l (ArePart g)) is are).good

pub seen_begun : (g seen : Graph) (listed : Option (List ObjNo)) → part_of g listed ≡ seen → g.begun ≡ seen.begun
seen_begun g seen None e = ap (λ (p : Graph). p.begun) e
seen_begun g seen (Some objects) e = ap (λ (p : Graph). p.begun) e

-- a standing object of what a part is seen as is in its place as in the graph
pub seen_place : (g seen : Graph) (listed : Option (List ObjNo)) (o : ℕ) → part_of g listed ≡ seen → Stands seen o → slice_get g.objects o ≡ slice_get seen.objects o
seen_place g seen None o e stands = ap (λ (p : Graph). slice_get p.objects o) e
seen_place g seen (Some objects) o e stands =
    let only = only_is g objects in
    let has = (part_stands g objects o (subst (λ p. Stands p o) (sym e) stands)).0 in
    elim (only.each o) [
      | inl k ↦ sym k.1 ∙ ap (λ (p : Graph). slice_get p.objects o) e
      | inr k ↦ absurd (k.0 has)
    ]

pub seen_some : {X : Type 0} (found : Option X) (runs : X → List Valued) (g seen : Graph) (o : ℕ) (prop : Word) → slice_get g.objects o ≡ slice_get seen.objects o → IfSome found (λ x. AreRunsOf (Val g o prop) (runs x)) → IfSome found (λ x. AreRunsOf (Val seen o prop) (runs x))
seen_some found runs g seen o prop e are = subst (λ w. IfSome found (λ x. AreRunsOf (λ t value. IsSomeAnd w (λ y. PropertiesHave y.properties prop t value)) (runs x))) e are

pub seen_none : (g seen : Graph) (o : ℕ) (prop : Word) (none : Type 0) → slice_get g.objects o ≡ slice_get seen.objects o → none ↔ ((t : ℤ) (value : Word) → ¬ Val g o prop t value) → none ↔ ((t : ℤ) (value : Word) → ¬ Val seen o prop t value)
seen_none g seen o prop none e same = subst (λ w. none ↔ ((t : ℤ) (value : Word) → ¬ IsSomeAnd w (λ x. PropertiesHave x.properties prop t value))) e same

-- what stands in a part is in its list and stands in the whole, and the other way round
pub seen_standing : (g seen : Graph) (listed : Option (List ObjNo)) (objects : List ObjNo) (o : ℕ) → listed ≡ Some objects → part_of g listed ≡ seen → IfSome listed (ArePart g) → HasNumber objects o ↔ Stands seen o
seen_standing g seen listed objects o is e are =
    let alike : only_of g objects ≡ seen = subst (λ l. part_of g l ≡ seen) is e in
    let part : ArePart g objects = subst (λ l. IfSome l (ArePart g)) is are in (
      (λ has. subst (λ p. Stands p o) alike (to_part g (only_of g objects) (HasNumber objects) (only_is g objects) (λ x. IsTrue x.standing) o has (part.stand o has))),
      (λ stands. (part_stands g objects o (subst (λ p. Stands p o) (sym alike) stands)).0),
    )

-- going through the numbers for the first that stands
pub none_yet : (g : Graph) (from : ℕ) → NoneStandsBetween g from from
none_yet g from k least less = absurd (omega (arith, least, less))

pub none_here : (g : Graph) (from n : ℕ) → NoneStandsBetween g from n → (Stands g n → ⊥) → NoneStandsBetween g from (n + 1)
none_here g from n none fallen k least less stands = elim (eqb_tells k n) [
  | inl e ↦ fallen (subst (Stands g) e.1 stands)
  | inr other ↦ none k least (let ne = other.1 in omega (arith, ne, less)) stands
]

pub none_left : (g : Graph) (from n count : ℕ) → NoneStandsBetween g from n → count ≡ length g.objects → count ≤ n → NoneStands g from
none_left g from n count none e le k least stands =
    let t = there g.objects k _ stands in
    let lt = slice_get_within g.objects k t.0 t.1 in
    none k least (omega (arith, lt, le, e)) stands

-- the first of a part's list that is there is the first of the part that stands
pub next_seen : (g seen : Graph) (listed : Option (List ObjNo)) (objects : List ObjNo) (from n : ℕ) → listed ≡ Some objects → part_of g listed ≡ seen → IfSome listed (ArePart g) → IsNextNumber objects from n → IsNextStanding seen from n
next_seen g seen listed objects from n is e are next = record {
  stands = (seen_standing g seen listed objects n is e are).0 next.has;
  behind = next.behind;
  first = λ k least less stands. let le = next.first k ((seen_standing g seen listed objects k is e are).1 stands) least in omega (arith, le, less);
}

pub none_seen : (g seen : Graph) (listed : Option (List ObjNo)) (objects : List ObjNo) (from : ℕ) → listed ≡ Some objects → part_of g listed ≡ seen → IfSome listed (ArePart g) → NoNumber objects from → NoneStands seen from
none_seen g seen listed objects from is e are none k least stands = let lt = none k ((seen_standing g seen listed objects k is e are).1 stands) in omega (arith, lt, least)

pub list_rises : (g : Graph) (listed : Option (List ObjNo)) (objects : List ObjNo) → listed ≡ Some objects → IfSome listed (ArePart g) → AreRising objects
list_rises g listed objects is are = (subst (λ l. IfSome l (ArePart g)) is are).rising

-- the two ends that are read are ends
ends_have : (w : Option Object) (ends : ObjNo × ObjNo) (Has : Ends → Type 0) → Has (record { source = ends.0.0; target = ends.1.0 }) → IsSomeAnd w (λ x. IsTrue x.standing) → IsSomeAnd w (λ x. ends_of (Some ends) ≡ x.ends)
    → IsSomeAnd w (λ x. IsTrue x.standing × IsSomeAnd x.ends Has)
ends_have None ends Has so stands is = stands
ends_have (Some x) ends Has so stands is = (stands, subst (λ w. IsSomeAnd w Has) is so)

source_end : (g : Graph) (e : ℕ) (ends : ObjNo × ObjNo) → Stands g e → ObjectIs g e (λ x. ends_of (Some ends) ≡ x.ends) → HasEnd g e ends.0.0
source_end g e ends stands is = ends_have (slice_get g.objects e) ends _ (inl refl) stands is

target_end : (g : Graph) (e : ℕ) (ends : ObjNo × ObjNo) → Stands g e → ObjectIs g e (λ x. ends_of (Some ends) ≡ x.ends) → HasEnd g e ends.1.0
target_end g e ends stands is = ends_have (slice_get g.objects e) ends _ (inr refl) stands is

-- the ends of an edge of a part are nodes of it
pub seen_nodes : (g seen : Graph) (listed : Option (List ObjNo)) (e : ℕ) (ends : Option (ObjNo × ObjNo)) → part_of g listed ≡ seen → IfSome listed (ArePart g) → Stands seen e
    → ObjectIs g e (λ x. ends_of ends ≡ x.ends) → IfSome ends (λ n. IsNode g n.0.0 × IsNode g n.1.0) → IfSome ends (λ n. IsNode seen n.0.0 × IsNode seen n.1.0)
seen_nodes g seen listed e None same are stands is nodes = tt
seen_nodes g seen None e (Some ends) same are stands is nodes = subst (λ p. IsNode p ends.0.0 × IsNode p ends.1.0) same nodes
seen_nodes g seen (Some objects) e (Some ends) same are stands is nodes =
    let here = part_stands g objects e (subst (λ p. Stands p e) (sym same) stands) in
    let at : (a : ℕ) → HasEnd g e a → IsNode g a → IsNode seen a = λ a has node.
    subst (λ p. IsNode p a) same (to_part g (only_of g objects) (HasNumber objects) (only_is g objects) _ a (are.ends e a here.0 has) node) in
    (at ends.0.0 (source_end g e ends here.1 is) nodes.0, at ends.1.0 (target_end g e ends here.1 is) nodes.1)

-- what is so of an edge by which the object is left, or reached
abbrev Leads : (Ends → ℕ) → ℕ → Object → Type 0
Leads end o x = IsTrue x.standing × IsSomeAnd x.ends (λ n. end n ≡ o)

-- the edges of a part at an object of it are those of the graph that stand in the part
pub seen_edges : (end : Ends → ℕ) (g seen : Graph) (listed : Option (List ObjNo)) (o : ℕ) (edges : List ObjNo) → part_of g listed ≡ seen → AreNumbers (LeadsBy end g o) edges → StandingAreNumbers seen (LeadsBy end seen o) edges
seen_edges end g seen listed o edges e are = record {
  whole = λ k h. are.whole k (subst (λ w. IsSomeAnd w (Leads end o)) (sym (place k (leads_stands (slice_get seen.objects k) h))) h);
  only = λ k has stands. subst (λ w. IsSomeAnd w (Leads end o)) (place k stands) (are.only k has);
  rising = are.rising;
}
  where
    place : (k : ℕ) → Stands seen k → slice_get g.objects k ≡ slice_get seen.objects k
    place k = seen_place g seen listed k e

    leads_stands : (w : Option Object) → IsSomeAnd w (Leads end o) → IsSomeAnd w (λ x. IsTrue x.standing)
    leads_stands None h = h
    leads_stands (Some x) h = h.0
