-- Each change leaves a good graph.
use Rattle.std.proofs.Common.{◌≡◌, ◌≢◌, ℕ, zero, suc, ◌<◌, ◌≤◌, ℤ, List, [], ◌∷◌, ◌++◌, ◌⊎◌, inl, inr, length, Option, Some, None, refl, sym, ap, ◌∙◌, subst, arith, length-append}
use Rattle.std.specs.Prelude.{slice_get, IsTrue, IsSomeAnd, IsSome, IsNone}
use Rattle.std.proofs.lemmas.Bool.Decides.{eqb_tells}
use Rattle.itpg_base.specs.Words.{Word, IsLabels}
use Rattle.itpg_base.specs.Spans.{Span, IsSpan, IsMoment, Within, Covers}
use Rattle.itpg_base.specs.Graphs.{Graph, Object, Ends, Begun, Good, IsObject, ObjectIs, Stands, Named, Exists, HasEnd, InHorizon, PropertiesHave, changed_at}
use Rattle.itpg_base.proofs.Objects.{there, here, get_kept, get_push, get_changed, get_other, length-changed_at, same_some}
use Rattle.interval_set.specs.Runs.{AreRuns}
use Rattle.itpg_graph.specs.Kinds.{IsNode}
use Rattle.itpg_graph.specs.Changes.{begun_as, new_object, with_node, with_edge, with_object, with_live, without, dropped}

-- the ends of an object, or of none, have the number
abbrev HasNumberAmong : Option Ends → ℕ → Type 0
HasNumberAmong ends a = IsSomeAnd ends (λ n. (n.source ≡ a) ⊎ (n.target ≡ a))

-- the graph with one more object
module _ (g : Graph) (x : Object) where
  abbrev pub pushed : Graph
  pushed = record g { objects = g.objects ++ x ∷ [] }

  -- an object that isn't the new one was there before
  pub push_is : (P : Object → Type 0) (o : ℕ) → ObjectIs pushed o P → ObjectIs g o P ⊎ ((o ≡ length g.objects) × P x)
  push_is P o h =
      let t = there (g.objects ++ x ∷ []) o P h in
      elim (get_push g.objects x o t.0 t.1) [
        | inl e ↦ inl (here g.objects o P t.0 e t.2)
        | inr e ↦ inr (e.0, subst P e.1 t.2)
      ]

  pub push_keeps : (P : Object → Type 0) (o : ℕ) → ObjectIs g o P → ObjectIs pushed o P
  push_keeps P o h =
      let t = there g.objects o P h in
      here (g.objects ++ x ∷ []) o P t.0 (get_kept g.objects (x ∷ []) o t.0 t.1) t.2

begun_some : {X : Type 0} (b : Option X) → IsSome b → b ≡ None → ⊥
begun_some None some none = let never : ⊥ = cc in never
begun_some (Some b) some none = let never : ⊥ = cc in never

new_is_object : (name : Word) (labels : List Word) (ends : Option Ends) → IsLabels labels → IsObject (new_object name labels ends)
new_is_object name labels ends is = record { labels = is; live = tt; few_spans = omega arith; properties = tt; differ = tt; few_properties = omega arith }

module _ (g : Graph) (name : Word) (labels : List Word) (ends : Option Ends) where
  good_new : Good g → IsSome g.begun → IsLabels labels → ((o : ℕ) → Named g o name → ⊥) → length g.objects < 200000 → ((a : ℕ) → HasNumberAmong ends a → IsNode g a) → Good (pushed g (new_object name labels ends))
  good_new good some is free room nodes =
      let x = new_object name labels ends in
      record {
        ends_exist = λ e a t has exists. elim (push_is g x _ e exists) [
          | inl was ↦ elim (push_is g x _ e has) [
            | inl old ↦ push_keeps g x _ a (good.ends_exist e a t old was)
            | inr new ↦ let s = there g.objects e _ was in absurd (past g.objects e s.0 s.1 (let at = new.0 in omega arith))
          ]
          | inr new ↦ absurd new.1
        ];
        values_exist = λ o p t v val. elim (push_is g x _ o val) [
          | inl old ↦ push_keeps g x _ o (good.values_exist o p t v old)
          | inr new ↦ absurd new.1
        ];
        ends_stand = λ e a has. elim (push_is g x _ e has) [
          | inl old ↦ push_keeps g x _ a (good.ends_stand e a old)
          | inr new ↦ push_keeps g x _ a (nodes a new.1.1)
        ];
        names_differ = λ o p n a b. elim (push_is g x _ o a) [
          | inl old ↦ elim (push_is g x _ p b) [
            | inl was ↦ good.names_differ o p n old was
            | inr new ↦ absurd (free o (subst (Named g o) (sym new.1.1) old))
          ]
          | inr new ↦ elim (push_is g x _ p b) [
            | inl was ↦ absurd (free p (subst (Named g p) (sym new.1.1) was))
            | inr also ↦ new.0 ∙ sym also.0
          ]
        ];
        inside = λ o t exists. elim (push_is g x _ o exists) [
          | inl old ↦ let p = good.inside o t old in record { stands = push_keeps g x _ o p.stands; within = p.within }
          | inr new ↦ absurd new.1
        ];
        objects = λ o y e. elim (get_push g.objects x o y e) [
          | inl old ↦ good.objects o y old
          | inr new ↦ subst IsObject (sym new.1) (new_is_object name labels ends is)
        ];
        few = let e = length-append g.objects (x ∷ []) in omega arith;
        begun = good.begun;
        unbegun = λ none. absurd (begun_some g.begun some none);
      }
    where
      past : (xs : List Object) (i : ℕ) (y : Object) → slice_get xs i ≡ Some y → length xs ≤ i → ⊥
      past [] i y e le = let never : ⊥ = cc in never
      past (z ∷ xs) zero y e le = omega arith
      past (z ∷ xs) (suc i) y e le = past xs i y e (omega arith)

-- a new node
pub good_node : (g : Graph) → Good g → IsSome g.begun → (name : Word) (labels : List Word) → IsLabels labels → ((o : ℕ) → Named g o name → ⊥) → length g.objects < 200000 → Good (with_node g name labels)
good_node g good some name labels is free room = good_new g name labels None good some is free room (λ a h. absurd h)

-- a new edge between two nodes
pub good_edge : (g : Graph) → Good g → (name : Word) (labels : List Word) (source target : ℕ) → IsLabels labels → ((o : ℕ) → Named g o name → ⊥) → IsNode g source → IsNode g target → length g.objects < 200000
    → Good (with_edge g name labels source target)
good_edge g good name labels source target is free s t room =
    good_new g name labels (Some (record { source = source; target = target })) good (some_begun g.begun refl) is free room
    (λ a h. elim h [ inl e ↦ subst (IsNode g) e s | inr e ↦ subst (IsNode g) e t ])
  where
    nothing : (xs : List Object) (o : ℕ) (P : Object → Type 0) → xs ≡ [] → IsSomeAnd (slice_get xs o) P → ⊥
    nothing [] o P e h = h
    nothing (x ∷ xs) o P e h = let never : ⊥ = cc in never

    some_begun : (b : Option Begun) → g.begun ≡ b → IsSome b
    some_begun None e = absurd (nothing g.objects source _ (good.unbegun e) s)
    some_begun (Some b) e = refl

-- the graph is begun
pub good_begun : (g : Graph) → Good g → IsNone g.begun → (name : Word) (horizon : Span) → IsSpan horizon → IsMoment horizon.from → IsMoment horizon.to → Good (begun_as g name horizon)
good_begun g good none name horizon span from to = record {
  ends_exist = good.ends_exist;
  values_exist = good.values_exist;
  ends_stand = good.ends_stand;
  names_differ = good.names_differ;
  inside = λ o t exists. absurd (nowhere g.objects (good.unbegun (is_none g.begun none)) o _ exists);
  objects = good.objects;
  few = good.few;
  begun = record { span = span; from = from; to = to };
  unbegun = λ e. let never : ⊥ = cc in absurd never;
}
  where
    is_none : (b : Option Begun) → IsNone b → b ≡ None
    is_none None e = refl
    is_none (Some b) e = let never : ⊥ = cc in absurd never

    nowhere : (xs : List Object) → xs ≡ [] → (o : ℕ) (P : Object → Type 0) → IsSomeAnd (slice_get xs o) P → ⊥
    nowhere [] e o P h = h
    nowhere (x ∷ xs) e o P h = let never : ⊥ = cc in never

-- the graph with one object changed
module _ (g : Graph) (o : ℕ) (f : Object → Object) where
  -- what holds after the change, of the changed object or of another
  pub changed_is : (P : Object → Type 0) (k : ℕ) → ObjectIs (with_object g o f) k P → ((k ≢ o) × ObjectIs g k P) ⊎ ((k ≡ o) × ObjectIs g o (λ x. P (f x)))
  changed_is P k h = elim (eqb_tells k o) [
    | inl e ↦ inr (e.1, changed g.objects o (subst (λ n. IsSomeAnd (slice_get (changed_at g.objects o f) n) P) e.1 h))
    | inr n ↦ inl (n.1, subst (λ w. IsSomeAnd w P) (get_other g.objects o k f n.1) h)
  ]
    where
      changed : (xs : List Object) (i : ℕ) → IsSomeAnd (slice_get (changed_at xs i f) i) P → IsSomeAnd (slice_get xs i) (λ x. P (f x))
      changed [] i q = q
      changed (x ∷ xs) zero q = q
      changed (x ∷ xs) (suc i) q = changed xs i q

  pub changed_other : (P : Object → Type 0) (k : ℕ) → k ≢ o → ObjectIs g k P → ObjectIs (with_object g o f) k P
  changed_other P k apart h = subst (λ w. IsSomeAnd w P) (sym (get_other g.objects o k f apart)) h

  pub changed_here : (P : Object → Type 0) (x : Object) → slice_get g.objects o ≡ Some x → P (f x) → ObjectIs (with_object g o f) o P
  changed_here P x at h = here (changed_at g.objects o f) o P (f x) (get_changed g.objects o f x at) h

  -- a fact that the change leaves alone
  pub changed_keeps : (P : Object → Type 0) (k : ℕ) → ObjectIs g k P → ((x : Object) → P x → P (f x)) → ObjectIs (with_object g o f) k P
  changed_keeps P k h same = elim (eqb_tells k o) [
    | inl e ↦
        let t = there g.objects o P (subst (λ n. ObjectIs g n P) e.1 h) in
        subst (λ n. ObjectIs (with_object g o f) n P) (sym e.1) (changed_here P t.0 t.1 (same t.0 t.2))
    | inr n ↦ changed_other P k n.1 h
  ]

  pub changed_old : (P : Object → Type 0) (k : ℕ) → ObjectIs (with_object g o f) k P → ((x : Object) → P (f x) → P x) → ObjectIs g k P
  changed_old P k h same = elim (changed_is P k h) [
    | inl old ↦ old.1
    | inr new ↦ let t = there g.objects o _ new.1 in subst (λ n. ObjectIs g n P) (sym new.0) (here g.objects o P t.0 t.1 (same t.0 t.2))
  ]

-- the change leaves the name, the ends, and whether the object stands
pub record KeepsShape (f : Object → Object) : Type 0 where
  pub name : (x : Object) → (f x).name ≡ x.name
  pub ends : (x : Object) → (f x).ends ≡ x.ends
  pub standing : (x : Object) → (f x).standing ≡ x.standing
  pub labels : (x : Object) → (f x).labels ≡ x.labels

-- a node is no end of itself
pub no_own_end : (g : Graph) (o : ℕ) → Good g → HasEnd g o o → ⊥
no_own_end g o good has =
    let e = there g.objects o _ has in
    let n = there g.objects o _ (good.ends_stand o o has) in
    no_end e.0.ends (ap (λ x. x.ends) (same_some _ _ _ e.1 n.1) ∙ n.2.1) e.2.1
  where
    no_end : (ends : Option Ends) → ends ≡ None → HasNumberAmong ends o → ⊥
    no_end None e h = h
    no_end (Some n) e h = let never : ⊥ = cc in never

module _ (g : Graph) (o : ℕ) (f : Object → Object) (good : Good g) (shape : KeepsShape f) (x : Object) (at : slice_get g.objects o ≡ Some x) where
  ended : (e a : ℕ) → HasEnd (with_object g o f) e a → HasEnd g e a
  ended e a h = changed_old g o f _ e h (λ y p. (subst IsTrue (shape.standing y) p.0, subst (λ n. HasNumberAmong n a) (shape.ends y) p.1))

  named_before : (k : ℕ) (n : Word) → Named (with_object g o f) k n → Named g k n
  named_before k n h = changed_old g o f _ k h (λ y p. (subst IsTrue (shape.standing y) p.0, sym (shape.name y) ∙ p.1))

  covers_at : (t : ℤ) → ObjectIs g o (λ y. Covers (f y).live t) → Covers (f x).live t
  covers_at t h = let s = there g.objects o _ h in subst (λ y. Covers (f y).live t) (same_some _ _ _ s.1 at) s.2

  -- a change of one object's families leaves a good graph, where they keep what is asked of them
  pub good_changed : Stands g o → IsObject (f x) → ((a : ℕ) (t : ℤ) → HasEnd g o a → Covers (f x).live t → Exists g a t) → ((e : ℕ) (t : ℤ) → HasEnd g e o → Exists g e t → Covers (f x).live t)
      → ((name : Word) (t : ℤ) (value : Word) → PropertiesHave (f x).properties name t value → Covers (f x).live t) → ((t : ℤ) → Covers (f x).live t → InHorizon g t) → Good (with_object g o f)
  good_changed stands object own others values within = record {
    ends_exist = λ e a t has exists.
        let had : HasEnd g e a = ended e a has in
        elim (changed_is g o f _ e exists) [
          | inl old ↦ elim (eqb_tells a o) [
            | inl same ↦ subst (λ n. Exists (with_object g o f) n t) (sym same.1) (changed_here g o f _ x at (others e t (subst (HasEnd g e) same.1 had) old.1))
            | inr apart ↦ changed_other g o f _ a apart.1 (good.ends_exist e a t had old.1)
          ]
          | inr new ↦
              let own_end : HasEnd g o a = subst (λ n. HasEnd g n a) new.0 had in
              changed_other g o f _ a (λ same. no_own_end g o good (subst (HasEnd g o) same own_end)) (own a t own_end (covers_at t new.1))
        ];
    values_exist = λ k p t v val. elim (changed_is g o f _ k val) [
      | inl old ↦ changed_other g o f _ k old.0 (good.values_exist k p t v old.1)
      | inr new ↦
          let s = there g.objects o _ new.1 in
          let has = subst (λ y. PropertiesHave (f y).properties p t v) (same_some _ _ _ s.1 at) s.2 in
          subst (λ n. Exists (with_object g o f) n t) (sym new.0) (changed_here g o f _ x at (values p t v has))
    ];
    ends_stand = λ e a has. changed_keeps g o f _ a (good.ends_stand e a (ended e a has)) (λ y p. (subst IsTrue (sym (shape.standing y)) p.0, shape.ends y ∙ p.1));
    names_differ = λ k p n a b. good.names_differ k p n (named_before k n a) (named_before p n b);
    inside = λ k t exists. elim (changed_is g o f _ k exists) [
      | inl old ↦ let p = good.inside k t old.1 in record { stands = changed_other g o f _ k old.0 p.stands; within = p.within }
      | inr new ↦ record { stands = changed_keeps g o f _ k (subst (Stands g) (sym new.0) stands) (λ y h. subst IsTrue (sym (shape.standing y)) h); within = within t (covers_at t new.1) }
    ];
    objects = λ k y e. elim (eqb_tells k o) [
      | inl same ↦ subst IsObject (same_some _ _ _ (get_changed g.objects o f x at) (subst (λ n. slice_get (changed_at g.objects o f) n ≡ Some y) same.1 e)) object
      | inr n ↦ good.objects k y (sym (get_other g.objects o k f n.1) ∙ e)
    ];
    few = let e = length-changed_at g.objects o f in omega (arith, good.few);
    begun = good.begun;
    unbegun = λ none. ap (λ xs. changed_at xs o f) (good.unbegun none);
  }

-- the object exists at the moments of the span too
pub good_live : (g : Graph) (o : ℕ) (s : Span) (live : List Span) → AreRuns (λ t. Exists g o t ⊎ Within t s) live → Good g → Stands g o → ((t : ℤ) → Within t s → InHorizon g t)
    → ((a : ℕ) → HasEnd g o a → (t : ℤ) → Within t s → Exists g a t) → length live ≤ 4096 → Good (with_live g o live)
good_live g o s live runs good stands within ends few =
    let x = there g.objects o _ stands in
    let was = good.objects o x.0 x.1 in
    let shape : KeepsShape (λ y. record y { live = live }) = record { name = λ y. refl; ends = λ y. refl; standing = λ y. refl; labels = λ y. refl } in
    good_changed g o (λ y. record y { live = live }) good shape x.0 x.1 stands
    (record { labels = was.labels; live = runs.coalesced; few_spans = few; properties = was.properties; differ = was.differ; few_properties = was.few_properties })
    (λ a t has covers. elim (runs.only t covers) [ inl old ↦ good.ends_exist o a t has old | inr w ↦ ends a has t w ])
    (λ e t has exists. runs.whole t (inl (good.ends_exist e o t has exists)))
    (λ name t value has. runs.whole t (inl (good.values_exist o name t value (here g.objects o _ x.0 x.1 has))))
    (λ t covers. elim (runs.only t covers) [ inl old ↦ (good.inside o t old).within | inr w ↦ within t w ])

-- the object no longer stands
pub good_without : (g : Graph) (o : ℕ) → Good g → ((e : ℕ) → HasEnd g e o → ⊥) → Good (without g o)
good_without g o good free = record {
  ends_exist = λ e a t has exists. let h = ended e a has in changed_other g o dropped _ a (λ same. free e (subst (HasEnd g e) same h.1)) (good.ends_exist e a t h.1 (existed e t exists).1);
  values_exist = λ k p t v val. elim (changed_is g o dropped _ k val) [
    | inl old ↦ changed_other g o dropped _ k old.0 (good.values_exist k p t v old.1)
    | inr new ↦ let s = there g.objects o _ new.1 in absurd s.2
  ];
  ends_stand = λ e a has. let h = ended e a has in changed_other g o dropped _ a (λ same. free e (subst (HasEnd g e) same h.1)) (good.ends_stand e a h.1);
  names_differ = λ k p n a b. good.names_differ k p n (named_before k n a) (named_before p n b);
  inside = λ k t exists. let h = existed k t exists in let p = good.inside k t h.1 in record { stands = changed_other g o dropped _ k h.0 p.stands; within = p.within };
  objects = good_object;
  few = let e = length-changed_at g.objects o dropped in omega (arith, good.few);
  begun = good.begun;
  unbegun = λ none. ap (λ xs. changed_at xs o dropped) (good.unbegun none);
}
  where
    ended : (e a : ℕ) → HasEnd (without g o) e a → (e ≢ o) × HasEnd g e a
    ended e a h = elim (changed_is g o dropped _ e h) [ inl old ↦ old | inr new ↦ let s = there g.objects o _ new.1 in let never : ⊥ = cc (s.2.0) in absurd never ]

    named_before : (k : ℕ) (n : Word) → Named (without g o) k n → Named g k n
    named_before k n h = elim (changed_is g o dropped _ k h) [ inl old ↦ old.1 | inr new ↦ let s = there g.objects o _ new.1 in let never : ⊥ = cc (s.2.0) in absurd never ]

    existed : (k : ℕ) (t : ℤ) → Exists (without g o) k t → (k ≢ o) × Exists g k t
    existed k t h = elim (changed_is g o dropped _ k h) [ inl old ↦ old | inr new ↦ let s = there g.objects o _ new.1 in absurd s.2 ]

    dropped_object : (y : Object) → IsObject y → IsObject (dropped y)
    dropped_object y is = record { labels = is.labels; live = tt; few_spans = omega arith; properties = tt; differ = tt; few_properties = omega arith }

    good_object : (k : ℕ) (y : Object) → slice_get (changed_at g.objects o dropped) k ≡ Some y → IsObject y
    good_object k y e = elim (eqb_tells k o) [
      | inl same ↦ at_place g.objects o (λ j z at. good.objects j z at) (subst (λ n. slice_get (changed_at g.objects o dropped) n ≡ Some y) same.1 e)
      | inr n ↦ good.objects k y (sym (get_other g.objects o k dropped n.1) ∙ e)
    ]
      where
        at_place : (xs : List Object) (i : ℕ) → ((j : ℕ) (z : Object) → slice_get xs j ≡ Some z → IsObject z) → slice_get (changed_at xs i dropped) i ≡ Some y → IsObject y
        at_place [] i each q = let never : ⊥ = cc in absurd never
        at_place (z ∷ xs) zero each q = let h : Some (dropped z) ≡ Some y = q in let is : dropped z ≡ y = cc in subst IsObject is (dropped_object z (each 0 z refl))
        at_place (z ∷ xs) (suc i) each q = at_place xs i (λ j w at. each (suc j) w at) q

-- a graph that isn't begun and has no object is good
pub good_none : Good (record { begun = None; objects = [] })
good_none = record {
  ends_exist = λ e a t has exists. absurd has;
  values_exist = λ o p t v val. absurd val;
  ends_stand = λ e a has. absurd has;
  names_differ = λ o p n a b. absurd a;
  inside = λ o t exists. absurd exists;
  objects = λ o x e. let never : ⊥ = cc in absurd never;
  few = omega arith;
  begun = tt;
  unbegun = λ e. refl;
}
