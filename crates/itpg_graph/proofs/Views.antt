-- What a store is seen as, after each change.
use Rattle.std.proofs.Common.{◌≡◌, ◌≢◌, ℕ, ◌<◌, ◌≤◌, ℤ, List, [], ◌∷◌, ◌++◌, ◌⊎◌, inl, inr, length, max, arith, Option, Some, None, true, false, refl, sym, ap, ◌∙◌, subst, true≢false}
use Rattle.std.specs.Prelude.{slice_get, slice_set, IsSomeAnd, IsSome, IsNone, IfSome}
use Rattle.std.proofs.lemmas.Option.{slice_get_within}
use Rattle.itpg_base.specs.Words.{Word, IsLabels}
use Rattle.itpg_base.specs.Spans.{Span, IsSpan, IsMoment, Within, Covers}
use Rattle.itpg_base.specs.Graphs.{Graph, Object, Ends, Property, Good, ObjectIs, Stands, Named, Exists, Val, PropertiesHave, HasEnd, InHorizon, changed_at}
use Rattle.itpg_base.specs.declared.object_number.ObjNo.{ObjNo}
use Rattle.itpg_base.proofs.Objects.{there, here, get_last, same_some}
use Rattle.itpg_base.proofs.Searches.{same_word}
use Rattle.interval_set.specs.Runs.{AreRuns}
use Rattle.interval_set.proofs.Unique.{runs_alike}
use Rattle.itpg_graph.specs.Links.{LosesNumber}
use Rattle.itpg_graph.specs.Kinds.{IsNode, ends_of}
use Rattle.itpg_graph.specs.Changes.{begun_as, new_object, with_node, with_edge, with_object, with_properties, without, dropped, JoinsLive, FitFamily, CutsLive, PutsValue, ClearsValue, ValCleared, ValChanged}
use Rattle.itpg_graph.specs.Families.{AreProperties, ExistsOutside, ValOutside, HasCutFamily, FitCut, FitPut, FitClear, HasPlace}
use Rattle.itpg_graph.specs.Objects.{ObjectJoins, ObjectCuts, ObjectPuts, ObjectClears}
use Rattle.itpg_graph.specs.Tables.{HasLess, HasMore, IsWidest}
use Rattle.itpg_graph.specs.declared.stored.Opened.{Opened}
use Rattle.itpg_graph.specs.Stores.{graph_of, listed, Table, IsIndexed, IsStore}
use Rattle.itpg_graph.proofs.Lists.{set_changed}
use Rattle.itpg_graph.proofs.Goodness.{KeepsShape, pushed, push_is, push_keeps, changed_is, changed_keeps, changed_old, good_node, good_edge, good_begun, good_live, good_without}
use Rattle.std.proofs.lemmas.Bool.{cases_lt}
use Rattle.interval_set.proofs.Changed.{cut_exists}
use Rattle.itpg_graph.proofs.Cutting.{values_alike}
use Rattle.itpg_graph.proofs.Families.{properties_alike}
use Rattle.itpg_graph.proofs.Kept.{properties_shape, families_shape, exists_at, at_exists, val_at, at_val, good_cut, good_put, good_cleared}
use Rattle.itpg_graph.proofs.Linked.{links_node, links_edge, links_changed, links_without_node, links_without_edge, source_is_end, target_is_end}

-- the graph is begun
pub begun_store : (g : Graph) (name : Word) (horizon : Span) (numbers : Table) (out into : List (List ObjNo)) → IsStore g numbers out into → IsNone g.begun → IsSpan horizon → IsMoment horizon.from → IsMoment horizon.to
    → IsStore (begun_as g name horizon) numbers out into
begun_store g name horizon numbers out into store none span from to = record {
  good = good_begun g store.good none name horizon span from to;
  indexed = record { whole = store.indexed.whole; only = store.indexed.only };
  sources = record { each = store.sources.each; count = store.sources.count };
  targets = record { each = store.targets.each; count = store.targets.count };
}

-- the table of names after a new object
indexed_push : (g : Graph) (name : Word) (labels : List Word) (ends : Option Ends) (old new : Table) → IsIndexed old g → ((o : ℕ) → Named g o name → ⊥) → listed new name ≡ Some (length g.objects)
    → ((other : Word) → other ≢ name → listed new other ≡ listed old other) → IsIndexed new (pushed g (new_object name labels ends))
indexed_push g name labels ends old new indexed free here_is others =
    let x = new_object name labels ends in
    record {
      whole = λ q o named. elim (push_is g x _ o named) [
        | inl was ↦ others q (λ e. free o (subst (λ n. Named g o n) e was)) ∙ indexed.whole q o was
        | inr now ↦ ap (λ n. listed new n) (sym now.1.1) ∙ here_is ∙ ap Some (sym now.0)
      ];
      only = λ q o e. elim (same_word q name) [
        | inl same ↦
            let at : length g.objects ≡ o = same_some _ _ (listed new q) (ap (λ n. listed new n) same ∙ here_is) e in
            subst (λ n. ObjectIs (pushed g x) n (λ y. y.name ≡ q)) at (here (g.objects ++ x ∷ []) (length g.objects) _ x (get_last g.objects x) (sym same))
        | inr apart ↦ push_keeps g x _ o (indexed.only q o (sym (others q apart) ∙ e))
      ];
    }

module _ (g : Graph) (name : Word) (labels : List Word) (old new : Table) (out into : List (List ObjNo)) (store : IsStore g old out into) (is : IsLabels labels) (free : (o : ℕ) → Named g o name → ⊥) (room : length g.objects < 200000)
    (here_is : listed new name ≡ Some (length g.objects)) (others : (other : Word) → other ≢ name → listed new other ≡ listed old other) where
  pub node_store : IsSome g.begun → IsStore (with_node g name labels) new (out ++ [] ∷ []) (into ++ [] ∷ [])
  node_store some = record {
    good = good_node g store.good some name labels is free room;
    indexed = indexed_push g name labels None old new store.indexed free here_is others;
    sources = links_node (λ n. n.source) source_is_end g store.good name labels out store.sources;
    targets = links_node (λ n. n.target) target_is_end g store.good name labels into store.targets;
  }

  pub edge_store : (source target number : ObjNo) → number.0 ≡ length g.objects → IsNode g source.0 → IsNode g target.0
      → IsStore (with_edge g name labels source.0 target.0) new (changed_at out source.0 (λ list. list ++ number ∷ []) ++ [] ∷ []) (changed_at into target.0 (λ list. list ++ number ∷ []) ++ [] ∷ [])
  edge_store source target number next s t =
      let n : Ends = record { source = source.0; target = target.0 } in
      let a = there g.objects source.0 _ s in
      let b = there g.objects target.0 _ t in
      record {
        good = good_edge g store.good name labels source.0 target.0 is free s t room;
        indexed = indexed_push g name labels (Some n) old new store.indexed free here_is others;
        sources = links_edge (λ n. n.source) source_is_end g store.good name labels n number out next (slice_get_within g.objects source.0 a.0 a.1) store.sources;
        targets = links_edge (λ n. n.target) target_is_end g store.good name labels n number into next (slice_get_within g.objects target.0 b.0 b.1) store.targets;
      }

-- one object's families change
pub changed_store : (g : Graph) (o : ℕ) (f : Object → Object) (numbers : Table) (out into : List (List ObjNo)) → KeepsShape f → IsStore g numbers out into → Good (with_object g o f) → IsStore (with_object g o f) numbers out into
changed_store g o f numbers out into shape store good = record {
  good = good;
  indexed = record {
    whole = λ q k named. store.indexed.whole q k (changed_old g o f _ k named (λ y h. (subst (λ b. b ≡ true) (shape.standing y) h.0, sym (shape.name y) ∙ h.1)));
    only = λ q k e. changed_keeps g o f _ k (store.indexed.only q k e) (λ y h. shape.name y ∙ h);
  };
  sources = links_changed (λ n. n.source) g o f out shape store.sources;
  targets = links_changed (λ n. n.target) g o f into shape store.targets;
}

-- a stored object written in its place
pub written : (opened : Option Opened) (objects : List Object) (o : ℕ) (s new : Object) (f : Object → Object) → slice_get objects o ≡ Some s → new ≡ f s
    → graph_of opened (slice_set objects o new) ≡ with_object (graph_of opened objects) o f
written opened objects o s new f at is = ap (graph_of opened) (set_changed objects o s new f at is)

pub added : (opened : Option Opened) (objects : List Object) (s : Object) → graph_of opened (objects ++ s ∷ []) ≡ pushed (graph_of opened objects) s
added opened objects s = refl

-- what a contract sees of a stored object
pub seen : (opened : Option Opened) (objects : List Object) (o : ℕ) (s : Object) (P : Object → Type 0) → slice_get objects o ≡ Some s → P s → ObjectIs (graph_of opened objects) o P
seen opened objects o s P at h = here objects o P s at h

pub unseen : (opened : Option Opened) (objects : List Object) (o : ℕ) (s : Object) (P : Object → Type 0) → slice_get objects o ≡ Some s → ObjectIs (graph_of opened objects) o P → P s
unseen opened objects o s P at h = subst (λ w. IsSomeAnd w P) at h

pub live_shape : (live : List Span) → KeepsShape (λ x. record x { live = live })
live_shape live = record { name = λ x. refl; ends = λ x. refl; standing = λ x. refl; labels = λ x. refl }

module _ (opened : Option Opened) (objects : List Object) (o : ℕ) (s : Object) (at : slice_get objects o ≡ Some s) (span : Span) (new : Object) (joined : ObjectJoins s span new) where
  seen_runs : AreRuns (λ t. Exists (graph_of opened objects) o t ⊎ Within t span) joined.live
  seen_runs = record {
    whole = λ t h. elim h [ inl e ↦ joined.runs.whole t (inl (unseen opened objects o s _ at e)) | inr w ↦ joined.runs.whole t (inr w) ];
    only = λ t c. elim (joined.runs.only t c) [ inl e ↦ inl (seen opened objects o s _ at e) | inr w ↦ inr w ];
    coalesced = joined.runs.coalesced;
  }

  joined_is : graph_of opened (slice_set objects o new) ≡ with_object (graph_of opened objects) o (λ x. record x { live = joined.live })
  joined_is = written opened objects o s new (λ x. record x { live = joined.live }) at joined.is

  pub joins : JoinsLive (graph_of opened objects) o span (graph_of opened (slice_set objects o new))
  joins = record { live = joined.live; runs = seen_runs; is = joined_is }

  pub joined_store : (numbers : Table) (out into : List (List ObjNo)) → IsStore (graph_of opened objects) numbers out into → Stands (graph_of opened objects) o → ((t : ℤ) → Within t span → InHorizon (graph_of opened objects) t)
      → ((a : ℕ) → HasEnd (graph_of opened objects) o a → (t : ℤ) → Within t span → Exists (graph_of opened objects) a t) → FitFamily (graph_of opened objects) o span
      → IsStore (graph_of opened (slice_set objects o new)) numbers out into
  joined_store numbers out into store stands within ends room =
      let g = graph_of opened objects in
      let good = good_live g o span joined.live seen_runs store.good stands within ends (room joined.live seen_runs) in
      subst (λ h. IsStore h numbers out into) (sym joined_is) (changed_store g o (λ x. record x { live = joined.live }) numbers out into (live_shape joined.live) store good)

-- a name in the table has a number below the length
pub numbered_within : (opened : Option Opened) (objects : List Object) (numbers : Table) (name : Word) (o : ℕ) → IsIndexed numbers (graph_of opened objects) → listed numbers name ≡ Some o → o < length objects
numbered_within opened objects numbers name o indexed e =
    let t = there objects o _ (indexed.only name o e) in
    slice_get_within objects o t.0 t.1

pub found_named : (opened : Option Opened) (objects : List Object) (numbers : Table) (name : Word) (o : ℕ) (s : Object) → IsIndexed numbers (graph_of opened objects) → listed numbers name ≡ Some o
    → slice_get objects o ≡ Some s → s.standing ≡ true → Named (graph_of opened objects) o name
found_named opened objects numbers name o s indexed e at stands = seen opened objects o s _ at (stands, unseen opened objects o s _ at (indexed.only name o e))

pub dropped_unnamed : (opened : Option Opened) (objects : List Object) (numbers : Table) (name : Word) (o : ℕ) (s : Object) → IsIndexed numbers (graph_of opened objects) → listed numbers name ≡ Some o
    → slice_get objects o ≡ Some s → s.standing ≡ false → (k : ℕ) → Named (graph_of opened objects) k name → ⊥
dropped_unnamed opened objects numbers name o s indexed e at gone k named =
    let same : k ≡ o = same_some k o (listed numbers name) (indexed.whole name k named) e in
    let h = unseen opened objects o s _ at (subst (λ n. Named (graph_of opened objects) n name) same named) in
    true≢false (sym h.0 ∙ gone)

pub is_within : (opened : Option Opened) (objects : List Object) (o : ℕ) (P : Object → Type 0) → ObjectIs (graph_of opened objects) o P → o < length objects
is_within opened objects o P h =
    let t = there objects o _ h in
    slice_get_within objects o t.0 t.1

-- the ends of a stored edge are nodes
pub ends_nodes : (opened : Option Opened) (objects : List Object) (o : ℕ) (s : Object) → slice_get objects o ≡ Some s → Stands (graph_of opened objects) o → Good (graph_of opened objects)
    → (ends : Option (ObjNo × ObjNo)) → ends_of ends ≡ s.ends → IfSome ends (λ n. IsNode (graph_of opened objects) n.0.0 × IsNode (graph_of opened objects) n.1.0)
ends_nodes opened objects o s at stands good None e = tt
ends_nodes opened objects o s at stands good (Some n) e =
    let own : (a : ℕ) → (n.0.0 ≡ a) ⊎ (n.1.0 ≡ a) → HasEnd (graph_of opened objects) o a = λ a is.
    seen opened objects o s _ at (unseen opened objects o s _ at stands, subst (λ ends. IsSomeAnd ends (λ m. (m.source ≡ a) ⊎ (m.target ≡ a))) e is) in
    (good.ends_stand o n.0.0 (own n.0.0 (inl refl)), good.ends_stand o n.1.0 (own n.1.0 (inr refl)))

-- a family has few spans
pub few_spans : (opened : Option Opened) (objects : List Object) (o : ℕ) (s : Object) → Good (graph_of opened objects) → slice_get objects o ≡ Some s → length s.live ≤ 4096
few_spans opened objects o s good at = (good.objects o s at).few_spans

-- the object no longer stands
module _ (opened : Option Opened) (objects : List Object) (o : ℕ) (s : Object) (at : slice_get objects o ≡ Some s) (gone : Object) (falls : gone ≡ dropped s) where
  pub dropped_view : graph_of opened (slice_set objects o gone) ≡ without (graph_of opened objects) o
  dropped_view = written opened objects o s gone dropped at falls

  module _ (numbers : Table) (out into : List (List ObjNo)) (store : IsStore (graph_of opened objects) numbers out into) where
    dropped_index : IsIndexed numbers (without (graph_of opened objects) o)
    dropped_index = record {
      whole = λ q k named. store.indexed.whole q k (was_named q k named);
      only = λ q k e. changed_keeps (graph_of opened objects) o dropped _ k (store.indexed.only q k e) (λ x h. h);
    }
      where
        was_named : (q : Word) (k : ℕ) → Named (without (graph_of opened objects) o) k q → Named (graph_of opened objects) k q
        was_named q k named = elim (changed_is (graph_of opened objects) o dropped _ k named) [
          | inl old ↦ old.1
          | inr new ↦ let t = there objects o _ new.1 in let never : ⊥ = cc (t.2.0) in absurd never
        ]

    pub dropped_node : ((e : ℕ) → HasEnd (graph_of opened objects) e o → ⊥) → s.ends ≡ None → IsStore (graph_of opened (slice_set objects o gone)) numbers out into
    dropped_node free node =
        let g = graph_of opened objects in
        let place = at in
        let made : IsStore (without g o) numbers out into = record {
          good = good_without g o store.good free;
          indexed = dropped_index;
          sources = links_without_node (λ n. n.source) g o s place node out store.sources;
          targets = links_without_node (λ n. n.target) g o s place node into store.targets;
        } in
        subst (λ h. IsStore h numbers out into) (sym dropped_view) made

    module _ (source target : ObjNo) (edge : s.ends ≡ Some (record { source = source.0; target = target.0 })) (stands : Stands (graph_of opened objects) o) where
      abbrev ends_are : Ends
      ends_are = record { source = source.0; target = target.0 }

      below : (a : ℕ) → (source.0 ≡ a) ⊎ (target.0 ≡ a) → a < length objects
      below a is =
          let standing = unseen opened objects o s _ at stands in
          let has : HasEnd (graph_of opened objects) o a = seen opened objects o s _ at (standing, subst (λ e. IsSomeAnd e (λ n. (n.source ≡ a) ⊎ (n.target ≡ a))) (sym edge) is) in
          let node = there objects a _ (store.good.ends_stand o a has) in
          slice_get_within objects a node.0 node.1

      pub source_within : source.0 < length out
      source_within = subst (λ n. source.0 < n) (sym store.sources.count) (below source.0 (inl refl))

      pub target_within : target.0 < length into
      target_within = subst (λ n. target.0 < n) (sym store.targets.count) (below target.0 (inr refl))

      pub dropped_edge : ((e : ℕ) → HasEnd (graph_of opened objects) e o → ⊥) → (out' into' : List (List ObjNo)) → LosesNumber out source.0 o out' → LosesNumber into target.0 o into' → IsStore (graph_of opened (slice_set objects o gone)) numbers out' into'
      dropped_edge free out' into' from to =
          let g = graph_of opened objects in
          let place = at in
          let made : IsStore (without g o) numbers out' into' = record {
            good = good_without g o store.good free;
            indexed = dropped_index;
            sources = links_without_edge (λ n. n.source) g o s place ends_are edge out out' (below source.0 (inl refl)) from store.sources;
            targets = links_without_edge (λ n. n.target) g o s place ends_are edge into into' (below target.0 (inr refl)) to store.targets;
          } in
          subst (λ h. IsStore h numbers out' into') (sym dropped_view) made

-- one object's properties or its life change
module _ (opened : Option Opened) (objects : List Object) (o : ℕ) (s : Object) (at : slice_get objects o ≡ Some s) (span : Span) (new : Object) where
  abbrev now : Graph
  now = graph_of opened objects

  abbrev after : Graph
  after = graph_of opened (slice_set objects o new)

  has : (n : Word) (t : ℤ) (v : Word) → PropertiesHave s.properties n t v → Val now o n t v
  has = at_val now o s at

  had : (n : Word) (t : ℤ) (v : Word) → Val now o n t v → PropertiesHave s.properties n t v
  had = val_at now o s at

  module _ (cut : ObjectCuts s span new) where
    cut_runs : AreRuns (ExistsOutside now o span) cut.live
    cut_runs = runs_alike (λ t. Covers s.live t × (¬ Within t span)) (ExistsOutside now o span) cut.live (λ t h. (at_exists now o s at t h.0, h.1)) (λ t h. (exists_at now o s at t h.0, h.1)) cut.runs

    cut_values : AreProperties (ValOutside now o span) cut.properties
    cut_values = properties_alike (λ n t v. PropertiesHave s.properties n t v × (¬ Within t span)) (ValOutside now o span) cut.properties (λ n t v h. (has n t v h.0, h.1)) (λ n t v h. (had n t v h.0, h.1)) cut.values

    cut_is : after ≡ with_object now o (λ x. record x { live = cut.live; properties = cut.properties })
    cut_is = written opened objects o s new (λ x. record x { live = cut.live; properties = cut.properties }) at cut.is

    pub cuts : CutsLive now o span after
    cuts = record { live = cut.live; properties = cut.properties; runs = cut_runs; values = cut_values; is = cut_is }

    pub cut_store : (numbers : Table) (out into : List (List ObjNo)) → IsStore now numbers out into → Stands now o → ((e : ℕ) (t : ℤ) → HasEnd now e o → Within t span → Exists now e t → ⊥) → FitCut now o span
        → IsStore after numbers out into
    cut_store numbers out into store stands held fit =
        let good = good_cut now o span cut.live cut.properties cut_runs cut_values store.good stands held fit in
        subst (λ h. IsStore h numbers out into) (sym cut_is) (changed_store now o (λ x. record x { live = cut.live; properties = cut.properties }) numbers out into (families_shape cut.live cut.properties) store good)

  properties_are : (properties : List Property) → new ≡ record s { properties = properties } → after ≡ with_properties now o properties
  properties_are properties is = written opened objects o s new (λ x. record x { properties = properties }) at is

  module _ (name value : Word) (put : ObjectPuts s name value span new) where
    put_values : AreProperties (ValChanged now o span name value) put.properties
    put_values = properties_alike (HasMore s.properties name value span) (ValChanged now o span name value) put.properties
        (λ n t v h. elim h [ inl put ↦ inl put | inr kept ↦ inr (has n t v kept.0, kept.1) ])
        (λ n t v h. elim h [ inl put ↦ inl put | inr kept ↦ inr (had n t v kept.0, kept.1) ]) put.values

    pub puts : PutsValue now o name value span after
    puts = record { properties = put.properties; values = put_values; is = properties_are put.properties put.is }

    pub put_store : (numbers : Table) (out into : List (List ObjNo)) → IsStore now numbers out into → Stands now o → ((t : ℤ) → Within t span → Exists now o t) → FitPut now o name value span → HasPlace now o name
        → IsStore after numbers out into
    put_store numbers out into store stands present fit room =
        let good = good_put now o name value span put.properties put_values store.good stands present fit room in
        subst (λ h. IsStore h numbers out into) (sym (properties_are put.properties put.is)) (changed_store now o (λ x. record x { properties = put.properties }) numbers out into (properties_shape put.properties) store good)

  module _ (name : Word) (clear : ObjectClears s name span new) where
    clear_values : AreProperties (ValCleared now o span name) clear.properties
    clear_values = properties_alike (HasLess s.properties name span) (ValCleared now o span name) clear.properties (λ n t v h. (has n t v h.0, h.1)) (λ n t v h. (had n t v h.0, h.1)) clear.values

    pub clears : ClearsValue now o name span after
    clears = record { properties = clear.properties; values = clear_values; is = properties_are clear.properties clear.is }

    pub clear_store : (numbers : Table) (out into : List (List ObjNo)) → IsStore now numbers out into → Stands now o → FitClear now o name span → IsStore after numbers out into
    clear_store numbers out into store stands fit =
        let good = good_cleared now o name span clear.properties clear_values store.good stands fit in
        subst (λ h. IsStore h numbers out into) (sym (properties_are clear.properties clear.is)) (changed_store now o (λ x. record x { properties = clear.properties }) numbers out into (properties_shape clear.properties) store good)

-- the widest family of a stored object after a cut
module _ (opened : Option Opened) (objects : List Object) (o : ℕ) (s : Object) (at : slice_get objects o ≡ Some s) (span : Span) (w c : ℕ) (widest : IsWidest s.properties span w) (count : (live : List Span) → AreRuns (λ t. Covers s.live t × (¬ Within t span)) live → c ≡ length live) where
  abbrev here_now : Graph
  here_now = graph_of opened objects

  pub widest_some : HasCutFamily here_now o span (max w c)
  widest_some = elim (cases_lt w c) [
    | inl less ↦
        let made = cut_exists s.live span in
        let is : max w c ≡ c = omega arith in
        inl (made.0, runs_alike (λ t. Covers s.live t × (¬ Within t span)) (ExistsOutside here_now o span) made.0 (λ t h. (at_exists here_now o s at t h.0, h.1)) (λ t h. (exists_at here_now o s at t h.0, h.1)) made.1, sym (count made.0 made.1) ∙ sym is)
    | inr most ↦
        let old = widest.some in
        let is : max w c ≡ w = omega arith in
        inr (old.0, old.1.0, values_alike _ (ValOutside here_now o span old.0) old.1.0 (λ t v h. (at_val here_now o s at old.0 t v h.0, h.1)) (λ t v h. (val_at here_now o s at old.0 t v h.0, h.1)) old.1.1, old.1.2 ∙ sym is)
  ]

  pub widest_most : (n : ℕ) → HasCutFamily here_now o span n → n ≤ max w c
  widest_most n family = elim family [
    | inl exists ↦
        let is = count exists.0 (runs_alike (ExistsOutside here_now o span) (λ t. Covers s.live t × (¬ Within t span)) exists.0 (λ t h. (exists_at here_now o s at t h.0, h.1)) (λ t h. (at_exists here_now o s at t h.0, h.1)) exists.1) in
        let long = exists.2 in
        omega arith
    | inr values ↦
        let le = widest.most values.0 n (values.1, values_alike (ValOutside here_now o span values.0) _ values.1 (λ t v h. (val_at here_now o s at values.0 t v h.0, h.1)) (λ t v h. (at_val here_now o s at values.0 t v h.0, h.1)) values.2, values.3) in
        omega arith
  ]
