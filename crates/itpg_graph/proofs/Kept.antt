-- Changes of families leave a good graph.
use Rattle.std.proofs.Common.{◌≡◌, ℕ, ◌<◌, ◌≤◌, ℤ, List, ◌⊎◌, inl, inr, length, Some, refl, sym, subst, arith}
use Rattle.std.specs.Prelude.{slice_get}
use Rattle.itpg_base.specs.Words.{Word}
use Rattle.itpg_base.specs.Spans.{Span, Within, Covers}
use Rattle.itpg_base.specs.Graphs.{Graph, Object, Property, Valued, Good, Stands, Exists, Val, HasEnd, PropertiesHave, AreFamilies, property_names}
use Rattle.itpg_base.proofs.Objects.{there, here, same_some}
use Rattle.itpg_base.proofs.Searches.{same_word}
use Rattle.interval_set.specs.Runs.{AreRuns, AreRunsOf}
use Rattle.itpg_graph.specs.Families.{IsOrderly, AreProperties, ExistsOutside, ValOutside, ValPut, FitCut, FitPut, FitClear, HasPlace}
use Rattle.itpg_graph.specs.Changes.{with_object, with_properties, ValCleared, ValChanged}
use Rattle.itpg_graph.proofs.Goodness.{KeepsShape, good_changed}
use Rattle.itpg_graph.proofs.Cutting.{values_alike}
use Rattle.itpg_graph.proofs.Families.{families_valued, families_from, few_runs, fewer_properties, one_more, has_name, InNames}

pub properties_shape : (properties : List Property) → KeepsShape (λ x. record x { properties = properties })
properties_shape properties = record { name = λ x. refl; ends = λ x. refl; standing = λ x. refl; labels = λ x. refl }

pub families_shape : (live : List Span) (properties : List Property) → KeepsShape (λ x. record x { live = live; properties = properties })
families_shape live properties = record { name = λ x. refl; ends = λ x. refl; standing = λ x. refl; labels = λ x. refl }

-- what is known of an object in its place
module _ (g : Graph) (o : ℕ) (x : Object) (at : slice_get g.objects o ≡ Some x) where
  pub exists_at : (t : ℤ) → Exists g o t → Covers x.live t
  exists_at t h = let s = there g.objects o _ h in subst (λ (y : Object). Covers y.live t) (same_some _ _ (slice_get g.objects o) s.1 at) s.2

  pub at_exists : (t : ℤ) → Covers x.live t → Exists g o t
  at_exists t h = here g.objects o _ x at h

  pub val_at : (n : Word) (t : ℤ) (v : Word) → Val g o n t v → PropertiesHave x.properties n t v
  val_at n t v h = let s = there g.objects o _ h in subst (λ (y : Object). PropertiesHave y.properties n t v) (same_some _ _ (slice_get g.objects o) s.1 at) s.2

  pub at_val : (n : Word) (t : ℤ) (v : Word) → PropertiesHave x.properties n t v → Val g o n t v
  at_val n t v h = here g.objects o _ x at h

  -- the properties of an object of a good graph
  pub own_properties : Good g → AreProperties (Val g o) x.properties
  own_properties good =
      let is = good.objects o x at in
      record { whole = val_at; only = at_val; orderly = record { rising = is.differ; valued = families_valued x.properties is.properties } }

  -- a property of an object has few runs
  pub few_values : Good g → (n : Word) (runs : List Valued) → AreRunsOf (Val g o n) runs → length runs ≤ 4096
  few_values good n runs are =
      let is = good.objects o x at in
      few_runs x.properties n runs is.properties is.differ (values_alike (Val g o n) (PropertiesHave x.properties n) runs (val_at n) (at_val n) are)

-- the object's life in a span ended
pub good_cut : (g : Graph) (o : ℕ) (s : Span) (live : List Span) (properties : List Property) → AreRuns (ExistsOutside g o s) live → AreProperties (ValOutside g o s) properties → Good g → Stands g o
    → ((e : ℕ) (t : ℤ) → HasEnd g e o → Within t s → Exists g e t → ⊥) → FitCut g o s → Good (with_object g o (λ x. record x { live = live; properties = properties }))
good_cut g o s live properties runs values good stands held fit =
    let x = there g.objects o _ stands in
    let was = good.objects o x.0 x.1 in
    let le = fewer_properties (ValOutside g o s) properties x.0.properties values (λ n t v h. has_name x.0.properties n t v (val_at g o x.0 x.1 n t v h.0)) in
    let few = was.few_properties in
    good_changed g o (λ y. record y { live = live; properties = properties }) good (families_shape live properties) x.0 x.1 stands
    (record {
      labels = was.labels;
      live = runs.coalesced;
      few_spans = fit (length live) (inl (live, runs, refl));
      properties = families_from (ValOutside g o s) properties values (λ n xs are. fit (length xs) (inr (n, xs, are, refl)));
      differ = values.orderly.rising;
      few_properties = omega arith;
    })
    (λ a t has covers. good.ends_exist o a t has (runs.only t covers).0)
    (λ e t has exists. runs.whole t (good.ends_exist e o t has exists, λ w. held e t has w exists))
    (λ n t v has. let h = values.only n t v has in runs.whole t (good.values_exist o n t v h.0, h.1))
    (λ t covers. (good.inside o t (runs.only t covers).0).within)

-- other properties, with values only where the object exists
good_properties : (g : Graph) (o : ℕ) (properties : List Property) (x : Object) → slice_get g.objects o ≡ Some x → Good g → Stands g o → AreFamilies properties → IsOrderly properties → length properties ≤ 64
    → ((n : Word) (t : ℤ) (v : Word) → PropertiesHave properties n t v → Exists g o t) → Good (with_properties g o properties)
good_properties g o properties x at good stands families orderly few exist =
    let was = good.objects o x at in
    good_changed g o (λ y. record y { properties = properties }) good (properties_shape properties) x at stands
    (record { labels = was.labels; live = was.live; few_spans = was.few_spans; properties = families; differ = orderly.rising; few_properties = few })
    (λ a t has covers. good.ends_exist o a t has (at_exists g o x at t covers))
    (λ e t has exists. exists_at g o x at t (good.ends_exist e o t has exists))
    (λ n t v has. exists_at g o x at t (exist n t v has))
    (λ t covers. (good.inside o t (at_exists g o x at t covers)).within)

-- a property got a value in a span
pub good_put : (g : Graph) (o : ℕ) (name value : Word) (s : Span) (properties : List Property) → AreProperties (ValChanged g o s name value) properties → Good g → Stands g o → ((t : ℤ) → Within t s → Exists g o t)
    → FitPut g o name value s → HasPlace g o name → Good (with_properties g o properties)
good_put g o name value s properties values good stands present fit place =
    let x = there g.objects o _ stands in
    let was = (good.objects o x.0 x.1).few_properties in
    let few : (n : Word) (runs : List Valued) → AreRunsOf (ValChanged g o s name value n) runs → length runs ≤ 4096 = λ n runs are. elim (same_word n name) [
      | inl same ↦ fit runs (values_alike (ValChanged g o s name value n) (ValPut g o s value name) runs
          (λ t v h. elim h [ inl put ↦ inl (put.1, put.2) | inr kept ↦ inr (subst (λ m. Val g o m t v) same kept.0, λ w. kept.1 (same, w)) ])
          (λ t v h. elim h [ inl put ↦ inl (same, put.0, put.1) | inr kept ↦ inr (subst (λ m. Val g o m t v) (sym same) kept.0, λ both. kept.1 both.1) ]) are)
      | inr apart ↦ few_values g o x.0 x.1 good n runs (values_alike (ValChanged g o s name value n) (Val g o n) runs
          (λ t v h. elim h [ inl put ↦ absurd (apart put.0) | inr kept ↦ kept.0 ])
          (λ t v h. inr (h, λ both. apart both.0)) are)
    ] in
    let named : (n : Word) (t : ℤ) (v : Word) → ValChanged g o s name value n t v → (n ≡ name) ⊎ InNames (property_names x.0.properties) n = λ n t v h. elim h [
      | inl put ↦ inl put.0
      | inr kept ↦ inr (has_name x.0.properties n t v (val_at g o x.0 x.1 n t v kept.0))
    ] in
    let fits : length properties ≤ 64 = elim place [
      | inl has ↦
          let own = has_name x.0.properties name has.0 has.1 (val_at g o x.0 x.1 name has.0 has.1 has.2) in
          let le = fewer_properties (ValChanged g o s name value) properties x.0.properties values (λ n t v h. elim (named n t v h) [ inl same ↦ subst (InNames (property_names x.0.properties)) (sym same) own | inr old ↦ old ]) in
          omega arith
      | inr room ↦
          let y = there g.objects o _ room in
          let less : length x.0.properties < 64 = subst (λ (z : Object). length z.properties < 64) (same_some _ _ (slice_get g.objects o) y.1 x.1) y.2 in
          let le = one_more (ValChanged g o s name value) properties x.0.properties name values named in
          omega arith
    ] in
    good_properties g o properties x.0 x.1 good stands (families_from (ValChanged g o s name value) properties values few) values.orderly fits
    (λ n t v has. elim (values.only n t v has) [ inl put ↦ present t put.1 | inr kept ↦ good.values_exist o n t v kept.0 ])

-- a property lost its values in a span
pub good_cleared : (g : Graph) (o : ℕ) (name : Word) (s : Span) (properties : List Property) → AreProperties (ValCleared g o s name) properties → Good g → Stands g o → FitClear g o name s → Good (with_properties g o properties)
good_cleared g o name s properties values good stands fit =
    let x = there g.objects o _ stands in
    let was = (good.objects o x.0 x.1).few_properties in
    let few : (n : Word) (runs : List Valued) → AreRunsOf (ValCleared g o s name n) runs → length runs ≤ 4096 = λ n runs are. elim (same_word n name) [
      | inl same ↦ fit runs (values_alike (ValCleared g o s name n) (ValOutside g o s name) runs
          (λ t v h. (subst (λ m. Val g o m t v) same h.0, λ w. h.1 (same, w)))
          (λ t v h. (subst (λ m. Val g o m t v) (sym same) h.0, λ both. h.1 both.1)) are)
      | inr apart ↦ few_values g o x.0 x.1 good n runs (values_alike (ValCleared g o s name n) (Val g o n) runs (λ t v h. h.0) (λ t v h. (h, λ both. apart both.0)) are)
    ] in
    let le = fewer_properties (ValCleared g o s name) properties x.0.properties values (λ n t v h. has_name x.0.properties n t v (val_at g o x.0 x.1 n t v h.0)) in
    good_properties g o properties x.0 x.1 good stands (families_from (ValCleared g o s name) properties values few) values.orderly (omega arith)
    (λ n t v has. good.values_exist o n t v (values.only n t v has).0)
