-- The edits of a script, each on a graph like that of a trial: it breaks no rule, and makes the next graph.
use Rattle.std.proofs.Common.{◌≡◌, ◌⊎◌, inl, inr, ⊎_elim, ℕ, ◌<◌, ◌≤◌, ℤ, pos, true, List, [], ◌∷◌, ◌++◌, length, Option, Some, None, refl, sym, ap, subst, arith, true≢false}
use Rattle.std.specs.Prelude.{slice_get, IsSome, IsTrue, ◌↔◌}
use Rattle.std.proofs.lemmas.Int.{ints}
use Rattle.itpg_base.specs.Words.{Word, IsLabels}
use Rattle.itpg_base.specs.Spans.{Span, IsMoment, Within, Covers, IsCoalesced}
use Rattle.itpg_base.specs.Graphs.{Graph, Object, Ends, Property, Valued, Good, Named, Exists, Val, HasEnd, RunsHave, PropertiesHave, AreRunsOfValues}
use Rattle.itpg_base.proofs.Objects.{there, here, same_some}
use Rattle.interval_set.specs.Runs.{AreRuns, AreRunsOf}
use Rattle.itpg_graph.specs.Changes.{new_object, new_node, new_edge, JoinsLive, PutsValue}
use Rattle.itpg_graph.specs.Families.{ValPut}
use Rattle.itpg_edit.specs.declared.edit.Edit.{Edit}
use Rattle.itpg_edit.specs.declared.edit.Edit.TheVariants.{Begin, AddNode, AddEdge, Live, Put}
use Rattle.itpg_edit.specs.Facts.{IsEdge, AreManySpans, AreManyRuns, HasNoPlace}
use Rattle.itpg_edit.specs.Rules.{Unbroken, IsFull}
use Rattle.itpg_edit.specs.Next.{Next}
use Rattle.itpg_edit.specs.Sites.{HasMoments, HasLabels}
use Rattle.itpg_run.specs.ScriptGraph.{lasting, horizon, valued, trial_graph, unbegun}
use Rattle.itpg_run.proofs.ObjectLists.{at_middle, in_middle, changed_middle, AllUnlike, none_named}

-- what is known of graphs and of lists of runs
pub record Laws : Type 0 where
  pub good : (g new : Graph) (edit : Edit) → Good g → HasMoments edit → HasLabels edit → Unbroken g edit → Next g edit new → Good new
  pub one_list : (xs ys : List Span) → IsCoalesced xs → IsCoalesced ys → ((t : ℤ) → Covers xs t ↔ Covers ys t) → xs ≡ ys
  pub one_runs : (xs ys : List Valued) → AreRunsOfValues xs → AreRunsOfValues ys → ((t : ℤ) (value : Word) → RunsHave xs t value ↔ RunsHave ys t value) → xs ≡ ys

-- the edit breaks no rule, and leads from a graph to a good one
pub record Makes (g : Graph) (edit : Edit) (new : Graph) : Type 0 where
  pub unbroken : Unbroken g edit
  pub next : Next g edit new
  pub good : Good new

pub made : Laws → (g new : Graph) (edit : Edit) → Good g → HasMoments edit → HasLabels edit → Unbroken g edit → Next g edit new → Makes g edit new
made laws g new edit good moments labels unbroken next = record { unbroken = unbroken; next = next; good = laws.good g new edit good moments labels unbroken next }

one_label : (label : Word) → IsLabels (label ∷ [])
one_label label = record { some = omega arith; few = omega arith; rising = (tt, tt) }

near : (k : ℕ) → k ≤ 9999 → IsMoment (pos k)
near k low = record { least = omega (arith, ints, low); greatest = omega (arith, ints, low) }

-- the graph is begun
pub makes_graph : Laws → (name : Word) → Good unbegun → Makes unbegun (Begin name (pos 0) (pos 9999)) (record { begun = Some (record { name = name; horizon = horizon }); objects = [] })
makes_graph laws name good =
    made laws unbegun (record { begun = Some (record { name = name; horizon = horizon }); objects = [] }) (Begin name (pos 0) (pos 9999)) good (near 0 (omega arith), near 9999 (omega arith)) tt
    ((λ some. true≢false (sym some)), ((λ back. omega (arith, ints, back)), tt)) refl

-- a node with a new name
pub makes_node : Laws → (objects : List Object) (name label : Word) → Good (trial_graph objects) → AllUnlike name objects → length objects < 200000
    → Makes (trial_graph objects) (AddNode name (label ∷ [])) (trial_graph (objects ++ new_node name (label ∷ []) ∷ []))
makes_node laws objects name label good unlike few =
    made laws (trial_graph objects) (trial_graph (objects ++ new_node name (label ∷ []) ∷ [])) (AddNode name (label ∷ [])) good tt (one_label label)
    ((λ none. true≢false none), ((λ taken. none_named name objects taken.0 unlike taken.1), ((λ full. omega (arith, few, full)), tt))) refl

-- a standing node has the name
pub record IsNodeNamed (objects : List Object) (o : ℕ) (name : Word) : Type 0 where
  pub object : Object
  pub there : slice_get objects o ≡ Some object
  pub standing : IsTrue object.standing
  pub named : object.name ≡ name
  pub no_ends : object.ends ≡ None

module _ (objects : List Object) (good : Good (trial_graph objects)) (o : ℕ) (name : Word) (node : IsNodeNamed objects o name) where
  node_named : Named (trial_graph objects) o name
  node_named = here objects o (λ x. IsTrue x.standing × (x.name ≡ name)) node.object node.there (node.standing, node.named)

  no_edge : IsEdge (trial_graph objects) name → ⊥
  no_edge edge =
      let same : edge.0 ≡ o = good.names_differ edge.0 o name edge.1 node_named in
      let at = there objects edge.0 (λ x. IsSome x.ends) edge.2 in
      let object : at.0 ≡ node.object = same_some at.0 node.object (slice_get objects o) (subst (λ k. slice_get objects k ≡ Some at.0) same at.1) node.there in
      no_some node.object.ends node.no_ends (subst (λ (x : Object). IsSome x.ends) object at.2)
    where
      no_some : (e : Option Ends) → e ≡ None → IsSome e → ⊥
      no_some None is some = true≢false (sym some)
      no_some (Some n) is some = let none : ⊥ = cc in none

-- an edge with a new name between two nodes
pub makes_edge : Laws → (objects : List Object) (name label source target : Word) (s t : ℕ) → Good (trial_graph objects) → AllUnlike name objects → length objects < 200000
    → IsNodeNamed objects s source → IsNodeNamed objects t target
    → Makes (trial_graph objects) (AddEdge name (label ∷ []) source target) (trial_graph (objects ++ new_edge name (label ∷ []) s t ∷ []))
makes_edge laws objects name label source target s t good unlike few from to =
    made laws (trial_graph objects) (trial_graph (objects ++ new_edge name (label ∷ []) s t ∷ [])) (AddEdge name (label ∷ []) source target) good tt (one_label label) (
      (λ none. true≢false none),
      (
        (λ taken. none_named name objects taken.0 unlike taken.1),
        (
          (λ misses. ⊎_elim (λ none. none s (node_named objects good s source from)) (λ none. none t (node_named objects good t target to)) misses),
          (
            (λ edge. ⊎_elim (no_edge objects good s source from) (no_edge objects good t target to) edge),
            ((λ full. omega (arith, few, full)), tt),
          ),
        ),
      ),
    )
    (s, t, node_named objects good s source from, node_named objects good t target to, refl)

pub in_horizon : (from to : ℕ) → to ≤ 9999 → (t : ℤ) → Within t (lasting from to) → Within t horizon
in_horizon from to last t w = record { begun = omega (arith, ints, w.begun); going = omega (arith, ints, w.going, last) }

one_span : Laws → (from to : ℕ) → from ≤ to → (S : ℤ → Type 0) → ((t : ℤ) → S t → Within t (lasting from to)) → ((t : ℤ) → Within t (lasting from to) → S t) → (spans : List Span) → AreRuns S spans → spans ≡ lasting from to ∷ []
one_span laws from to ordered S into back spans are =
    laws.one_list spans (lasting from to ∷ []) are.coalesced (omega (arith, ints, ordered), tt, tt)
    (λ t. ((λ covered. inl (into t (are.only t covered))), (λ covered. ⊎_elim (λ w. are.whole t (back t w)) (λ none. absurd none) covered)))

one_run : Laws → (from to : ℕ) (value : Word) → from ≤ to → (H : ℤ → Word → Type 0) → ((t : ℤ) (v : Word) → H t v → Within t (lasting from to) × (v ≡ value)) → ((t : ℤ) → Within t (lasting from to) → H t value)
    → (runs : List Valued) → AreRunsOf H runs → runs ≡ record { span = lasting from to; value = value } ∷ []
one_run laws from to value ordered H into back runs are =
    laws.one_runs runs (record { span = lasting from to; value = value } ∷ []) are.coalesced (omega (arith, ints, ordered), tt, tt)
    (λ t v. ((λ has. let h = into t v (are.only t v has) in inl (h.0, sym h.1)), (λ has. ⊎_elim (λ w. are.whole t v (subst (H t) w.1 (back t w.0))) (λ none. absurd none) has)))

-- a node that exists always
abbrev with_values : Word → Word → List Property → Object
with_values name label properties = record { name = name; labels = label ∷ []; ends = None; standing = true; live = horizon ∷ []; properties = properties }

abbrev plain : Word → Word → Object
plain name label = with_values name label []

-- the life of an object that has none, where its ends exist
module _ (laws : Laws) (front rest : List Object) (name label : Word) (ends : Option Ends) (good : Good (trial_graph (front ++ new_object name (label ∷ []) ends ∷ rest)))
    (from to : ℕ) (ordered : from ≤ to) (last : to ≤ 9999) where
  live_named : Named (trial_graph (front ++ new_object name (label ∷ []) ends ∷ rest)) (length front) name
  live_named = in_middle (new_object name (label ∷ []) ends) rest front (λ x. IsTrue x.standing × (x.name ≡ name)) (refl, refl)

  is_it : (o : ℕ) → Named (trial_graph (front ++ new_object name (label ∷ []) ends ∷ rest)) o name → o ≡ length front
  is_it o named = good.names_differ o (length front) name named live_named

  not_yet : (t : ℤ) → Exists (trial_graph (front ++ new_object name (label ∷ []) ends ∷ rest)) (length front) t → ⊥
  not_yet t exists = at_middle (new_object name (label ∷ []) ends) rest front (λ x. Covers x.live t) exists

  joins : JoinsLive (trial_graph (front ++ new_object name (label ∷ []) ends ∷ rest)) (length front) (lasting from to) (trial_graph (front ++ record { name = name; labels = label ∷ []; ends = ends; standing = true; live = lasting from to ∷ []; properties = [] } ∷ rest))
  joins = record {
    live = lasting from to ∷ [];
    runs = record {
      whole = λ t h. ⊎_elim (λ e. absurd (not_yet t e)) (λ w. inl w) h;
      only = λ t c. ⊎_elim (λ w. inr w) (λ none. absurd none) c;
      coalesced = (omega (arith, ints, ordered), tt, tt);
    };
    is = ap trial_graph (sym (changed_middle (new_object name (label ∷ []) ends) rest front (λ x. record x { live = lasting from to ∷ [] })));
  }

  few_spans : IsFull (trial_graph (front ++ new_object name (label ∷ []) ends ∷ rest)) (Live name (pos from) (pos to)) → ⊥
  few_spans full =
      let many : AreManySpans (λ t. Exists (trial_graph (front ++ new_object name (label ∷ []) ends ∷ rest)) (length front) t ⊎ Within t (lasting from to)) =
      subst (λ (o : ℕ). AreManySpans (λ t. Exists (trial_graph (front ++ new_object name (label ∷ []) ends ∷ rest)) o t ⊎ Within t (lasting from to))) (is_it full.0 full.1) full.2 in
      let one = one_span laws from to ordered (λ t. Exists (trial_graph (front ++ new_object name (label ∷ []) ends ∷ rest)) (length front) t ⊎ Within t (lasting from to))
      (λ t h. ⊎_elim (λ e. absurd (not_yet t e)) (λ w. w) h) (λ t w. inr w) many.spans many.are in
      omega (arith, many.many, ap length one)

  pub makes_life : ((a : ℕ) (t : ℤ) → HasEnd (trial_graph (front ++ new_object name (label ∷ []) ends ∷ rest)) (length front) a → Within t (lasting from to) → Exists (trial_graph (front ++ new_object name (label ∷ []) ends ∷ rest)) a t)
      → Makes (trial_graph (front ++ new_object name (label ∷ []) ends ∷ rest)) (Live name (pos from) (pos to))
      (trial_graph (front ++ record { name = name; labels = label ∷ []; ends = ends; standing = true; live = lasting from to ∷ []; properties = [] } ∷ rest))
  makes_life exist =
      made laws (trial_graph (front ++ new_object name (label ∷ []) ends ∷ rest)) (trial_graph (front ++ record { name = name; labels = label ∷ []; ends = ends; standing = true; live = lasting from to ∷ []; properties = [] } ∷ rest))
      (Live name (pos from) (pos to)) good (near from (omega (arith, ordered, last)), near to last) tt (
        (λ none. true≢false none),
        (
          (λ unknown. unknown (length front) live_named),
          (
            (λ back. omega (arith, ints, ordered, back)),
            (
              (λ leaves. leaves.outside (in_horizon from to last leaves.moment leaves.within)),
              (
                (λ lacks. lacks.missing (exist lacks.end lacks.moment (subst (λ o. HasEnd (trial_graph (front ++ new_object name (label ∷ []) ends ∷ rest)) o lacks.end) (is_it lacks.edge lacks.named) lacks.has) lacks.within)),
                (
                  few_spans,
                  tt,
                ),
              ),
            ),
          ),
        ),
      )
      (length front, live_named, joins)

-- a value of a node that exists always and has none
module _ (laws : Laws) (front rest : List Object) (name label : Word) (good : Good (trial_graph (front ++ plain name label ∷ rest)))
    (prop value : Word) (from to : ℕ) (ordered : from ≤ to) (last : to ≤ 9999) where
  put_named : Named (trial_graph (front ++ plain name label ∷ rest)) (length front) name
  put_named = in_middle (plain name label) rest front (λ x. IsTrue x.standing × (x.name ≡ name)) (refl, refl)

  is_node : (o : ℕ) → Named (trial_graph (front ++ plain name label ∷ rest)) o name → o ≡ length front
  is_node o named = good.names_differ o (length front) name named put_named

  no_value : (p : Word) (t : ℤ) (v : Word) → Val (trial_graph (front ++ plain name label ∷ rest)) (length front) p t v → ⊥
  no_value p t v has = at_middle (plain name label) rest front (λ x. PropertiesHave x.properties p t v) has

  puts : PutsValue (trial_graph (front ++ plain name label ∷ rest)) (length front) prop value (lasting from to) (trial_graph (front ++ with_values name label (valued prop value from to) ∷ rest))
  puts = record {
    properties = valued prop value from to;
    values = record {
      whole = λ p t v h. ⊎_elim (λ new. inl (sym new.0, inl (new.1, sym new.2))) (λ old. absurd (no_value p t v old.0)) h;
      only = λ p t v h. ⊎_elim (λ has. ⊎_elim (λ run. inl (sym has.0, run.0, sym run.1)) (λ none. absurd none) has.1) (λ none. absurd none) h;
      orderly = record { rising = (tt, tt); valued = (record { some = λ e. (let none : ⊥ = cc in none); runs = (omega (arith, ints, ordered), tt, tt) }, tt) };
    };
    is = ap trial_graph (sym (changed_middle (plain name label) rest front (λ x. record x { properties = valued prop value from to })));
  }

  always : (t : ℤ) → Within t (lasting from to) → Exists (trial_graph (front ++ plain name label ∷ rest)) (length front) t
  always t w = in_middle (plain name label) rest front (λ x. Covers x.live t) (inl (in_horizon from to last t w))

  few_runs : AreManyRuns (ValPut (trial_graph (front ++ plain name label ∷ rest)) (length front) (lasting from to) value prop) → ⊥
  few_runs many =
      let one = one_run laws from to value ordered (ValPut (trial_graph (front ++ plain name label ∷ rest)) (length front) (lasting from to) value prop)
      (λ t v h. ⊎_elim (λ new. new) (λ old. absurd (no_value prop t v old.0)) h) (λ t w. inl (w, refl)) many.runs many.are in
      omega (arith, many.many, ap length one)

  has_place : HasNoPlace (trial_graph (front ++ plain name label ∷ rest)) (length front) prop → ⊥
  has_place full = let many : 64 ≤ 0 = at_middle (plain name label) rest front (λ x. 64 ≤ length x.properties) full.many in omega (arith, many)

  few_values : IsFull (trial_graph (front ++ plain name label ∷ rest)) (Put name prop value (pos from) (pos to)) → ⊥
  few_values full =
      let at : AreManyRuns (ValPut (trial_graph (front ++ plain name label ∷ rest)) (length front) (lasting from to) value prop) ⊎ HasNoPlace (trial_graph (front ++ plain name label ∷ rest)) (length front) prop =
      subst (λ (o : ℕ). AreManyRuns (ValPut (trial_graph (front ++ plain name label ∷ rest)) o (lasting from to) value prop) ⊎ HasNoPlace (trial_graph (front ++ plain name label ∷ rest)) o prop) (is_node full.0 full.1) full.2 in
      ⊎_elim few_runs has_place at

  pub makes_value : Makes (trial_graph (front ++ plain name label ∷ rest)) (Put name prop value (pos from) (pos to)) (trial_graph (front ++ with_values name label (valued prop value from to) ∷ rest))
  makes_value =
      made laws (trial_graph (front ++ plain name label ∷ rest)) (trial_graph (front ++ with_values name label (valued prop value from to) ∷ rest))
      (Put name prop value (pos from) (pos to)) good (near from (omega (arith, ordered, last)), near to last) tt (
        (λ none. true≢false none),
        (
          (λ unknown. unknown (length front) put_named),
          (
            (λ back. omega (arith, ints, ordered, back)),
            (
              (λ leaves. leaves.outside (in_horizon from to last leaves.moment leaves.within)),
              (
                (λ absent. absent.missing (subst (λ o. Exists (trial_graph (front ++ plain name label ∷ rest)) o absent.moment) (sym (is_node absent.object absent.named)) (always absent.moment absent.within))),
                (
                  few_values,
                  tt,
                ),
              ),
            ),
          ),
        ),
      )
      (length front, put_named, puts)
