-- The edits of a script build its graph.
use Rattle.std.proofs.Common.{◌≡◌, ◌⊎◌, inl, ⊎_elim, ℕ, zero, suc, ◌+◌, ◌*◌, ◌<◌, ◌≤◌, ℤ, pos, Bool, true, false, List, [], ◌∷◌, ◌++◌, codes, length, Some, None, refl, sym, ap, subst, ◌∙◌, arith, append_assoc, append-nil, length-append}
use Rattle.std.specs.Prelude.{slice_get, IsSomeAnd, IsTrue, nat_eq, if◌then◌else◌}
use Rattle.itpg_base.specs.Spans.{Within, Covers}
use Rattle.itpg_base.specs.Graphs.{Graph, Object, Good, Exists}
use Rattle.itpg_base.proofs.Objects.{here, get_kept}
use Rattle.itpg_graph.specs.Changes.{new_node, new_edge}
use Rattle.itpg_graph.proofs.Goodness.{good_none}
use Rattle.itpg_edit.specs.declared.edit.Edit.{Edit}
use Rattle.itpg_edit.specs.declared.edit.Edit.TheVariants.{Begin, AddEdge, Live, Put}
use Rattle.trial_script.specs.Draws.{after, draw}
use Rattle.trial_script.specs.Script.{node_name, edge_name, after_sign}
use Rattle.itpg_run.specs.ScriptEdits.{node_label, edge_label, node_edit, node_life, edge_pair_edits, edge_edits, sign_edits, all_sign_edits, each_edits, changes}
use Rattle.itpg_run.specs.ScriptGraph.{things, lasting, node_object, drawn_edge, edge_object, valued, person_values, persons, unbegun, trial_graph, script_graph, Lead, EachScriptBuilds}
use Rattle.itpg_run.proofs.EditLines.{more_edits, no_edits, drawn_below}
use Rattle.itpg_run.proofs.ObjectLists.{at_middle, more_things, no_things, split_things, thing_at, count_things, AllUnlike, unlike_joined, unlike_things, node_names_differ, edge_names_differ, node_edge_names}
use Rattle.itpg_run.proofs.EditSteps.{Laws, Makes, IsNodeNamed, in_horizon, makes_graph, makes_node, makes_edge, makes_life, makes_value}

-- the edits lead to a good graph
pub record Reaches (g : Graph) (edits : List Edit) (last : Graph) : Type 0 where
  pub lead : Lead g edits last
  pub good : Good last

reach_none : (g : Graph) → Good g → Reaches g [] g
reach_none g good = record { lead = refl; good = good }

reach_one : (g new : Graph) (edit : Edit) → Makes g edit new → Reaches g (edit ∷ []) new
reach_one g new edit m = record { lead = (new, m.unbroken, m.next, refl); good = m.good }

lead_joined : (g mid last : Graph) (xs ys : List Edit) → Lead g xs mid → Lead mid ys last → Lead g (xs ++ ys) last
lead_joined g mid last [] ys e h = subst (λ (k : Graph). Lead k ys last) (sym e) h
lead_joined g mid last (x ∷ xs) ys s h = (s.0, s.1, s.2, lead_joined s.0 mid last xs ys s.3 h)

reach_joined : (g mid last : Graph) (xs ys : List Edit) → Reaches g xs mid → Reaches mid ys last → Reaches g (xs ++ ys) last
reach_joined g mid last xs ys a b = record { lead = lead_joined g mid last xs ys a.lead b.lead; good = b.good }

-- the same objects, otherwise joined
reach_as : (g : Graph) (edits : List Edit) (xs ys : List Object) → xs ≡ ys → Reaches g edits (trial_graph xs) → Reaches g edits (trial_graph ys)
reach_as g edits xs ys e r = subst (λ (l : List Object). Reaches g edits (trial_graph l)) e r

-- a node that exists at no moment yet, and one that exists always
abbrev fresh : ℕ → Object
fresh i = new_node (node_name i) (node_label i ∷ [])

abbrev whole : ℕ → Object
whole i = node_object i []

module _ (laws : Laws) where
  -- the nodes
  nodes_reach : (count i : ℕ) (front : List Object) → i + count ≤ 200 → length front ≤ i → ((k : ℕ) → i ≤ k → k < 200 → AllUnlike (node_name k) front) → Good (trial_graph front)
      → Reaches (trial_graph front) (each_edits (λ k. node_edit k ∷ []) i count) (trial_graph (front ++ things fresh i count))
  unfolding node_edit
  nodes_reach zero i front within few unlike good =
      subst (λ (es : List Edit). Reaches (trial_graph front) es (trial_graph (front ++ things fresh i 0))) (sym (no_edits (λ k. node_edit k ∷ []) i))
      (reach_as (trial_graph front) [] front (front ++ things fresh i 0) (sym (ap (λ (l : List Object). front ++ l) (no_things fresh i) ∙ append-nil front)) (reach_none (trial_graph front) good))
  nodes_reach (suc count) i front within few unlike good =
      let one = makes_node laws front (node_name i) (node_label i) good (unlike i (omega arith) (omega (arith, within))) (omega (arith, few, within)) in
      let next = front ++ fresh i ∷ [] in
      let unlike_next : (k : ℕ) → i + 1 ≤ k → k < 200 → AllUnlike (node_name k) next =
      λ k low high. unlike_joined (node_name k) front (fresh i ∷ []) (unlike k (omega (arith, low)) high) ((λ e. node_names_differ i k (omega (arith, low)) (omega (arith, high)) e), tt) in
      let rest = nodes_reach count (i + 1) next (omega (arith, within)) (omega (arith, few, length-append front (fresh i ∷ []))) unlike_next one.good in
      subst (λ (es : List Edit). Reaches (trial_graph front) es (trial_graph (front ++ things fresh i (suc count)))) (sym (more_edits (λ k. node_edit k ∷ []) i count))
      (reach_joined (trial_graph front) (trial_graph next) (trial_graph (front ++ things fresh i (suc count))) (node_edit i ∷ []) (each_edits (λ k. node_edit k ∷ []) (i + 1) count)
      (reach_one (trial_graph front) (trial_graph next) (node_edit i) one)
      (reach_as (trial_graph next) (each_edits (λ k. node_edit k ∷ []) (i + 1) count) (next ++ things fresh (i + 1) count) (front ++ things fresh i (suc count))
      (append_assoc front (fresh i ∷ []) (things fresh (i + 1) count) ∙ ap (λ (l : List Object). front ++ l) (sym (more_things fresh i count))) rest))

  -- their lives
  lives_reach : (count i : ℕ) (front : List Object) → Good (trial_graph (front ++ things fresh i count))
      → Reaches (trial_graph (front ++ things fresh i count)) (each_edits (λ k. node_life k ∷ []) i count) (trial_graph (front ++ things whole i count))
  unfolding node_life
  lives_reach zero i front good =
      subst (λ (es : List Edit). Reaches (trial_graph (front ++ things fresh i 0)) es (trial_graph (front ++ things whole i 0))) (sym (no_edits (λ k. node_life k ∷ []) i))
      (reach_as (trial_graph (front ++ things fresh i 0)) [] (front ++ things fresh i 0) (front ++ things whole i 0) (ap (λ (l : List Object). front ++ l) (no_things fresh i ∙ sym (no_things whole i))) (reach_none (trial_graph (front ++ things fresh i 0)) good))
  lives_reach (suc count) i front good =
      let behind = things fresh (i + 1) count in
      let open_good = subst (λ (l : List Object). Good (trial_graph (front ++ l))) (more_things fresh i count) good in
      let one = makes_life laws front behind (node_name i) (node_label i) None open_good 0 9999 (omega arith) (omega arith)
      (λ a t has w. absurd (at_middle (fresh i) behind front (λ x. IsTrue x.standing × IsSomeAnd x.ends (λ n. (n.source ≡ a) ⊎ (n.target ≡ a))) has).1) in
      let next = front ++ whole i ∷ [] in
      let same : front ++ whole i ∷ behind ≡ next ++ behind = sym (append_assoc front (whole i ∷ []) behind) in
      let rest = lives_reach count (i + 1) next (subst (λ (l : List Object). Good (trial_graph l)) same one.good) in
      subst (λ (es : List Edit). Reaches (trial_graph (front ++ things fresh i (suc count))) es (trial_graph (front ++ things whole i (suc count)))) (sym (more_edits (λ k. node_life k ∷ []) i count))
      (subst (λ (l : List Object). Reaches (trial_graph (front ++ l)) (node_life i ∷ each_edits (λ k. node_life k ∷ []) (i + 1) count) (trial_graph (front ++ things whole i (suc count)))) (sym (more_things fresh i count))
      (reach_joined (trial_graph (front ++ fresh i ∷ behind)) (trial_graph (next ++ behind)) (trial_graph (front ++ things whole i (suc count))) (node_life i ∷ []) (each_edits (λ k. node_life k ∷ []) (i + 1) count)
      (reach_as (trial_graph (front ++ fresh i ∷ behind)) (node_life i ∷ []) (front ++ whole i ∷ behind) (next ++ behind) same (reach_one (trial_graph (front ++ fresh i ∷ behind)) (trial_graph (front ++ whole i ∷ behind)) (node_life i) one))
      (reach_as (trial_graph (next ++ behind)) (each_edits (λ k. node_life k ∷ []) (i + 1) count) (next ++ things whole (i + 1) count) (front ++ things whole i (suc count))
      (append_assoc front (whole i ∷ []) (things whole (i + 1) count) ∙ ap (λ (l : List Object). front ++ l) (sym (more_things whole i count))) rest)))

-- the first 200 objects are the nodes
abbrev HasNodes : List Object → Type 0
HasNodes objects = (k : ℕ) → k < 200 → slice_get objects k ≡ Some (whole k)

node_at : (objects : List Object) → HasNodes objects → (k : ℕ) → k < 200 → IsNodeNamed objects k (node_name k)
node_at objects nodes k low = record { object = whole k; there = nodes k low; standing = refl; named = refl; no_ends = refl }

module _ (laws : Laws) where
  -- an edge and its life
  pair_reach : (objects : List Object) (i source target kind from more : ℕ) → source < 200 → target < 200 → from + more ≤ 9999 → HasNodes objects → AllUnlike (edge_name i) objects → length objects < 200000 → Good (trial_graph objects)
      → Reaches (trial_graph objects) (edge_pair_edits i source target kind from more) (trial_graph (objects ++ drawn_edge i source target kind from more ∷ []))
  unfolding edge_pair_edits
  pair_reach objects i source target kind from more s t last nodes unlike few good =
      let edge = new_edge (edge_name i) (edge_label kind ∷ []) source target in
      let one = makes_edge laws objects (edge_name i) (edge_label kind) (node_name source) (node_name target) source target good unlike few (node_at objects nodes source s) (node_at objects nodes target t) in
      let there : (a : ℕ) → a < 200 → (m : ℤ) → Within m (lasting from (from + more)) → Exists (trial_graph (objects ++ edge ∷ [])) a m =
      λ a low m w. here (objects ++ edge ∷ []) a (λ x. Covers x.live m) (whole a) (get_kept objects (edge ∷ []) a (whole a) (nodes a low)) (inl (in_horizon from (from + more) last m w)) in
      let two = makes_life laws objects [] (edge_name i) (edge_label kind) (Some (record { source = source; target = target })) one.good from (from + more) (omega arith) last
      (λ a m has w. ⊎_elim (λ e. there a (subst (λ n. n < 200) e s) m w) (λ e. there a (subst (λ n. n < 200) e t) m w) (at_middle edge [] objects (λ x. IsTrue x.standing × IsSomeAnd x.ends (λ n. (n.source ≡ a) ⊎ (n.target ≡ a))) has).1) in
      reach_joined (trial_graph objects) (trial_graph (objects ++ edge ∷ [])) (trial_graph (objects ++ drawn_edge i source target kind from more ∷ []))
      (AddEdge (edge_name i) (edge_label kind ∷ []) (node_name source) (node_name target) ∷ []) (Live (edge_name i) (pos from) (pos (from + more)) ∷ [])
      (reach_one (trial_graph objects) (trial_graph (objects ++ edge ∷ [])) (AddEdge (edge_name i) (edge_label kind ∷ []) (node_name source) (node_name target)) one)
      (reach_one (trial_graph (objects ++ edge ∷ [])) (trial_graph (objects ++ drawn_edge i source target kind from more ∷ [])) (Live (edge_name i) (pos from) (pos (from + more))) two)

  edge_reach : (number i : ℕ) (objects : List Object) → HasNodes objects → AllUnlike (edge_name i) objects → length objects < 200000 → Good (trial_graph objects)
      → Reaches (trial_graph objects) (edge_edits number i) (trial_graph (objects ++ edge_object number i ∷ []))
  unfolding edge_edits edge_object
  edge_reach number i objects nodes unlike few good =
      let k = 5 * i in
      let s = drawn_below (after number (suc k)) 200 (omega arith) in
      let t = drawn_below (after number (suc (k + 1))) 200 (omega arith) in
      let f = drawn_below (after number (suc (k + 3))) 9900 (omega arith) in
      let m = drawn_below (after number (suc (k + 4))) 100 (omega arith) in
      pair_reach objects i (draw number k 200) (draw number (k + 1) 200) (draw number (k + 2) 2) (draw number (k + 3) 9900) (draw number (k + 4) 100) s t (omega (arith, f, m)) nodes unlike few good

  edge_called : (number i : ℕ) → (edge_object number i).name ≡ edge_name i
  unfolding edge_object
  edge_called number i = refl

  -- all edges
  edges_reach : (number count i : ℕ) (objects : List Object) → i + count ≤ 2000 → length objects ≤ 200 + i → HasNodes objects → ((k : ℕ) → i ≤ k → k < 2000 → AllUnlike (edge_name k) objects) → Good (trial_graph objects)
      → Reaches (trial_graph objects) (each_edits (edge_edits number) i count) (trial_graph (objects ++ things (edge_object number) i count))
  edges_reach number zero i objects within few nodes unlike good =
      subst (λ (es : List Edit). Reaches (trial_graph objects) es (trial_graph (objects ++ things (edge_object number) i 0))) (sym (no_edits (edge_edits number) i))
      (reach_as (trial_graph objects) [] objects (objects ++ things (edge_object number) i 0) (sym (ap (λ (l : List Object). objects ++ l) (no_things (edge_object number) i) ∙ append-nil objects)) (reach_none (trial_graph objects) good))
  edges_reach number (suc count) i objects within few nodes unlike good =
      let one = edge_reach number i objects nodes (unlike i (omega arith) (omega (arith, within))) (omega (arith, few, within)) good in
      let next = objects ++ edge_object number i ∷ [] in
      let unlike_next : (k : ℕ) → i + 1 ≤ k → k < 2000 → AllUnlike (edge_name k) next =
      λ k low high. unlike_joined (edge_name k) objects (edge_object number i ∷ []) (unlike k (omega (arith, low)) high) ((λ e. edge_names_differ i k (omega (arith, low)) (omega (arith, high)) (sym (edge_called number i) ∙ e)), tt) in
      let nodes_next : HasNodes next = λ k low. get_kept objects (edge_object number i ∷ []) k (whole k) (nodes k low) in
      let rest = edges_reach number count (i + 1) next (omega (arith, within)) (omega (arith, few, length-append objects (edge_object number i ∷ []))) nodes_next unlike_next one.good in
      subst (λ (es : List Edit). Reaches (trial_graph objects) es (trial_graph (objects ++ things (edge_object number) i (suc count)))) (sym (more_edits (edge_edits number) i count))
      (reach_joined (trial_graph objects) (trial_graph next) (trial_graph (objects ++ things (edge_object number) i (suc count))) (edge_edits number i) (each_edits (edge_edits number) (i + 1) count) one
      (reach_as (trial_graph next) (each_edits (edge_edits number) (i + 1) count) (next ++ things (edge_object number) (i + 1) count) (objects ++ things (edge_object number) i (suc count))
      (append_assoc objects (edge_object number i ∷ []) (things (edge_object number) (i + 1) count) ∙ ap (λ (l : List Object). objects ++ l) (sym (more_things (edge_object number) i count))) rest))

  -- what is set of a person
  sign_reach : (i x : ℕ) (front rest : List Object) → Good (trial_graph (front ++ whole i ∷ rest))
      → Reaches (trial_graph (front ++ whole i ∷ rest)) (sign_edits i x) (trial_graph (front ++ node_object i (person_values x) ∷ rest))
  unfolding sign_edits person_values
  sign_reach i x front rest good = by_test (nat_eq (draw x 0 4) 0) (nat_eq (draw x 0 4) 1)
    where
      by_test : (b c : Bool) → Reaches (trial_graph (front ++ whole i ∷ rest))
          (if b then Put (node_name i) (codes "risk") (codes "high") (pos (draw x 1 9000)) (pos (draw x 1 9000 + 999)) ∷ [] else if c then Put (node_name i) (codes "test") (codes "pos") (pos (draw x 1 9000)) (pos (draw x 1 9000 + 99)) ∷ [] else [])
          (trial_graph (front ++ node_object i (if b then valued (codes "risk") (codes "high") (draw x 1 9000) (draw x 1 9000 + 999) else if c then valued (codes "test") (codes "pos") (draw x 1 9000) (draw x 1 9000 + 99) else []) ∷ rest))
      by_test true c =
          let f = drawn_below (after x 2) 9000 (omega arith) in
          reach_one (trial_graph (front ++ whole i ∷ rest)) _ (Put (node_name i) (codes "risk") (codes "high") (pos (draw x 1 9000)) (pos (draw x 1 9000 + 999)))
          (makes_value laws front rest (node_name i) (node_label i) good (codes "risk") (codes "high") (draw x 1 9000) (draw x 1 9000 + 999) (omega arith) (omega (arith, f)))
      by_test false true =
          let f = drawn_below (after x 2) 9000 (omega arith) in
          reach_one (trial_graph (front ++ whole i ∷ rest)) _ (Put (node_name i) (codes "test") (codes "pos") (pos (draw x 1 9000)) (pos (draw x 1 9000 + 99)))
          (makes_value laws front rest (node_name i) (node_label i) good (codes "test") (codes "pos") (draw x 1 9000) (draw x 1 9000 + 99) (omega arith) (omega (arith, f)))
      by_test false false = reach_none (trial_graph (front ++ whole i ∷ rest)) good

  -- of all persons
  signs_reach : (count i x : ℕ) (front rest : List Object) → Good (trial_graph (front ++ (things whole i count ++ rest)))
      → Reaches (trial_graph (front ++ (things whole i count ++ rest))) (all_sign_edits count i x) (trial_graph (front ++ (persons count i x ++ rest)))
  unfolding all_sign_edits persons
  signs_reach zero i x front rest good =
      reach_as (trial_graph (front ++ (things whole i 0 ++ rest))) [] (front ++ (things whole i 0 ++ rest)) (front ++ rest) (ap (λ (l : List Object). front ++ (l ++ rest)) (no_things whole i)) (reach_none (trial_graph (front ++ (things whole i 0 ++ rest))) good)
  signs_reach (suc count) i x front rest good =
      let behind = things whole (i + 1) count ++ rest in
      let person = node_object i (person_values x) in
      let next = front ++ person ∷ [] in
      let last = front ++ (person ∷ (persons count (i + 1) (after_sign x) ++ rest)) in
      let one = sign_reach i x front behind (subst (λ (l : List Object). Good (trial_graph (front ++ (l ++ rest)))) (more_things whole i count) good) in
      let same : front ++ person ∷ behind ≡ next ++ behind = sym (append_assoc front (person ∷ []) behind) in
      let more = signs_reach count (i + 1) (after_sign x) next rest (subst (λ (l : List Object). Good (trial_graph l)) same one.good) in
      subst (λ (l : List Object). Reaches (trial_graph (front ++ (l ++ rest))) (sign_edits i x ++ all_sign_edits count (i + 1) (after_sign x)) (trial_graph last)) (sym (more_things whole i count))
      (reach_joined (trial_graph (front ++ whole i ∷ behind)) (trial_graph (next ++ behind)) (trial_graph last) (sign_edits i x) (all_sign_edits count (i + 1) (after_sign x))
      (reach_as (trial_graph (front ++ whole i ∷ behind)) (sign_edits i x) (front ++ person ∷ behind) (next ++ behind) same one)
      (reach_as (trial_graph (next ++ behind)) (all_sign_edits count (i + 1) (after_sign x)) (next ++ (persons count (i + 1) (after_sign x) ++ rest)) last (append_assoc front (person ∷ []) (persons count (i + 1) (after_sign x) ++ rest)) more))

  -- all
  script_reach : (number : ℕ) → Reaches unbegun (changes number) (script_graph number)
  unfolding changes script_graph
  script_reach number =
      let begin = makes_graph laws (codes "trial") good_none in
      let all_nodes = nodes_reach laws 200 0 [] (omega arith) (omega arith) (λ k low high. tt) begin.good in
      let all_lives = lives_reach laws 200 0 [] all_nodes.good in
      let edges = things (edge_object number) 0 2000 in
      let rooms = things whole 150 50 in
      let all_edges = edges_reach number 2000 0 (things whole 0 200) (omega arith) (omega (arith, count_things whole 200 0)) (λ k low. thing_at whole 200 0 k low ∙ ap (λ n. Some (whole n)) (let e : 0 + k ≡ k = omega arith in e))
      (λ k low high. unlike_things (edge_name k) whole 200 0 (λ j a b e. node_edge_names j k e)) all_lives.good in
      let same : things whole 0 200 ++ edges ≡ things whole 0 150 ++ (rooms ++ edges) =
      ap (λ (l : List Object). l ++ edges) (split_things whole 150 50 0) ∙ append_assoc (things whole 0 150) rooms edges in
      let all_signs = signs_reach 150 0 (after number 10000) [] (rooms ++ edges) (subst (λ (l : List Object). Good (trial_graph l)) same all_edges.good) in
      reach_joined unbegun _ _ (Begin (codes "trial") (pos 0) (pos 9999) ∷ each_edits (λ i. node_edit i ∷ []) 0 200 ++ each_edits (λ i. node_life i ∷ []) 0 200 ++ each_edits (edge_edits number) 0 2000) (all_sign_edits 150 0 (after number 10000))
      (reach_as unbegun _ (things whole 0 200 ++ edges) (things whole 0 150 ++ (rooms ++ edges)) same
      (reach_joined unbegun _ _ (Begin (codes "trial") (pos 0) (pos 9999) ∷ each_edits (λ i. node_edit i ∷ []) 0 200 ++ each_edits (λ i. node_life i ∷ []) 0 200) (each_edits (edge_edits number) 0 2000)
      (reach_joined unbegun _ _ (Begin (codes "trial") (pos 0) (pos 9999) ∷ each_edits (λ i. node_edit i ∷ []) 0 200) (each_edits (λ i. node_life i ∷ []) 0 200)
      (reach_joined unbegun _ _ (Begin (codes "trial") (pos 0) (pos 9999) ∷ []) (each_edits (λ i. node_edit i ∷ []) 0 200) (reach_one unbegun (trial_graph []) (Begin (codes "trial") (pos 0) (pos 9999)) begin) all_nodes) all_lives) all_edges))
      (reach_as _ (all_sign_edits 150 0 (after number 10000)) (persons 150 0 (after number 10000) ++ (rooms ++ edges)) (persons 150 0 (after number 10000) ++ rooms ++ edges) (sym (append_assoc (persons 150 0 (after number 10000)) rooms edges)) all_signs)

  pub scripts_build : EachScriptBuilds
  scripts_build = record { builds = λ number. (script_reach number).lead; good = λ number. (script_reach number).good }
