-- The graph that a script builds.
use Rattle.std.specs.Prelude.{◌≡◌, ℕ, zero, suc, ◌+◌, ◌*◌, pos, true, List, [], ◌∷◌, ◌++◌, codes, nat_eq, if◌then◌else◌, map, Some, None}
use Rattle.std.specs.List.{range_with_len}
use Rattle.itpg_base.specs.Words.{Word}
use Rattle.itpg_base.specs.Spans.{Span}
use Rattle.itpg_base.specs.Graphs.{Graph, Object, Property, Good}
use Rattle.itpg_edit.specs.declared.edit.Edit.{Edit}
use Rattle.itpg_edit.specs.Rules.{Unbroken}
use Rattle.itpg_edit.specs.Next.{Next}
use Rattle.trial_script.specs.Draws.{after, draw}
use Rattle.trial_script.specs.Script.{node_name, edge_name, after_sign}
use Rattle.itpg_run.specs.ScriptEdits.{node_label, edge_label, changes}

-- so many things, from one on
unfoldable pub things : {X : Type 0} → (ℕ → X) → ℕ → ℕ → List X
things thing from count = map thing (range_with_len from count)

-- from a moment to another
abbrev pub lasting : ℕ → ℕ → Span
lasting from to = record { from = pos from; to = pos to }

-- all moments of the graph
abbrev pub horizon : Span
horizon = lasting 0 9999

-- a node exists at each of them
abbrev pub node_object : ℕ → List Property → Object
node_object i properties = record { name = node_name i; labels = node_label i ∷ []; ends = None; standing = true; live = horizon ∷ []; properties = properties }

-- an edge leads from a node to another, and exists from a moment on for some more
abbrev pub drawn_edge : ℕ → ℕ → ℕ → ℕ → ℕ → ℕ → Object
drawn_edge i source target kind from more =
    record {
      name = edge_name i;
      labels = edge_label kind ∷ [];
      ends = Some (record { source = source; target = target });
      standing = true;
      live = lasting from (from + more) ∷ [];
      properties = [];
    }

-- by five draws
unfoldable pub edge_object : ℕ → ℕ → Object
edge_object number i =
    let first = 5 * i in
    drawn_edge i (draw number first 200) (draw number (first + 1) 200) (draw number (first + 2) 2) (draw number (first + 3) 9900) (draw number (first + 4) 100)

-- one property, which has one value
abbrev pub valued : Word → Word → ℕ → ℕ → List Property
valued name value from to = record { name = name; runs = record { span = lasting from to; value = value } ∷ [] } ∷ []

-- what is known of a person, if anything is, where the draws begin at the state x
unfoldable pub person_values : ℕ → List Property
person_values x =
    let from = draw x 1 9000 in
    if nat_eq (draw x 0 4) 0 then valued (codes "risk") (codes "high") from (from + 999)
    else if nat_eq (draw x 0 4) 1 then valued (codes "test") (codes "pos") from (from + 99) else []

-- so many persons, from one on
unfoldable pub persons : ℕ → ℕ → ℕ → List Object
persons zero i x = []
persons (suc count) i x = node_object i (person_values x) ∷ persons count (i + 1) (after_sign x)

-- no graph is begun
abbrev pub unbegun : Graph
unbegun = record { begun = None; objects = [] }

-- the graph of a trial with these objects
abbrev pub trial_graph : List Object → Graph
trial_graph objects = record { begun = Some (record { name = codes "trial"; horizon = horizon }); objects = objects }

-- the graph of a number: 150 persons, 50 rooms and 2,000 edges
unfoldable pub script_graph : ℕ → Graph
script_graph number = trial_graph (persons 150 0 (after number 10000) ++ things (λ i. node_object i []) 150 50 ++ things (edge_object number) 0 2000)

-- edits made one after another lead from a graph to another: each breaks no rule, and makes the next graph
abbrev pub Lead : Graph → List Edit → Graph → Type 0
Lead g [] last = g ≡ last
Lead g (edit ∷ rest) last = (next : Graph) × Unbroken g edit × Next g edit next × Lead next rest last

-- the edits of a script build its graph, which is good; none of them is refused
pub record EachScriptBuilds : Type 0 where
  pub builds : (number : ℕ) → Lead unbegun (changes number) (script_graph number)
  pub good : (number : ℕ) → Good (script_graph number)
