-- Steps and touched objects of small examples, written by hand.
use Rattle.std.specs.Prelude.{◌≡◌, ℕ, List, [], ◌∷◌, Option, Some, None, true, codes, pos}
use Rattle.itpg_base.specs.Graphs.{Graph, Object}
use Rattle.path_ast.specs.Terms.{PathTerm, OfTest, Forward, Backward, Next, Previous, Sequence, Choice, Repetition, IsNode, Condition, Conjunction, Negation}
use Rattle.itpg_edit.specs.declared.edit.Edit.{Edit}
use Rattle.itpg_edit.specs.declared.edit.Edit.TheVariants.{Extend, AddEdge, Live, Remove}
use Rattle.source_rows.specs.Steps.{path_steps}

-- each path has the steps beside it
abbrev pub AreCounted : List (PathTerm × Option ℕ) → Type 0
AreCounted [] = Unit {0}
AreCounted (line ∷ rest) = (path_steps line.0 ≡ line.1) × AreCounted rest

abbrev asks : PathTerm → PathTerm
asks p = OfTest (Condition p)

abbrev up_to : PathTerm → ℕ → PathTerm
up_to p m = Repetition p 0 (Some m)

abbrev any_times : PathTerm → PathTerm
any_times p = Repetition p 0 None

-- F, B, N, P, :Node; then F/F, F/N, F/B/F and F + F/F
abbrev pub short_paths : List (PathTerm × Option ℕ)
short_paths =
    (Forward, Some 1) ∷ (Backward, Some 1) ∷ (Next, Some 0) ∷ (Previous, Some 0) ∷ (OfTest IsNode, Some 0)
    ∷ (Sequence Forward Forward, Some 2) ∷ (Sequence Forward Next, Some 1) ∷ (Sequence Forward (Sequence Backward Forward), Some 3)
    ∷ (Choice Forward (Sequence Forward Forward), Some 2) ∷ []

-- F[0,5], (F/F)[0,3], F[0,0], F[0,_], N[0,_], then (F[0,_])[0,0], F[0,_]/N, and the most steps and one more
abbrev pub repetitions : List (PathTerm × Option ℕ)
repetitions =
    (up_to Forward 5, Some 5) ∷ (up_to (Sequence Forward Forward) 3, Some 6) ∷ (up_to Forward 0, Some 0) ∷ (any_times Forward, None)
    ∷ (any_times Next, Some 0) ∷ (up_to (any_times Forward) 0, None) ∷ (Sequence (any_times Forward) Next, None)
    ∷ (up_to Forward 1000000, Some 1000000) ∷ (up_to Forward 1000001, None) ∷ (Sequence (up_to Forward 1000000) Forward, None) ∷ []

-- ?(F/F), not ?(F), ?(F/F) and :Node, F/?(F), ?(F[0,_])
abbrev pub conditions : List (PathTerm × Option ℕ)
conditions =
    (asks (Sequence Forward Forward), Some 2) ∷ (OfTest (Negation (Condition Forward)), Some 1)
    ∷ (OfTest (Conjunction (Condition (Sequence Forward Forward)) IsNode), Some 2) ∷ (Sequence Forward (asks Forward), Some 2)
    ∷ (asks (any_times Forward), None) ∷ []

abbrev node : List ℕ → Object
node name = record { name = name; labels = []; ends = None; standing = true; live = []; properties = [] }

-- a --m--> b and c, which have the numbers 0, 3, 1 and 2
abbrev pub drawn : Graph
drawn = record {
  begun = Some (record { name = codes "g"; horizon = record { from = pos 0; to = pos 9 } });
  objects = node (codes "a") ∷ node (codes "b") ∷ node (codes "c")
      ∷ record { name = codes "m"; labels = []; ends = Some (record { source = 0; target = 1 }); standing = true; live = []; properties = [] } ∷ [];
}

-- live m 2 4, drop m, edge k a c, extend 0 12
abbrev pub live_edge : Edit
live_edge = Live (codes "m") (pos 2) (pos 4)

abbrev pub dropped_edge : Edit
dropped_edge = Remove (codes "m")

abbrev pub new_edge : Edit
new_edge = AddEdge (codes "k") [] (codes "a") (codes "c")

abbrev pub wider : Edit
wider = Extend (pos 0) (pos 12)
