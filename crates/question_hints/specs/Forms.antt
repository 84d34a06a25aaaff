-- All hints that a question can give, whatever the graph is.
use Rattle.std.specs.Prelude.{List, [], ◌∷◌, ◌++◌, Bool, true, false}
use Rattle.path_ast.specs.Terms.{PathTerm}
use Rattle.label_scope.specs.declared.scope.Scope.{Scope}
use Rattle.label_scope.specs.declared.scope.Scope.TheVariants.{All, These}
use Rattle.label_scope.specs.Scopes.{source_scope, target_scope}
use Rattle.question_hints.specs.declared.hint.Hint.{Hint}
use Rattle.question_hints.specs.declared.hint.Hint.TheVariants.{EndsOnEdge, SelectiveEndLast}
use Rattle.question_hints.specs.Asked.{path_hints}
use Rattle.question_hints.specs.Kinds.{is_nowhere, leads_of}

-- it can start at every object, but ends at one of some labels
abbrev pub is_selective_last : Scope → Scope → Bool
is_selective_last All All = false
is_selective_last All (These labels) = true
is_selective_last (These labels) b = false

-- the hints, and this one behind them if the fact holds
abbrev pub with_hint_if : Bool → Hint → List Hint → List Hint
with_hint_if true h hints = hints ++ h ∷ []
with_hint_if false h hints = hints

-- what the tests of the path may ask for in vain; then that the path leads nowhere, and that its selective end stands last
abbrev pub possible_hints : PathTerm → List Hint
possible_hints p = with_hint_if (is_selective_last (source_scope p) (target_scope p)) SelectiveEndLast (with_hint_if (is_nowhere (leads_of p)) EndsOnEdge (path_hints p []))
