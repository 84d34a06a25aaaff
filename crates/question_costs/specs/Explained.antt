-- What is said of a question on a graph.
use Rattle.std.specs.Prelude.{◌≡◌, ℕ, List, ◌++◌, codes, length, slice_get, Option, Some, IfSome, IsNone}
use Rattle.itpg_base.specs.Graphs.{Graph}
use Rattle.itpg_base.specs.Lists.{Among}
use Rattle.path_ast.specs.Terms.{PathTerm}
use Rattle.label_scope.specs.declared.scope.Scope.TheVariants.{All}
use Rattle.path_text.specs.Texts.{text_of}
use Rattle.plan_cache.specs.Nodes.{Table, IsNodeOf, narrowed_member}
use Rattle.question_costs.specs.declared.count.Count.TheVariants.{Over}
use Rattle.question_costs.specs.Counts.{AreTold, HaveChildren, NoneOverBefore, counts_of}
use Rattle.question_costs.specs.Kept.{AreAllKept, AreKeptOnly}
use Rattle.question_hints.specs.declared.hint.Hint.{Hint}
use Rattle.question_hints.specs.Whole.{AreHints}
use Rattle.question_costs.specs.Texts.{line_text, wide_text, hints_text}
use Rattle.question_costs.specs.Trees.{Shown, tree_text}

-- the text of the path, its members as a tree, and the one that makes it wide
abbrev pub front_text : Shown → PathTerm → ℕ → Option ℕ → List ℕ
front_text s p root place = line_text (codes "path") (text_of p) ++ tree_text s p root 0 ++ wide_text place

-- a text that is said before the reply to the question: what it tells of each member is so on the graph, those members are called kept
-- at whose node of the table of plans, if there is one, a relation is kept, and the member that it names as wide is the first that is over
pub record IsFront (g : Graph) (limit : ℕ) (plans : Option Table) (p : PathTerm) (text : List ℕ) : Type 0 where
  pub shown : Shown
  pub root : ℕ
  pub place : Option ℕ
  pub limited : shown.limit ≡ limit
  pub whole : IsNodeOf shown.nodes root (narrowed_member p All All)
  pub each : length shown.members ≡ length shown.nodes
  pub children : HaveChildren shown.nodes shown.members
  pub told : AreTold g limit shown.nodes (counts_of shown.members)
  pub over : IfSome place (λ k. slice_get (counts_of shown.members) k ≡ Some Over)
  pub first : IfSome place (λ k. NoneOverBefore (counts_of shown.members) k)
  pub none : IsNone place → ¬ Among (counts_of shown.members) Over
  pub kept : AreKeptOnly shown.nodes plans shown.kept
  pub all_kept : AreAllKept shown.nodes plans shown.kept
  pub is : text ≡ front_text shown p root place

-- a line for each hint that is certain about the question
pub record AreHintLines (g : Graph) (p : PathTerm) (text : List ℕ) : Type 0 where
  pub hints : List Hint
  pub certain : AreHints g p hints
  pub is : text ≡ hints_text hints
