-- There is at most one next graph.
use Rattle.std.proofs.Common.{◌≡◌, sym, ap₂, ◌∙◌, subst}
use Rattle.itpg_base.specs.Graphs.{Graph, Good}
use Rattle.itpg_graph.specs.Changes.{with_edge, without, JoinsLive, CutsLive, PutsValue, ClearsValue}
use Rattle.itpg_graph.proofs.Unique.{joins_one, cuts_one, puts_one, clears_one}
use Rattle.itpg_edit.specs.declared.edit.Edit.{Edit}
use Rattle.itpg_edit.specs.declared.edit.Edit.TheVariants.{Begin, Extend, AddNode, AddEdge, Live, Gone, Put, Clear, Remove}
use Rattle.itpg_edit.specs.Facts.{span_of}
use Rattle.itpg_edit.specs.Next.{Next}

-- an edit leads to one graph
pub next_unique : (g x y : Graph) (edit : Edit) → Good g → Next g edit x → Next g edit y → x ≡ y
next_unique g x y (Begin name lo hi) good a b = a ∙ sym b
next_unique g x y (Extend lo hi) good a b = a ∙ sym b
next_unique g x y (AddNode id labels) good a b = a ∙ sym b
next_unique g x y (AddEdge id labels source target) good a b =
    let s : a.0 ≡ b.0 = good.names_differ a.0 b.0 source a.2 b.2 in
    let t : a.1 ≡ b.1 = good.names_differ a.1 b.1 target a.3 b.3 in
    a.4 ∙ ap₂ (with_edge g id labels) s t ∙ sym b.4
next_unique g x y (Live id from to) good a b =
    joins_one g a.0 (span_of from to) x y a.2 (subst (λ o. JoinsLive g o (span_of from to) y) (good.names_differ b.0 a.0 id b.1 a.1) b.2)
next_unique g x y (Gone id from to) good a b =
    cuts_one g a.0 (span_of from to) x y a.2 (subst (λ o. CutsLive g o (span_of from to) y) (good.names_differ b.0 a.0 id b.1 a.1) b.2)
next_unique g x y (Put id prop value from to) good a b =
    puts_one g a.0 prop value (span_of from to) x y a.2 (subst (λ o. PutsValue g o prop value (span_of from to) y) (good.names_differ b.0 a.0 id b.1 a.1) b.2)
next_unique g x y (Clear id prop from to) good a b =
    clears_one g a.0 prop (span_of from to) x y a.2 (subst (λ o. ClearsValue g o prop (span_of from to) y) (good.names_differ b.0 a.0 id b.1 a.1) b.2)
next_unique g x y (Remove id) good a b = a.2 ∙ sym (subst (λ o. y ≡ without g o) (good.names_differ b.0 a.0 id b.1 a.1) b.2)
