use Rattle.std.proofs.Common.{◌≡◌, ◌≤◌, ℕ, List, Some, max, length, refl, sym, subst, rules}
use Rattle.std.specs.Prelude.{slice_get}
use Rattle.std.proofs.lemmas.Option.{slice_get_read}
use Rattle.itpg_base.specs.Spans.{Span, Covers, Within}
use Rattle.itpg_base.specs.Graphs.{Stands, Property}
use Rattle.interval_set.specs.Runs.{AreRuns}
use Rattle.itpg_graph.specs.Tables.{IsWidest}
use Rattle.itpg_graph.specs.Families.{HasCutFamily}
use Rattle.itpg_graph.proofs.Views.{is_within, widest_some, widest_most}
use Rattle.itpg_graph.proofs.graph.Graph.widest_cut.Goals as goal

pub returns-clause-some : goal.returns-clause-some
returns-clause-some c =
    let items = c.self.inside.objects.items in
    let o = c.args.o.0 in
    let s = c.index.result.now in
    let is = sym c.self.view_is in
    let stands = subst (λ g. Stands g o) is c.requires in
    let at : slice_get items o ≡ Some s = slice_get_read items (length items) o s refl (is_within c.self.inside.opened items o _ stands) c.index.ensures in
    let widest = subst (λ (p : List Property). IsWidest p c.args.s c.widest_cut.result) c.as_record-object.ensures.properties c.widest_cut.ensures in
    let counts = subst (λ (live : List Span). (cut : List Span) → AreRuns (λ t. Covers live t × (¬ Within t c.args.s)) cut → c.count_cut.result ≡ length cut) c.as_record-object.ensures.live c.count_cut.ensures in
    let most : c.max.result ≡ max c.widest_cut.result c.count_cut.result = search rules in
    subst (λ n. HasCutFamily c.args.self.now o c.args.s n) (sym most) (subst (λ g. HasCutFamily g o c.args.s (max c.widest_cut.result c.count_cut.result)) c.self.view_is
    (widest_some c.self.inside.opened items o s at c.args.s c.widest_cut.result c.count_cut.result widest counts))

pub returns-clause-most : goal.returns-clause-most
returns-clause-most c =
    let items = c.self.inside.objects.items in
    let o = c.args.o.0 in
    let s = c.index.result.now in
    let is = sym c.self.view_is in
    let stands = subst (λ g. Stands g o) is c.requires in
    let at : slice_get items o ≡ Some s = slice_get_read items (length items) o s refl (is_within c.self.inside.opened items o _ stands) c.index.ensures in
    let widest = subst (λ (p : List Property). IsWidest p c.args.s c.widest_cut.result) c.as_record-object.ensures.properties c.widest_cut.ensures in
    let counts = subst (λ (live : List Span). (cut : List Span) → AreRuns (λ t. Covers live t × (¬ Within t c.args.s)) cut → c.count_cut.result ≡ length cut) c.as_record-object.ensures.live c.count_cut.ensures in
    let most : c.max.result ≡ max c.widest_cut.result c.count_cut.result = search rules in
    subst (λ k. (n : ℕ) → HasCutFamily c.args.self.now o c.args.s n → n ≤ k) (sym most) (subst (λ g. (n : ℕ) → HasCutFamily g o c.args.s n → n ≤ max c.widest_cut.result c.count_cut.result) c.self.view_is
    (widest_most c.self.inside.opened items o s at c.args.s c.widest_cut.result c.count_cut.result widest counts))
