use Rattle.std.proofs.Common.{◌≡◌, ◌<◌, Some, length, refl, sym, ◌∙◌, ap, subst}
use Rattle.std.specs.Prelude.{IsSomeAnd, slice_get}
use Rattle.std.proofs.lemmas.Option.{slice_get_read}
use Rattle.plan_cache.specs.RightRows.{IsTableRight}
use Rattle.plan_cache.specs.Nodes.{Table}
use Rattle.itpg_pins.specs.Pins.{Pinned, AreSound, retabled}
use Rattle.itpg_pins.proofs.Keeping.{at_place, right_at, set_retabled, sound_retabled}
use Rattle.itpg_pins.proofs.pins.Pins.swap_plans.Goals as goal

pub invariant_of-self : goal.invariant_of-self
invariant_of-self c =
    let items = c.self.inside.items.items in
    let limit = c.self.inside.max_rows in
    let i = c.args.i in
    let p = c.index_mut.result.now in
    let lt = subst (λ (v : Pinned). i < length v.pins) (sym c.self.view_is) c.requires.there in
    let at : slice_get items i ≡ Some p = slice_get_read items (length items) i p refl lt c.index_mut.ensures.value in
    let right = subst (λ (v : Pinned). IsSomeAnd (slice_get v.pins i) (λ q. IsTableRight q.graph v.limit c.args.plans)) (sym c.self.view_is) c.requires.right in
    subst (AreSound limit) (sym (set_retabled items i p c.swap_plans.new.self c.args.plans at c.swap_plans.ensures.new)) (sound_retabled limit i c.args.plans items c.self.invariant right)

pub returns-clause-old : goal.returns-clause-old
returns-clause-old c =
    let items = c.self.inside.items.items in
    let limit = c.self.inside.max_rows in
    let i = c.args.i in
    let p = c.index_mut.result.now in
    let lt = subst (λ (v : Pinned). i < length v.pins) (sym c.self.view_is) c.requires.there in
    let at : slice_get items i ≡ Some p = slice_get_read items (length items) i p refl lt c.index_mut.ensures.value in
    let right = right_at limit i items p c.self.invariant at in
    subst (λ (v : Pinned). IsSomeAnd (slice_get v.pins i) (λ q. (c.swap_plans.result ≡ q.table) × IsTableRight q.graph v.limit c.swap_plans.result)) c.self.view_is
    (at_place items i p (λ q. (c.swap_plans.result ≡ q.table) × IsTableRight q.graph limit c.swap_plans.result) at (c.swap_plans.ensures.old, subst (λ (t : Table). IsTableRight p.graph limit t) (sym c.swap_plans.ensures.old) right))

pub returns-clause-new : goal.returns-clause-new
returns-clause-new c =
    let items = c.self.inside.items.items in
    let i = c.args.i in
    let p = c.index_mut.result.now in
    let lt = subst (λ (v : Pinned). i < length v.pins) (sym c.self.view_is) c.requires.there in
    let at : slice_get items i ≡ Some p = slice_get_read items (length items) i p refl lt c.index_mut.ensures.value in
    set_retabled items i p c.swap_plans.new.self c.args.plans at c.swap_plans.ensures.new ∙ ap (λ (v : Pinned). retabled i c.args.plans v.pins) c.self.view_is
