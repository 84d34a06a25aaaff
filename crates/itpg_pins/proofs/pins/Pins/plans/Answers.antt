use Rattle.std.proofs.Common.{◌≡◌, ◌<◌, Some, length, refl, sym, subst}
use Rattle.std.specs.Prelude.{IsSomeAnd, slice_get}
use Rattle.std.proofs.lemmas.Option.{slice_get_read}
use Rattle.plan_cache.specs.RightRows.{IsTableRight}
use Rattle.itpg_pins.specs.Pins.{Pinned}
use Rattle.itpg_pins.proofs.Keeping.{at_place, right_at}
use Rattle.itpg_pins.proofs.pins.Pins.plans.Goals as goal

pub returns-clause-right : goal.returns-clause-right
returns-clause-right c =
    let items = c.self.inside.items.items in
    let limit = c.self.inside.max_rows in
    let i = c.args.i in
    let p = c.index.result.now in
    let lt = subst (λ (v : Pinned). i < length v.pins) (sym c.self.view_is) c.requires in
    let at : slice_get items i ≡ Some p = slice_get_read items (length items) i p refl lt c.index.ensures in
    subst (λ (v : Pinned). IsSomeAnd (slice_get v.pins i) (λ q. IsTableRight q.graph v.limit q.table)) c.self.view_is
    (at_place items i p (λ q. IsTableRight q.graph limit q.table) at (right_at limit i items p c.self.invariant at))
