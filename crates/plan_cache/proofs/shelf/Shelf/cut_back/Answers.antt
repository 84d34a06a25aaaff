use Rattle.std.proofs.Common.{map, option_map, take, sym, ap, subst, ◌∙◌}
use Rattle.plan_cache.specs.KeptRows.{AddsFree}
use Rattle.plan_cache.specs.Shelves.{Shelved}
use Rattle.plan_cache.proofs.Free.{map_take, shelf_cut}
use Rattle.plan_cache.proofs.shelf.Shelf.cut_back.Goals as goal

pub invariant_of-self : goal.invariant_of-self
invariant_of-self c =
    let free = subst (λ (s : Shelved). AddsFree (take c.args.len s.kept) s.kept) (sym c.self.view_is) c.requires in
    rw (c.truncate.ensures.items, c.truncate-2.ensures.items, map_take (option_map (λ r. r.value)) c.args.len c.self.inside.kept.items)
    (shelf_cut c.self.inside.feet.items (map (option_map (λ r. r.value)) c.self.inside.kept.items) c.self.inside.rows c.self.inside.count c.args.len c.self.invariant free)

pub returns-clause-kept : goal.returns-clause-kept
returns-clause-kept c =
    ap (map (option_map (λ r. r.value))) c.truncate-2.ensures.items ∙ map_take (option_map (λ r. r.value)) c.args.len c.self.inside.kept.items
    ∙ ap (λ (s : Shelved). take c.args.len s.kept) c.self.view_is
