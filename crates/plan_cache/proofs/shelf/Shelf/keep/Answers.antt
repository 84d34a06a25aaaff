use Rattle.std.proofs.Common.{rules, ◌<◌, ◌≡◌, ◌+◌, ◌≤◌, Some, None, length, map, option_map, slice_get, slice_set, sym, ap, subst, ◌∙◌, arith}
use Rattle.std.proofs.lemmas.List.{map-set}
use Rattle.plan_cache.specs.declared.shelf.TheConstants.{MAX_KEPT_ROWS}
use Rattle.plan_cache.specs.Shelves.{Shelved}
use Rattle.plan_cache.proofs.Forgetting.{shelf_keeps, fewer_relations, length_map}
use Rattle.plan_cache.proofs.shelf.Shelf.keep.Goals as goal

pub invariant_of-self : goal.invariant_of-self
invariant_of-self c =
    let empty = subst (λ (s : Shelved). slice_get s.kept c.args.place ≡ Some None) (sym c.self.view_is) c.requires in
    let count = c.row_count-rows.ensures.count in
    let same = ap length c.deref.ensures in
    let test = c.if-rows-self.false in
    let few = c.self.invariant.few in
    let room : c.self.inside.rows + length c.args.relation.value ≤ MAX_KEPT_ROWS = omega arith in
    let own = shelf_keeps c.self.inside.feet.items (map (option_map (λ r. r.value)) c.self.inside.kept.items) c.self.inside.rows c.self.inside.count c.args.place c.args.relation.value c.self.invariant empty room in
    rw (map-set (option_map (λ r. r.value)) c.self.inside.kept.items c.args.place (Some c.args.relation), count, c.deref.ensures) own

pub returns-clause-kept : goal.returns-clause-kept
returns-clause-kept c =
    map-set (option_map (λ r. r.value)) c.self.inside.kept.items c.args.place (Some c.args.relation) ∙ ap (λ (s : Shelved). slice_set s.kept c.args.place (Some c.args.relation.value)) c.self.view_is

pub overflow_add-self-2 : goal.overflow_add-self-2
overflow_add-self-2 c =
    let empty = subst (λ (s : Shelved). slice_get s.kept c.args.place ≡ Some None) (sym c.self.view_is) c.requires in
    let fewer = fewer_relations (map (option_map (λ r. r.value)) c.self.inside.kept.items) c.args.place empty in
    let mapped = length_map (option_map (λ r. r.value)) c.self.inside.kept.items in
    let many = c.self.invariant.many in
    let places = c.len-places.ensures in
    let low : c.self.inside.count < c.len-places.result = omega arith in
    search rules
