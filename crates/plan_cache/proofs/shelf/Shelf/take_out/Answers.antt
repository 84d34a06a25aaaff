use Rattle.std.proofs.Common.{◌<◌, None, length, map, option_map, slice_get, slice_set, refl, sym, ap, subst, ◌∙◌, arith}
use Rattle.std.proofs.lemmas.List.{map-set}
use Rattle.std.proofs.lemmas.Option.{slice_get_read, slice_get-map}
use Rattle.plan_cache.specs.KeptRows.{rows_in}
use Rattle.plan_cache.specs.Shelves.{Shelved, relations_in}
use Rattle.plan_cache.proofs.Forgetting.{shelf_drops, counted_there, relations_there, length_map}
use Rattle.plan_cache.proofs.shelf.Shelf.take_out.Goals as goal

pub overflow_sub-self : goal.overflow_sub-self
overflow_sub-self c =
    let items = c.self.inside.kept.items in
    let within = subst (λ (s : Shelved). c.args.place < length s.kept) (sym c.self.view_is) c.requires in
    let mapped = length_map (option_map (λ r. r.value)) c.self.inside.kept.items in
    let at = slice_get_read items (length items) c.args.place c.index_mut.result.now refl (omega arith) c.index_mut.ensures.value in
    let there = slice_get-map (option_map (λ r. r.value)) c.self.inside.kept.items c.args.place ∙ ap (option_map (option_map (λ r. r.value))) at in
    let most = counted_there (map (option_map (λ r. r.value)) c.self.inside.kept.items) c.args.place (option_map (λ r. r.value) c.index_mut.result.now) there in
    let own = c.rows_of.ensures in
    let same = ap (λ o. rows_in (option_map (λ r. r.value) o)) c.take-taken.ensures.value in
    let count = c.self.invariant.counted in
    omega arith

pub overflow_sub-self-2 : goal.overflow_sub-self-2
overflow_sub-self-2 c =
    let items = c.self.inside.kept.items in
    let within = subst (λ (s : Shelved). c.args.place < length s.kept) (sym c.self.view_is) c.requires in
    let mapped = length_map (option_map (λ r. r.value)) c.self.inside.kept.items in
    let at = slice_get_read items (length items) c.args.place c.index_mut.result.now refl (omega arith) c.index_mut.ensures.value in
    let there = slice_get-map (option_map (λ r. r.value)) c.self.inside.kept.items c.args.place ∙ ap (option_map (option_map (λ r. r.value))) at in
    let most = relations_there (map (option_map (λ r. r.value)) c.self.inside.kept.items) c.args.place (option_map (λ r. r.value) c.index_mut.result.now) there in
    let own = c.count_of.ensures in
    let same = ap (λ o. relations_in (option_map (λ r. r.value) o)) c.take-taken.ensures.value in
    let count = c.self.invariant.many in
    omega arith

pub invariant_of-self : goal.invariant_of-self
invariant_of-self c =
    let items = c.self.inside.kept.items in
    let within = subst (λ (s : Shelved). c.args.place < length s.kept) (sym c.self.view_is) c.requires in
    let mapped = length_map (option_map (λ r. r.value)) c.self.inside.kept.items in
    let at = slice_get_read items (length items) c.args.place c.index_mut.result.now refl (omega arith) c.index_mut.ensures.value in
    let there = slice_get-map (option_map (λ r. r.value)) c.self.inside.kept.items c.args.place ∙ ap (option_map (option_map (λ r. r.value))) at in
    rw (c.take-taken.ensures.after, map-set (option_map (λ r. r.value)) c.self.inside.kept.items c.args.place None, c.rows_of.ensures, c.count_of.ensures, c.take-taken.ensures.value)
    (shelf_drops c.self.inside.feet.items (map (option_map (λ r. r.value)) c.self.inside.kept.items) c.self.inside.rows c.self.inside.count c.args.place (option_map (λ r. r.value) c.index_mut.result.now) c.self.invariant there)

pub returns-clause-kept : goal.returns-clause-kept
returns-clause-kept c = rw c.take-taken.ensures.after (map-set (option_map (λ r. r.value)) c.self.inside.kept.items c.args.place None ∙ ap (λ (s : Shelved). slice_set s.kept c.args.place None) c.self.view_is)

pub returns-clause-taken : goal.returns-clause-taken
returns-clause-taken c =
    let items = c.self.inside.kept.items in
    let within = subst (λ (s : Shelved). c.args.place < length s.kept) (sym c.self.view_is) c.requires in
    let mapped = length_map (option_map (λ r. r.value)) c.self.inside.kept.items in
    let at = slice_get_read items (length items) c.args.place c.index_mut.result.now refl (omega arith) c.index_mut.ensures.value in
    let there = slice_get-map (option_map (λ r. r.value)) c.self.inside.kept.items c.args.place ∙ ap (option_map (option_map (λ r. r.value))) at in
    rw c.take-taken.ensures.value (sym there ∙ ap (λ (s : Shelved). slice_get s.kept c.args.place) c.self.view_is)
