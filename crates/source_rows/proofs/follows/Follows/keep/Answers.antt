use Rattle.std.proofs.Common.{◌≡◌, ◌+◌, ◌≤◌, List, length, inl, inr, sym, ◌∙◌, subst, true≢false}
use Rattle.std.proofs.lemmas.Bool.{cases_lt}
use Rattle.itpg_base.specs.declared.object_number.ObjNo.{ObjNo}
use Rattle.relation_rows.specs.Answered.{answered, row_number}
use Rattle.source_rows.specs.Follows.{Follow, entry, IsShort, kept_rows, kept_objects, most_rows, most_objects}
use Rattle.source_rows.proofs.FollowLists.{read_at, entry_set, set_entry}
use Rattle.source_rows.proofs.follows.Follows.keep.Goals as goal

pub invariant_of-self-2 : goal.invariant_of-self-2
invariant_of-self-2 c =
    let items = c.self.inside.items.items in
    let f = c.index_mut.result.now in
    let at = read_at items c.args.self.now c.args.i f c.self.view_is c.requires.there c.index_mut.ensures.value in
    let e = entry c.args.source.0 c.args.objects.items (answered c.args.rows) in
    let listed : c.deref.result.now ≡ c.args.objects.items = c.deref.ensures.value in
    let room : IsShort items c.args.objects.items (answered c.args.rows) → ⊥ = λ short. true≢false (sym (c.is_short.ensures.1 (subst (λ (v : List Follow). IsShort v c.deref.result.now (answered c.args.rows)) c.self.view_is (subst (λ (xs : List ObjNo). IsShort items xs (answered c.args.rows)) (sym listed) short))) ∙ c.if-is_short.false) in
    let rows : kept_rows items + row_number e.rows ≤ most_rows = elim (cases_lt most_rows (kept_rows items + row_number e.rows)) [ inl lt ↦ absurd (room (inl lt)) | inr le ↦ le ] in
    let objects : kept_objects items + length e.objects ≤ most_objects = elim (cases_lt most_objects (kept_objects items + length e.objects)) [ inl lt ↦ absurd (room (inr lt)) | inr le ↦ le ] in
    entry_set items c.args.i f c.add.new.self e at c.self.invariant c.in_ok-add.ensures.added rows objects

pub returns-clause-kept : goal.returns-clause-kept
returns-clause-kept c = λ none.
    let items = c.self.inside.items.items in
    let f = c.index_mut.result.now in
    let at = read_at items c.args.self.now c.args.i f c.self.view_is c.requires.there c.index_mut.ensures.value in
    set_entry items c.args.self.now c.args.i f c.add.new.self (entry c.args.source.0 c.args.objects.items (answered c.args.rows)) c.self.view_is at c.in_ok-add.ensures.added
