use Rattle.std.proofs.Common.{◌≤◌, List, length, sym, ◌∙◌, ap, subst, arith, rules}
use Rattle.std.specs.Prelude.{◌↔◌}
use Rattle.itpg_base.specs.Lists.{Among}
use Rattle.relation_rows.specs.Answered.{row_number}
use Rattle.source_rows.specs.Follows.{Entry, entry_rows, entry_objects, most_rows, most_objects}
use Rattle.source_rows.specs.Entries.{entries_of}
use Rattle.source_rows.specs.Touched.{Meets}
use Rattle.source_rows.proofs.EntryLists.{retained}
use Rattle.source_rows.proofs.entries.Entries.touched.Goals as goal

pub rows_in-self-inside-requires : goal.rows_in-self-inside-requires
rows_in-self-inside-requires c =
    let r = retained _ c.args.touched.now _ (λ k v b w g call. search rules) c.self.inside.kept.entries c.retain.new.self.entries c.retain.ensures.filtered in
    let less = r.less (λ e. row_number e.rows) in
    let few : entry_rows (entries_of c.self.inside.kept.entries) ≤ most_rows = subst (λ (v : List Entry). entry_rows v ≤ most_rows) (sym c.self.view_is) c.requires.few_rows in
    omega (arith, less, few)

pub objects_in-self-inside-requires : goal.objects_in-self-inside-requires
objects_in-self-inside-requires c =
    let r = retained _ c.args.touched.now _ (λ k v b w g call. search rules) c.self.inside.kept.entries c.retain.new.self.entries c.retain.ensures.filtered in
    let less = r.less (λ e. length e.objects) in
    let few : entry_objects (entries_of c.self.inside.kept.entries) ≤ most_objects = subst (λ (v : List Entry). entry_objects v ≤ most_objects) (sym c.self.view_is) c.requires.few_objects in
    omega (arith, less, few)

pub invariant_of-self-else-len-before : goal.invariant_of-self-else-len-before
invariant_of-self-else-len-before c =
    let r = retained _ c.args.touched.now _ (λ k v b w g call. search rules) c.self.inside.kept.entries c.retain.new.self.entries c.retain.ensures.filtered in
    let le : length c.self.inside.kept.entries ≤ length c.retain.new.self.entries = (let a = c.len.ensures.len in let b = c.len-before.ensures.len in let t = c.if-len-before.false in omega arith) in
    let same = ap entries_of (r.all le) in
    (c.self.invariant.0 ∙ sym (ap entry_rows same), c.self.invariant.1 ∙ sym (ap entry_objects same))

pub returns-then-len-before-clause-stay : goal.returns-then-len-before-clause-stay
returns-then-len-before-clause-stay c =
    let r = retained _ c.args.touched.now _ (λ k v b w g call. search rules) c.self.inside.kept.entries c.retain.new.self.entries c.retain.ensures.filtered in
    subst (λ (v : List Entry). (e : Entry) → Among (entries_of c.retain.new.self.entries) e ↔ (Among v e × (Meets c.args.touched.now e.objects → ⊥))) c.self.view_is r.stay

pub returns-then-len-before-clause-rows : goal.returns-then-len-before-clause-rows
returns-then-len-before-clause-rows c =
    let r = retained _ c.args.touched.now _ (λ k v b w g call. search rules) c.self.inside.kept.entries c.retain.new.self.entries c.retain.ensures.filtered in
    subst (λ (v : List Entry). entry_rows (entries_of c.retain.new.self.entries) ≤ entry_rows v) c.self.view_is (r.less (λ e. row_number e.rows))

pub returns-then-len-before-clause-objects : goal.returns-then-len-before-clause-objects
returns-then-len-before-clause-objects c =
    let r = retained _ c.args.touched.now _ (λ k v b w g call. search rules) c.self.inside.kept.entries c.retain.new.self.entries c.retain.ensures.filtered in
    subst (λ (v : List Entry). entry_objects (entries_of c.retain.new.self.entries) ≤ entry_objects v) c.self.view_is (r.less (λ e. length e.objects))

pub returns-else-len-before-clause-stay : goal.returns-else-len-before-clause-stay
returns-else-len-before-clause-stay c =
    let r = retained _ c.args.touched.now _ (λ k v b w g call. search rules) c.self.inside.kept.entries c.retain.new.self.entries c.retain.ensures.filtered in
    subst (λ (v : List Entry). (e : Entry) → Among (entries_of c.retain.new.self.entries) e ↔ (Among v e × (Meets c.args.touched.now e.objects → ⊥))) c.self.view_is r.stay

pub returns-else-len-before-clause-rows : goal.returns-else-len-before-clause-rows
returns-else-len-before-clause-rows c =
    let r = retained _ c.args.touched.now _ (λ k v b w g call. search rules) c.self.inside.kept.entries c.retain.new.self.entries c.retain.ensures.filtered in
    subst (λ (v : List Entry). entry_rows (entries_of c.retain.new.self.entries) ≤ entry_rows v) c.self.view_is (r.less (λ e. row_number e.rows))

pub returns-else-len-before-clause-objects : goal.returns-else-len-before-clause-objects
returns-else-len-before-clause-objects c =
    let r = retained _ c.args.touched.now _ (λ k v b w g call. search rules) c.self.inside.kept.entries c.retain.new.self.entries c.retain.ensures.filtered in
    subst (λ (v : List Entry). entry_objects (entries_of c.retain.new.self.entries) ≤ entry_objects v) c.self.view_is (r.less (λ e. length e.objects))
