use Rattle.std.proofs.Common.{◌≡◌, ◌++◌, [], ◌∷◌, List, length, sym, ◌∙◌, ap, subst, rules}
use Rattle.relation_rows.specs.Answered.{answered, row_number}
use Rattle.source_rows.specs.Follows.{Entry, entry, HasSource}
use Rattle.source_rows.specs.Entries.{entries_of}
use Rattle.source_rows.proofs.EntryLists.{put_entry, sum_put}
use Rattle.source_rows.proofs.entries.Entries.add.Goals as goal

pub invariant_of-self-2 : goal.invariant_of-self-2
invariant_of-self-2 c =
    let es = c.self.inside.kept.entries in
    let e = entry c.args.source.0 c.args.objects.items (answered c.args.rows) in
    let none = subst (λ (v : List Entry). HasSource v c.args.source.0 → ⊥) (sym c.self.view_is) c.requires.absent in
    let put = put_entry es c.insert.new.self.entries c.args.source.0 c.new.result c.args.objects.items (answered c.args.rows) none c.new.ensures c.in_ok-insert.ensures.entries in
    let listed : c.len-object_count.result ≡ length c.args.objects.items = search rules in (
      sum_put (λ x. row_number x.rows) (entries_of es) (entries_of c.insert.new.self.entries) e c.self.inside.rows c.rows-row_count.result put c.self.invariant.0 c.rows-row_count.ensures,
      sum_put (λ x. length x.objects) (entries_of es) (entries_of c.insert.new.self.entries) e c.self.inside.objects c.len-object_count.result put c.self.invariant.1 listed,
    )

pub returns-clause-added : goal.returns-clause-added
returns-clause-added c =
    let es = c.self.inside.kept.entries in
    let e = entry c.args.source.0 c.args.objects.items (answered c.args.rows) in
    let none = subst (λ (v : List Entry). HasSource v c.args.source.0 → ⊥) (sym c.self.view_is) c.requires.absent in
    put_entry es c.insert.new.self.entries c.args.source.0 c.new.result c.args.objects.items (answered c.args.rows) none c.new.ensures c.in_ok-insert.ensures.entries
    ∙ ap (λ (v : List Entry). v ++ e ∷ []) c.self.view_is
