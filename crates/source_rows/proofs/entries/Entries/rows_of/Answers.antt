use Rattle.std.proofs.Common.{List, sym, ◌∙◌, subst, true≢false, rules}
use Rattle.source_rows.specs.Follows.{Entry, HasRows, HasSource}
use Rattle.relation_rows.specs.Answered.{answered}
use Rattle.source_rows.specs.Entries.{entries_of}
use Rattle.source_rows.proofs.EntryLists.{found_rows, none_found, rows_source}
use Rattle.source_rows.proofs.entries.Entries.rows_of.Goals as goal

pub returns-in_err-kept-clause-none : goal.returns-in_err-kept-clause-none
returns-in_err-kept-clause-none c =
    let es = c.self.inside.kept.entries in
    let none = subst (λ (v : List Entry). HasSource v c.args.source.0 → ⊥) c.self.view_is (none_found es c.args.source.0 (sym c.in_err-kept.ensures.value)) in
    ((λ e h. none h), (λ n. search rules))

pub returns-clause-some : goal.returns-clause-some
returns-clause-some c =
    let es = c.self.inside.kept.entries in
    let k = c.in_ok-kept.kept.now in
    let found = found_rows es c.args.source.0 k (sym c.in_ok-kept.ensures.value) in
    subst (λ (v : List Entry). HasRows v c.args.source.0 (answered c.rows.result.now)) c.self.view_is (found.0, found.1, found.2, found.3 ∙ sym c.rows.ensures.rows)

pub returns-clause-none : goal.returns-clause-none
returns-clause-none c =
    let es = c.self.inside.kept.entries in
    let k = c.in_ok-kept.kept.now in
    let found = found_rows es c.args.source.0 k (sym c.in_ok-kept.ensures.value) in
    let has = subst (λ (v : List Entry). HasSource v c.args.source.0) c.self.view_is (rows_source (entries_of es) c.args.source.0 k.rows found) in
    ((λ e. absurd (true≢false e)), (λ n. absurd (n has)))
