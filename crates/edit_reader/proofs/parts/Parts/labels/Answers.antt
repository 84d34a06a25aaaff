use Rattle.std.proofs.Common.{◌≡◌, ◌∙◌, ◌+◌, ◌<◌, ◌≤◌, List, Some, Ok, length, take, sym, ap, subst}
use Rattle.std.specs.Prelude.{slice_set}
use Rattle.std.specs.Option.{ok_or}
use Rattle.itpg_base.specs.Words.{Word}
use Rattle.itpg_base.specs.declared.text_code.TextCode.{TextCode}
use Rattle.edit_reader.specs.Forms.{lexemes}
use Rattle.edit_reader.specs.Labels.{set_of}
use Rattle.edit_reader.proofs.LabelSets.{made_set}
use Rattle.std.proofs.lemmas.Result.{err_from_is_err_and}
use Rattle.std.proofs.lemmas.List.{length-set}
use Rattle.edit_reader.proofs.LabelLists.{counted, few_listed, none_some, name_read, last_name, long_read, nothing_read}
use Rattle.edit_reader.proofs.parts.Parts.labels.Goals as goal

pub returns-in_err-word : goal.returns-in_err-word
returns-in_err-word c = λ tokens are l is.
    let way = (c.loop-place.invariant.1 tokens are).way in
    let e = c.in_err-word.ensures.taken way.rest way.behind in
    absurd (none_some (nothing_read way e.1) is)

pub returns-in_err-names : goal.returns-in_err-names
returns-in_err-names c = λ tokens are l is.
    let p = err_from_is_err_and c.from_residual-in_err-names.result c.from_residual-in_err-names.ensures.1 in
    let way = (c.loop-place.invariant.1 tokens are).way in
    let t = c.in_ok-word.ensures.taken way.rest way.behind in
    let long = c.in_err-names.ensures.long in
    rw (p.1, p.2) (long.0, long_read (counted c.loop-place.place c.loop-place-test.true way) t l is long.1)

pub returns-in-None : goal.returns-in-None
returns-in-None c = λ tokens are l is.
    let names = c.loop-place.invariant.1 tokens are in
    let t = c.in_ok-word.ensures.taken names.way.rest names.way.behind in
    let last = last_name c.loop-place-test.true c.loop-place.invariant.0 names t c.in_ok-names.ensures.name (c.in-None.ensures.taken t.rest t.behind) l is in
    let words : List Word = take (c.loop-place.place + 1) (slice_set c.loop-place.names c.loop-place.place c.in_ok-names.field-0) in
    let few = few_listed 8 (lexemes tokens) l is in
    let made : c.new.result ≡ Some (set_of words) = made_set words (subst (λ ws. 0 < length ws) last.0 few.some) (subst (λ ws. length ws ≤ 8) last.0 few.few) c.new.result c.new.ensures.some c.new.ensures.set c.new.ensures.none in
    let value : c.ok_or.result ≡ Ok (set_of words) = c.ok_or.ensures.value ∙ ap (λ o. ok_or o TextCode.Text) made in
    rw value (last.1, ap set_of (sym last.0))

pub loop-place-preserved : goal.loop-place-preserved
loop-place-preserved c = (
  length-set c.loop-place.names c.loop-place.place _ ∙ c.loop-place.invariant.0,
  λ tokens are.
      let names = c.loop-place.invariant.1 tokens are in
      let t = c.in_ok-word.ensures.taken names.way.rest names.way.behind in
      name_read c.loop-place-test.true c.loop-place.invariant.0 names t c.in_ok-names.ensures.name (c.in-Some.ensures.taken t.rest t.behind),
)
