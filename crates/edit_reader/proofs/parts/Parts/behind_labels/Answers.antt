use Rattle.std.proofs.Common.{◌∷◌, ◌++◌, [], refl, ◌∙◌}
use Rattle.std.proofs.lemmas.Result.{err_from_is_err_and}
use Rattle.edit_reader.proofs.LabelLists.{at_first, counted, one_read, list_read, nothing_read}
use Rattle.edit_reader.proofs.parts.Parts.behind_labels.Goals as goal

pub loop-init : goal.loop-init
loop-init c = (refl, λ tokens are. ([], at_first c.args.self.line.now c.args.self.at tokens are))

pub returns-in_err-rest-clause-taken : goal.returns-in_err-rest-clause-taken
returns-in_err-rest-clause-taken c = λ tokens are.
    let p = err_from_is_err_and c.from_residual.result c.from_residual.ensures.1 in
    let way = (c.loop.invariant.1 tokens are).1 in
    let e = c.in_err-rest.ensures.taken way.rest way.behind in
    rw (p.1, p.2) (e.0, nothing_read way e.1)

pub returns-in-None-clause-taken : goal.returns-in-None-clause-taken
returns-in-None-clause-taken c = λ tokens are.
    let way = (c.loop.invariant.1 tokens are).1 in
    let t = c.in_ok-rest.ensures.taken way.rest way.behind in
    list_read (counted c.loop.counter c.loop-test.true way) t (c.in-None.ensures.taken t.rest t.behind)

pub loop-preserved : goal.loop-preserved
loop-preserved c = (
  c.in-Some.ensures.line ∙ c.in_ok-rest.ensures.line ∙ c.loop.invariant.0,
  λ tokens are.
      let w = c.loop.invariant.1 tokens are in
      let t = c.in_ok-rest.ensures.taken w.1.rest w.1.behind in
      (w.0 ++ c.in_ok-rest.field-0-0.now ∷ [], one_read (counted c.loop.counter c.loop-test.true w.1) t (c.in-Some.ensures.taken t.rest t.behind)),
)
