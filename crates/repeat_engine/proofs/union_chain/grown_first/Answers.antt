use Rattle.std.proofs.lemmas.Result.{err_from_is_err_and}
use Rattle.repeat_engine.proofs.Steps.{kept, no_truth, first_is, first_must_fit, first_new}
use Rattle.repeat_engine.proofs.union_chain.grown_first.Goals as goal

pub returns-in_err-all-clause-exact : goal.returns-in_err-all-clause-exact
returns-in_err-all-clause-exact g c =
    let m = g.C.Composed in
    let laws = g.met.C.Composed.lawful c.args.c.now in
    let x = m.means c.args.x.now in
    let p = err_from_is_err_and c.from_residual.result c.from_residual.ensures.1 in
    rw (p.1, p.2)
    (λ other fit. c.in_err-all.ensures.exact other (first_must_fit laws m.means x c.requires.own_x (m.means c.args.first.now) c.requires.own_first c.requires.first fit))

pub returns-clause-sound : goal.returns-clause-sound
returns-clause-sound g c = record {
  own_all = c.in_ok-all.ensures.own;
  fits_all = c.in_ok-all.ensures.fits;
  own_newest = kept _ _ (λ v h. h) c.union-2.result c.ok-newest.result c.ok-newest.ensures.value c.union-2.ensures.own;
  fits_newest = kept _ _ (λ v h. h) c.union-2.result c.ok-newest.result c.ok-newest.ensures.value c.union-2.ensures.fits;
  own_former = tt;
  fits_former = tt;
}

pub returns-clause-grows : goal.returns-clause-grows
returns-clause-grows g c =
    let m = g.C.Composed in
    let laws = g.met.C.Composed.lawful c.args.c.now in
    let x = m.means c.args.x.now in
    let all = m.means c.in_ok-all.all in
    record {
      is = laws.joined _ _ _ c.in_ok-all.ensures.value (first_is laws m.means x c.requires.own_x (m.means c.args.first.now) c.requires.own_first c.requires.first);
      newest = λ e. kept _ _ (λ v h. first_new laws m.means x c.requires.own_x (m.means v) h)
          c.union-2.result c.ok-newest.result c.ok-newest.ensures.value c.union-2.ensures.value;
      former = λ e. tt;
      stays = λ t. no_truth t;
    }
