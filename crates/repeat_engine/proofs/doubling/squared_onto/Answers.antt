use Rattle.std.proofs.Common.{◌+◌, Option, IfSome, subst}
use Rattle.repeat_engine.proofs.Steps.{on_below, double_makes, is_united, united_fits, united_must_fit}
use Rattle.repeat_engine.proofs.doubling.squared_onto.Goals as goal

pub returns-in-Ok-Some-clause-grows : goal.returns-in-Ok-Some-clause-grows
returns-in-Ok-Some-clause-grows g c x own k on =
    let m = g.C.Composed in
    let laws = g.met.C.Composed.lawful c.args.c.now in
    let below = (on_below laws m.means x own k c.args.half.now on).1 in
    let made = (m.algebra c.args.c.now).compose (m.means c.newest_of.result.now) (m.means c.args.half.now.all) in
    let makes = double_makes laws m.means x own k c.args.half.now on c.newest_of.result.now made c.newest_of.ensures c.requires.sound (laws.same made) in
    let all = (m.algebra c.args.c.now).unite (m.means c.args.half.now.all) made in
    let value = subst (λ (o : Option _). IfSome o (λ v. m.alike c.args.c.now (m.means v) all)) c.in-Ok-Some.field-0-is c.in-Ok-Some.ensures.value in
    c.grown_to.ensures.grows x own k on (k + k) below
    (is_united laws m.means x own k c.args.half.now on (k + k) made makes (m.means c.in-Ok-Some.all) value)
    (c.short_squared-newest.ensures.new x own k on)

pub returns-in-Ok-Some-clause-exact : goal.returns-in-Ok-Some-clause-exact
returns-in-Ok-Some-clause-exact g c x own k on =
    let m = g.C.Composed in
    let laws = g.met.C.Composed.lawful c.args.c.now in
    let made = (m.algebra c.args.c.now).compose (m.means c.newest_of.result.now) (m.means c.args.half.now.all) in
    let makes = double_makes laws m.means x own k c.args.half.now on c.newest_of.result.now made c.newest_of.ensures c.requires.sound (laws.same made) in
    let all = (m.algebra c.args.c.now).unite (m.means c.args.half.now.all) made in
    let fits = subst (λ (o : Option _). IfSome o (λ v. m.fits c.args.c.now all)) c.in-Ok-Some.field-0-is c.in-Ok-Some.ensures.exact in
    united_fits laws m.means x own k c.args.half.now on (k + k) made makes fits

pub returns-in-Err-clause-exact : goal.returns-in-Err-clause-exact
returns-in-Err-clause-exact g c x own k on other fit =
    let m = g.C.Composed in
    let laws = g.met.C.Composed.lawful c.args.c.now in
    let made = (m.algebra c.args.c.now).compose (m.means c.newest_of.result.now) (m.means c.args.half.now.all) in
    let makes = double_makes laws m.means x own k c.args.half.now on c.newest_of.result.now made c.newest_of.ensures c.requires.sound (laws.same made) in
    c.in-Err.ensures.exact other (united_must_fit laws m.means x own k c.args.half.now on (k + k) made makes fit)
