use Rattle.std.proofs.Common.{◌+◌, subst, IfSome, Option}
use Rattle.repeat_engine.proofs.Steps.{alone_is, square_is_new, rest_is_new}
use Rattle.repeat_engine.proofs.doubling.newest_twice.Goals as goal

pub returns-then-size-clause-new : goal.returns-then-size-clause-new
returns-then-size-clause-new g c x own k on =
    let m = g.C.Composed in
    let laws = g.met.C.Composed.lawful c.args.c.now in
    let own_d = subst (λ (o : Option _). IfSome o (λ v. m.own c.args.c.now (m.means v))) c.requires.newest c.requires.sound.own_newest in
    alone_is laws m.means x own (k + k) c.alone.result c.in-Ok.square c.alone.ensures.newest c.alone.ensures.former
    (square_is_new laws m.means x own k c.args.half.now on c.args.newest.now (m.means c.in-Ok.square) c.requires.newest own_d c.in-Ok.ensures.value)

pub returns-in_default-beyond-clause-new : goal.returns-in_default-beyond-clause-new
returns-in_default-beyond-clause-new g c x own k on =
    let m = g.C.Composed in
    let laws = g.met.C.Composed.lawful c.args.c.now in
    let own_d = subst (λ (o : Option _). IfSome o (λ v. m.own c.args.c.now (m.means v))) c.requires.newest c.requires.sound.own_newest in
    alone_is laws m.means x own (k + k) c.alone-in_default-beyond.result c.in-Ok.square c.alone-in_default-beyond.ensures.newest c.alone-in_default-beyond.ensures.former
    (square_is_new laws m.means x own k c.args.half.now on c.args.newest.now (m.means c.in-Ok.square) c.requires.newest own_d c.in-Ok.ensures.value)

pub returns-then-size-2-clause-new : goal.returns-then-size-2-clause-new
returns-then-size-2-clause-new g c x own k on =
    let m = g.C.Composed in
    let laws = g.met.C.Composed.lawful c.args.c.now in
    let own_d = subst (λ (o : Option _). IfSome o (λ v. m.own c.args.c.now (m.means v))) c.requires.newest c.requires.sound.own_newest in
    alone_is laws m.means x own (k + k) c.alone-then-size-2.result c.in-Ok.square c.alone-then-size-2.ensures.newest c.alone-then-size-2.ensures.former
    (square_is_new laws m.means x own k c.args.half.now on c.args.newest.now (m.means c.in-Ok.square) c.requires.newest own_d c.in-Ok.ensures.value)

pub returns-then-has_grown-clause-new : goal.returns-then-has_grown-clause-new
returns-then-has_grown-clause-new g c x own k on =
    let m = g.C.Composed in
    let laws = g.met.C.Composed.lawful c.args.c.now in
    let own_d = subst (λ (o : Option _). IfSome o (λ v. m.own c.args.c.now (m.means v))) c.requires.newest c.requires.sound.own_newest in
    c.without_former.ensures.new x own k on
    (rest_is_new laws m.means x own k c.args.half.now on c.args.newest.now (m.means c.in-Ok.square) (m.means c.in-Ok-beyond.rest) c.requires.newest own_d c.in-Ok.ensures.own
    c.in-Ok-beyond.ensures.own c.in-Ok.ensures.value c.in-Ok-beyond.ensures.value)

pub returns-clause-new : goal.returns-clause-new
returns-clause-new g c x own k on =
    let m = g.C.Composed in
    let laws = g.met.C.Composed.lawful c.args.c.now in
    let own_d = subst (λ (o : Option _). IfSome o (λ v. m.own c.args.c.now (m.means v))) c.requires.newest c.requires.sound.own_newest in
    alone_is laws m.means x own (k + k) c.alone-else-has_grown.result c.in-Ok-beyond.rest c.alone-else-has_grown.ensures.newest c.alone-else-has_grown.ensures.former
    (rest_is_new laws m.means x own k c.args.half.now on c.args.newest.now (m.means c.in-Ok.square) (m.means c.in-Ok-beyond.rest) c.requires.newest own_d c.in-Ok.ensures.own
    c.in-Ok-beyond.ensures.own c.in-Ok.ensures.value c.in-Ok-beyond.ensures.value)
