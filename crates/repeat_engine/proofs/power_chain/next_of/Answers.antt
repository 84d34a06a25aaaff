use Rattle.repeat_engine.proofs.power_chain.next_of.Goals as goal

pub returns-then-same-clause-back : goal.returns-then-same-clause-back
returns-then-same-clause-back g c =
    let m = g.C.Composed in
    let laws = g.met.C.Composed.lawful c.args.c.now in
    let next = m.means c.in-Ok.next in
    let power = m.means c.args.power.now in
    let x = m.means c.args.x.now in
    let same = c.same.ensures.0 c.if-same.true in
    laws.joined ((m.algebra c.args.c.now).compose next x) ((m.algebra c.args.c.now).compose power x) power
    (laws.composed_alike next x power x same (laws.same x))
    (laws.joined ((m.algebra c.args.c.now).compose power x) next power (laws.turned next ((m.algebra c.args.c.now).compose power x) c.in-Ok.ensures.value) same)

pub returns-then-same-2-clause-back : goal.returns-then-same-2-clause-back
returns-then-same-2-clause-back g c =
    let m = g.C.Composed in
    let laws = g.met.C.Composed.lawful c.args.c.now in
    let second = m.means c.in-Ok-compose.second in
    let then = (m.algebra c.args.c.now).compose (m.means c.in-Ok.next) (m.means c.args.x.now) in
    laws.joined then second (m.means c.args.power.now) (laws.turned second then c.in-Ok-compose.ensures.value) (c.same-2.ensures.0 c.if-same-2.true)
