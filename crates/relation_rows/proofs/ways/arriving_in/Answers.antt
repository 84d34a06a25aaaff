use Rattle.std.proofs.Common.{sym, subst}
use Rattle.zone_core.specs.declared.Bounds.{Bounds}
use Rattle.zone_core.specs.Zone.{Meets}
use Rattle.zone_core.proofs.Numbers.{extremes}
use Rattle.relation_rows.proofs.ways.arriving_in.Goals as goal

pub tight-requires : goal.tight-requires
tight-requires c =
    let near = c.bounds-bounds.ensures.near in
    let from = c.requires.from in
    let to = c.requires.to in
    record {
      a = near.a;
      b = near.b;
      c = let n = near.c in record { above = omega extremes; below = omega extremes };
      d = let n = near.d in record { above = omega extremes; below = omega extremes };
      e = near.e;
      f = near.f;
    }

pub returns : goal.returns
returns c = λ t u.
    let same = c.bounds-bounds.ensures.same in
    let near = c.bounds-bounds.ensures.near in
    let near_low = near.c in
    let near_high = near.d in
    let from = c.requires.from in
    let to = c.requires.to in (
      λ h.
          let m = (c.tight.ensures.pairs t u).0 h in
          let low = m.low in
          let high = m.high in (
            subst (λ (v : Bounds). Meets v t u) same (record { from = m.from; to = m.to; low = omega extremes; high = omega extremes; least = m.least; most = m.most }),
            record { above = omega extremes; below = omega extremes },
          ),
      λ p.
          let m = subst (λ (v : Bounds). Meets v t u) (sym same) p.0 in
          let low = m.low in
          let high = m.high in
          let begins = (p.1).above in
          let ends = (p.1).below in
          (c.tight.ensures.pairs t u).1 (record { from = m.from; to = m.to; low = omega extremes; high = omega extremes; least = m.least; most = m.most }),
    )
