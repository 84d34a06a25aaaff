use Rattle.std.proofs.Common.{◌↔◌, IfSome, List, Option, Vec, subst}
use Rattle.std.specs.Global.{Global}
use Rattle.itpg_base.specs.Lists.{Among}
use Rattle.relation_rows.specs.declared.rows.Row.{Row}
use Rattle.relation_rows.specs.Answers.{Gives}
use Rattle.relation_rows.specs.Relations.{ItemsHold, HasMiddlePoint}
use Rattle.relation_rows.proofs.Giving.{gives_alike}
use Rattle.relation_rows.proofs.Counting.{all_ways, ways_all}
use Rattle.relation_rows.proofs.stretches.by_zones.Goals as goal

pub returns-then-rows-le-BATCH : goal.returns-then-rows-le-BATCH
returns-then-rows-le-BATCH c =
    gives_alike (ItemsHold c.in_ok-ways.ways.items) (HasMiddlePoint c.args.rows.now c.args.second.now)
    (all_ways c.args.second.now c.args.rows.now c.in_ok-space.space.items c.in_ok-ways.ways.items c.in_ok-space.ensures.items c.in_ok-ways.ensures)
    (ways_all c.args.second.now c.args.rows.now c.in_ok-space.space.items c.in_ok-ways.ways.items c.in_ok-space.ensures.items c.in_ok-ways.ensures)
    c.args.room c.gathered_of.result c.gathered_of.ensures.gives

pub returns : goal.returns
returns c =
    let of_sorted = subst (λ (v : List Row). Gives c.by_stretches-2.result (HasMiddlePoint v c.args.second.now) c.args.room) c.deref.ensures.value c.by_stretches-2.ensures in
    let same = subst (λ (o : Option (Vec Row Global)). IfSome o (λ sorted. (r : Row) → Among sorted.items r ↔ Among c.args.rows.now r)) c.in-Some.is c.in_ok-sorted.ensures.same in
    gives_alike (HasMiddlePoint c.in-Some.sorted.items c.args.second.now) (HasMiddlePoint c.args.rows.now c.args.second.now)
    (λ x y h. let w = h.1 in (h.0, (w.0, (same w.0).0 w.1, w.2), h.2))
    (λ x y h. let w = h.1 in (h.0, (w.0, (same w.0).1 w.1, w.2), h.2))
    c.args.room c.by_stretches-2.result of_sorted
