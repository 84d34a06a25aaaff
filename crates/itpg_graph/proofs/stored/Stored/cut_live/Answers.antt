use Rattle.std.proofs.Common.{rules, ◌≡◌, true}
use Rattle.itpg_graph.proofs.stored.Stored.cut_live.Goals as goal

pub returns-clause-ok : goal.returns-clause-ok
returns-clause-ok c =
    let stands : c.self.inside.standing ≡ true = search rules in
    record { live = c.cut_span.new.self; properties = c.in_ok-properties.properties; runs = search rules; values = search rules; is = search rules }
