use Rattle.std.proofs.Common.{◌≡◌, List, subst, rules, tests}
use Rattle.std.specs.Prelude.{int_le, filter}
use Rattle.std.proofs.lemmas.Fn.{filter_same}
use Rattle.band_normal.specs.declared.band.Band.{Band}
use Rattle.band_normal.proofs.active.advance.Goals as goal

pub returns : goal.returns
returns c =
    subst (λ (v : List Band). c.retain.new.self.items ≡ filter (λ b. int_le c.args.left.from b.to) v) c.in_ok-push_all.ensures
    (filter_same _ (λ (b : Band). int_le c.args.left.from b.to) _ (λ x b q k. search (rules, tests)) _ _ c.retain.ensures.filtered)
