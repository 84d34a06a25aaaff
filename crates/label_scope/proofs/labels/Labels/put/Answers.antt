use Rattle.std.proofs.Common.{◌≡◌, sym, subst, rules}
use Rattle.itpg_base.specs.Words.{IsRising}
use Rattle.label_scope.specs.Labels.{with_label}
use Rattle.label_scope.proofs.Placing.{with_label-rising}
use Rattle.label_scope.proofs.labels.Labels.put.Goals as goal

pub invariant_of-self : goal.invariant_of-self
invariant_of-self c =
    let placed : c.insert.new.self.items ≡ with_label c.args.self.now c.args.label = search rules in
    let rising : IsRising c.args.self.now = search rules in
    subst IsRising (sym placed) (with_label-rising c.args.self.now c.args.label rising)
