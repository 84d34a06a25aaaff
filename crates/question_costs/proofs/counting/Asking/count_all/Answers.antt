use Rattle.std.proofs.Common.{[], ◌∷◌, ◌∙◌, arith}
use Rattle.std.proofs.lemmas.List.{length-append}
use Rattle.question_costs.proofs.Appended.{children_then, told_then}
use Rattle.question_costs.proofs.counting.Asking.count_all.Goals as goal

pub loop-number-preserved : goal.loop-number-preserved
loop-number-preserved g c =
    let self = c.args.self.now in
    let inv = c.loop-number.invariant in
    let next = c.count_next.ensures in
    let told = c.in_ok-member.ensures in
    let old = c.loop-number.plans in
    let new = c.count_next.new.plans in
    let members = c.loop-number.members.items in
    let m = c.in_ok-member.member in
    let k = c.loop-number.number in
    rw c.in_ok-push.ensures.items
    record {
      nodes = next.nodes ∙ inv.nodes;
      right = next.right;
      many = let l = length-append members (m ∷ []) in let n = inv.many in omega arith;
      children = children_then self.graph.now self.max_rows old new next.nodes members m k inv.many inv.children told.children;
      told = told_then self.graph.now self.max_rows old new next.nodes members m k inv.many inv.told told.told;
    }
