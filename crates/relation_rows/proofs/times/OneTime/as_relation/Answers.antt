use Rattle.std.proofs.Common.{◌≡◌, ◌<◌, ◌≤◌, ap, List, length, map, sym, ◌∙◌, subst, arith}
use Rattle.relation_rows.specs.declared.rows.Row.{Row}
use Rattle.relation_rows.specs.declared.times.OneRow.{OneRow}
use Rattle.relation_rows.specs.Rows.{NormalRows, IsRelation}
use Rattle.relation_rows.specs.Times.{IsOneTime}
use Rattle.relation_rows.specs.Resting.{StaysWithin, resting}
use Rattle.relation_rows.proofs.Alike.{relation_of}
use Rattle.relation_rows.proofs.DirectWays.{lone_formed}
use Rattle.relation_rows.proofs.RestingRows.{rest_normal, rest_formed, rest_few, rest_wide}
use Rattle.relation_rows.proofs.times.OneTime.as_relation.Goals as goal

pub returns-then-times-max_rows : goal.returns-then-times-max_rows
returns-then-times-max_rows c =
    let many : c.args.max_rows < length c.args.self.now = subst (λ (v : List OneRow). c.args.max_rows < length v) (c.rows-times.ensures ∙ c.self.view_is) (omega arith) in
    rest_wide c.args.self.now (subst IsOneTime c.self.view_is c.self.invariant) c.requires c.args.max_rows many

pub invariant_of-result : goal.invariant_of-result
invariant_of-result c =
    let is = subst IsOneTime c.self.view_is c.self.invariant in
    let all : c.in_ok-rows.rows.items ≡ map resting c.args.self.now = c.in_ok-rows.ensures ∙ ap (map resting) (c.rows-times.ensures ∙ c.self.view_is) in
    subst IsRelation (sym all) (relation_of (StaysWithin c.args.self.now) (map resting c.args.self.now) (rest_normal c.args.self.now is c.requires) (lone_formed (map resting c.args.self.now) (rest_formed c.args.self.now is c.requires)))

pub returns : goal.returns
returns c =
    let is = subst IsOneTime c.self.view_is c.self.invariant in
    let all : c.in_ok-rows.rows.items ≡ map resting c.args.self.now = c.in_ok-rows.ensures ∙ ap (map resting) (c.rows-times.ensures ∙ c.self.view_is) in
    let few : length c.args.self.now ≤ c.args.max_rows = subst (λ (v : List OneRow). length v ≤ c.args.max_rows) (c.rows-times.ensures ∙ c.self.view_is) (omega arith) in (
      subst (λ (v : List Row). NormalRows (StaysWithin c.args.self.now) v) (sym all) (rest_normal c.args.self.now is c.requires),
      subst (λ (v : List Row). length v ≤ c.args.max_rows) (sym all) (rest_few c.args.self.now is c.requires c.args.max_rows few),
    )
