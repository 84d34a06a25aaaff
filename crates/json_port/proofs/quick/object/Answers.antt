use Rattle.std.proofs.Common.{sym, arith, ◌∙◌, take, ap}
use Rattle.serde_json.specs.Events.{members_len}
use Rattle.std.proofs.lemmas.List.{length-set}
use Rattle.json_port.specs.Flats.{listed}
use Rattle.json_port.proofs.FlatTokens.{last_member, one_more_member, sized_push}
use Rattle.json_port.proofs.Members.{counted_push, members_kept, begun_kept, scalars_push}
use Rattle.json_port.proofs.quick.object.Goals as goal

pub invariant_of-result-clause-counted : goal.invariant_of-result-clause-counted
invariant_of-result-clause-counted c =
    counted_push (listed c.member.new.names) c.loop-i.members c.loop-i.i c.in_ok-member.member c.find.result (omega arith) (c.find.ensures (listed c.member.new.names)) (sym c.is_some.ensures ∙ c.if-is_some.false)
    (ap members_len (sym (members_kept c.loop-i.names c.member.new.names c.in_ok-member.member.part (take c.loop-i.i c.loop-i.members) c.in_ok-member.ensures.once c.loop-i.invariant.4)) ∙ c.loop-i.invariant.1)

pub returns-in-Some-clause-sized : goal.returns-in-Some-clause-sized
returns-in-Some-clause-sized c = sized_push c.loop-i.members c.loop-i.i c.in_ok-member.member (omega arith) c.loop-i.invariant.2 c.in_ok-member.ensures.sized

pub returns-in-Some-clause-lexemes : goal.returns-in-Some-clause-lexemes
returns-in-Some-clause-lexemes c =
    last_member (listed c.member.new.names) c.args.line.now c.loop-i.rest.now c.in_ok-member.behind.now c.in-Some.end.now c.loop-i.members c.loop-i.i c.in_ok-member.member (omega arith)
    (begun_kept c.loop-i.names c.member.new.names c.in_ok-member.member.part _ _ (take c.loop-i.i c.loop-i.members) c.in_ok-member.ensures.once c.loop-i.invariant.4 c.loop-i.invariant.0) c.in_ok-member.ensures.lexemes c.in-Some.ensures.lexeme

pub loop-i-preserved : goal.loop-i-preserved
loop-i-preserved c = (
  one_more_member (listed c.member.new.names) c.args.line.now c.loop-i.rest.now c.in_ok-member.behind.now c.in_ok-rest-2.rest.now c.loop-i.members c.loop-i.i c.in_ok-member.member (omega arith)
      (begun_kept c.loop-i.names c.member.new.names c.in_ok-member.member.part _ _ (take c.loop-i.i c.loop-i.members) c.in_ok-member.ensures.once c.loop-i.invariant.4 c.loop-i.invariant.0) c.in_ok-member.ensures.lexemes c.in_ok-rest-2.ensures.lexeme,
  counted_push (listed c.member.new.names) c.loop-i.members c.loop-i.i c.in_ok-member.member c.find.result (omega arith) (c.find.ensures (listed c.member.new.names)) (sym c.is_some.ensures ∙ c.if-is_some.false)
      (ap members_len (sym (members_kept c.loop-i.names c.member.new.names c.in_ok-member.member.part (take c.loop-i.i c.loop-i.members) c.in_ok-member.ensures.once c.loop-i.invariant.4)) ∙ c.loop-i.invariant.1),
  sized_push c.loop-i.members c.loop-i.i c.in_ok-member.member (omega arith) c.loop-i.invariant.2 c.in_ok-member.ensures.sized,
  length-set c.loop-i.members c.loop-i.i c.in_ok-member.member ∙ c.loop-i.invariant.3,
  scalars_push c.loop-i.names c.member.new.names c.loop-i.members c.loop-i.i c.in_ok-member.member (omega arith) c.in_ok-member.ensures.once c.loop-i.invariant.4,
  c.loop-i.invariant.5 ∙ c.in_ok-member.ensures.ascii ∙ c.in_ok-rest-2.ensures.ascii,
)
