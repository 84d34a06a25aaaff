use Rattle.std.proofs.Common.{Some, option_map, slice_set, sym, ap, ◌∙◌, arith}
use Rattle.plan_cache.proofs.Moved.{unmoved_behind, unmoved_free, room_for, at_place, when_ok}
use Rattle.plan_cache.proofs.refilling.move_kept.Goals as goal

pub returns-then-was-len-clause-kept : goal.returns-then-was-len-clause-kept
returns-then-was-len-clause-kept c =
    let test = c.if-was-len.true in
    let count = c.len.ensures.count in
    let each = c.len.ensures.each in
    (unmoved_behind c.args.from.now.kept c.args.to.now.kept c.args.was.0 c.args.place (omega arith) c.requires.free).1

pub returns-in_default-clause-kept : goal.returns-in_default-clause-kept
returns-in_default-clause-kept c =
    unmoved_free c.args.from.now.kept c.args.to.now.kept c.args.was.0 c.args.place (sym c.take_out.ensures.taken ∙ ap (λ o. Some (option_map (λ r. r.value) o)) c.in_default.is) c.requires.free

pub returns-clause-kept : goal.returns-clause-kept
returns-clause-kept c =
    let there = sym c.take_out.ensures.taken ∙ ap (λ o. Some (option_map (λ r. r.value) o)) c.in-Some.is in
    let room = room_for c.args.from.now.kept c.args.to.now.kept c.args.was.0 c.in-Some.relation.value there c.requires.room in
    when_ok c.keep-room.result _ (c.keep-room.ensures.ok.1 room) c.keep-room.ensures.kept
    ∙ ap (slice_set c.args.to.now.kept c.args.place) (sym (at_place c.args.from.now.kept c.args.was.0 (Some c.in-Some.relation.value) there))
