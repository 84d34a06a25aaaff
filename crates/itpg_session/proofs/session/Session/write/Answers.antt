use Rattle.std.proofs.Common.{map, sym, subst}
use Rattle.std.specs.Prelude.{slice_get, option_map, IsSomeAnd}
use Rattle.relation_rows.specs.Answered.{answered}
use Rattle.itpg_session.specs.PlainWatches.{all_plain}
use Rattle.itpg_session.specs.Replies.{line_reply, FindsFor}
use Rattle.itpg_session.specs.Machine.{Standing}
use Rattle.itpg_session.specs.Ticks.{ticked_of, AreTicked}
use Rattle.itpg_session.specs.Steps.{Suits}
use Rattle.itpg_session.specs.Watching.{AreTicksDeclared}
use Rattle.itpg_session.proofs.Changing.{bases_declared, ticks_declared}
use Rattle.itpg_session.proofs.Stepping.{shown_declared}
use Rattle.itpg_session.proofs.session.Session.write.Goals as goal

pub write_all-requires : goal.write_all-requires
write_all-requires g c =
    let suits = subst (λ r. Suits c.args.self.now (line_reply r)) c.in-PerWatch.is c.requires in
    let are = subst (λ (s : Standing). AreTicked s.machine.graph s.limit s.machine.watches (map ticked_of c.in-PerWatch.found.items)) (sym c.self.view_is) suits in
    subst (λ xs. AreTicksDeclared c.self.inside.graph (map ticked_of xs)) (sym c.deref.ensures.value)
    (ticks_declared c.self.inside.graph c.self.inside.limits (all_plain c.self.inside.watches) (map ticked_of c.in-PerWatch.found.items)
    (bases_declared c.self.inside.graph c.self.inside.limits c.self.inside.plans.nodes c.self.inside.watches c.self.invariant.kept.watches_right) are)

pub write_found-requires : goal.write_found-requires
write_found-requires g c =
    let suits = subst (λ r. Suits c.args.self.now (line_reply r)) c.in-Shown.is c.requires in
    let found = option_map answered c.in-Shown.found in
    record {
      declared = shown_declared c.self.inside.graph c.self.inside.limits (slice_get (all_plain c.self.inside.watches) c.in-Shown.field-0) found
          (subst (λ (s : Standing). IsSomeAnd (slice_get s.machine.watches c.in-Shown.field-0) (λ w. FindsFor s.machine.graph s.limit w.query found)) (sym c.self.view_is) suits);
    }
