use Rattle.std.proofs.Common.{◌≡◌, ◌<◌, ℕ, length, sym, ap, subst, ◌∙◌}
use Rattle.std.specs.Prelude.{slice_get, IsSomeAnd}
use Rattle.path_ast.specs.Terms.{query_term, path_term}
use Rattle.plan_cache.specs.RightRows.{IsTableRight}
use Rattle.itpg_session.specs.PlainPins.{plain_pins}
use Rattle.itpg_session.specs.Replies.{reply_of, IsReplyTo}
use Rattle.itpg_session.specs.Pinning.{AddsAt}
use Rattle.itpg_session.specs.Machine.{Standing}
use Rattle.itpg_session.proofs.Written.{if_ok}
use Rattle.itpg_session.proofs.PinLists.{pins_retabled}
use Rattle.itpg_session.proofs.Pinned.{plain_alike}
use Rattle.itpg_session.proofs.Lent.{lent, mid_length, right_back, put_back, adds_at, keeps_at, replies_at}
use Rattle.itpg_session.proofs.session.Session.ask_at.Goals as goal

pub graph-requires : goal.graph-requires
graph-requires c =
    let there = subst (λ (s : Standing). c.args.place < length s.pins) (sym c.self.view_is) c.requires.there in
    subst (λ (n : ℕ). c.args.place < n) (sym (mid_length c.self.inside.limits c.self.inside.pins.pins c.args.place c.new.result c.swap_plans-plans.result c.swap_plans-plans.new.self.pins c.swap_plans-plans.ensures.new)) there

pub swap_plans-lent-requires-clause-there : goal.swap_plans-lent-requires-clause-there
swap_plans-lent-requires-clause-there c =
    let there = subst (λ (s : Standing). c.args.place < length s.pins) (sym c.self.view_is) c.requires.there in
    subst (λ (n : ℕ). c.args.place < n) (sym (mid_length c.self.inside.limits c.self.inside.pins.pins c.args.place c.new.result c.swap_plans-plans.result c.swap_plans-plans.new.self.pins c.swap_plans-plans.ensures.new)) there

pub reply_alone-asked-requires-clause-right : goal.reply_alone-asked-requires-clause-right
reply_alone-asked-requires-clause-right c =
    let ps = c.self.inside.pins.pins in
    let old = subst (λ (n : ℕ). IsSomeAnd (slice_get ps c.args.place) (λ p. (c.swap_plans-plans.result ≡ p.table) × IsTableRight p.graph n c.swap_plans-plans.result)) c.self.invariant.pins_limit c.swap_plans-plans.ensures.old in
    let at = lent c.self.inside.limits ps c.args.place c.new.result c.swap_plans-plans.result c.swap_plans-plans.new.self.pins c.swap_plans-plans.ensures.new c.graph.result.now old c.graph.ensures in
    subst (λ (n : ℕ). IsTableRight c.graph.result.now n c.swap_plans-plans.result) (sym c.max_rows.ensures.value) at.right

pub swap_plans-lent-requires-clause-right : goal.swap_plans-lent-requires-clause-right
swap_plans-lent-requires-clause-right c =
    let ps = c.self.inside.pins.pins in
    let new = c.reply_alone-asked.new.plans in
    let old = subst (λ (n : ℕ). IsSomeAnd (slice_get ps c.args.place) (λ p. (c.swap_plans-plans.result ≡ p.table) × IsTableRight p.graph n c.swap_plans-plans.result)) c.self.invariant.pins_limit c.swap_plans-plans.ensures.old in
    let at = lent c.self.inside.limits ps c.args.place c.new.result c.swap_plans-plans.result c.swap_plans-plans.new.self.pins c.swap_plans-plans.ensures.new c.graph.result.now old c.graph.ensures in
    let right = subst (λ (n : ℕ). IsTableRight c.graph.result.now n new) c.max_rows.ensures.value c.reply_alone-asked.ensures.still_right in
    subst (λ (n : ℕ). IsSomeAnd (slice_get c.swap_plans-plans.new.self.pins c.args.place) (λ p. IsTableRight p.graph n new)) (sym (c.swap_plans-plans.ensures.limit ∙ c.self.invariant.pins_limit))
    (right_back c.self.inside.limits ps c.args.place c.new.result c.swap_plans-plans.result c.swap_plans-plans.new.self.pins c.swap_plans-plans.ensures.new c.graph.result.now at new right)

pub returns-clause-pins : goal.returns-clause-pins
returns-clause-pins c =
    let ps = c.self.inside.pins.pins in
    let p = path_term c.args.query.now.path in
    let new = c.reply_alone-asked.new.plans in
    let old = subst (λ (n : ℕ). IsSomeAnd (slice_get ps c.args.place) (λ p. (c.swap_plans-plans.result ≡ p.table) × IsTableRight p.graph n c.swap_plans-plans.result)) c.self.invariant.pins_limit c.swap_plans-plans.ensures.old in
    let at = lent c.self.inside.limits ps c.args.place c.new.result c.swap_plans-plans.result c.swap_plans-plans.new.self.pins c.swap_plans-plans.ensures.new c.graph.result.now old c.graph.ensures in
    subst (λ (s : Standing). AddsAt p c.args.place s.pins c.swap_plans-lent.new.self.pins) c.self.view_is
    (adds_at c.self.inside.limits ps c.args.place c.new.result c.swap_plans-plans.result c.swap_plans-plans.new.self.pins c.swap_plans-plans.ensures.new c.graph.result.now at new
    c.swap_plans-lent.new.self.pins c.swap_plans-lent.ensures.new p c.reply_alone-asked.ensures.adds)

pub returns-clause-alike : goal.returns-clause-alike
returns-clause-alike c =
    let ps = c.self.inside.pins.pins in
    let new = c.reply_alone-asked.new.plans in
    let old = subst (λ (n : ℕ). IsSomeAnd (slice_get ps c.args.place) (λ p. (c.swap_plans-plans.result ≡ p.table) × IsTableRight p.graph n c.swap_plans-plans.result)) c.self.invariant.pins_limit c.swap_plans-plans.ensures.old in
    let at = lent c.self.inside.limits ps c.args.place c.new.result c.swap_plans-plans.result c.swap_plans-plans.new.self.pins c.swap_plans-plans.ensures.new c.graph.result.now old c.graph.ensures in
    let is = put_back c.self.inside.limits ps c.args.place c.new.result c.swap_plans-plans.result c.swap_plans-plans.new.self.pins c.swap_plans-plans.ensures.new c.graph.result.now at new c.swap_plans-lent.new.self.pins c.swap_plans-lent.ensures.new in
    plain_alike c.self.inside.graph c.self.inside.limits c.self.inside.plans c.self.inside.watches ps c.self.inside.follows c.args.self.now c.self.view_is c.swap_plans-lent.new.self.pins
    (ap plain_pins is ∙ pins_retabled ps c.args.place new)

pub returns-clause-reply : goal.returns-clause-reply
returns-clause-reply c =
    let ps = c.self.inside.pins.pins in
    let q = query_term c.args.query.now in
    let old = subst (λ (n : ℕ). IsSomeAnd (slice_get ps c.args.place) (λ p. (c.swap_plans-plans.result ≡ p.table) × IsTableRight p.graph n c.swap_plans-plans.result)) c.self.invariant.pins_limit c.swap_plans-plans.ensures.old in
    let at = lent c.self.inside.limits ps c.args.place c.new.result c.swap_plans-plans.result c.swap_plans-plans.new.self.pins c.swap_plans-plans.ensures.new c.graph.result.now old c.graph.ensures in
    if_ok (λ asked h.
    subst (λ (s : Standing). IsSomeAnd (slice_get s.machine.pins c.args.place) (λ p. IsReplyTo p.graph s.limit q (reply_of asked))) c.self.view_is
    (replies_at c.self.inside.limits ps c.args.place c.new.result c.swap_plans-plans.result c.swap_plans-plans.new.self.pins c.swap_plans-plans.ensures.new c.graph.result.now at c.reply_alone-asked.new.plans q (reply_of asked)
    (subst (λ (n : ℕ). IsReplyTo c.graph.result.now n q (reply_of asked)) c.max_rows.ensures.value h))) c.reply_alone-asked.result c.reply_alone-asked.ensures.reply

pub returns-clause-keeps : goal.returns-clause-keeps
returns-clause-keeps c =
    let ps = c.self.inside.pins.pins in
    let new = c.reply_alone-asked.new.plans in
    let old = subst (λ (n : ℕ). IsSomeAnd (slice_get ps c.args.place) (λ p. (c.swap_plans-plans.result ≡ p.table) × IsTableRight p.graph n c.swap_plans-plans.result)) c.self.invariant.pins_limit c.swap_plans-plans.ensures.old in
    let at = lent c.self.inside.limits ps c.args.place c.new.result c.swap_plans-plans.result c.swap_plans-plans.new.self.pins c.swap_plans-plans.ensures.new c.graph.result.now old c.graph.ensures in
    if_ok (λ asked keeps answer is. keeps_at c.self.inside.limits ps c.args.place c.new.result c.swap_plans-plans.result c.swap_plans-plans.new.self.pins c.swap_plans-plans.ensures.new c.graph.result.now at new
    c.swap_plans-lent.new.self.pins c.swap_plans-lent.ensures.new (path_term c.args.query.now.path) (keeps answer is)) c.reply_alone-asked.result c.reply_alone-asked.ensures.keeps
