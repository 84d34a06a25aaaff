use Rattle.std.proofs.Common.{◌∙◌, sym, refl, arith}
use Rattle.path_ast.specs.Terms.{query_term}
use Rattle.itpg_session.specs.PlainWatches.{all_plain}
use Rattle.itpg_session.proofs.Answering.{may_watch, is_taken, is_full}
use Rattle.itpg_session.proofs.Plain.{plain_length, plain_watched, watched_plain}
use Rattle.itpg_session.proofs.NamedLists.{found_at}
use Rattle.itpg_session.proofs.Written.{some_value, no_value}
use Rattle.itpg_session.proofs.rules.broken_by_watch.Goals as goal

pub returns-then-is_some-clause-some : goal.returns-then-is_some-clause-some
returns-then-is_some-clause-some c =
    let ws = c.args.watches.now in
    let at = some_value c.find.result c.find.ensures.some (sym c.is_some.ensures ∙ c.if-is_some.true) in
    let w = found_at _ ws at.0 at.1 in
    is_taken c.args.graph.now (all_plain ws) c.args.name.now (query_term c.args.query.now) (c.in_default.ensures.none refl) (plain_watched ws c.args.name.now (w.0, w.1, w.3))

pub returns-then-len-ge-MAX_WATCHES-clause-some : goal.returns-then-len-ge-MAX_WATCHES-clause-some
returns-then-len-ge-MAX_WATCHES-clause-some c =
    let ws = c.args.watches.now in
    is_full c.args.graph.now (all_plain ws) c.args.name.now (query_term c.args.query.now) (c.in_default.ensures.none refl)
    (λ there. c.find.ensures.none.0 (no_value c.find.result (sym c.is_some.ensures ∙ c.if-is_some.false)) (watched_plain ws c.args.name.now there))
    (omega (arith, plain_length ws, c.len.ensures.count, c.if-len-ge-MAX_WATCHES.true))

pub returns-clause-none : goal.returns-clause-none
returns-clause-none c = λ _.
    let ws = c.args.watches.now in
    may_watch c.args.graph.now (all_plain ws) c.args.name.now (query_term c.args.query.now) (c.in_default.ensures.none refl)
    (λ there. c.find.ensures.none.0 (no_value c.find.result (sym c.is_some.ensures ∙ c.if-is_some.false)) (watched_plain ws c.args.name.now there))
    (λ full. absurd (omega (arith, plain_length ws, c.len.ensures.count, c.if-len-ge-MAX_WATCHES.false, full)))
