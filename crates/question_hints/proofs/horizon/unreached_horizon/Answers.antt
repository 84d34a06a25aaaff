use Rattle.std.proofs.Common.{rules, sym, ◌∙◌, true≢false}
use Rattle.path_ast.specs.Terms.{path_term}
use Rattle.question_hints.proofs.LivesLemmas.{wider_told, reached_told, none_told}
use Rattle.question_hints.proofs.horizon.unreached_horizon.Goals as goal

pub returns-in_err-lives : goal.returns-in_err-lives
returns-in_err-lives c = none_told c.args.graph.now (path_term c.args.query.now.path) c.from_residual-in_err-lives.result (search rules) c.in_err-lives.ensures

pub returns-then-is_wider : goal.returns-then-is_wider
returns-then-is_wider c =
    wider_told c.args.graph.now (path_term c.args.query.now.path) c.in_ok-horizon.horizon c.in_ok-lives.lives
    (sym c.is_free.ensures ∙ c.if-not-is_free.false) c.in_ok-horizon.ensures.value c.in_ok-lives.ensures (c.is_wider.ensures.0 c.if-is_wider.true)

pub returns-else-is_wider : goal.returns-else-is_wider
returns-else-is_wider c =
    reached_told c.args.graph.now (path_term c.args.query.now.path) c.in_ok-horizon.horizon c.in_ok-lives.lives
    c.in_ok-horizon.ensures.value c.in_ok-lives.ensures (λ w. true≢false (sym (c.is_wider.ensures.1 w) ∙ c.if-is_wider.false))
