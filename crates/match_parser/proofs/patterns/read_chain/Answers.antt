use Rattle.std.proofs.Common.{sym, arith}
use Rattle.std.proofs.lemmas.Result.{err_from_is_err_and}
use Rattle.script_lex.specs.declared.mark.Mark.TheVariants.{DashSlash}
use Rattle.path_ast.specs.Terms.{path_term}
use Rattle.match_parser.specs.Heads.{is_mark}
use Rattle.match_parser.specs.Parsing.{chain_of, with_piece, pattern_by, piece_by, alt_at, or_at, chain_at}
use Rattle.match_parser.specs.Gives.{lexemes, seen}
use Rattle.match_parser.specs.Views.{chain_view, pattern_view, piece_view}
use Rattle.match_parser.proofs.Lists.{goes_on, ends}
use Rattle.match_parser.proofs.Rules.{chains_is}
use Rattle.match_parser.proofs.Steps.{next_err}
use Rattle.match_parser.proofs.patterns.read_chain.Goals as goal

pub returns-in_err-path : goal.returns-in_err-path
returns-in_err-path c =
    let p = err_from_is_err_and c.from_residual-in_err-path.result c.from_residual-in_err-path.ensures.1 in
    rw (p.1, p.2) (next_err (is_mark DashSlash) with_piece (λ m. piece_by (alt_at m) (or_at m)) (λ m. pattern_by (or_at m)) chain_of chain_at chains_is 4 (seen piece_view) (seen chain_view) (lexemes c.args.tokens.now) (lexemes c.loop-tail.rest.now) (lexemes c.in-Some.tail.now) (chain_view c.loop-tail.chain) c.in_err-path.field-0.0 c.loop-tail.invariant (sym c.in-Some.ensures.front) c.in-Some.ensures.shorter c.in_err-path.ensures.gives)

pub loop-tail-preserved : goal.loop-tail-preserved
loop-tail-preserved c = rw c.in_ok-chain.ensures
    (goes_on (is_mark DashSlash) with_piece (λ m. piece_by (alt_at m) (or_at m)) (λ m. pattern_by (or_at m)) chain_of chain_at chains_is 4 (lexemes c.args.tokens.now) (lexemes c.loop-tail.rest.now) (lexemes c.in-Some.tail.now) (lexemes c.in_ok-path.after.now) (chain_view c.loop-tail.chain) (path_term c.in_ok-path.path, pattern_view c.in_ok-path.pattern) c.loop-tail.invariant (sym c.in-Some.ensures.front) (omega (arith, c.in_ok-path.ensures.shorter, c.in-Some.ensures.shorter)) c.in-Some.ensures.shorter c.in_ok-path.ensures.gives)

pub returns : goal.returns
returns c = ends (is_mark DashSlash) with_piece (λ m. piece_by (alt_at m) (or_at m)) (λ m. pattern_by (or_at m)) chain_of chain_at chains_is 4 (lexemes c.args.tokens.now) (lexemes c.loop-tail.rest.now) (chain_view c.loop-tail.chain) c.loop-tail.invariant (sym c.in_default.ensures.front)
