use Rattle.std.proofs.Common.{◌∷◌, [], None, Some, refl, ap, ◌∙◌, List, subst, sym}
use Rattle.std.proofs.lemmas.List.{map-append}
use Rattle.script_lex.specs.Lexemes.{Lexeme, lexeme}
use Rattle.script_lex.specs.Lines.{placed}
use Rattle.match_parser.specs.Gives.{lexemes}
use Rattle.match_parser.proofs.Scanning.{Collected, collected_more, collected_end}
use Rattle.match_parser.proofs.scan.collect.Goals as goal

pub loop-token-preserved : goal.loop-token-preserved
loop-token-preserved c =
    let next = rw c.in-Ok-Some.field-0-is at c.in-Ok-Some.ensures.token in
    let within = rw c.in-Ok-Some.field-0-is at c.in-Ok-Some.ensures.within in
    let more = ap lexemes c.in_ok-push-in-Ok-Some.ensures.items ∙ map-append lexeme c.loop-token.tokens.items (c.in-Ok-Some.token.what ∷ []) in
    subst (λ (l : List Lexeme). Collected c.args.text.now l c.in-Ok-Some.token.to) (sym more) (collected_more c.args.text.now (lexemes c.loop-token.tokens.items) c.loop-token.at (placed c.in-Ok-Some.token) c.loop-token.invariant next within.2)

pub returns-in-Ok-None : goal.returns-in-Ok-None
returns-in-Ok-None c =
    let ended = rw c.in-Ok-None.field-0-is at c.in-Ok-None.ensures.ended in
    (None, collected_end c.args.text.now (lexemes c.loop-token.tokens.items) c.loop-token.at None c.loop-token.invariant (ended.0 refl))

pub returns-in-Err : goal.returns-in-Err
returns-in-Err c = (Some c.in-Err.field-0, collected_end c.args.text.now (lexemes c.loop-token.tokens.items) c.loop-token.at (Some c.in-Err.field-0) c.loop-token.invariant c.in-Err.ensures.fault)
