use Rattle.std.proofs.Common.{◌≡◌, ◌++◌, map, take, sym, subst, arith}
use Rattle.json.specs.Token.{begin_array, end_array}
use Rattle.json.specs.Lex.{lex, between, token}
use Rattle.json_port.specs.Flats.{text_lexemes, names_lexemes}
use Rattle.json_port.proofs.FlatTokens.{last_one, more_texts}
use Rattle.json_port.proofs.quick.list.Goals as goal

pub returns-in-Some-clause-lexemes : goal.returns-in-Some-clause-lexemes
returns-in-Some-clause-lexemes c =
    subst (λ ns. lex between c.args.text.now ≡ names_lexemes ns ++ lex between c.in-Some.end.now) (sym (more_texts c.loop-i.items c.loop-i.i c.in_ok-name.name (omega arith)))
    (last_one text_lexemes (token begin_array) (token end_array) (lex between c.args.text.now) (map (λ s. s.now) (take c.loop-i.i c.loop-i.items)) c.in_ok-name.name.now (lex between c.loop-i.rest.now)
    (lex between c.in_ok-name.behind.now) (lex between c.in-Some.end.now) c.loop-i.invariant.0 c.in_ok-name.ensures.lexeme c.in-Some.ensures.lexeme)
