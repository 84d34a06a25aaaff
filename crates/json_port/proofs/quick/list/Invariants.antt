use Rattle.std.proofs.Common.{◌≡◌, length, take, map}
use Rattle.json.specs.Token.{begin_array}
use Rattle.json.specs.Lex.{lex, between, token}
use Rattle.json_port.specs.Flats.{text_lexemes, are_ascii}
use Rattle.json_port.proofs.FlatTokens.{Begun}
use Rattle.json_port.proofs.quick.list.Given as goal

abbrev pub invariant-loop-i : goal.invariant-loop-i
invariant-loop-i l = Begun text_lexemes (token begin_array) (lex between l.text) (map (λ s. s.now) (take l.i l.items)) (lex between l.rest) × (length l.items ≡ 8) × (are_ascii l.text ≡ are_ascii l.rest)
