use Rattle.std.proofs.Common.{◌≡◌, length, take}
use Rattle.json.specs.Token.{begin_object}
use Rattle.json.specs.Lex.{lex, between, token}
use Rattle.serde_json.specs.Events.{members_len}
use Rattle.json_port.specs.Flats.{listed, member_lexemes, members_of, AreSized, AreScalars, are_ascii}
use Rattle.json_port.proofs.FlatTokens.{Begun}
use Rattle.json_port.proofs.quick.object.Given as goal

abbrev pub invariant-loop-i : goal.invariant-loop-i
invariant-loop-i l =
    Begun (member_lexemes (listed l.names)) (token begin_object) (lex between l.line) (take l.i l.members) (lex between l.rest) × (members_len (members_of (listed l.names) (take l.i l.members)) ≡ l.i)
    × AreSized (take l.i l.members) × (length l.members ≡ 6) × (l.names.len ≡ 0 → AreScalars (take l.i l.members)) × (are_ascii l.line ≡ are_ascii l.rest)
