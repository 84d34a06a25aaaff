use Rattle.std.proofs.Common.{◌≡◌, ◌+◌, drop}
use Rattle.std.specs.List.{prefix_len}
use Rattle.json_port.specs.Flats.{is_plain_ascii}
use Rattle.json_port.proofs.lexemes.plain_len.Given as goal

abbrev pub invariant-loop-byte : goal.invariant-loop-byte
invariant-loop-byte l = (prefix_len is_plain_ascii l.text ≡ l.byte-index + prefix_len is_plain_ascii (drop l.byte-index l.text)) × (l.len ≡ l.byte-index)
