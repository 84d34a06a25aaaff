-- The value of a line, and what an object asks for.
use Rattle.std.proofs.Common.{◌≡◌, ℕ, List, Bool, true, false, Some, None, refl, if◌then◌else◌}
use Rattle.std.specs.Str.{IsUtf8, is_utf8}
use Rattle.std.proofs.lemmas.Str.{IsUtf8-from_is_utf8, is_utf8-from_IsUtf8}
use Rattle.serde_json.specs.Data.{Data}
use Rattle.serde_json.specs.Read.{read}
use Rattle.json_port.specs.Lines.{value_in}

pub value_read : (line : List ℕ) (d : Data) → IsUtf8 line → read line ≡ Some d → value_in line ≡ Some d
value_read line d utf8 e = rw (is_utf8-from_IsUtf8 line utf8) e

refused_at : (line : List ℕ) (b : Bool) → is_utf8 line ≡ b → (IsUtf8 line → read line ≡ None) → (if b then read line else None) ≡ None
refused_at line true is h = h (IsUtf8-from_is_utf8 line is)
refused_at line false is h = refl

pub value_refused : (line : List ℕ) → (IsUtf8 line → read line ≡ None) → value_in line ≡ None
value_refused line h = refused_at line (is_utf8 line) refl h
