-- Lines that are told to be good by their bytes alone: no public clause names what stands here.
use Rattle.std.specs.Prelude.{ℕ, Bool, ◌||◌}
use Rattle.script_lex.specs.Bytes.{is_blank, is_word_byte}

-- a blank, or a byte of which words are made
abbrev pub is_simple_byte : ℕ → Bool
is_simple_byte b = is_blank b || is_word_byte b
