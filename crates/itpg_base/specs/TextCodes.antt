-- The faults of a text: their words and their order.
use Rattle.std.specs.Prelude.{ℕ, List, codes}
use Rattle.itpg_base.specs.declared.text_code.TextCode.{TextCode}
use Rattle.itpg_base.specs.declared.text_code.TextCode.TheVariants.{Long, Byte, Tokens, Deep, Text, Number, Name, Range, Names, Terms}

-- the word of each fault
abbrev pub text_word : TextCode → List ℕ
text_word Long = codes "long"
text_word Byte = codes "byte"
text_word Tokens = codes "tokens"
text_word Deep = codes "deep"
text_word Text = codes "text"
text_word Number = codes "number"
text_word Name = codes "name"
text_word Range = codes "range"
text_word Names = codes "names"
text_word Terms = codes "terms"

-- the place of each fault in the order in which they are tried
abbrev pub text_place : TextCode → ℕ
text_place Long = 1
text_place Byte = 2
text_place Tokens = 3
text_place Deep = 4
text_place Text = 5
text_place Number = 6
text_place Name = 7
text_place Range = 8
text_place Names = 9
text_place Terms = 10
