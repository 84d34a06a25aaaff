-- What is written of a line.
use Rattle.std.specs.Prelude.{ℕ, List, [], ◌++◌, codes, Option, Some, None}
use Rattle.std.specs.Fmt.{decimal}
use Rattle.question_costs.specs.Texts.{line_text}

-- `means TEXT`, if there is one
abbrev pub means_text : Option (List ℕ) → List ℕ
means_text None = []
means_text (Some sentence) = line_text (codes "means") sentence

-- the line behind its number, what is said before its reply, the head of this, what that means, and the hints
abbrev pub said_text : ℕ → List ℕ → List ℕ → List ℕ → Option (List ℕ) → List ℕ → List ℕ
said_text number line front head meaning hints = ((codes "explain " ++ decimal number) ++ codes " " ++ line ++ codes "\n") ++ front ++ (head ++ codes "\n") ++ means_text meaning ++ hints
