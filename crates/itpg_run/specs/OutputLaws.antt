-- Laws of the output.
use Rattle.std.specs.Prelude.{◌≡◌, ℕ, List, ◌++◌}
use Rattle.itpg_run.specs.Lines.{whole}
use Rattle.itpg_run.specs.Out.{Mode, Output, IsOut}

-- a script has at most one output
abbrev pub OneOutput : Type 0
OneOutput = (mode : Mode) (bytes : List ℕ) (x y : Output) → IsOut mode bytes x → IsOut mode bytes y → x ≡ y

-- and it has one
abbrev pub SomeOutput : Type 0
SomeOutput = (mode : Mode) (bytes : List ℕ) → (t : Output) × IsOut mode bytes t

-- the output over the whole lines of a front part begins the output over all
abbrev pub OutputGrows : Type 0
OutputGrows = (mode : Mode) (front rest : List ℕ) (x y : Output) → IsOut mode (whole front) x → IsOut mode (front ++ rest) y → (more : List ℕ) × (x.text ++ more ≡ y.text)

-- an output over all has in it one over the whole lines of a front part
abbrev pub OutputBegins : Type 0
OutputBegins = (mode : Mode) (front rest : List ℕ) (y : Output) → IsOut mode (front ++ rest) y → (x : Output) × IsOut mode (whole front) x × ((more : List ℕ) × (x.text ++ more ≡ y.text))
