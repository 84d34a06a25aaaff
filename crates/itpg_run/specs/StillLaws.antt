-- The law of pins: what is asked of a pin doesn't see the edits since the pin was opened.
use Rattle.std.specs.Prelude.{◌≡◌, ℕ, ◌+◌, ◌<◌, List, ◌++◌, ◌∷◌, length, Ok}
use Rattle.itpg_base.specs.Words.{Word}
use Rattle.itpg_edit.specs.Rules.{NoneOf}
use Rattle.edit_reader.specs.Readings.{Opens, Closes, AsksIn, Follows, Nears, Unfollows}
use Rattle.edit_reader.specs.Lines.{LineOf}
use Rattle.itpg_session.specs.Rules.{OpenBreaks, open_rules}
use Rattle.itpg_session.specs.Machine.{Machine, opening}
use Rattle.itpg_run.specs.Out.{plain, Output, LineOut, Runs}
use Rattle.itpg_run.specs.Still.{AreStill}

-- the plain lines have a line of this number, counted from 1: those before it were run, and of the machine that they leave and of the line
-- it is so
pub record AtLine (limit : ℕ) (lines : List (List ℕ)) (number : ℕ) (Is : Machine → List ℕ → Type 0) : Type 0 where
  pub front : List (List ℕ)
  pub line : List ℕ
  pub rest : List (List ℕ)
  pub split : lines ≡ front ++ line ∷ rest
  pub count : length front + 1 ≡ number
  pub output : Output
  pub runs : Runs (plain limit) opening 1 front output
  pub is : Is output.next line

-- over the lines, this is written at the line of this number
abbrev pub IsOutAt : ℕ → List (List ℕ) → ℕ → Output → Type 0
IsOutAt limit lines number o = AtLine limit lines number (λ m line. LineOut (plain limit) m number line o)

-- the line opens a pin of this name, and is accepted
abbrev pub IsOpened : Word → Machine → List ℕ → Type 0
IsOpened name m line = LineOf line (Ok (Opens name)) × NoneOf (OpenBreaks m.graph m.pins name) open_rules

-- the line asks this text of the pin of this name
abbrev pub IsAskedIn : Word → List ℕ → Machine → List ℕ → Type 0
IsAskedIn name text m line = LineOf line (Ok (AsksIn name text))

-- no line after the one numbered i and before the one numbered j closes the pin
abbrev pub NoneCloses : List (List ℕ) → ℕ → ℕ → Word → Type 0
NoneCloses lines i j name =
    (front rest : List (List ℕ)) (line : List ℕ) → lines ≡ front ++ line ∷ rest → i < length front + 1 → length front + 1 < j → LineOf line (Ok (Closes name)) → ⊥

-- if line i is an accepted `open S`, line j, below it, is `in S ask Q`, and no line between them is `close S`, then the reply to line
-- j over the lines is its reply over the lines without the edits between
abbrev pub StillReplies : Type 0
StillReplies = (limit : ℕ) (lines others : List (List ℕ)) (i j : ℕ) (name : Word) (text : List ℕ) (x y : Output)
    → AtLine limit lines i (IsOpened name) → AtLine limit lines j (IsAskedIn name text) → i < j → NoneCloses lines i j name
    → AreStill 1 i j lines others → IsOutAt limit lines j x → IsOutAt limit others j y → (x.text ≡ y.text) × (x.failing ≡ y.failing)

-- the edits between two lines can be taken out
abbrev pub SomeStill : Type 0
SomeStill = (i j : ℕ) (lines : List (List ℕ)) → (others : List (List ℕ)) × AreStill 1 i j lines others

-- and in one way
abbrev pub OneStill : Type 0
OneStill = (i j : ℕ) (lines xs ys : List (List ℕ)) → AreStill 1 i j lines xs → AreStill 1 i j lines ys → xs ≡ ys
