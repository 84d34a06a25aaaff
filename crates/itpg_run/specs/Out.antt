-- What the plain machine may write over a script.
use Rattle.std.specs.Prelude.{◌≡◌, ℕ, ◌+◌, List, [], ◌∷◌, ◌++◌, Bool, false, ◌||◌}
use Rattle.row_printer.specs.declared.form.Form.{Form}
use Rattle.itpg_session.specs.Lines.{LineIs}
use Rattle.itpg_session.specs.Texts.{text_of, fails}
use Rattle.itpg_session.specs.Machine.{Machine, Turn, opening, Replies}
use Rattle.itpg_run.specs.Lines.{lines}

-- how a script is run: the form of its lines and of their replies, and the limit of rows
pub record Mode : Type 0 where
  pub form : Form
  pub limit : ℕ

-- with lines of a form, and a limit
abbrev pub mode_at : Form → ℕ → Mode
mode_at form limit = record { form = form; limit = limit }

-- with plain lines
abbrev pub plain : ℕ → Mode
plain limit = mode_at Form.Plain limit

-- what is written, whether a reply in it fails, and the machine after it
pub record Output : Type 0 where
  pub text : List ℕ
  pub failing : Bool
  pub next : Machine

-- nothing is written
abbrev pub no_output : Machine → Output
no_output m = record { text = []; failing = false; next = m }

-- the output in a form of a turn that is taken at the line of a number
abbrev pub written : Form → Machine → ℕ → Turn → Output
written form m number turn = record { text = text_of form m number turn.reply; failing = fails turn.reply; next = turn.next }

-- the output that the line of a number may have
pub record LineOut (mode : Mode) (m : Machine) (number : ℕ) (line : List ℕ) (o : Output) : Type 0 where
  pub turn : Turn
  pub replies : Replies mode.limit m (LineIs mode.form line) turn
  pub is : o ≡ written mode.form m number turn

-- an output and then another
abbrev pub both : Output → Output → Output
both first rest = record { text = first.text ++ rest.text; failing = first.failing || rest.failing; next = rest.next }

-- a first output, and what goes on from the machine that it leaves
pub record Then (First : Output → Type 0) (Rest : Machine → Output → Type 0) (all : Output) : Type 0 where
  pub first : Output
  pub rest : Output
  pub begins : First first
  pub goes_on : Rest first.next rest
  pub is : all ≡ both first rest

-- the output of lines numbered from here on; without a line nothing is written
unfoldable pub Runs : Mode → Machine → ℕ → List (List ℕ) → Output → Type 0
Runs mode m number [] o = o ≡ no_output m
Runs mode m number (l ∷ ls) o = Then (LineOut mode m number l) (λ next rest. Runs mode next (number + 1) ls rest) o

-- the machine's output over a script
abbrev pub IsOut : Mode → List ℕ → Output → Type 0
IsOut mode bytes o = Runs mode opening 1 (lines bytes) o
