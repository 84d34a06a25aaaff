-- What a trial tells.
use Rattle.std.specs.Prelude.{◌≡◌, ◌⊎◌, ℕ, ◌+◌, Bool, true, false, ◌||◌, List, [], ◌∷◌, ◌++◌, codes}
use Rattle.std.specs.Fmt.{decimal}
use Rattle.std.specs.declared.option.Option.{Option}
use Rattle.std.specs.Io.KnownBytes.{Appends}
use Rattle.itpg_base.specs.Outside.{AppendsSome}
use Rattle.itpg_base.specs.declared.outside.Sink.{Ghosts as SinkGhosts}
use Rattle.relation_rows.specs.Answered.{row_number}
use Rattle.edit_reader.specs.Lines.{LineOf}
use Rattle.itpg_session.specs.Replies.{Reply, Silent, Bad, Refused, Wide, Rows, Counted, Shown, OfPin, PerWatch, IsReply}
use Rattle.itpg_session.specs.Machine.{Machine, Turn, opening, Replies}
use Rattle.trial_script.specs.Script.{Asks, script}
use Rattle.itpg_run.specs.Sums.{answer_sum}

-- a text, and whether some question was too wide
pub record Told : Type 0 where
  pub text : List ℕ
  pub wide : Bool

abbrev pub nothing : Told
nothing = record { text = []; wide = false }

-- one behind the other
abbrev pub told_both : Told → Told → Told
told_both first rest = record { text = first.text ++ rest.text; wide = first.wide || rest.wide }

-- `ask K wide`
unfoldable pub wide_text : ℕ → List ℕ
wide_text k = codes "ask " ++ decimal k ++ codes " wide\n"

-- `ask K rows R sum S`
unfoldable pub rows_text : ℕ → ℕ → ℕ → List ℕ
rows_text k count sum = codes "ask " ++ decimal k ++ codes " rows " ++ decimal count ++ codes " sum " ++ decimal sum ++ codes "\n"

-- what is told of the reply to the question k. Any other reply would have no line
abbrev pub told_of : ℕ → Reply → Told
told_of k (Rows answer) = record { text = rows_text k (row_number answer) (answer_sum answer); wide = false }
told_of k Wide = record { text = wide_text k; wide = true }
told_of k (Bad code) = nothing
told_of k (Refused rule) = nothing
told_of k Silent = nothing
told_of k (Counted counts) = nothing
told_of k (Shown place found) = nothing
told_of k (OfPin place answer) = nothing
told_of k (PerWatch found) = nothing

-- the line asks the question k, whose reply is told; the lines behind it find the machine as it was
pub record TellsAsked (limit : ℕ) (m : Machine) (k : ℕ) (line : List ℕ) (Rest : Told → Type 0) (all : Told) : Type 0 where
  pub query : List ℕ
  pub asks : Asks line query
  pub reply : Reply
  pub replies : IsReply m.graph limit query reply
  pub rest : Told
  pub goes_on : Rest rest
  pub is : all ≡ told_both (told_of k reply) rest

-- the line asks nothing: the machine answers it, and of this turn nothing is told
pub record TellsNothing (limit : ℕ) (m : Machine) (line : List ℕ) (Rest : Machine → Type 0) : Type 0 where
  pub others : (query : List ℕ) → ¬ Asks line query
  pub turn : Turn
  pub replies : Replies limit m (LineOf line) turn
  pub goes_on : Rest turn.next

-- what lines tell whose questions are numbered from here on
unfoldable pub Tells : ℕ → Machine → ℕ → List (List ℕ) → Told → Type 0
Tells limit m k [] all = all ≡ nothing
Tells limit m k (l ∷ ls) all = TellsAsked limit m k l (λ rest. Tells limit m (k + 1) ls rest) all ⊎ TellsNothing limit m l (λ next. Tells limit next k ls all)

-- the summary of the trial of a number, with this limit of rows
abbrev pub IsSummary : ℕ → ℕ → Told → Type 0
IsSummary limit number all = Tells limit opening 1 (script number) all

-- the summary was written, and whether some question was too wide
pub record TellsAll (limit number : ℕ) (held now : Option (List ℕ)) (wide : Bool) : Type 0 where
  pub told : Told
  pub summary : IsSummary limit number told
  pub written : Appends held now told.text
  pub is_wide : told.wide ≡ wide

-- the first lines were told whole, and nothing of those behind them
pub record TellsWhole (limit number : ℕ) (held now : Option (List ℕ)) : Type 0 where
  pub first : List (List ℕ)
  pub behind : List (List ℕ)
  pub lines : script number ≡ first ++ behind
  pub told : Told
  pub tells : Tells limit opening 1 first told
  pub written : Appends held now told.text

-- a front part of the summary was written
pub record TellsSome (limit number : ℕ) (held now : Option (List ℕ)) : Type 0 where
  pub told : Told
  pub summary : IsSummary limit number told
  pub some : AppendsSome held now told.text

-- the same of a sink, named by the ghost value of its type: before the call, and after it
module _ {K : Type 0} (sink : SinkGhosts K) (before now : K) (limit number : ℕ) where
  abbrev pub TellsAllTo : Bool → Type 0
  TellsAllTo wide = TellsAll limit number (sink.held before) (sink.held now) wide

  abbrev pub TellsWholeTo : Type 0
  TellsWholeTo = TellsWhole limit number (sink.held before) (sink.held now)

  abbrev pub TellsSomeTo : Type 0
  TellsSomeTo = TellsSome limit number (sink.held before) (sink.held now)
