-- A trial on its way.
use Rattle.std.specs.Prelude.{◌≡◌, ℕ, ◌+◌, ◌≤◌, List, ◌∷◌, ◌++◌, ◌||◌}
use Rattle.std.specs.declared.option.Option.{Option}
use Rattle.std.specs.Io.KnownBytes.{Appends}
use Rattle.itpg_base.specs.Outside.{AppendsSome}
use Rattle.itpg_base.specs.declared.outside.Sink.{Ghosts as SinkGhosts}
use Rattle.itpg_session.specs.Machine.{IsGood, opening}
use Rattle.trial_script.specs.Script.{script}
use Rattle.itpg_run.specs.Summary.{Told, told_both, Tells}
use Rattle.itpg_run.specs.declared.trial.Running.{Running}

-- what lines tell from here on
abbrev pub TellsFrom : Running → List (List ℕ) → Told → Type 0
TellsFrom r lines told = Tells r.session.limit r.session.machine r.question lines told

-- a line was taken, and what is told of it was written; what the lines behind it tell, they tell behind that
pub record Takes (held now : Option (List ℕ)) (old new : Running) (line : List ℕ) : Type 0 where
  pub told : Told
  pub goes_on : (lines : List (List ℕ)) (rest : Told) → TellsFrom new lines rest → TellsFrom old (line ∷ lines) (told_both told rest)
  pub written : Appends held now told.text
  pub wide : new.wide ≡ (old.wide || told.wide)
  pub good : IsGood old.session.machine → IsGood new.session.machine
  pub question : new.question ≤ old.question + 1

-- a front part of what is told of a line was written
pub record TakesSome (held now : Option (List ℕ)) (old : Running) (line : List ℕ) : Type 0 where
  pub told : Told
  pub goes_on : (lines : List (List ℕ)) → IsGood old.session.machine → (rest : Told) × TellsFrom old (line ∷ lines) (told_both told rest)
  pub some : AppendsSome held now told.text

-- the same of a sink, named by the ghost value of its type: before the call, and after it
module _ {K : Type 0} (sink : SinkGhosts K) (before now : K) where
  abbrev pub TakesTo : Running → Running → List ℕ → Type 0
  TakesTo old new line = Takes (sink.held before) (sink.held now) old new line

  abbrev pub TakesSomeTo : Running → List ℕ → Type 0
  TakesSomeTo old line = TakesSome (sink.held before) (sink.held now) old line

-- behind the first lines, which were taken, with these left; what lines tell from here on, they tell behind those
pub record Underway (limit number : ℕ) (start now : Option (List ℕ)) (r : Running) (left : List (List ℕ)) : Type 0 where
  pub first : List (List ℕ)
  pub split : script number ≡ first ++ left
  pub told : Told
  pub closes : (lines : List (List ℕ)) (rest : Told) → TellsFrom r lines rest → Tells limit opening 1 (first ++ lines) (told_both told rest)
  pub written : Appends start now told.text
  pub wide : r.wide ≡ told.wide
  pub good : IsGood r.session.machine
