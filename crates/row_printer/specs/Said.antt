-- What was said so far: a front part is with the sink, and the rest on the page.
use Rattle.std.specs.Prelude.{◌≡◌, ℕ, List, ◌++◌}
use Rattle.std.specs.declared.option.Option.{Option}
use Rattle.std.specs.Io.KnownBytes.{Appends}
use Rattle.itpg_base.specs.Outside.{AppendsSome}
use Rattle.itpg_base.specs.declared.outside.Sink.{Ghosts}

-- since the start the sink got a front part of the text, and the page has the rest
pub record Said (start now : Option (List ℕ)) (page text : List ℕ) : Type 0 where
  pub sent : List ℕ
  pub appends : Appends start now sent
  pub split : sent ++ page ≡ text

-- more was said
abbrev pub Says : Option (List ℕ) → Option (List ℕ) → List ℕ → List ℕ → List ℕ → Type 0
Says before now old new more = (start : Option (List ℕ)) (text : List ℕ) → Said start before old text → Said start now new (text ++ more)

-- a front part of all was written, whatever was to follow
abbrev pub SaysSome : Option (List ℕ) → Option (List ℕ) → List ℕ → List ℕ → Type 0
SaysSome before now old more = (start : Option (List ℕ)) (text : List ℕ) → Said start before old text → (rest : List ℕ) → AppendsSome start now (text ++ (more ++ rest))

-- the same of a sink, by the ghost value of its type
abbrev pub SaysTo : {K : Type 0} (sink : Ghosts K) (before now : K) (old new more : List ℕ) → Type 0
SaysTo sink before now old new more = Says (sink.held before) (sink.held now) old new more

abbrev pub SaysSomeTo : {K : Type 0} (sink : Ghosts K) (before now : K) (old more : List ℕ) → Type 0
SaysSomeTo sink before now old more = SaysSome (sink.held before) (sink.held now) old more
