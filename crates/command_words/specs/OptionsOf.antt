-- What the words of a command line ask for.
use Rattle.std.specs.Prelude.{◌≡◌, ℕ, ◌<◌, ◌≤◌, ◌^◌, List, Some, None, codes, IsSomeAnd}
use Rattle.std.specs.declared.option.Option.{Option}
use Rattle.clap.specs.Words.{Text}
use Rattle.command_words.specs.Sentence.{IsSentence, value_in, has_flag}
use Rattle.command_words.specs.Numbers.{Writes}
use Rattle.command_words.specs.declared.options.Options.{Options}

-- a limit of rows is from 1 to 1,000,000
pub record IsLimit (text : Text) (n : ℕ) : Type 0 where
  pub written : Writes text n
  pub least : 1 ≤ n
  pub most : n ≤ 1000000

-- the number of a trial is from 0 to 2^64 - 1
pub record IsTrial (text : Text) (n : ℕ) : Type 0 where
  pub written : Writes text n
  pub most : n < 2 ^ 64

-- the limit that a value asks for; without a value 100,000
abbrev pub LimitIs : Option Text → ℕ → Type 0
LimitIs None n = n ≡ 100000
LimitIs (Some text) n = IsLimit text n

-- the trial that a value asks for; without a value there is none
abbrev pub TrialIs : Option Text → Option ℕ → Type 0
TrialIs None trial = trial ≡ None
TrialIs (Some text) trial = IsSomeAnd trial (IsTrial text)

-- the words are a sentence, and the values and the flag that they give ask for this
pub record AreOptionsOf (words : List Text) (o : Options) : Type 0 where
  pub sentence : IsSentence words
  pub limit : LimitIs (value_in (codes "max-rows") words) o.limits
  pub trial : TrialIs (value_in (codes "trial") words) o.trial
  pub json : o.json ≡ has_flag (codes "json") words
