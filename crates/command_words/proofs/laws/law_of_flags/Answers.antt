use Rattle.std.proofs.Common.{refl}
use Rattle.clap.proofs.OnLiterals.{clap_on_literals}
use Rattle.command_words.specs.Sentence.{IsSentence, value_in, has_flag}
use Rattle.command_words.proofs.laws.law_of_flags.Goals as goal

pub returns-clause-none : goal.returns-clause-none
unfolding IsSentence value_in has_flag clap_on_literals
returns-clause-none c = (refl, refl)

pub returns-clause-alone : goal.returns-clause-alone
unfolding IsSentence value_in has_flag clap_on_literals
returns-clause-alone c = (refl, refl)

pub returns-clause-behind : goal.returns-clause-behind
unfolding IsSentence value_in has_flag clap_on_literals
returns-clause-behind c = (refl, refl)

pub returns-clause-before : goal.returns-clause-before
unfolding IsSentence value_in has_flag clap_on_literals
returns-clause-before c = (refl, refl)

pub returns-clause-as_value : goal.returns-clause-as_value
unfolding IsSentence value_in has_flag clap_on_literals
returns-clause-as_value c = λ e. cc

pub returns-clause-with_value : goal.returns-clause-with_value
unfolding IsSentence value_in has_flag clap_on_literals
returns-clause-with_value c = λ e. cc

pub returns-clause-twice : goal.returns-clause-twice
unfolding IsSentence value_in has_flag clap_on_literals
returns-clause-twice c = λ e. cc
