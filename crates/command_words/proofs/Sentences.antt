-- What clap's clauses say of this command.
use Rattle.std.proofs.Common.{◌≡◌, ◌≢◌, List, [], true, Option, ap, ◌∙◌, sym, refl, subst, inl, inr}
use Rattle.clap.specs.Words.{App, Text, first_of, fault_of, matches_of, is_simple, is_simple_and_free, IsAmong, kind_of, HasKind}
use Rattle.clap.specs.declared.error.Error.{Error}
use Rattle.clap.specs.declared.error.kind.ErrorKind.TheVariants as kind
use Rattle.command_words.specs.Sentence.{command, IsSentence, value_in}

is_free : is_simple_and_free command ≡ true
is_free = refl

is_plain : is_simple command ≡ true
is_plain = refl

pub takes_words : (a : App) (words : List Text) → a ≡ command → (is_simple_and_free a ≡ true → fault_of a words ≡ []) → IsSentence words
unfolding IsSentence
takes_words a words e h = ap (λ t. fault_of t words) (sym e) ∙ h (ap is_simple_and_free e ∙ is_free)

pub refuses_words : (a : App) (words : List Text) (error : Error) → a ≡ command → (is_simple_and_free a ≡ true → HasKind (fault_of a words) error) → kind_of error ≢ kind.OutOfMemory → IsSentence words → ⊥
unfolding IsSentence
refuses_words a words error e h other sentence =
    elim (h (ap is_simple_and_free e ∙ is_free)) [ inl memory ↦ other memory | inr among ↦ subst (IsAmong (kind_of error)) (ap (λ t. fault_of t words) e ∙ sentence) among ]

pub value_is : (a : App) (words : List Text) (name : Text) (value : Option Text) → a ≡ command → (is_simple a ≡ true → value ≡ first_of name (matches_of a words)) → value ≡ value_in name words
unfolding value_in
value_is a words name value e h = h (ap is_simple e ∙ is_plain) ∙ ap (λ t. first_of name (matches_of t words)) e
