-- The faults of a query text, as facts of its tokens and of the trees that they spell.
use Rattle.std.specs.Prelude.{◌≡◌, ℕ, ◌+◌, ◌<◌, Bool, true, false, not, ◌||◌, List, [], ◌∷◌, ◌⊎◌, length, take, count_by, nat_lt, Option, Some, None, is_some, IsTrue}
use Rattle.itpg_base.specs.declared.text_code.TextCode.{TextCode}
use Rattle.itpg_base.specs.declared.text_code.TextCode.TheVariants.{Long, Byte, Tokens, Deep, Text, Number, Name, Range, Names, Terms}
use Rattle.itpg_base.specs.Spans.{IsMoment}
use Rattle.script_lex.specs.Lexemes.{Lexeme, AWord, ANumber, AQuote, AMark}
use Rattle.script_lex.specs.Numbers.{number_value}
use Rattle.script_lex.specs.declared.mark.Mark.TheVariants.{ParenL, ParenR, BraceL, BraceR, BrackL, BrackR}
use Rattle.script_lex.specs.declared.token.TheConstants.{MAX_TOKENS}
use Rattle.itpg_base.specs.declared.name.TheConstants.{MAX_NAME}
use Rattle.path_ast.specs.declared.counts.TheConstants.{MAX_TERMS}
use Rattle.match_parser.specs.declared.scan.TheConstants.{MAX_DEPTH}
use Rattle.path_ast.specs.Terms.{PathTerm, OfTest, Forward, Backward, Next, Previous, Sequence, Choice, Repetition, TestTerm, IsNode, IsEdge, HasLabel, HasValue, IsBelow, DoesExist, Condition, Conjunction, Disjunction, Negation}
use Rattle.path_ast.specs.Sizes.{path_size}
use Rattle.match_parser.specs.Grammar.{ChainTree, OnePattern, MorePattern, QueryTree, query_text}
use Rattle.match_parser.specs.Translation.{chain_path, first_name, last_name}

-- an opening bracket: ( [ {
abbrev pub opens : Lexeme → Bool
opens (AMark ParenL) = true
opens (AMark BrackL) = true
opens (AMark BraceL) = true
opens t = false

-- a closing bracket: ) ] }
abbrev pub closes : Lexeme → Bool
closes (AMark ParenR) = true
closes (AMark BrackR) = true
closes (AMark BraceR) = true
closes t = false

-- the tokens have more opening brackets than closing ones, by more than brackets may stand in one another
abbrev pub AreOpen : List Lexeme → Type 0
AreOpen tokens = count_by closes tokens + MAX_DEPTH < count_by opens tokens

-- some front of the tokens has
abbrev pub AreDeep : List Lexeme → Type 0
AreDeep tokens = (k : ℕ) × AreOpen (take k tokens)

-- some token is so
abbrev pub SomeToken : (Lexeme → Type 0) → List Lexeme → Type 0
SomeToken Is [] = ⊥
SomeToken Is (t ∷ ts) = Is t ⊎ SomeToken Is ts

-- a number below -10^12 or above 10^12
abbrev pub IsWild : Lexeme → Type 0
IsWild (ANumber number) = ¬ IsMoment (number_value number)
IsWild t = ⊥

-- a word or a quoted text longer than a name may be
abbrev pub IsOverlong : Lexeme → Type 0
IsOverlong (AWord word) = MAX_NAME < length word
IsOverlong (AQuote text) = MAX_NAME < length text
IsOverlong t = ⊥

-- the least number of times is above the most
abbrev pub is_backwards : ℕ → Option ℕ → Bool
is_backwards n None = false
is_backwards n (Some m) = nat_lt m n

-- somewhere in the path the least number of times of a repetition is above the most
abbrev mutual
  pub has_backwards : PathTerm → Bool
  has_backwards (OfTest c) = test_has_backwards c
  has_backwards Forward = false
  has_backwards Backward = false
  has_backwards Next = false
  has_backwards Previous = false
  has_backwards (Sequence a b) = has_backwards a || has_backwards b
  has_backwards (Choice a b) = has_backwards a || has_backwards b
  has_backwards (Repetition a n m) = is_backwards n m || has_backwards a

  pub test_has_backwards : TestTerm → Bool
  test_has_backwards IsNode = false
  test_has_backwards IsEdge = false
  test_has_backwards (HasLabel label) = false
  test_has_backwards (HasValue property value) = false
  test_has_backwards (IsBelow k) = false
  test_has_backwards DoesExist = false
  test_has_backwards (Condition a) = has_backwards a
  test_has_backwards (Conjunction a b) = test_has_backwards a || test_has_backwards b
  test_has_backwards (Disjunction a b) = test_has_backwards a || test_has_backwards b
  test_has_backwards (Negation a) = test_has_backwards a

-- some pattern behind the first has a name
abbrev pub later_named : ChainTree → Bool
later_named (OnePattern p) = false
later_named (MorePattern c a p) = later_named c || is_some p.name

-- some pattern that is neither the first nor the last has a name
abbrev pub inner_named : ChainTree → Bool
inner_named (OnePattern p) = false
inner_named (MorePattern c a p) = later_named c

-- no pattern has a name
abbrev pub IsNameless : ChainTree → Type 0
IsNameless c = (first_name c ≡ None) × IsTrue (not (later_named c))

-- there are two patterns or more, and the first and the last have the same name
abbrev pub IsNameTwice : ChainTree → Type 0
IsNameTwice c = (name : List ℕ) × (first_name c ≡ Some name) × (last_name c ≡ Some name)

abbrev pub AreNamesWrong : ChainTree → Type 0
AreNamesWrong c = IsTrue (inner_named c) ⊎ (IsNameless c ⊎ IsNameTwice c)

-- the path has more than 1,024 terms
abbrev pub HasManyTerms : PathTerm → Type 0
HasManyTerms p = MAX_TERMS < path_size p

-- the tokens are a query, and it is so
abbrev pub SpellsSome : List Lexeme → (QueryTree → Type 0) → Type 0
SpellsSome tokens Is = (q : QueryTree) × (query_text q ≡ tokens) × Is q

-- a text with these tokens, which end with this fault or none, has the fault
abbrev pub Meets : List Lexeme → Option TextCode → TextCode → Type 0
Meets tokens end Long = ⊥
Meets tokens end Byte = end ≡ Some Byte
Meets tokens end Tokens = MAX_TOKENS < length tokens
Meets tokens end Deep = AreDeep tokens
Meets tokens end Text = (end ≡ Some Text) ⊎ ((q : QueryTree) → query_text q ≡ tokens → ⊥)
Meets tokens end Number = SomeToken IsWild tokens
Meets tokens end Name = SomeToken IsOverlong tokens
Meets tokens end Range = SpellsSome tokens (λ q. IsTrue (has_backwards (chain_path q.chain)))
Meets tokens end Names = SpellsSome tokens (λ q. AreNamesWrong q.chain)
Meets tokens end Terms = SpellsSome tokens (λ q. HasManyTerms (chain_path q.chain))
