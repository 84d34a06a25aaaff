-- The front of some tokens: whether the first is so, and which word it is. No public clause names this.
use Rattle.std.specs.Prelude.{ℕ, Bool, false, nat_eq, List, [], ◌∷◌, Option, Some, None, find, if◌then◌else◌}
use Rattle.std.specs.Cmp.Lexicographic.{pointwise}
use Rattle.script_lex.specs.declared.mark.Mark.{Mark}
use Rattle.script_lex.specs.declared.mark.Mark.TheVariants.{Comma}
use Rattle.script_lex.specs.Marks.{mark_text}
use Rattle.script_lex.specs.Lexemes.{Lexeme, AWord, ANumber, AQuote, AMark}
use Rattle.match_parser.specs.declared.words.Keyword.{Keyword}
use Rattle.match_parser.specs.declared.words.Keyword.TheVariants.{Not, And, Or, Node, Edge, Exists, Time}
use Rattle.match_parser.specs.declared.words.Axis.{Axis}
use Rattle.match_parser.specs.declared.words.Axis.TheVariants.{Fwd, Bwd, Next, Prev, F, B, N, P}
use Rattle.match_parser.specs.Words.{keyword_text, axis_text}

-- the token is this mark
abbrev pub is_mark : Mark → Lexeme → Bool
is_mark m (AWord w) = false
is_mark m (ANumber n) = false
is_mark m (AQuote q) = false
is_mark m (AMark k) = pointwise nat_eq (mark_text k) (mark_text m)

-- the token is this word
abbrev pub is_word : List ℕ → Lexeme → Bool
is_word text (AWord w) = pointwise nat_eq w text
is_word text (ANumber n) = false
is_word text (AQuote q) = false
is_word text (AMark k) = false

-- the token is `,` or the word `AND`
abbrev pub is_both : Lexeme → Bool
is_both (AWord w) = pointwise nat_eq w (keyword_text And)
is_both (ANumber n) = false
is_both (AQuote q) = false
is_both (AMark k) = is_mark Comma (AMark k)

-- the tokens behind the first, where that passes the test
abbrev pub behind : (Lexeme → Bool) → List Lexeme → Option (List Lexeme)
behind test [] = None
behind test (t ∷ ts) = if test t then Some ts else None

abbrev pub all_keywords : List Keyword
all_keywords = Exists ∷ Node ∷ Edge ∷ Time ∷ Not ∷ And ∷ Or ∷ []

-- the keyword that the word is
abbrev pub keyword_of : List ℕ → Option Keyword
keyword_of w = find (λ k. pointwise nat_eq w (keyword_text k)) all_keywords

abbrev pub all_axes : List Axis
all_axes = Fwd ∷ Bwd ∷ Next ∷ Prev ∷ F ∷ B ∷ N ∷ P ∷ []

-- the step that the word is
abbrev pub axis_of : List ℕ → Option Axis
axis_of w = find (λ a. pointwise nat_eq w (axis_text a)) all_axes
