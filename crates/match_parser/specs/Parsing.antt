-- Reading tokens from the left: what the first tokens stand for, and the tokens behind them. No public clause names this.
use Rattle.std.specs.Prelude.{ℕ, zero, suc, ℤ, pos, ◌+ℤ◌, Bool, false, ◌||◌, List, [], ◌∷◌, Option, Some, None, is_some, if◌then◌else◌}
use Rattle.script_lex.specs.declared.mark.Mark.{Mark}
use Rattle.script_lex.specs.declared.mark.Mark.TheVariants.{DashSlash, SlashDash, AtLeast, ParenL, ParenR, BraceL, BraceR, BrackL, BrackR, Colon, Comma, Plus, Star, Slash, Ask, Equal, Less, Under}
use Rattle.script_lex.specs.Lexemes.{Lexeme, AWord, ANumber, AQuote, AMark}
use Rattle.path_ast.specs.Terms.{PathTerm, OfTest, Sequence, Choice, Repetition, TestTerm, IsNode, IsEdge, HasLabel, HasValue, IsBelow, DoesExist, Condition, Conjunction, Disjunction, Negation}
use Rattle.match_parser.specs.declared.words.Keyword.{Keyword}
use Rattle.match_parser.specs.declared.words.Keyword.TheVariants.{Not, And, Or, Node, Edge, Exists, Time}
use Rattle.match_parser.specs.declared.words.Axis.{Axis}
use Rattle.match_parser.specs.Words.{keyword_text, match_text, on_text, is_signed}
use Rattle.match_parser.specs.Heads.{is_mark, is_word, is_both, behind, keyword_of, axis_of}
use Rattle.match_parser.specs.Kept.{kept_name, kept_value, kept_count}
use Rattle.match_parser.specs.Translation.{axis_path, node_test}

-- what was read, and the tokens behind it
abbrev pub Found : Type 0 → Type 0
Found X = Option (X × List Lexeme)

abbrev pub then_read : {X Y : Type 0} → Option (X × List Lexeme) → (X → List Lexeme → Option Y) → Option Y
then_read None f = None
then_read (Some x) f = f x.0 x.1

-- by the tokens behind the first, or else
abbrev pub chosen : {Y : Type 0} → Option (List Lexeme) → (List Lexeme → Option Y) → Option Y → Option Y
chosen None f other = other
chosen (Some rest) f other = f rest

-- with a mark behind it
abbrev pub closing : {X : Type 0} → Mark → X → List Lexeme → Option (X × List Lexeme)
closing m x ts = chosen (behind (is_mark m) ts) (λ rest. Some (x, rest)) None

abbrev pub closed : {X : Type 0} → Mark → Option (X × List Lexeme) → Option (X × List Lexeme)
closed m f = then_read f (closing m)

-- more parts, as long as a joint comes
unfoldable pub more_by : {X Y : Type 0} → (Lexeme → Bool) → (X → Y → X) → (List Lexeme → Option (Y × List Lexeme)) → ℕ → X → List Lexeme → Option (X × List Lexeme)
more_by joint join part zero x ts = None
more_by joint join part (suc n) x ts = chosen (behind joint ts) (λ tail. then_read (part tail) (λ y rest. more_by joint join part n (join x y) rest)) (Some (x, ts))

-- one part or more, joined from the left
abbrev pub list_by : {X : Type 0} → (Lexeme → Bool) → (X → X → X) → (List Lexeme → Option (X × List Lexeme)) → ℕ → List Lexeme → Option (X × List Lexeme)
list_by joint join part n ts = then_read (part ts) (λ x rest. more_by joint join part n x rest)

abbrev pub word_at : List Lexeme → Found (List ℕ)
word_at [] = None
word_at (AWord w ∷ ts) = Some (w, ts)
word_at (ANumber n ∷ ts) = None
word_at (AQuote q ∷ ts) = None
word_at (AMark m ∷ ts) = None

abbrev pub quote_at : List Lexeme → Found (List ℕ)
quote_at [] = None
quote_at (AWord w ∷ ts) = None
quote_at (ANumber n ∷ ts) = None
quote_at (AQuote q ∷ ts) = Some (q, ts)
quote_at (AMark m ∷ ts) = None

abbrev pub number_at : List Lexeme → Found (List ℕ)
number_at [] = None
number_at (AWord w ∷ ts) = None
number_at (ANumber n ∷ ts) = Some (n, ts)
number_at (AQuote q ∷ ts) = None
number_at (AMark m ∷ ts) = None

abbrev pub moment_at : List Lexeme → Found ℤ
moment_at ts = then_read (number_at ts) (λ n rest. Some (kept_value n, rest))

-- a number without `-`
abbrev pub count_at : List Lexeme → Found ℕ
count_at ts = then_read (number_at ts) (λ n rest. if is_signed n then None else Some (kept_count n, rest))

-- behind `[ n ,`: the most, or `_`
unfoldable pub most_at : List Lexeme → Found (Option ℕ)
most_at ts = chosen (behind (is_mark Under) ts) (λ rest. Some (None, rest)) (then_read (count_at ts) (λ m rest. Some (Some m, rest)))

-- behind `[`: the least and the most
unfoldable pub bounds_at : List Lexeme → Found (ℕ × Option ℕ)
bounds_at ts = then_read (count_at ts) (λ n rest. chosen (behind (is_mark Comma) rest) (λ after. then_read (most_at after) (λ m end. closing BrackR (let b : ℕ × Option ℕ = (n, m) in b) end)) None)

-- how many times, or nothing
unfoldable pub times_at : List Lexeme → Found (Option (ℕ × Option ℕ))
times_at ts = chosen (behind (is_mark Star) ts) (λ rest. Some (Some (0, None), rest)) (chosen (behind (is_mark BrackL) ts) (λ rest. then_read (bounds_at rest) (λ b after. Some (Some b, after))) (Some (None, ts)))

-- the path so many times
abbrev pub repeated : Option (ℕ × Option ℕ) → PathTerm → PathTerm
repeated None p = p
repeated (Some b) p = Repetition p b.0 b.1

abbrev pub rep_by : Found PathTerm → Found PathTerm
rep_by f = then_read f (λ p rest. then_read (times_at rest) (λ t after. Some (repeated t p, after)))

-- behind `:`
unfoldable pub label_at : List Lexeme → Found TestTerm
label_at ts = then_read (word_at ts) (λ w rest. Some (HasLabel (kept_name w), rest))

-- behind a word that is no keyword
abbrev pub property_at : List ℕ → List Lexeme → Found TestTerm
property_at w ts = chosen (behind (is_mark Equal) ts) (λ rest. then_read (quote_at rest) (λ v after. Some (HasValue (kept_name w) (kept_name v), after))) None

-- behind `time`
abbrev pub time_at : List Lexeme → Found TestTerm
time_at ts =
    chosen (behind (is_mark Less) ts) (λ rest. then_read (moment_at rest) (λ k after. Some (IsBelow k, after))) (
    chosen (behind (is_mark Equal) ts) (λ rest. then_read (moment_at rest) (λ k after. Some (Conjunction (Negation (IsBelow k)) (IsBelow (k +ℤ pos 1)), after))) (
    chosen (behind (is_mark AtLeast) ts) (λ rest. then_read (moment_at rest) (λ k after. Some (Negation (IsBelow k), after))) None
    )
    )

abbrev pub fact_by : Option Keyword → List ℕ → List Lexeme → Found TestTerm
fact_by None w ts = property_at w ts
fact_by (Some Not) w ts = None
fact_by (Some And) w ts = None
fact_by (Some Or) w ts = None
fact_by (Some Node) w ts = Some (IsNode, ts)
fact_by (Some Edge) w ts = Some (IsEdge, ts)
fact_by (Some Exists) w ts = Some (DoesExist, ts)
fact_by (Some Time) w ts = time_at ts

unfoldable pub fact_at : List Lexeme → Found TestTerm
fact_at ts = chosen (behind (is_mark Colon) ts) label_at (then_read (word_at ts) (λ w rest. fact_by (keyword_of w) w rest))

abbrev pub step_by : Option Axis → List Lexeme → Found PathTerm
step_by None ts = None
step_by (Some a) ts = Some (axis_path a, ts)

unfoldable pub step_at : List Lexeme → Found PathTerm
step_at ts = then_read (word_at ts) (λ w rest. step_by (axis_of w) rest)

-- behind `?`
abbrev pub asked_by : (List Lexeme → Found PathTerm) → List Lexeme → Found PathTerm
asked_by alts ts = chosen (behind (is_mark ParenL) ts) (λ rest. closed ParenR (alts rest)) None

abbrev pub atom_by : (List Lexeme → Found PathTerm) → (List Lexeme → Found TestTerm) → List Lexeme → Found PathTerm
atom_by alts ors ts =
    chosen (behind (is_mark Colon) ts) (λ rest. then_read (label_at rest) (λ c after. Some (OfTest c, after))) (
    chosen (behind (is_mark BraceL) ts) (λ rest. then_read (closed BraceR (ors rest)) (λ c after. Some (OfTest c, after))) (
    chosen (behind (is_mark Ask) ts) (λ rest. then_read (asked_by alts rest) (λ p after. Some (OfTest (Condition p), after))) (
    chosen (behind (is_mark ParenL) ts) (λ rest. closed ParenR (alts rest)) (step_at ts)
    )
    )
    )

abbrev pub unary_by : (List Lexeme → Found TestTerm) → List Lexeme → Found TestTerm
unary_by prims ts = chosen (behind (is_word (keyword_text Not)) ts) (λ rest. then_read (prims rest) (λ c after. Some (Negation c, after))) (prims ts)

abbrev pub prim_by : (List Lexeme → Found PathTerm) → (List Lexeme → Found TestTerm) → List Lexeme → Found TestTerm
prim_by alts ors ts =
    chosen (behind (is_mark Ask) ts) (λ rest. then_read (asked_by alts rest) (λ p after. Some (Condition p, after))) (
    chosen (behind (is_mark ParenL) ts) (λ rest. closed ParenR (ors rest)) (fact_at ts)
    )

unfoldable mutual
  pub alt_at : ℕ → List Lexeme → Found PathTerm
  alt_at zero ts = None
  alt_at (suc n) ts = list_by (is_mark Plus) Choice (seq_at n) n ts

  pub seq_at : ℕ → List Lexeme → Found PathTerm
  seq_at zero ts = None
  seq_at (suc n) ts = list_by (is_mark Slash) Sequence (rep_at n) n ts

  pub rep_at : ℕ → List Lexeme → Found PathTerm
  rep_at zero ts = None
  rep_at (suc n) ts = rep_by (atom_at n ts)

  pub atom_at : ℕ → List Lexeme → Found PathTerm
  atom_at zero ts = None
  atom_at (suc n) ts = atom_by (alt_at n) (or_at n) ts

  pub or_at : ℕ → List Lexeme → Found TestTerm
  or_at zero ts = None
  or_at (suc n) ts = list_by (is_word (keyword_text Or)) Disjunction (and_at n) n ts

  pub and_at : ℕ → List Lexeme → Found TestTerm
  and_at zero ts = None
  and_at (suc n) ts = list_by is_both Conjunction (unary_at n) n ts

  pub unary_at : ℕ → List Lexeme → Found TestTerm
  unary_at zero ts = None
  unary_at (suc n) ts = unary_by (prim_at n) ts

  pub prim_at : ℕ → List Lexeme → Found TestTerm
  prim_at zero ts = None
  prim_at (suc n) ts = prim_by (alt_at n) (or_at n) ts

-- a pattern as it is read: its name, and its test as a path
pub record Pattern : Type 0 where
  pub name : Option (List ℕ)
  pub path : PathTerm

-- the patterns so far: the path through them; the names of the first and, behind it, of the last; whether a pattern behind
-- the first has a name, and whether one of those does that is not the last
pub record Chain : Type 0 where
  pub path : PathTerm
  pub first : Option (List ℕ)
  pub last : Option (List ℕ)
  pub later : Bool
  pub inner : Bool

abbrev pub chain_of : Pattern → Chain
chain_of p = record { path = p.path; first = p.name; last = None; later = false; inner = false }

abbrev pub with_piece : Chain → PathTerm × Pattern → Chain
with_piece c piece = record { path = Sequence (Sequence c.path piece.0) (piece.1).path; first = c.first; last = (piece.1).name; later = c.later || is_some (piece.1).name; inner = c.later }

abbrev pub name_at : List Lexeme → Found (Option (List ℕ))
name_at [] = Some (None, [])
name_at (AWord w ∷ ts) = Some (Some (kept_name w), ts)
name_at (ANumber n ∷ ts) = Some (None, ANumber n ∷ ts)
name_at (AQuote q ∷ ts) = Some (None, AQuote q ∷ ts)
name_at (AMark m ∷ ts) = Some (None, AMark m ∷ ts)

abbrev pub and_label : TestTerm → List Lexeme → Found TestTerm
and_label c ts = chosen (behind (is_mark Colon) ts) (λ rest. then_read (label_at rest) (λ d after. Some (Conjunction c d, after))) (Some (c, ts))

abbrev pub and_tests : (List Lexeme → Found TestTerm) → TestTerm → List Lexeme → Found TestTerm
and_tests ors c ts = chosen (behind (is_mark BraceL) ts) (λ rest. then_read (closed BraceR (ors rest)) (λ d after. Some (Conjunction c d, after))) (Some (c, ts))

abbrev pub tested_by : (List Lexeme → Found TestTerm) → Option (List ℕ) → TestTerm → List Lexeme → Found Pattern
tested_by ors name c ts = then_read (and_tests ors c ts) (λ d rest. closing ParenR (let p : Pattern = record { name = name; path = OfTest d } in p) rest)

abbrev pub labelled_by : (List Lexeme → Found TestTerm) → Option (List ℕ) → List Lexeme → Found Pattern
labelled_by ors name ts = then_read (and_label node_test ts) (tested_by ors name)

-- behind `(`
abbrev pub inside_by : (List Lexeme → Found TestTerm) → List Lexeme → Found Pattern
inside_by ors ts = then_read (name_at ts) (labelled_by ors)

unfoldable pub pattern_by : (List Lexeme → Found TestTerm) → List Lexeme → Found Pattern
pattern_by ors ts = chosen (behind (is_mark ParenL) ts) (inside_by ors) None

-- behind `-/`
unfoldable pub piece_by : (List Lexeme → Found PathTerm) → (List Lexeme → Found TestTerm) → List Lexeme → Found (PathTerm × Pattern)
piece_by alts ors ts = then_read (closed SlashDash (alts ts)) (λ p rest. then_read (pattern_by ors rest) (λ q after. Some ((p, q), after)))

-- with fuel, the patterns and the paths between them
abbrev pub chain_at : ℕ → List Lexeme → Found Chain
chain_at n ts = then_read (pattern_by (or_at n) ts) (λ p rest. more_by (is_mark DashSlash) with_piece (piece_by (alt_at n) (or_at n)) n (chain_of p) rest)

-- nothing behind it
abbrev pub ended : {X : Type 0} → X → List Lexeme → Option X
ended x [] = Some x
ended x (t ∷ ts) = None

-- the name of the graph, if there is one, and the end
unfoldable pub graph_at : List Lexeme → Option (Option (List ℕ))
graph_at ts = chosen (behind (is_word on_text) ts) (λ rest. then_read (word_at rest) (λ w end. ended (Some (kept_name w)) end)) (ended None ts)

abbrev pub with_graph : Chain → Option (Option (List ℕ)) → Option (Chain × Option (List ℕ))
with_graph c None = None
with_graph c (Some g) = Some (c, g)

-- the whole of a query
abbrev pub query_at : ℕ → List Lexeme → Option (Chain × Option (List ℕ))
query_at n ts = chosen (behind (is_word match_text) ts) (λ rest. then_read (chain_at n rest) (λ c after. with_graph c (graph_at after))) None
