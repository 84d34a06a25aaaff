-- The grammar: the trees of each rule, one constructor for each way in which the rule goes, and how each tree is spelled.
use Rattle.std.specs.Prelude.{ℕ, List, [], ◌∷◌, ◌++◌, Option, Some, None, IsFalse}
use Rattle.script_lex.specs.Lexemes.{Lexeme, AWord, ANumber, AQuote, AMark}
use Rattle.script_lex.specs.declared.mark.Mark.TheVariants.{DashSlash, SlashDash, AtLeast, ParenL, ParenR, BraceL, BraceR, BrackL, BrackR, Colon, Comma, Plus, Star, Slash, Ask, Equal, Less, Under}
use Rattle.match_parser.specs.declared.words.Keyword.TheVariants.{Not, And, Or, Node, Edge, Exists, Time}
use Rattle.match_parser.specs.declared.words.Axis.{Axis}
use Rattle.match_parser.specs.Words.{keyword_text, axis_text, match_text, on_text, IsProperty, is_signed}

-- times : nothing | * | [ n , m ] | [ n , _ ]     where n and m are numbers without `-`
pub data TimesTree : Type 0 where
  Once : TimesTree
  Starred : TimesTree
  FromTo : (n m : List ℕ) → IsFalse (is_signed n) → IsFalse (is_signed m) → TimesTree
  FromOn : (n : List ℕ) → IsFalse (is_signed n) → TimesTree

-- fact : prop = value | time < k | time = k | time >= k | : label | NODE | EDGE | EXISTS
pub data FactTree : Type 0 where
  PropertyIs : (property value : List ℕ) → IsProperty property → FactTree
  TimeBelow : List ℕ → FactTree
  TimeAt : List ℕ → FactTree
  TimeFrom : List ℕ → FactTree
  Labelled : List ℕ → FactTree
  NodeFact : FactTree
  EdgeFact : FactTree
  ExistsFact : FactTree

-- between two tests that both have to hold: , | AND
pub data BothTree : Type 0 where
  ByComma : BothTree
  ByWord : BothTree

mutual
  -- alt : seq | alt + seq
  pub data AltTree : Type 0 where
    OneSeq : SeqTree → AltTree
    MoreSeq : AltTree → SeqTree → AltTree

  -- seq : rep | seq / rep
  pub data SeqTree : Type 0 where
    OneRep : RepTree → SeqTree
    MoreRep : SeqTree → RepTree → SeqTree

  -- rep : atom times
  pub data RepTree : Type 0 where
    AtomTimes : AtomTree → TimesTree → RepTree

  -- atom : FWD | BWD | NEXT | PREV | F | B | N | P | : label | { or } | ? ( alt ) | ( alt )
  pub data AtomTree : Type 0 where
    Step : Axis → AtomTree
    AtLabel : List ℕ → AtomTree
    Braced : OrTree → AtomTree
    Asked : AltTree → AtomTree
    Grouped : AltTree → AtomTree

  -- or : and | or OR and
  pub data OrTree : Type 0 where
    OneAnd : AndTree → OrTree
    MoreAnd : OrTree → AndTree → OrTree

  -- and : unary | and , unary | and AND unary
  pub data AndTree : Type 0 where
    OneUnary : UnaryTree → AndTree
    MoreUnary : AndTree → BothTree → UnaryTree → AndTree

  -- unary : prim | NOT prim
  pub data UnaryTree : Type 0 where
    Plain : PrimTree → UnaryTree
    Negated : PrimTree → UnaryTree

  -- prim : fact | ? ( alt ) | ( or )
  pub data PrimTree : Type 0 where
    OfFact : FactTree → PrimTree
    OfPath : AltTree → PrimTree
    OfTests : OrTree → PrimTree

-- pattern : ( [ name ] [ : label ] [ { or } ] )     where what stands in [ ] may be missing
pub record PatternTree : Type 0 where
  pub name : Option (List ℕ)
  pub label : Option (List ℕ)
  pub tests : Option OrTree

-- chain : pattern | chain -/ alt /- pattern
pub data ChainTree : Type 0 where
  OnePattern : PatternTree → ChainTree
  MorePattern : ChainTree → AltTree → PatternTree → ChainTree

-- query : MATCH chain [ ON name ]
pub record QueryTree : Type 0 where
  pub chain : ChainTree
  pub graph_name : Option (List ℕ)

abbrev pub times_text : TimesTree → List Lexeme
times_text Once = []
times_text Starred = AMark Star ∷ []
times_text (FromTo n m p q) = AMark BrackL ∷ ANumber n ∷ AMark Comma ∷ ANumber m ∷ AMark BrackR ∷ []
times_text (FromOn n p) = AMark BrackL ∷ ANumber n ∷ AMark Comma ∷ AMark Under ∷ AMark BrackR ∷ []

abbrev pub fact_text : FactTree → List Lexeme
fact_text (PropertyIs property value p) = AWord property ∷ AMark Equal ∷ AQuote value ∷ []
fact_text (TimeBelow k) = AWord (keyword_text Time) ∷ AMark Less ∷ ANumber k ∷ []
fact_text (TimeAt k) = AWord (keyword_text Time) ∷ AMark Equal ∷ ANumber k ∷ []
fact_text (TimeFrom k) = AWord (keyword_text Time) ∷ AMark AtLeast ∷ ANumber k ∷ []
fact_text (Labelled label) = AMark Colon ∷ AWord label ∷ []
fact_text NodeFact = AWord (keyword_text Node) ∷ []
fact_text EdgeFact = AWord (keyword_text Edge) ∷ []
fact_text ExistsFact = AWord (keyword_text Exists) ∷ []

abbrev pub both_text : BothTree → Lexeme
both_text ByComma = AMark Comma
both_text ByWord = AWord (keyword_text And)

abbrev mutual
  pub alt_text : AltTree → List Lexeme
  alt_text (OneSeq s) = seq_text s
  alt_text (MoreSeq a s) = alt_text a ++ AMark Plus ∷ seq_text s

  pub seq_text : SeqTree → List Lexeme
  seq_text (OneRep r) = rep_text r
  seq_text (MoreRep s r) = seq_text s ++ AMark Slash ∷ rep_text r

  pub rep_text : RepTree → List Lexeme
  rep_text (AtomTimes a t) = atom_text a ++ times_text t

  pub atom_text : AtomTree → List Lexeme
  atom_text (Step axis) = AWord (axis_text axis) ∷ []
  atom_text (AtLabel label) = AMark Colon ∷ AWord label ∷ []
  atom_text (Braced o) = AMark BraceL ∷ (or_text o ++ AMark BraceR ∷ [])
  atom_text (Asked a) = AMark Ask ∷ AMark ParenL ∷ (alt_text a ++ AMark ParenR ∷ [])
  atom_text (Grouped a) = AMark ParenL ∷ (alt_text a ++ AMark ParenR ∷ [])

  pub or_text : OrTree → List Lexeme
  or_text (OneAnd a) = and_text a
  or_text (MoreAnd o a) = or_text o ++ AWord (keyword_text Or) ∷ and_text a

  pub and_text : AndTree → List Lexeme
  and_text (OneUnary u) = unary_text u
  and_text (MoreUnary a b u) = and_text a ++ both_text b ∷ unary_text u

  pub unary_text : UnaryTree → List Lexeme
  unary_text (Plain p) = prim_text p
  unary_text (Negated p) = AWord (keyword_text Not) ∷ prim_text p

  pub prim_text : PrimTree → List Lexeme
  prim_text (OfFact f) = fact_text f
  prim_text (OfPath a) = AMark Ask ∷ AMark ParenL ∷ (alt_text a ++ AMark ParenR ∷ [])
  prim_text (OfTests o) = AMark ParenL ∷ (or_text o ++ AMark ParenR ∷ [])

abbrev pub name_text : Option (List ℕ) → List Lexeme
name_text None = []
name_text (Some name) = AWord name ∷ []

abbrev pub label_text : Option (List ℕ) → List Lexeme
label_text None = []
label_text (Some label) = AMark Colon ∷ AWord label ∷ []

abbrev pub tests_text : Option OrTree → List Lexeme
tests_text None = []
tests_text (Some o) = AMark BraceL ∷ (or_text o ++ AMark BraceR ∷ [])

abbrev pub pattern_text : PatternTree → List Lexeme
pattern_text p = AMark ParenL ∷ (name_text p.name ++ (label_text p.label ++ (tests_text p.tests ++ AMark ParenR ∷ [])))

abbrev pub chain_text : ChainTree → List Lexeme
chain_text (OnePattern p) = pattern_text p
chain_text (MorePattern c a p) = chain_text c ++ AMark DashSlash ∷ (alt_text a ++ AMark SlashDash ∷ pattern_text p)

abbrev pub graph_text : Option (List ℕ) → List Lexeme
graph_text None = []
graph_text (Some name) = AWord on_text ∷ AWord name ∷ []

abbrev pub query_text : QueryTree → List Lexeme
query_text q = AWord match_text ∷ (chain_text q.chain ++ graph_text q.graph_name)
