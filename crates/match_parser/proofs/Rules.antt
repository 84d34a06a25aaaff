-- The levels of the grammar, and what each way through a rule comes to with enough fuel.
use Rattle.std.proofs.Common.{◌≡◌, ℕ, suc, List, refl}
use Rattle.script_lex.specs.declared.mark.Mark.TheVariants.{DashSlash, Plus, Slash}
use Rattle.script_lex.specs.Lexemes.{Lexeme}
use Rattle.path_ast.specs.Terms.{PathTerm, Sequence, Choice, TestTerm, Conjunction, Disjunction}
use Rattle.match_parser.specs.declared.words.Keyword.TheVariants.{Or}
use Rattle.match_parser.specs.Words.{keyword_text}
use Rattle.match_parser.specs.Heads.{is_mark, is_word, is_both}
use Rattle.match_parser.specs.Parsing.{rep_by, then_read, more_by, atom_by, unary_by, prim_by, alt_at, seq_at, rep_at, atom_at, or_at, and_at, unary_at, prim_at, Chain, chain_of, with_piece, pattern_by, piece_by, chain_at}
use Rattle.match_parser.proofs.Lists.{SoFar}

pub alts_is : (m : ℕ) (ts : List Lexeme) → alt_at (suc m) ts ≡ then_read (seq_at m ts) (λ z rest. more_by (is_mark Plus) Choice (seq_at m) m z rest)
unfolding alt_at
alts_is m ts = refl

pub seqs_is : (m : ℕ) (ts : List Lexeme) → seq_at (suc m) ts ≡ then_read (rep_at m ts) (λ z rest. more_by (is_mark Slash) Sequence (rep_at m) m z rest)
unfolding alt_at
seqs_is m ts = refl

pub ors_is : (m : ℕ) (ts : List Lexeme) → or_at (suc m) ts ≡ then_read (and_at m ts) (λ z rest. more_by (is_word (keyword_text Or)) Disjunction (and_at m) m z rest)
unfolding alt_at
ors_is m ts = refl

pub ands_is : (m : ℕ) (ts : List Lexeme) → and_at (suc m) ts ≡ then_read (unary_at m ts) (λ z rest. more_by is_both Conjunction (unary_at m) m z rest)
unfolding alt_at
ands_is m ts = refl

pub reps_is : (m : ℕ) (ts : List Lexeme) → rep_at (suc m) ts ≡ rep_by (atom_at m ts)
unfolding alt_at
reps_is m ts = refl

pub atoms_is : (m : ℕ) (ts : List Lexeme) → atom_at (suc m) ts ≡ atom_by (alt_at m) (or_at m) ts
unfolding alt_at
atoms_is m ts = refl

pub unaries_is : (m : ℕ) (ts : List Lexeme) → unary_at (suc m) ts ≡ unary_by (prim_at m) ts
unfolding alt_at
unaries_is m ts = refl

pub prims_is : (m : ℕ) (ts : List Lexeme) → prim_at (suc m) ts ≡ prim_by (alt_at m) (or_at m) ts
unfolding alt_at
prims_is m ts = refl

pub chains_is : (m : ℕ) (ts : List Lexeme) → chain_at m ts ≡ then_read (pattern_by (or_at m) ts) (λ z rest. more_by (is_mark DashSlash) with_piece (piece_by (alt_at m) (or_at m)) m (chain_of z) rest)
chains_is m ts = refl

-- how far reading came, at each level
abbrev pub AltSoFar : List Lexeme → List Lexeme → PathTerm → Type 0
AltSoFar = SoFar (is_mark Plus) Choice seq_at (λ m. alt_at (suc m)) 3

abbrev pub SeqSoFar : List Lexeme → List Lexeme → PathTerm → Type 0
SeqSoFar = SoFar (is_mark Slash) Sequence rep_at (λ m. seq_at (suc m)) 2

abbrev pub OrSoFar : List Lexeme → List Lexeme → TestTerm → Type 0
OrSoFar = SoFar (is_word (keyword_text Or)) Disjunction and_at (λ m. or_at (suc m)) 3

abbrev pub AndSoFar : List Lexeme → List Lexeme → TestTerm → Type 0
AndSoFar = SoFar is_both Conjunction unary_at (λ m. and_at (suc m)) 2

abbrev pub ChainSoFar : List Lexeme → List Lexeme → Chain → Type 0
ChainSoFar = SoFar (is_mark DashSlash) with_piece (λ m. piece_by (alt_at m) (or_at m)) chain_at 4
