-- What is spelled is read.
use Rattle.std.proofs.Common.{◌≡◌, ℕ, suc, ◌+◌, ◌*◌, ◌<◌, ◌≤◌, false, List, [], ◌∷◌, ◌++◌, length, Option, Some, None, refl, sym, ap, ◌∙◌, arith, length-append, append_assoc}
use Rattle.script_lex.specs.declared.mark.Mark.{Mark}
use Rattle.script_lex.specs.declared.mark.Mark.TheVariants.{DashSlash, SlashDash, ParenL, ParenR, BraceR, BrackL, Colon, Plus, Star, Slash, Equal}
use Rattle.script_lex.specs.Lexemes.{Lexeme, AWord, AQuote, AMark}
use Rattle.path_ast.specs.Terms.{PathTerm, OfTest, Sequence, Choice, TestTerm, HasLabel, Condition, Conjunction, Disjunction, Negation}
use Rattle.match_parser.specs.declared.words.Axis.{Axis}
use Rattle.match_parser.specs.declared.words.Keyword.TheVariants.{Not, Or}
use Rattle.match_parser.specs.Words.{keyword_text, axis_text}
use Rattle.match_parser.specs.Heads.{is_mark, is_word, is_both, behind}
use Rattle.match_parser.specs.Kept.{kept_name}
use Rattle.match_parser.specs.Translation.{axis_path, node_test}
use Rattle.match_parser.specs.Grammar.{TimesTree, Once, Starred, FromTo, FromOn, FactTree, PropertyIs, TimeBelow, TimeAt, TimeFrom, Labelled, NodeFact, EdgeFact, ExistsFact, BothTree, ByComma, ByWord, AltTree, OneSeq, MoreSeq, SeqTree, OneRep, MoreRep, RepTree, AtomTimes, AtomTree, Step, AtLabel, Braced, Asked, Grouped, OrTree, OneAnd, MoreAnd, AndTree, OneUnary, MoreUnary, UnaryTree, Plain, Negated, PrimTree, OfFact, OfPath, OfTests, PatternTree, ChainTree, OnePattern, MorePattern, QueryTree, times_text, fact_text, both_text, alt_text, seq_text, rep_text, atom_text, or_text, and_text, unary_text, prim_text, name_text, label_text, tests_text, pattern_text, chain_text, graph_text, query_text}
use Rattle.match_parser.specs.Parsing.{with_graph, rep_by, repeated, bounds_at, most_at, Found, then_read, chosen, closing, closed, times_at, label_at, fact_by, fact_at, step_by, step_at, atom_by, prim_by, alt_at, seq_at, rep_at, atom_at, or_at, and_at, unary_at, prim_at, Pattern, Chain, chain_of, with_piece, name_at, and_label, and_tests, tested_by, labelled_by, inside_by, pattern_by, piece_by, chain_at, graph_at, query_at}
use Rattle.match_parser.proofs.KeptTrees.{times_value, fact_kept, alt_kept, seq_kept, rep_kept, atom_kept, or_kept, and_kept, unary_kept, prim_kept, with_label_kept, with_tests_kept, name_kept, pattern_kept, chain_kept}
use Rattle.match_parser.proofs.Fronts.{property_none, axis_again, no_word}
use Rattle.match_parser.proofs.Lists.{Comes, comes_text, comes_on, begins, goes_on, ends, so_text}
use Rattle.match_parser.proofs.Rules.{alts_is, seqs_is, ors_is, ands_is, reps_is, atoms_is, unaries_is, prims_is, chains_is, AltSoFar, SeqSoFar, OrSoFar, AndSoFar, ChainSoFar}
use Rattle.match_parser.proofs.Sound.{piece_text, piece_kept, regroup_inside}

-- no number of times stands here
pub record NoTimes (rest : List Lexeme) : Type 0 where
  pub star : behind (is_mark Star) rest ≡ None
  pub brack : behind (is_mark BrackL) rest ≡ None

times_comes : (t : TimesTree) (rest : List Lexeme) → NoTimes rest → times_at (times_text t ++ rest) ≡ Some (times_value t, rest)
unfolding times_at bounds_at most_at
times_comes Once rest n = rw (n.star, n.brack) refl
times_comes Starred rest n = refl
times_comes (FromTo a b x y) rest n = rw (x, y) refl
times_comes (FromOn a x) rest n = rw x refl

fact_comes : (f : FactTree) (rest : List Lexeme) → fact_at (fact_text f ++ rest) ≡ Some (fact_kept f, rest)
unfolding fact_at label_at
fact_comes (PropertyIs w v p) rest = ap (λ o. fact_by o w (AMark Equal ∷ AQuote v ∷ rest)) (property_none w p)
fact_comes (TimeBelow k) rest = refl
fact_comes (TimeAt k) rest = refl
fact_comes (TimeFrom k) rest = refl
fact_comes (Labelled w) rest = refl
fact_comes NodeFact rest = refl
fact_comes EdgeFact rest = refl
fact_comes ExistsFact rest = refl

-- each tree takes a token
times_some : (xs : List Lexeme) (t : TimesTree) → 1 ≤ length xs → 1 ≤ length (xs ++ times_text t)
times_some xs t h = omega (arith, h, length-append xs (times_text t))

joined_some : (xs : List Lexeme) (t : Lexeme) (ys : List Lexeme) → 1 ≤ length (xs ++ t ∷ ys)
joined_some xs t ys = omega (arith, length-append xs (t ∷ ys))

fact_some : (f : FactTree) → 1 ≤ length (fact_text f)
fact_some (PropertyIs w v p) = omega arith
fact_some (TimeBelow k) = omega arith
fact_some (TimeAt k) = omega arith
fact_some (TimeFrom k) = omega arith
fact_some (Labelled w) = omega arith
fact_some NodeFact = omega arith
fact_some EdgeFact = omega arith
fact_some ExistsFact = omega arith

atom_some : (a : AtomTree) → 1 ≤ length (atom_text a)
atom_some (Step x) = omega arith
atom_some (AtLabel w) = omega arith
atom_some (Braced o) = omega arith
atom_some (Asked a) = omega arith
atom_some (Grouped a) = omega arith

rep_some : (r : RepTree) → 1 ≤ length (rep_text r)
rep_some (AtomTimes a t) = times_some (atom_text a) t (atom_some a)

seq_some : (s : SeqTree) → 1 ≤ length (seq_text s)
seq_some (OneRep r) = rep_some r
seq_some (MoreRep s r) = joined_some (seq_text s) (AMark Slash) (rep_text r)

prim_some : (p : PrimTree) → 1 ≤ length (prim_text p)
prim_some (OfFact f) = fact_some f
prim_some (OfPath a) = omega arith
prim_some (OfTests o) = omega arith

unary_some : (u : UnaryTree) → 1 ≤ length (unary_text u)
unary_some (Plain p) = prim_some p
unary_some (Negated p) = omega arith

and_some : (a : AndTree) → 1 ≤ length (and_text a)
and_some (OneUnary u) = unary_some u
and_some (MoreUnary a b u) = joined_some (and_text a) (both_text b) (unary_text u)

less_after : (xs ys : List Lexeme) → 1 ≤ length xs → length ys < length (xs ++ ys)
less_after xs ys h = omega (arith, h, length-append xs ys)

less_behind : (t : Lexeme) (xs ys : List Lexeme) → length ys < length (t ∷ (xs ++ ys))
less_behind t xs ys = omega (arith, length-append xs ys)

one_less : (t : Lexeme) (xs : List Lexeme) → length xs < length (t ∷ xs)
one_less t xs = omega arith

both_front : (b : BothTree) (tail : List Lexeme) → behind is_both (both_text b ∷ tail) ≡ Some tail
both_front ByComma tail = refl
both_front ByWord tail = refl

-- in brackets
closed_comes : {X : Type 0} (at : ℕ → List Lexeme → Option (X × List Lexeme)) (m : Mark) (close : (r : List Lexeme) → behind (is_mark m) (AMark m ∷ r) ≡ Some r) (text : List Lexeme) (x : X) (rest : List Lexeme) →
    Comes at 4 (text ++ AMark m ∷ rest) (Some (x, AMark m ∷ rest)) → (n : ℕ) → 4 * length (text ++ AMark m ∷ []) + 4 * length rest + 4 ≤ n → closed m (at n ((text ++ AMark m ∷ []) ++ rest)) ≡ Some (x, rest)
closed_comes at m close text x rest f n h =
    let bound : 4 * length (text ++ AMark m ∷ rest) + 4 ≤ n = omega (arith, h, length-append text (AMark m ∷ []), length-append text (AMark m ∷ rest)) in
    ap (λ (l : List Lexeme). closed m (at n l)) (append_assoc text (AMark m ∷ []) rest) ∙ ap (closed m) (f n bound) ∙ ap (λ (o : Option (List Lexeme)). chosen o (λ r. Some (x, r)) None) (close rest)

step_comes : (x : Axis) (rest : List Lexeme) → step_at (AWord (axis_text x) ∷ rest) ≡ Some (axis_path x, rest)
unfolding step_at
step_comes x rest = ap (λ o. step_by o rest) (axis_again x)

label_comes : (w : List ℕ) (rest : List Lexeme) → then_read (label_at (AWord w ∷ rest)) (λ c after. let r : Found PathTerm = Some (OfTest c, after) in r) ≡ Some (OfTest (HasLabel (kept_name w)), rest)
unfolding label_at
label_comes w rest = refl

-- no fact begins with `?` or `(`, and no test but a negation with `NOT`
prim_fact : (alts : List Lexeme → Found PathTerm) (ors : List Lexeme → Found TestTerm) (f : FactTree) (rest : List Lexeme) → prim_by alts ors (fact_text f ++ rest) ≡ Some (fact_kept f, rest)
prim_fact alts ors (PropertyIs w v p) rest = fact_comes (PropertyIs w v p) rest
prim_fact alts ors (TimeBelow k) rest = fact_comes (TimeBelow k) rest
prim_fact alts ors (TimeAt k) rest = fact_comes (TimeAt k) rest
prim_fact alts ors (TimeFrom k) rest = fact_comes (TimeFrom k) rest
prim_fact alts ors (Labelled w) rest = fact_comes (Labelled w) rest
prim_fact alts ors NodeFact rest = fact_comes NodeFact rest
prim_fact alts ors EdgeFact rest = fact_comes EdgeFact rest
prim_fact alts ors ExistsFact rest = fact_comes ExistsFact rest

no_not : (p : PrimTree) (rest : List Lexeme) → behind (is_word (keyword_text Not)) (prim_text p ++ rest) ≡ None
no_not (OfFact (PropertyIs w v p)) rest = no_word w (keyword_text Not) _ (p Not)
no_not (OfFact (TimeBelow k)) rest = refl
no_not (OfFact (TimeAt k)) rest = refl
no_not (OfFact (TimeFrom k)) rest = refl
no_not (OfFact (Labelled w)) rest = refl
no_not (OfFact NodeFact) rest = refl
no_not (OfFact EdgeFact) rest = refl
no_not (OfFact ExistsFact) rest = refl
no_not (OfPath a) rest = refl
no_not (OfTests o) rest = refl

-- a level that came to its end
seq_end : (s : SeqTree) (rest : List Lexeme) → behind (is_mark Slash) rest ≡ None → SeqSoFar (seq_text s ++ rest) rest (seq_kept s) → Comes seq_at 3 (seq_text s ++ rest) (Some (seq_kept s, rest))
seq_end s rest k so = comes_on seq_at 2 (seq_text s ++ rest) _ (ends (is_mark Slash) Sequence rep_at rep_at (λ x. x) (λ m. seq_at (suc m)) seqs_is 2 (seq_text s ++ rest) rest (seq_kept s) so k)

alt_end : (a : AltTree) (rest : List Lexeme) → behind (is_mark Plus) rest ≡ None → AltSoFar (alt_text a ++ rest) rest (alt_kept a) → Comes alt_at 4 (alt_text a ++ rest) (Some (alt_kept a, rest))
alt_end a rest k so = comes_on alt_at 3 (alt_text a ++ rest) _ (ends (is_mark Plus) Choice seq_at seq_at (λ x. x) (λ m. alt_at (suc m)) alts_is 3 (alt_text a ++ rest) rest (alt_kept a) so k)

and_end : (a : AndTree) (rest : List Lexeme) → behind is_both rest ≡ None → AndSoFar (and_text a ++ rest) rest (and_kept a) → Comes and_at 3 (and_text a ++ rest) (Some (and_kept a, rest))
and_end a rest k so = comes_on and_at 2 (and_text a ++ rest) _ (ends is_both Conjunction unary_at unary_at (λ x. x) (λ m. and_at (suc m)) ands_is 2 (and_text a ++ rest) rest (and_kept a) so k)

or_end : (o : OrTree) (rest : List Lexeme) → behind (is_word (keyword_text Or)) rest ≡ None → OrSoFar (or_text o ++ rest) rest (or_kept o) → Comes or_at 4 (or_text o ++ rest) (Some (or_kept o, rest))
or_end o rest k so = comes_on or_at 3 (or_text o ++ rest) _ (ends (is_word (keyword_text Or)) Disjunction and_at and_at (λ x. x) (λ m. or_at (suc m)) ors_is 3 (or_text o ++ rest) rest (or_kept o) so k)

rep_comes : (a : AtomTree) (t : TimesTree) (rest : List Lexeme) → NoTimes rest → Comes atom_at 1 (atom_text a ++ (times_text t ++ rest)) (Some (atom_kept a, times_text t ++ rest)) → Comes rep_at 2 (rep_text (AtomTimes a t) ++ rest) (Some (rep_kept (AtomTimes a t), rest))
rep_comes a t rest n f = comes_text rep_at 2 ((atom_text a ++ times_text t) ++ rest) (atom_text a ++ (times_text t ++ rest)) _ (append_assoc (atom_text a) (times_text t) rest)
    (comes_on rep_at 1 (atom_text a ++ (times_text t ++ rest)) _ (λ m h. reps_is m (atom_text a ++ (times_text t ++ rest)) ∙ ap rep_by (f m h) ∙ ap (λ (o : Found (Option (ℕ × Option ℕ))). then_read o (λ v after. let r : Found PathTerm = Some (repeated v (atom_kept a), after) in r)) (times_comes t rest n)))

atom_comes_text : (text : List Lexeme) (rest : List Lexeme) (p : PathTerm) → ((m : ℕ) → 4 * length (text ++ rest) + 0 ≤ m → atom_by (alt_at m) (or_at m) (text ++ rest) ≡ Some (p, rest)) → Comes atom_at 1 (text ++ rest) (Some (p, rest))
atom_comes_text text rest p f = comes_on atom_at 0 (text ++ rest) _ (λ m h. atoms_is m (text ++ rest) ∙ f m h)

prim_comes_text : (text : List Lexeme) (rest : List Lexeme) (c : TestTerm) → ((m : ℕ) → 4 * length (text ++ rest) + 0 ≤ m → prim_by (alt_at m) (or_at m) (text ++ rest) ≡ Some (c, rest)) → Comes prim_at 1 (text ++ rest) (Some (c, rest))
prim_comes_text text rest c f = comes_on prim_at 0 (text ++ rest) _ (λ m h. prims_is m (text ++ rest) ∙ f m h)

-- fuel enough for what stands in brackets
fuel_inside : (text : List Lexeme) (m : Mark) (rest : List Lexeme) (k : ℕ) → 4 * length ((text ++ AMark m ∷ []) ++ rest) + 4 ≤ k → 4 * length (text ++ AMark m ∷ []) + 4 * length rest + 4 ≤ k
fuel_inside text m rest k h = omega (arith, h, length-append (text ++ AMark m ∷ []) rest)

-- a path in brackets, and tests in brackets
path_inside : (a : AltTree) (rest : List Lexeme) → AltSoFar (alt_text a ++ AMark ParenR ∷ rest) (AMark ParenR ∷ rest) (alt_kept a) → (k : ℕ) → 4 * length ((alt_text a ++ AMark ParenR ∷ []) ++ rest) + 4 ≤ k → closed ParenR (alt_at k ((alt_text a ++ AMark ParenR ∷ []) ++ rest)) ≡ Some (alt_kept a, rest)
path_inside a rest so k h = closed_comes alt_at ParenR (λ r. refl) (alt_text a) (alt_kept a) rest (alt_end a (AMark ParenR ∷ rest) refl so) k (fuel_inside (alt_text a) ParenR rest k h)

tests_inside : (m : Mark) → ((r : List Lexeme) → behind (is_mark m) (AMark m ∷ r) ≡ Some r) → (o : OrTree) (rest : List Lexeme) → OrSoFar (or_text o ++ AMark m ∷ rest) (AMark m ∷ rest) (or_kept o) → (k : ℕ) → 4 * length ((or_text o ++ AMark m ∷ []) ++ rest) + 4 ≤ k → closed m (or_at k ((or_text o ++ AMark m ∷ []) ++ rest)) ≡ Some (or_kept o, rest)
tests_inside m close o rest so k h = closed_comes or_at m close (or_text o) (or_kept o) rest (or_end o (AMark m ∷ rest) refl so) k (fuel_inside (or_text o) m rest k h)

no_times : (t : Lexeme) (rest : List Lexeme) → is_mark Star t ≡ false → is_mark BrackL t ≡ false → NoTimes (t ∷ rest)
no_times t rest p q = record { star = rw p refl; brack = rw q refl }

mutual
  pub alt_told : (a : AltTree) (rest : List Lexeme) → NoTimes rest → behind (is_mark Slash) rest ≡ None → AltSoFar (alt_text a ++ rest) rest (alt_kept a)
  alt_told (OneSeq s) rest n k = begins (is_mark Plus) Choice seq_at seq_at (λ x. x) (λ m. alt_at (suc m)) alts_is 3 (seq_text s ++ rest) rest (seq_kept s)
      (less_after (seq_text s) rest (seq_some s)) (seq_end s rest k (seq_told s rest n))
  alt_told (MoreSeq a s) rest n k = so_text (is_mark Plus) Choice seq_at seq_at (λ x. x) (λ m. alt_at (suc m)) alts_is 3 ((alt_text a ++ AMark Plus ∷ seq_text s) ++ rest) (alt_text a ++ AMark Plus ∷ (seq_text s ++ rest)) rest (Choice (alt_kept a) (seq_kept s))
      (append_assoc (alt_text a) (AMark Plus ∷ seq_text s) rest)
      (goes_on (is_mark Plus) Choice seq_at seq_at (λ x. x) (λ m. alt_at (suc m)) alts_is 3 (alt_text a ++ AMark Plus ∷ (seq_text s ++ rest)) (AMark Plus ∷ (seq_text s ++ rest)) (seq_text s ++ rest) rest (alt_kept a) (seq_kept s)
      (alt_told a (AMark Plus ∷ (seq_text s ++ rest)) (no_times (AMark Plus) (seq_text s ++ rest) refl refl) refl) refl
      (less_behind (AMark Plus) (seq_text s) rest) (one_less (AMark Plus) (seq_text s ++ rest)) (seq_end s rest k (seq_told s rest n)))

  seq_told : (s : SeqTree) (rest : List Lexeme) → NoTimes rest → SeqSoFar (seq_text s ++ rest) rest (seq_kept s)
  seq_told (OneRep r) rest n = begins (is_mark Slash) Sequence rep_at rep_at (λ x. x) (λ m. seq_at (suc m)) seqs_is 2 (rep_text r ++ rest) rest (rep_kept r)
      (less_after (rep_text r) rest (rep_some r)) (rep_all r rest n)
  seq_told (MoreRep s r) rest n = so_text (is_mark Slash) Sequence rep_at rep_at (λ x. x) (λ m. seq_at (suc m)) seqs_is 2 ((seq_text s ++ AMark Slash ∷ rep_text r) ++ rest) (seq_text s ++ AMark Slash ∷ (rep_text r ++ rest)) rest (Sequence (seq_kept s) (rep_kept r))
      (append_assoc (seq_text s) (AMark Slash ∷ rep_text r) rest)
      (goes_on (is_mark Slash) Sequence rep_at rep_at (λ x. x) (λ m. seq_at (suc m)) seqs_is 2 (seq_text s ++ AMark Slash ∷ (rep_text r ++ rest)) (AMark Slash ∷ (rep_text r ++ rest)) (rep_text r ++ rest) rest (seq_kept s) (rep_kept r)
      (seq_told s (AMark Slash ∷ (rep_text r ++ rest)) (no_times (AMark Slash) (rep_text r ++ rest) refl refl)) refl
      (less_behind (AMark Slash) (rep_text r) rest) (one_less (AMark Slash) (rep_text r ++ rest)) (rep_all r rest n))

  rep_all : (r : RepTree) (rest : List Lexeme) → NoTimes rest → Comes rep_at 2 (rep_text r ++ rest) (Some (rep_kept r, rest))
  rep_all (AtomTimes a t) rest n = rep_comes a t rest n (atom_all a (times_text t ++ rest))

  atom_all : (a : AtomTree) (rest : List Lexeme) → Comes atom_at 1 (atom_text a ++ rest) (Some (atom_kept a, rest))
  atom_all (Step x) rest = atom_comes_text (AWord (axis_text x) ∷ []) rest (axis_path x) (λ m h. step_comes x rest)
  atom_all (AtLabel w) rest = atom_comes_text (AMark Colon ∷ AWord w ∷ []) rest _ (λ m h. label_comes w rest)
  atom_all (Braced o) rest = atom_comes_text (atom_text (Braced o)) rest (OfTest (or_kept o)) (λ m h.
      ap (λ (f : Found TestTerm). then_read f (λ c after. let r : Found PathTerm = Some (OfTest c, after) in r)) (tests_inside BraceR (λ r. refl) o rest (or_told o (AMark BraceR ∷ rest) refl) m (omega (arith, h))))
  atom_all (Asked a) rest = atom_comes_text (atom_text (Asked a)) rest (OfTest (Condition (alt_kept a))) (λ m h.
      ap (λ (f : Found PathTerm). then_read f (λ p after. let r : Found PathTerm = Some (OfTest (Condition p), after) in r)) (path_inside a rest (alt_told a (AMark ParenR ∷ rest) (no_times (AMark ParenR) rest refl refl) refl) m (omega (arith, h))))
  atom_all (Grouped a) rest = atom_comes_text (atom_text (Grouped a)) rest (alt_kept a) (λ m h. path_inside a rest (alt_told a (AMark ParenR ∷ rest) (no_times (AMark ParenR) rest refl refl) refl) m (omega (arith, h)))

  pub or_told : (o : OrTree) (rest : List Lexeme) → behind is_both rest ≡ None → OrSoFar (or_text o ++ rest) rest (or_kept o)
  or_told (OneAnd a) rest k = begins (is_word (keyword_text Or)) Disjunction and_at and_at (λ x. x) (λ m. or_at (suc m)) ors_is 3 (and_text a ++ rest) rest (and_kept a)
      (less_after (and_text a) rest (and_some a)) (and_end a rest k (and_told a rest))
  or_told (MoreAnd o a) rest k = so_text (is_word (keyword_text Or)) Disjunction and_at and_at (λ x. x) (λ m. or_at (suc m)) ors_is 3 ((or_text o ++ AWord (keyword_text Or) ∷ and_text a) ++ rest) (or_text o ++ AWord (keyword_text Or) ∷ (and_text a ++ rest)) rest (Disjunction (or_kept o) (and_kept a))
      (append_assoc (or_text o) (AWord (keyword_text Or) ∷ and_text a) rest)
      (goes_on (is_word (keyword_text Or)) Disjunction and_at and_at (λ x. x) (λ m. or_at (suc m)) ors_is 3 (or_text o ++ AWord (keyword_text Or) ∷ (and_text a ++ rest)) (AWord (keyword_text Or) ∷ (and_text a ++ rest)) (and_text a ++ rest) rest (or_kept o) (and_kept a)
      (or_told o (AWord (keyword_text Or) ∷ (and_text a ++ rest)) refl) refl
      (less_behind (AWord (keyword_text Or)) (and_text a) rest) (one_less (AWord (keyword_text Or)) (and_text a ++ rest)) (and_end a rest k (and_told a rest)))

  and_told : (a : AndTree) (rest : List Lexeme) → AndSoFar (and_text a ++ rest) rest (and_kept a)
  and_told (OneUnary u) rest = begins is_both Conjunction unary_at unary_at (λ x. x) (λ m. and_at (suc m)) ands_is 2 (unary_text u ++ rest) rest (unary_kept u)
      (less_after (unary_text u) rest (unary_some u)) (unary_all u rest)
  and_told (MoreUnary a b u) rest = so_text is_both Conjunction unary_at unary_at (λ x. x) (λ m. and_at (suc m)) ands_is 2 ((and_text a ++ both_text b ∷ unary_text u) ++ rest) (and_text a ++ both_text b ∷ (unary_text u ++ rest)) rest (Conjunction (and_kept a) (unary_kept u))
      (append_assoc (and_text a) (both_text b ∷ unary_text u) rest)
      (goes_on is_both Conjunction unary_at unary_at (λ x. x) (λ m. and_at (suc m)) ands_is 2 (and_text a ++ both_text b ∷ (unary_text u ++ rest)) (both_text b ∷ (unary_text u ++ rest)) (unary_text u ++ rest) rest (and_kept a) (unary_kept u)
      (and_told a (both_text b ∷ (unary_text u ++ rest))) (both_front b (unary_text u ++ rest))
      (less_behind (both_text b) (unary_text u) rest) (one_less (both_text b) (unary_text u ++ rest)) (unary_all u rest))

  unary_all : (u : UnaryTree) (rest : List Lexeme) → Comes unary_at 2 (unary_text u ++ rest) (Some (unary_kept u, rest))
  unary_all (Plain p) rest = comes_on unary_at 1 (prim_text p ++ rest) _ (λ m h. unaries_is m (prim_text p ++ rest) ∙ ap (λ (o : Option (List Lexeme)). chosen o (λ r. then_read (prim_at m r) (λ c after. Some (Negation c, after))) (prim_at m (prim_text p ++ rest))) (no_not p rest) ∙ prim_all p rest m h)
  unary_all (Negated p) rest = comes_on unary_at 1 (AWord (keyword_text Not) ∷ (prim_text p ++ rest)) _ (λ m h. unaries_is m (AWord (keyword_text Not) ∷ (prim_text p ++ rest)) ∙ ap (λ (f : Found TestTerm). then_read f (λ c after. let r : Found TestTerm = Some (Negation c, after) in r)) (prim_all p rest m (omega (arith, h))))

  prim_all : (p : PrimTree) (rest : List Lexeme) → Comes prim_at 1 (prim_text p ++ rest) (Some (prim_kept p, rest))
  prim_all (OfFact f) rest = prim_comes_text (fact_text f) rest (fact_kept f) (λ m h. prim_fact (alt_at m) (or_at m) f rest)
  prim_all (OfPath a) rest = prim_comes_text (prim_text (OfPath a)) rest (Condition (alt_kept a)) (λ m h.
      ap (λ (f : Found PathTerm). then_read f (λ p after. let r : Found TestTerm = Some (Condition p, after) in r)) (path_inside a rest (alt_told a (AMark ParenR ∷ rest) (no_times (AMark ParenR) rest refl refl) refl) m (omega (arith, h))))
  prim_all (OfTests o) rest = prim_comes_text (prim_text (OfTests o)) rest (or_kept o) (λ m h. tests_inside ParenR (λ r. refl) o rest (or_told o (AMark ParenR ∷ rest) refl) m (omega (arith, h)))

-- the parts of a pattern
name_none : (l : Option (List ℕ)) (o : Option OrTree) (rest : List Lexeme) → name_at (label_text l ++ (tests_text o ++ AMark ParenR ∷ rest)) ≡ Some (None, label_text l ++ (tests_text o ++ AMark ParenR ∷ rest))
name_none None None rest = refl
name_none None (Some o) rest = refl
name_none (Some l) o rest = refl

label_none : (o : Option OrTree) (rest : List Lexeme) → and_label node_test (tests_text o ++ AMark ParenR ∷ rest) ≡ Some (node_test, tests_text o ++ AMark ParenR ∷ rest)
label_none None rest = refl
label_none (Some o) rest = refl

module _ (ors : List Lexeme → Found TestTerm) (o : Option OrTree) (rest : List Lexeme) (tests : (c : TestTerm) → and_tests ors c (tests_text o ++ AMark ParenR ∷ rest) ≡ Some (with_tests_kept o c, AMark ParenR ∷ rest)) where
  tested_comes : (name : Option (List ℕ)) (c : TestTerm) → tested_by ors name c (tests_text o ++ AMark ParenR ∷ rest) ≡ Some (record { name = name; path = OfTest (with_tests_kept o c) }, rest)
  tested_comes name c = ap (λ (f : Found TestTerm). then_read f (λ d after. closing ParenR (let p : Pattern = record { name = name; path = OfTest d } in p) after)) (tests c)

  labelled_comes : (name l : Option (List ℕ)) → labelled_by ors name (label_text l ++ (tests_text o ++ AMark ParenR ∷ rest)) ≡ Some (record { name = name; path = OfTest (with_tests_kept o (with_label_kept l node_test)) }, rest)
  unfolding label_at
  labelled_comes name None = ap (λ (f : Found TestTerm). then_read f (tested_by ors name)) (label_none o rest) ∙ tested_comes name node_test
  labelled_comes name (Some l) = tested_comes name (Conjunction node_test (HasLabel (kept_name l)))

  inside_comes : (n l : Option (List ℕ)) → inside_by ors (name_text n ++ (label_text l ++ (tests_text o ++ AMark ParenR ∷ rest))) ≡ Some (record { name = name_kept n; path = OfTest (with_tests_kept o (with_label_kept l node_test)) }, rest)
  inside_comes None l = ap (λ (f : Found (Option (List ℕ))). then_read f (labelled_by ors)) (name_none l o rest) ∙ labelled_comes None l
  inside_comes (Some n) l = labelled_comes (Some (kept_name n)) l

tests_comes : (o : Option OrTree) (rest : List Lexeme) (m : ℕ) → 4 * length (tests_text o) + 4 * length rest + 4 ≤ m → (c : TestTerm) → and_tests (or_at m) c (tests_text o ++ AMark ParenR ∷ rest) ≡ Some (with_tests_kept o c, AMark ParenR ∷ rest)
tests_comes None rest m h c = refl
tests_comes (Some o) rest m h c = ap (λ (f : Found TestTerm). then_read f (λ d after. let r : Found TestTerm = Some (Conjunction c d, after) in r))
    (tests_inside BraceR (λ r. refl) o (AMark ParenR ∷ rest) (or_told o (AMark BraceR ∷ AMark ParenR ∷ rest) refl) m (omega (arith, h, length-append (or_text o ++ AMark BraceR ∷ []) (AMark ParenR ∷ rest))))

pattern_comes : (p : PatternTree) (rest : List Lexeme) → Comes (λ m. pattern_by (or_at m)) 4 (pattern_text p ++ rest) (Some (pattern_kept p, rest))
unfolding pattern_by
pattern_comes p rest m h =
    let long = length-append (name_text p.name ++ (label_text p.label ++ (tests_text p.tests ++ AMark ParenR ∷ []))) rest in
    let name = length-append (name_text p.name) (label_text p.label ++ (tests_text p.tests ++ AMark ParenR ∷ [])) in
    let label = length-append (label_text p.label) (tests_text p.tests ++ AMark ParenR ∷ []) in
    let tests = length-append (tests_text p.tests) (AMark ParenR ∷ []) in
    let bound : 4 * length (tests_text p.tests) + 4 * length rest + 4 ≤ m = omega (arith, h, long, name, label, tests) in
    ap (inside_by (or_at m)) (sym (regroup_inside (name_text p.name) (label_text p.label) (tests_text p.tests) (AMark ParenR) rest))
    ∙ inside_comes (or_at m) p.tests rest (tests_comes p.tests rest m bound) p.name p.label

-- a path and the pattern behind it
piece_comes : (a : AltTree) (p : PatternTree) (rest : List Lexeme) → Comes (λ m. piece_by (alt_at m) (or_at m)) 4 (piece_text (a, p) ++ rest) (Some (piece_kept (a, p), rest))
unfolding piece_by
piece_comes a p rest m h =
    let tail : List Lexeme = pattern_text p ++ rest in
    let e : (alt_text a ++ AMark SlashDash ∷ pattern_text p) ++ rest ≡ alt_text a ++ AMark SlashDash ∷ tail = append_assoc (alt_text a) (AMark SlashDash ∷ pattern_text p) rest in
    let long : length ((alt_text a ++ AMark SlashDash ∷ pattern_text p) ++ rest) ≡ length (alt_text a ++ AMark SlashDash ∷ tail) = ap length e in
    let split : length (alt_text a ++ AMark SlashDash ∷ tail) ≡ length (alt_text a) + length (AMark SlashDash ∷ tail) = length-append (alt_text a) (AMark SlashDash ∷ tail) in
    let path : alt_at m (alt_text a ++ AMark SlashDash ∷ tail) ≡ Some (alt_kept a, AMark SlashDash ∷ tail) = alt_end a (AMark SlashDash ∷ tail) refl (alt_told a (AMark SlashDash ∷ tail) (no_times (AMark SlashDash) tail refl refl) refl) m (omega (arith, h, long)) in
    let pattern : pattern_by (or_at m) tail ≡ Some (pattern_kept p, rest) = pattern_comes p rest m (omega (arith, h, long, split)) in
    ap (λ (l : List Lexeme). then_read (closed SlashDash (alt_at m l)) (λ q r. then_read (pattern_by (or_at m) r) (λ x after. let o : Found (PathTerm × Pattern) = Some ((q, x), after) in o))) e
    ∙ ap (λ (f : Found PathTerm). then_read (closed SlashDash f) (λ q r. then_read (pattern_by (or_at m) r) (λ x after. let o : Found (PathTerm × Pattern) = Some ((q, x), after) in o))) path
    ∙ ap (λ (f : Found Pattern). then_read f (λ x after. let o : Found (PathTerm × Pattern) = Some ((alt_kept a, x), after) in o)) pattern

chain_told : (c : ChainTree) (rest : List Lexeme) → ChainSoFar (chain_text c ++ rest) rest (chain_kept c)
chain_told (OnePattern p) rest = begins (is_mark DashSlash) with_piece (λ m. piece_by (alt_at m) (or_at m)) (λ m. pattern_by (or_at m)) chain_of chain_at chains_is 4 (pattern_text p ++ rest) rest (pattern_kept p)
    (less_behind (AMark ParenL) (name_text p.name ++ (label_text p.label ++ (tests_text p.tests ++ AMark ParenR ∷ []))) rest) (pattern_comes p rest)
chain_told (MorePattern c a p) rest = so_text (is_mark DashSlash) with_piece (λ m. piece_by (alt_at m) (or_at m)) (λ m. pattern_by (or_at m)) chain_of chain_at chains_is 4 ((chain_text c ++ AMark DashSlash ∷ piece_text (a, p)) ++ rest) (chain_text c ++ AMark DashSlash ∷ (piece_text (a, p) ++ rest)) rest (chain_kept (MorePattern c a p))
    (append_assoc (chain_text c) (AMark DashSlash ∷ piece_text (a, p)) rest)
    (goes_on (is_mark DashSlash) with_piece (λ m. piece_by (alt_at m) (or_at m)) (λ m. pattern_by (or_at m)) chain_of chain_at chains_is 4 (chain_text c ++ AMark DashSlash ∷ (piece_text (a, p) ++ rest)) (AMark DashSlash ∷ (piece_text (a, p) ++ rest)) (piece_text (a, p) ++ rest) rest (chain_kept c) (piece_kept (a, p))
    (chain_told c (AMark DashSlash ∷ (piece_text (a, p) ++ rest))) refl
    (less_behind (AMark DashSlash) (piece_text (a, p)) rest) (one_less (AMark DashSlash) (piece_text (a, p) ++ rest)) (piece_comes a p rest))

graph_front : (g : Option (List ℕ)) → behind (is_mark DashSlash) (graph_text g) ≡ None
graph_front None = refl
graph_front (Some w) = refl

graph_comes : (g : Option (List ℕ)) → graph_at (graph_text g) ≡ Some (name_kept g)
unfolding graph_at
graph_comes None = refl
graph_comes (Some w) = refl

pub query_comes : (q : QueryTree) → Comes query_at 4 (query_text q) (Some (chain_kept q.chain, name_kept q.graph_name))
query_comes q m h =
    let chain = ends (is_mark DashSlash) with_piece (λ m. piece_by (alt_at m) (or_at m)) (λ m. pattern_by (or_at m)) chain_of chain_at chains_is 4 (chain_text q.chain ++ graph_text q.graph_name) (graph_text q.graph_name) (chain_kept q.chain) (chain_told q.chain (graph_text q.graph_name)) (graph_front q.graph_name) m (omega (arith, h)) in
    ap (λ (f : Found Chain). then_read f (λ c after. with_graph c (graph_at after))) chain ∙ ap (with_graph (chain_kept q.chain)) (graph_comes q.graph_name)
