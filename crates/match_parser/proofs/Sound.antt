-- What is read is spelled.
use Rattle.std.proofs.Common.{◌≡◌, ℕ, zero, suc, ℤ, pos, ◌+ℤ◌, Bool, true, false, List, [], ◌∷◌, ◌++◌, Option, Some, None, refl, sym, ap, ◌∙◌, append_assoc, inl, inr}
use Rattle.std.specs.Prelude.{if◌then◌else◌}
use Rattle.script_lex.specs.declared.mark.Mark.{Mark}
use Rattle.script_lex.specs.declared.mark.Mark.TheVariants.{DashSlash, SlashDash, AtLeast, ParenL, ParenR, BraceL, BraceR, BrackL, BrackR, Colon, Comma, Plus, Star, Slash, Ask, Equal, Less, Under}
use Rattle.script_lex.specs.Lexemes.{Lexeme, AWord, ANumber, AQuote, AMark}
use Rattle.path_ast.specs.Terms.{PathTerm, OfTest, Sequence, Choice, TestTerm, IsNode, IsEdge, HasLabel, HasValue, IsBelow, DoesExist, Condition, Conjunction, Disjunction, Negation}
use Rattle.match_parser.specs.declared.words.Keyword.{Keyword}
use Rattle.match_parser.specs.declared.words.Keyword.TheVariants.{Not, And, Or, Node, Edge, Exists, Time}
use Rattle.match_parser.specs.declared.words.Axis.{Axis}
use Rattle.match_parser.specs.Words.{keyword_text, match_text, on_text, is_signed}
use Rattle.match_parser.specs.Heads.{is_mark, is_word, is_both, behind, keyword_of, axis_of}
use Rattle.match_parser.specs.Kept.{kept_name, kept_value, kept_count}
use Rattle.match_parser.specs.Translation.{axis_path, node_test}
use Rattle.match_parser.specs.Grammar.{TimesTree, Once, Starred, FromTo, FromOn, FactTree, PropertyIs, TimeBelow, TimeAt, TimeFrom, Labelled, NodeFact, EdgeFact, ExistsFact, AltTree, OneSeq, MoreSeq, SeqTree, OneRep, MoreRep, RepTree, AtomTimes, AtomTree, Step, AtLabel, Braced, Asked, Grouped, OrTree, OneAnd, MoreAnd, AndTree, OneUnary, MoreUnary, UnaryTree, Plain, Negated, PrimTree, OfFact, OfPath, OfTests, PatternTree, ChainTree, OnePattern, MorePattern, QueryTree, times_text, fact_text, both_text, alt_text, seq_text, rep_text, atom_text, or_text, and_text, unary_text, prim_text, name_text, label_text, tests_text, pattern_text, chain_text, graph_text, query_text}
use Rattle.match_parser.specs.Parsing.{with_graph, repeated, Found, then_read, chosen, closing, closed, more_by, word_at, quote_at, number_at, moment_at, count_at, most_at, bounds_at, times_at, label_at, time_at, fact_by, fact_at, step_by, step_at, asked_by, atom_by, unary_by, prim_by, alt_at, seq_at, rep_at, atom_at, or_at, and_at, unary_at, prim_at, Pattern, Chain, chain_of, with_piece, name_at, and_label, and_tests, inside_by, pattern_by, piece_by, chain_at, ended, graph_at, query_at}
use Rattle.match_parser.proofs.KeptTrees.{times_value, times_kept, fact_kept, alt_kept, seq_kept, rep_kept, atom_kept, or_kept, and_kept, unary_kept, prim_kept, with_label_kept, with_tests_kept, name_kept, pattern_kept, chain_kept}
use Rattle.match_parser.proofs.Fronts.{mark_is, word_is, both_is, behind_mark, behind_word, ByFront, chosen_ok, chosen_only, then_ok, keyword_is, keyword_none, axis_is, same_found}
use Rattle.match_parser.proofs.Lists.{Spelled, more_sound}

word_sound : (ts : List Lexeme) (w : List ℕ) (rest : List Lexeme) → word_at ts ≡ Some (w, rest) → ts ≡ AWord w ∷ rest
word_sound [] w rest h = absurd (let none : ⊥ = cc in none)
word_sound (AWord v ∷ ts) w rest h = let same = same_found v w ts rest h in cc
word_sound (ANumber n ∷ ts) w rest h = absurd (let none : ⊥ = cc in none)
word_sound (AQuote q ∷ ts) w rest h = absurd (let none : ⊥ = cc in none)
word_sound (AMark m ∷ ts) w rest h = absurd (let none : ⊥ = cc in none)

quote_sound : (ts : List Lexeme) (w : List ℕ) (rest : List Lexeme) → quote_at ts ≡ Some (w, rest) → ts ≡ AQuote w ∷ rest
quote_sound [] w rest h = absurd (let none : ⊥ = cc in none)
quote_sound (AQuote v ∷ ts) w rest h = let same = same_found v w ts rest h in cc
quote_sound (ANumber n ∷ ts) w rest h = absurd (let none : ⊥ = cc in none)
quote_sound (AWord q ∷ ts) w rest h = absurd (let none : ⊥ = cc in none)
quote_sound (AMark m ∷ ts) w rest h = absurd (let none : ⊥ = cc in none)

number_sound : (ts : List Lexeme) (w : List ℕ) (rest : List Lexeme) → number_at ts ≡ Some (w, rest) → ts ≡ ANumber w ∷ rest
number_sound [] w rest h = absurd (let none : ⊥ = cc in none)
number_sound (ANumber v ∷ ts) w rest h = let same = same_found v w ts rest h in cc
number_sound (AQuote n ∷ ts) w rest h = absurd (let none : ⊥ = cc in none)
number_sound (AWord q ∷ ts) w rest h = absurd (let none : ⊥ = cc in none)
number_sound (AMark m ∷ ts) w rest h = absurd (let none : ⊥ = cc in none)

record IsNumberOf {V : Type 0} (kept : List ℕ → V) (ts : List Lexeme) (v : V) (rest : List Lexeme) : Type 0 where
  number : List ℕ
  is : kept number ≡ v
  spells : ts ≡ ANumber number ∷ rest

moment_sound : (ts : List Lexeme) (v : ℤ) (rest : List Lexeme) → moment_at ts ≡ Some (v, rest) → IsNumberOf kept_value ts v rest
moment_sound ts v rest h =
    let b = then_ok (number_at ts) (λ n after. Some (kept_value n, after)) (v, rest) h in
    let same = same_found (kept_value b.part) v b.middle rest b.goes in
    record { number = b.part; is = same.0; spells = number_sound ts b.part b.middle b.was ∙ ap (λ (l : List Lexeme). ANumber b.part ∷ l) same.1 }

record IsCountOf (ts : List Lexeme) (v : ℕ) (rest : List Lexeme) : Type 0 where
  number : List ℕ
  unsigned : is_signed number ≡ false
  is : kept_count number ≡ v
  spells : ts ≡ ANumber number ∷ rest

unsigned_sound : (s : Bool) (n : ℕ) (after : List Lexeme) (v : ℕ) (rest : List Lexeme) → (let f : Found ℕ = if s then None else Some (n, after) in f) ≡ Some (v, rest) → (s ≡ false) × ((n ≡ v) × (after ≡ rest))
unsigned_sound true n after v rest h = absurd (let none : ⊥ = cc in none)
unsigned_sound false n after v rest h = (refl, same_found n v after rest h)

count_sound : (ts : List Lexeme) (v : ℕ) (rest : List Lexeme) → count_at ts ≡ Some (v, rest) → IsCountOf ts v rest
count_sound ts v rest h =
    let b = then_ok (number_at ts) (λ n after. if is_signed n then None else Some (kept_count n, after)) (v, rest) h in
    let same = unsigned_sound (is_signed b.part) (kept_count b.part) b.middle v rest b.goes in
    record { number = b.part; unsigned = same.0; is = same.1.0; spells = number_sound ts b.part b.middle b.was ∙ ap (λ (l : List Lexeme). ANumber b.part ∷ l) same.1.1 }

closing_sound : {X : Type 0} (m : Mark) (x y : X) (ts rest : List Lexeme) → closing m x ts ≡ Some (y, rest) → (x ≡ y) × (ts ≡ AMark m ∷ rest)
closing_sound m x y ts rest h =
    let f = chosen_only (behind (is_mark m) ts) (λ r. Some (x, r)) (y, rest) h in
    let same = same_found x y f.rest rest f.goes in
    (same.0, behind_mark m ts f.rest f.front ∙ ap (λ (l : List Lexeme). AMark m ∷ l) same.1)

record IsClosed {X : Type 0} (m : Mark) (f : Option (X × List Lexeme)) (x : X) (rest : List Lexeme) : Type 0 where
  middle : List Lexeme
  was : f ≡ Some (x, middle)
  mark : middle ≡ AMark m ∷ rest

closed_sound : {X : Type 0} (m : Mark) (f : Option (X × List Lexeme)) (x : X) (rest : List Lexeme) → closed m f ≡ Some (x, rest) → IsClosed m f x rest
closed_sound {X} m f x rest h =
    let b = then_ok f (closing m) (x, rest) h in
    let end = closing_sound m b.part x b.middle rest b.goes in
    record { middle = b.middle; was = b.was ∙ ap (λ (v : X). let o : Option (X × List Lexeme) = Some (v, b.middle) in o) end.0; mark = end.1 }

record TimesSpelled (ts : List Lexeme) (v : Option (ℕ × Option ℕ)) (rest : List Lexeme) : Type 0 where
  tree : TimesTree
  is : times_value tree ≡ v
  spells : ts ≡ times_text tree ++ rest

abbrev Bounds : Type 0
Bounds = ℕ × Option ℕ

most_sound : (n : List ℕ) (x : is_signed n ≡ false) (ts : List Lexeme) (m : Option ℕ) (after rest : List Lexeme) → most_at ts ≡ Some (m, after) → after ≡ AMark BrackR ∷ rest → TimesSpelled (AMark BrackL ∷ ANumber n ∷ AMark Comma ∷ ts) (Some (kept_count n, m)) rest
unfolding most_at
most_sound n x ts m after rest h end = elim (chosen_ok (behind (is_mark Under) ts) (λ r. Some (None, r)) (then_read (count_at ts) (λ k r. Some (Some k, r))) (m, after) h) [
  | inl f ↦
      let same = same_found None m f.rest after f.goes in
      let mark = behind_mark Under ts f.rest f.front in
      record { tree = FromOn n x; is = ap (λ (k : Option ℕ). let b : Option Bounds = Some (kept_count n, k) in b) same.0; spells = ap (λ (l : List Lexeme). AMark BrackL ∷ ANumber n ∷ AMark Comma ∷ l) (mark ∙ ap (λ (l : List Lexeme). AMark Under ∷ l) (same.1 ∙ end)) }
  | inr e ↦
      let b = then_ok (count_at ts) (λ k r. let o : Found (Option ℕ) = Some (Some k, r) in o) (m, after) e.1 in
      let k = count_sound ts b.part b.middle b.was in
      let same = same_found (Some b.part) m b.middle after b.goes in
      record { tree = FromTo n k.number x k.unsigned; is = ap (λ (c : ℕ). let b : Option Bounds = Some (kept_count n, Some c) in b) k.is ∙ ap (λ (c : Option ℕ). let b : Option Bounds = Some (kept_count n, c) in b) same.0; spells = ap (λ (l : List Lexeme). AMark BrackL ∷ ANumber n ∷ AMark Comma ∷ l) (k.spells ∙ ap (λ (l : List Lexeme). ANumber k.number ∷ l) (same.1 ∙ end)) }
]

bounds_sound : (ts : List Lexeme) (v : Bounds) (rest : List Lexeme) → bounds_at ts ≡ Some (v, rest) → TimesSpelled (AMark BrackL ∷ ts) (Some v) rest
unfolding bounds_at
bounds_sound ts v rest h =
    let b = then_ok (count_at ts) (λ n r. chosen (behind (is_mark Comma) r) (λ after. then_read (most_at after) (λ m end. closing BrackR (let b : Bounds = (n, m) in b) end)) None) (v, rest) h in
    let n = count_sound ts b.part b.middle b.was in
    let g = chosen_only (behind (is_mark Comma) b.middle) (λ after. then_read (most_at after) (λ m end. closing BrackR (let x : Bounds = (b.part, m) in x) end)) (v, rest) b.goes in
    let c = then_ok (most_at g.rest) (λ m end. closing BrackR (let x : Bounds = (b.part, m) in x) end) (v, rest) g.goes in
    let end = closing_sound BrackR (let x : Bounds = (b.part, c.part) in x) v c.middle rest c.goes in
    let m = most_sound n.number n.unsigned g.rest c.part c.middle rest c.was end.1 in
    let comma = behind_mark Comma b.middle g.rest g.front in
    record {
      tree = m.tree;
      is = m.is ∙ ap (λ (k : ℕ). let x : Option Bounds = Some (k, c.part) in x) n.is ∙ ap (λ (x : Bounds). let y : Option Bounds = Some x in y) end.0;
      spells = ap (λ (l : List Lexeme). AMark BrackL ∷ l) (n.spells ∙ ap (λ (l : List Lexeme). ANumber n.number ∷ l) comma) ∙ m.spells;
    }

times_sound : (ts : List Lexeme) (v : Option Bounds) (rest : List Lexeme) → times_at ts ≡ Some (v, rest) → TimesSpelled ts v rest
unfolding times_at
times_sound ts v rest h = elim (chosen_ok (behind (is_mark Star) ts) (λ r. let o : Found (Option Bounds) = Some (Some (0, None), r) in o) (chosen (behind (is_mark BrackL) ts) (λ r. then_read (bounds_at r) (λ b after. let o : Found (Option Bounds) = Some (Some b, after) in o)) (Some (None, ts))) (v, rest) h) [
  | inl f ↦
      let same = same_found (let x : Option Bounds = Some (0, None) in x) v f.rest rest f.goes in
      let mark = behind_mark Star ts f.rest f.front in
      record { tree = Starred; is = same.0; spells = mark ∙ ap (λ (l : List Lexeme). AMark Star ∷ l) same.1 }
  | inr d ↦ elim (chosen_ok (behind (is_mark BrackL) ts) (λ r. then_read (bounds_at r) (λ b after. let o : Found (Option Bounds) = Some (Some b, after) in o)) (let o : Found (Option Bounds) = Some (None, ts) in o) (v, rest) d.1) [
    | inl f ↦
        let b = then_ok (bounds_at f.rest) (λ b after. let o : Found (Option Bounds) = Some (Some b, after) in o) (v, rest) f.goes in
        let same = same_found (let x : Option Bounds = Some b.part in x) v b.middle rest b.goes in
        let t = bounds_sound f.rest b.part b.middle b.was in
        record { tree = t.tree; is = t.is ∙ same.0; spells = behind_mark BrackL ts f.rest f.front ∙ t.spells ∙ ap (λ (l : List Lexeme). times_text t.tree ++ l) same.1 }
    | inr e ↦ let same = same_found (let x : Option Bounds = None in x) v ts rest e.1 in record { tree = Once; is = same.0; spells = same.1 }
  ]
]

abbrev FactSpelled : List Lexeme → TestTerm → List Lexeme → Type 0
FactSpelled = Spelled FactTree TestTerm fact_text fact_kept

label_sound : (ts : List Lexeme) (c : TestTerm) (rest : List Lexeme) → label_at ts ≡ Some (c, rest) → (w : List ℕ) × ((HasLabel (kept_name w) ≡ c) × (ts ≡ AWord w ∷ rest))
unfolding label_at
label_sound ts c rest h =
    let b = then_ok (word_at ts) (λ w after. Some (HasLabel (kept_name w), after)) (c, rest) h in
    let same = same_found (HasLabel (kept_name b.part)) c b.middle rest b.goes in
    (b.part, (same.0, word_sound ts b.part b.middle b.was ∙ ap (λ (l : List Lexeme). AWord b.part ∷ l) same.1))

record IsTimed (m : Mark) (make : ℤ → TestTerm) (ts : List Lexeme) (c : TestTerm) (rest : List Lexeme) : Type 0 where
  number : List ℕ
  is : make (kept_value number) ≡ c
  spells : ts ≡ AMark m ∷ ANumber number ∷ rest

timed_sound : (m : Mark) (make : ℤ → TestTerm) (ts : List Lexeme) (c : TestTerm) (rest : List Lexeme) → ByFront {Y = TestTerm × List Lexeme} (behind (is_mark m) ts) (λ r. then_read (moment_at r) (λ k after. Some (make k, after))) (c, rest) → IsTimed m make ts c rest
timed_sound m make ts c rest f =
    let b = then_ok (moment_at f.rest) (λ k after. Some (make k, after)) (c, rest) f.goes in
    let same = same_found (make b.part) c b.middle rest b.goes in
    let n = moment_sound f.rest b.part b.middle b.was in
    let mark = behind_mark m ts f.rest f.front in
    record {
      number = n.number;
      is = ap make n.is ∙ same.0;
      spells = mark ∙ ap (λ (l : List Lexeme). AMark m ∷ l) (n.spells ∙ ap (λ (l : List Lexeme). ANumber n.number ∷ l) same.1);
    }

time_sound : (ts : List Lexeme) (c : TestTerm) (rest : List Lexeme) → time_at ts ≡ Some (c, rest) → FactSpelled (AWord (keyword_text Time) ∷ ts) c rest
time_sound ts c rest h = elim (chosen_ok (behind (is_mark Less) ts) (λ r. then_read (moment_at r) (λ k after. Some (IsBelow k, after))) _ (c, rest) h) [
  | inl f ↦ let k = timed_sound Less IsBelow ts c rest f in record { tree = TimeBelow k.number; is = k.is; spells = ap (λ (l : List Lexeme). AWord (keyword_text Time) ∷ l) k.spells }
  | inr d ↦ elim (chosen_ok (behind (is_mark Equal) ts) (λ r. then_read (moment_at r) (λ k after. Some (Conjunction (Negation (IsBelow k)) (IsBelow (k +ℤ pos 1)), after))) _ (c, rest) d.1) [
    | inl f ↦ let k = timed_sound Equal (λ k. Conjunction (Negation (IsBelow k)) (IsBelow (k +ℤ pos 1))) ts c rest f in record { tree = TimeAt k.number; is = k.is; spells = ap (λ (l : List Lexeme). AWord (keyword_text Time) ∷ l) k.spells }
    | inr e ↦
        let f = chosen_only (behind (is_mark AtLeast) ts) (λ r. then_read (moment_at r) (λ k after. Some (Negation (IsBelow k), after))) (c, rest) e.1 in
        let k = timed_sound AtLeast (λ k. Negation (IsBelow k)) ts c rest f in
        record { tree = TimeFrom k.number; is = k.is; spells = ap (λ (l : List Lexeme). AWord (keyword_text Time) ∷ l) k.spells }
  ]
]

word_and : {w v : List ℕ} {ts rest : List Lexeme} → w ≡ v → ts ≡ rest → AWord w ∷ ts ≡ AWord v ∷ rest
word_and e f = cc

fact_by_sound : (o : Option Keyword) (w : List ℕ) → keyword_of w ≡ o → (ts : List Lexeme) (c : TestTerm) (rest : List Lexeme) → fact_by o w ts ≡ Some (c, rest) → FactSpelled (AWord w ∷ ts) c rest
fact_by_sound None w is ts c rest h =
    let f = chosen_only (behind (is_mark Equal) ts) (λ r. then_read (quote_at r) (λ v after. Some (HasValue (kept_name w) (kept_name v), after))) (c, rest) h in
    let b = then_ok (quote_at f.rest) (λ v after. Some (HasValue (kept_name w) (kept_name v), after)) (c, rest) f.goes in
    let same = same_found (HasValue (kept_name w) (kept_name b.part)) c b.middle rest b.goes in
    let mark = behind_mark Equal ts f.rest f.front in
    let quote = quote_sound f.rest b.part b.middle b.was in
    record { tree = PropertyIs w b.part (keyword_none w is); is = same.0; spells = cc }
fact_by_sound (Some Not) w is ts c rest h = absurd (let none : ⊥ = cc in none)
fact_by_sound (Some And) w is ts c rest h = absurd (let none : ⊥ = cc in none)
fact_by_sound (Some Or) w is ts c rest h = absurd (let none : ⊥ = cc in none)
fact_by_sound (Some Node) w is ts c rest h = let same = same_found IsNode c ts rest h in record { tree = NodeFact; is = same.0; spells = word_and (keyword_is w Node is) same.1 }
fact_by_sound (Some Edge) w is ts c rest h = let same = same_found IsEdge c ts rest h in record { tree = EdgeFact; is = same.0; spells = word_and (keyword_is w Edge is) same.1 }
fact_by_sound (Some Exists) w is ts c rest h = let same = same_found DoesExist c ts rest h in record { tree = ExistsFact; is = same.0; spells = word_and (keyword_is w Exists is) same.1 }
fact_by_sound (Some Time) w is ts c rest h =
    let t = time_sound ts c rest h in
    record { tree = t.tree; is = t.is; spells = ap (λ (v : List ℕ). AWord v ∷ ts) (keyword_is w Time is) ∙ t.spells }

fact_sound : (ts : List Lexeme) (c : TestTerm) (rest : List Lexeme) → fact_at ts ≡ Some (c, rest) → FactSpelled ts c rest
unfolding fact_at
fact_sound ts c rest h = elim (chosen_ok (behind (is_mark Colon) ts) label_at (then_read (word_at ts) (λ w after. fact_by (keyword_of w) w after)) (c, rest) h) [
  | inl f ↦
      let l = label_sound f.rest c rest f.goes in
      record { tree = Labelled l.0; is = l.1.0; spells = behind_mark Colon ts f.rest f.front ∙ ap (λ (k : List Lexeme). AMark Colon ∷ k) l.1.1 }
  | inr d ↦
      let b = then_ok (word_at ts) (λ w after. fact_by (keyword_of w) w after) (c, rest) d.1 in
      let f = fact_by_sound (keyword_of b.part) b.part refl b.middle c rest b.goes in
      record { tree = f.tree; is = f.is; spells = word_sound ts b.part b.middle b.was ∙ f.spells }
]

-- what stands between two marks
enclosed : (m k : Mark) (text : List Lexeme) (ts inner middle rest : List Lexeme) → ts ≡ AMark m ∷ inner → inner ≡ text ++ middle → middle ≡ AMark k ∷ rest → ts ≡ AMark m ∷ ((text ++ AMark k ∷ []) ++ rest)
enclosed m k text ts inner middle rest e f g = e ∙ ap (λ (l : List Lexeme). AMark m ∷ l) (f ∙ ap (λ (l : List Lexeme). text ++ l) g ∙ sym (append_assoc text (AMark k ∷ []) rest))

-- a part behind a joint
regroup : (xs : List Lexeme) (t k : Lexeme) (tail ys rest : List Lexeme) → t ≡ k → tail ≡ ys ++ rest → xs ++ t ∷ tail ≡ (xs ++ k ∷ ys) ++ rest
regroup xs t k tail ys rest e f = ap (λ (u : Lexeme). xs ++ u ∷ tail) e ∙ ap (λ (l : List Lexeme). xs ++ k ∷ l) f ∙ sym (append_assoc xs (k ∷ ys) rest)

abbrev AltSpelled : List Lexeme → PathTerm → List Lexeme → Type 0
AltSpelled = Spelled AltTree PathTerm alt_text alt_kept

abbrev SeqSpelled : List Lexeme → PathTerm → List Lexeme → Type 0
SeqSpelled = Spelled SeqTree PathTerm seq_text seq_kept

abbrev RepSpelled : List Lexeme → PathTerm → List Lexeme → Type 0
RepSpelled = Spelled RepTree PathTerm rep_text rep_kept

abbrev AtomSpelled : List Lexeme → PathTerm → List Lexeme → Type 0
AtomSpelled = Spelled AtomTree PathTerm atom_text atom_kept

abbrev OrSpelled : List Lexeme → TestTerm → List Lexeme → Type 0
OrSpelled = Spelled OrTree TestTerm or_text or_kept

abbrev AndSpelled : List Lexeme → TestTerm → List Lexeme → Type 0
AndSpelled = Spelled AndTree TestTerm and_text and_kept

abbrev UnarySpelled : List Lexeme → TestTerm → List Lexeme → Type 0
UnarySpelled = Spelled UnaryTree TestTerm unary_text unary_kept

abbrev PrimSpelled : List Lexeme → TestTerm → List Lexeme → Type 0
PrimSpelled = Spelled PrimTree TestTerm prim_text prim_kept

alt_joined : (a : AltTree) (t : Lexeme) (b : SeqTree) (tail rest : List Lexeme) → is_mark Plus t ≡ true → tail ≡ seq_text b ++ rest → AltSpelled (alt_text a ++ t ∷ tail) (Choice (alt_kept a) (seq_kept b)) rest
alt_joined a t b tail rest p e = record { tree = MoreSeq a b; is = refl; spells = regroup (alt_text a) t (AMark Plus) tail (seq_text b) rest (mark_is Plus t p) e }

seq_joined : (a : SeqTree) (t : Lexeme) (b : RepTree) (tail rest : List Lexeme) → is_mark Slash t ≡ true → tail ≡ rep_text b ++ rest → SeqSpelled (seq_text a ++ t ∷ tail) (Sequence (seq_kept a) (rep_kept b)) rest
seq_joined a t b tail rest p e = record { tree = MoreRep a b; is = refl; spells = regroup (seq_text a) t (AMark Slash) tail (rep_text b) rest (mark_is Slash t p) e }

or_joined : (a : OrTree) (t : Lexeme) (b : AndTree) (tail rest : List Lexeme) → is_word (keyword_text Or) t ≡ true → tail ≡ and_text b ++ rest → OrSpelled (or_text a ++ t ∷ tail) (Disjunction (or_kept a) (and_kept b)) rest
or_joined a t b tail rest p e = record { tree = MoreAnd a b; is = refl; spells = regroup (or_text a) t (AWord (keyword_text Or)) tail (and_text b) rest (word_is (keyword_text Or) t p) e }

and_joined : (a : AndTree) (t : Lexeme) (b : UnaryTree) (tail rest : List Lexeme) → is_both t ≡ true → tail ≡ unary_text b ++ rest → AndSpelled (and_text a ++ t ∷ tail) (Conjunction (and_kept a) (unary_kept b)) rest
and_joined a t b tail rest p e =
    let both = both_is t p in
    record { tree = MoreUnary a both.0 b; is = refl; spells = regroup (and_text a) t (both_text both.0) tail (unary_text b) rest both.1 e }

-- a path in brackets, by what is known of paths
module _ (alts : List Lexeme → Found PathTerm) (alts_sound : (ts : List Lexeme) (p : PathTerm) (rest : List Lexeme) → alts ts ≡ Some (p, rest) → AltSpelled ts p rest) where
  group_sound : (ts inner : List Lexeme) (p : PathTerm) (rest : List Lexeme) → ts ≡ AMark ParenL ∷ inner → closed ParenR (alts inner) ≡ Some (p, rest) → (a : AltTree) × ((alt_kept a ≡ p) × (ts ≡ AMark ParenL ∷ ((alt_text a ++ AMark ParenR ∷ []) ++ rest)))
  group_sound ts inner p rest e h =
      let c = closed_sound ParenR (alts inner) p rest h in
      let s = alts_sound inner p c.middle c.was in
      (s.tree, (s.is, enclosed ParenL ParenR (alt_text s.tree) ts inner c.middle rest e s.spells c.mark))

  asked_sound : (ts : List Lexeme) (p : PathTerm) (rest : List Lexeme) → asked_by alts ts ≡ Some (p, rest) → (a : AltTree) × ((alt_kept a ≡ p) × (ts ≡ AMark ParenL ∷ ((alt_text a ++ AMark ParenR ∷ []) ++ rest)))
  asked_sound ts p rest h =
      let f = chosen_only (behind (is_mark ParenL) ts) (λ r. closed ParenR (alts r)) (p, rest) h in
      group_sound ts f.rest p rest (behind_mark ParenL ts f.rest f.front) f.goes

-- tests in brackets
tests_sound : (m k : Mark) (ors : List Lexeme → Found TestTerm) → ((ts : List Lexeme) (c : TestTerm) (rest : List Lexeme) → ors ts ≡ Some (c, rest) → OrSpelled ts c rest) →
    (ts inner : List Lexeme) (c : TestTerm) (rest : List Lexeme) → ts ≡ AMark m ∷ inner → closed k (ors inner) ≡ Some (c, rest) → (o : OrTree) × ((or_kept o ≡ c) × (ts ≡ AMark m ∷ ((or_text o ++ AMark k ∷ []) ++ rest)))
tests_sound m k ors ors_sound ts inner c rest e h =
    let d = closed_sound k (ors inner) c rest h in
    let s = ors_sound inner c d.middle d.was in
    (s.tree, (s.is, enclosed m k (or_text s.tree) ts inner d.middle rest e s.spells d.mark))

step_sound : (o : Option Axis) (w : List ℕ) → axis_of w ≡ o → (ts : List Lexeme) (p : PathTerm) (rest : List Lexeme) → step_by o ts ≡ Some (p, rest) → AtomSpelled (AWord w ∷ ts) p rest
step_sound None w is ts p rest h = absurd (let none : ⊥ = cc in none)
step_sound (Some a) w is ts p rest h = let same = same_found (axis_path a) p ts rest h in record { tree = Step a; is = same.0; spells = word_and (axis_is w a is) same.1 }

module _ (alts : List Lexeme → Found PathTerm) (alts_sound : (ts : List Lexeme) (p : PathTerm) (rest : List Lexeme) → alts ts ≡ Some (p, rest) → AltSpelled ts p rest)
    (ors : List Lexeme → Found TestTerm) (ors_sound : (ts : List Lexeme) (c : TestTerm) (rest : List Lexeme) → ors ts ≡ Some (c, rest) → OrSpelled ts c rest) where
  atom_by_sound : (ts : List Lexeme) (p : PathTerm) (rest : List Lexeme) → atom_by alts ors ts ≡ Some (p, rest) → AtomSpelled ts p rest
  unfolding step_at
  atom_by_sound ts p rest h = elim (chosen_ok (behind (is_mark Colon) ts) (λ r. then_read (label_at r) (λ c after. Some (OfTest c, after))) _ (p, rest) h) [
    | inl f ↦
        let b = then_ok (label_at f.rest) (λ c after. Some (OfTest c, after)) (p, rest) f.goes in
        let l = label_sound f.rest b.part b.middle b.was in
        let same = same_found (OfTest b.part) p b.middle rest b.goes in
        record {
          tree = AtLabel l.0;
          is = ap OfTest l.1.0 ∙ same.0;
          spells = behind_mark Colon ts f.rest f.front ∙ ap (λ (k : List Lexeme). AMark Colon ∷ k) (l.1.1 ∙ ap (λ (k : List Lexeme). AWord l.0 ∷ k) same.1);
        }
    | inr d ↦ elim (chosen_ok (behind (is_mark BraceL) ts) (λ r. then_read (closed BraceR (ors r)) (λ c after. Some (OfTest c, after))) _ (p, rest) d.1) [
      | inl f ↦
          let b = then_ok (closed BraceR (ors f.rest)) (λ c after. Some (OfTest c, after)) (p, rest) f.goes in
          let o = tests_sound BraceL BraceR ors ors_sound ts f.rest b.part b.middle (behind_mark BraceL ts f.rest f.front) b.was in
          let same = same_found (OfTest b.part) p b.middle rest b.goes in
          record { tree = Braced o.0; is = ap OfTest o.1.0 ∙ same.0; spells = o.1.1 ∙ ap (λ (l : List Lexeme). AMark BraceL ∷ ((or_text o.0 ++ AMark BraceR ∷ []) ++ l)) same.1 }
      | inr e ↦ elim (chosen_ok (behind (is_mark Ask) ts) (λ r. then_read (asked_by alts r) (λ q after. Some (OfTest (Condition q), after))) _ (p, rest) e.1) [
        | inl f ↦
            let b = then_ok (asked_by alts f.rest) (λ q after. Some (OfTest (Condition q), after)) (p, rest) f.goes in
            let a = asked_sound alts alts_sound f.rest b.part b.middle b.was in
            let same = same_found (OfTest (Condition b.part)) p b.middle rest b.goes in
            record {
              tree = Asked a.0;
              is = ap (λ (q : PathTerm). OfTest (Condition q)) a.1.0 ∙ same.0;
              spells = behind_mark Ask ts f.rest f.front ∙ ap (λ (l : List Lexeme). AMark Ask ∷ l) (a.1.1 ∙ ap (λ (l : List Lexeme). AMark ParenL ∷ ((alt_text a.0 ++ AMark ParenR ∷ []) ++ l)) same.1);
            }
        | inr g ↦ elim (chosen_ok (behind (is_mark ParenL) ts) (λ r. closed ParenR (alts r)) (step_at ts) (p, rest) g.1) [
          | inl f ↦
              let a = group_sound alts alts_sound ts f.rest p rest (behind_mark ParenL ts f.rest f.front) f.goes in
              record { tree = Grouped a.0; is = a.1.0; spells = a.1.1 }
          | inr k ↦
              let b = then_ok (word_at ts) (λ w after. step_by (axis_of w) after) (p, rest) k.1 in
              let s = step_sound (axis_of b.part) b.part refl b.middle p rest b.goes in
              record { tree = s.tree; is = s.is; spells = word_sound ts b.part b.middle b.was ∙ s.spells }
        ]
      ]
    ]
  ]

  prim_by_sound : (ts : List Lexeme) (c : TestTerm) (rest : List Lexeme) → prim_by alts ors ts ≡ Some (c, rest) → PrimSpelled ts c rest
  prim_by_sound ts c rest h = elim (chosen_ok (behind (is_mark Ask) ts) (λ r. then_read (asked_by alts r) (λ q after. Some (Condition q, after))) _ (c, rest) h) [
    | inl f ↦
        let b = then_ok (asked_by alts f.rest) (λ q after. Some (Condition q, after)) (c, rest) f.goes in
        let a = asked_sound alts alts_sound f.rest b.part b.middle b.was in
        let same = same_found (Condition b.part) c b.middle rest b.goes in
        record {
          tree = OfPath a.0;
          is = ap Condition a.1.0 ∙ same.0;
          spells = behind_mark Ask ts f.rest f.front ∙ ap (λ (l : List Lexeme). AMark Ask ∷ l) (a.1.1 ∙ ap (λ (l : List Lexeme). AMark ParenL ∷ ((alt_text a.0 ++ AMark ParenR ∷ []) ++ l)) same.1);
        }
    | inr d ↦ elim (chosen_ok (behind (is_mark ParenL) ts) (λ r. closed ParenR (ors r)) (fact_at ts) (c, rest) d.1) [
      | inl f ↦
          let o = tests_sound ParenL ParenR ors ors_sound ts f.rest c rest (behind_mark ParenL ts f.rest f.front) f.goes in
          record { tree = OfTests o.0; is = o.1.0; spells = o.1.1 }
      | inr e ↦ let s = fact_sound ts c rest e.1 in record { tree = OfFact s.tree; is = s.is; spells = s.spells }
    ]
  ]

unary_by_sound : (prims : List Lexeme → Found TestTerm) → ((ts : List Lexeme) (c : TestTerm) (rest : List Lexeme) → prims ts ≡ Some (c, rest) → PrimSpelled ts c rest) →
    (ts : List Lexeme) (c : TestTerm) (rest : List Lexeme) → unary_by prims ts ≡ Some (c, rest) → UnarySpelled ts c rest
unary_by_sound prims prims_sound ts c rest h = elim (chosen_ok (behind (is_word (keyword_text Not)) ts) (λ r. then_read (prims r) (λ d after. Some (Negation d, after))) (prims ts) (c, rest) h) [
  | inl f ↦
      let b = then_ok (prims f.rest) (λ d after. Some (Negation d, after)) (c, rest) f.goes in
      let s = prims_sound f.rest b.part b.middle b.was in
      let same = same_found (Negation b.part) c b.middle rest b.goes in
      record {
        tree = Negated s.tree;
        is = ap Negation s.is ∙ same.0;
        spells = behind_word (keyword_text Not) ts f.rest f.front ∙ ap (λ (l : List Lexeme). AWord (keyword_text Not) ∷ l) (s.spells ∙ ap (λ (l : List Lexeme). prim_text s.tree ++ l) same.1);
      }
  | inr d ↦ let s = prims_sound ts c rest d.1 in record { tree = Plain s.tree; is = s.is; spells = s.spells }
]

times_joined : (a : AtomTree) (t : TimesTree) (ts middle rest : List Lexeme) → ts ≡ atom_text a ++ middle → middle ≡ times_text t ++ rest → ts ≡ (atom_text a ++ times_text t) ++ rest
times_joined a t ts middle rest e f = e ∙ ap (λ (l : List Lexeme). atom_text a ++ l) f ∙ sym (append_assoc (atom_text a) (times_text t) rest)

mutual
  unfolding alt_at

  pub alt_sound : (n : ℕ) (ts : List Lexeme) (p : PathTerm) (rest : List Lexeme) → alt_at n ts ≡ Some (p, rest) → AltSpelled ts p rest
  alt_sound zero ts p rest h = absurd (let none : ⊥ = cc in none)
  alt_sound (suc n) ts p rest h =
      let b = then_ok (seq_at n ts) (λ x r. more_by (is_mark Plus) Choice (seq_at n) n x r) (p, rest) h in
      let s = seq_sound n ts b.part b.middle b.was in
      more_sound (is_mark Plus) Choice (seq_at n) AltTree SeqTree alt_text seq_text alt_kept seq_kept (seq_sound n) alt_joined n b.part b.middle p rest b.goes ts (OneSeq s.tree) s.is s.spells

  seq_sound : (n : ℕ) (ts : List Lexeme) (p : PathTerm) (rest : List Lexeme) → seq_at n ts ≡ Some (p, rest) → SeqSpelled ts p rest
  seq_sound zero ts p rest h = absurd (let none : ⊥ = cc in none)
  seq_sound (suc n) ts p rest h =
      let b = then_ok (rep_at n ts) (λ x r. more_by (is_mark Slash) Sequence (rep_at n) n x r) (p, rest) h in
      let s = rep_sound n ts b.part b.middle b.was in
      more_sound (is_mark Slash) Sequence (rep_at n) SeqTree RepTree seq_text rep_text seq_kept rep_kept (rep_sound n) seq_joined n b.part b.middle p rest b.goes ts (OneRep s.tree) s.is s.spells

  rep_sound : (n : ℕ) (ts : List Lexeme) (p : PathTerm) (rest : List Lexeme) → rep_at n ts ≡ Some (p, rest) → RepSpelled ts p rest
  rep_sound zero ts p rest h = absurd (let none : ⊥ = cc in none)
  rep_sound (suc n) ts p rest h =
      let b = then_ok (atom_at n ts) (λ q r. then_read (times_at r) (λ t after. let o : Found PathTerm = Some (repeated t q, after) in o)) (p, rest) h in
      let a = atom_sound n ts b.part b.middle b.was in
      let c = then_ok (times_at b.middle) (λ t after. let o : Found PathTerm = Some (repeated t b.part, after) in o) (p, rest) b.goes in
      let t = times_sound b.middle c.part c.middle c.was in
      let same = same_found (repeated c.part b.part) p c.middle rest c.goes in
      record {
        tree = AtomTimes a.tree t.tree;
        is = ap (times_kept t.tree) a.is ∙ ap (λ (v : Option Bounds). repeated v b.part) t.is ∙ same.0;
        spells = times_joined a.tree t.tree ts b.middle rest a.spells (t.spells ∙ ap (λ (l : List Lexeme). times_text t.tree ++ l) same.1);
      }

  atom_sound : (n : ℕ) (ts : List Lexeme) (p : PathTerm) (rest : List Lexeme) → atom_at n ts ≡ Some (p, rest) → AtomSpelled ts p rest
  atom_sound zero ts p rest h = absurd (let none : ⊥ = cc in none)
  atom_sound (suc n) ts p rest h = atom_by_sound (alt_at n) (alt_sound n) (or_at n) (or_sound n) ts p rest h

  pub or_sound : (n : ℕ) (ts : List Lexeme) (c : TestTerm) (rest : List Lexeme) → or_at n ts ≡ Some (c, rest) → OrSpelled ts c rest
  or_sound zero ts p rest h = absurd (let none : ⊥ = cc in none)
  or_sound (suc n) ts p rest h =
      let b = then_ok (and_at n ts) (λ x r. more_by (is_word (keyword_text Or)) Disjunction (and_at n) n x r) (p, rest) h in
      let s = and_sound n ts b.part b.middle b.was in
      more_sound (is_word (keyword_text Or)) Disjunction (and_at n) OrTree AndTree or_text and_text or_kept and_kept (and_sound n) or_joined n b.part b.middle p rest b.goes ts (OneAnd s.tree) s.is s.spells

  and_sound : (n : ℕ) (ts : List Lexeme) (c : TestTerm) (rest : List Lexeme) → and_at n ts ≡ Some (c, rest) → AndSpelled ts c rest
  and_sound zero ts p rest h = absurd (let none : ⊥ = cc in none)
  and_sound (suc n) ts p rest h =
      let b = then_ok (unary_at n ts) (λ x r. more_by is_both Conjunction (unary_at n) n x r) (p, rest) h in
      let s = unary_sound n ts b.part b.middle b.was in
      more_sound is_both Conjunction (unary_at n) AndTree UnaryTree and_text unary_text and_kept unary_kept (unary_sound n) and_joined n b.part b.middle p rest b.goes ts (OneUnary s.tree) s.is s.spells

  unary_sound : (n : ℕ) (ts : List Lexeme) (c : TestTerm) (rest : List Lexeme) → unary_at n ts ≡ Some (c, rest) → UnarySpelled ts c rest
  unary_sound zero ts p rest h = absurd (let none : ⊥ = cc in none)
  unary_sound (suc n) ts p rest h = unary_by_sound (prim_at n) (prim_sound n) ts p rest h

  prim_sound : (n : ℕ) (ts : List Lexeme) (c : TestTerm) (rest : List Lexeme) → prim_at n ts ≡ Some (c, rest) → PrimSpelled ts c rest
  prim_sound zero ts p rest h = absurd (let none : ⊥ = cc in none)
  prim_sound (suc n) ts p rest h = prim_by_sound (alt_at n) (alt_sound n) (or_at n) (or_sound n) ts p rest h

name_sound : (ts : List Lexeme) (name : Option (List ℕ)) (rest : List Lexeme) → name_at ts ≡ Some (name, rest) → (n : Option (List ℕ)) × ((name_kept n ≡ name) × (ts ≡ name_text n ++ rest))
name_sound [] name rest h = let same = same_found None name [] rest h in (None, same)
name_sound (AWord w ∷ ts) name rest h = let same = same_found (Some (kept_name w)) name ts rest h in (Some w, (same.0, ap (λ (l : List Lexeme). AWord w ∷ l) same.1))
name_sound (ANumber n ∷ ts) name rest h = let same = same_found None name (ANumber n ∷ ts) rest h in (None, same)
name_sound (AQuote q ∷ ts) name rest h = let same = same_found None name (AQuote q ∷ ts) rest h in (None, same)
name_sound (AMark m ∷ ts) name rest h = let same = same_found None name (AMark m ∷ ts) rest h in (None, same)

and_label_sound : (c : TestTerm) (ts : List Lexeme) (d : TestTerm) (rest : List Lexeme) → and_label c ts ≡ Some (d, rest) → (l : Option (List ℕ)) × ((with_label_kept l c ≡ d) × (ts ≡ label_text l ++ rest))
and_label_sound c ts d rest h = elim (chosen_ok (behind (is_mark Colon) ts) (λ r. then_read (label_at r) (λ e after. Some (Conjunction c e, after))) (Some (c, ts)) (d, rest) h) [
  | inl f ↦
      let b = then_ok (label_at f.rest) (λ e after. Some (Conjunction c e, after)) (d, rest) f.goes in
      let l = label_sound f.rest b.part b.middle b.was in
      let same = same_found (Conjunction c b.part) d b.middle rest b.goes in
      (Some l.0, (ap (Conjunction c) l.1.0 ∙ same.0, behind_mark Colon ts f.rest f.front ∙ ap (λ (k : List Lexeme). AMark Colon ∷ k) (l.1.1 ∙ ap (λ (k : List Lexeme). AWord l.0 ∷ k) same.1)))
  | inr e ↦ (None, same_found c d ts rest e.1)
]

and_tests_sound : (ors : List Lexeme → Found TestTerm) → ((ts : List Lexeme) (c : TestTerm) (rest : List Lexeme) → ors ts ≡ Some (c, rest) → OrSpelled ts c rest) →
    (c : TestTerm) (ts : List Lexeme) (d : TestTerm) (rest : List Lexeme) → and_tests ors c ts ≡ Some (d, rest) → (o : Option OrTree) × ((with_tests_kept o c ≡ d) × (ts ≡ tests_text o ++ rest))
and_tests_sound ors ors_sound c ts d rest h = elim (chosen_ok (behind (is_mark BraceL) ts) (λ r. then_read (closed BraceR (ors r)) (λ e after. Some (Conjunction c e, after))) (Some (c, ts)) (d, rest) h) [
  | inl f ↦
      let b = then_ok (closed BraceR (ors f.rest)) (λ e after. Some (Conjunction c e, after)) (d, rest) f.goes in
      let o = tests_sound BraceL BraceR ors ors_sound ts f.rest b.part b.middle (behind_mark BraceL ts f.rest f.front) b.was in
      let same = same_found (Conjunction c b.part) d b.middle rest b.goes in
      (Some o.0, (ap (Conjunction c) o.1.0 ∙ same.0, o.1.1 ∙ ap (λ (l : List Lexeme). AMark BraceL ∷ ((or_text o.0 ++ AMark BraceR ∷ []) ++ l)) same.1))
  | inr e ↦ (None, same_found c d ts rest e.1)
]

pub regroup_inside : (a b c : List Lexeme) (t : Lexeme) (rest : List Lexeme) → a ++ (b ++ (c ++ t ∷ rest)) ≡ (a ++ (b ++ (c ++ t ∷ []))) ++ rest
regroup_inside a b c t rest = sym (append_assoc a (b ++ (c ++ t ∷ [])) rest ∙ ap (λ (l : List Lexeme). a ++ l) (append_assoc b (c ++ t ∷ []) rest ∙ ap (λ (l : List Lexeme). b ++ l) (append_assoc c (t ∷ []) rest)))

abbrev PatternSpelled : List Lexeme → Pattern → List Lexeme → Type 0
PatternSpelled = Spelled PatternTree Pattern pattern_text pattern_kept

pattern_sound : (ors : List Lexeme → Found TestTerm) → ((ts : List Lexeme) (c : TestTerm) (rest : List Lexeme) → ors ts ≡ Some (c, rest) → OrSpelled ts c rest) →
    (ts : List Lexeme) (p : Pattern) (rest : List Lexeme) → pattern_by ors ts ≡ Some (p, rest) → PatternSpelled ts p rest
unfolding pattern_by
pattern_sound ors ors_sound ts p rest h =
    let f = chosen_only (behind (is_mark ParenL) ts) (inside_by ors) (p, rest) h in
    let b = then_ok (name_at f.rest) _ (p, rest) f.goes in
    let c = then_ok (and_label node_test b.middle) _ (p, rest) b.goes in
    let d = then_ok (and_tests ors c.part c.middle) _ (p, rest) c.goes in
    let n = name_sound f.rest b.part b.middle b.was in
    let l = and_label_sound node_test b.middle c.part c.middle c.was in
    let o = and_tests_sound ors ors_sound c.part c.middle d.part d.middle d.was in
    let end = closing_sound ParenR (let q : Pattern = record { name = b.part; path = OfTest d.part } in q) p d.middle rest d.goes in
    record {
      tree = record { name = n.0; label = l.0; tests = o.0 };
      is = (λ i. record { name = n.1.0 i; path = OfTest ((ap (with_tests_kept o.0) l.1.0 ∙ o.1.0) i) }) ∙ end.0;
      spells = behind_mark ParenL ts f.rest f.front ∙ ap (λ (k : List Lexeme). AMark ParenL ∷ k) (
          n.1.1 ∙ ap (λ (k : List Lexeme). name_text n.0 ++ k) (l.1.1 ∙ ap (λ (k : List Lexeme). label_text l.0 ++ k) (o.1.1 ∙ ap (λ (k : List Lexeme). tests_text o.0 ++ k) end.1))
          ∙ regroup_inside (name_text n.0) (label_text l.0) (tests_text o.0) (AMark ParenR) rest
          );
    }

-- a path and the pattern behind it
abbrev pub piece_text : AltTree × PatternTree → List Lexeme
piece_text q = alt_text q.0 ++ AMark SlashDash ∷ pattern_text q.1

abbrev pub piece_kept : AltTree × PatternTree → PathTerm × Pattern
piece_kept q = (alt_kept q.0, pattern_kept q.1)

abbrev PieceSpelled : List Lexeme → PathTerm × Pattern → List Lexeme → Type 0
PieceSpelled = Spelled (AltTree × PatternTree) (PathTerm × Pattern) piece_text piece_kept

piece_sound : (n : ℕ) (ts : List Lexeme) (x : PathTerm × Pattern) (rest : List Lexeme) → piece_by (alt_at n) (or_at n) ts ≡ Some (x, rest) → PieceSpelled ts x rest
unfolding piece_by
piece_sound n ts x rest h =
    let b = then_ok (closed SlashDash (alt_at n ts)) (λ p r. then_read (pattern_by (or_at n) r) (λ q after. let o : Option ((PathTerm × Pattern) × List Lexeme) = Some ((p, q), after) in o)) (x, rest) h in
    let c = closed_sound SlashDash (alt_at n ts) b.part b.middle b.was in
    let a = alt_sound n ts b.part c.middle c.was in
    let d = then_ok (pattern_by (or_at n) b.middle) (λ q after. let o : Option ((PathTerm × Pattern) × List Lexeme) = Some ((b.part, q), after) in o) (x, rest) b.goes in
    let p = pattern_sound (or_at n) (or_sound n) b.middle d.part d.middle d.was in
    let same = same_found (let y : PathTerm × Pattern = (b.part, d.part) in y) x d.middle rest d.goes in
    record {
      tree = (a.tree, p.tree);
      is = (λ i. (a.is i, p.is i)) ∙ same.0;
      spells = a.spells ∙ ap (λ (k : List Lexeme). alt_text a.tree ++ k) (c.mark ∙ ap (λ (k : List Lexeme). AMark SlashDash ∷ k) (p.spells ∙ ap (λ (k : List Lexeme). pattern_text p.tree ++ k) same.1))
          ∙ sym (append_assoc (alt_text a.tree) (AMark SlashDash ∷ pattern_text p.tree) rest);
    }

abbrev ChainSpelled : List Lexeme → Chain → List Lexeme → Type 0
ChainSpelled = Spelled ChainTree Chain chain_text chain_kept

chain_joined : (a : ChainTree) (t : Lexeme) (b : AltTree × PatternTree) (tail rest : List Lexeme) → is_mark DashSlash t ≡ true → tail ≡ piece_text b ++ rest → ChainSpelled (chain_text a ++ t ∷ tail) (with_piece (chain_kept a) (piece_kept b)) rest
chain_joined a t b tail rest p e = record { tree = MorePattern a b.0 b.1; is = refl; spells = regroup (chain_text a) t (AMark DashSlash) tail (piece_text b) rest (mark_is DashSlash t p) e }

chain_sound : (n : ℕ) (ts : List Lexeme) (c : Chain) (rest : List Lexeme) → chain_at n ts ≡ Some (c, rest) → ChainSpelled ts c rest
chain_sound n ts c rest h =
    let b = then_ok (pattern_by (or_at n) ts) (λ p r. more_by (is_mark DashSlash) with_piece (piece_by (alt_at n) (or_at n)) n (chain_of p) r) (c, rest) h in
    let p = pattern_sound (or_at n) (or_sound n) ts b.part b.middle b.was in
    more_sound (is_mark DashSlash) with_piece (piece_by (alt_at n) (or_at n)) ChainTree (AltTree × PatternTree) chain_text piece_text chain_kept piece_kept (piece_sound n) chain_joined n (chain_of b.part) b.middle c rest b.goes ts
    (OnePattern p.tree) (ap chain_of p.is) p.spells

-- a tree of the whole
pub record Whole (ts : List Lexeme) (c : Chain) (g : Option (List ℕ)) : Type 0 where
  pub tree : QueryTree
  pub chain : chain_kept tree.chain ≡ c
  pub graph : name_kept tree.graph_name ≡ g
  pub spells : query_text tree ≡ ts

abbrev ended_or : {X : Type 0} → Option X → X → X
ended_or None d = d
ended_or (Some v) d = v

ended_sound : {X : Type 0} (x y : X) (ts : List Lexeme) → ended x ts ≡ Some y → (x ≡ y) × (ts ≡ [])
ended_sound {X = X} x y [] h = (ap (λ (o : Option X). ended_or o x) h, refl)
ended_sound x y (t ∷ ts) h = absurd (let none : ⊥ = cc in none)

record GraphSpelled (ts : List Lexeme) (g : Option (List ℕ)) : Type 0 where
  name : Option (List ℕ)
  is : name_kept name ≡ g
  spells : ts ≡ graph_text name

graph_sound : (ts : List Lexeme) (g : Option (List ℕ)) → graph_at ts ≡ Some g → GraphSpelled ts g
unfolding graph_at
graph_sound ts g h = elim (chosen_ok (behind (is_word on_text) ts) (λ rest. then_read (word_at rest) (λ w end. ended (Some (kept_name w)) end)) (ended None ts) g h) [
  | inl f ↦
      let b = then_ok (word_at f.rest) (λ w end. ended (Some (kept_name w)) end) g f.goes in
      let e = ended_sound (Some (kept_name b.part)) g b.middle b.goes in
      record {
        name = Some b.part;
        is = e.0;
        spells = behind_word on_text ts f.rest f.front ∙ ap (λ (l : List Lexeme). AWord on_text ∷ l) (word_sound f.rest b.part b.middle b.was ∙ ap (λ (l : List Lexeme). AWord b.part ∷ l) e.1);
      }
  | inr k ↦ let e = ended_sound None g ts k.1 in record { name = None; is = e.0; spells = e.1 }
]

record GraphOf (c : Chain) (o : Option (Option (List ℕ))) (x : Chain × Option (List ℕ)) : Type 0 where
  graph : Option (List ℕ)
  was : o ≡ Some graph
  is : (let y : Chain × Option (List ℕ) = (c, graph) in y) ≡ x

graph_of : (c : Chain) (o : Option (Option (List ℕ))) (x : Chain × Option (List ℕ)) → with_graph c o ≡ Some x → GraphOf c o x
graph_of c None x h = absurd (let none : ⊥ = cc in none)
graph_of c (Some g) x h = record { graph = g; was = refl; is = ap (λ (o : Option (Chain × Option (List ℕ))). ended_or o (c, g)) h }

pub query_sound : (n : ℕ) (ts : List Lexeme) (x : Chain × Option (List ℕ)) → query_at n ts ≡ Some x → Whole ts x.0 x.1
query_sound n ts x h =
    let f = chosen_only (behind (is_word match_text) ts) (λ rest. then_read (chain_at n rest) (λ c after. with_graph c (graph_at after))) x h in
    let b = then_ok (chain_at n f.rest) (λ c after. with_graph c (graph_at after)) x f.goes in
    let c = chain_sound n f.rest b.part b.middle b.was in
    let k = graph_of b.part (graph_at b.middle) x b.goes in
    let g = graph_sound b.middle k.graph k.was in
    record {
      tree = record { chain = c.tree; graph_name = g.name };
      chain = c.is ∙ ap (λ (y : Chain × Option (List ℕ)). y.0) k.is;
      graph = g.is ∙ ap (λ (y : Chain × Option (List ℕ)). y.1) k.is;
      spells = sym (behind_word match_text ts f.rest f.front ∙ ap (λ (l : List Lexeme). AWord match_text ∷ l) (c.spells ∙ ap (λ (l : List Lexeme). chain_text c.tree ++ l) g.spells));
    }
