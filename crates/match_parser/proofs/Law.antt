-- A text reads as at most one query, and has a first fault exactly where it reads as none.
use Rattle.std.proofs.Common.{◌≡◌, ◌⊎◌, inl, inr, ⊎_elim, ℕ, zero, suc, ◌+◌, ◌*◌, ◌<◌, ◌≤◌, not, List, [], ◌∷◌, map, length, take, drop, Option, Some, None, refl, sym, ap, subst, ◌∙◌, arith}
use Rattle.std.specs.Prelude.{is_some, IsTrue, count_by}
use Rattle.std.proofs.lemmas.Bool.{cases_lt}
use Rattle.std.proofs.lemmas.List.{take_all}
use Rattle.itpg_base.specs.Decided.{Decided}
use Rattle.itpg_base.specs.TextCodes.{text_place}
use Rattle.itpg_base.proofs.TextOrder.{one_place, place_within}
use Rattle.itpg_base.specs.declared.text_code.TextCode.{TextCode}
use Rattle.itpg_base.specs.declared.text_code.TextCode.TheVariants.{Long, Byte, Tokens, Deep, Text, Number, Name, Range, Names, Terms}
use Rattle.itpg_base.proofs.Searches.{is_true, either, both, same_word}
use Rattle.script_lex.specs.Lexemes.{Lexeme}
use Rattle.script_lex.specs.Lines.{Placed, behind_blanks, AreTokens}
use Rattle.script_lex.proofs.Rows.{one_of_two}
use Rattle.script_lex.specs.declared.token.TheConstants.{MAX_TOKENS}
use Rattle.path_ast.specs.declared.counts.TheConstants.{MAX_TERMS}
use Rattle.match_parser.specs.declared.scan.TheConstants.{MAX_DEPTH}
use Rattle.path_ast.specs.Terms.{QueryTerm}
use Rattle.path_ast.specs.Sizes.{path_size}
use Rattle.match_parser.specs.Grammar.{QueryTree, query_text}
use Rattle.match_parser.specs.Translation.{chain_path, query_of}
use Rattle.match_parser.specs.Faults.{opens, closes, AreOpen, AreDeep, has_backwards, SpellsSome, Meets}
use Rattle.match_parser.specs.Reading.{lexeme_of, IsText, Reads, FaultOf}
use Rattle.match_parser.specs.Parsing.{Chain, query_at}
use Rattle.match_parser.proofs.KeptTrees.{name_kept, chain_kept}
use Rattle.match_parser.proofs.Sound.{query_sound}
use Rattle.match_parser.proofs.Complete.{query_comes}
use Rattle.match_parser.proofs.Fits.{AllFit, AllNumbers, numbers_of, wild_decided, overlong_decided, all_fit, query_fits, exact_chain}

-- a text has one list of tokens and one end
abbrev pub OneList : Type 0
OneList = (line : List ℕ) (at : ℕ) (xs ys : List Placed) (e f : Option TextCode) → AreTokens line at xs e → AreTokens line at ys f → (xs ≡ ys) × (e ≡ f)

abbrev pub SomeList : Type 0
SomeList = (line : List ℕ) (at : ℕ) → (tokens : List Placed) × ((end : Option TextCode) × AreTokens line at tokens end)

pub record OneText (xs ys : List Lexeme) (e f : Option TextCode) : Type 0 where
  pub tokens : xs ≡ ys
  pub end : e ≡ f

pub one_text : OneList → (text : List ℕ) (xs ys : List Lexeme) (e f : Option TextCode) → IsText text xs e → IsText text ys f → OneText xs ys e f
one_text one text xs ys e f a b =
    let same = one text 0 a.placed b.placed e f a.are b.are in
    record { tokens = sym a.same ∙ ap (map lexeme_of) same.0 ∙ b.same; end = same.1 }

-- what two trees of the same tokens have in common
abbrev reading : Option (Chain × Option (List ℕ)) → Chain × Option (List ℕ) → Chain × Option (List ℕ)
reading None d = d
reading (Some x) d = x

pub record Alike (p q : QueryTree) : Type 0 where
  pub chain : exact_chain p.chain ≡ exact_chain q.chain
  pub graph_name : p.graph_name ≡ q.graph_name

pub alike : (ts : List Lexeme) → AllFit ts → (p q : QueryTree) → query_text p ≡ ts → query_text q ≡ ts → Alike p q
alike ts fit p q e f =
    let n = 4 * length ts + 4 in
    let at_p : query_at (4 * length ts + 4) ts ≡ Some (chain_kept p.chain, name_kept p.graph_name) =
    subst (λ (l : List Lexeme). query_at (4 * length l + 4) l ≡ Some (chain_kept p.chain, name_kept p.graph_name)) e (query_comes p (4 * length (query_text p) + 4) (omega arith)) in
    let at_q : query_at (4 * length ts + 4) ts ≡ Some (chain_kept q.chain, name_kept q.graph_name) =
    subst (λ (l : List Lexeme). query_at (4 * length l + 4) l ≡ Some (chain_kept q.chain, name_kept q.graph_name)) f (query_comes q (4 * length (query_text q) + 4) (omega arith)) in
    let same = sym at_p ∙ at_q in
    let x = query_fits p (subst AllFit (sym e) fit) in
    let y = query_fits q (subst AllFit (sym f) fit) in
    record {
      chain = sym x.chain ∙ ap (λ (o : Option (Chain × Option (List ℕ))). (reading o (chain_kept p.chain, name_kept p.graph_name)).0) same ∙ y.chain;
      graph_name = sym x.graph_name ∙ ap (λ (o : Option (Chain × Option (List ℕ))). (reading o (chain_kept p.chain, name_kept p.graph_name)).1) same ∙ y.graph_name;
    }

-- the query that a reading is
abbrev pub query_from : Chain → Option (List ℕ) → QueryTerm
query_from c g = record { first = is_some c.first; last = is_some c.last; path = c.path; graph_name = g }

pub text_fits : (text : List ℕ) (ts : List Lexeme) (end : Option TextCode) → IsText text ts end → AllNumbers ts
text_fits text ts end t = subst AllNumbers t.same (numbers_of text 0 t.placed end t.are)

pub one_query : OneList → (text : List ℕ) (p q : QueryTerm) → Reads text p → Reads text q → p ≡ q
one_query one text p q r s =
    let same = one_text one text r.tokens s.tokens None None r.is s.is in
    let fit = all_fit r.tokens (text_fits text r.tokens None r.is) (r.clean Number) (r.clean Name) in
    let a = alike r.tokens fit r.tree s.tree r.spells (s.spells ∙ sym same.tokens) in
    sym r.means ∙ (λ i. query_from (a.chain i) (a.graph_name i)) ∙ s.means

pub code_small : (c : TextCode) → text_place c < 11
code_small c = let p = place_within c in omega (arith, p.most)

meets_same : (xs ys : List Lexeme) (e f : Option TextCode) (c : TextCode) → OneText xs ys e f → Meets xs e c → Meets ys f c
meets_same xs ys e f c same h = subst (λ (k : Option TextCode). Meets ys k c) same.end (subst (λ (l : List Lexeme). Meets l e c) same.tokens h)

back : (xs ys : List Lexeme) (e f : Option TextCode) → OneText xs ys e f → OneText ys xs f e
back xs ys e f s = record { tokens = sym s.tokens; end = sym s.end }

pub one_fault : OneList → (text : List ℕ) (c d : TextCode) → FaultOf text c → FaultOf text d → c ≡ d
one_fault one text c d a b =
    let same = one_text one text a.tokens b.tokens a.end b.end a.is b.is in
    elim (cases_lt (text_place c) (text_place d)) [
      | inl less ↦ absurd (b.first c less (meets_same a.tokens b.tokens a.end b.end c same a.meets))
      | inr more ↦ elim (cases_lt (text_place d) (text_place c)) [
        | inl less ↦ absurd (a.first d less (meets_same b.tokens a.tokens b.end a.end d (back a.tokens b.tokens a.end b.end same) b.meets))
        | inr less ↦ one_place c d (omega (arith, more, less))
      ]
    ]

pub no_fault : OneList → (text : List ℕ) (q : QueryTerm) (c : TextCode) → Reads text q → FaultOf text c → ⊥
no_fault one text q c r f = r.clean c (meets_same f.tokens r.tokens f.end None c (one_text one text f.tokens r.tokens f.end None f.is r.is) f.meets)

-- no code before this place is met
abbrev pub Clean : List Lexeme → Option TextCode → ℕ → Type 0
Clean ts end n = (c : TextCode) → text_place c < n → Meets ts end c → ⊥

pub clean_more : (ts : List Lexeme) (end : Option TextCode) (d : TextCode) → Clean ts end (text_place d) → (Meets ts end d → ⊥) → Clean ts end (text_place d + 1)
clean_more ts end d clean none c less = elim (cases_lt (text_place c) (text_place d)) [
  | inl before ↦ clean c before
  | inr after ↦ λ m. none (subst (Meets ts end) (one_place c d (omega (arith, less, after))) m)
]

-- the tokens have a first fault, or none
record FirstOf (ts : List Lexeme) (end : Option TextCode) (c : TextCode) : Type 0 where
  meets : Meets ts end c
  first : Clean ts end (text_place c)

abbrev Outcome : List Lexeme → Option TextCode → Type 0
Outcome ts end = ((c : TextCode) × FirstOf ts end c) ⊎ Clean ts end 11

try : (ts : List Lexeme) (end : Option TextCode) (d : TextCode) → Clean ts end (text_place d) → Decided (Meets ts end d) → (Clean ts end (text_place d + 1) → Outcome ts end) → Outcome ts end
try ts end d clean (inl m) next = inl (d, record { meets = m; first = clean })
try ts end d clean (inr n) next = next (clean_more ts end d clean n)

pub one_at_least : (c : TextCode) → 1 ≤ text_place c
one_at_least Long = omega arith
one_at_least Byte = omega arith
one_at_least Tokens = omega arith
one_at_least Deep = omega arith
one_at_least Text = omega arith
one_at_least Number = omega arith
one_at_least Name = omega arith
one_at_least Range = omega arith
one_at_least Names = omega arith
one_at_least Terms = omega arith

many_tokens : (ts : List Lexeme) → Decided (MAX_TOKENS < length ts)
many_tokens ts = elim (cases_lt MAX_TOKENS (length ts)) [ inl h ↦ inl h | inr n ↦ inr (λ h. omega (arith, n, h)) ]

-- how the tokens of a text end
pub ends_in_two : (text : List ℕ) (at : ℕ) (ts : List Placed) (end : Option TextCode) → AreTokens text at ts end → (end ≡ None) ⊎ ((end ≡ Some Byte) ⊎ (end ≡ Some Text))
ends_in_two text at (t ∷ ts) end h = ends_in_two text t.to ts end h.1
ends_in_two text at [] None h = inl refl
ends_in_two text at [] (Some c) h = elim (one_of_two (drop (behind_blanks text at) text) c h.why) [ inl e ↦ inr (inl (ap Some e)) | inr e ↦ inr (inr (ap Some e)) ]

byte_decided : (end : Option TextCode) → (end ≡ None) ⊎ ((end ≡ Some Byte) ⊎ (end ≡ Some Text)) → Decided (end ≡ Some Byte)
byte_decided end (inl e) = inr (λ h. let none : ⊥ = cc in none)
byte_decided end (inr (inl e)) = inl e
byte_decided end (inr (inr e)) = inr (λ h. let none : ⊥ = cc in none)

text_decided : (end : Option TextCode) → (end ≡ None) ⊎ ((end ≡ Some Byte) ⊎ (end ≡ Some Text)) → Decided (end ≡ Some Text)
text_decided end (inl e) = inr (λ h. let none : ⊥ = cc in none)
text_decided end (inr (inl e)) = inr (λ h. let none : ⊥ = cc in none)
text_decided end (inr (inr e)) = inl e

-- the greatest number of tokens that needs a look
deep_upto : (ts : List Lexeme) (n : ℕ) → Decided ((k : ℕ) × ((k < n) × AreOpen (take k ts)))
deep_upto ts zero = inr (λ h. omega (arith, h.1.0))
deep_upto ts (suc n) = elim (deep_upto ts n) [
  | inl h ↦ inl (h.0, (omega (arith, h.1.0), h.1.1))
  | inr none ↦ elim (cases_lt (count_by closes (take n ts) + MAX_DEPTH) (count_by opens (take n ts))) [
    | inl open_here ↦ inl (n, (omega arith, open_here))
    | inr closed ↦ inr (λ h. elim (cases_lt h.0 n) [
      | inl less ↦ none (h.0, (less, h.1.1))
      | inr more ↦
          let same : h.0 ≡ n = omega (arith, more, h.1.0) in
          let at : AreOpen (take n ts) = subst (λ (k : ℕ). AreOpen (take k ts)) same h.1.1 in
          omega (arith, closed, at)
    ])
  ]
]

deep_decided : (ts : List Lexeme) → Decided (AreDeep ts)
deep_decided ts = elim (deep_upto ts (length ts + 1)) [
  | inl h ↦ inl (h.0, h.1.1)
  | inr none ↦ inr (λ h. elim (cases_lt (length ts) h.0) [
    | inl past ↦ none (length ts, (omega arith, subst AreOpen (take_all h.0 ts (omega (arith, past)) ∙ sym (take_all (length ts) ts (omega arith))) h.1))
    | inr within ↦ none (h.0, (omega (arith, within), h.1))
  ])
]

-- a query is spelled, or none is
abbrev query_fuel : List Lexeme → ℕ
query_fuel ts = 4 * length ts + 4

query_none : (x : Chain × Option (List ℕ)) → None ≡ Some x → ⊥
query_none x e = let none : ⊥ = cc in none

tree_decided : (ts : List Lexeme) → ((q : QueryTree) × (query_text q ≡ ts)) ⊎ ((q : QueryTree) → query_text q ≡ ts → ⊥)
tree_decided ts = by_reading (query_at (query_fuel ts) ts) refl
  where
    by_reading : (o : Option (Chain × Option (List ℕ))) → query_at (query_fuel ts) ts ≡ o → ((q : QueryTree) × (query_text q ≡ ts)) ⊎ ((q : QueryTree) → query_text q ≡ ts → ⊥)
    by_reading (Some x) e = let w = query_sound (query_fuel ts) ts x e in inl (w.tree, w.spells)
    by_reading None e = inr (λ q s.
        let at : query_at (query_fuel ts) ts ≡ Some (chain_kept q.chain, name_kept q.graph_name) =
        subst (λ (l : List Lexeme). query_at (4 * length l + 4) l ≡ Some (chain_kept q.chain, name_kept q.graph_name)) s (query_comes q (4 * length (query_text q) + 4) (omega arith)) in
        query_none (chain_kept q.chain, name_kept q.graph_name) (sym e ∙ at))

-- a fact of a query is one of its tokens
abbrev pub SameOf : (Chain → Type 0) → QueryTree → Type 0
SameOf P q = P (exact_chain q.chain)

spells_decided : (ts : List Lexeme) → AllFit ts → (q : QueryTree) → query_text q ≡ ts → (P : Chain → Type 0) → Decided (P (exact_chain q.chain)) → Decided (SpellsSome ts (SameOf P))
spells_decided ts fit q s P (inl h) = inl (q, s, h)
spells_decided ts fit q s P (inr n) = inr (λ h. n (subst P (alike ts fit h.0 q h.1 s).chain h.2))

same_name : (a b : Option (List ℕ)) → Decided ((name : List ℕ) × (a ≡ Some name) × (b ≡ Some name))
same_name None b = inr (λ h. let e = h.1 in let none : ⊥ = cc in none)
same_name (Some v) None = inr (λ h. let e = h.2 in let none : ⊥ = cc in none)
same_name (Some v) (Some w) = elim (same_word v w) [
  | inl e ↦ inl (v, refl, ap Some (sym e))
  | inr n ↦ inr (λ h. let e = h.1 in let f = h.2 in n (cc))
]

is_none : (a : Option (List ℕ)) → Decided (a ≡ None)
is_none None = inl refl
is_none (Some v) = inr (λ e. let none : ⊥ = cc in none)

-- the names of a chain
abbrev pub WrongNames : Chain → Type 0
WrongNames c = IsTrue c.inner ⊎ (((c.first ≡ None) × IsTrue (not c.later)) ⊎ ((name : List ℕ) × (c.first ≡ Some name) × (c.last ≡ Some name)))

pub names_decided : (c : Chain) → Decided (WrongNames c)
names_decided c = either (is_true c.inner) (either (both (is_none c.first) (is_true (not c.later))) (same_name c.first c.last))

abbrev pub ManyTerms : Chain → Type 0
ManyTerms c = MAX_TERMS < path_size c.path

many_decided : (c : Chain) → Decided (ManyTerms c)
many_decided c = elim (cases_lt MAX_TERMS (path_size c.path)) [ inl h ↦ inl h | inr n ↦ inr (λ h. omega (arith, n, h)) ]

abbrev pub BadRange : Chain → Type 0
BadRange c = IsTrue (has_backwards c.path)

-- the codes that are tried once a tree is there and all tokens fit
last_three : (ts : List Lexeme) (end : Option TextCode) → AllFit ts → (q : QueryTree) → query_text q ≡ ts → Clean ts end 8 → Outcome ts end
last_three ts end fit q s clean =
    try ts end Range clean (spells_decided ts fit q s BadRange (is_true (has_backwards (chain_path q.chain)))) (λ c8.
    try ts end Names c8 (spells_decided ts fit q s WrongNames (names_decided (exact_chain q.chain))) (λ c9.
    try ts end Terms c9 (spells_decided ts fit q s ManyTerms (many_decided (exact_chain q.chain))) (λ c10. inr c10)))

text_meets : (ts : List Lexeme) (end : Option TextCode) → ((end ≡ None) ⊎ ((end ≡ Some Byte) ⊎ (end ≡ Some Text))) → Clean ts end 5 → AllNumbers ts → Outcome ts end
text_meets ts end two clean numbers = elim (text_decided end two) [
  | inl open_quote ↦ inl (Text, record { meets = inl open_quote; first = clean })
  | inr no_quote ↦ elim (tree_decided ts) [
    | inr no_tree ↦ inl (Text, record { meets = inr no_tree; first = clean })
    | inl tree ↦
        try ts end Text clean (inr (λ m. ⊎_elim no_quote (λ none. none tree.0 tree.1) m)) (λ c5.
        try ts end Number c5 (wild_decided ts numbers) (λ c6.
        try ts end Name c6 (overlong_decided ts) (λ c7.
        last_three ts end (all_fit ts numbers (c7 Number (omega arith)) (c7 Name (omega arith))) tree.0 tree.1 c7)))
  ]
]

outcome : (ts : List Lexeme) (end : Option TextCode) → ((end ≡ None) ⊎ ((end ≡ Some Byte) ⊎ (end ≡ Some Text))) → AllNumbers ts → Outcome ts end
outcome ts end two numbers =
    try ts end Long (λ c less m. omega (arith, less, one_at_least c)) (inr (λ m. m)) (λ c1.
    try ts end Byte c1 (byte_decided end two) (λ c2.
    try ts end Tokens c2 (many_tokens ts) (λ c3.
    try ts end Deep c3 (deep_decided ts) (λ c4. text_meets ts end two c4 numbers))))

tree_of : (ts : List Lexeme) (end : Option TextCode) → Clean ts end 11 → (q : QueryTree) × (query_text q ≡ ts)
tree_of ts end clean = elim (tree_decided ts) [ inl tree ↦ tree | inr none ↦ absurd (clean Text (omega arith) (inr none)) ]

by_outcome : (text : List ℕ) (ts : List Lexeme) (end : Option TextCode) → ((end ≡ None) ⊎ ((end ≡ Some Byte) ⊎ (end ≡ Some Text))) → IsText text ts end → Outcome ts end → ((q : QueryTerm) × Reads text q) ⊎ ((c : TextCode) × FaultOf text c)
by_outcome text ts end two is (inl f) = inr (f.0, record { tokens = ts; end = end; is = is; meets = f.1.meets; first = f.1.first })
by_outcome text ts end (inr (inl e)) is (inr clean) = absurd (clean Byte (omega arith) e)
by_outcome text ts end (inr (inr e)) is (inr clean) = absurd (clean Text (omega arith) (inl e))
by_outcome text ts end (inl e) is (inr clean) =
    let tree = tree_of ts end clean in
    inl (
      query_of tree.0,
      record {
        tokens = ts;
        is = subst (IsText text ts) e is;
        tree = tree.0;
        spells = tree.1;
        means = refl;
        clean = λ c m. clean c (code_small c) (subst (λ (k : Option TextCode). Meets ts k c) (sym e) m);
      },
    )

pub reads_or_fault : SomeList → (text : List ℕ) → ((q : QueryTerm) × Reads text q) ⊎ ((c : TextCode) × FaultOf text c)
reads_or_fault some text =
    let all = some text 0 in
    let is : IsText text (map lexeme_of all.0) all.1.0 = record { placed = all.0; are = all.1.1; same = refl } in
    by_outcome text (map lexeme_of all.0) all.1.0 (ends_in_two text 0 all.0 all.1.0 all.1.1) is (outcome (map lexeme_of all.0) all.1.0 (ends_in_two text 0 all.0 all.1.0 all.1.1) (text_fits text (map lexeme_of all.0) all.1.0 is))
