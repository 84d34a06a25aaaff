-- Lists of labels, word by word.
use Rattle.std.proofs.Common.{◌≡◌, ◌⊎◌, inl, inr, ℕ, zero, suc, ◌+◌, ◌-◌, ◌<◌, ◌≤◌, List, [], ◌∷◌, ◌++◌, Bool, true, false, Option, Some, None, Err, length, take, option_map, refl, sym, ap, ◌∙◌, subst, arith, append_assoc}
use Rattle.std.specs.Prelude.{slice_set}
use Rattle.std.proofs.lemmas.List.{take_more_set}
use Rattle.std.proofs.lemmas.Bool.{cases_lt}
use Rattle.itpg_base.specs.Words.{Word}
use Rattle.itpg_base.specs.declared.text_code.TextCode.{TextCode}
use Rattle.itpg_base.specs.declared.name.TheConstants.{MAX_NAME}
use Rattle.script_lex.specs.Lexemes.{Lexeme, AWord, ANumber, AQuote, AMark}
use Rattle.script_lex.specs.declared.mark.Mark.{Mark}
use Rattle.script_lex.specs.Lines.{Placed, AreTokens}
use Rattle.edit_reader.specs.Forms.{lexemes}
use Rattle.edit_reader.specs.Labels.{is_comma, behind_comma, Listed, with_words, listed, AreShort}
use Rattle.edit_reader.specs.Steps.{Told, name_then, names_then}
use Rattle.edit_reader.specs.Taken.{IsTaken, NoWord, Names, IsBehindComma, AreListed}
use Rattle.edit_reader.specs.Telling.{near, short}
use Rattle.edit_reader.proofs.PartFaults.{named, overlong}
use Rattle.edit_reader.proofs.Stepping.{taken_parts}

some_some : {X : Type 0} {x y : X} → Some x ≡ Some y → x ≡ y
some_some e = cc

-- no word comes first
pub none_listed : (n : ℕ) (parts : List Lexeme) → NoWord parts → listed n parts ≡ None
none_listed zero parts none = refl
none_listed (suc n) [] none = refl
none_listed (suc n) (AWord word ∷ rest) none = absurd none
none_listed (suc n) (ANumber number ∷ rest) none = refl
none_listed (suc n) (AQuote text ∷ rest) none = refl
none_listed (suc n) (AMark mark ∷ rest) none = refl

-- a word with a comma behind it, or without
pub listed_more : (n : ℕ) (word : Word) (rest more : List Lexeme) → behind_comma rest ≡ Some more → listed (suc n) (AWord word ∷ rest) ≡ option_map (with_words (word ∷ [])) (listed n more)
listed_more n word rest more e = rw e refl

pub listed_last : (n : ℕ) (word : Word) (rest : List Lexeme) → behind_comma rest ≡ None → listed (suc n) (AWord word ∷ rest) ≡ Some (record { words = word ∷ []; rest = rest })
listed_last n word rest e = rw e refl

-- a word that has no comma behind it is the whole list
pub one_listed : {line left : List ℕ} {at : ℕ} {tokens : List Placed} {label : Word} → (u : IsTaken line tokens (AWord label) left at) → behind_comma (lexemes u.rest) ≡ None → AreListed line 8 tokens left at
one_listed {label = label} u alone = record {
  words = label ∷ [];
  rest = u.rest;
  are = ap (listed 8) (taken_parts u) ∙ listed_last 7 label (lexemes u.rest) alone;
  same = u.same;
  behind = u.behind;
}

-- what a list of labels is made of
record IsLast (word : Word) (rest : List Lexeme) (l : Listed) : Type 0 where
  pub is : l ≡ record { words = word ∷ []; rest = rest }

record IsMore (n : ℕ) (word : Word) (rest : List Lexeme) (l : Listed) : Type 0 where
  pub mark : Mark
  pub more : List Lexeme
  pub others : Listed
  pub are : rest ≡ AMark mark ∷ more
  pub listed_there : listed n more ≡ Some others
  pub is : l ≡ with_words (word ∷ []) others

listed_cases : (n : ℕ) (word : Word) (rest : List Lexeme) (l : Listed) → listed (suc n) (AWord word ∷ rest) ≡ Some l → IsLast word rest l ⊎ IsMore n word rest l
listed_cases n word [] l e = inl (record { is = sym (some_some e) })
listed_cases n word (AWord w ∷ rest) l e = inl (record { is = sym (some_some e) })
listed_cases n word (ANumber w ∷ rest) l e = inl (record { is = sym (some_some e) })
listed_cases n word (AQuote w ∷ rest) l e = inl (record { is = sym (some_some e) })
listed_cases n word (AMark mark ∷ rest) l e = by_comma (is_comma mark) refl
  where
    by_list : (o : Option Listed) → listed n rest ≡ o → option_map (with_words (word ∷ [])) o ≡ Some l → IsLast word (AMark mark ∷ rest) l ⊎ IsMore n word (AMark mark ∷ rest) l
    by_list None f g = let never : ⊥ = cc in absurd never
    by_list (Some others) f g = inr (record { mark = mark; more = rest; others = others; are = refl; listed_there = f; is = sym (some_some g) })

    by_comma : (t : Bool) → is_comma mark ≡ t → IsLast word (AMark mark ∷ rest) l ⊎ IsMore n word (AMark mark ∷ rest) l
    by_comma true is = by_list (listed n rest) refl (sym (listed_more n word (AMark mark ∷ rest) rest (rw is refl)) ∙ e)
    by_comma false is = inl (record { is = sym (some_some (sym (listed_last n word (AMark mark ∷ rest) (rw is refl)) ∙ e)) })

-- at least one word, and no more than may be
pub record AreFew (n : ℕ) (words : List Word) : Type 0 where
  pub some : 0 < length words
  pub few : length words ≤ n

pub few_listed : (n : ℕ) (parts : List Lexeme) (l : Listed) → listed n parts ≡ Some l → AreFew n l.words
few_listed zero parts l e = let never : ⊥ = cc in absurd never
few_listed (suc n) [] l e = let never : ⊥ = cc in absurd never
few_listed (suc n) (ANumber w ∷ rest) l e = let never : ⊥ = cc in absurd never
few_listed (suc n) (AQuote w ∷ rest) l e = let never : ⊥ = cc in absurd never
few_listed (suc n) (AMark w ∷ rest) l e = let never : ⊥ = cc in absurd never
few_listed (suc n) (AWord word ∷ rest) l e = elim (listed_cases n word rest l e) [
  | inl last ↦ subst (λ (k : Listed). AreFew (suc n) k.words) (sym last.is) (record { some = omega arith; few = omega arith })
  | inr m ↦ let fewer = few_listed n m.more m.others m.listed_there in subst (λ (k : Listed). AreFew (suc n) k.words) (sym m.is) (record { some = omega arith; few = (let few = fewer.few in omega arith) })
]

-- the faults of the words of a list are those of its tokens
pub near_listed : (n : ℕ) (parts : List Lexeme) (l : Listed) (go_on : Told) → listed n parts ≡ Some l → near parts go_on ≡ near l.rest go_on
near_listed zero parts l go_on e = let never : ⊥ = cc in absurd never
near_listed (suc n) [] l go_on e = let never : ⊥ = cc in absurd never
near_listed (suc n) (ANumber w ∷ rest) l go_on e = let never : ⊥ = cc in absurd never
near_listed (suc n) (AQuote w ∷ rest) l go_on e = let never : ⊥ = cc in absurd never
near_listed (suc n) (AMark w ∷ rest) l go_on e = let never : ⊥ = cc in absurd never
near_listed (suc n) (AWord word ∷ rest) l go_on e = elim (listed_cases n word rest l e) [
  | inl last ↦ ap (λ (k : Listed). near k.rest go_on) (sym last.is)
  | inr m ↦ ap (λ (ps : List Lexeme). near ps go_on) m.are ∙ near_listed n m.more m.others go_on m.listed_there ∙ ap (λ (k : Listed). near k.rest go_on) (sym m.is)
]

one_name : (word : Word) {a b : Told} → a ≡ b → name_then word (λ name. a) ≡ name_then word (λ name. b)
one_name word e = ap (λ (t : Told). name_then word (λ name. t)) e

pub short_listed : (n : ℕ) (parts : List Lexeme) (l : Listed) (go_on : Told) → listed n parts ≡ Some l → short parts go_on ≡ names_then l.words (short l.rest go_on)
short_listed zero parts l go_on e = let never : ⊥ = cc in absurd never
short_listed (suc n) [] l go_on e = let never : ⊥ = cc in absurd never
short_listed (suc n) (ANumber w ∷ rest) l go_on e = let never : ⊥ = cc in absurd never
short_listed (suc n) (AQuote w ∷ rest) l go_on e = let never : ⊥ = cc in absurd never
short_listed (suc n) (AMark w ∷ rest) l go_on e = let never : ⊥ = cc in absurd never
short_listed (suc n) (AWord word ∷ rest) l go_on e = elim (listed_cases n word rest l e) [
  | inl last ↦ ap (λ (k : Listed). names_then k.words (short k.rest go_on)) (sym last.is)
  | inr m ↦ one_name word (ap (λ (ps : List Lexeme). short ps go_on) m.are ∙ short_listed n m.more m.others go_on m.listed_there) ∙ ap (λ (k : Listed). names_then k.words (short k.rest go_on)) (sym m.is)
]

-- names that are short enough, and one that isn't
pub names_short : (words : List Word) (go_on : Told) → AreShort words → names_then words go_on ≡ go_on
names_short [] go_on are = refl
names_short (word ∷ rest) go_on are = named {text = word} {name = word} (are.0, refl) (λ name. names_then rest go_on) ∙ names_short rest go_on are.1

pub names_long : (words : List Word) (go_on : Told) → (AreShort words → ⊥) → names_then words go_on ≡ Err TextCode.Name
names_long [] go_on long = absurd (long tt)
names_long (word ∷ rest) go_on long = elim (cases_lt MAX_NAME (length word)) [
  | inl far ↦ overlong word (refl, far) (λ name. names_then rest go_on)
  | inr fits ↦ named {text = word} {name = word} (fits, refl) (λ name. names_then rest go_on) ∙ names_long rest go_on (λ are. long (fits, are))
]

pub short_front : (words more : List Word) → AreShort words → AreShort more → AreShort (words ++ more)
short_front [] more a b = b
short_front (word ∷ rest) more a b = (a.0, short_front rest more a.1 b)

pub short_behind : (words more : List Word) → AreShort (words ++ more) → AreShort more
short_behind [] more h = h
short_behind (word ∷ rest) more h = short_behind rest more h.1

-- so far these words were read of a list, and n more may follow from `at` on
pub record IsUnderWay (line : List ℕ) (tokens : List Placed) (words : List Word) (n : ℕ) (left : List ℕ) (at : ℕ) : Type 0 where
  pub rest : List Placed
  pub same : left ≡ line
  pub behind : AreTokens left at rest None
  pub told : listed 8 (lexemes tokens) ≡ option_map (with_words words) (listed n (lexemes rest))

pub at_first : (line : List ℕ) (at : ℕ) (tokens : List Placed) → AreTokens line at tokens None → IsUnderWay line tokens [] 8 line at
at_first line at tokens are = record { rest = tokens; same = refl; behind = are; told = sym (same_list (listed 8 (lexemes tokens))) }
  where
    same_list : (o : Option Listed) → option_map (with_words []) o ≡ o
    same_list None = refl
    same_list (Some l) = refl

both_words : (words more : List Word) (o : Option Listed) → option_map (with_words words) (option_map (with_words more) o) ≡ option_map (with_words (words ++ more)) o
both_words words more None = refl
both_words words more (Some l) = ap (λ (ws : List Word). Some (let r : Listed = record { words = ws; rest = l.rest } in r)) (sym (append_assoc words more l.words))

module _ {line left after : List ℕ} {tokens : List Placed} {words : List Word} {n at to : ℕ} {word : Word} (way : IsUnderWay line tokens words (suc n) left at) (t : IsTaken left way.rest (AWord word) after to) where
  way_told : listed 8 (lexemes tokens) ≡ option_map (with_words words) (listed (suc n) (AWord word ∷ lexemes t.rest))
  way_told = way.told ∙ ap (λ (ps : List Lexeme). option_map (with_words words) (listed (suc n) ps)) (taken_parts t)

  pub one_read : {next : List ℕ} {on : ℕ} → IsBehindComma after t.rest next on → IsUnderWay line tokens (words ++ word ∷ []) n next on
  one_read b = record {
    rest = b.rest;
    same = b.same ∙ t.same ∙ way.same;
    behind = b.behind;
    told = way_told ∙ ap (option_map (with_words words)) (listed_more n word (lexemes t.rest) (lexemes b.rest) b.comma) ∙ both_words words (word ∷ []) (listed n (lexemes b.rest));
  }

  pub last_read : behind_comma (lexemes t.rest) ≡ None → listed 8 (lexemes tokens) ≡ Some (record { words = words ++ word ∷ []; rest = lexemes t.rest })
  last_read none = way_told ∙ ap (option_map (with_words words)) (listed_last n word (lexemes t.rest) none)

  pub list_read : behind_comma (lexemes t.rest) ≡ None → AreListed line 8 tokens after to
  list_read none = record { words = words ++ word ∷ []; rest = t.rest; are = last_read none; same = t.same ∙ way.same; behind = t.behind }

  -- a word that is too long is one of the list
  pub long_read : (l : Listed) → listed 8 (lexemes tokens) ≡ Some l → MAX_NAME < length word → AreShort l.words → ⊥
  long_read l are long = by_list (listed (suc n) (AWord word ∷ lexemes t.rest)) refl (sym way_told ∙ are)
    where
      first_long : (k : Listed) → listed (suc n) (AWord word ∷ lexemes t.rest) ≡ Some k → AreShort k.words → ⊥
      first_long k e short = elim (listed_cases n word (lexemes t.rest) k e) [
        | inl last ↦ let s = subst (λ (j : Listed). AreShort j.words) last.is short in omega (arith, s.0, long)
        | inr m ↦ let s = subst (λ (j : Listed). AreShort j.words) m.is short in omega (arith, s.0, long)
      ]

      by_list : (o : Option Listed) → listed (suc n) (AWord word ∷ lexemes t.rest) ≡ o → option_map (with_words words) o ≡ Some l → AreShort l.words → ⊥
      by_list None e f short = let never : ⊥ = cc in never
      by_list (Some k) e f short = first_long k e (short_behind words k.words (subst (λ (j : Listed). AreShort j.words) (sym (some_some f)) short))

-- one more may be left to read
pub one_left : (i : ℕ) → i < 8 → 8 - i ≡ suc (8 - (i + 1))
one_left i lt = omega arith

abbrev pub counted : {line left : List ℕ} {tokens : List Placed} {words : List Word} {at : ℕ} (i : ℕ) → i < 8 → IsUnderWay line tokens words (8 - i) left at → IsUnderWay line tokens words (suc (8 - (i + 1))) left at
counted {words = words} i lt way = record {
  rest = way.rest;
  same = way.same;
  behind = way.behind;
  told = way.told ∙ ap (λ n. option_map (with_words words) (listed n (lexemes way.rest))) (one_left i lt);
}

pub none_some : {o : Option Listed} {l : Listed} → o ≡ None → o ≡ Some l → ⊥
none_some e f = cc

-- the names read so far
pub record AreNames (line : List ℕ) (tokens : List Placed) (names : List Word) (place : ℕ) (left : List ℕ) (at : ℕ) : Type 0 where
  pub way : IsUnderWay line tokens (take place names) (8 - place) left at
  pub short : AreShort (take place names)

pub no_names : (line : List ℕ) (tokens : List Placed) (names : List Word) (at : ℕ) → AreTokens line at tokens None → AreNames line tokens names 0 line at
no_names line tokens names at are = record { way = subst (λ words. IsUnderWay line tokens words 8 line at) (sym (none_of names)) (at_first line at tokens are); short = subst AreShort (sym (none_of names)) tt }
  where
    none_of : (xs : List Word) → take 0 xs ≡ []
    none_of [] = refl
    none_of (x ∷ xs) = refl

one_short : (words : List Word) (word : Word) → AreShort words → length word ≤ MAX_NAME → AreShort (words ++ word ∷ [])
one_short words word are fits = short_front words (word ∷ []) are (fits, tt)

module _ {line left : List ℕ} {tokens : List Placed} {names : List Word} {place at : ℕ} (lt : place < 8) (block : length names ≡ 8) (are : AreNames line tokens names place left at) where
  module _ {after : List ℕ} {to : ℕ} {word : Word} (t : IsTaken left are.way.rest (AWord word) after to) where
    more_names : {name : Word} → Names word name → take (place + 1) (slice_set names place name) ≡ take place names ++ word ∷ []
    more_names {name = name} is = take_more_set names place name (subst (λ n. place < n) (sym block) lt) ∙ ap (λ w. take place names ++ w ∷ []) is.1

    pub name_read : {name : Word} → Names word name → {next : List ℕ} {on : ℕ} → IsBehindComma after t.rest next on → AreNames line tokens (slice_set names place name) (place + 1) next on
    name_read is {next = next} {on = on} b = record {
      way = subst (λ words. IsUnderWay line tokens words (8 - (place + 1)) next on) (sym (more_names is)) (one_read (counted place lt are.way) t b);
      short = subst AreShort (sym (more_names is)) (one_short (take place names) word are.short is.0);
    }

    pub last_name : {name : Word} → Names word name → behind_comma (lexemes t.rest) ≡ None → (l : Listed) → listed 8 (lexemes tokens) ≡ Some l → (l.words ≡ take (place + 1) (slice_set names place name)) × AreShort l.words
    last_name is none l e =
        let same : l.words ≡ take place names ++ word ∷ [] = ap (λ (k : Listed). k.words) (some_some (sym e ∙ last_read (counted place lt are.way) t none)) in
        (same ∙ sym (more_names is), subst AreShort (sym same) (one_short (take place names) word are.short is.0))

-- where no word comes, or no more may follow, there is no such list
pub nothing_read : {line left : List ℕ} {tokens : List Placed} {words : List Word} {n at : ℕ} (way : IsUnderWay line tokens words n left at) → NoWord (lexemes way.rest) → listed 8 (lexemes tokens) ≡ None
nothing_read {words = words} {n = n} way none = way.told ∙ ap (option_map (with_words words)) (none_listed n (lexemes way.rest) none)

pub too_many_read : {line left : List ℕ} {tokens : List Placed} {words : List Word} {at : ℕ} (way : IsUnderWay line tokens words 0 left at) → listed 8 (lexemes tokens) ≡ None
too_many_read way = way.told
