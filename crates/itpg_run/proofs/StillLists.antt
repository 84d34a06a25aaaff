-- The lines of a script without some of its edits: part by part.
use Rattle.std.proofs.Common.{◌≡◌, ℕ, suc, ◌+◌, ◌<◌, ◌≤◌, inl, inr, List, [], ◌∷◌, ◌++◌, length, refl, ap, ◌∙◌, sym, subst, arith}
use Rattle.std.specs.Prelude.{Result, Ok, Err}
use Rattle.std.proofs.lemmas.Bool.{cases_lt}
use Rattle.itpg_base.specs.Decided.{Decided}
use Rattle.itpg_base.specs.declared.text_code.TextCode.{TextCode}
use Rattle.itpg_edit.specs.declared.edit.Edit.{Edit}
use Rattle.edit_reader.specs.Readings.{Reading, Nothing, Changes, Asks, Wants, Watches, Shows, Unwatches, Ticks, Opens, Closes, AsksIn, Follows, Nears, Unfollows}
use Rattle.edit_reader.specs.Lines.{LineOf}
use Rattle.itpg_run.specs.Still.{IsEditLine, IsStilled, AreStill}
use Rattle.itpg_run.specs.StillLaws.{SomeStill, OneStill}

abbrev pub Lines : Type 0
Lines = List (List ℕ)

-- ---- splits of a list

-- two splits at one place are one
pub record SameSplit (f g : Lines) (l m : List ℕ) (r s : Lines) : Type 0 where
  pub front : f ≡ g
  pub line : l ≡ m
  pub rest : r ≡ s

pub same_split : (f g : Lines) (l m : List ℕ) (r s : Lines) → f ++ l ∷ r ≡ g ++ m ∷ s → length f ≡ length g → SameSplit f g l m r s
same_split [] [] l m r s e n = record { front = refl; line = (let h : l ∷ r ≡ m ∷ s = e in cc); rest = (let h : l ∷ r ≡ m ∷ s = e in cc) }
same_split [] (y ∷ ys) l m r s e n = absurd (omega (arith, n))
same_split (x ∷ xs) [] l m r s e n = absurd (omega (arith, n))
same_split (x ∷ xs) (y ∷ ys) l m r s e n =
    let h : x ∷ (xs ++ l ∷ r) ≡ y ∷ (ys ++ m ∷ s) = e in
    let head : x ≡ y = cc in
    let tail : xs ++ l ∷ r ≡ ys ++ m ∷ s = cc in
    let p = same_split xs ys l m r s tail (omega (arith, n)) in
    record { front = ap (λ z. z ∷ xs) head ∙ ap (λ zs. y ∷ zs) p.front; line = p.line; rest = p.rest }

-- a later split is behind an earlier one
pub record Between (f : Lines) (l : List ℕ) (g : Lines) : Type 0 where
  pub middle : Lines
  pub is : g ≡ f ++ l ∷ middle

pub between : (f g : Lines) (l m : List ℕ) (r s : Lines) → f ++ l ∷ r ≡ g ++ m ∷ s → length f < length g → Between f l g
between f [] l m r s e n = absurd (omega (arith, n))
between [] (y ∷ ys) l m r s e n = let h : l ∷ r ≡ y ∷ (ys ++ m ∷ s) = e in let head : y ≡ l = cc in record { middle = ys; is = ap (λ z. z ∷ ys) head }
between (x ∷ xs) (y ∷ ys) l m r s e n =
    let h : x ∷ (xs ++ l ∷ r) ≡ y ∷ (ys ++ m ∷ s) = e in
    let head : y ≡ x = cc in
    let tail : xs ++ l ∷ r ≡ ys ++ m ∷ s = cc in
    let p = between xs ys l m r s tail (omega (arith, n)) in
    record { middle = p.middle; is = ap (λ z. z ∷ ys) head ∙ ap (λ zs. x ∷ zs) p.is }

-- ---- the stilled lines

-- lines of which each edit is made blank
abbrev pub AllStilled : Lines → Lines → Type 0
AllStilled [] [] = Unit {0}
AllStilled [] (y ∷ ys) = ⊥
AllStilled (x ∷ xs) [] = ⊥
AllStilled (x ∷ xs) (y ∷ ys) = IsStilled x y × AllStilled xs ys

module _ (i j : ℕ) where
  pub record Stilled (k : ℕ) (xs ys others : Lines) : Type 0 where
    pub front : Lines
    pub rest : Lines
    pub is : others ≡ front ++ rest
    pub long : length front ≡ length xs
    pub before : AreStill k i j xs front
    pub behind : AreStill (k + length xs) i j ys rest

  pub still_part : (k : ℕ) (xs ys others : Lines) → AreStill k i j (xs ++ ys) others → Stilled k xs ys others
  still_part k [] ys others a = record { front = []; rest = others; is = refl; long = refl; before = tt; behind = subst (λ n. AreStill n i j ys others) (let n : k ≡ k + 0 = omega arith in n) a }
  still_part k (x ∷ xs) ys [] a = absurd a
  still_part k (x ∷ xs) ys (y ∷ others) a =
      let p = still_part (k + 1) xs ys others a.2 in
      let n : k + 1 + length xs ≡ k + length (x ∷ xs) = omega arith in
      record {
        front = y ∷ p.front;
        rest = p.rest;
        is = ap (λ zs. y ∷ zs) p.is;
        long = ap (λ m. suc m) p.long;
        before = (a.0, a.1, p.before);
        behind = subst (λ n. AreStill n i j ys p.rest) n p.behind;
      }

  -- up to line i nothing changes
  pub still_before : (k : ℕ) (xs others : Lines) → AreStill k i j xs others → k + length xs ≤ i + 1 → others ≡ xs
  still_before k [] [] a le = refl
  still_before k [] (y ∷ ys) a le = absurd a
  still_before k (x ∷ xs) [] a le = absurd a
  still_before k (x ∷ xs) (y ∷ ys) a le =
      let head : y ≡ x = a.1 (λ w. let lt = w.0 in omega arith) in
      let tail = still_before (k + 1) xs ys a.2 (omega (arith, le)) in
      ap (λ z. z ∷ ys) head ∙ ap (λ zs. x ∷ zs) tail

  -- between the two lines each edit is made blank
  pub still_between : (k : ℕ) (xs others : Lines) → AreStill k i j xs others → i < k → k + length xs ≤ j → AllStilled xs others
  still_between k [] [] a lt le = tt
  still_between k [] (y ∷ ys) a lt le = absurd a
  still_between k (x ∷ xs) [] a lt le = absurd a
  still_between k (x ∷ xs) (y ∷ ys) a lt le = (a.0 (omega (arith, lt, le), omega (arith, lt, le)), still_between (k + 1) xs ys a.2 (omega (arith, lt)) (omega (arith, le)))

  -- line j stays
  pub still_head : (k : ℕ) (x : List ℕ) (xs others : Lines) → AreStill k i j (x ∷ xs) others → j ≤ k → (ys : Lines) × (others ≡ x ∷ ys)
  still_head k x xs [] a le = absurd a
  still_head k x xs (y ∷ ys) a le = (ys, ap (λ z. z ∷ ys) (a.1 (λ w. let lt = w.1 in omega (arith, lt, le))))

-- ---- each list of lines can be stilled

-- the laws of lines
pub record LineLaws : Type 0 where
  pub some : (line : List ℕ) → (result : Result Reading TextCode) × LineOf line result
  pub one : (line : List ℕ) (a b : Result Reading TextCode) → LineOf line a → LineOf line b → a ≡ b

module _ (laws : LineLaws) where
  decide_edit : (line : List ℕ) → Decided (IsEditLine line)
  decide_edit line = by_line (laws.some line)
    where
      other : (r : Result Reading TextCode) → LineOf line r → ((edit : Edit) → r ≡ Ok (Changes edit) → ⊥) → Decided (IsEditLine line)
      other r is never = inr (λ h. never h.0 (laws.one line r (Ok (Changes h.0)) is h.1))

      by_line : (r : Result Reading TextCode) × LineOf line r → Decided (IsEditLine line)
      by_line (Ok (Changes edit), is) = inl (edit, is)
      by_line (Ok Nothing, is) = other (Ok Nothing) is (λ edit e. let no : ⊥ = cc in no)
      by_line (Ok (Asks text), is) = other (Ok (Asks text)) is (λ edit e. let no : ⊥ = cc in no)
      by_line (Ok (Wants wanted text), is) = other (Ok (Wants wanted text)) is (λ edit e. let no : ⊥ = cc in no)
      by_line (Ok (Watches name text), is) = other (Ok (Watches name text)) is (λ edit e. let no : ⊥ = cc in no)
      by_line (Ok (Shows name), is) = other (Ok (Shows name)) is (λ edit e. let no : ⊥ = cc in no)
      by_line (Ok (Unwatches name), is) = other (Ok (Unwatches name)) is (λ edit e. let no : ⊥ = cc in no)
      by_line (Ok Ticks, is) = other (Ok Ticks) is (λ edit e. let no : ⊥ = cc in no)
      by_line (Ok (Opens name), is) = other (Ok (Opens name)) is (λ edit e. let no : ⊥ = cc in no)
      by_line (Ok (Closes name), is) = other (Ok (Closes name)) is (λ edit e. let no : ⊥ = cc in no)
      by_line (Ok (AsksIn name text), is) = other (Ok (AsksIn name text)) is (λ edit e. let no : ⊥ = cc in no)
      by_line (Ok (Follows name text), is) = other (Ok (Follows name text)) is (λ edit e. let no : ⊥ = cc in no)
      by_line (Ok (Nears name id), is) = other (Ok (Nears name id)) is (λ edit e. let no : ⊥ = cc in no)
      by_line (Ok (Unfollows name), is) = other (Ok (Unfollows name)) is (λ edit e. let no : ⊥ = cc in no)
      by_line (Err code, is) = other (Err code) is (λ edit e. let no : ⊥ = cc in no)

  some_stilled : (line : List ℕ) → (now : List ℕ) × IsStilled line now
  some_stilled line = elim (decide_edit line) [ inl h ↦ ([], inl (h, refl)) | inr n ↦ (line, inr (n, refl)) ]

  still_from : (k i j : ℕ) (lines : Lines) → (others : Lines) × AreStill k i j lines others
  still_from k i j [] = ([], tt)
  still_from k i j (line ∷ lines) =
      let rest = still_from (k + 1) i j lines in
      elim (cases_lt i k) [
        | inl above ↦ elim (cases_lt k j) [
          | inl below ↦ let now = some_stilled line in (now.0 ∷ rest.0, ((λ w. now.1), (λ out. absurd (out (above, below))), rest.1))
          | inr past ↦ (line ∷ rest.0, ((λ w. let lt = w.1 in absurd (omega arith)), (λ out. refl), rest.1))
        ]
        | inr up_to ↦ (line ∷ rest.0, ((λ w. let lt = w.0 in absurd (omega arith)), (λ out. refl), rest.1))
      ]

  pub some_still : SomeStill
  some_still i j lines = still_from 1 i j lines

one_stilled : (line x y : List ℕ) → IsStilled line x → IsStilled line y → x ≡ y
one_stilled line x y (inl a) (inl b) = a.1 ∙ sym b.1
one_stilled line x y (inl a) (inr b) = absurd (b.0 a.0)
one_stilled line x y (inr a) (inl b) = absurd (a.0 b.0)
one_stilled line x y (inr a) (inr b) = a.1 ∙ sym b.1

-- in one way
still_once : (k i j : ℕ) (lines xs ys : Lines) → AreStill k i j lines xs → AreStill k i j lines ys → xs ≡ ys
still_once k i j [] [] [] a b = refl
still_once k i j [] [] (y ∷ ys) a b = absurd b
still_once k i j [] (x ∷ xs) ys a b = absurd a
still_once k i j (line ∷ lines) [] ys a b = absurd a
still_once k i j (line ∷ lines) (x ∷ xs) [] a b = absurd b
still_once k i j (line ∷ lines) (x ∷ xs) (y ∷ ys) a b =
    let rest = still_once (k + 1) i j lines xs ys a.2 b.2 in
    let head : x ≡ y = (elim (cases_lt i k) [
      | inl above ↦ elim (cases_lt k j) [
        | inl below ↦ one_stilled line x y (a.0 (above, below)) (b.0 (above, below))
        | inr past ↦ a.1 (λ w. let lt = w.1 in omega arith) ∙ sym (b.1 (λ w. let lt = w.1 in omega arith))
      ]
      | inr up_to ↦ a.1 (λ w. let lt = w.0 in omega arith) ∙ sym (b.1 (λ w. let lt = w.0 in omega arith))
    ]) in
    ap (λ z. z ∷ xs) head ∙ ap (λ zs. y ∷ zs) rest

pub one_still : OneStill
one_still i j lines xs ys a b = still_once 1 i j lines xs ys a b
