-- Parts with joints between them, read from the left: one account of it for every level of the grammar.
use Rattle.std.proofs.Common.{◌≡◌, ℕ, zero, suc, ◌+◌, ◌*◌, ◌<◌, ◌≤◌, Bool, true, List, ◌∷◌, ◌++◌, length, Option, Some, None, sym, ap, subst, ◌∙◌, arith, inl, inr}
use Rattle.script_lex.specs.Lexemes.{Lexeme}
use Rattle.match_parser.specs.Heads.{behind}
use Rattle.match_parser.specs.Parsing.{then_read, chosen, more_by}
use Rattle.match_parser.proofs.Fronts.{front_of, chosen_ok, then_ok, same_found}

-- what is read is spelled: a tree that stands for it, and its text
pub record Spelled (Tree X : Type 0) (text : Tree → List Lexeme) (means : Tree → X) (ts : List Lexeme) (x : X) (rest : List Lexeme) : Type 0 where
  pub tree : Tree
  pub is : means tree ≡ x
  pub spells : ts ≡ text tree ++ rest

-- reading comes to what more parts give from here, with fuel that is left
pub record Told {X Y : Type 0} (at : Option (X × List Lexeme)) (joint : Lexeme → Bool) (join : X → Y → X) (part : List Lexeme → Option (Y × List Lexeme)) (rest : List Lexeme) (x : X) : Type 0 where
  pub fuel : ℕ
  pub enough : length rest + 1 ≤ fuel
  pub goes : at ≡ more_by joint join part fuel x rest

module _ {X Y : Type 0} (joint : Lexeme → Bool) (join : X → Y → X) (part : List Lexeme → Option (Y × List Lexeme)) where
  -- one more part
  pub told_more : (at : Option (X × List Lexeme)) (rest tail after : List Lexeme) (x : X) (y : Y) → behind joint rest ≡ Some tail → length after < length rest → part tail ≡ Some (y, after) → (fuel : ℕ) → length rest + 1 ≤ fuel → at ≡ more_by joint join part fuel x rest → Told at joint join part after (join x y)
  unfolding more_by
  told_more at rest tail after x y front less is zero enough goes = absurd (omega (arith, enough))
  told_more at rest tail after x y front less is (suc n) enough goes = record {
    fuel = n;
    enough = omega (arith, enough, less);
    goes = goes
        ∙ ap (λ (o : Option (List Lexeme)). chosen o (λ l. then_read (part l) (λ z end. more_by joint join part n (join x z) end)) (Some (x, rest))) front
        ∙ ap (λ (f : Option (Y × List Lexeme)). then_read f (λ z end. more_by joint join part n (join x z) end)) is;
  }

  pub told_none : (at : Option (X × List Lexeme)) (rest tail : List Lexeme) (x : X) → behind joint rest ≡ Some tail → part tail ≡ None → (fuel : ℕ) → length rest + 1 ≤ fuel → at ≡ more_by joint join part fuel x rest → at ≡ None
  unfolding more_by
  told_none at rest tail x front is zero enough goes = absurd (omega (arith, enough))
  told_none at rest tail x front is (suc n) enough goes = goes
      ∙ ap (λ (o : Option (List Lexeme)). chosen o (λ l. then_read (part l) (λ z end. more_by joint join part n (join x z) end)) (Some (x, rest))) front
      ∙ ap (λ (f : Option (Y × List Lexeme)). then_read f (λ z end. more_by joint join part n (join x z) end)) is

  pub told_end : (at : Option (X × List Lexeme)) (rest : List Lexeme) (x : X) → behind joint rest ≡ None → (fuel : ℕ) → length rest + 1 ≤ fuel → at ≡ more_by joint join part fuel x rest → at ≡ Some (x, rest)
  unfolding more_by
  told_end at rest x front zero enough goes = absurd (omega (arith, enough))
  told_end at rest x front (suc n) enough goes = goes
      ∙ ap (λ (o : Option (List Lexeme)). chosen o (λ l. then_read (part l) (λ z end. more_by joint join part n (join x z) end)) (Some (x, rest))) front

  -- what more parts give is spelled, if a tree of what came before can be had for each joint
  module _ (TreeX TreeY : Type 0) (text_x : TreeX → List Lexeme) (text_y : TreeY → List Lexeme) (is_x : TreeX → X) (is_y : TreeY → Y)
      (part_sound : (ts : List Lexeme) (y : Y) (rest : List Lexeme) → part ts ≡ Some (y, rest) → Spelled TreeY Y text_y is_y ts y rest)
      (joined : (a : TreeX) (t : Lexeme) (b : TreeY) (tail rest : List Lexeme) → joint t ≡ true → tail ≡ text_y b ++ rest → Spelled TreeX X text_x is_x (text_x a ++ t ∷ tail) (join (is_x a) (is_y b)) rest) where
    pub more_sound : (n : ℕ) (x : X) (middle : List Lexeme) (z : X) (rest : List Lexeme) → more_by joint join part n x middle ≡ Some (z, rest) → (ts : List Lexeme) (a : TreeX) → is_x a ≡ x → ts ≡ text_x a ++ middle → Spelled TreeX X text_x is_x ts z rest
    unfolding more_by
    more_sound zero x middle z rest h ts a is spells = absurd (let none : ⊥ = cc in none)
    more_sound (suc n) x middle z rest h ts a is spells = elim (chosen_ok (behind joint middle) (λ tail. then_read (part tail) (λ y end. more_by joint join part n (join x y) end)) (Some (x, middle)) (z, rest) h) [
      | inl f ↦
          let b = then_ok (part f.rest) (λ y end. more_by joint join part n (join x y) end) (z, rest) f.goes in
          let first = front_of joint middle f.rest f.front in
          let y = part_sound f.rest b.part b.middle b.was in
          let whole = joined a first.token y.tree f.rest b.middle first.passes y.spells in
          more_sound n (join x b.part) b.middle z rest b.goes ts whole.tree
          (whole.is ∙ ap (λ (v : X). join v (is_y y.tree)) is ∙ ap (join x) y.is)
          (spells ∙ ap (λ (l : List Lexeme). text_x a ++ l) first.is ∙ whole.spells)
      | inr e ↦ let same = same_found x z middle rest e.1 in
          record { tree = a; is = is ∙ same.0; spells = spells ∙ ap (λ (l : List Lexeme). text_x a ++ l) same.1 }
    ]

-- with enough fuel, what a reader gives
abbrev pub Comes : {X : Type 0} → (ℕ → List Lexeme → Option X) → ℕ → List Lexeme → Option X → Type 0
Comes at k ts found = (n : ℕ) → 4 * length ts + k ≤ n → at n ts ≡ found

pub comes_text : {X : Type 0} (at : ℕ → List Lexeme → Option X) (k : ℕ) (xs ys : List Lexeme) (found : Option X) → xs ≡ ys → Comes at k ys found → Comes at k xs found
comes_text {X} at k xs ys found e f = subst (λ (l : List Lexeme). Comes {X = X} at k l found) (sym e) f

-- a reader that takes one of its fuel
pub comes_on : {X : Type 0} (at : ℕ → List Lexeme → Option X) (k : ℕ) (ts : List Lexeme) (found : Option X) → Comes (λ m. at (suc m)) k ts found → Comes at (suc k) ts found
comes_on at k ts found f zero h = absurd (omega (arith, h))
comes_on at k ts found f (suc n) h = f n (omega (arith, h))

-- reading came so far: to x, with the rest still to be read
pub record SoFar {X Y : Type 0} (joint : Lexeme → Bool) (join : X → Y → X) (part : ℕ → List Lexeme → Option (Y × List Lexeme)) (at : ℕ → List Lexeme → Option (X × List Lexeme)) (k : ℕ) (ts rest : List Lexeme) (x : X) : Type 0 where
  pub shorter : length rest < length ts
  pub told : (m : ℕ) → 4 * length ts + k ≤ m → Told (at m ts) joint join (part m) rest x

-- a level of the grammar: a first part, and more parts with joints before them
module _ {X Y Z : Type 0} (joint : Lexeme → Bool) (join : X → Y → X) (part : ℕ → List Lexeme → Option (Y × List Lexeme)) (first : ℕ → List Lexeme → Option (Z × List Lexeme)) (one : Z → X)
    (at : ℕ → List Lexeme → Option (X × List Lexeme)) (at_is : (m : ℕ) (ts : List Lexeme) → at m ts ≡ then_read (first m ts) (λ z rest. more_by joint join (part m) m (one z) rest)) (k : ℕ) where
  pub fails : (ts : List Lexeme) → Comes first k ts None → Comes at k ts None
  fails ts f n h = at_is n ts ∙ ap (λ (o : Option (Z × List Lexeme)). then_read o (λ z rest. more_by joint join (part n) n (one z) rest)) (f n h)

  pub begins : (ts rest : List Lexeme) (z : Z) → length rest < length ts → Comes first k ts (Some (z, rest)) → SoFar joint join part at k ts rest (one z)
  begins ts rest z less f = record {
    shorter = less;
    told = λ n h. record {
      fuel = n;
      enough = omega (arith, h, less);
      goes = at_is n ts ∙ ap (λ (o : Option (Z × List Lexeme)). then_read o (λ z rest. more_by joint join (part n) n (one z) rest)) (f n h);
    };
  }

  pub goes_on : (ts rest tail after : List Lexeme) (x : X) (y : Y) → SoFar joint join part at k ts rest x → behind joint rest ≡ Some tail → length after < length rest → length tail < length rest → Comes part k tail (Some (y, after)) → SoFar joint join part at k ts after (join x y)
  goes_on ts rest tail after x y so front less short f = record {
    shorter = omega (arith, so.shorter, less);
    told = λ n h. let old = so.told n h in told_more joint join (part n) (at n ts) rest tail after x y front less (f n (omega (arith, h, short, so.shorter))) old.fuel old.enough old.goes;
  }

  pub breaks : (ts rest tail : List Lexeme) (x : X) → SoFar joint join part at k ts rest x → behind joint rest ≡ Some tail → length tail < length rest → Comes part k tail None → Comes at k ts None
  breaks ts rest tail x so front short f n h =
      let old = so.told n h in
      told_none joint join (part n) (at n ts) rest tail x front (f n (omega (arith, h, short, so.shorter))) old.fuel old.enough old.goes

  pub ends : (ts rest : List Lexeme) (x : X) → SoFar joint join part at k ts rest x → behind joint rest ≡ None → Comes at k ts (Some (x, rest))
  ends ts rest x so front n h = let old = so.told n h in told_end joint join (part n) (at n ts) rest x front old.fuel old.enough old.goes

  pub so_text : (xs ys rest : List Lexeme) (x : X) → xs ≡ ys → SoFar joint join part at k ys rest x → SoFar joint join part at k xs rest x
  so_text xs ys rest x e so = subst (λ (l : List Lexeme). SoFar joint join part at k l rest x) (sym e) so
