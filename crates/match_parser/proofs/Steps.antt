-- What a fault of a part comes to in the whole.
use Rattle.std.proofs.Common.{◌≡◌, Bool, ℕ, zero, suc, ◌+◌, ◌*◌, ◌<◌, ◌≤◌, List, length, Option, Some, None, Result, Err, refl, sym, ap, subst, ◌∙◌, arith}
use Rattle.script_lex.specs.declared.mark.Mark.{Mark}
use Rattle.script_lex.specs.Lexemes.{Lexeme}
use Rattle.script_lex.specs.declared.mark.Mark.TheVariants.{ParenL, ParenR, BraceL, BraceR, Colon, Ask}
use Rattle.path_ast.specs.Terms.{OfTest, Condition, Negation}
use Rattle.match_parser.specs.declared.words.Keyword.TheVariants.{Not}
use Rattle.match_parser.specs.declared.fault.Stop.{Stop}
use Rattle.match_parser.specs.declared.fault.Stop.TheVariants.{Memory, Text}
use Rattle.match_parser.specs.Heads.{is_mark, is_word, behind}
use Rattle.match_parser.specs.Words.{keyword_text}
use Rattle.match_parser.specs.Parsing.{then_read, chosen, closed, more_by, label_at, fact_at, step_at, asked_by, alt_at, or_at, atom_at, unary_at, prim_at}
use Rattle.match_parser.specs.Gives.{Gives}
use Rattle.match_parser.proofs.Rules.{atoms_is, unaries_is, prims_is}
use Rattle.match_parser.proofs.Lists.{SoFar, fails, breaks}

-- what was returned is what another reading gives
pub gives_as : {X Y : Type 0} (view : X → Y) (r : Result X Stop) (f g : Option Y) → g ≡ f → Gives view r f → Gives view r g
gives_as view r f g e h = subst (Gives view r) (sym e) h

pub then_err : {X V Z Y : Type 0} (view : X → V × List Lexeme) (whole : Z → Y) (e : Stop) (f : Option (V × List Lexeme)) (k : V → List Lexeme → Option Y) → Gives view (Err e) f → Gives whole (Err e) (then_read f k)
then_err view whole Memory f k g = tt
then_err view whole Text f k g = ap (λ o. then_read o k) g

pub chosen_err : {X Z Y : Type 0} (view : X → List Lexeme) (whole : Z → Y) (e : Stop) (o : Option (List Lexeme)) (k : List Lexeme → Option Y) → Gives view (Err e) o → Gives whole (Err e) (chosen o k None)
chosen_err view whole Memory o k g = tt
chosen_err view whole Text o k g = ap (λ p. chosen p k None) g

module _ {X Y Z : Type 0} (joint : Lexeme → Bool) (join : X → Y → X) (part : ℕ → List Lexeme → Option (Y × List Lexeme)) (first : ℕ → List Lexeme → Option (Z × List Lexeme)) (one : Z → X)
    (at : ℕ → List Lexeme → Option (X × List Lexeme)) (at_is : (m : ℕ) (ts : List Lexeme) → at m ts ≡ then_read (first m ts) (λ z rest. more_by joint join (part m) m (one z) rest)) (k : ℕ) where
  pub first_err : {A C : Type 0} (view : A → Z × List Lexeme) (whole : C → X × List Lexeme) (ts : List Lexeme) (e : Stop) → ((m : ℕ) → 4 * length ts + k ≤ m → Gives view (Err e) (first m ts)) → (n : ℕ) → 4 * length ts + k ≤ n → Gives whole (Err e) (at n ts)
  first_err view whole ts Memory f n h = tt
  first_err view whole ts Text f n h = fails joint join part first one at at_is k ts f n h

  pub next_err : {B C : Type 0} (view : B → Y × List Lexeme) (whole : C → X × List Lexeme) (ts rest tail : List Lexeme) (x : X) (e : Stop) → SoFar joint join part at k ts rest x → behind joint rest ≡ Some tail → length tail < length rest → ((m : ℕ) → 4 * length tail + k ≤ m → Gives view (Err e) (part m tail)) → (n : ℕ) → 4 * length ts + k ≤ n → Gives whole (Err e) (at n ts)
  next_err view whole ts rest tail x Memory so front less f n h = tt
  next_err view whole ts rest tail x Text so front less f n h = breaks joint join part first one at at_is k ts rest tail x so front less f n h

-- a part and a bracket behind it
pub closed_ok : {X : Type 0} (m : Mark) (f : Option (X × List Lexeme)) (x : X) (middle rest : List Lexeme) → f ≡ Some (x, middle) → behind (is_mark m) middle ≡ Some rest → closed m f ≡ Some (x, rest)
closed_ok m f x middle rest e g = ap (closed m) e ∙ ap (λ o. chosen o (λ r. Some (x, r)) None) g

pub closed_err : {X Z Y : Type 0} (view : Z → List Lexeme) (whole : Y → X × List Lexeme) (m : Mark) (f : Option (X × List Lexeme)) (x : X) (middle : List Lexeme) (e : Stop) → f ≡ Some (x, middle) → Gives view (Err e) (behind (is_mark m) middle) → Gives whole (Err e) (closed m f)
closed_err view whole m f x middle Memory e g = tt
closed_err view whole m f x middle Text e g = ap (closed m) e ∙ ap (λ o. chosen o (λ r. Some (x, r)) None) g

-- the ways through an atom
module _ (ts rest : List Lexeme) (m : ℕ) where
  pub atom_label : Some rest ≡ behind (is_mark Colon) ts → atom_at (suc m) ts ≡ then_read (label_at rest) (λ c after. Some (OfTest c, after))
  atom_label e = atoms_is m ts ∙ rw (← e) refl

  pub atom_brace : None ≡ behind (is_mark Colon) ts → Some rest ≡ behind (is_mark BraceL) ts → atom_at (suc m) ts ≡ then_read (closed BraceR (or_at m rest)) (λ c after. Some (OfTest c, after))
  atom_brace n e = atoms_is m ts ∙ rw (← n, ← e) refl

  pub atom_ask : None ≡ behind (is_mark Colon) ts → None ≡ behind (is_mark BraceL) ts → Some rest ≡ behind (is_mark Ask) ts → atom_at (suc m) ts ≡ then_read (asked_by (alt_at m) rest) (λ p after. Some (OfTest (Condition p), after))
  atom_ask n o e = atoms_is m ts ∙ rw (← n, ← o, ← e) refl

  pub atom_group : None ≡ behind (is_mark Colon) ts → None ≡ behind (is_mark BraceL) ts → None ≡ behind (is_mark Ask) ts → Some rest ≡ behind (is_mark ParenL) ts → atom_at (suc m) ts ≡ closed ParenR (alt_at m rest)
  atom_group n o p e = atoms_is m ts ∙ rw (← n, ← o, ← p, ← e) refl

  pub unary_not : Some rest ≡ behind (is_word (keyword_text Not)) ts → unary_at (suc m) ts ≡ then_read (prim_at m rest) (λ c after. Some (Negation c, after))
  unary_not e = unaries_is m ts ∙ rw (← e) refl

  pub prim_ask : Some rest ≡ behind (is_mark Ask) ts → prim_at (suc m) ts ≡ then_read (asked_by (alt_at m) rest) (λ p after. Some (Condition p, after))
  prim_ask e = prims_is m ts ∙ rw (← e) refl

  pub prim_group : None ≡ behind (is_mark Ask) ts → Some rest ≡ behind (is_mark ParenL) ts → prim_at (suc m) ts ≡ closed ParenR (or_at m rest)
  prim_group n e = prims_is m ts ∙ rw (← n, ← e) refl

module _ (ts : List Lexeme) (m : ℕ) where
  pub atom_step : None ≡ behind (is_mark Colon) ts → None ≡ behind (is_mark BraceL) ts → None ≡ behind (is_mark Ask) ts → None ≡ behind (is_mark ParenL) ts → atom_at (suc m) ts ≡ step_at ts
  atom_step n o p q = atoms_is m ts ∙ rw (← n, ← o, ← p, ← q) refl

  pub unary_plain : None ≡ behind (is_word (keyword_text Not)) ts → unary_at (suc m) ts ≡ prim_at m ts
  unary_plain n = unaries_is m ts ∙ rw (← n) refl

  pub prim_fact : None ≡ behind (is_mark Ask) ts → None ≡ behind (is_mark ParenL) ts → prim_at (suc m) ts ≡ fact_at ts
  prim_fact n o = prims_is m ts ∙ rw (← n, ← o) refl

-- the same of a reader that takes one of its fuel
pub gives_on : {C Y : Type 0} (whole : C → Y) (r : Result C Stop) (at : ℕ → List Lexeme → Option Y) (k : ℕ) (ts : List Lexeme) → ((m : ℕ) → 4 * length ts + k ≤ m → Gives whole r (at (suc m) ts)) → (n : ℕ) → 4 * length ts + suc k ≤ n → Gives whole r (at n ts)
gives_on whole r at k ts f zero h = absurd (omega (arith, h))
gives_on whole r at k ts f (suc n) h = f n (omega (arith, h))
