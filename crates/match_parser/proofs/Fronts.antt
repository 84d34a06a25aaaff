-- What the first token is, by the tests of it.
use Rattle.std.proofs.Common.{◌≡◌, ◌⊎◌, inl, inr, Bool, ℕ, List, [], ◌∷◌, true, false, Option, Some, None, refl, sym, ap, ◌∙◌, true≢false}
use Rattle.std.specs.Prelude.{nat_eq, find}
use Rattle.std.specs.Cmp.Lexicographic.{pointwise, bytes_decides}
use Rattle.script_lex.specs.declared.mark.Mark.{Mark}
use Rattle.script_lex.specs.declared.mark.Mark.TheVariants.{DashSlash, SlashDash, AtLeast, ParenL, ParenR, BraceL, BraceR, BrackL, BrackR, Colon, Comma, Plus, Star, Slash, Ask, Equal, Less, Under}
use Rattle.script_lex.specs.Marks.{mark_text, first_mark, mark_of}
use Rattle.script_lex.specs.Lexemes.{Lexeme, AWord, ANumber, AQuote, AMark}
use Rattle.match_parser.specs.declared.words.Keyword.{Keyword}
use Rattle.match_parser.specs.declared.words.Keyword.TheVariants.{Not, And, Or, Node, Edge, Exists, Time}
use Rattle.match_parser.specs.declared.words.Axis.{Axis}
use Rattle.match_parser.specs.declared.words.Axis.TheVariants as Axes
use Rattle.match_parser.specs.Words.{keyword_text, axis_text, IsProperty}
use Rattle.match_parser.specs.Heads.{is_mark, is_word, is_both, behind, all_keywords, keyword_of, all_axes, axis_of}
use Rattle.match_parser.specs.Grammar.{BothTree, ByComma, ByWord, both_text}
use Rattle.match_parser.specs.Parsing.{chosen, then_read}

-- bytes that are compared and found equal are equal
pub same_bytes : (xs ys : List ℕ) → pointwise nat_eq xs ys ≡ true → xs ≡ ys
same_bytes xs ys e = (bytes_decides xs ys).0 e

-- what is found passes
found_passes : {X : Type 0} (p : X → Bool) (xs : List X) (x : X) → find p xs ≡ Some x → p x ≡ true
found_passes p [] x e = absurd (let none : ⊥ = cc in none)
found_passes p (y ∷ ys) x e = by_test (p y) refl (found_passes p ys x)
  where
    by_test : (b : Bool) → p y ≡ b → (find p ys ≡ Some x → p x ≡ true) → p x ≡ true
    by_test true h next = let same : Some y ≡ Some x = rw h at e in let it : y ≡ x = cc in ap p (sym it) ∙ h
    by_test false h next = next (rw h at e)

-- a mark's text is its own
mark_again : (m : Mark) → mark_of (mark_text m) ≡ Some m
unfolding first_mark
mark_again DashSlash = refl
mark_again SlashDash = refl
mark_again AtLeast = refl
mark_again ParenL = refl
mark_again ParenR = refl
mark_again BraceL = refl
mark_again BraceR = refl
mark_again BrackL = refl
mark_again BrackR = refl
mark_again Colon = refl
mark_again Comma = refl
mark_again Plus = refl
mark_again Star = refl
mark_again Slash = refl
mark_again Ask = refl
mark_again Equal = refl
mark_again Less = refl
mark_again Under = refl

same_mark : (m k : Mark) → mark_text k ≡ mark_text m → k ≡ m
same_mark m k e = let both : Some k ≡ Some m = sym (mark_again k) ∙ ap mark_of e ∙ mark_again m in cc

pub mark_is : (m : Mark) (t : Lexeme) → is_mark m t ≡ true → t ≡ AMark m
mark_is m (AWord w) e = absurd (true≢false (sym e))
mark_is m (ANumber n) e = absurd (true≢false (sym e))
mark_is m (AQuote q) e = absurd (true≢false (sym e))
mark_is m (AMark k) e = ap AMark (same_mark m k (same_bytes (mark_text k) (mark_text m) e))

pub word_is : (w : List ℕ) (t : Lexeme) → is_word w t ≡ true → t ≡ AWord w
word_is w (AWord v) e = ap AWord (same_bytes v w e)
word_is w (ANumber n) e = absurd (true≢false (sym e))
word_is w (AQuote q) e = absurd (true≢false (sym e))
word_is w (AMark k) e = absurd (true≢false (sym e))

pub both_is : (t : Lexeme) → is_both t ≡ true → (b : BothTree) × (t ≡ both_text b)
both_is (AWord v) e = (ByWord, ap AWord (same_bytes v (keyword_text And) e))
both_is (ANumber n) e = absurd (true≢false (sym e))
both_is (AQuote q) e = absurd (true≢false (sym e))
both_is (AMark k) e = (ByComma, mark_is Comma (AMark k) e)

-- the first token, where it passes
pub record Front (test : Lexeme → Bool) (ts rest : List Lexeme) : Type 0 where
  pub token : Lexeme
  pub passes : test token ≡ true
  pub is : ts ≡ token ∷ rest

pub front_of : (test : Lexeme → Bool) (ts rest : List Lexeme) → behind test ts ≡ Some rest → Front test ts rest
front_of test [] rest e = absurd (let none : ⊥ = cc in none)
front_of test (t ∷ ts) rest e = by_test (test t) refl
  where
    by_test : (b : Bool) → test t ≡ b → Front test (t ∷ ts) rest
    by_test true p = record { token = t; passes = p; is = let same : Some ts ≡ Some rest = rw p at e in let tail : ts ≡ rest = cc in ap (λ (l : List Lexeme). t ∷ l) tail }
    by_test false p = absurd (let none : None ≡ Some rest = rw p at e in let never : ⊥ = cc in never)

pub behind_mark : (m : Mark) (ts rest : List Lexeme) → behind (is_mark m) ts ≡ Some rest → ts ≡ AMark m ∷ rest
behind_mark m ts rest e = let f = front_of (is_mark m) ts rest e in f.is ∙ ap (λ (t : Lexeme). t ∷ rest) (mark_is m f.token f.passes)

pub behind_word : (w : List ℕ) (ts rest : List Lexeme) → behind (is_word w) ts ≡ Some rest → ts ≡ AWord w ∷ rest
behind_word w ts rest e = let f = front_of (is_word w) ts rest e in f.is ∙ ap (λ (t : Lexeme). t ∷ rest) (word_is w f.token f.passes)

-- what a choice came to
pub record ByFront {Y : Type 0} (o : Option (List Lexeme)) (f : List Lexeme → Option Y) (y : Y) : Type 0 where
  pub rest : List Lexeme
  pub front : o ≡ Some rest
  pub goes : f rest ≡ Some y

pub chosen_ok : {Y : Type 0} (o : Option (List Lexeme)) (f : List Lexeme → Option Y) (d : Option Y) (y : Y) → chosen o f d ≡ Some y → ByFront o f y ⊎ ((o ≡ None) × (d ≡ Some y))
chosen_ok None f d y e = inr (refl, e)
chosen_ok (Some rest) f d y e = inl (record { rest = rest; front = refl; goes = e })

-- with nothing else
pub chosen_only : {Y : Type 0} (o : Option (List Lexeme)) (f : List Lexeme → Option Y) (y : Y) → chosen o f None ≡ Some y → ByFront o f y
chosen_only None f y e = absurd (let none : ⊥ = cc in none)
chosen_only (Some rest) f y e = record { rest = rest; front = refl; goes = e }

pub record Both {X Y : Type 0} (f : Option (X × List Lexeme)) (k : X → List Lexeme → Option Y) (y : Y) : Type 0 where
  pub part : X
  pub middle : List Lexeme
  pub was : f ≡ Some (part, middle)
  pub goes : k part middle ≡ Some y

pub then_ok : {X Y : Type 0} (f : Option (X × List Lexeme)) (k : X → List Lexeme → Option Y) (y : Y) → then_read f k ≡ Some y → Both f k y
then_ok None k y h = absurd (let none : ⊥ = cc in none)
then_ok (Some x) k y h = record { part = x.0; middle = x.1; was = refl; goes = h }

-- a keyword is found by its text, and only by it
pub keyword_again : (k : Keyword) → keyword_of (keyword_text k) ≡ Some k
keyword_again Not = refl
keyword_again And = refl
keyword_again Or = refl
keyword_again Node = refl
keyword_again Edge = refl
keyword_again Exists = refl
keyword_again Time = refl

pub axis_again : (a : Axis) → axis_of (axis_text a) ≡ Some a
axis_again Axes.Fwd = refl
axis_again Axes.Bwd = refl
axis_again Axes.Next = refl
axis_again Axes.Prev = refl
axis_again Axes.F = refl
axis_again Axes.B = refl
axis_again Axes.N = refl
axis_again Axes.P = refl

pub keyword_is : (w : List ℕ) (k : Keyword) → keyword_of w ≡ Some k → w ≡ keyword_text k
keyword_is w k e = same_bytes w (keyword_text k) (found_passes (λ k. pointwise nat_eq w (keyword_text k)) all_keywords k e)

pub keyword_none : (w : List ℕ) → keyword_of w ≡ None → IsProperty w
keyword_none w e k same = let some : Some k ≡ None = sym (keyword_again k) ∙ ap keyword_of (sym same) ∙ e in let never : ⊥ = cc in never

pub property_none : (w : List ℕ) → IsProperty w → keyword_of w ≡ None
property_none w p = by_found (keyword_of w) refl
  where
    by_found : (o : Option Keyword) → keyword_of w ≡ o → keyword_of w ≡ None
    by_found None e = e
    by_found (Some k) e = absurd (p k (keyword_is w k e))

pub axis_is : (w : List ℕ) (a : Axis) → axis_of w ≡ Some a → w ≡ axis_text a
axis_is w a e = same_bytes w (axis_text a) (found_passes (λ a. pointwise nat_eq w (axis_text a)) all_axes a e)

-- what two readings that came to the same have in common
abbrev found_or : {X : Type 0} → Option (X × List Lexeme) → X × List Lexeme → X × List Lexeme
found_or None d = d
found_or (Some v) d = v

pub same_found : {X : Type 0} (x y : X) (r s : List Lexeme) → ◌≡◌ {A = Option (X × List Lexeme)} (Some (x, r)) (Some (y, s)) → (x ≡ y) × (r ≡ s)
same_found {X} x y r s e = (ap (λ (o : Option (X × List Lexeme)). (found_or o (x, r)).0) e, ap (λ (o : Option (X × List Lexeme)). (found_or o (x, r)).1) e)

-- another word stands first
pub no_word : (w v : List ℕ) (ts : List Lexeme) → (w ≡ v → ⊥) → behind (is_word v) (AWord w ∷ ts) ≡ None
no_word w v ts other = by_test (pointwise nat_eq w v) refl
  where
    by_test : (b : Bool) → pointwise nat_eq w v ≡ b → behind (is_word v) (AWord w ∷ ts) ≡ None
    by_test true e = absurd (other (same_bytes w v e))
    by_test false e = rw e refl
