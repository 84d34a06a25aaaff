-- Each list of bytes is whole lines and a rest.
use Rattle.std.proofs.Common.{◌≡◌, ℕ, List, [], ◌∷◌, ◌++◌, Bool, true, false, nat_eq, refl, ap, ◌∙◌, sym, subst, append_assoc}
use Rattle.std.proofs.lemmas.Bool.{eqb-true}
use Rattle.itpg_session.specs.Machine.{opening}
use Rattle.itpg_run.specs.Lines.{lines, whole}
use Rattle.itpg_run.specs.Out.{Runs}
use Rattle.itpg_run.specs.Split.{NoEnd, NoEnds, joined}
use Rattle.itpg_run.specs.OutputLaws.{OneOutput, SomeOutput, OutputGrows, OutputBegins}
use Rattle.itpg_run.proofs.Split.{lines-joined}
use Rattle.itpg_run.proofs.MachineLaws.{Laws}
use Rattle.itpg_run.proofs.Running.{runs-part, one_run, some_run}
use Rattle.itpg_run.proofs.Fed.{lines_joined, whole_joined}

record Parts (bytes : List ℕ) : Type 0 where
  lines : List (List ℕ)
  rest : List ℕ
  split : joined lines ++ rest ≡ bytes
  ended : NoEnds lines
  open_end : NoEnd rest

before : (b : ℕ) (bytes : List ℕ) → nat_eq b 10 ≡ false → Parts bytes → Parts (b ∷ bytes)
before b bytes e p = go p.lines p.ended p.split
  where
    go : (ls : List (List ℕ)) → NoEnds ls → joined ls ++ p.rest ≡ bytes → Parts (b ∷ bytes)
    go [] h s = record { lines = []; rest = b ∷ p.rest; split = ap (λ t. b ∷ t) s; ended = tt; open_end = (e, p.open_end) }
    go (l ∷ ls) h s = record { lines = (b ∷ l) ∷ ls; rest = p.rest; split = ap (λ t. b ∷ t) s; ended = ((e, h.0), h.1); open_end = p.open_end }

ending : (b : ℕ) (bytes : List ℕ) → nat_eq b 10 ≡ true → Parts bytes → Parts (b ∷ bytes)
ending b bytes e p = record { lines = [] ∷ p.lines; rest = p.rest; split = ap (λ t. 10 ∷ t) p.split ∙ ap (λ c. c ∷ bytes) (sym (eqb-true b 10 e)); ended = (tt, p.ended); open_end = p.open_end }

parts : (bytes : List ℕ) → Parts bytes
parts [] = record { lines = []; rest = []; split = refl; ended = tt; open_end = tt }
parts (b ∷ bytes) = by_test (nat_eq b 10) refl (parts bytes)
  where
    by_test : (t : Bool) → nat_eq b 10 ≡ t → Parts bytes → Parts (b ∷ bytes)
    by_test true e p = ending b bytes e p
    by_test false e p = before b bytes e p

pub one_output : Laws → OneOutput
one_output laws mode bytes x y r s = one_run laws mode opening 1 (lines bytes) x y laws.opening r s

pub some_output : Laws → SomeOutput
some_output laws mode bytes = some_run laws mode opening 1 (lines bytes) laws.opening

-- the lines of the whole lines of a front part begin the lines of all
pub lines_front : (front rest : List ℕ) → (more : List (List ℕ)) × (lines (whole front) ++ more ≡ lines (front ++ rest))
lines_front front rest =
    let p = parts front in
    let fronts : lines (whole front) ≡ p.lines = ap (λ t. lines (whole t)) (sym p.split) ∙ ap lines (whole_joined p.lines p.rest p.ended p.open_end) ∙ lines_joined p.lines p.ended in
    let all : lines (front ++ rest) ≡ p.lines ++ lines (p.rest ++ rest) =
    ap (λ t. lines (t ++ rest)) (sym p.split) ∙ ap lines (append_assoc (joined p.lines) p.rest rest) ∙ lines-joined p.lines (p.rest ++ rest) p.ended in
    (lines (p.rest ++ rest), ap (λ t. t ++ lines (p.rest ++ rest)) fronts ∙ sym all)

pub output_begins : OutputBegins
output_begins mode front rest y s =
    let l = lines_front front rest in
    let p = runs-part mode opening 1 (lines (whole front)) l.0 y (subst (λ ls. Runs mode opening 1 ls y) (sym l.1) s) in
    (p.front, p.runs, (p.rest.text, sym (ap (λ u. u.text) p.is)))

pub output_grows : Laws → OutputGrows
output_grows laws mode front rest x y r s =
    let b = output_begins mode front rest y s in
    let same : x ≡ b.0 = one_output laws mode (whole front) x b.0 r b.1 in
    (b.2.0, ap (λ u. u.text ++ b.2.0) same ∙ b.2.1)
