-- The machine over more lines.
use Rattle.std.proofs.Common.{◌≡◌, ℕ, ◌+◌, List, [], ◌∷◌, ◌++◌, Bool, true, false, ◌||◌, length, refl, ap, ◌∙◌, sym, subst, append_assoc, append-nil, arith}
use Rattle.itpg_session.specs.Machine.{Machine, IsGood}
use Rattle.itpg_run.proofs.MachineLaws.{Laws, one_line, some_line, good_line}
use Rattle.itpg_run.specs.Out.{Mode, Output, LineOut, no_output, both, Runs}

pub or_assoc : (a b c : Bool) → (a || (b || c)) ≡ ((a || b) || c)
or_assoc false b c = refl
or_assoc true b c = refl

pub or-false : (a : Bool) → (a || false) ≡ a
or-false false = refl
or-false true = refl

both_assoc : (x y z : Output) → both x (both y z) ≡ both (both x y) z
both_assoc x y z = let e = sym (append_assoc x.text y.text z.text) in let f = or_assoc x.failing y.failing z.failing in cc

both-quiet : (x : Output) (m : Machine) → m ≡ x.next → both x (no_output m) ≡ x
both-quiet x m h = rw (append-nil x.text, or-false x.failing, h) refl

pub runs-append : (mode : Mode) (m : Machine) (number : ℕ) (xs ys : List (List ℕ)) (t u : Output) → Runs mode m number xs t → Runs mode t.next (number + length xs) ys u → Runs mode m number (xs ++ ys) (both t u)
unfolding Runs
runs-append mode m number [] ys t u r s =
    let n : number + 0 ≡ number = omega arith in
    let e : both t u ≡ u = ap (λ w. both w u) r in
    subst (λ w. Runs mode m number ys w) (sym e) (subst (λ k. Runs mode m k ys u) n (subst (λ w. Runs mode w.next (number + 0) ys u) r s))
runs-append mode m number (x ∷ xs) ys t u r s =
    let n : number + length (x ∷ xs) ≡ number + 1 + length xs = omega arith in
    let after : Runs mode r.rest.next (number + 1 + length xs) ys u = subst (λ k. Runs mode r.rest.next k ys u) n (subst (λ w. Runs mode w.next (number + length (x ∷ xs)) ys u) r.is s) in
    record {
      first = r.first;
      rest = both r.rest u;
      begins = r.begins;
      goes_on = runs-append mode r.first.next (number + 1) xs ys r.rest u r.goes_on after;
      is = ap (λ w. both w u) r.is ∙ sym (both_assoc r.first r.rest u);
    }

-- one more line
pub runs-push : (mode : Mode) (m : Machine) (number : ℕ) (xs : List (List ℕ)) (x : List ℕ) (t u : Output) → Runs mode m number xs t → LineOut mode t.next (number + length xs) x u → Runs mode m number (xs ++ x ∷ []) (both t u)
unfolding Runs
runs-push mode m number xs x t u r s = runs-append mode m number xs (x ∷ []) t u r (record { first = u; rest = no_output u.next; begins = s; goes_on = refl; is = sym (both-quiet u u.next refl) })

-- a run over a front part and one over the rest
pub record Parted (mode : Mode) (m : Machine) (number : ℕ) (xs ys : List (List ℕ)) (t : Output) : Type 0 where
  pub front : Output
  pub rest : Output
  pub runs : Runs mode m number xs front
  pub goes_on : Runs mode front.next (number + length xs) ys rest
  pub is : t ≡ both front rest

pub runs-part : (mode : Mode) (m : Machine) (number : ℕ) (xs ys : List (List ℕ)) (t : Output) → Runs mode m number (xs ++ ys) t → Parted mode m number xs ys t
unfolding Runs
runs-part mode m number [] ys t r = record { front = no_output m; rest = t; runs = refl; goes_on = subst (λ k. Runs mode m k ys t) (let n : number ≡ number + 0 = omega arith in n) r; is = refl }
runs-part mode m number (x ∷ xs) ys t r =
    let p = runs-part mode r.first.next (number + 1) xs ys r.rest r.goes_on in
    let n : number + 1 + length xs ≡ number + length (x ∷ xs) = omega arith in
    record {
      front = both r.first p.front;
      rest = p.rest;
      runs = record { first = r.first; rest = p.front; begins = r.begins; goes_on = p.runs; is = refl };
      goes_on = subst (λ k. Runs mode p.front.next k ys p.rest) n p.goes_on;
      is = r.is ∙ ap (both r.first) p.is ∙ both_assoc r.first p.front p.rest;
    }

-- on a good graph there is at most one run
pub one_run : Laws → (mode : Mode) (m : Machine) (number : ℕ) (xs : List (List ℕ)) (t u : Output) → IsGood m → Runs mode m number xs t → Runs mode m number xs u → t ≡ u
unfolding Runs
one_run laws mode m number [] t u good r s = r ∙ sym s
one_run laws mode m number (x ∷ xs) t u good r s =
    let first : r.first ≡ s.first = one_line laws mode m number x good r.first s.first r.begins s.begins in
    let rest : r.rest ≡ s.rest =
    one_run laws mode s.first.next (number + 1) xs r.rest s.rest (good_line laws mode m number x good s.first s.begins) (subst (λ w. Runs mode w.next (number + 1) xs r.rest) first r.goes_on) s.goes_on in
    r.is ∙ ap (λ w. both w r.rest) first ∙ ap (both s.first) rest ∙ sym s.is

-- and there is one
pub some_run : Laws → (mode : Mode) (m : Machine) (number : ℕ) (xs : List (List ℕ)) → IsGood m → (t : Output) × Runs mode m number xs t
unfolding Runs
some_run laws mode m number [] good = (no_output m, refl)
some_run laws mode m number (x ∷ xs) good =
    let first = some_line laws mode m number x good in
    let rest = some_run laws mode first.0.next (number + 1) xs (good_line laws mode m number x good first.0 first.1) in
    (both first.0 rest.0, record { first = first.0; rest = rest.0; begins = first.1; goes_on = rest.1; is = refl })

-- each run leaves a good machine
pub good_run : Laws → (mode : Mode) (m : Machine) (number : ℕ) (xs : List (List ℕ)) (t : Output) → IsGood m → Runs mode m number xs t → IsGood t.next
unfolding Runs
good_run laws mode m number [] t good r = subst (λ (u : Output). IsGood u.next) (sym r) good
good_run laws mode m number (x ∷ xs) t good r =
    subst (λ (u : Output). IsGood u.next) (sym r.is) (good_run laws mode r.first.next (number + 1) xs r.rest (good_line laws mode m number x good r.first r.begins) r.goes_on)
