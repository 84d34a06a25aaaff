-- A text that is written in two parts, and results.
use Rattle.std.proofs.Common.{◌≡◌, List, ℕ, Option, Some, None, true, false, ◌++◌, refl, sym, ap, ◌∙◌, append_assoc}
use Rattle.std.specs.Prelude.{Result, Ok, Err, IfOk, OnOk, OnErr, IfSome, IsNone, is_some}
use Rattle.std.specs.Io.KnownBytes.{Appends}
use Rattle.std.proofs.KnownBytes.{Appends-trans}
use Rattle.itpg_base.specs.Outside.{AppendsSome}

-- a front part of the first part
pub some_first : (a b : Option (List ℕ)) (xs ys : List ℕ) → AppendsSome a b xs → AppendsSome a b (xs ++ ys)
some_first a b xs ys s = record {
  taken = s.taken;
  rest = s.rest ++ ys;
  split = sym (append_assoc s.taken s.rest ys) ∙ ap (λ t. t ++ ys) s.split;
  appends = s.appends;
}

-- the first part, and a front part of the second
pub some_second : (a b c : Option (List ℕ)) (xs ys : List ℕ) → Appends a b xs → AppendsSome b c ys → AppendsSome a c (xs ++ ys)
some_second a b c xs ys w s = record {
  taken = xs ++ s.taken;
  rest = s.rest;
  split = append_assoc xs s.taken s.rest ∙ ap (λ t. xs ++ t) s.split;
  appends = Appends-trans a b c xs s.taken w s.appends;
}

-- what follows for each value follows for that of a result
pub if_ok : {T E : Type 0} {P Q : T → Type 0} → ((x : T) → P x → Q x) → (r : Result T E) → IfOk r P → IfOk r Q
if_ok to (Ok x) p = to x p
if_ok to (Err e) p = tt

pub on_ok : {T E : Type 0} {P Q : Type 0} → (P → Q) → (r : Result T E) → OnOk r P → OnOk r Q
on_ok to (Ok x) p = to p
on_ok to (Err e) p = tt

pub on_fault : {T E : Type 0} {P Q : Type 0} → (P → Q) → (r : Result T E) → OnErr r P → OnErr r Q
on_fault to (Ok x) p = tt
on_fault to (Err e) p = to p

pub if_some : {T : Type 0} {P Q : T → Type 0} → ((x : T) → P x → Q x) → (o : Option T) → IfSome o P → IfSome o Q
if_some to None p = tt
if_some to (Some x) p = to x p

-- there is a value, or none
pub some_value : {T : Type 0} {P : T → Type 0} (o : Option T) → IfSome o P → is_some o ≡ true → (x : T) × P x
some_value None p e = let none : ⊥ = cc in absurd none
some_value (Some x) p e = (x, p)

pub no_value : {T : Type 0} (o : Option T) → is_some o ≡ false → IsNone o
no_value None e = refl
no_value (Some x) e = let none : ⊥ = cc in absurd none
