-- A text that is written in two parts.
use Rattle.std.proofs.Common.{List, ℕ, Option, ◌++◌, sym, ap, ◌∙◌, append_assoc}
use Rattle.std.specs.Io.KnownBytes.{Appends}
use Rattle.std.proofs.KnownBytes.{Appends-trans}
use Rattle.itpg_base.specs.Outside.{AppendsSome}

-- a front part of the first part
pub some_first : (a b : Option (List ℕ)) (xs ys : List ℕ) → AppendsSome a b xs → AppendsSome a b (xs ++ ys)
some_first a b xs ys s = record {
  taken = s.taken;
  rest = s.rest ++ ys;
  split = sym (append_assoc s.taken s.rest ys) ∙ ap (λ t. t ++ ys) s.split;
  appends = s.appends;
}

-- the first part, and a front part of the second
pub some_second : (a b c : Option (List ℕ)) (xs ys : List ℕ) → Appends a b xs → AppendsSome b c ys → AppendsSome a c (xs ++ ys)
some_second a b c xs ys w s = record {
  taken = xs ++ s.taken;
  rest = s.rest;
  split = append_assoc xs s.taken s.rest ∙ ap (λ t. xs ++ t) s.split;
  appends = Appends-trans a b c xs s.taken w s.appends;
}
