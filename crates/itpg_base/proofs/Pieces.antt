-- Lemmas on a piece that is written part by part.
use Rattle.std.proofs.Common.{◌≡◌, ℕ, zero, suc, ◌+◌, ◌<◌, ◌≤◌, ◌-◌, length, take, drop, arith, List, [], ◌++◌, refl, sym, ap, ◌∙◌, append_assoc, Some, take-append-drop}
use Rattle.std.proofs.lemmas.List.{drop-append-le, drop-drop}
use Rattle.std.proofs.Math.Seq.{drop-append_seam}
use Rattle.itpg_base.specs.Devices.{repeated}
use Rattle.std.proofs.KnownBytes.{Appends-nil, Appends-trans}
use Rattle.std.specs.declared.option.Option.{Option}
use Rattle.std.specs.Io.KnownBytes.{Appends}
use Rattle.itpg_base.specs.Outside.{AppendsSome}

abbrev pub some_none : (a : Option (List ℕ)) (piece : List ℕ) → AppendsSome a a piece
some_none a piece = record { taken = []; rest = piece; split = refl; appends = Appends-nil a }

abbrev pub some_more : (a b c : Option (List ℕ)) (piece more rest : List ℕ) → (some : AppendsSome a b piece) → some.rest ≡ more ++ rest → Appends b c more → AppendsSome a c piece
some_more a b c piece more rest some is appends =
    record { taken = some.taken ++ more; rest = rest; split = append_assoc some.taken more rest ∙ ap (λ l. some.taken ++ l) (sym is) ∙ some.split; appends = Appends-trans a b c some.taken more some.appends appends }

abbrev pub some_front : (xs ys piece : List ℕ) (n : ℕ) → ys ≡ xs ++ take n piece → AppendsSome (Some xs) (Some ys) piece
some_front xs ys piece n e = record { taken = take n piece; rest = drop n piece; split = take-append-drop n piece; appends = e }

repeated_some : (n : ℕ) (p : List ℕ) → 0 < n → repeated n p ≡ p ++ repeated (n - 1) p
unfolding repeated
repeated_some zero p h = absurd (omega arith)
repeated_some (suc n) p h = let e : n ≡ suc n - 1 = omega arith in ap (λ k. p ++ repeated k p) e

-- a part of the first piece, and what is behind it
pub repeated_read : (p front left : List ℕ) (n at k : ℕ) → drop at (repeated n p) ≡ left → 0 < n → at + k ≤ length p → front ≡ take k (drop at p) → left ≡ front ++ drop (at + k) (repeated n p)
repeated_read p front left n at k view some fits is =
    let r = repeated (n - 1) p in
    let parts : drop at p ≡ front ++ drop (at + k) p = sym (take-append-drop k (drop at p)) ∙ ap (λ t. t ++ drop k (drop at p)) (sym is) ∙ ap (λ t. front ++ t) (drop-drop k at p) in
    let here : drop at (p ++ r) ≡ drop at p ++ r = drop-append-le at p r (omega arith) in
    let there : drop (at + k) (p ++ r) ≡ drop (at + k) p ++ r = drop-append-le (at + k) p r fits in
    sym view ∙ ap (drop at) (repeated_some n p some) ∙ here ∙ ap (λ t. t ++ r) parts ∙ append_assoc front (drop (at + k) p) r ∙ ap (λ t. front ++ t) (sym there ∙ ap (drop (at + k)) (sym (repeated_some n p some)))

-- the piece to its end
pub repeated_end : (p : List ℕ) (n : ℕ) → 0 < n → drop (length p) (repeated n p) ≡ repeated (n - 1) p
repeated_end p n some = ap (drop (length p)) (repeated_some n p some) ∙ drop-append_seam p (repeated (n - 1) p)

pub repeated_none : (p left : List ℕ) (n at : ℕ) → drop at (repeated n p) ≡ left → n ≡ 0 → left ≡ []
unfolding repeated
repeated_none p left n at view none = sym view ∙ ap (λ k. drop at (repeated k p)) none ∙ drop_none at
  where
    drop_none : (k : ℕ) → drop k (let e : List ℕ = [] in e) ≡ []
    drop_none zero = refl
    drop_none (suc k) = refl
