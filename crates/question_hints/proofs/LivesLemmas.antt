-- The first and the last moments of lives.
use Rattle.std.proofs.Common.{◌≡◌, ◌↔◌, ℕ, ℤ, ◌+◌, ◌-◌, ◌<◌, ◌≤◌, ◌≤ℤ◌, ◌⊎◌, inl, inr, List, [], ◌∷◌, length, Option, Some, None, Bool, true, false, cond, sym, ap, ◌∙◌, subst, arith}
use Rattle.std.specs.Prelude.{slice_get, IsSomeAnd, IsTrue, int_lt, option_map}
use Rattle.std.specs.Int.{int_max, int_min}
use Rattle.std.proofs.lemmas.Int.{ints, int_min_is, int_max_is}
use Rattle.std.proofs.lemmas.Option.{slice_get_past}
use Rattle.std.proofs.lemmas.Bool.{cases_lt}
use Rattle.itpg_base.specs.Spans.{Span, Covers, IsCoalesced}
use Rattle.itpg_base.specs.Graphs.{Graph, Begun, Object, Exists}
use Rattle.path_ast.specs.Terms.{PathTerm}
use Rattle.question_hints.specs.declared.horizon.Lives.{Lives}
use Rattle.question_hints.specs.Horizons.{AreFirstAndLast, AreLivesOf, joined_lives, passes_freely, SomeExists, IsWider, IsUnreached}

-- coalesced spans begin with the first and end with the last
begun_first : (s : Span) (rest : List Span) (t : ℤ) → IsCoalesced (s ∷ rest) → Covers (s ∷ rest) t → s.from ≤ℤ t
begun_first s rest t c (inl w) = w.begun
begun_first s [] t c (inr m) = absurd m
begun_first s (q ∷ more) t c (inr m) =
    let own = c.0 in
    let apart = c.1 in
    let later = begun_first q more t c.2 m in
    omega (arith, ints)

ended_last : (s : Span) (rest : List Span) (l : Span) → IsCoalesced (s ∷ rest) → slice_get (s ∷ rest) (length rest) ≡ Some l
    → Covers (s ∷ rest) l.to × ((t : ℤ) → Covers (s ∷ rest) t → t ≤ℤ l.to)
ended_last s [] l c is =
    let e : s ≡ l = cc in
    subst (λ (x : Span). Covers (s ∷ []) x.to × ((t : ℤ) → Covers (s ∷ []) t → t ≤ℤ x.to)) e
    (inl (record { begun = c.0; going = omega (arith, ints) }), (λ t m. elim m [ inl w ↦ w.going | inr n ↦ absurd n ]))
ended_last s (q ∷ more) l c is =
    let own : q.from ≤ℤ q.to = c.2.0 in
    let apart = c.1 in
    let rest = ended_last q more l c.2 is in
    let next = rest.1 q.to (inl (record { begun = own; going = omega (arith, ints) })) in
    (inr rest.0, (λ t m. elim m [ inl w ↦ (let going = w.going in omega (arith, ints)) | inr n ↦ rest.1 t n ]))

pub spans_ends : (spans : List Span) (a b : Span) → IsCoalesced spans → slice_get spans 0 ≡ Some a → slice_get spans (length spans - 1) ≡ Some b
    → AreFirstAndLast (Covers spans) (record { first = a.from; last = b.to })
spans_ends [] a b c first last = let none : ⊥ = cc in absurd none
spans_ends (s ∷ rest) a b c first last =
    let e : s ≡ a = cc in
    let k : length (s ∷ rest) - 1 ≡ length rest = omega arith in
    let ended = ended_last s rest b c (subst (λ (i : ℕ). slice_get (s ∷ rest) i ≡ Some b) k last) in
    subst (λ (x : Span). AreFirstAndLast (Covers (s ∷ rest)) (record { first = x.from; last = b.to })) e
    (record {
      first = inl (record { begun = omega (arith, ints); going = c.0 });
      last = ended.0;
      none_before = λ t m. begun_first s rest t c m;
      none_after = ended.1;
    })

pub no_spans : (spans : List Span) → None ≡ slice_get spans 0 → (t : ℤ) → ¬ Covers spans t
no_spans [] is t m = m
no_spans (s ∷ rest) is t m = let none : ⊥ = cc in none

-- one set of moments or the other
either_so : (R : ℤ → Type 0) (b : Bool) (x y : ℤ) → R x → R y → R (cond b x y)
either_so R true x y p q = p
either_so R false x y p q = q

least_below : (x y : ℤ) → (int_min x y ≤ℤ x) × (int_min x y ≤ℤ y)
least_below x y = let e = int_min_is x y in (omega (arith, ints), omega (arith, ints))

greatest_above : (x y : ℤ) → (x ≤ℤ int_max x y) × (y ≤ℤ int_max x y)
greatest_above x y = let e = int_max_is x y in (omega (arith, ints), omega (arith, ints))

joined_are : (P Q R : ℤ → Type 0) (a b : Option Lives) → AreLivesOf P a → AreLivesOf Q b
    → ((t : ℤ) → R t → P t ⊎ Q t) → ((t : ℤ) → P t → R t) → ((t : ℤ) → Q t → R t) → AreLivesOf R (joined_lives a b)
joined_are P Q R None None p q f g h = λ t r. elim (f t r) [ inl x ↦ p t x | inr y ↦ q t y ]
joined_are P Q R None (Some b) p q f g h = record {
  first = h b.first q.first;
  last = h b.last q.last;
  none_before = λ t r. elim (f t r) [ inl x ↦ absurd (p t x) | inr y ↦ q.none_before t y ];
  none_after = λ t r. elim (f t r) [ inl x ↦ absurd (p t x) | inr y ↦ q.none_after t y ];
}
joined_are P Q R (Some a) None p q f g h = record {
  first = g a.first p.first;
  last = g a.last p.last;
  none_before = λ t r. elim (f t r) [ inl x ↦ p.none_before t x | inr y ↦ absurd (q t y) ];
  none_after = λ t r. elim (f t r) [ inl x ↦ p.none_after t x | inr y ↦ absurd (q t y) ];
}
joined_are P Q R (Some a) (Some b) p q f g h =
    let low = least_below a.first b.first in
    let high = greatest_above a.last b.last in
    record {
      first = either_so R (int_lt b.first a.first) b.first a.first (h b.first q.first) (g a.first p.first);
      last = either_so R (int_lt b.last a.last) a.last b.last (g a.last p.last) (h b.last q.last);
      none_before = λ t r. elim (f t r) [
        | inl x ↦ (let below = low.0 in let own = p.none_before t x in omega (arith, ints))
        | inr y ↦ (let below = low.1 in let own = q.none_before t y in omega (arith, ints))
      ];
      none_after = λ t r. elim (f t r) [
        | inl x ↦ (let above = high.0 in let own = p.none_after t x in omega (arith, ints))
        | inr y ↦ (let above = high.1 in let own = q.none_after t y in omega (arith, ints))
      ];
    }

same_lives : (P R : ℤ → Type 0) (a : Option Lives) → AreLivesOf P a → ((t : ℤ) → R t → P t) → ((t : ℤ) → P t → R t) → AreLivesOf R a
same_lives P R None p f g = λ t r. p t (f t r)
same_lives P R (Some a) p f g = record {
  first = g a.first p.first;
  last = g a.last p.last;
  none_before = λ t r. p.none_before t (f t r);
  none_after = λ t r. p.none_after t (f t r);
}

-- an object below the number exists at the moment
abbrev pub ExistsBelow : Graph → ℕ → ℤ → Type 0
ExistsBelow g n t = (o : ℕ) × (o < n) × Exists g o t

pub none_below : (g : Graph) → AreLivesOf (ExistsBelow g 0) None
none_below g t h = let below = h.1 in omega arith

pub one_more : (g : Graph) (n : ℕ) (a b : Option Lives) → AreLivesOf (ExistsBelow g n) a → AreLivesOf (Exists g n) b → AreLivesOf (ExistsBelow g (n + 1)) (joined_lives a b)
one_more g n a b p q =
    joined_are (ExistsBelow g n) (Exists g n) (ExistsBelow g (n + 1)) a b p q
    (λ t r. below_or_at t r (cases_lt r.0 n))
    (λ t x. (x.0, (let below = x.1 in omega arith), x.2))
    (λ t y. (n, omega arith, y))
  where
    below_or_at : (t : ℤ) → (r : ExistsBelow g (n + 1) t) → (r.0 < n) ⊎ (n ≤ r.0) → ExistsBelow g n t ⊎ Exists g n t
    below_or_at t r (inl lt) = inl (r.0, lt, r.2)
    below_or_at t r (inr le) =
        let below = r.1 in
        let e : r.0 ≡ n = omega arith in
        inr (subst (λ (o : ℕ). Exists g o t) e r.2)

exists_inside : (g : Graph) (o : ℕ) (t : ℤ) → Exists g o t → o < length g.objects
exists_inside g o t h = by_place (cases_lt o (length g.objects))
  where
    by_place : (o < length g.objects) ⊎ (length g.objects ≤ o) → o < length g.objects
    by_place (inl lt) = lt
    by_place (inr le) = absurd (subst (λ (x : Option Object). IsSomeAnd x (λ y. Covers y.live t)) (slice_get_past g.objects o le) h)

pub all_below : (g : Graph) (n : ℕ) (a : Option Lives) → length g.objects ≤ n → AreLivesOf (ExistsBelow g n) a → AreLivesOf (SomeExists g) a
all_below g n a le p =
    same_lives (ExistsBelow g n) (SomeExists g) a p
    (λ t r. (r.0, (let lt = exists_inside g r.0 t r.1 in omega arith), r.1))
    (λ t x. (x.0, x.2))

-- there is one first moment, and one last
abbrev from_to : ℤ → ℤ → Lives
from_to x y = record { first = x; last = y }

one_pair : (P : ℤ → Type 0) (a b : Lives) → AreFirstAndLast P a → AreFirstAndLast P b → a ≡ b
one_pair P a b p q =
    let l = p.none_before b.first q.first in
    let m = q.none_before a.first p.first in
    let h = p.none_after b.last q.last in
    let k = q.none_after a.last p.last in
    same a.first b.first a.last b.last (omega (arith, ints)) (omega (arith, ints))
  where
    same : (x y z w : ℤ) → x ≡ y → z ≡ w → from_to x z ≡ from_to y w
    same x y z w d e = ap (λ v. from_to v z) d ∙ ap (λ v. from_to y v) e

-- what an answer says of the horizon and the lives
wider_of : (begun : Option Begun) (h : Span) (lives : Lives) → Some h ≡ option_map (λ b. b.horizon) begun
    → (IsWider h lives → IsSomeAnd begun (λ b. IsWider b.horizon lives)) × (IsSomeAnd begun (λ b. IsWider b.horizon lives) → IsWider h lives)
wider_of None h lives e = let none : ⊥ = cc in absurd none
wider_of (Some b) h lives e =
    let same : h ≡ b.horizon = cc in
    ((λ w. subst (λ (s : Span). IsWider s lives) same w), (λ w. subst (λ (s : Span). IsWider s lives) (sym same) w))

pub wider_told : (g : Graph) (p : PathTerm) (h : Span) (lives : Lives) → IsTrue (passes_freely p) → Some h ≡ option_map (λ b. b.horizon) g.begun
    → AreFirstAndLast (SomeExists g) lives → IsWider h lives → (other : Lives) → (Some lives ≡ Some other) ↔ IsUnreached g p other
wider_told g p h lives free is ends wide other =
    let are : IsUnreached g p lives = record { free = free; ends = ends; wider = (wider_of g.begun h lives is).0 wide } in
    ((λ e. let same : lives ≡ other = cc in subst (IsUnreached g p) same are), (λ u. ap Some (one_pair (SomeExists g) lives other ends u.ends)))

pub reached_told : (g : Graph) (p : PathTerm) (h : Span) (lives : Lives) → Some h ≡ option_map (λ b. b.horizon) g.begun
    → AreFirstAndLast (SomeExists g) lives → (¬ IsWider h lives) → (other : Lives) → (None ≡ Some other) ↔ IsUnreached g p other
reached_told g p h lives is ends narrow other = ((λ e. let never : ⊥ = cc in absurd never), (λ u. absurd (narrow (wide u))))
  where
    wide : IsUnreached g p other → IsWider h lives
    wide u = subst (IsWider h) (one_pair (SomeExists g) other lives u.ends ends) ((wider_of g.begun h other is).1 u.wider)

pub none_told : (g : Graph) (p : PathTerm) (r : Option Lives) → r ≡ None → ((t : ℤ) → ¬ SomeExists g t) → (other : Lives) → (r ≡ Some other) ↔ IsUnreached g p other
none_told g p r is none other = ((λ e. let never : ⊥ = cc in absurd never), (λ u. absurd (none other.first u.ends.first)))
