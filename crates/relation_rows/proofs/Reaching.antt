-- How far rows reach, and the legs that are made of them by halves.
use Rattle.std.proofs.Common.{◌≡◌, ⊎_elim, ℕ, zero, suc, ◌+◌, ◌<◌, ◌≤◌, ◌/◌, List, [], ◌∷◌, ◌++◌, length, map, slice_index_or, take, drop, refl, sym, ◌∙◌, ap, subst, arith, append_assoc}
use Rattle.std.proofs.lemmas.List.{take_all, take_at, drop_at, take_more, append-nil, map-append, length-map}
use Rattle.itpg_base.specs.Lists.{Among}
use Rattle.itpg_base.proofs.Lists.{among_append}
use Rattle.relation_rows.specs.declared.rows.Row.{Row}
use Rattle.relation_rows.specs.declared.timetable.Farthest.{Farthest}
use Rattle.relation_rows.specs.declared.timetable.Leg.{Leg}
use Rattle.relation_rows.specs.Timetables.{Reaches, AreReached, HasLegs}
use Rattle.relation_rows.proofs.Legs.{row_of, row_among}

pub none_reached : (rows : List Row) (reach : Farthest) (r : Row) → Among (take 0 rows) r → Reaches reach r
none_reached [] reach r a = absurd a
none_reached (x ∷ xs) reach r a = absurd a

-- one more row
pub more_reached : (rows : List Row) (k : ℕ) (d : Row) → k < length rows → (reach next : Farthest) → Reaches next (slice_index_or rows k d) → ((r : Row) → Reaches reach r → Reaches next r)
    → ((r : Row) → Among (take k rows) r → Reaches reach r) → (r : Row) → Among (take (k + 1) rows) r → Reaches next r
more_reached rows k d lt reach next own others so r a = ⊎_elim
    (λ b. others r (so r b))
    (λ b. ⊎_elim (λ (e : slice_index_or rows k d ≡ r). subst (λ (v : Row). Reaches next v) e own) (λ j. absurd j) b)
    (among_append (take k rows) (slice_index_or rows k d ∷ []) r (subst (λ (v : List Row). Among v r) (take_more rows k d lt) a))

pub all_reached : (rows : List Row) (k : ℕ) (reach : Farthest) → length rows ≤ k → ((r : Row) → Among (take k rows) r → Reaches reach r) → (r : Row) → Among rows r → Reaches reach r
all_reached rows k reach le so r a = so r (subst (λ (v : List Row). Among v r) (sym (take_all k rows le)) a)

pub none_reach : (depth : ℕ) → AreReached depth []
none_reach zero = tt
none_reach (suc depth) = λ before behind middle is half. absurd (empty before behind middle is)
  where
    empty : (before behind : List Leg) (middle : Leg) → [] ≡ before ++ middle ∷ behind → ⊥
    empty [] behind middle is = let none : ⊥ = cc in none
    empty (x ∷ xs) behind middle is = let none : ⊥ = cc in none

pub no_legs : (rows : List Row) (legs : List Leg) → length rows ≡ 0 → HasLegs rows legs legs
no_legs [] legs e = ([], sym (append-nil legs), refl, none_reach)
no_legs (r ∷ rs) legs e = absurd (omega arith)

-- what stands before, in the middle and behind, of two lists that are one
same_before : (xs ys us vs : List Leg) → length us ≡ length xs → xs ++ ys ≡ us ++ vs → us ≡ xs
same_before xs ys us vs l e = sym (take_at us vs (length xs) l) ∙ ap (λ (v : List Leg). take (length xs) v) (sym e) ∙ take_at xs ys (length xs) refl

same_behind : (xs ys us vs : List Leg) → length us ≡ length xs → xs ++ ys ≡ us ++ vs → vs ≡ ys
same_behind xs ys us vs l e = sym (drop_at us vs (length xs) l) ∙ ap (λ (v : List Leg). drop (length xs) v) (sym e) ∙ drop_at xs ys (length xs) refl

-- legs of which the middle one reaches as far as all
halves_reached : (before behind : List Leg) (middle : Leg) → length before ≡ length (before ++ middle ∷ behind) / 2
    → ((s : Leg) → Among (before ++ middle ∷ behind) s → Reaches middle.reach s.row) → ((depth : ℕ) → AreReached depth before) → ((depth : ℕ) → AreReached depth behind)
    → (depth : ℕ) → AreReached depth (before ++ middle ∷ behind)
halves_reached before behind middle half reaches first last zero = tt
halves_reached before behind middle half reaches first last (suc depth) = λ us vs m e l.
    let f : us ≡ before = same_before before (middle ∷ behind) us (m ∷ vs) (l ∙ sym half) e in
    let g : m ∷ vs ≡ middle ∷ behind = same_behind before (middle ∷ behind) us (m ∷ vs) (l ∙ sym half) e in
    let h : m ≡ middle = cc in
    let i : vs ≡ behind = cc in (
      subst (λ (v : Leg). (s : Leg) → Among (before ++ middle ∷ behind) s → Reaches v.reach s.row) (sym h) reaches,
      subst (λ (v : List Leg). AreReached depth v) (sym f) (first depth),
      subst (λ (v : List Leg). AreReached depth v) (sym i) (last depth),
    )

-- the legs of the rows before the middle one, of this, and of those behind it
module _ (rows before behind : List Row) (row : Row) (is : rows ≡ before ++ row ∷ behind) (half : length before ≡ length rows / 2) (reach : Farthest) (reaches : (r : Row) → Among rows r → Reaches reach r) where
  abbrev pub leg : Leg
  leg = record { row = row; reach = reach }

  pub legs_by_halves : (old first more new : List Leg) → HasLegs before old first → more ≡ first ++ leg ∷ [] → HasLegs behind more new → HasLegs rows old new
  legs_by_halves old first more new a e b = (
    a.0 ++ leg ∷ b.0,
    b.1 ∙ ap (λ (v : List Leg). v ++ b.0) (e ∙ ap (λ (v : List Leg). v ++ leg ∷ []) a.1) ∙ append_assoc (old ++ a.0) (leg ∷ []) b.0 ∙ append_assoc old a.0 (leg ∷ b.0),
    made,
    halves_reached a.0 b.0 leg (count ∙ half ∙ ap (λ (v : ℕ). v / 2) whole)
        (λ s i. reaches s.row (subst (λ (v : List Row). Among v s.row) made (row_among (a.0 ++ leg ∷ b.0) s i))) a.3 b.3,
  )
    where
      made : map row_of (a.0 ++ leg ∷ b.0) ≡ rows
      made = map-append row_of a.0 (leg ∷ b.0) ∙ ap (λ (v : List Row). v ++ row ∷ map row_of b.0) a.2 ∙ ap (λ (v : List Row). before ++ row ∷ v) b.2 ∙ sym is

      count : length a.0 ≡ length before
      count = sym (length-map a.0 row_of) ∙ ap (λ (v : List Row). length v) a.2

      whole : length rows ≡ length (a.0 ++ leg ∷ b.0)
      whole = ap (λ (v : List Row). length v) (sym made) ∙ length-map (a.0 ++ leg ∷ b.0) row_of
