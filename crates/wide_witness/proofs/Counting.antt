-- At one departure, a row of a normal list is one run of arrivals. So a relation has no fewer rows than points of different objects have runs
-- that they lead to.
use Rattle.std.proofs.Common.{◌≡◌, ◌⊎◌, ◌↔◌, inl, inr, ⊎_elim, ℕ, suc, ◌≤◌, pos, ◌+ℤ◌, List, [], ◌∷◌, ◌++◌, length, refl, sym, ◌∙◌, ap, subst, arith}
use Rattle.std.proofs.lemmas.Int.{ints}
use Rattle.std.proofs.lemmas.List.{length-append}
use Rattle.itpg_base.specs.Lists.{Among, Ordered}
use Rattle.itpg_base.specs.Points.{Point, Relation}
use Rattle.itpg_base.proofs.Lists.{among_append, append_ordered}
use Rattle.relation_rows.specs.declared.rows.Row.{Row}
use Rattle.relation_rows.specs.declared.times.OneRow.{OneRow}
use Rattle.relation_rows.specs.Rows.{InRow, NormalRows, IsWide}
use Rattle.relation_rows.specs.Times.{AreTimes, TimeBefore}
use Rattle.relation_rows.proofs.TimeLaws.{not_touched}
use Rattle.wide_witness.specs.Steps.{AreOfOthers, IsSeenWide, Reaches, Seen, point, runs_seen}

-- the list without one of its elements: one shorter, and with all that isn't that element
record IsWithout {X : Type 0} (ys : List X) (x : X) (rest : List X) : Type 0 where
  shorter : length ys ≡ suc (length rest)
  others : (z : X) → Among ys z → (x ≡ z) ⊎ Among rest z

-- an element of a list can be taken out of it
taken_out : {X : Type 0} (ys : List X) (x : X) → Among ys x → (rest : List X) × IsWithout ys x rest
taken_out [] x a = absurd a
taken_out (y ∷ ys) x (inl e) = (ys, record { shorter = refl; others = λ z h. ⊎_elim (λ k. inl (sym e ∙ k)) (λ b. inr b) h })
taken_out (y ∷ ys) x (inr a) =
    let w = taken_out ys x a in
    let i = w.1 in (
      y ∷ w.0,
      record {
        shorter = ap suc i.shorter;
        others = λ z h. ⊎_elim (λ k. inr (inl k)) (λ b. ⊎_elim (λ k. inl k) (λ m. inr (inr m)) (i.others z b)) h;
      },
    )

-- where each x finds some y and no two find the same, there are as many ys at least
pub finders_fewer : {X Y : Type 0} (Finds : X → Y → Type 0) (xs : List X) (ys : List Y) → Ordered (λ x z. (y : Y) → Finds x y → Finds z y → ⊥) xs
    → ((x : X) → Among xs x → (y : Y) × Among ys y × Finds x y) → length xs ≤ length ys
finders_fewer Finds [] ys o f = omega arith
finders_fewer {X} {Y} Finds (x ∷ xs) ys o f =
    let own = f x (inl refl) in
    let w = taken_out ys own.0 own.1 in
    let i = w.1 in
    let shorter = i.shorter in
    let fewer = finders_fewer Finds xs w.0 o.1
    (λ z h.
    let other = f z (inr h) in
    ⊎_elim
    (λ (e : own.0 ≡ other.0). absurd (o.0 z h own.0 own.2 (subst (Finds z) (sym e) other.2)))
    (λ a. (other.0, a, other.2))
    (i.others other.0 other.1)) in
    omega arith

module _ (R : Relation) (p : Point) (runs : List OneRow) (are : AreTimes (λ o t. R p (point o t)) runs) (rows : List Row) (normal : NormalRows R rows) where
  -- the row is of the list, and leads from the departure to the first moment of the run
  abbrev Leads : OneRow → Row → Type 0
  Leads run row = Among rows row × InRow row p (point run.object.0 run.span.from)

  -- some row leads to each run
  led_to : (r : OneRow) → Among runs r → (row : Row) × Among rows row × Leads r row
  led_to r a =
      let first = are.only r.object.0 r.span.from (r, a, record { object = refl; moment = record { begun = omega (arith, ints); going = are.spans r a } }) in
      let w = normal.whole p (point r.object.0 r.span.from) first in
      (w.0, w.1, (w.1, w.2))

  -- no row leads to two runs, since it would lead to the moment that is missing between them
  led_apart : (r s : OneRow) → Among runs r → TimeBefore r s → (row : Row) → Leads r row → Leads s row → ⊥
  led_apart r s a (inl less) row own other =
      let first = own.1.target in
      let second = other.1.target in
      omega (arith, first, second)
  led_apart r s a (inr (e, late)) row own other =
      let first = own.1.pair in
      let second = other.1.pair in
      let low = first.low in
      let high = second.high in
      let span = are.spans r a in
      let next = r.span.to +ℤ pos 1 in
      let run = (normal.each row own.0).runs p.moment first.from first.to in
      let there = run.each next (omega (arith, ints)) (omega (arith, ints)) in
      let from_there = subst (λ (v : ℕ). R (point v p.moment) (point row.target.0 next)) own.1.source there in
      let leads = subst (λ (v : ℕ). R p (point v next)) own.1.target from_there in
      not_touched runs are.spans are.order r a next (inr refl) (are.whole r.object.0 next leads)

module _ (R Q : Relation) (steps : ℕ) (rows : List Row) (normal : NormalRows Q rows) where
  -- the point leads in the relation to just where the steps lead
  abbrev LeadsAlike : Seen R steps → Type 0
  LeadsAlike s = (y : Point) → Q s.from y ↔ Reaches R steps s.from y

  -- a point, and one of its runs
  abbrev Found : Type 0
  Found = (_ : Seen R steps) × OneRow

  -- the row leads from the point to the first moment of the run
  abbrev Finds : Found → Row → Type 0
  Finds f row = Among rows row × InRow row (f.0).from (point (f.1).object.0 (f.1).span.from)

  -- no row leads to both
  abbrev FindOthers : Found → Found → Type 0
  FindOthers f g = (row : Row) → Finds f row → Finds g row → ⊥

  -- the runs of one point
  found_of : Seen R steps → List OneRow → List Found
  found_of s [] = []
  found_of s (run ∷ runs) = (s, run) ∷ found_of s runs

  -- the runs of all of them
  found : List (Seen R steps) → List Found
  found [] = []
  found (s ∷ rest) = found_of s s.runs ++ found rest

  -- they are as many
  found_as_many : (s : Seen R steps) (runs : List OneRow) → length (found_of s runs) ≡ length runs
  unfolding found_of
  found_as_many s [] = refl
  found_as_many s (run ∷ runs) = ap suc (found_as_many s runs)

  -- and so are all
  all_as_many : (seen : List (Seen R steps)) → length (found seen) ≡ runs_seen seen
  unfolding found runs_seen
  all_as_many [] = refl
  all_as_many (s ∷ rest) =
      let more = length-append (found_of s s.runs) (found rest) in
      let own = found_as_many s s.runs in
      let others = all_as_many rest in
      omega (arith, more, own, others)

  -- each is a run of the point
  of_point : (s : Seen R steps) (runs : List OneRow) (f : Found) → Among (found_of s runs) f → (s ≡ f.0) × Among runs f.1
  unfolding found_of
  of_point s [] f a = absurd a
  of_point s (run ∷ runs) f a = ⊎_elim (λ e. (ap (λ v. v.0) e, inl (ap (λ v. v.1) e))) (λ b. let w = of_point s runs f b in (w.0, inr w.1)) a

  -- each is a run of a point among these
  of_points : (seen : List (Seen R steps)) (f : Found) → Among (found seen) f → Among seen f.0 × Among (f.0).runs f.1
  unfolding found
  of_points [] f a = absurd a
  of_points (s ∷ rest) f a = ⊎_elim
      (λ b. let w = of_point s s.runs f b in (inl w.0, subst (λ (v : Seen R steps). Among v.runs f.1) w.0 w.1))
      (λ b. let w = of_points rest f b in (inr w.0, w.1))
      (among_append (found_of s s.runs) (found rest) f a)

  -- where a point leads alike, the runs are those of the relation
  runs_of : (s : Seen R steps) → LeadsAlike s → AreTimes (λ o t. Q s.from (point o t)) s.runs
  runs_of s same =
      let are = s.are in
      record { whole = λ o t h. are.whole o t ((same (point o t)).0 h); only = λ o t h. (same (point o t)).1 (are.only o t h); spans = are.spans; order = are.order }

  -- no row leads to two runs of one point
  own_apart : (s : Seen R steps) → LeadsAlike s → (part : List OneRow) → ((r : OneRow) → Among part r → Among s.runs r) → Ordered TimeBefore part
      → Ordered FindOthers (found_of s part)
  unfolding found_of
  own_apart s same [] all o = tt
  own_apart s same (r ∷ rest) all o = (
    λ f a row own other.
        let w = of_point s rest f a in
        led_apart Q s.from s.runs (runs_of s same) rows normal r f.1 (all r (inl refl)) (o.0 f.1 w.1) row own (subst (λ (v : Seen R steps). Finds (v, f.1) row) (sym w.0) other),
    own_apart s same rest (λ t a. all t (inr a)) o.1,
  )

  -- nor to runs of points of different objects
  found_apart : (seen : List (Seen R steps)) → ((s : Seen R steps) → Among seen s → LeadsAlike s) → Ordered AreOfOthers seen → Ordered FindOthers (found seen)
  unfolding found
  found_apart [] same o = tt
  found_apart (s ∷ rest) same o = append_ordered FindOthers (found_of s s.runs) (found rest)
      (own_apart s (same s (inl refl)) s.runs (λ r a. a) (s.are).order)
      (found_apart rest (λ t a. same t (inr a)) o.1)
      (λ f g a b row own other.
      let first = of_point s s.runs f a in
      let second = of_points rest g b in
      o.0 g.0 second.0 (ap (λ (v : Seen R steps). (v.from).object) first.0 ∙ sym (own.1).source ∙ (other.1).source))

  -- some row leads to each
  found_led : (seen : List (Seen R steps)) → ((s : Seen R steps) → Among seen s → LeadsAlike s) → (f : Found) → Among (found seen) f → (row : Row) × Among rows row × Finds f row
  found_led seen same f a =
      let w = of_points seen f a in
      led_to Q (f.0).from (f.0).runs (runs_of f.0 (same f.0 w.0)) rows normal f.1 w.1

  -- so there are no fewer rows than runs
  pub more_than_seen : (seen : List (Seen R steps)) → ((s : Seen R steps) → Among seen s → LeadsAlike s) → Ordered AreOfOthers seen → runs_seen seen ≤ length rows
  more_than_seen seen same apart =
      let fewer = finders_fewer Finds (found seen) rows (found_apart seen same apart) (found_led seen same) in
      let many = all_as_many seen in
      omega (arith, fewer, many)

-- a relation that leads from the points to just where the steps lead has more rows than the limit, if the steps were seen to lead to more runs
pub seen_is_wide : (R : Relation) (steps limit : ℕ) (seen : IsSeenWide R steps limit) (Q : Relation)
    → ((s : Seen R steps) → Among seen.all s → (y : Point) → Q s.from y ↔ Reaches R steps s.from y) → IsWide Q limit
seen_is_wide R steps limit seen Q same rows normal =
    let many = seen.many in
    let more = more_than_seen R Q steps rows normal seen.all same seen.apart in
    omega arith
