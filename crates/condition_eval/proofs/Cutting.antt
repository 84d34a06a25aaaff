-- The walk along one-time rows and their cuts.
use Rattle.std.proofs.Common.{◌≡◌, ◌⊎◌, inl, inr, ⊎_elim, ℕ, ◌+◌, ◌<◌, ◌≤◌, ◌≤ℤ◌, List, [], ◌∷◌, length, slice_index_or, take, drop, drop-cons, refl, sym, ◌∙◌, ap, subst, arith, suc}
use Rattle.std.proofs.lemmas.Int.{ints, by_lt_z}
use Rattle.std.proofs.lemmas.List.{take_more, take_all}
use Rattle.std.proofs.lemmas.Bool.Decides.{eqb_tells, leb_tells}
use Rattle.itpg_base.specs.Spans.{IsSpan}
use Rattle.itpg_base.specs.Lists.{Among, Ordered}
use Rattle.itpg_base.proofs.Lists.{among_append, among_at, ordered_from}
use Rattle.relation_rows.specs.declared.times.OneRow.{OneRow}
use Rattle.relation_rows.specs.Times.{TimeBefore, IsOneTime, AreTimes, OnlyFirstHas, MeetsTime, HasUncut}
use Rattle.relation_rows.proofs.Partitions.{among_either, front_among, rest_among, front_ordered, rest_ordered}
use Rattle.relation_rows.proofs.TimesMinus.{none_first, first_more, first_all}
use Rattle.condition_eval.specs.Walking.{EndsBefore}
use Rattle.condition_eval.proofs.Sharing.{behind_first}

-- what ends before a row ends before each that comes later
ends_later : (s r q : OneRow) → IsSpan r.span → EndsBefore s r → TimeBefore r q → EndsBefore s q
ends_later s r q span (inl a) (inl b) = inl (omega arith)
ends_later s r q span (inl a) (inr (e, b)) = inl (omega arith)
ends_later s r q span (inr (e, a)) (inl b) = inl (omega arith)
ends_later s r q span (inr (e, a)) (inr (f, b)) = inr (e ∙ f, omega (arith, ints))

-- where one ends before a row so do those before it
ends_sooner : (s q r : OneRow) → IsSpan q.span → TimeBefore s q → EndsBefore q r → EndsBefore s r
ends_sooner s q r span (inl a) (inl b) = inl (omega arith)
ends_sooner s q r span (inl a) (inr (e, b)) = inl (omega arith)
ends_sooner s q r span (inr (e, a)) (inl b) = inl (omega arith)
ends_sooner s q r span (inr (e, a)) (inr (f, b)) = inr (e ∙ f, omega (arith, ints))

-- ---- cuts that are passed

pub record AreGoing (cuts : List OneRow) (row : OneRow) (left : List OneRow) : Type 0 where
  pub order : IsOneTime left
  pub there : (s : OneRow) → Among left s → Among cuts s
  pub ended : (s : OneRow) → Among cuts s → EndsBefore s row ⊎ Among left s

pub going_start : (cuts : List OneRow) (row : OneRow) → IsOneTime cuts → AreGoing cuts row cuts
going_start cuts row order = record { order = order; there = λ s a. a; ended = λ s a. inr a }

module _ (cuts : List OneRow) (row : OneRow) (left : List OneRow) (g : AreGoing cuts row left) where
  pub going_more : (cut : OneRow) (behind : List OneRow) → left ≡ cut ∷ behind → EndsBefore cut row → AreGoing cuts row behind
  going_more cut behind e ends = record {
    order = behind_first cut behind (subst IsOneTime e g.order);
    there = λ s a. g.there s (subst (λ (v : List OneRow). Among v s) (sym e) (inr a));
    ended = λ s a. ⊎_elim
        (λ b. inl b)
        (λ b. ⊎_elim (λ (f : cut ≡ s). inl (subst (λ (v : OneRow). EndsBefore v row) f ends)) (λ c. inr c) (subst (λ (v : List OneRow). Among v s) e b))
        (g.ended s a);
  }

  pub going_found : (cut : OneRow) (behind : List OneRow) → left ≡ cut ∷ behind → (EndsBefore cut row → ⊥) → (s : OneRow) → Among left s → EndsBefore s row → ⊥
  going_found cut behind e not s a ends =
      let ordered : IsOneTime (cut ∷ behind) = subst IsOneTime e g.order in
      let order = ordered.order in
      ⊎_elim
      (λ (f : cut ≡ s). not (subst (λ (v : OneRow). EndsBefore v row) (sym f) ends))
      (λ b. not (ends_sooner cut s row (ordered.spans s (inr b)) (order.0 s b) ends))
      (subst (λ (v : List OneRow). Among v s) e a)

  pub going_none : length left ≡ 0 → (s : OneRow) → Among left s → EndsBefore s row → ⊥
  going_none e s a ends = none left e a
    where
      none : (xs : List OneRow) → length xs ≡ 0 → Among xs s → ⊥
      none [] e a = a
      none (x ∷ xs) e a = omega (arith, e)

-- ---- cuts that have begun

meets_of : (row s : OneRow) → (EndsBefore s row → ⊥) → (EndsBefore row s → ⊥) → MeetsTime row s
meets_of row s a b = elim (eqb_tells s.object.0 row.object.0) [
  | inl e ↦ record {
    object = e.1;
    begins = by_lt_z row.span.to s.span.from (λ lt. absurd (b (inr (sym e.1, lt)))) (λ le. le);
    ends = by_lt_z s.span.to row.span.from (λ lt. absurd (a (inr (e.1, lt)))) (λ le. le);
  }
  | inr ne ↦ absurd (elim (leb_tells s.object.0 row.object.0) [
    | inl more ↦ a (inl (let m = more.1 in let n = ne.1 in omega arith))
    | inr less ↦ b (inl (let l = less.1 in omega arith))
  ])
]

not_met : (row s : OneRow) → EndsBefore row s → MeetsTime row s → ⊥
not_met row s ends m =
    let e = m.object in
    let begins = m.begins in
    ⊎_elim (λ l. omega (arith, l, e)) (λ k. let l = k.1 in omega (arith, ints)) ends

-- none of those that were read begins after the row ends
abbrev pub AreBegun : List OneRow → OneRow → ℕ → Type 0
AreBegun cuts row n = (s : OneRow) → Among (take n cuts) s → EndsBefore row s → ⊥

pub none_begun : (cuts : List OneRow) (row : OneRow) → AreBegun cuts row 0
none_begun cuts row s a ends = none cuts a
  where
    none : (xs : List OneRow) → Among (take 0 xs) s → ⊥
    none [] a = a
    none (x ∷ xs) a = a

pub one_begun : (cuts : List OneRow) (row : OneRow) (n : ℕ) (x : OneRow) → n < length cuts → x ≡ slice_index_or cuts n x → (EndsBefore row x → ⊥) → AreBegun cuts row n → AreBegun cuts row (n + 1)
one_begun cuts row n x lt read not begun s a ends = ⊎_elim
    (λ b. begun s b ends)
    (λ b. ⊎_elim (λ (e : slice_index_or cuts n x ≡ s). not (subst (λ (v : OneRow). EndsBefore row v) (sym e ∙ sym read) ends)) (λ c. absurd c) b)
    (among_append (take n cuts) (slice_index_or cuts n x ∷ []) s (subst (λ (v : List OneRow). Among v s) (take_more cuts n x lt) a))

module _ (cuts : List OneRow) (row : OneRow) (order : IsOneTime cuts) (going : (s : OneRow) → Among cuts s → EndsBefore s row → ⊥) (n : ℕ) (begun : AreBegun cuts row n) (found : List OneRow) (is : found ≡ take n cuts) where
  in_front : (s : OneRow) → Among found s → Among (take n cuts) s
  in_front s a = subst (λ (v : List OneRow). Among v s) is a

  pub begun_order : IsOneTime found
  begun_order = subst IsOneTime (sym is) (record { spans = λ s a. order.spans s (front_among cuts n s a); order = front_ordered TimeBefore cuts n order.order })

  pub begun_there : (s : OneRow) → Among found s → Among cuts s
  begun_there s a = front_among cuts n s (in_front s a)

  pub begun_meets : (s : OneRow) → Among found s → MeetsTime row s
  begun_meets s a = meets_of row s (going s (begun_there s a)) (begun s (in_front s a))

  pub begun_all : (x : OneRow) → n < length cuts → x ≡ slice_index_or cuts n x → EndsBefore row x → (s : OneRow) → Among cuts s → MeetsTime row s → Among found s
  begun_all x lt read ends s a m = ⊎_elim
      (λ b. subst (λ (v : List OneRow). Among v s) (sym is) b)
      (λ b. absurd (⊎_elim
      (λ (e : slice_index_or cuts n x ≡ s). not_met row s (subst (λ (v : OneRow). EndsBefore row v) (read ∙ e) ends) m)
      (λ before. not_met row s (ends_later row (slice_index_or cuts n x) s (order.spans (slice_index_or cuts n x) (among_at cuts n x lt)) (subst (λ (v : OneRow). EndsBefore row v) read ends) before) m)
      (ordered_from TimeBefore cuts n x order.order lt s b)))
      (among_either cuts n s a)

-- all of them have begun
pub all_begun : (cuts : List OneRow) (row : OneRow) (n : ℕ) → length cuts ≤ n → AreBegun cuts row n → (s : OneRow) → Among cuts s → EndsBefore row s → ⊥
all_begun cuts row n le begun s a = begun s (subst (λ (v : List OneRow). Among v s) (sym (take_all n cuts le)) a)

pub all_meet : (cuts : List OneRow) (row : OneRow) → ((s : OneRow) → Among cuts s → EndsBefore s row → ⊥) → (n : ℕ) → length cuts ≤ n → AreBegun cuts row n → (s : OneRow) → Among cuts s → MeetsTime row s
all_meet cuts row going n le begun s a = meets_of row s (going s a) (all_begun cuts row n le begun s a)

-- ---- one row after the other

-- the rows that were read are cut, and the cuts that are left are all that the others can meet
pub record AreCut (first second : List OneRow) (i : ℕ) (cuts rows : List OneRow) : Type 0 where
  pub times : AreTimes (OnlyFirstHas (take i first) second) rows
  pub order : IsOneTime cuts
  pub there : (s : OneRow) → Among cuts s → Among second s
  pub ended : (s : OneRow) → Among second s → Among cuts s ⊎ ((r : OneRow) → Among (drop i first) r → EndsBefore s r)

pub cut_start : (first second rows : List OneRow) → IsOneTime second → rows ≡ [] → AreCut first second 0 second rows
cut_start first second rows order e = record { times = none_first first second rows e; order = order; there = λ s a. a; ended = λ s a. inl a }

pub cut_end : (first second : List OneRow) (i : ℕ) (cuts rows : List OneRow) → length first ≤ i → AreCut first second i cuts rows → AreTimes (OnlyFirstHas first second) rows
cut_end first second i cuts rows le c = first_all first second i rows le c.times

module _ (first second : List OneRow) (order : IsOneTime first) (i : ℕ) (x : OneRow) (lt : i < length first) (read : x ≡ slice_index_or first i x) (cuts rows : List OneRow) (c : AreCut first second i cuts rows)
    (going : List OneRow) (g : AreGoing cuts x going) (found : List OneRow) (there : (s : OneRow) → Among found s → Among going s) (meets : (s : OneRow) → Among found s → MeetsTime x s)
    (all : (s : OneRow) → Among going s → MeetsTime x s → Among found s) where
  rest_is : drop i first ≡ x ∷ drop (i + 1) first
  rest_is =
      let e : suc i ≡ i + 1 = omega arith in
      drop-cons first i x lt ∙ ap (λ (v : ℕ). slice_index_or first i x ∷ drop v first) e ∙ ap (λ (v : OneRow). v ∷ drop (i + 1) first) (sym read)

  x_left : Among (drop i first) x
  x_left = subst (λ (v : List OneRow). Among v x) (sym rest_is) (inl refl)

  x_there : Among first x
  x_there = rest_among first i x x_left

  next_up : (r : OneRow) → Among (drop (i + 1) first) r → Among (drop i first) r
  next_up r a = subst (λ (v : List OneRow). Among v r) (sym rest_is) (inr a)

  x_before : (r : OneRow) → Among (drop (i + 1) first) r → TimeBefore x r
  x_before r a = (subst (λ (v : List OneRow). Ordered TimeBefore v) rest_is (rest_order i)).0 r a
    where
      rest_order : (n : ℕ) → Ordered TimeBefore (drop n first)
      rest_order n = rest_ordered TimeBefore first n order.order

  found_all : (s : OneRow) → Among second s → s.object.0 ≡ x.object.0 → s.span.from ≤ℤ x.span.to → x.span.from ≤ℤ s.span.to → Among found s
  found_all s a e begins ends =
      let m : MeetsTime x s = record { object = e; begins = begins; ends = ends } in
      let not : EndsBefore s x → ⊥ = λ b. ⊎_elim (λ l. omega (arith, l, e)) (λ k. let l = k.1 in omega (arith, ints)) b in
      ⊎_elim
      (λ b. ⊎_elim (λ f. absurd (not f)) (λ f. all s f m) (g.ended s b))
      (λ b. absurd (not (b x x_left)))
      (c.ended s a)

  pub cut_more : (next : List OneRow) → HasUncut x found rows next → AreCut first second (i + 1) going next
  cut_more next uncut = record {
    times = first_more first second order i x x lt read found (λ s a. c.there s (g.there s (there s a))) meets found_all rows next uncut c.times;
    order = g.order;
    there = λ s a. c.there s (g.there s a);
    ended = λ s a. ⊎_elim
        (λ b. ⊎_elim
        (λ f. inr (λ r k. ends_later s x r (order.spans x x_there) f (x_before r k)))
        (λ f. inl f)
        (g.ended s b))
        (λ b. inr (λ r k. b r (next_up r k)))
        (c.ended s a);
  }

  pub cut_span : IsSpan x.span
  cut_span = order.spans x x_there
