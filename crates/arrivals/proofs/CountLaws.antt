-- Objects at moments have one list of counts, and no second.
use Rattle.std.proofs.Common.{◌≡◌, inl, inr, ⊎_elim, ℕ, ◌<◌, ℤ, pos, ◌+ℤ◌, ◌-ℤ◌, ◌≤ℤ◌, ◌<ℤ◌, List, [], ◌∷◌, length, refl, sym, ◌∙◌, subst, arith}
use Rattle.std.proofs.lemmas.Int.{ints, by_lt_z}
use Rattle.itpg_base.specs.Spans.{Within, IsSpan}
use Rattle.itpg_base.specs.Lists.{Among, Ordered}
use Rattle.itpg_base.proofs.Lists.{ordered_unique, ordered_either}
use Rattle.arrivals.specs.declared.counts.CountRow.{CountRow}
use Rattle.arrivals.specs.Counting.{HasSize, CountBefore, AreCounts}
use Rattle.arrivals.proofs.Sizes.{size_unique}

-- in a strict order: spans with their moments
abbrev Earlier : CountRow → CountRow → Type 0
Earlier c d = (c.span.from ≤ℤ c.span.to) × (c.span.to <ℤ d.span.from) × (d.span.from ≤ℤ d.span.to)

earlier_apart : (c d : CountRow) → Earlier c d → Earlier d c → ⊥
earlier_apart c d a b = let p = a.0 in let q = a.1 in let r = b.0 in let s = b.1 in omega (arith, ints)

earlier : (rows : List CountRow) → ((c : CountRow) → Among rows c → IsSpan c.span) → Ordered CountBefore rows → Ordered Earlier rows
earlier [] spans order = tt
earlier (c ∷ cs) spans order = (λ d i. (spans c (inl refl), (order.0 d i).later, spans d (inr i)), earlier cs (λ d i. spans d (inr i)) order.1)

some_of : (S : ℕ → Type 0) (n : ℕ) → HasSize S n → 0 < n → (o : ℕ) × S o
some_of S n h lt = go h.members h.each h.size
  where
    go : (os : List ℕ) → ((o : ℕ) → Among os o → S o) → length os ≡ n → (o : ℕ) × S o
    go [] f e = absurd (omega arith)
    go (o ∷ os) f e = (o, f o (inl refl))

same_counts : {a b p q : ℤ} {n m : ℕ} → a ≡ b → p ≡ q → n ≡ m
    → let x : CountRow = record { span = record { from = a; to = p }; number = n } in x ≡ record { span = record { from = b; to = q }; number = m }
same_counts e f g = cc

module _ (S : ℕ → ℤ → Type 0) where
  -- the row of the list that has a moment at which some object is there
  record At (rows : List CountRow) (t : ℤ) (n : ℕ) : Type 0 where
    row : CountRow
    among : Among rows row
    within : Within t row.span
    number : row.number ≡ n

  at : (xs ys : List CountRow) → AreCounts S xs → AreCounts S ys → (d : CountRow) → Among ys d → (t : ℤ) → Within t d.span → At xs t d.number
  at xs ys ax ay d j t w =
      let size = ay.each d t j w in
      let s = some_of (λ o. S o t) d.number size (ay.some d j) in
      let k = ax.whole s.0 t s.1 in
      record { row = k.0; among = k.1; within = k.2; number = size_unique (λ o. S o t) k.0.number d.number (ax.each k.0 t k.1 k.2) size }

  -- rows that share a moment have equal numbers
  shared : (xs ys : List CountRow) → AreCounts S xs → AreCounts S ys → (c d : CountRow) → Among xs c → Among ys d → (t : ℤ) → Within t c.span → Within t d.span → c.number ≡ d.number
  shared xs ys ax ay c d i j t v w = size_unique (λ o. S o t) c.number d.number (ax.each c t i v) (ay.each d t j w)

  -- two rows of one list with equal numbers don't touch
  apart : (xs : List CountRow) → AreCounts S xs → (c e : CountRow) → Among xs c → Among xs e → c.number ≡ e.number → (t : ℤ) → Within t c.span → Within (t +ℤ pos 1) e.span → c ≡ e
  apart xs ax c e i j same t v w = ⊎_elim
      (λ k. k)
      (λ k. ⊎_elim
      (λ (b : CountBefore c e).
      let later = b.later in
      let p = v.going in
      let q = w.begun in
      absurd (b.other (omega (arith, ints)) same))
      (λ (b : CountBefore e c).
      let later = b.later in
      let p = v.begun in
      let q = w.going in
      absurd (omega (arith, ints)))
      k)
      (ordered_either CountBefore xs ax.order c e i j)

  module _ (xs ys : List CountRow) (ax : AreCounts S xs) (ay : AreCounts S ys) (c d : CountRow) (i : Among xs c) (j : Among ys d) (t : ℤ) (v : Within t c.span) (w : Within t d.span) where
    not_sooner : d.span.from <ℤ c.span.from → ⊥
    not_sooner lt =
        let x = v.begun in
        let y = w.going in
        let span = ax.spans c i in
        let s : ℤ = c.span.from -ℤ pos 1 in
        let e = at xs ys ax ay d j s (record { begun = omega (arith, ints); going = omega (arith, ints) }) in
        let next : (s +ℤ pos 1) ≡ c.span.from = omega (arith, ints) in
        let same = apart xs ax e.row c e.among i (e.number ∙ sym (shared xs ys ax ay c d i j t v w)) s e.within (subst (λ (z : ℤ). Within z c.span) (sym next) (record { begun = omega (arith, ints); going = span })) in
        let b = (subst (λ (z : CountRow). Within s z.span) same e.within).begun in
        omega (arith, ints)

    not_later : c.span.to <ℤ d.span.to → ⊥
    not_later lt =
        let x = v.going in
        let y = w.begun in
        let span = ax.spans c i in
        let s : ℤ = c.span.to +ℤ pos 1 in
        let e = at xs ys ax ay d j s (record { begun = omega (arith, ints); going = omega (arith, ints) }) in
        let same = apart xs ax c e.row i e.among (shared xs ys ax ay c d i j t v w ∙ sym e.number) c.span.to (record { begun = span; going = omega (arith, ints) }) e.within in
        let b = (subst (λ (z : CountRow). Within s z.span) (sym same) e.within).going in
        omega (arith, ints)

  row_ext : (c d : CountRow) → c.span.from ≡ d.span.from → c.span.to ≡ d.span.to → c.number ≡ d.number → c ≡ d
  row_ext c d e f g = same_counts e f g

  carried : (xs ys : List CountRow) → AreCounts S xs → AreCounts S ys → (c : CountRow) → Among xs c → Among ys c
  carried xs ys ax ay c i =
      let span = ax.spans c i in
      let v : Within c.span.from c.span = record { begun = omega (arith, ints); going = span } in
      let d = at ys xs ay ax c i c.span.from v in
      let a = not_sooner xs ys ax ay c d.row i d.among c.span.from v d.within in
      let b = not_later xs ys ax ay c d.row i d.among c.span.from v d.within in
      let p = not_sooner ys xs ay ax d.row c d.among i c.span.from d.within v in
      let q = not_later ys xs ay ax d.row c d.among i c.span.from d.within v in
      let from : d.row.span.from ≡ c.span.from = by_lt_z d.row.span.from c.span.from (λ lt. absurd (a lt)) (λ le. by_lt_z c.span.from d.row.span.from (λ lt. absurd (p lt)) (λ ge. omega (arith, ints))) in
      let to : d.row.span.to ≡ c.span.to = by_lt_z c.span.to d.row.span.to (λ lt. absurd (b lt)) (λ le. by_lt_z d.row.span.to c.span.to (λ lt. absurd (q lt)) (λ ge. omega (arith, ints))) in
      subst (λ (z : CountRow). Among ys z) (row_ext d.row c from to d.number) d.among

  pub counts_unique : (xs ys : List CountRow) → AreCounts S xs → AreCounts S ys → xs ≡ ys
  counts_unique xs ys ax ay = ordered_unique Earlier earlier_apart xs ys (earlier xs ax.spans ax.order) (earlier ys ay.spans ay.order) (carried xs ys ax ay) (carried ys xs ay ax)
