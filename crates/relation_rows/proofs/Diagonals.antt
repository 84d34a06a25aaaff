-- Where each point leads to itself alone, and none of an object is missing between two, each object has one row. So a relation that holds those
-- pairs has no fewer rows.
use Rattle.std.proofs.Common.{◌≡◌, inl, inr, ⊎_elim, ℕ, suc, ◌<◌, ◌≤◌, ℤ, pos, ◌+ℤ◌, ◌-ℤ◌, ◌≤ℤ◌, ◌<ℤ◌, List, [], ◌∷◌, length, refl, sym, ◌∙◌, ap, subst, arith}
use Rattle.std.proofs.lemmas.Int.{ints, by_lt_z}
use Rattle.itpg_base.specs.Lists.{Among, Ordered}
use Rattle.itpg_base.specs.Points.{Point, Relation}
use Rattle.band_normal.specs.declared.band.End.{End}
use Rattle.band_normal.specs.declared.band.End.TheVariants.{Fixed, Moving}
use Rattle.band_normal.specs.Bands.{end_at}
use Rattle.band_normal.specs.Normal.{IsRun}
use Rattle.relation_rows.specs.declared.rows.Row.{Row}
use Rattle.relation_rows.specs.Rows.{between, InRow, RowBefore, NormalRows}
use Rattle.relation_rows.proofs.Listed.{ordered_fewer, row_apart}

-- by the source alone
abbrev SourceBefore : Row → Row → Type 0
SourceBefore r s = r.source.0 < s.source.0

-- one row of another list for each source of this one
record IsPicked (xs ys picked : List Row) : Type 0 where
  as_many : length picked ≡ length xs
  there : (r : Row) → Among picked r → Among ys r
  source : (r : Row) → Among picked r → (x : Row) × Among xs x × (x.source.0 ≡ r.source.0)
  order : Ordered RowBefore picked

pick : (xs ys : List Row) → Ordered SourceBefore xs → ((x : Row) → Among xs x → (y : Row) × Among ys y × (y.source.0 ≡ x.source.0)) → (picked : List Row) × IsPicked xs ys picked
pick [] ys o f = ([], record { as_many = refl; there = λ r a. absurd a; source = λ r a. absurd a; order = tt })
pick (x ∷ xs) ys o f =
    let rest = pick xs ys o.1 (λ v a. f v (inr a)) in
    let p = rest.1 in
    let y = f x (inl refl) in (
      y.0 ∷ rest.0,
      record {
        as_many = ap suc p.as_many;
        there = λ r a. ⊎_elim (λ (e : y.0 ≡ r). subst (Among ys) e y.1) (λ b. p.there r b) a;
        source = λ r a. ⊎_elim (λ (e : y.0 ≡ r). (x, inl refl, sym y.2 ∙ ap (λ (v : Row). v.source.0) e)) (λ b. let s = p.source r b in (s.0, inr s.1, s.2)) a;
        order = (
          λ r a.
              let s = p.source r a in
              let before = o.0 s.0 s.1 in
              let own = y.2 in
              let other = s.2 in
              inl (inl (omega (arith, before, own, other))),
          p.order,
        );
      },
    )

-- a list of rows of rising sources is no longer than one in order that has a row of each of its sources
fewer_sources : (xs ys : List Row) → Ordered SourceBefore xs → Ordered RowBefore ys → ((x : Row) → Among xs x → (y : Row) × Among ys y × (y.source.0 ≡ x.source.0)) → length xs ≤ length ys
fewer_sources xs ys ox oy f =
    let w = pick xs ys ox f in
    let p = w.1 in
    let fewer = ordered_fewer RowBefore row_apart w.0 ys p.order oy p.there in
    let same = p.as_many in
    omega (arith, fewer, same)

abbrev pub point : ℕ → ℤ → Point
point o t = record { object = o; moment = t }

-- an end that stands at its departure at two moments in turn does so at the next
goes_on : (e : End) (t : ℤ) → end_at e (t -ℤ pos 1) ≡ t -ℤ pos 1 → end_at e t ≡ t → end_at e (t +ℤ pos 1) ≡ t +ℤ pos 1
goes_on (Fixed n) t h k = absurd (omega (arith, ints, h, k))
goes_on (Moving n) t h k = omega (arith, ints, k)

module _ (Inside : Point → Type 0) (go : (o : ℕ) (t v w : ℤ) → Inside (point o t) → Inside (point o w) → t ≤ℤ v → v ≤ℤ w → Inside (point o v)) where
  abbrev Diagonal : Relation
  Diagonal x y = Inside x × (x ≡ y)

  module _ (xs : List Row) (normal : NormalRows Diagonal xs) where
    -- what a row of the identity does at one of its departures
    record StaysAt (r : Row) (t : ℤ) : Type 0 where
      inside : Inside (point r.source.0 t)
      same : r.source.0 ≡ r.target.0
      low : end_at r.band.low t ≡ t
      high : end_at r.band.high t ≡ t

    stays : (r : Row) → Among xs r → (t : ℤ) → r.band.from ≤ℤ t → t ≤ℤ r.band.to → StaysAt r t
    stays r a t from to =
        let run = (normal.each r a).runs t from to in
        let some = run.some in
        let first = run.each (end_at r.band.low t) (omega (arith, ints)) some in
        let last = run.each (end_at r.band.high t) some (omega (arith, ints)) in
        record {
          inside = first.0;
          same = ap (λ (v : Point). v.object) first.1;
          low = sym (ap (λ (v : Point). v.moment) first.1);
          high = sym (ap (λ (v : Point). v.moment) last.1);
        }

    has : (r : Row) → Among xs r → (t : ℤ) → r.band.from ≤ℤ t → t ≤ℤ r.band.to → InRow r (point r.source.0 t) (point r.source.0 t)
    has r a t from to =
        let s = stays r a t from to in
        let low = s.low in let high = s.high in
        record { source = refl; target = sym s.same; pair = record { from = from; to = to; low = omega (arith, ints); high = omega (arith, ints) } }

    has_source : (r : Row) → Among xs r → (o : ℕ) → r.source.0 ≡ o → (t : ℤ) → r.band.from ≤ℤ t → t ≤ℤ r.band.to → InRow r (point o t) (point o t)
    has_source r a o e t from to = subst (λ (v : ℕ). InRow r (point v t) (point v t)) e (has r a t from to)

    spans : (r : Row) → Among xs r → r.band.from ≤ℤ r.band.to
    spans r a = (normal.each r a).span

    -- a row that ends where its object goes on isn't there
    goes_past : (q : Row) → Among xs q → Inside (point q.source.0 (q.band.to +ℤ pos 1)) → ⊥
    goes_past q a next =
        let row = normal.each q a in
        let span = spans q a in
        let last = stays q a q.band.to span (omega (arith, ints)) in
        let low = last.low in let high = last.high in
        let t = q.band.to +ℤ pos 1 in
        let run : IsRun (between Diagonal q.source.0 q.target.0) t t t = record {
          some = omega (arith, ints);
          each = λ w least most. let is : w ≡ t = omega (arith, ints) in subst (λ (v : ℤ). Diagonal (point q.source.0 t) (point q.target.0 v)) (sym is) (subst (λ (v : ℕ). Diagonal (point q.source.0 t) (point v t)) last.same (next, refl));
          below = λ h. let e = ap (λ (v : Point). v.moment) h.1 in omega (arith, ints, e);
          above = λ h. let e = ap (λ (v : Point). v.moment) h.1 in omega (arith, ints, e);
        } in
        let stop = row.stops t t run (inr (let e : t ≡ end_at q.band.low q.band.to +ℤ pos 1 = omega (arith, ints, low) in e)) (inr (let e : t ≡ end_at q.band.high q.band.to +ℤ pos 1 = omega (arith, ints, high) in e)) in
        let longer = stop.0 in
        let before = stays q a (q.band.to -ℤ pos 1) (omega (arith, ints, longer)) (omega (arith, ints)) in
        stop.1 (goes_on q.band.low q.band.to before.low low, goes_on q.band.high q.band.to before.high high)

    -- a row begins at the first moment at which its object is inside
    begins_first : (r : Row) → Among xs r → (t : ℤ) → Inside (point r.source.0 t) → t <ℤ r.band.from → ⊥
    begins_first r a t inside early =
        let span = spans r a in
        let o = r.source.0 in
        let from = r.band.from in
        let own = stays r a from (omega (arith, ints)) span in
        let before : Inside (point o (from -ℤ pos 1)) = go o t (from -ℤ pos 1) from inside own.inside (omega (arith, ints, early)) (omega (arith, ints)) in
        let found = normal.whole (point o (from -ℤ pos 1)) (point o (from -ℤ pos 1)) (before, refl) in
        let q = found.0 in
        let there = found.1 in
        let in_row = found.2 in
        let pair = in_row.pair in
        let first = pair.from in
        let last = pair.to in
        by_lt_z q.band.to from
        (λ ends.
        let next : q.band.to +ℤ pos 1 ≡ from = omega (arith, ints, ends, last) in
        goes_past q there (subst (λ (v : ℤ). Inside (point q.source.0 v)) (sym next) (subst (λ (v : ℕ). Inside (point v from)) (sym in_row.source) own.inside)))
        (λ goes.
        let same : q ≡ r = normal.once q r (point o from) (point o from) there a (has_source q there o in_row.source from (omega (arith, ints, first)) goes) (has_source r a o refl from (omega (arith, ints)) span) in
        let starts : q.band.from ≡ from = ap (λ (v : Row). v.band.from) same in
        omega (arith, ints, starts, first))

    -- so each object has one row
    one_row : (r s : Row) → Among xs r → Among xs s → r.source.0 ≡ s.source.0 → r ≡ s
    one_row r s a b e =
        let own = stays r a r.band.from (omega (arith, ints)) (spans r a) in
        let other = stays s b s.band.from (omega (arith, ints)) (spans s b) in
        by_lt_z r.band.from s.band.from
        (λ early. absurd (begins_first s b r.band.from (subst (λ (v : ℕ). Inside (point v r.band.from)) e own.inside) early))
        (λ late.
        by_lt_z s.band.from r.band.from
        (λ early. absurd (begins_first r a s.band.from (subst (λ (v : ℕ). Inside (point v s.band.from)) (sym e) other.inside) early))
        (λ later.
        let same : r.band.from ≡ s.band.from = omega (arith, ints, late, later) in
        normal.once r s (point r.source.0 r.band.from) (point r.source.0 r.band.from) a b
        (has r a r.band.from (omega (arith, ints)) (spans r a))
        (subst (λ (v : ℤ). InRow s (point r.source.0 v) (point r.source.0 v)) (sym same) (has_source s b r.source.0 (sym e) s.band.from (omega (arith, ints)) (spans s b)))))

    sources_rise : (part : List Row) → ((r : Row) → Among part r → Among xs r) → Ordered RowBefore part → Ordered SourceBefore part
    sources_rise [] all o = tt
    sources_rise (r ∷ rest) all o = (λ s a. rises s a (o.0 s a), sources_rise rest (λ s a. all s (inr a)) o.1)
      where
        again : (s : Row) → Among rest s → RowBefore r s → r.source.0 ≡ s.source.0 → ⊥
        again s a before e =
            let same : r ≡ s = one_row r s (all r (inl refl)) (all s (inr a)) e in
            let twice : RowBefore r r = subst (RowBefore r) (sym same) before in
            row_apart r r twice twice

        rises : (s : Row) → Among rest s → RowBefore r s → r.source.0 < s.source.0
        rises s a (inl (inl less)) = less
        rises s a (inl (inr (e, less))) = absurd (again s a (inl (inr (e, less))) e)
        rises s a (inr (e, f, later)) = absurd (again s a (inr (e, f, later)) e)

    -- a relation that holds the identity has a row for each of its rows
    pub diagonal_fewer : (R : Relation) → ((x : Point) → Inside x → R x x) → (rows : List Row) → NormalRows R rows → length xs ≤ length rows
    diagonal_fewer R holds rows other =
        fewer_sources xs rows (sources_rise xs (λ r a. a) normal.order) other.order
        (λ r a.
        let s = stays r a r.band.from (omega (arith, ints)) (spans r a) in
        let w = other.whole (point r.source.0 r.band.from) (point r.source.0 r.band.from) (holds (point r.source.0 r.band.from) s.inside) in
        let i = w.2 in
        (w.0, w.1, i.source))
