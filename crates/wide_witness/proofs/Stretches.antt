-- Where at most n steps lead that lead each object to itself one moment later.
use Rattle.std.proofs.Common.{◌≡◌, ◌⊎◌, inl, inr, ℕ, zero, suc, ℤ, pos, ◌+ℤ◌, ◌-ℤ◌, ◌≤ℤ◌, List, refl, sym, ◌∙◌, ap, subst, arith}
use Rattle.std.proofs.lemmas.Int.{ints, by_lt_z}
use Rattle.itpg_base.specs.Lists.{Among, Ordered}
use Rattle.itpg_base.specs.Points.{Point, Relation}
use Rattle.itpg_base.proofs.Lists.{ordered_either}
use Rattle.band_normal.specs.Bands.{IsWellFormed}
use Rattle.relation_rows.specs.declared.rows.Row.{Row}
use Rattle.relation_rows.specs.Rows.{InRow, RowsHold}
use Rattle.wide_witness.specs.Along.{AlongRow, AlongRows, IsAlong, LeadOneOn}
use Rattle.wide_witness.specs.Steps.{Reaches, point}
use Rattle.wide_witness.proofs.StandingFree.{StandFree}

-- points of one object at one moment are one
pub point_same : (x y : Point) → x.object ≡ y.object → x.moment ≡ y.moment → x ≡ y
point_same x y o t = ap (λ (v : ℕ). point v x.moment) o ∙ ap (λ (v : ℤ). point y.object v) t

-- no step leads a point to itself
reaches_self : (R : Relation) (n : ℕ) (x : Point) → Reaches R n x x
unfolding Reaches
reaches_self R zero x = refl
reaches_self R (suc n) x = inl (reaches_self R n x)

free_apart : (r s : Row) (t : ℤ) → StandFree r s → r.source.0 ≡ s.source.0 → s.band.from ≤ℤ t → t ≤ℤ (r.band.to +ℤ pos 1) → ⊥
free_apart r s t (inl less) same from to = omega (arith, less, same)
free_apart r s t (inr (e, gap)) same from to = omega (arith, ints, gap, from, to)

-- one step more
further : (r : Row) (n : ℕ) (x y : Point) → AlongRow r n x y → AlongRow r (suc n) x y
further r n x y k =
    let p = k.pair in
    let near = p.near in
    record { source = k.source; target = k.target; pair = record { from = p.from; order = p.order; to = p.to; near = omega (arith, ints, near) } }

module _ (steps : List Row) (formed : (r : Row) → Among steps r → IsWellFormed r.band) (on : LeadOneOn steps) (free : Ordered StandFree steps) where
  -- rows of one object whose stretches share a moment are one
  pub one_row : (r s : Row) → Among steps r → Among steps s → (t : ℤ) → r.source.0 ≡ s.source.0 → r.band.from ≤ℤ t → t ≤ℤ (r.band.to +ℤ pos 1) → s.band.from ≤ℤ t → t ≤ℤ (s.band.to +ℤ pos 1) → r ≡ s
  one_row r s a b t same from to begins ends = elim (ordered_either StandFree steps free r s a b) [
    | inl e ↦ e
    | inr (inl f) ↦ absurd (free_apart r s t f same begins to)
    | inr (inr f) ↦ absurd (free_apart s r t f (sym same) from ends)
  ]

  -- a step stays at the object, and leads to the next moment
  step_is : (r : Row) → Among steps r → (x y : Point) → InRow r x y → (x.object ≡ y.object) × (y.moment ≡ x.moment +ℤ pos 1)
  step_is r a x y i =
      let l = on r a in
      let p = i.pair in
      let low = p.low in
      let high = p.high in
      let first = l.low x.moment p.from p.to in
      let last = l.high x.moment p.from p.to in
      (sym i.source ∙ l.stays ∙ i.target, omega (arith, ints, low, high, first, last))

  step_there : (r : Row) → Among steps r → (x y : Point) → r.source.0 ≡ x.object → x.object ≡ y.object → r.band.from ≤ℤ x.moment → x.moment ≤ℤ r.band.to → y.moment ≡ x.moment +ℤ pos 1 → RowsHold steps x y
  step_there r a x y source same from to next =
      let l = on r a in
      let first = l.low x.moment from to in
      let last = l.high x.moment from to in
      (r, a, record { source = source; target = sym l.stays ∙ source ∙ same; pair = record { from = from; to = to; low = omega (arith, ints, first, next); high = omega (arith, ints, last, next) } })

  leads_along : (n : ℕ) (x y : Point) → Reaches (RowsHold steps) n x y → (x ≡ y) ⊎ AlongRows steps n x y
  unfolding Reaches
  leads_along zero x y h = inl h
  leads_along (suc n) x y (inl h) = elim (leads_along n x y h) [ inl e ↦ inl e | inr (r, a, k) ↦ inr (r, a, further r n x y k) ]
  leads_along (suc n) x y (inr (z, h, (s, b, i))) =
      let next = step_is s b z y i in
      let p = i.pair in
      let from = p.from in
      let to = p.to in
      let moves = next.1 in
      elim (leads_along n x z h) [
        | inl e ↦
            let begins : s.band.from ≤ℤ x.moment = subst (λ (v : Point). s.band.from ≤ℤ v.moment) (sym e) from in
            let ends : x.moment ≤ℤ s.band.to = subst (λ (v : Point). v.moment ≤ℤ s.band.to) (sym e) to in
            let later : y.moment ≡ x.moment +ℤ pos 1 = subst (λ (v : Point). y.moment ≡ v.moment +ℤ pos 1) (sym e) moves in
            let source : s.source.0 ≡ x.object = subst (λ (v : Point). s.source.0 ≡ v.object) (sym e) i.source in
            inr (
              s,
              b,
              record {
                source = source;
                target = i.source ∙ next.0;
                pair = record { from = begins; order = omega (arith, ints, later); to = omega (arith, ints, later, ends); near = omega (arith, ints, later) };
              },
            )
        | inr (r, a, k) ↦
            let q = k.pair in
            let begins = q.from in
            let order = q.order in
            let ends = q.to in
            let near = q.near in
            let e = one_row r s a b z.moment (k.target ∙ sym i.source) (omega (arith, ints, begins, order)) ends from (omega (arith, ints, to)) in
            let within : z.moment ≤ℤ r.band.to = subst (λ (v : Row). z.moment ≤ℤ v.band.to) (sym e) to in
            inr (
              r,
              a,
              record {
                source = k.source;
                target = k.target ∙ next.0;
                pair = record { from = begins; order = omega (arith, ints, order, moves); to = omega (arith, ints, within, moves); near = omega (arith, ints, near, moves) };
              },
            )
      ]

  along_leads : (n : ℕ) (x y : Point) → AlongRows steps n x y → Reaches (RowsHold steps) n x y
  unfolding Reaches
  along_leads zero x y (r, a, k) = let p = k.pair in let order = p.order in let near = p.near in point_same x y (sym k.source ∙ k.target) (omega (arith, ints, order, near))
  along_leads (suc n) x y (r, a, k) =
      let p = k.pair in
      let from = p.from in
      let order = p.order in
      let to = p.to in
      let near = p.near in
      by_lt_z x.moment y.moment
      (λ lt.
      let z = point y.object (y.moment -ℤ pos 1) in
      let before : AlongRow r n x z = record {
        source = k.source;
        target = k.target;
        pair = record { from = from; order = omega (arith, ints, lt); to = omega (arith, ints, to); near = omega (arith, ints, near) };
      } in
      inr (z, along_leads n x z (r, a, before), step_there r a z y k.target refl (omega (arith, ints, from, lt)) (omega (arith, ints, to)) (omega (arith, ints))))
      (λ le. subst (Reaches (RowsHold steps) (suc n) x) (point_same x y (sym k.source ∙ k.target) (omega (arith, ints, order, le))) (reaches_self (RowsHold steps) (suc n) x))

  module _ (one : List Row) (same : (x : Point) → (y : Point) → RowsHold one x y → x ≡ y) (inside : (x : Point) → (y : Point) → RowsHold steps x y → RowsHold one x x × RowsHold one y y) where
    -- what departs or arrives by a step leads to itself
    starts : (r : Row) → Among steps r → (x : Point) → r.source.0 ≡ x.object → r.band.from ≤ℤ x.moment → x.moment ≤ℤ (r.band.to +ℤ pos 1) → RowsHold one x x
    starts r a x source from to =
        let span = (formed r a).span in
        by_lt_z r.band.to x.moment
        (λ lt. let z = point x.object (x.moment -ℤ pos 1) in (inside z x (step_there r a z x source refl (omega (arith, ints, lt, span)) (omega (arith, ints, to)) (omega (arith, ints)))).1)
        (λ le. let z = point x.object (x.moment +ℤ pos 1) in (inside x z (step_there r a x z source refl from le refl)).0)

    pub to_parts : (n : ℕ) (x y : Point) → IsAlong one steps n x y → RowsHold one x y ⊎ AlongRows steps n x y
    to_parts n x y h = elim (leads_along n x y h.1) [
      | inl e ↦ inl (subst (λ (v : Point). RowsHold one x v) e h.0)
      | inr a ↦ inr a
    ]

    pub from_parts : (n : ℕ) (x y : Point) → RowsHold one x y ⊎ AlongRows steps n x y → IsAlong one steps n x y
    from_parts n x y (inl h) =
        let e = same x y h in
        (subst (λ (v : Point). RowsHold one x v) (sym e) h, subst (Reaches (RowsHold steps) n x) e (reaches_self (RowsHold steps) n x))
    from_parts n x y (inr (r, a, k)) =
        let p = k.pair in
        let order = p.order in
        let to = p.to in
        (starts r a x k.source p.from (omega (arith, ints, order, to)), along_leads n x y (r, a, k))
