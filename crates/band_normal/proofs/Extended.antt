-- A row followed by a strip that moves as it does is one band.
use Rattle.std.proofs.Common.{◌≡◌, ◌⊎◌, inl, inr, ℤ, pos, ◌+ℤ◌, ◌≤ℤ◌, sym, subst, arith}
use Rattle.std.proofs.lemmas.Int.{ints, by_lt_z}
use Rattle.band_normal.specs.declared.band.Band.{Band}
use Rattle.band_normal.specs.Bands.{end_at, InBand}
use Rattle.band_normal.specs.Normal.{IsRun, IsStrip}

-- the row c is the row b followed by the strip s
pub record IsExtended (b s c : Band) : Type 0 where
  pub from : c.from ≡ b.from
  pub to : c.to ≡ s.to
  pub next : s.from ≡ b.to +ℤ pos 1
  pub low_old : (t : ℤ) → b.from ≤ℤ t → t ≤ℤ b.to → end_at c.low t ≡ end_at b.low t
  pub high_old : (t : ℤ) → b.from ≤ℤ t → t ≤ℤ b.to → end_at c.high t ≡ end_at b.high t
  pub low_new : (t : ℤ) → s.from ≤ℤ t → t ≤ℤ s.to → end_at c.low t ≡ end_at s.low t
  pub high_new : (t : ℤ) → s.from ≤ℤ t → t ≤ℤ s.to → end_at c.high t ≡ end_at s.high t

pub run_as : (R : ℤ → ℤ → Type 0) (t l l' h h' : ℤ) → l ≡ l' → h ≡ h' → IsRun R t l' h' → IsRun R t l h
run_as R t l l' h h' p q r = subst (λ (v : ℤ). IsRun R t v h) (sym p) (subst (λ (v : ℤ). IsRun R t l' v) (sym q) r)

pub extended-strip : (R : ℤ → ℤ → Type 0) (b s c : Band) → IsStrip R b → IsStrip R s → IsExtended b s c → IsStrip R c
extended-strip R b s c rb rs x =
    let f = x.from in let g = x.to in let n = x.next in let sb = rb.span in let ss = rs.span in
    record {
      span = omega (arith, ints);
      runs = λ t p q. by_lt_z b.to t
          (λ later. run_as R t _ _ _ _ (x.low_new t (omega (arith, ints)) (omega (arith, ints))) (x.high_new t (omega (arith, ints)) (omega (arith, ints))) (rs.runs t (omega (arith, ints)) (omega (arith, ints))))
          (λ here. run_as R t _ _ _ _ (x.low_old t (omega (arith, ints)) here) (x.high_old t (omega (arith, ints)) here) (rb.runs t (omega (arith, ints)) here));
    }

pub extended-split : (b s c : Band) (t u : ℤ) → b.from ≤ℤ b.to → s.from ≤ℤ s.to → IsExtended b s c → InBand c t u → InBand b t u ⊎ InBand s t u
extended-split b s c t u sb ss x i =
    let f = x.from in let g = x.to in let n = x.next in let i0 = i.from in let i1 = i.to in let i2 = i.low in let i3 = i.high in
    by_lt_z b.to t
    (λ later. let a = x.low_new t (omega (arith, ints)) (omega (arith, ints)) in let d = x.high_new t (omega (arith, ints)) (omega (arith, ints)) in inr (record { from = omega (arith, ints); to = omega (arith, ints); low = omega (arith, ints); high = omega (arith, ints) }))
    (λ here. let a = x.low_old t (omega (arith, ints)) here in let d = x.high_old t (omega (arith, ints)) here in inl (record { from = omega (arith, ints); to = here; low = omega (arith, ints); high = omega (arith, ints) }))

pub extended-left : (b s c : Band) (t u : ℤ) → s.from ≤ℤ s.to → IsExtended b s c → InBand b t u → InBand c t u
extended-left b s c t u ss x i =
    let f = x.from in let g = x.to in let n = x.next in let i0 = i.from in let i1 = i.to in let i2 = i.low in let i3 = i.high in
    let a = x.low_old t i0 i1 in let d = x.high_old t i0 i1 in
    record { from = omega (arith, ints); to = omega (arith, ints); low = omega (arith, ints); high = omega (arith, ints) }

pub extended-right : (b s c : Band) (t u : ℤ) → b.from ≤ℤ b.to → IsExtended b s c → InBand s t u → InBand c t u
extended-right b s c t u sb x i =
    let f = x.from in let g = x.to in let n = x.next in let i0 = i.from in let i1 = i.to in let i2 = i.low in let i3 = i.high in
    let a = x.low_new t i0 i1 in let d = x.high_new t i0 i1 in
    record { from = omega (arith, ints); to = omega (arith, ints); low = omega (arith, ints); high = omega (arith, ints) }
