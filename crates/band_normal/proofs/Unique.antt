-- At most one list is normal for a relation.
use Rattle.std.proofs.Common.{◌≡◌, inl, inr, ⊎_elim, ℕ, zero, suc, ◌+◌, ℤ, pos, ◌+ℤ◌, ◌-ℤ◌, ◌≤ℤ◌, ◌<ℤ◌, List, [], ◌∷◌, refl, sym, ◌∙◌, ap, subst, arith}
use Rattle.std.proofs.lemmas.Int.{ints, clamps, by_lt_z}
use Rattle.std.specs.Int.{int_min}
use borrow.Author.Differences.{up, down}
use Rattle.itpg_base.specs.Lists.{Among}
use Rattle.itpg_base.proofs.Lists.{ordered_unique}
use Rattle.band_normal.specs.Bands.{end_at, IsFixed}
use Rattle.band_normal.specs.Normal.{IsRun, Steps, IsRow, IsBefore, Normal}
use Rattle.band_normal.specs.declared.band.End.{End}
use Rattle.band_normal.specs.declared.band.End.TheVariants.{Fixed, Moving}
use Rattle.band_normal.specs.declared.band.Band.{Band}

le_antisym : (x y : ℤ) → x ≤ℤ y → y ≤ℤ x → x ≡ y
le_antisym x y p q = omega (arith, ints)

-- two runs at one moment that overlap or are adjacent are one
pub same_run : (R : ℤ → ℤ → Type 0) (t l h l' h' : ℤ) → IsRun R t l h → IsRun R t l' h' → l ≤ℤ (h' +ℤ pos 1) → l' ≤ℤ (h +ℤ pos 1) → (l ≡ l') × (h ≡ h')
same_run R t l h l' h' r s a b =
    let le1 : l ≤ℤ l' = by_lt_z l' l (λ lt. absurd (r.below (s.each _ (omega (arith, ints)) (omega (arith, ints))))) (λ le. le) in
    let le2 : l' ≤ℤ l = by_lt_z l l' (λ lt. absurd (s.below (r.each _ (omega (arith, ints)) (omega (arith, ints))))) (λ le. le) in
    let le3 : h ≤ℤ h' = by_lt_z h' h (λ lt. absurd (s.above (r.each _ (omega (arith, ints)) (omega (arith, ints))))) (λ le. le) in
    let le4 : h' ≤ℤ h = by_lt_z h h' (λ lt. absurd (r.above (s.each _ (omega (arith, ints)) (omega (arith, ints))))) (λ le. le) in
    (le_antisym _ _ le1 le2, le_antisym _ _ le3 le4)

-- an end stays or moves by one
pub end_steps : (e : End) (t : ℤ) → Steps (end_at e t) (end_at e (t +ℤ pos 1))
end_steps (Fixed n) t = inl refl
end_steps (Moving k) t = inr (omega (arith, ints))

-- ends that agree at two moments are one end
pub ends_agree : (e f : End) (t : ℤ) → end_at e t ≡ end_at f t → end_at e (t +ℤ pos 1) ≡ end_at f (t +ℤ pos 1) → e ≡ f
ends_agree (Fixed m) (Fixed n) t p q = ap Fixed p
ends_agree (Fixed m) (Moving k) t p q = absurd (omega (arith, ints))
ends_agree (Moving j) (Fixed n) t p q = absurd (omega (arith, ints))
ends_agree (Moving j) (Moving k) t p q = ap Moving (omega (arith, ints))

-- fixed ends that agree are one end
fixed_agree : (e f : End) (t : ℤ) → IsFixed e → IsFixed f → end_at e t ≡ end_at f t → e ≡ f
fixed_agree (Fixed m) (Fixed n) t x y p = ap Fixed p
fixed_agree (Fixed m) (Moving k) t x y p = absurd y
fixed_agree (Moving j) f t x y p = absurd x

pub steps_near : (x y : ℤ) → Steps x y → (x ≤ℤ y) × (y ≤ℤ (x +ℤ pos 1))
steps_near x y (inl e) = (omega (arith, ints), omega (arith, ints))
steps_near x y (inr e) = (omega (arith, ints), omega (arith, ints))

-- at most one run continues a run
pub continues_one : (R : ℤ → ℤ → Type 0) (t l h l1 h1 l2 h2 : ℤ) → l ≤ℤ h → IsRun R t l1 h1 → IsRun R t l2 h2 → Steps l l1 → Steps h h1 → Steps l l2 → Steps h h2 → (l1 ≡ l2) × (h1 ≡ h2)
continues_one R t l h l1 h1 l2 h2 some r s a b c d =
    let na = steps_near _ _ a in let nb = steps_near _ _ b in let nc = steps_near _ _ c in let nd = steps_near _ _ d in
    same_run R t l1 h1 l2 h2 r s (omega (arith, ints)) (omega (arith, ints))

-- a run continues at most one run
pub continued_one : (R : ℤ → ℤ → Type 0) (t l h l1 h1 l2 h2 : ℤ) → l ≤ℤ h → IsRun R t l1 h1 → IsRun R t l2 h2 → Steps l1 l → Steps h1 h → Steps l2 l → Steps h2 h → (l1 ≡ l2) × (h1 ≡ h2)
continued_one R t l h l1 h1 l2 h2 some r s a b c d =
    let na = steps_near _ _ a in let nb = steps_near _ _ b in let nc = steps_near _ _ c in let nd = steps_near _ _ d in
    same_run R t l1 h1 l2 h2 r s (omega (arith, ints)) (omega (arith, ints))

-- a band of the list whose arrivals at t are l..h
pub record RowAt (xs : List Band) (t l h : ℤ) : Type 0 where
  pub band : Band
  pub has : Among xs band
  pub from : band.from ≤ℤ t
  pub to : t ≤ℤ band.to
  pub low : end_at band.low t ≡ l
  pub high : end_at band.high t ≡ h

pub row_of : (R : ℤ → ℤ → Type 0) (xs : List Band) → Normal R xs → (t l h : ℤ) → IsRun R t l h → RowAt xs t l h
row_of R xs n t l h r =
    let w = n.whole t l (r.each l (omega (arith, ints)) r.some) in
    let i = w.2 in
    let s = (n.each w.0 w.1).runs t i.from i.to in
    let e = same_run R t _ _ _ _ s r (let x : end_at (w.0).low t ≤ℤ l = i.low in let y = r.some in omega (arith, ints)) (let x : l ≤ℤ end_at (w.0).high t = i.high in omega (arith, ints)) in
    record { band = w.0; has = w.1; from = i.from; to = i.to; low = e.0; high = e.1 }

step_from : (x x' y z : ℤ) → x ≡ x' → y ≡ z → Steps x y → Steps x' z
step_from x x' y z e f s = subst (λ (v : ℤ). Steps v z) e (subst (λ (v : ℤ). Steps x v) f s)

run_at : (R : ℤ → ℤ → Type 0) (t t' l h : ℤ) → t ≡ t' → IsRun R t l h → IsRun R t' l h
run_at R t t' l h e r = subst (λ (v : ℤ). IsRun R v l h) e r

steps_at : (e : End) (t t' : ℤ) → t' ≡ t +ℤ pos 1 → Steps (end_at e t) (end_at e t')
steps_at e t t' q = subst (λ (v : ℤ). Steps (end_at e t) (end_at e v)) (sym q) (end_steps e t)

agree_at : (e f : End) (t t' : ℤ) → t' ≡ t +ℤ pos 1 → end_at e t ≡ end_at f t → end_at e t' ≡ end_at f t' → e ≡ f
agree_at e f t t' q a b = ends_agree e f t a (subst (λ (v : ℤ). end_at e v ≡ end_at f v) q b)

-- a band that begins at t and one that has its run there, of two normal lists: the other doesn't begin before t
not_before : (R : ℤ → ℤ → Type 0) (xs ys : List Band) (b b' : Band) → Normal R xs → Normal R ys → Among xs b → Among ys b'
    → b.from ≤ℤ b'.to → end_at b'.low b.from ≡ end_at b.low b.from → end_at b'.high b.from ≡ end_at b.high b.from
    → ((a : Band) → Among xs a → a.from <ℤ b'.from → b'.from ≤ℤ a.to → end_at a.low b'.from ≡ end_at b'.low b'.from → end_at a.high b'.from ≡ end_at b'.high b'.from → ⊥)
    → b'.from <ℤ b.from → ⊥
not_before R xs ys b b' n m hb hb' to0 el eh down lt =
    let t0 = b.from in
    let t1 = b.from -ℤ pos 1 in
    let q01 : b.from ≡ (b.from -ℤ pos 1) +ℤ pos 1 = omega (arith, ints) in
    let row' = m.each b' hb' in
    let row = n.each b hb in
    let r0 = row'.runs t0 (omega (arith, ints)) to0 in
    let r1 = row'.runs t1 (omega (arith, ints)) (omega (arith, ints)) in
    let a = row_of R xs n t1 _ _ r1 in
    let rowa = n.each a.band a.has in
    let sl = steps_at b'.low t1 t0 q01 in
    let sh = steps_at b'.high t1 t0 q01 in
    by_lt_z (a.band).to t0
    (λ ends.
    let last : (a.band).to ≡ t1 = let x = a.to in omega (arith, ints) in
    let next : t0 ≡ (a.band).to +ℤ pos 1 = omega (arith, ints) in
    let s = rowa.stops _ _ (run_at R t0 _ _ _ next r0)
    (step_from _ _ _ _ (sym (ap (end_at (a.band).low) last ∙ a.low)) refl sl)
    (step_from _ _ _ _ (sym (ap (end_at (a.band).high) last ∙ a.high)) refl sh) in
    by_lt_z b'.from t1
    (λ early.
    let t2 = t1 -ℤ pos 1 in
    let q12 : t1 ≡ t2 +ℤ pos 1 = omega (arith, ints) in
    let r2 = row'.runs t2 (omega (arith, ints)) (omega (arith, ints)) in
    let ra = rowa.runs t2 (omega (arith, ints)) (omega (arith, ints)) in
    let e = continued_one R t2 _ _ _ _ _ _ r1.some ra r2
    (step_from _ _ _ _ refl a.low (steps_at (a.band).low t2 t1 q12)) (step_from _ _ _ _ refl a.high (steps_at (a.band).high t2 t1 q12))
    (steps_at b'.low t2 t1 q12) (steps_at b'.high t2 t1 q12) in
    let same_low = agree_at (a.band).low b'.low t2 t1 q12 e.0 a.low in
    let same_high = agree_at (a.band).high b'.high t2 t1 q12 e.1 a.high in
    s.1 (
      ap (λ (v : End). end_at v ((a.band).to +ℤ pos 1)) same_low ∙ ap (end_at b'.low) (sym next),
      ap (λ (v : End). end_at v ((a.band).to +ℤ pos 1)) same_high ∙ ap (end_at b'.high) (sym next),
    ))
    (λ late.
    let starts : b'.from ≡ t1 = omega (arith, ints) in
    down a.band a.has (omega (arith, ints)) (omega (arith, ints))
    (ap (end_at (a.band).low) starts ∙ a.low ∙ ap (end_at b'.low) (sym starts))
    (ap (end_at (a.band).high) starts ∙ a.high ∙ ap (end_at b'.high) (sym starts))))
    (λ goes.
    let ra = rowa.runs t0 (let x = a.from in omega (arith, ints)) goes in
    let e = continues_one R t0 _ _ _ _ _ _ r1.some ra r0
    (step_from _ _ _ _ a.low refl (steps_at (a.band).low t1 t0 q01)) (step_from _ _ _ _ a.high refl (steps_at (a.band).high t1 t0 q01)) sl sh in
    let ab : a.band ≡ b = n.once a.band b t0 (end_at b.low t0) a.has hb
    (record { from = (let x = a.from in omega (arith, ints)); to = goes; low = (let x = e.0 ∙ el in omega (arith, ints)); high = (let x = e.1 ∙ eh in let y = (row.runs t0 (omega (arith, ints)) row.span).some in omega (arith, ints)) })
    (record { from = omega (arith, ints); to = row.span; low = omega (arith, ints); high = (row.runs t0 (omega (arith, ints)) row.span).some }) in
    let from_same : (a.band).from ≡ b.from = ap (λ (v : Band). v.from) ab in
    let x = a.from in
    omega (arith, ints))

-- no band of the list begins before low
pub record IsFloor (low : ℤ) (xs : List Band) : Type 0 where
  pub floor : (b : Band) → Among xs b → low ≤ℤ b.from

floor_of : (xs : List Band) → (low : ℤ) × IsFloor low xs
floor_of [] = (pos 0, record { floor = λ b h. absurd h })
floor_of (x ∷ xs) =
    let rest = floor_of xs in
    by_lt_z rest.0 x.from
    (λ lt. (rest.0, record { floor = λ b h. ⊎_elim (λ (e : x ≡ b). let f : x.from ≡ b.from = ap (λ (v : Band). v.from) e in omega (arith, ints)) (λ i. (rest.1).floor b i) h }))
    (λ le. (x.from, record { floor = λ b h. ⊎_elim (λ (e : x ≡ b). let f : x.from ≡ b.from = ap (λ (v : Band). v.from) e in omega (arith, ints)) (λ i. let g = (rest.1).floor b i in omega (arith, ints)) h }))

-- a band that begins at t and one that has its run there begin together
begins : (n : ℕ) (R : ℤ → ℤ → Type 0) (xs ys : List Band) (b b' : Band) (low : ℤ) → Normal R xs → Normal R ys → IsFloor low xs → IsFloor low ys → Among xs b → Among ys b'
    → b.from ≤ℤ (low +ℤ pos n)
    → b'.from ≤ℤ b.from → b.from ≤ℤ b'.to → end_at b'.low b.from ≡ end_at b.low b.from → end_at b'.high b.from ≡ end_at b.high b.from
    → b'.from ≡ b.from
begins zero R xs ys b b' low nx ny fx fy hb hb' near f0 t0 el eh =
    let g = fy.floor b' hb' in omega (arith, ints)
begins (suc n) R xs ys b b' low nx ny fx fy hb hb' near f0 t0 el eh =
    by_lt_z b'.from b.from
    (λ lt. absurd (not_before R xs ys b b' nx ny hb hb' t0 el eh
    (λ a ha af at al ah. let e = begins n R ys xs b' a low ny nx fy fx hb' ha (omega (arith, ints)) (omega (arith, ints)) at al ah in omega (arith, ints))
    lt))
    (λ le. omega (arith, ints))

both_ends : (R : ℤ → ℤ → Type 0) (b b' : Band) → IsRow R b → IsRow R b' → b.from ≡ b'.from → end_at b.low b.from ≡ end_at b'.low b.from → end_at b.high b.from ≡ end_at b'.high b.from
    → b.from <ℤ b.to → b.from <ℤ b'.to → (b.low ≡ b'.low) × (b.high ≡ b'.high)
both_ends R b b' r r' ef el eh l l' =
    let t = b.from in
    let t' = b.from +ℤ pos 1 in
    let here = r.runs b.from (omega (arith, ints)) r.span in
    let x = r.runs (b.from +ℤ pos 1) (omega (arith, ints)) (omega (arith, ints)) in
    let y = r'.runs (b.from +ℤ pos 1) (omega (arith, ints)) (omega (arith, ints)) in
    let e = continues_one R (b.from +ℤ pos 1) _ _ _ _ _ _ here.some x y (end_steps b.low b.from) (end_steps b.high b.from)
    (step_from _ _ _ _ (sym el) refl (end_steps b'.low b.from)) (step_from _ _ _ _ (sym eh) refl (end_steps b'.high b.from)) in
    (ends_agree b.low b'.low b.from el e.0, ends_agree b.high b'.high b.from eh e.1)

to_no_later : (R : ℤ → ℤ → Type 0) (b b' : Band) → IsRow R b → IsRow R b' → b.from ≡ b'.from → end_at b.low b.from ≡ end_at b'.low b.from → end_at b.high b.from ≡ end_at b'.high b.from
    → b'.to ≤ℤ b.to
to_no_later R b b' r r' ef el eh = by_lt_z b.to b'.to
    (λ lt.
    let t' = b.to +ℤ pos 1 in
    let next = r'.runs (b.to +ℤ pos 1) (let x = r.span in omega (arith, ints)) (omega (arith, ints)) in
    let here : IsRun R b.to (end_at b'.low b.to) (end_at b'.high b.to) = r'.runs b.to (let x = r.span in omega (arith, ints)) (omega (arith, ints)) in
    absurd (by_lt_z b.from b.to
    (λ long.
    let same = both_ends R b b' r r' ef el eh long (omega (arith, ints)) in
    (r.stops _ _ next
    (step_from _ _ _ _ (ap (λ (v : End). end_at v b.to) (sym same.0)) refl (end_steps b'.low b.to))
    (step_from _ _ _ _ (ap (λ (v : End). end_at v b.to) (sym same.1)) refl (end_steps b'.high b.to))).1
    (ap (λ (v : End). end_at v (b.to +ℤ pos 1)) same.0, ap (λ (v : End). end_at v (b.to +ℤ pos 1)) same.1))
    (λ short.
    let one : b.from ≡ b.to = let x = r.span in omega (arith, ints) in
    let long = (r.stops _ _ next
    (step_from _ _ _ _ (ap (end_at b'.low) (sym one) ∙ sym el ∙ ap (end_at b.low) one) refl (end_steps b'.low b.to))
    (step_from _ _ _ _ (ap (end_at b'.high) (sym one) ∙ sym eh ∙ ap (end_at b.high) one) refl (end_steps b'.high b.to))).0 in
    omega (arith, ints))))
    (λ le. le)

band_ext : {f f' t t' : ℤ} {l l' h h' : End} → f ≡ f' → t ≡ t' → l ≡ l' → h ≡ h'
    → let P : Band = record { from = f; to = t; low = l; high = h } in P ≡ record { from = f'; to = t'; low = l'; high = h' }
band_ext a b c d = cc

-- rows that begin together with one run are one
same_row : (R : ℤ → ℤ → Type 0) (b b' : Band) → IsRow R b → IsRow R b' → b.from ≡ b'.from → end_at b.low b.from ≡ end_at b'.low b.from → end_at b.high b.from ≡ end_at b'.high b.from
    → b ≡ b'
same_row R b b' r r' ef el eh =
    let le1 = to_no_later R b b' r r' ef el eh in
    let le2 = to_no_later R b' b r' r (sym ef) (ap (end_at b'.low) (sym ef) ∙ sym el ∙ ap (end_at b.low) ef) (ap (end_at b'.high) (sym ef) ∙ sym eh ∙ ap (end_at b.high) ef) in
    let et : b.to ≡ b'.to = le_antisym _ _ le2 le1 in
    by_lt_z b.from b.to
    (λ long. let e = both_ends R b b' r r' ef el eh long (omega (arith, ints)) in band_ext ef et e.0 e.1)
    (λ short.
    let one : b.from ≡ b.to = let x = r.span in omega (arith, ints) in
    let one' : b'.from ≡ b'.to = omega (arith, ints) in
    band_ext ef et (fixed_agree _ _ b.from (r.single_low one) (r'.single_low one') el) (fixed_agree _ _ b.from (r.single_high one) (r'.single_high one') eh))

-- each band of one normal list is in the other
carried : (R : ℤ → ℤ → Type 0) (xs ys : List Band) → Normal R xs → Normal R ys → (b : Band) → Among xs b → Among ys b
carried R xs ys nx ny b hb =
    let row = nx.each b hb in
    let c = row_of R ys ny b.from _ _ (row.runs b.from (omega (arith, ints)) row.span) in
    let fx = floor_of xs in let fy = floor_of ys in
    let low = int_min fx.0 fy.0 in
    let bx : IsFloor low xs = record { floor = λ v h. let g = (fx.1).floor v h in omega (arith, ints, clamps) } in
    let by : IsFloor low ys = record { floor = λ v h. let g = (fy.1).floor v h in omega (arith, ints, clamps) } in
    let near = bx.floor b hb in
    let far : b.from ≤ℤ (low +ℤ pos (up b.from + down low)) = omega (arith, ints) in
    let e = begins (up b.from + down low) R xs ys b c.band low nx ny bx by hb c.has far c.from c.to c.low c.high in
    let same : c.band ≡ b = sym (same_row R b c.band row (ny.each c.band c.has) (sym e) (sym c.low) (sym c.high)) in
    subst (λ (v : Band). Among ys v) same c.has

pub before_apart : (x y : Band) → IsBefore x y → IsBefore y x → ⊥
before_apart x y (inl a) (inl b) = omega (arith, ints)
before_apart x y (inl a) (inr b) = let e = b.0 in omega (arith, ints)
before_apart x y (inr a) (inl b) = let e = a.0 in omega (arith, ints)
before_apart x y (inr (ea, a)) (inr (eb, b)) = omega (arith, ints)

-- at most one list is normal for a relation
pub normal_unique : (R : ℤ → ℤ → Type 0) (xs ys : List Band) → Normal R xs → Normal R ys → xs ≡ ys
normal_unique R xs ys nx ny = ordered_unique IsBefore before_apart xs ys nx.order ny.order (carried R xs ys nx ny) (carried R ys xs ny nx)
