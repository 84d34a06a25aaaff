-- The pieces of a zone, and that together they are its normal list.
use Rattle.std.proofs.Common.{◌≡◌, List, [], ◌∷◌, ◌⊎◌, ⊎_elim, inl, inr, ℤ, pos, ◌+ℤ◌, ◌-ℤ◌, ◌≤ℤ◌, ◌<ℤ◌, arith, refl, sym, ap, subst, ◌∙◌}
use Rattle.std.proofs.lemmas.Int.{ints, clamps, by_lt_z}
use Rattle.std.specs.Int.{int_max, int_min}
use Rattle.zone_core.specs.declared.Bounds.{Bounds}
use Rattle.zone_core.specs.Zone.{Meets, IsNear, IsTight}
use Rattle.itpg_base.specs.Lists.{Among, Ordered}
use Rattle.band_normal.specs.Bands.{end_at, IsFixed, InBand, IsWellFormed}
use Rattle.band_normal.specs.Normal.{IsRun, IsRow, IsBefore, Normal}
use Rattle.band_normal.specs.Pieces.{IsPiece}
use Rattle.band_normal.specs.declared.band.End.{End}
use Rattle.band_normal.specs.declared.band.End.TheVariants.{Fixed, Moving}
use Rattle.band_normal.specs.declared.band.Band.{Band}
use Rattle.band_normal.proofs.Unique.{same_run}
use Rattle.band_normal.proofs.WellFormed.{near-in_range, row-well_formed}
use Rattle.band_normal.proofs.Extended.{run_as}

-- the run of a tight zone at a departure
pub zone_run : (k : Bounds) → IsTight k → (t : ℤ) → k.a ≤ℤ t → t ≤ℤ k.b → IsRun (Meets k) t (int_max k.c (t +ℤ k.e)) (int_min k.d (t +ℤ k.f))
zone_run k h t a b = record {
  some = omega (arith, ints, clamps);
  each = λ u p q. record { from = a; to = b; low = omega (arith, ints, clamps); high = omega (arith, ints, clamps); least = omega (arith, ints, clamps); most = omega (arith, ints, clamps) };
  below = λ m. omega (arith, ints, clamps);
  above = λ m. omega (arith, ints, clamps);
}

-- what is known of a piece
pub record Facts (k : Bounds) (from to : ℤ) (low high : End) : Type 0 where
  pub first : k.a ≤ℤ from
  pub span : from ≤ℤ to
  pub within : to ≤ℤ k.b
  pub low_turn : from <ℤ (k.c -ℤ k.e) → to ≤ℤ (k.c -ℤ k.e)
  pub high_turn : from <ℤ (k.d -ℤ k.f) → to ≤ℤ (k.d -ℤ k.f)
  pub cause : (to ≡ k.b) ⊎ ((from <ℤ to) × ((to ≡ k.c -ℤ k.e) ⊎ (to ≡ k.d -ℤ k.f)))
  pub low_single : from ≡ to → low ≡ Fixed (int_max k.c (from +ℤ k.e))
  pub low_stays : from <ℤ to → from <ℤ (k.c -ℤ k.e) → low ≡ Fixed k.c
  pub low_moves : from <ℤ to → (k.c -ℤ k.e) ≤ℤ from → low ≡ Moving k.e
  pub high_single : from ≡ to → high ≡ Fixed (int_min k.d (from +ℤ k.f))
  pub high_moves : from <ℤ to → from <ℤ (k.d -ℤ k.f) → high ≡ Moving k.f
  pub high_stays : from <ℤ to → (k.d -ℤ k.f) ≤ℤ from → high ≡ Fixed k.d

at_end : (e e' : End) (t : ℤ) → e ≡ e' → end_at e t ≡ end_at e' t
at_end e e' t q = ap (λ (v : End). end_at v t) q

low_at : (k : Bounds) (from to : ℤ) (low high : End) → Facts k from to low high → (t : ℤ) → from ≤ℤ t → t ≤ℤ to → end_at low t ≡ int_max k.c (t +ℤ k.e)
low_at k from to low high f t a b = by_lt_z from to
    (λ long. by_lt_z from (k.c -ℤ k.e)
    (λ early. let turn = f.low_turn early in at_end low (Fixed k.c) t (f.low_stays long early) ∙ omega (arith, ints, clamps))
    (λ late. at_end low (Moving k.e) t (f.low_moves long late) ∙ omega (arith, ints, clamps)))
    (λ short.
    let one : from ≡ to = let s = f.span in omega (arith, ints) in
    let here : from ≡ t = omega (arith, ints) in
    at_end low (Fixed (int_max k.c (from +ℤ k.e))) t (f.low_single one) ∙ ap (λ (v : ℤ). int_max k.c (v +ℤ k.e)) here)

high_at : (k : Bounds) (from to : ℤ) (low high : End) → Facts k from to low high → (t : ℤ) → from ≤ℤ t → t ≤ℤ to → end_at high t ≡ int_min k.d (t +ℤ k.f)
high_at k from to low high f t a b = by_lt_z from to
    (λ long. by_lt_z from (k.d -ℤ k.f)
    (λ early. let turn = f.high_turn early in at_end high (Moving k.f) t (f.high_moves long early) ∙ omega (arith, ints, clamps))
    (λ late. at_end high (Fixed k.d) t (f.high_stays long late) ∙ omega (arith, ints, clamps)))
    (λ short.
    let one : from ≡ to = let s = f.span in omega (arith, ints) in
    let here : from ≡ t = omega (arith, ints) in
    at_end high (Fixed (int_min k.d (from +ℤ k.f))) t (f.high_single one) ∙ ap (λ (v : ℤ). int_min k.d (v +ℤ k.f)) here)

stops_there : (k : Bounds) (from to : ℤ) (low high : End) → IsTight k → Facts k from to low high → (l h : ℤ) → IsRun (Meets k) (to +ℤ pos 1) l h
    → (from <ℤ to) × (¬ ((end_at low (to +ℤ pos 1) ≡ l) × (end_at high (to +ℤ pos 1) ≡ h)))
stops_there k from to low high tight f l h r =
    let m : Meets k (to +ℤ pos 1) l = r.each l (omega (arith, ints)) r.some in
    let some = r.some in
    let first = f.first in let span = f.span in
    let e = same_run (Meets k) (to +ℤ pos 1) _ _ l h (zone_run k tight (to +ℤ pos 1) (omega (arith, ints)) m.to) r (omega (arith, ints, clamps)) (omega (arith, ints, clamps)) in
    let l_is = e.0 in let h_is = e.1 in
    ⊎_elim (λ (q : to ≡ k.b). absurd (omega (arith, ints)))
    (λ c. (
      c.0,
      λ p.
          let p0 = p.0 in let p1 = p.1 in let long = c.0 in
          ⊎_elim
          (λ (q : to ≡ k.c -ℤ k.e). let g = at_end low (Fixed k.c) (to +ℤ pos 1) (f.low_stays c.0 (omega (arith, ints))) in omega (arith, ints, clamps))
          (λ (q : to ≡ k.d -ℤ k.f). let g = at_end high (Moving k.f) (to +ℤ pos 1) (f.high_moves c.0 (omega (arith, ints))) in omega (arith, ints, clamps))
          c.1,
    ))
    f.cause

pub piece_of : (k : Bounds) (from to : ℤ) (low high : End) → IsTight k → Facts k from to low high → IsPiece k from (record { from = from; to = to; low = low; high = high })
piece_of k from to low high tight f = record {
  row = record {
    span = f.span;
    runs = λ t a b. let first = f.first in let within = f.within in
        run_as (Meets k) t _ _ _ _ (low_at k from to low high f t a b) (high_at k from to low high f t a b) (zone_run k tight t (omega (arith, ints)) (omega (arith, ints)));
    single_low = λ one. subst IsFixed (sym (f.low_single one)) tt;
    single_high = λ one. subst IsFixed (sym (f.high_single one)) tt;
    stops = λ l h r sl sh. stops_there k from to low high tight f l h r;
  };
  starts = refl;
  within = f.within;
  pairs = λ t u a b m.
      let low_is = low_at k from to low high f t a b in
      let high_is = high_at k from to low high f t a b in
      record { from = a; to = b; low = omega (arith, ints, clamps); high = omega (arith, ints, clamps) };
  cause = f.cause;
}

pub cause_of : (from turn bend last r1 r2 : ℤ) → ((r1 ≡ last) ⊎ ((r1 ≡ turn) × (from <ℤ turn) × (turn <ℤ last))) → ((r2 ≡ r1) ⊎ ((r2 ≡ bend) × (from <ℤ bend) × (bend <ℤ r1)))
    → (r2 ≡ last) ⊎ ((from <ℤ r2) × ((r2 ≡ turn) ⊎ (r2 ≡ bend)))
cause_of from turn bend last r1 r2 (inl p) (inl q) = inl (q ∙ p)
cause_of from turn bend last r1 r2 (inr p) (inl q) = let x = p.0 in let y = p.1 in inr (omega (arith, ints), inl (q ∙ p.0))
cause_of from turn bend last r1 r2 p (inr q) = let x = q.0 in let y = q.1 in inr (omega (arith, ints), inr q.0)

-- pieces that follow each other from a departure to the last one
abbrev pub Chain : Bounds → ℤ → List Band → Type 0
Chain k from [] = from ≡ k.b +ℤ pos 1
Chain k from (x ∷ xs) = IsPiece k from x × Chain k (x.to +ℤ pos 1) xs

chain-whole : (k : Bounds) (xs : List Band) (from : ℤ) → Chain k from xs → (t u : ℤ) → from ≤ℤ t → Meets k t u → (b : Band) × Among xs b × InBand b t u
chain-whole k [] from h t u a m = absurd (let x = m.to in omega (arith, ints))
chain-whole k (x ∷ xs) from h t u a m = by_lt_z x.to t
    (λ later. let r = chain-whole k xs (x.to +ℤ pos 1) h.1 t u (omega (arith, ints)) m in (r.0, inr r.1, r.2))
    (λ here. (x, inl refl, (h.0).pairs t u a here m))

chain-later : (k : Bounds) (xs : List Band) (from : ℤ) → Chain k from xs → (b : Band) → Among xs b → from ≤ℤ b.from
chain-later k [] from h b i = absurd i
chain-later k (x ∷ xs) from h b (inl e) = let s = (h.0).starts in let f : x.from ≡ b.from = ap (λ (v : Band). v.from) e in omega (arith, ints)
chain-later k (x ∷ xs) from h b (inr i) = let r = chain-later k xs (x.to +ℤ pos 1) h.1 b i in let s = (h.0).starts in let l = (h.0).row.span in omega (arith, ints)

chain-each : (k : Bounds) (xs : List Band) (from : ℤ) → Chain k from xs → (b : Band) → Among xs b → IsRow (Meets k) b
chain-each k [] from h b i = absurd i
chain-each k (x ∷ xs) from h b (inl e) = subst (λ (v : Band). IsRow (Meets k) v) e (h.0).row
chain-each k (x ∷ xs) from h b (inr i) = chain-each k xs (x.to +ℤ pos 1) h.1 b i

chain-apart : (k : Bounds) (x : Band) (xs : List Band) → Chain k (x.to +ℤ pos 1) xs → (b c : Band) (t u : ℤ) → x ≡ b → Among xs c → InBand b t u → InBand c t u → ⊥
chain-apart k x xs h b c t u e i p q =
    let l = chain-later k xs (x.to +ℤ pos 1) h c i in
    let f : x.to ≡ b.to = ap (λ (v : Band). v.to) e in
    let a = p.to in let d = q.from in omega (arith, ints)

chain-once : (k : Bounds) (xs : List Band) (from : ℤ) → Chain k from xs → (b c : Band) (t u : ℤ) → Among xs b → Among xs c → InBand b t u → InBand c t u → b ≡ c
chain-once k [] from h b c t u i j p q = absurd i
chain-once k (x ∷ xs) from h b c t u (inl e) (inl g) p q = sym e ∙ g
chain-once k (x ∷ xs) from h b c t u (inl e) (inr j) p q = absurd (chain-apart k x xs h.1 b c t u e j p q)
chain-once k (x ∷ xs) from h b c t u (inr i) (inl g) p q = absurd (chain-apart k x xs h.1 c b t u g i q p)
chain-once k (x ∷ xs) from h b c t u (inr i) (inr j) p q = chain-once k xs (x.to +ℤ pos 1) h.1 b c t u i j p q

chain-order : (k : Bounds) (xs : List Band) (from : ℤ) → Chain k from xs → Ordered IsBefore xs
chain-order k [] from h = tt
chain-order k (x ∷ xs) from h = (
  λ y i. let l = chain-later k xs (x.to +ℤ pos 1) h.1 y i in let s = (h.0).row.span in inl (omega (arith, ints)),
  chain-order k xs (x.to +ℤ pos 1) h.1,
)

pub chain-normal : (k : Bounds) (xs : List Band) → Chain k k.a xs → Normal (Meets k) xs
chain-normal k xs h = record {
  whole = λ t u m. chain-whole k xs k.a h t u m.from m;
  once = λ b c t u. chain-once k xs k.a h b c t u;
  each = chain-each k xs k.a h;
  order = chain-order k xs k.a h;
}

-- the third piece is the last
pub third_last : (k : Bounds) (from : ℤ) (x y z : Band) → IsPiece k from x → IsPiece k (x.to +ℤ pos 1) y → IsPiece k (y.to +ℤ pos 1) z → (¬ (x.to ≡ k.b)) → (¬ (y.to ≡ k.b)) → z.to ≡ k.b
third_last k from x y z p q r nx ny =
    let sy = q.starts in let ly = q.row.span in let sz = r.starts in let lz = r.row.span in
    ⊎_elim (λ (e : x.to ≡ k.b). absurd (nx e)) (λ cx.
    ⊎_elim (λ (e : y.to ≡ k.b). absurd (ny e)) (λ cy.
    ⊎_elim (λ (e : z.to ≡ k.b). e) (λ cz.
    ⊎_elim (λ (a : x.to ≡ k.c -ℤ k.e). ⊎_elim (λ (b : y.to ≡ k.c -ℤ k.e). omega (arith, ints)) (λ (b : y.to ≡ k.d -ℤ k.f). ⊎_elim (λ (d : z.to ≡ k.c -ℤ k.e). omega (arith, ints)) (λ (d : z.to ≡ k.d -ℤ k.f). omega (arith, ints)) cz.1) cy.1)
    (λ (a : x.to ≡ k.d -ℤ k.f). ⊎_elim (λ (b : y.to ≡ k.c -ℤ k.e). ⊎_elim (λ (d : z.to ≡ k.c -ℤ k.e). omega (arith, ints)) (λ (d : z.to ≡ k.d -ℤ k.f). omega (arith, ints)) cz.1) (λ (b : y.to ≡ k.d -ℤ k.f). omega (arith, ints)) cy.1)
    cx.1)
    r.cause) q.cause) p.cause

-- where a piece begins and ends
pub piece-span : (k : Bounds) (from : ℤ) (b : Band) → IsPiece k from b → (from ≤ℤ b.to) × (b.to ≤ℤ k.b)
piece-span k from b p = let s = p.starts in let l = p.row.span in (omega (arith, ints), p.within)

-- what `bands_of` promises of its list
pub record Lists (z : Bounds) (xs : List Band) : Type 0 where
  pub normal : Normal (Meets z) xs
  pub well_formed : (b : Band) → Among xs b → IsWellFormed b

-- pieces from the first departure to the last
chain-lists : (k z : Bounds) (xs : List Band) → k ≡ z → IsNear k → Chain k k.a xs → Lists z xs
chain-lists k z xs same near h = subst (λ (v : Bounds). Lists v xs) same (record {
  normal = chain-normal k xs h;
  well_formed = λ b i. row-well_formed (Meets k) b (near-in_range k near) (chain-each k xs k.a h b i);
})

pub one_piece : (k z : Bounds) (x : Band) → k ≡ z → IsNear k → IsPiece k k.a x → x.to ≡ k.b → Lists z (x ∷ [])
one_piece k z x same near p last = chain-lists k z (x ∷ []) same near (p, ap (λ (v : ℤ). v +ℤ pos 1) last)

pub two_pieces : (k z : Bounds) (x y : Band) → k ≡ z → IsNear k → IsPiece k k.a x → IsPiece k (x.to +ℤ pos 1) y → y.to ≡ k.b → Lists z (x ∷ y ∷ [])
two_pieces k z x y same near p q last = chain-lists k z (x ∷ y ∷ []) same near (p, (q, ap (λ (v : ℤ). v +ℤ pos 1) last))

pub three_pieces : (k z : Bounds) (w x y : Band) → k ≡ z → IsNear k → IsPiece k k.a w → IsPiece k (w.to +ℤ pos 1) x → IsPiece k (x.to +ℤ pos 1) y → w.to <ℤ k.b → x.to <ℤ k.b → Lists z (w ∷ x ∷ y ∷ [])
three_pieces k z w x y same near p q r nw nx =
    let last : y.to ≡ k.b = third_last k k.a w x y p q r (λ e. omega (arith, ints)) (λ e. omega (arith, ints)) in
    chain-lists k z (w ∷ x ∷ y ∷ []) same near (p, (q, (r, ap (λ (v : ℤ). v +ℤ pos 1) last)))
