-- Some of the rows of a relation are a relation.
use Rattle.std.proofs.Common.{◌≡◌, ℕ, ℤ, pos, ◌+ℤ◌, ◌-ℤ◌, List, refl, subst, arith}
use Rattle.std.proofs.lemmas.Int.{ints, by_lt_z}
use Rattle.itpg_base.specs.Lists.{Among, Ordered}
use Rattle.band_normal.specs.Bands.{end_at}
use Rattle.band_normal.specs.Normal.{IsRun, IsRow}
use Rattle.relation_rows.specs.declared.rows.Row.{Row}
use Rattle.relation_rows.specs.Rows.{between, RowBefore, RowsHold, IsRelation}

module _ (rows some : List Row) (is : IsRelation rows) (there : (r : Row) → Among some r → Among rows r) where
  up : (o p : ℕ) (t u : ℤ) → between (RowsHold some) o p t u → between (RowsHold rows) o p t u
  up o p t u h = (h.0, there h.0 h.1, h.2)

  -- the run of the row of some that has the pair
  run_of : (o p : ℕ) (t u : ℤ) → (h : between (RowsHold some) o p t u) → IsRun (between (RowsHold rows) o p) t (end_at (h.0).band.low t) (end_at (h.0).band.high t)
  run_of o p t u h =
      let q = h.0 in
      let i = h.2 in
      let run = ((is.normal).each q (there q h.1)).runs t (i.pair).from (i.pair).to in
      subst (λ (v : ℕ). IsRun (between (RowsHold rows) v p) t (end_at q.band.low t) (end_at q.band.high t)) i.source
      (subst (λ (v : ℕ). IsRun (between (RowsHold rows) q.source.0 v) t (end_at q.band.low t) (end_at q.band.high t)) i.target run)

  -- a neighbour of a pair of some has its row
  down_one : (o p : ℕ) (t u : ℤ) → between (RowsHold some) o p t u → between (RowsHold rows) o p t (u -ℤ pos 1) → between (RowsHold some) o p t (u -ℤ pos 1)
  down_one o p t u h below =
      let q = h.0 in
      let i = h.2 in
      let k = i.pair in
      by_lt_z (end_at q.band.low t) u
      (λ lt. (q, h.1, record { source = i.source; target = i.target; pair = record { from = k.from; to = k.to; low = omega (arith, ints); high = (let l = k.high in omega (arith, ints)) } }))
      (λ ge. let e : u ≡ end_at q.band.low t = (let l = k.low in omega (arith, ints)) in absurd ((run_of o p t u h).below (subst (λ (v : ℤ). between (RowsHold rows) o p t (v -ℤ pos 1)) e below)))

  up_one : (o p : ℕ) (t u : ℤ) → between (RowsHold some) o p t u → between (RowsHold rows) o p t (u +ℤ pos 1) → between (RowsHold some) o p t (u +ℤ pos 1)
  up_one o p t u h above =
      let q = h.0 in
      let i = h.2 in
      let k = i.pair in
      by_lt_z u (end_at q.band.high t)
      (λ lt. (q, h.1, record { source = i.source; target = i.target; pair = record { from = k.from; to = k.to; low = (let l = k.low in omega (arith, ints)); high = omega (arith, ints) } }))
      (λ ge. let e : u ≡ end_at q.band.high t = (let l = k.high in omega (arith, ints)) in absurd ((run_of o p t u h).above (subst (λ (v : ℤ). between (RowsHold rows) o p t (v +ℤ pos 1)) e above)))

  -- a run of what some hold is one of what all hold
  run_up : (o p : ℕ) (t low high : ℤ) → IsRun (between (RowsHold some) o p) t low high → IsRun (between (RowsHold rows) o p) t low high
  run_up o p t low high run = record {
    some = run.some;
    each = λ u a b. up o p t u (run.each u a b);
    below = λ h. run.below (down_one o p t low (run.each low (omega (arith, ints)) run.some) h);
    above = λ h. run.above (up_one o p t high (run.each high run.some (omega (arith, ints))) h);
  }

  some_row : (r : Row) → Among some r → IsRow (between (RowsHold some) r.source.0 r.target.0) r.band
  some_row r a =
      let row = (is.normal).each r (there r a) in
      record {
        span = row.span;
        runs = λ t x y.
            let run = row.runs t x y in
            record {
              some = run.some;
              each = λ u low high. (r, a, record { source = refl; target = refl; pair = record { from = x; to = y; low = low; high = high } });
              below = λ h. run.below (up _ _ _ _ h);
              above = λ h. run.above (up _ _ _ _ h);
            };
        single_low = row.single_low;
        single_high = row.single_high;
        stops = λ low high run x y. row.stops low high (run_up _ _ _ low high run) x y;
      }

  pub some_relation : Ordered RowBefore some → IsRelation some
  some_relation order = record {
    normal = record {
      whole = λ x y h. h;
      once = λ r s x y a b i j. (is.normal).once r s x y (there r a) (there s b) i j;
      each = some_row;
      order = order;
    };
    formed = λ r a. is.formed r (there r a);
  }
