-- A decided relation of finitely many points has a normal list, which is within a limit or above it.
use Rattle.std.proofs.Common.{◌⊎◌, inl, inr, ℕ, ◌<◌, ℤ, Bool, List, length, subst, arith}
use Rattle.std.specs.Prelude.{IsTrue}
use Rattle.itpg_base.specs.Decided.{Decided}
use Rattle.itpg_base.specs.Points.{Point, Relation}
use Rattle.itpg_base.proofs.Searches.{at_most, is_true}
use Rattle.band_normal.specs.declared.band.Band.{Band}
use Rattle.band_normal.specs.Normal.{Normal, LiesWithin}
use Rattle.band_normal.proofs.Existence.{normal_exists}
use Rattle.relation_rows.specs.declared.rows.Row.{Row}
use Rattle.relation_rows.specs.Rows.{between, NormalRows, Fits, IsWide, IsFinite}
use Rattle.relation_rows.proofs.Listed.{to_source, normal_of, rows_unique}

module _ (objects : ℕ) (low high : ℤ) (R : Relation) (decide : (x y : Point) → Decided (R x y)) (finite : IsFinite objects low high R) where
  lies : (o p : ℕ) → LiesWithin low high (between R o p)
  lies o p = record {
    from = λ t u h. (finite.departs _ _ h).above;
    to = λ t u h. (finite.departs _ _ h).below;
    first = λ t u h. (finite.arrives _ _ h).above;
    last = λ t u h. (finite.arrives _ _ h).below;
  }

  at_key : (o p : ℕ) → (bs : List Band) × Normal (between R o p) bs
  at_key o p = normal_exists (between R o p) low high (lies o p) (λ t u. decide (record { object = o; moment = t }) (record { object = p; moment = u }))

  pub rows_exist : (rows : List Row) × NormalRows R rows
  rows_exist =
      let all = to_source R at_key objects objects in
      (all.0, normal_of R _ all.0 all.1 (λ x y h. (finite.source x y h, finite.target x y h)))

  pub rows_either : (limit : ℕ) → Fits R limit ⊎ IsWide R limit
  rows_either limit =
      let e = rows_exist in
      elim (at_most (length e.0) limit) [
        | inl few ↦ inl (e.0, e.1, few)
        | inr many ↦ inr (λ rows n. subst (λ (v : List Row). limit < length v) (rows_unique R e.0 rows e.1 n) (omega (arith, many)))
      ]

  pub rows_there : (limit : ℕ) → IsWide R limit → (rows : List Row) × NormalRows R rows × (limit < length rows)
  rows_there limit w = let e = rows_exist in (e.0, e.1, w e.0 e.1)

pub test_exists : (objects : ℕ) (low high : ℤ) (test : Point → Point → Bool) → IsFinite objects low high (λ x y. IsTrue (test x y)) → (rows : List Row) × NormalRows (λ x y. IsTrue (test x y)) rows
test_exists objects low high test finite = rows_exist objects low high (λ x y. IsTrue (test x y)) (λ x y. is_true (test x y)) finite

pub test_either : (objects : ℕ) (low high : ℤ) (test : Point → Point → Bool) (limit : ℕ) → IsFinite objects low high (λ x y. IsTrue (test x y)) → Fits (λ x y. IsTrue (test x y)) limit ⊎ IsWide (λ x y. IsTrue (test x y)) limit
test_either objects low high test limit finite = rows_either objects low high (λ x y. IsTrue (test x y)) (λ x y. is_true (test x y)) finite limit

pub test_there : (objects : ℕ) (low high : ℤ) (test : Point → Point → Bool) (limit : ℕ) → IsFinite objects low high (λ x y. IsTrue (test x y)) → IsWide (λ x y. IsTrue (test x y)) limit
    → (rows : List Row) × NormalRows (λ x y. IsTrue (test x y)) rows × (limit < length rows)
test_there objects low high test limit finite w = rows_there objects low high (λ x y. IsTrue (test x y)) (λ x y. is_true (test x y)) finite limit w
