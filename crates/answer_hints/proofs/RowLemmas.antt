-- What the number of a path's rows says of it.
use Rattle.std.proofs.Common.{◌≡◌, ℕ, zero, suc, ◌<◌, List, [], ◌∷◌, length, Option, Some, None, inl, refl, arith}
use Rattle.std.specs.Prelude.{◌↔◌, IsSome, IsSomeAnd}
use Rattle.std.specs.Int.Signed.{≤ℤ_refl}
use Rattle.itpg_base.specs.Graphs.{Graph, Good}
use Rattle.itpg_base.specs.Points.{Point, Relation}
use Rattle.relation_rows.specs.declared.rows.Row.{Row}
use Rattle.relation_rows.specs.Rows.{NormalRows}
use Rattle.relation_rows.proofs.Alike.{rows_alike}
use Rattle.band_normal.specs.Bands.{end_at}
use Rattle.path_ast.specs.Terms.{PathTerm}
use Rattle.path_ast.specs.Meaning.{Rel}
use Rattle.label_scope.specs.declared.scope.Scope.TheVariants.{All}
use Rattle.label_scope.specs.Narrowing.{Cut}
use Rattle.label_scope.specs.Members.{worked}
use Rattle.label_scope.proofs.Within.{cut_all}
use Rattle.plan_cache.specs.Nodes.{PlanNode, narrowed_member}
use Rattle.plan_cache.specs.RightRows.{IsRight}
use Rattle.path_eval.specs.Evaluated.{NeedsWide}
use Rattle.path_eval.proofs.Asked.{right_rows, wide_path}
use Rattle.path_eval.proofs.Finite.{fit_apart}
use Rattle.answer_hints.specs.RuledOut.{LeadsOn, FitsWithin, IsTooWide, HasManyRows, IsRowNumber, HasRowsWithin}

-- a relation with no rows has no pair
no_pair : (R : Relation) (rows : List Row) → NormalRows R rows → length rows ≡ 0 → (x y : Point) → R x y → ⊥
no_pair R [] normal e x y h = absurd (normal.whole x y h).1
no_pair R (r ∷ rows) normal e x y h = let none : ⊥ = omega (arith, e) in none

-- one with rows has some
some_pair : (R : Relation) (rows : List Row) → NormalRows R rows → 0 < length rows → (x y : Point) × R x y
some_pair R [] normal l = absurd (let none : ⊥ = omega (arith, l) in none)
some_pair R (r ∷ rows) normal l =
    let row = normal.each r (inl refl) in
    let run = row.runs r.band.from (≤ℤ_refl r.band.from) row.span in
    (record { object = r.source.0; moment = r.band.from }, record { object = r.target.0; moment = end_at r.band.low r.band.from }, run.each (end_at r.band.low r.band.from) (≤ℤ_refl (end_at r.band.low r.band.from)) run.some)

module _ (g : Graph) (limit : ℕ) (p : PathTerm) where
  -- right rows of the node of the path are its rows
  pub answer_rows : Good g → (o : Option PlanNode) → IsSomeAnd o (λ n. n.member ≡ narrowed_member p All All) → (rows : List Row)
      → IsSomeAnd o (λ n. IsRight g limit n.member rows) → HasRowsWithin g limit p rows
  answer_rows good o is rows h =
      let right = right_rows g limit p All All good o is rows h in
      record {
        normal = rows_alike (Cut g p All All) (Rel p g) (λ x y c. c.leads) (λ x y r. cut_all p g x y r) rows right.0;
        fits = right.1;
      }

  -- and as many as it has
  pub many_rows : (rows : List Row) → HasRowsWithin g limit p rows → HasManyRows g limit p (length rows)
  many_rows rows h = record { rows = rows; normal = h.normal; many = refl; fits = h.fits }

  pub told_wide : (o : Option PlanNode) → IsSomeAnd o (λ n. n.member ≡ narrowed_member p All All) → IsSomeAnd o (λ n. NeedsWide g limit n.member) → IsTooWide g limit p
  told_wide o is h = wide_path g limit p All All o is h

  told_fits : (rows : Option ℕ) → IsRowNumber g limit p rows → IsSome rows → FitsWithin g limit p
  told_fits None h s = absurd (let none : ⊥ = cc in none)
  told_fits (Some n) h s = h.fits

  fits_told : (rows : Option ℕ) → IsRowNumber g limit p rows → FitsWithin g limit p → IsSome rows
  fits_told None h fits = absurd (fit_apart g limit (worked p All All) fits h)
  fits_told (Some n) h fits = refl

  -- a number is told exactly if the path fits
  pub told_or_not : (rows : Option ℕ) → IsRowNumber g limit p rows → IsSome rows ↔ FitsWithin g limit p
  told_or_not rows h = (told_fits rows h, fits_told rows h)

  pub leads_nowhere : (rows : Option ℕ) → IsRowNumber g limit p rows → rows ≡ Some 0 → LeadsOn g p → ⊥
  leads_nowhere None h e l = let none : ⊥ = cc in none
  leads_nowhere (Some n) h e l = let same : n ≡ 0 = cc in let many = h.many in no_pair (Rel p g) h.rows h.normal (omega (arith, same, many)) l.0 l.1 l.2

  pub leads_on : (rows : Option ℕ) → IsRowNumber g limit p rows → IsSomeAnd rows (λ n. 0 < n) → LeadsOn g p
  leads_on None h l = absurd l
  leads_on (Some n) h l = let many = h.many in some_pair (Rel p g) h.rows h.normal (omega (arith, many, l))

  pub none_told : (rows : Option ℕ) → IsRowNumber g limit p rows → FitsWithin g limit p → (LeadsOn g p → ⊥) → rows ≡ Some 0
  none_told None h fits nowhere = absurd (fit_apart g limit (worked p All All) fits h)
  none_told (Some zero) h fits nowhere = refl
  none_told (Some (suc n)) h fits nowhere = let many = h.many in absurd (nowhere (some_pair (Rel p g) h.rows h.normal (omega (arith, many))))

  pub some_told : (rows : Option ℕ) → IsRowNumber g limit p rows → FitsWithin g limit p → LeadsOn g p → IsSomeAnd rows (λ n. 0 < n)
  some_told None h fits l = absurd (fit_apart g limit (worked p All All) fits h)
  some_told (Some zero) h fits l = let many = h.many in absurd (no_pair (Rel p g) h.rows h.normal (omega (arith, many)) l.0 l.1 l.2)
  some_told (Some (suc n)) h fits l = omega arith
