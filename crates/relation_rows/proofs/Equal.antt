-- Whether two rows are equal.
use Rattle.std.proofs.Common.{◌≡◌, ℕ, ℤ, Bool, true, false, ◌&&◌, refl, sym, ap, true≢false}
use Rattle.std.specs.Bool.{Decides}
use Rattle.std.proofs.lemmas.Bool.Decides.{Decides-int_eq, Decides-eqb}
use Rattle.band_normal.specs.declared.band.End.{End}
use Rattle.band_normal.specs.declared.band.End.TheVariants.{Fixed, Moving}
use Rattle.band_normal.specs.contracts.band.EndPartialEq.TheImpl as ends
use Rattle.relation_rows.specs.declared.rows.Row.{Row}
use Rattle.relation_rows.specs.contracts.rows.RowPartialEq.TheImpl as rows
use Rattle.relation_rows.specs.declared.times.OneRow.{OneRow}
use Rattle.relation_rows.specs.contracts.times.OneRowPartialEq.TheImpl as ones

pub both_decide : {P Q : Type 0} (a b : Bool) → Decides a P → Decides b Q → Decides (a && b) (P × Q)
both_decide true b d e = (λ h. (d.0 refl, e.0 h), λ h. e.1 h.1)
both_decide false b d e = (λ h. absurd (true≢false (sym h)), λ h. d.1 h.0)

end_decides : (e f : End) → Decides ((ends.ghosts).eq e f) (e ≡ f)
end_decides (Fixed n) (Fixed m) = let d = Decides-int_eq n m in (λ h. ap Fixed (d.0 h), λ h. d.1 (cc))
end_decides (Fixed n) (Moving m) = (λ h. absurd (true≢false (sym h)), λ h. let none : ⊥ = cc in absurd none)
end_decides (Moving n) (Fixed m) = (λ h. absurd (true≢false (sym h)), λ h. let none : ⊥ = cc in absurd none)
end_decides (Moving n) (Moving m) = let d = Decides-int_eq n m in (λ h. ap Moving (d.0 h), λ h. d.1 (cc))

same_row : {o q p r : ℕ} {f g t u : ℤ} {l m h k : End} → o ≡ q → p ≡ r → f ≡ g → t ≡ u → l ≡ m → h ≡ k
    → let x : Row = record { source = record { 0 = o }; target = record { 0 = p }; band = record { from = f; to = t; low = l; high = h } } in
    x ≡ record { source = record { 0 = q }; target = record { 0 = r }; band = record { from = g; to = u; low = m; high = k } }
same_row a b c d e f = cc

pub row_decides : (r s : Row) → Decides ((rows.ghosts).eq r s) (r ≡ s)
row_decides r s =
    let ends = both_decide _ _ (end_decides r.band.low s.band.low) (end_decides r.band.high s.band.high) in
    let moments = both_decide _ _ (Decides-int_eq r.band.from s.band.from) (both_decide _ _ (Decides-int_eq r.band.to s.band.to) ends) in
    let d = both_decide _ _ (Decides-eqb r.source.0 s.source.0) (both_decide _ _ (Decides-eqb r.target.0 s.target.0) moments) in (
      λ h. let e = d.0 h in same_row e.0 (e.1).0 (e.1).1.0 (e.1).1.1.0 (e.1).1.1.1.0 (e.1).1.1.1.1,
      λ e. d.1 (
        ap (λ (v : Row). v.source.0) e,
        (ap (λ (v : Row). v.target.0) e, (ap (λ (v : Row). v.band.from) e, (ap (λ (v : Row). v.band.to) e, (ap (λ (v : Row). v.band.low) e, ap (λ (v : Row). v.band.high) e)))),
      ),
    )

same_one : {o p : ℕ} {f g t u : ℤ} → o ≡ p → f ≡ g → t ≡ u
    → let x : OneRow = record { object = record { 0 = o }; span = record { from = f; to = t } } in x ≡ record { object = record { 0 = p }; span = record { from = g; to = u } }
same_one a b c = cc

pub one_decides : (r s : OneRow) → Decides ((ones.ghosts).eq r s) (r ≡ s)
one_decides r s =
    let d = both_decide _ _ (Decides-eqb r.object.0 s.object.0) (both_decide _ _ (Decides-int_eq r.span.from s.span.from) (Decides-int_eq r.span.to s.span.to)) in (
      λ h. let e = d.0 h in same_one e.0 (e.1).0 (e.1).1,
      λ e. d.1 (ap (λ (v : OneRow). v.object.0) e, (ap (λ (v : OneRow). v.span.from) e, ap (λ (v : OneRow). v.span.to) e)),
    )
