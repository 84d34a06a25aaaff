-- Whether two zones are equal.
use Rattle.std.proofs.Common.{◌≡◌, ℤ, ap}
use Rattle.std.specs.Bool.{Decides}
use Rattle.std.proofs.lemmas.Bool.Decides.{Decides-int_eq}
use Rattle.zone_core.specs.declared.Bounds.{Bounds}
use Rattle.zone_core.specs.contracts.ZonePartialEq.TheImpl as zones
use Rattle.relation_rows.proofs.Equal.{both_decide}

same_bounds : {a b c d e f g h i j k l : ℤ} → a ≡ g → b ≡ h → c ≡ i → d ≡ j → e ≡ k → f ≡ l
    → let x : Bounds = record { a = a; b = b; c = c; d = d; e = e; f = f } in x ≡ record { a = g; b = h; c = i; d = j; e = k; f = l }
same_bounds p q r s t u = cc

pub zone_decides : (z w : Bounds) → Decides ((zones.eq-value).it z w) (z ≡ w)
zone_decides z w =
    let last = both_decide _ _ (Decides-int_eq z.e w.e) (Decides-int_eq z.f w.f) in
    let arrivals = both_decide _ _ (Decides-int_eq z.c w.c) (both_decide _ _ (Decides-int_eq z.d w.d) last) in
    let d = both_decide _ _ (Decides-int_eq z.a w.a) (both_decide _ _ (Decides-int_eq z.b w.b) arrivals) in (
      λ h. let e = d.0 h in same_bounds e.0 (e.1).0 (e.1).1.0 (e.1).1.1.0 (e.1).1.1.1.0 (e.1).1.1.1.1,
      λ e. d.1 (
        ap (λ (v : Bounds). v.a) e,
        (ap (λ (v : Bounds). v.b) e, (ap (λ (v : Bounds). v.c) e, (ap (λ (v : Bounds). v.d) e, (ap (λ (v : Bounds). v.e) e, ap (λ (v : Bounds). v.f) e)))),
      ),
    )
