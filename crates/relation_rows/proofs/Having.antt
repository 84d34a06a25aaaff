-- Whether some of the rows of one source and one target has a pair.
use Rattle.std.proofs.Common.{◌≡◌, ◌↔◌, ⊎_elim, ℕ, ◌+◌, ◌<◌, ◌≤◌, ℤ, List, [], ◌∷◌, length, take, slice_index_or, sym, subst}
use Rattle.std.proofs.lemmas.List.{take_more, take_all}
use Rattle.itpg_base.specs.Lists.{Among}
use Rattle.band_normal.specs.Bands.{InBand, IsWellFormed}
use Rattle.itpg_base.proofs.Lists.{among_append, among_at}
use Rattle.relation_rows.specs.declared.rows.Row.{Row}
use Rattle.relation_rows.specs.Rows.{HasKey, RowsHold}

pub found : (rows items : List Row) (o p : ℕ) (t u : ℤ) (i : ℕ) (d : Row) → ((r : Row) → Among items r ↔ (Among rows r × HasKey r o p)) → i < length items → InBand (slice_index_or items i d).band t u
    → RowsHold rows (record { object = o; moment = t }) (record { object = p; moment = u })
found rows items o p t u i d all lt h =
    let k = (all (slice_index_or items i d)).0 (among_at items i d lt) in
    (slice_index_or items i d, k.0, record { source = (k.1).0; target = (k.1).1; pair = h })

pub not_yet : (items : List Row) (t u : ℤ) (i : ℕ) (d : Row) → i < length items → ((r : Row) → Among (take i items) r → ¬ InBand r.band t u) → (InBand (slice_index_or items i d).band t u → ⊥)
    → (r : Row) → Among (take (i + 1) items) r → ¬ InBand r.band t u
not_yet items t u i d lt before not r a = ⊎_elim
    (λ b. before r b)
    (λ b. ⊎_elim (λ (e : slice_index_or items i d ≡ r). λ h. not (subst (λ (v : Row). InBand v.band t u) (sym e) h)) (λ j. absurd j) b)
    (among_append (take i items) (slice_index_or items i d ∷ []) r (subst (λ (v : List Row). Among v r) (take_more items i d lt) a))

pub nowhere : (rows items : List Row) (o p : ℕ) (t u : ℤ) (i : ℕ) → ((r : Row) → Among items r ↔ (Among rows r × HasKey r o p)) → length items ≤ i → ((r : Row) → Among (take i items) r → ¬ InBand r.band t u)
    → RowsHold rows (record { object = o; moment = t }) (record { object = p; moment = u }) → ⊥
nowhere rows items o p t u i all le none h =
    let r = h.2 in
    none h.0 (subst (λ (v : List Row). Among v h.0) (sym (take_all i items le)) ((all h.0).1 (h.1, (r.source, r.target)))) r.pair

pub formed_at : (inside rows items : List Row) (o p : ℕ) (i : ℕ) (d : Row) → ((r : Row) → Among items r ↔ (Among rows r × HasKey r o p)) → rows ≡ inside → ((r : Row) → Among inside r → IsWellFormed r.band) → i < length items
    → IsWellFormed (slice_index_or items i d).band
formed_at inside rows items o p i d all e formed lt = formed (slice_index_or items i d) (subst (λ (v : List Row). Among v (slice_index_or items i d)) e ((all (slice_index_or items i d)).0 (among_at items i d lt)).0)
