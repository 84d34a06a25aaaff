-- The zones of items, one after the other.
use Rattle.std.proofs.Common.{◌≡◌, ◌↔◌, ◌⊎◌, inl, inr, ⊎_elim, ℕ, zero, suc, ◌+◌, ◌<◌, ◌≤◌, ℤ, List, [], ◌∷◌, ◌++◌, length, map, slice_index_or, take, Some, refl, sym, ◌∙◌, ap, subst}
use Rattle.std.specs.Prelude.{slice_get}
use Rattle.std.proofs.lemmas.List.{take_more, take_all}
use Rattle.zone_core.specs.declared.Bounds.{Bounds}
use Rattle.zone_core.specs.Zone.{Meets}
use Rattle.band_normal.specs.Zones.{SomeMeets}
use Rattle.relation_rows.specs.Relations.{Item}
use Rattle.relation_rows.proofs.Leaving.{meets_more}

abbrev pub zone_of_item : Item → Bounds
zone_of_item i = i.2

-- what a zone of the list has, the list has
at_meets : (zones : List Bounds) (k : ℕ) (z : Bounds) → slice_get zones k ≡ Some z → (t u : ℤ) → Meets z t u → SomeMeets zones t u
at_meets [] zero z e t u m = let none : ⊥ = cc in absurd none
at_meets [] (suc k) z e t u m = let none : ⊥ = cc in absurd none
at_meets (x ∷ xs) zero z e t u m = let same : x ≡ z = cc in inl (subst (λ (v : Bounds). Meets v t u) (sym same) m)
at_meets (x ∷ xs) (suc k) z e t u m = inr (at_meets xs k z e t u m)

-- a zone within one of the list adds nothing
pub within_listed : (zones : List Bounds) (k : ℕ) (last zone : Bounds) → slice_get zones k ≡ Some last → ((t : ℤ) → (u : ℤ) → Meets zone t u → Meets last t u) → (t : ℤ) (u : ℤ) → SomeMeets zones t u ↔ (SomeMeets zones t u ⊎ Meets zone t u)
within_listed zones k last zone e inside t u = (λ h. inl h, λ h. ⊎_elim (λ a. a) (λ a. at_meets zones k last e t u (inside t u a)) h)

pub zone_listed : (zones next : List Bounds) (zone : Bounds) → next ≡ zones ++ zone ∷ [] → (t : ℤ) (u : ℤ) → SomeMeets next t u ↔ (SomeMeets zones t u ⊎ Meets zone t u)
zone_listed zones next zone e t u = subst (λ (v : List Bounds). SomeMeets v t u ↔ (SomeMeets zones t u ⊎ Meets zone t u)) (sym e) (meets_more zones zone t u)

-- the zones have what those of the items have that were read
abbrev pub AreZonesOf : List Item → List Bounds → Type 0
AreZonesOf items zones = (t : ℤ) (u : ℤ) → SomeMeets zones t u ↔ SomeMeets (map zone_of_item items) t u

map_end : (items : List Item) (i : Item) → map zone_of_item (items ++ i ∷ []) ≡ map zone_of_item items ++ zone_of_item i ∷ []
map_end [] i = refl
map_end (j ∷ js) i = ap (λ (v : List Bounds). zone_of_item j ∷ v) (map_end js i)

pub no_zones : (items : List Item) (zones : List Bounds) → zones ≡ [] → AreZonesOf (take 0 items) zones
no_zones items zones e t u = (λ h. absurd (subst (λ (v : List Bounds). SomeMeets v t u) e h), λ h. absurd (none items h))
  where
    none : (is : List Item) → SomeMeets (map zone_of_item (take 0 is)) t u → ⊥
    none [] h = h
    none (i ∷ is) h = h

pub zone_more : (items : List Item) (k : ℕ) (d : Item) → k < length items → (zone : Bounds) → zone ≡ zone_of_item (slice_index_or items k d) → (now next : List Bounds)
    → ((t : ℤ) (u : ℤ) → SomeMeets next t u ↔ (SomeMeets now t u ⊎ Meets zone t u)) → AreZonesOf (take k items) now → AreZonesOf (take (k + 1) items) next
zone_more items k d lt zone read now next pushed so t u =
    let e : map zone_of_item (take (k + 1) items) ≡ map zone_of_item (take k items) ++ zone ∷ [] =
    ap (λ (v : List Item). map zone_of_item v) (take_more items k d lt) ∙ map_end (take k items) (slice_index_or items k d) ∙ ap (λ (v : Bounds). map zone_of_item (take k items) ++ v ∷ []) (sym read) in
    let more = meets_more (map zone_of_item (take k items)) zone t u in
    let into : SomeMeets (map zone_of_item (take k items) ++ zone ∷ []) t u → SomeMeets (map zone_of_item (take (k + 1) items)) t u = λ h. subst (λ (v : List Bounds). SomeMeets v t u) (sym e) h in (
      λ h. ⊎_elim (λ a. into (more.1 (inl ((so t u).0 a)))) (λ a. into (more.1 (inr a))) ((pushed t u).0 h),
      λ h. (pushed t u).1 (⊎_elim (λ a. inl ((so t u).1 a)) (λ a. inr a) (more.0 (subst (λ (v : List Bounds). SomeMeets v t u) e h))),
    )

pub all_zones : (items : List Item) (k : ℕ) (zones : List Bounds) → length items ≤ k → AreZonesOf (take k items) zones → AreZonesOf items zones
all_zones items k zones le = subst (λ (v : List Item). AreZonesOf v zones) (take_all k items le)
