-- Zones cut at a departure: the rows before it and those after it are strips of all.
use Rattle.std.proofs.Common.{◌≡◌, ◌⊎◌, ◌↔◌, inl, inr, ⊎_elim, ℕ, ◌+◌, ◌<◌, ℤ, pos, ◌+ℤ◌, ◌-ℤ◌, List, [], ◌∷◌, ◌++◌, length, get_or, take, Option, None, Some, refl, sym, ◌∙◌, subst, arith}
use Rattle.std.specs.Option.{option_to_list}
use Rattle.std.proofs.lemmas.Int.{ints, by_lt_z}
use Rattle.std.proofs.lemmas.List.{take_more}
use Rattle.zone_core.specs.declared.Bounds.{Bounds}
use Rattle.zone_core.specs.Zone.{Meets, Holds as ZoneHolds}
use Rattle.band_normal.specs.declared.band.Band.{Band}
use Rattle.itpg_base.specs.Lists.{Among}
use Rattle.band_normal.specs.Bands.{end_at, IsWellFormed}
use Rattle.band_normal.specs.Normal.{IsRow, IsStrip}
use Rattle.band_normal.specs.Zones.{SomeMeets}
use Rattle.band_normal.specs.Strips.{Holds}
use Rattle.band_normal.specs.Rows.{AreApart, AreAll}
use Rattle.band_normal.specs.Parts.{AreRowsOf, AddsRows}
use Rattle.band_normal.specs.Links.{AreStrips}
use Rattle.band_normal.specs.Cuts.{MeetsUpTo, MeetsAfter, AreCut}
use Rattle.itpg_base.proofs.Lists.{among_append, append_ordered}
use Rattle.band_normal.proofs.WellFormed.{row-well_formed, held-in_range}
use Rattle.band_normal.proofs.Zoning.{some-append, holds-append, more_formed}
use Rattle.band_normal.proofs.Far.{all_like, all-holds}
use Rattle.band_normal.proofs.Sorting.{run_like}

-- one zone more of those that are cut, for any test of the departure
pub cut_more : (Test : ℤ → Type 0) (zones : List Bounds) (i : ℕ) (z d : Bounds) (place : Option Bounds) (front front' : List Bounds) → i < length zones → z ≡ get_or zones i d → front' ≡ front ++ option_to_list place
    → ((t u : ℤ) → ZoneHolds place t u ↔ (Meets z t u × Test t)) → ((t u : ℤ) → SomeMeets front t u ↔ (SomeMeets (take i zones) t u × Test t))
    → (t u : ℤ) → SomeMeets front' t u ↔ (SomeMeets (take (i + 1) zones) t u × Test t)
cut_more Test zones i z d place front front' lt is e one f t u =
    let P : List Bounds → Type 0 = λ v. SomeMeets v t u ↔ (SomeMeets (take (i + 1) zones) t u × Test t) in
    let Q : List Bounds → Type 0 = λ v. SomeMeets (front ++ option_to_list place) t u ↔ (SomeMeets v t u × Test t) in
    let S : Bounds → Type 0 = λ v. SomeMeets (front ++ option_to_list place) t u ↔ (SomeMeets (take i zones ++ v ∷ []) t u × Test t) in
    let a = some-append front (option_to_list place) t u in
    let b = some-append (take i zones) (z ∷ []) t u in
    let m = one t u in
    let h = f t u in
    let p = place_meets place in
    subst P (sym e) (subst Q (sym (take_more zones i d lt)) (subst S is (
      λ k. ⊎_elim (λ x. let w = h.0 x in (b.1 (inl w.0), w.1)) (λ x. let w = m.0 (p.0 x) in (b.1 (inr (inl w.0)), w.1)) (a.0 k),
      λ k. a.1 (⊎_elim (λ x. inl (h.1 (x, k.1))) (λ x. inr (p.1 (m.1 (⊎_elim (λ y. y) absurd x, k.1)))) (b.0 k.0)),
    )))
  where
    place_meets : (o : Option Bounds) → SomeMeets (option_to_list o) t u ↔ ZoneHolds o t u
    place_meets None = (λ h. h, λ h. h)
    place_meets (Some x) = (λ h. ⊎_elim (λ y. y) absurd h, λ h. inl h)

-- the rows up to a departure and those after it are strips of all
pub cut_strips : (zones front back : List Bounds) (limit : ℤ) (xs ys : List Band) → ((t u : ℤ) → SomeMeets front t u ↔ MeetsUpTo zones limit t u) → ((t u : ℤ) → SomeMeets back t u ↔ MeetsAfter zones limit t u)
    → AreRowsOf front xs → AreRowsOf back ys → AreStrips (SomeMeets zones) (xs ++ ys)
cut_strips zones front back limit xs ys f g a b = record {
  each = λ z i. ⊎_elim (λ j. front_strip z (a.all.each z j)) (λ j. back_strip z (b.all.each z j)) (among_append xs ys z i);
  whole = λ t u h. by_lt_z limit t
      (λ lt. (holds-append xs ys t u).1 (inr (b.all.whole t u ((g t u).1 (h, lt)))))
      (λ le. (holds-append xs ys t u).1 (inl (a.all.whole t u ((f t u).1 (h, le)))));
  apart = append_ordered AreApart xs ys a.all.apart b.all.apart
      (λ x y i j t u p q. let c = ((f t u).0 (((a.all.each x i).runs t p.from p.to).each u p.low p.high)).1 in let d = ((g t u).0 (((b.all.each y j).runs t q.from q.to).each u q.low q.high)).1 in omega (arith, ints));
}
  where
    front_strip : (z : Band) → IsRow (SomeMeets front) z → IsStrip (SomeMeets zones) z
    front_strip z w = record {
      span = w.span;
      runs = λ t p q.
          let r = w.runs t p q in
          let some = r.some in
          let in_front = ((f t (end_at z.low t)).0 (r.each (end_at z.low t) (omega (arith, ints)) some)).1 in
          record {
            some = r.some;
            each = λ u c d. ((f t u).0 (r.each u c d)).0;
            below = λ k. r.below ((f t (end_at z.low t -ℤ pos 1)).1 (k, in_front));
            above = λ k. r.above ((f t (end_at z.high t +ℤ pos 1)).1 (k, in_front));
          };
    }

    back_strip : (z : Band) → IsRow (SomeMeets back) z → IsStrip (SomeMeets zones) z
    back_strip z w = record {
      span = w.span;
      runs = λ t p q.
          let r = w.runs t p q in
          let some = r.some in
          let in_back = ((g t (end_at z.low t)).0 (r.each (end_at z.low t) (omega (arith, ints)) some)).1 in
          record {
            some = r.some;
            each = λ u c d. ((g t u).0 (r.each u c d)).0;
            below = λ k. r.below ((g t (end_at z.low t -ℤ pos 1)).1 (k, in_back));
            above = λ k. r.above ((g t (end_at z.high t +ℤ pos 1)).1 (k, in_back));
          };
    }

pub strips-hold : (R : ℤ → ℤ → Type 0) (strips : List Band) → AreStrips R strips → (t u : ℤ) → Holds strips t u ↔ R t u
strips-hold R strips a t u = (λ h. ((a.each h.0 h.1).runs t h.2.from h.2.to).each u h.2.low h.2.high, a.whole t u)

-- strips of a relation are strips of what they hold
pub strips_own : (R : ℤ → ℤ → Type 0) (strips : List Band) → AreStrips R strips → AreStrips (Holds strips) strips
strips_own R strips a = record {
  each = λ b i. let s = a.each b i in record { span = s.span; runs = λ t p q. run_like R (Holds strips) (λ v u. let f = strips-hold R strips a v u in (f.1, f.0)) t _ _ (s.runs t p q) };
  whole = λ t u h. h;
  apart = a.apart;
}

-- the rows of what the strips hold are those of the zones
pub linked_rows : (zones : List Bounds) (strips rows : List Band) → AreStrips (SomeMeets zones) strips → ((b : Band) → Among strips b → IsWellFormed b) → AreAll (Holds strips) rows → AreRowsOf zones rows
linked_rows zones strips rows a well h = record {
  all = all_like (Holds strips) (SomeMeets zones) rows (strips-hold (SomeMeets zones) strips a) h;
  well_formed = λ b i. row-well_formed (Holds strips) b (held-in_range strips well) (h.each b i);
}

-- one zone more of the two lists
pub spanning_more : (zones : List Bounds) (i : ℕ) (z d : Bounds) (p q whole others whole' others' : List Bounds) → i < length zones → z ≡ get_or zones i d → p ++ q ≡ z ∷ [] → whole' ≡ whole ++ p → others' ≡ others ++ q
    → ((t u : ℤ) → (SomeMeets whole t u ⊎ SomeMeets others t u) ↔ SomeMeets (take i zones) t u)
    → (t u : ℤ) → (SomeMeets whole' t u ⊎ SomeMeets others' t u) ↔ SomeMeets (take (i + 1) zones) t u
spanning_more zones i z d p q whole others whole' others' lt is one e1 e2 f t u =
    let P : List Bounds → Type 0 = λ v. (SomeMeets v t u ⊎ SomeMeets others' t u) ↔ SomeMeets (take (i + 1) zones) t u in
    let Q : List Bounds → Type 0 = λ v. (SomeMeets (whole ++ p) t u ⊎ SomeMeets v t u) ↔ SomeMeets (take (i + 1) zones) t u in
    let S : List Bounds → Type 0 = λ v. (SomeMeets (whole ++ p) t u ⊎ SomeMeets (others ++ q) t u) ↔ SomeMeets v t u in
    let T : List Bounds → Type 0 = λ v. (SomeMeets (whole ++ p) t u ⊎ SomeMeets (others ++ q) t u) ↔ SomeMeets (take i zones ++ v) t u in
    let a = some-append whole p t u in
    let b = some-append others q t u in
    let c = some-append (take i zones) (p ++ q) t u in
    let k = some-append p q t u in
    let h = f t u in
    let all : p ++ q ≡ get_or zones i d ∷ [] = one ∙ subst (λ (v : Bounds). z ∷ [] ≡ v ∷ []) is refl in
    subst P (sym e1) (subst Q (sym e2) (subst S (sym (take_more zones i d lt)) (subst T all (
      λ m. c.1 (⊎_elim (λ x. ⊎_elim (λ y. inl (h.0 (inl y))) (λ y. inr (k.1 (inl y))) (a.0 x)) (λ x. ⊎_elim (λ y. inl (h.0 (inr y))) (λ y. inr (k.1 (inr y))) (b.0 x)) m),
      λ m. ⊎_elim (λ x. ⊎_elim (λ y. inl (a.1 (inl y))) (λ y. inr (b.1 (inl y))) (h.1 x)) (λ x. ⊎_elim (λ y. inl (a.1 (inr y))) (λ y. inr (b.1 (inr y))) (k.0 x)) (c.0 m),
    ))))

pub melted_hold : (zones whole whole' others fewer fewer' all : List Bounds) (rows rows' : List Band) → ((t u : ℤ) → (SomeMeets whole t u ⊎ SomeMeets others t u) ↔ SomeMeets zones t u) → whole' ≡ whole → AreRowsOf whole' rows → rows' ≡ rows
    → ((t u : ℤ) → SomeMeets fewer t u ↔ Holds rows' t u) → fewer' ≡ fewer → all ≡ others ++ fewer' → (t u : ℤ) → SomeMeets all t u ↔ SomeMeets zones t u
melted_hold zones whole whole' others fewer fewer' all rows rows' f e1 a e2 g e3 e4 t u =
    let h = f t u in
    let own : Holds rows t u ↔ SomeMeets whole t u = all-holds (SomeMeets whole) rows (subst (λ (v : List Bounds). AreRowsOf v rows) e1 a).all t u in
    let k : SomeMeets fewer t u ↔ Holds rows t u = subst (λ (v : List Band). SomeMeets fewer t u ↔ Holds v t u) e2 (g t u) in
    let b = some-append others fewer t u in
    subst (λ (v : List Bounds). SomeMeets v t u ↔ SomeMeets zones t u) (sym (e4 ∙ subst (λ (v : List Bounds). others ++ fewer' ≡ others ++ v) e3 refl)) (
      λ x. h.0 (⊎_elim (λ y. inr y) (λ y. inl (own.0 (k.0 y))) (b.0 x)),
      λ x. b.1 (⊎_elim (λ y. inr (k.1 (own.1 y))) (λ y. inl y) (h.1 x)),
    )

-- two zone lists made fewer, one after the other, and then cut
pub cut_is : (zones once once' fewer fewer' front back : List Bounds) (limit : ℤ) → once' ≡ once → ((t u : ℤ) → SomeMeets once t u ↔ SomeMeets zones t u) → ((t u : ℤ) → SomeMeets fewer t u ↔ SomeMeets once' t u) → fewer' ≡ fewer
    → ((t u : ℤ) → SomeMeets front t u ↔ MeetsUpTo fewer' limit t u) → ((t u : ℤ) → SomeMeets back t u ↔ MeetsAfter fewer' limit t u) → AreCut zones front back
cut_is zones once once' fewer fewer' front back limit d f0 f1 e g h = record {
  limit = limit;
  up_to = λ t u. let a = same t u in let b = g t u in (λ k. let w = b.0 k in (a.0 w.0, w.1), λ k. b.1 (a.1 k.0, k.1));
  after = λ t u. let a = same t u in let b = h t u in (λ k. let w = b.0 k in (a.0 w.0, w.1), λ k. b.1 (a.1 k.0, k.1));
}
  where
    same : (t u : ℤ) → SomeMeets fewer' t u ↔ SomeMeets zones t u
    same t u =
        let a : SomeMeets fewer' t u ↔ SomeMeets once' t u = subst (λ (v : List Bounds). SomeMeets v t u ↔ SomeMeets once' t u) (sym e) (f1 t u) in
        let b : SomeMeets once' t u ↔ SomeMeets zones t u = subst (λ (v : List Bounds). SomeMeets v t u ↔ SomeMeets zones t u) (sym d) (f0 t u) in
        (λ k. b.0 (a.0 k), λ k. a.1 (b.1 k))

-- the strips of both parts
pub both_strips : (zones front back : List Bounds) (xs ys strips : List Band) → AreCut zones front back → AreRowsOf front xs → AreRowsOf back ys → strips ≡ xs ++ ys → AreStrips (SomeMeets zones) strips
both_strips zones front back xs ys strips c a b e = subst (λ (v : List Band). AreStrips (SomeMeets zones) v) (sym e) (cut_strips zones front back c.limit xs ys c.up_to c.after a b)

pub both_well : (zones front back : List Bounds) (xs ys strips : List Band) → AreRowsOf front xs → AreRowsOf back ys → strips ≡ xs ++ ys → (b : Band) → Among strips b → IsWellFormed b
both_well zones front back xs ys strips a b e = more_formed xs ys strips e a.well_formed b.well_formed

pub linked_adds : (zones : List Bounds) (strips rows old new : List Band) → AreStrips (SomeMeets zones) strips → ((b : Band) → Among strips b → IsWellFormed b) → AreAll (Holds strips) rows → new ≡ old ++ rows → AddsRows old zones new
linked_adds zones strips rows old new a well h e = record { more = rows; is = e; rows = linked_rows zones strips rows a well h }
