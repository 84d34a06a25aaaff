-- Zones, rows and items without the pairs of others.
use Rattle.std.proofs.Common.{◌≡◌, ◌↔◌, ◌⊎◌, inl, inr, ⊎_elim, ℕ, ◌+◌, ◌<◌, ◌≤◌, ℤ, ◌-ℤ◌, List, [], ◌∷◌, ◌++◌, length, slice_index_or, take, Option, Some, None, refl, sym, ◌∙◌, ap, subst, arith}
use Rattle.std.proofs.lemmas.Int.{ints, by_lt_z}
use Rattle.std.proofs.lemmas.List.{take_more, take_all}
use Rattle.itpg_base.specs.Points.{Point}
use Rattle.zone_core.specs.declared.Bounds.{Bounds}
use Rattle.zone_core.specs.Zone.{Meets, MeetsBoth, MeetsFirstOnly, Holds, SomeHolds, IsZoneOf}
use Rattle.itpg_base.specs.Lists.{Among}
use Rattle.band_normal.specs.Bands.{InBand}
use Rattle.band_normal.specs.Zones.{SomeMeets}
use Rattle.itpg_base.proofs.Lists.{among_append, append_first, append_second}
use Rattle.relation_rows.specs.declared.rows.Row.{Row}
use Rattle.relation_rows.specs.Rows.{HasKey}
use Rattle.relation_rows.specs.Relations.{Item, ItemsHold}
use Rattle.relation_rows.specs.Uniting.{SomeHasBand}
use Rattle.relation_rows.specs.Minus.{OnlyFirstMeets, OnlyFirstHasBand}
use Rattle.relation_rows.proofs.Pushing.{items_more}
use Rattle.band_normal.proofs.Zoning.{some-append}

pub meets_more : (zs : List Bounds) (z : Bounds) (t u : ℤ) → SomeMeets (zs ++ z ∷ []) t u ↔ (SomeMeets zs t u ⊎ Meets z t u)
meets_more zs z t u =
    let k = some-append zs (z ∷ []) t u in (
      λ h. ⊎_elim (λ a. inl a) (λ a. ⊎_elim (λ b. inr b) (λ b. absurd b) a) (k.0 h),
      λ h. k.1 (⊎_elim (λ a. inl a) (λ a. inr (inl a)) h),
    )

holds_more : (os : List (Option Bounds)) (o : Option Bounds) (t u : ℤ) → SomeHolds (os ++ o ∷ []) t u ↔ (SomeHolds os t u ⊎ Holds o t u)
holds_more [] o t u = (λ h. ⊎_elim (λ a. inr a) (λ a. absurd a) h, λ h. ⊎_elim (λ a. absurd a) (λ a. inl a) h)
holds_more (x ∷ xs) o t u = (
  λ h. ⊎_elim (λ a. inl (inl a)) (λ a. ⊎_elim (λ b. inl (inr b)) (λ b. inr b) ((holds_more xs o t u).0 a)) h,
  λ h. ⊎_elim (λ a. ⊎_elim (λ b. inl b) (λ b. inr ((holds_more xs o t u).1 (inl b))) a) (λ a. inr ((holds_more xs o t u).1 (inr a))) h,
)

-- the places that were read are pushed
abbrev pub PlacesPushed : List Bounds → List (Option Bounds) → List Bounds → Type 0
PlacesPushed old places now = (t : ℤ) (u : ℤ) → SomeMeets now t u ↔ (SomeMeets old t u ⊎ SomeHolds places t u)

pub no_places : (zones : List Bounds) (places : List (Option Bounds)) → PlacesPushed zones (take 0 places) zones
no_places zones places t u = (λ h. inl h, λ h. ⊎_elim (λ a. a) (λ a. absurd (none places a)) h)
  where
    none : (ps : List (Option Bounds)) → SomeHolds (take 0 ps) t u → ⊥
    none [] h = h
    none (p ∷ ps) h = h

place_more : (old : List Bounds) (places : List (Option Bounds)) (k : ℕ) (d : Option Bounds) → k < length places → (now next : List Bounds)
    → ((t u : ℤ) → SomeMeets next t u ↔ (SomeMeets now t u ⊎ Holds (slice_index_or places k d) t u)) → PlacesPushed old (take k places) now → PlacesPushed old (take (k + 1) places) next
place_more old places k d lt now next pushed so t u =
    let e = take_more places k d lt in
    let more = holds_more (take k places) (slice_index_or places k d) t u in
    let back = λ (h : SomeHolds (take k places ++ slice_index_or places k d ∷ []) t u). subst (λ (v : List (Option Bounds)). SomeHolds v t u) (sym e) h in (
      λ h. ⊎_elim
          (λ a. ⊎_elim (λ b. inl b) (λ b. inr (back (more.1 (inl b)))) ((so t u).0 a))
          (λ a. inr (back (more.1 (inr a))))
          ((pushed t u).0 h),
      λ h. (pushed t u).1 (⊎_elim
          (λ a. inl ((so t u).1 (inl a)))
          (λ a. ⊎_elim (λ b. inl ((so t u).1 (inr b))) (λ b. inr b) (more.0 (subst (λ (v : List (Option Bounds)). SomeHolds v t u) e a)))
          h),
    )

pub full_place : (old : List Bounds) (places : List (Option Bounds)) (k : ℕ) (d o : Option Bounds) → k < length places → o ≡ slice_index_or places k d → (zone : Bounds) → o ≡ Some zone → (now next : List Bounds)
    → next ≡ now ++ zone ∷ [] → PlacesPushed old (take k places) now → PlacesPushed old (take (k + 1) places) next
full_place old places k d o lt read zone is now next e so =
    place_more old places k d lt now next
    (λ t u. let P : Option Bounds → Type 0 = λ v. SomeMeets next t u ↔ (SomeMeets now t u ⊎ Holds v t u) in
    subst P (sym is ∙ read) (subst (λ (v : List Bounds). SomeMeets v t u ↔ (SomeMeets now t u ⊎ Meets zone t u)) (sym e) (meets_more now zone t u)))
    so

pub empty_place : (old : List Bounds) (places : List (Option Bounds)) (k : ℕ) (d o : Option Bounds) → k < length places → o ≡ slice_index_or places k d → o ≡ None → (now : List Bounds)
    → PlacesPushed old (take k places) now → PlacesPushed old (take (k + 1) places) now
empty_place old places k d o lt read is now so =
    place_more old places k d lt now now
    (λ t u. let P : Option Bounds → Type 0 = λ v. SomeMeets now t u ↔ (SomeMeets now t u ⊎ Holds v t u) in subst P (sym is ∙ read) (λ h. inl h, λ h. ⊎_elim (λ a. a) (λ a. absurd a) h))
    so

pub all_places : (old : List Bounds) (places : List (Option Bounds)) (k : ℕ) (now : List Bounds) → length places ≤ k → PlacesPushed old (take k places) now → PlacesPushed old places now
all_places old places k now le = subst (λ (v : List (Option Bounds)). PlacesPushed old v now) (take_all k places le)

-- one more zone is read
read_more : (zones : List Bounds) (k : ℕ) (d z : Bounds) → k < length zones → z ≡ slice_index_or zones k d → (t u : ℤ) → SomeMeets (take (k + 1) zones) t u ↔ (SomeMeets (take k zones) t u ⊎ Meets z t u)
read_more zones k d z lt read t u =
    let e : take (k + 1) zones ≡ take k zones ++ z ∷ [] = take_more zones k d lt ∙ ap (λ (v : Bounds). take k zones ++ v ∷ []) (sym read) in
    subst (λ (v : List Bounds). SomeMeets v t u ↔ (SomeMeets (take k zones) t u ⊎ Meets z t u)) (sym e) (meets_more (take k zones) z t u)

-- the zones that were read are left without the pairs of one more
abbrev pub AreWithout : List Bounds → Bounds → List Bounds → Type 0
AreWithout zones cut left = (t : ℤ) (u : ℤ) → SomeMeets left t u ↔ (SomeMeets zones t u × (¬ Meets cut t u))

pub none_meets : (zs : List Bounds) (t u : ℤ) → SomeMeets (take 0 zs) t u → ⊥
none_meets [] t u h = h
none_meets (z ∷ zs) t u h = h

pub none_without : (zones : List Bounds) (cut : Bounds) (left : List Bounds) → left ≡ [] → AreWithout (take 0 zones) cut left
none_without zones cut left e = subst (λ (v : List Bounds). AreWithout (take 0 zones) cut v) (sym e) (λ t u. (λ h. absurd h, λ h. absurd (none_meets zones t u h.0)))

-- one more zone is read, and what it has beside the cut is added
pub without_more : (zones : List Bounds) (cut : Bounds) (k : ℕ) (d z : Bounds) → k < length zones → z ≡ slice_index_or zones k d
    → (now next : List Bounds) → ((t : ℤ) (u : ℤ) → SomeMeets next t u ↔ (SomeMeets now t u ⊎ MeetsFirstOnly z cut t u)) → AreWithout (take k zones) cut now → AreWithout (take (k + 1) zones) cut next
without_more zones cut k d z lt read now next pushed so t u =
    let more = read_more zones k d z lt read t u in (
      λ h. ⊎_elim
          (λ a. let b = (so t u).0 a in (more.1 (inl b.0), b.1))
          (λ a. (more.1 (inr a.0), a.1))
          ((pushed t u).0 h),
      λ h. (pushed t u).1 (⊎_elim
          (λ a. inl ((so t u).1 (a, h.1)))
          (λ a. inr (a, h.1))
          (more.0 h.0)),
    )

pub all_without : (zones : List Bounds) (cut : Bounds) (k : ℕ) (left : List Bounds) → length zones ≤ k → AreWithout (take k zones) cut left → AreWithout zones cut left
all_without zones cut k left le = subst (λ (v : List Bounds). AreWithout v cut left) (take_all k zones le)

-- a zone that shares no pair with the cut stays whole
pub whole_without : (old new : List Bounds) (zone cut : Bounds) (o : Option Bounds) → IsZoneOf (MeetsBoth zone cut) o → o ≡ None → new ≡ old ++ zone ∷ []
    → (t : ℤ) (u : ℤ) → SomeMeets new t u ↔ (SomeMeets old t u ⊎ MeetsFirstOnly zone cut t u)
whole_without old new zone cut o is none e t u =
    let apart : Meets zone t u → Meets cut t u → ⊥ = λ a b. subst (λ (v : Option Bounds). Holds v t u) none ((is.pairs t u).1 (a, b)) in
    let more = meets_more old zone t u in
    subst (λ (v : List Bounds). SomeMeets v t u ↔ (SomeMeets old t u ⊎ MeetsFirstOnly zone cut t u)) (sym e) (
      λ h. ⊎_elim (λ a. inl a) (λ a. inr (a, apart a)) (more.0 h),
      λ h. ⊎_elim (λ a. more.1 (inl a)) (λ a. more.1 (inr a.0)) h,
    )

-- no zone that was read shares a pair with the cut
abbrev pub AreClear : List Bounds → Bounds → Type 0
AreClear zones cut = (t : ℤ) (u : ℤ) → SomeMeets zones t u → Meets cut t u → ⊥

pub none_clear : (zones : List Bounds) (cut : Bounds) → AreClear (take 0 zones) cut
none_clear zones cut t u h m = none_meets zones t u h

pub one_more_clear : (zones : List Bounds) (cut : Bounds) (k : ℕ) (d z : Bounds) → k < length zones → z ≡ slice_index_or zones k d
    → (o : Option Bounds) → IsZoneOf (MeetsBoth z cut) o → o ≡ None → AreClear (take k zones) cut → AreClear (take (k + 1) zones) cut
one_more_clear zones cut k d z lt read o is none so t u h m =
    ⊎_elim
    (λ a. so t u a m)
    (λ a. subst (λ (v : Option Bounds). Holds v t u) none ((is.pairs t u).1 (a, m)))
    ((read_more zones k d z lt read t u).0 h)

pub all_clear : (zones : List Bounds) (cut : Bounds) (k : ℕ) → length zones ≤ k → AreClear (take k zones) cut → AreClear zones cut
all_clear zones cut k le = subst (λ (v : List Bounds). AreClear v cut) (take_all k zones le)

-- zones that share no pair with the cut stay whole
pub clear_without : (zones : List Bounds) (cut : Bounds) → AreClear zones cut → AreWithout zones cut zones
clear_without zones cut clear t u = (λ h. (h, clear t u h), λ h. h.0)

-- the places of the difference are pushed
pub split_without : (old new : List Bounds) (zone cut : Bounds) (places : List (Option Bounds)) → ((t : ℤ) (u : ℤ) → SomeHolds places t u ↔ MeetsFirstOnly zone cut t u) → PlacesPushed old places new
    → (t : ℤ) (u : ℤ) → SomeMeets new t u ↔ (SomeMeets old t u ⊎ MeetsFirstOnly zone cut t u)
split_without old new zone cut places pairs pushed t u = (
  λ h. ⊎_elim (λ a. inl a) (λ a. inr ((pairs t u).0 a)) ((pushed t u).0 h),
  λ h. (pushed t u).1 (⊎_elim (λ a. inl a) (λ a. inr ((pairs t u).1 a)) h),
)

-- what a zone shares with a part is pushed, if there is any
pub shared_pushed : (old new : List Bounds) (zone part both : Bounds) (o : Option Bounds) → IsZoneOf (MeetsBoth zone part) o → o ≡ Some both → new ≡ old ++ both ∷ []
    → (t : ℤ) (u : ℤ) → SomeMeets new t u ↔ (SomeMeets old t u ⊎ MeetsBoth zone part t u)
shared_pushed old new zone part both o is some e t u =
    let pairs : Meets both t u ↔ MeetsBoth zone part t u = subst (λ (v : Option Bounds). Holds v t u ↔ MeetsBoth zone part t u) some (is.pairs t u) in
    let more = meets_more old both t u in
    subst (λ (v : List Bounds). SomeMeets v t u ↔ (SomeMeets old t u ⊎ MeetsBoth zone part t u)) (sym e) (
      λ h. ⊎_elim (λ a. inl a) (λ a. inr (pairs.0 a)) (more.0 h),
      λ h. more.1 (⊎_elim (λ a. inl a) (λ a. inr (pairs.1 a)) h),
    )

pub none_shared : (old : List Bounds) (zone part : Bounds) (o : Option Bounds) → IsZoneOf (MeetsBoth zone part) o → o ≡ None → (t : ℤ) (u : ℤ) → SomeMeets old t u ↔ (SomeMeets old t u ⊎ MeetsBoth zone part t u)
none_shared old zone part o is none t u = (
  λ h. inl h,
  λ h. ⊎_elim (λ a. a) (λ a. absurd (subst (λ (v : Option Bounds). Holds v t u) none ((is.pairs t u).1 a))) h,
)

-- the zones that were read, with the pairs of the part alone
abbrev pub AreShared : List Bounds → Bounds → List Bounds → Type 0
AreShared zones part shared = (t : ℤ) (u : ℤ) → SomeMeets shared t u ↔ (SomeMeets zones t u × Meets part t u)

pub none_within : (zones : List Bounds) (part : Bounds) (shared : List Bounds) → shared ≡ [] → AreShared (take 0 zones) part shared
none_within zones part shared e = subst (λ (v : List Bounds). AreShared (take 0 zones) part v) (sym e) (λ t u. (λ h. absurd h, λ h. absurd (none_meets zones t u h.0)))

pub within_more : (zones : List Bounds) (part : Bounds) (k : ℕ) (d z : Bounds) → k < length zones → z ≡ slice_index_or zones k d
    → (now next : List Bounds) → ((t : ℤ) (u : ℤ) → SomeMeets next t u ↔ (SomeMeets now t u ⊎ MeetsBoth z part t u)) → AreShared (take k zones) part now → AreShared (take (k + 1) zones) part next
within_more zones part k d z lt read now next pushed so t u =
    let more = read_more zones k d z lt read t u in (
      λ h. ⊎_elim
          (λ a. let b = (so t u).0 a in (more.1 (inl b.0), b.1))
          (λ a. (more.1 (inr a.0), a.1))
          ((pushed t u).0 h),
      λ h. (pushed t u).1 (⊎_elim
          (λ a. inl ((so t u).1 (a, h.1)))
          (λ a. inr (a, h.1))
          (more.0 h.0)),
    )

pub all_within : (zones : List Bounds) (part : Bounds) (k : ℕ) (shared : List Bounds) → length zones ≤ k → AreShared (take k zones) part shared → AreShared zones part shared
all_within zones part k shared le = subst (λ (v : List Bounds). AreShared v part shared) (take_all k zones le)

-- the zones without the pairs of the cuts that were read
abbrev pub AreLeft : List Bounds → List Bounds → List Bounds → Type 0
AreLeft zones cuts left = (t : ℤ) (u : ℤ) → SomeMeets left t u ↔ OnlyFirstMeets zones cuts t u

pub none_cut : (zones cuts left : List Bounds) → left ≡ zones → AreLeft zones (take 0 cuts) left
none_cut zones cuts left e = subst (λ (v : List Bounds). AreLeft zones (take 0 cuts) v) (sym e) (λ t u. (λ h. (h, none_meets cuts t u), λ h. h.0))

pub cut_more : (zones cuts : List Bounds) (k : ℕ) (d z : Bounds) → k < length cuts → z ≡ slice_index_or cuts k d → (now next : List Bounds)
    → AreWithout now z next → AreLeft zones (take k cuts) now → AreLeft zones (take (k + 1) cuts) next
cut_more zones cuts k d z lt read now next less so t u =
    let more = read_more cuts k d z lt read t u in (
      λ h.
          let a = (less t u).0 h in
          let b = (so t u).0 a.0 in
          (b.0, λ s. ⊎_elim (λ c. b.1 c) (λ c. a.1 c) (more.0 s)),
      λ h. (less t u).1 ((so t u).1 (h.0, λ s. h.1 (more.1 (inl s))), λ m. h.1 (more.1 (inr m))),
    )

pub all_cut : (zones cuts : List Bounds) (k : ℕ) (left : List Bounds) → length cuts ≤ k → AreLeft zones (take k cuts) left → AreLeft zones cuts left
all_cut zones cuts k left le = subst (λ (v : List Bounds). AreLeft zones v left) (take_all k cuts le)

-- a pair is in the zone or not
meets_or_not : (k : Bounds) (t u : ℤ) → Meets k t u ⊎ (Meets k t u → ⊥)
meets_or_not k t u =
    by_lt_z t k.a (λ lt. inr (λ m. let x = m.from in omega (arith, ints))) (λ from.
    by_lt_z k.b t (λ lt. inr (λ m. let x = m.to in omega (arith, ints))) (λ to.
    by_lt_z u k.c (λ lt. inr (λ m. let x = m.low in omega (arith, ints))) (λ low.
    by_lt_z k.d u (λ lt. inr (λ m. let x = m.high in omega (arith, ints))) (λ high.
    by_lt_z (u -ℤ t) k.e (λ lt. inr (λ m. let x = m.least in omega (arith, ints))) (λ least.
    by_lt_z k.f (u -ℤ t) (λ lt. inr (λ m. let x = m.most in omega (arith, ints))) (λ most.
    inl (record { from = from; to = to; low = low; high = high; least = least; most = most })))))))

-- what is left of zones is what is left within a part, and outside of it
pub left_by_parts : (part : Bounds) (zones cuts inside cuts_inside outside cuts_outside : List Bounds) → AreShared zones part inside → AreShared cuts part cuts_inside → AreWithout zones part outside → AreWithout cuts part cuts_outside
    → (old middle new : List Bounds) → ((t : ℤ) (u : ℤ) → SomeMeets middle t u ↔ (SomeMeets old t u ⊎ OnlyFirstMeets inside cuts_inside t u))
    → ((t : ℤ) (u : ℤ) → SomeMeets new t u ↔ (SomeMeets middle t u ⊎ OnlyFirstMeets outside cuts_outside t u))
    → (t : ℤ) (u : ℤ) → SomeMeets new t u ↔ (SomeMeets old t u ⊎ OnlyFirstMeets zones cuts t u)
left_by_parts part zones cuts inside cuts_inside outside cuts_outside zi ci zo co old middle new first second t u = (
  λ h. ⊎_elim
      (λ a. ⊎_elim
      (λ b. inl b)
      (λ b. let k = (zi t u).0 b.0 in inr (k.0, λ c. b.1 ((ci t u).1 (c, k.1))))
      ((first t u).0 a))
      (λ b. let k = (zo t u).0 b.0 in inr (k.0, λ c. b.1 ((co t u).1 (c, k.1))))
      ((second t u).0 h),
  λ h. (second t u).1 (⊎_elim
      (λ a. inl ((first t u).1 (inl a)))
      (λ a. ⊎_elim
      (λ m. inl ((first t u).1 (inr ((zi t u).1 (a.0, m), λ c. a.1 ((ci t u).0 c).0))))
      (λ m. inr ((zo t u).1 (a.0, m), λ c. a.1 ((co t u).0 c).0))
      (meets_or_not part t u))
      h),
)

-- all that is left is added
pub left_added : (zones cuts old left copied new : List Bounds) → AreLeft zones cuts left → copied ≡ left → new ≡ old ++ copied → (t : ℤ) (u : ℤ) → SomeMeets new t u ↔ (SomeMeets old t u ⊎ OnlyFirstMeets zones cuts t u)
left_added zones cuts old left copied new is e f t u =
    let both = some-append old copied t u in
    let so = subst (λ (v : List Bounds). SomeMeets v t u ↔ OnlyFirstMeets zones cuts t u) (sym e) (is t u) in
    subst (λ (v : List Bounds). SomeMeets v t u ↔ (SomeMeets old t u ⊎ OnlyFirstMeets zones cuts t u)) (sym f) (
      λ h. ⊎_elim (λ a. inl a) (λ a. inr (so.0 a)) (both.0 h),
      λ h. both.1 (⊎_elim (λ a. inl a) (λ a. inr (so.1 a)) h),
    )

-- ---- the zones of rows' bands

-- the zones of the rows that were read
abbrev pub AreOfBands : List Row → List Bounds → Type 0
AreOfBands rows zones = (t : ℤ) (u : ℤ) → SomeMeets zones t u ↔ SomeHasBand rows t u

pub no_bands : (rows : List Row) (zones : List Bounds) → zones ≡ [] → AreOfBands (take 0 rows) zones
no_bands rows zones e = subst (λ (v : List Bounds). AreOfBands (take 0 rows) v) (sym e) (λ t u. (λ h. absurd h, λ h. absurd (none rows h.0 h.1)))
  where
    none : (xs : List Row) (r : Row) → Among (take 0 xs) r → ⊥
    none [] r a = a
    none (z ∷ zs) r a = a

pub band_more : (rows : List Row) (k : ℕ) (d : Row) → k < length rows → (zone : Bounds) → ((t u : ℤ) → Meets zone t u ↔ InBand (slice_index_or rows k d).band t u) → (now next : List Bounds) → next ≡ now ++ zone ∷ []
    → AreOfBands (take k rows) now → AreOfBands (take (k + 1) rows) next
band_more rows k d lt zone is now next e so t u =
    let row : Row = slice_index_or rows k d in
    let f = take_more rows k d lt in
    let more = meets_more now zone t u in
    subst (λ (v : List Bounds). SomeMeets v t u ↔ SomeHasBand (take (k + 1) rows) t u) (sym e) (
      λ h. ⊎_elim
          (λ a. let b = (so t u).0 a in (b.0, subst (λ (v : List Row). Among v b.0) (sym f) (append_first (take k rows) (row ∷ []) b.0 b.1), b.2))
          (λ a. (row, subst (λ (v : List Row). Among v row) (sym f) (append_second (take k rows) (row ∷ []) row (inl refl)), (is t u).0 a))
          (more.0 h),
      λ (h : SomeHasBand (take (k + 1) rows) t u). more.1 (⊎_elim
          (λ a. inl ((so t u).1 (h.0, a, h.2)))
          (λ a. ⊎_elim (λ (g : slice_index_or rows k d ≡ h.0). inr ((is t u).1 (subst (λ (v : Row). InBand v.band t u) (sym g) h.2))) (λ b. absurd b) a)
          (among_append (take k rows) (row ∷ []) h.0 (subst (λ (v : List Row). Among v h.0) f h.1))),
    )

pub all_bands : (rows : List Row) (k : ℕ) (zones : List Bounds) → length rows ≤ k → AreOfBands (take k rows) zones → AreOfBands rows zones
all_bands rows k zones le = subst (λ (v : List Row). AreOfBands v zones) (take_all k rows le)

-- what is left of the zones of rows is what is left of their bands
pub left_of_bands : (rows cuts : List Row) (zones of_cuts read read_cuts none left : List Bounds) → AreOfBands rows zones → AreOfBands cuts of_cuts → read ≡ zones → read_cuts ≡ of_cuts → none ≡ []
    → ((t : ℤ) (u : ℤ) → SomeMeets left t u ↔ (SomeMeets none t u ⊎ OnlyFirstMeets read read_cuts t u)) → (t : ℤ) (u : ℤ) → SomeMeets left t u ↔ OnlyFirstHasBand rows cuts t u
left_of_bands rows cuts zones of_cuts read read_cuts none left z c e f g is t u =
    let so : SomeMeets left t u ↔ (SomeMeets [] t u ⊎ OnlyFirstMeets zones of_cuts t u) =
    subst (λ (v : List Bounds). SomeMeets left t u ↔ (SomeMeets v t u ⊎ OnlyFirstMeets zones of_cuts t u)) g
    (subst (λ (v : List Bounds). SomeMeets left t u ↔ (SomeMeets none t u ⊎ OnlyFirstMeets v of_cuts t u)) e
    (subst (λ (v : List Bounds). SomeMeets left t u ↔ (SomeMeets none t u ⊎ OnlyFirstMeets read v t u)) f (is t u))) in (
      λ h. ⊎_elim (λ a. absurd a) (λ a. ((z t u).0 a.0, λ k. a.1 ((c t u).1 k))) (so.0 h),
      λ h. so.1 (inr ((z t u).1 h.0, λ k. h.1 ((c t u).0 k))),
    )

-- the zones that were read are pushed as items of the row's source and target
abbrev pub ItemsPushed : Row → List Item → List Bounds → List Item → Type 0
ItemsPushed row old zones now = (x : Point) (y : Point) → ItemsHold now x y ↔ (ItemsHold old x y ⊎ (HasKey row x.object y.object × SomeMeets zones x.moment y.moment))

pub no_items : (row : Row) (items : List Item) (zones : List Bounds) → ItemsPushed row items (take 0 zones) items
no_items row items zones x y = (λ h. inl h, λ h. ⊎_elim (λ a. a) (λ a. absurd (none_meets zones x.moment y.moment a.1)) h)

pub item_more : (row : Row) (old : List Item) (zones : List Bounds) (k : ℕ) (d z : Bounds) → k < length zones → z ≡ slice_index_or zones k d → (now next : List Item) → next ≡ now ++ (row.source, row.target, z) ∷ []
    → ItemsPushed row old (take k zones) now → ItemsPushed row old (take (k + 1) zones) next
item_more row old zones k d z lt read now next e so x y =
    let f : take (k + 1) zones ≡ take k zones ++ z ∷ [] = take_more zones k d lt ∙ ap (λ (v : Bounds). take k zones ++ v ∷ []) (sym read) in
    let more = meets_more (take k zones) z x.moment y.moment in
    let pushed = items_more now next (row.source, row.target, z) e x y in (
      λ h. ⊎_elim
          (λ a. ⊎_elim (λ b. inl b) (λ b. inr (b.0, subst (λ (v : List Bounds). SomeMeets v x.moment y.moment) (sym f) (more.1 (inl b.1)))) ((so x y).0 a))
          (λ a. inr ((a.source, a.target), subst (λ (v : List Bounds). SomeMeets v x.moment y.moment) (sym f) (more.1 (inr a.pair))))
          (pushed.0 h),
      λ h. pushed.1 (⊎_elim
          (λ a. inl ((so x y).1 (inl a)))
          (λ a. ⊎_elim (λ b. inl ((so x y).1 (inr (a.0, b)))) (λ b. inr (record { source = (a.0).0; target = (a.0).1; pair = b })) (more.0 (subst (λ (v : List Bounds). SomeMeets v x.moment y.moment) f a.1)))
          h),
    )

pub all_items : (row : Row) (old : List Item) (zones : List Bounds) (k : ℕ) (now : List Item) → length zones ≤ k → ItemsPushed row old (take k zones) now → ItemsPushed row old zones now
all_items row old zones k now le = subst (λ (v : List Bounds). ItemsPushed row old v now) (take_all k zones le)
