-- A union, one source and target after the other.
use Rattle.std.proofs.Common.{◌≡◌, ◌↔◌, ◌⊎◌, inl, inr, ⊎_elim, ℕ, zero, suc, ◌+◌, ◌<◌, ℤ, List, [], ◌∷◌, ◌++◌, length, map, get_or, take, drop, Some, None, refl, sym, ◌∙◌, ap, subst, arith, true, false, true≢false}
use Rattle.std.specs.Prelude.{slice_get}
use Rattle.std.proofs.lemmas.List.{length-drop, take_more}
use Rattle.itpg_base.specs.Points.{Point}
use Rattle.band_normal.specs.declared.band.Band.{Band}
use Rattle.itpg_base.specs.Lists.{Among, Ordered}
use Rattle.band_normal.specs.Bands.{InBand, IsWellFormed}
use Rattle.band_normal.specs.Normal.{IsRow, IsBefore, Normal}
use Rattle.band_normal.specs.Zones.{SomeMeets}
use Rattle.itpg_base.proofs.Lists.{among_at, among_append, ordered_from}
use Rattle.band_normal.proofs.Sorting.{normal_like}
use Rattle.relation_rows.specs.declared.rows.Row.{Row}
use Rattle.relation_rows.specs.Rows.{between, HasKey, RowsHold, RowBefore, KeyBefore, NormalRows, IsRelation, rows_at}
use Rattle.relation_rows.specs.Relations.{Item, ItemsHold, EitherHolds}
use Rattle.relation_rows.specs.Searching.{has_key, comes_before}
use Rattle.relation_rows.specs.Uniting.{KeyUpTo, IsNext, SomeHasBand, EitherHas, IsPart, HasPushed}
use Rattle.relation_rows.proofs.Listed.{Listed, normal_of, with_key, key_apart, key_either, at_among, same_rows}
use Rattle.relation_rows.proofs.Alike.{row_alike}
use Rattle.relation_rows.proofs.Keys.{comes_is, is_coming, key_is, is_key}
use Rattle.relation_rows.proofs.Gathering.{some_meets, meets_some}
use Rattle.relation_rows.proofs.Partitions.{among_either, front_among, rest_among, rest_ordered, first_among, first_before, front_ordered, no_first}

-- ---- the next row

up_refl : (r : Row) → KeyUpTo r r
up_refl r = inr (refl, refl)

row_up : (r s : Row) → (r ≡ s) ⊎ RowBefore r s → KeyUpTo r s
row_up r s (inl e) = inr (ap (λ (v : Row). v.source.0) (sym e), ap (λ (v : Row). v.target.0) (sym e))
row_up r s (inr (inl k)) = inl k
row_up r s (inr (inr (e, f, b))) = inr (sym e, sym f)

up_trans : (r s t : Row) → KeyUpTo r s → KeyUpTo s t → KeyUpTo r t
up_trans r s t (inl a) (inl b) = inl (before a b)
  where
    before : KeyBefore r.source.0 r.target.0 s.source.0 s.target.0 → KeyBefore s.source.0 s.target.0 t.source.0 t.target.0 → KeyBefore r.source.0 r.target.0 t.source.0 t.target.0
    before (inl c) (inl d) = inl (omega arith)
    before (inl c) (inr (e, d)) = inl (omega arith)
    before (inr (e, c)) (inl d) = inl (omega arith)
    before (inr (e, c)) (inr (f, d)) = inr (e ∙ f, omega arith)
up_trans r s t (inl a) (inr b) = inl (subst (λ (v : ℕ). KeyBefore r.source.0 r.target.0 v t.target.0) (sym b.0) (subst (λ (v : ℕ). KeyBefore r.source.0 r.target.0 s.source.0 v) (sym b.1) a))
up_trans r s t (inr a) (inl b) = inl (subst (λ (v : ℕ). KeyBefore v r.target.0 t.source.0 t.target.0) a.0 (subst (λ (v : ℕ). KeyBefore s.source.0 v t.source.0 t.target.0) a.1 b))
up_trans r s t (inr a) (inr b) = inr (b.0 ∙ a.0, b.1 ∙ a.1)

pub all_up : (rows : List Row) (r : Row) → Ordered RowBefore rows → Some r ≡ slice_get rows 0 → (s : Row) → Among rows s → KeyUpTo r s
all_up rows r o e s a = row_up r s (first_before RowBefore rows r o (sym e) s a)

none_up : (rows : List Row) → None ≡ slice_get rows 0 → (r s : Row) → Among rows s → KeyUpTo r s
none_up rows e r s a = absurd (subst (λ (v : List Row). Among v s) (no_first rows e) a)

pub next_first : (first second : List Row) (r : Row) → Ordered RowBefore first → Some r ≡ slice_get first 0 → ((s : Row) → Among second s → KeyUpTo r s) → IsNext first second r
next_first first second r o e up = record { there = inl (first_among first r (sym e)); first_up = all_up first r o e; second_up = up }

pub next_second : (first second : List Row) (r : Row) → Ordered RowBefore second → Some r ≡ slice_get second 0 → ((s : Row) → Among first s → KeyUpTo r s) → IsNext first second r
next_second first second r o e up = record { there = inr (first_among second r (sym e)); first_up = up; second_up = all_up second r o e }

pub next_alone : (first second : List Row) (r : Row) → Ordered RowBefore first → Some r ≡ slice_get first 0 → None ≡ slice_get second 0 → IsNext first second r
next_alone first second r o e none = next_first first second r o e (none_up second none r)

pub next_other : (first second : List Row) (r : Row) → Ordered RowBefore second → Some r ≡ slice_get second 0 → None ≡ slice_get first 0 → IsNext first second r
next_other first second r o e none = next_second first second r o e (none_up first none r)

-- of the two first rows the one that comes first
pub next_of_first : (first second : List Row) (r s : Row) → Ordered RowBefore first → Ordered RowBefore second → Some r ≡ slice_get first 0 → Some s ≡ slice_get second 0 → comes_before s r.source.0 r.target.0 ≡ false → IsNext first second r
next_of_first first second r s o q e f test =
    let up : KeyUpTo r s = ⊎_elim
    (λ b. inl b)
    (λ b. ⊎_elim (λ c. absurd (true≢false (sym (is_coming s r.source.0 r.target.0 c) ∙ test))) (λ c. inr (sym c.0, sym c.1)) b)
    (key_either r.source.0 r.target.0 s.source.0 s.target.0) in
    next_first first second r o e (λ t a. up_trans r s t up (all_up second s q f t a))

pub next_of_second : (first second : List Row) (r s : Row) → Ordered RowBefore first → Ordered RowBefore second → Some r ≡ slice_get first 0 → Some s ≡ slice_get second 0 → comes_before s r.source.0 r.target.0 ≡ true → IsNext first second s
next_of_second first second r s o q e f test =
    let up : KeyUpTo s r = inl (comes_is s r.source.0 r.target.0 test) in
    next_second first second s q f (λ t a. up_trans s r t up (all_up first r o e t a))

-- ---- the first rows that have the next row's source and target

pub before_up : (r s t : Row) → KeyBefore r.source.0 r.target.0 s.source.0 s.target.0 → KeyUpTo s t → KeyBefore r.source.0 r.target.0 t.source.0 t.target.0
before_up r s t (inl c) (inl (inl d)) = inl (omega arith)
before_up r s t (inl c) (inl (inr (e, d))) = inl (omega arith)
before_up r s t (inr (e, c)) (inl (inl d)) = inl (omega arith)
before_up r s t (inr (e, c)) (inl (inr (f, d))) = inr (e ∙ f, omega arith)
before_up r s t a (inr b) = subst (λ (v : ℕ). KeyBefore r.source.0 r.target.0 v t.target.0) (sym b.0) (subst (λ (v : ℕ). KeyBefore r.source.0 r.target.0 s.source.0 v) (sym b.1) a)

module _ (rows : List Row) (key : Row) where
  abbrev o : ℕ
  o = key.source.0

  abbrev p : ℕ
  p = key.target.0

  pub key_more : (i : ℕ) (d : Row) → i < length rows → ((r : Row) → Among (take i rows) r → HasKey r o p) → has_key (get_or rows i d) o p ≡ true → (r : Row) → Among (take (i + 1) rows) r → HasKey r o p
  key_more i d lt all here r a = ⊎_elim
      (λ b. all r b)
      (λ b. ⊎_elim (λ (e : get_or rows i d ≡ r). key_is r o p (subst (λ (v : Row). has_key v o p ≡ true) e here)) (λ f. absurd f) b)
      (among_append (take i rows) (get_or rows i d ∷ []) r (subst (λ (v : List Row). Among v r) (take_more rows i d lt) a))

  module _ (order : Ordered RowBefore rows) (up : (r : Row) → Among rows r → KeyUpTo key r) where
    pub later_scanned : (i : ℕ) (d : Row) → i < length rows → has_key (get_or rows i d) o p ≡ false → (r : Row) → Among (drop i rows) r → KeyBefore o p r.source.0 r.target.0
    later_scanned i d lt none r a = before_up key (get_or rows i d) r
        (⊎_elim (λ b. b) (λ k. absurd (true≢false (sym (is_key (get_or rows i d) o p k) ∙ none))) (up (get_or rows i d) (among_at rows i d lt)))
        (row_up (get_or rows i d) r (ordered_from RowBefore rows i d order lt r a))

-- ---- the bands of one source and target

abbrev pub band_of : Row → Band
band_of r = r.band

band_among : (rows : List Row) (r : Row) → Among rows r → Among (map band_of rows) r.band
band_among [] r a = absurd a
band_among (s ∷ ss) r (inl e) = inl (ap band_of e)
band_among (s ∷ ss) r (inr a) = inr (band_among ss r a)

among_band : (rows : List Row) (b : Band) → Among (map band_of rows) b → (r : Row) × Among rows r × (r.band ≡ b)
among_band [] b a = absurd a
among_band (s ∷ ss) b (inl e) = (s, inl refl, e)
among_band (s ∷ ss) b (inr a) = let w = among_band ss b a in (w.0, inr w.1, w.2)

bands_ordered : (rows : List Row) (o p : ℕ) → Ordered RowBefore rows → ((r : Row) → Among rows r → HasKey r o p) → Ordered IsBefore (map band_of rows)
bands_ordered [] o p order same = tt
bands_ordered (r ∷ rs) o p order same = (
  λ b a.
      let w = among_band rs b a in
      let k = same r (inl refl) in
      let l = same w.0 (inr w.1) in
      subst (λ (v : Band). IsBefore r.band v) w.2 (⊎_elim (λ c. absurd (key_apart _ _ _ _ c (k.0 ∙ sym l.0) (k.1 ∙ sym l.1))) (λ c. c.2) (order.0 w.0 w.1)),
  bands_ordered rs o p order.1 (λ s a. same s (inr a)),
)

-- rows of one source and target are its bands as rows
pub rows_are : (rows : List Row) (o p : ℕ) → ((r : Row) → Among rows r → HasKey r o p) → rows_at o p (map band_of rows) ≡ rows
rows_are [] o p same = refl
rows_are (r ∷ rs) o p same =
    let k = same r (inl refl) in
    let head : record { source = record { 0 = o }; target = record { 0 = p }; band = r.band } ≡ r = same_rows (sym k.0) (sym k.1) refl in
    let tail = rows_are rs o p (λ s a. same s (inr a)) in
    ap (λ (v : Row). v ∷ rows_at o p (map band_of rs)) head ∙ ap (λ (v : List Row). r ∷ v) tail

-- the rows of a relation of one source and target
pub part_of : (key : Row) (rows group : List Row) → IsRelation rows → Ordered RowBefore group → ((r : Row) → Among group r ↔ (Among rows r × HasKey r key.source.0 key.target.0)) → IsPart key group
part_of key rows group is order are = record {
  keyed = λ r a. ((are r).0 a).1;
  formed = λ r a. is.formed r ((are r).0 a).0;
  normal = record {
    whole = λ t u h. ((h.0).band, band_among group h.0 h.1, h.2);
    once = λ b c t u a d i j.
        let r = among_band group b a in
        let s = among_band group c d in
        let k = (are r.0).0 r.1 in
        let l = (are s.0).0 s.1 in
        let x : Point = record { object = key.source.0; moment = t } in
        let y : Point = record { object = key.target.0; moment = u } in
        let e = (is.normal).once r.0 s.0 x y k.0 l.0
        (record { source = (k.1).0; target = (k.1).1; pair = subst (λ (v : Band). InBand v t u) (sym r.2) i })
        (record { source = (l.1).0; target = (l.1).1; pair = subst (λ (v : Band). InBand v t u) (sym s.2) j }) in
        sym r.2 ∙ ap band_of e ∙ s.2;
    each = λ b a.
        let r = among_band group b a in
        let k = (are r.0).0 r.1 in
        subst (λ (v : Band). IsRow (SomeHasBand group) v) r.2
        (row_alike (between (RowsHold rows) (r.0).source.0 (r.0).target.0) (SomeHasBand group)
        (λ t u h. let i = h.2 in (h.0, (are h.0).1 (h.1, (i.source ∙ (k.1).0, i.target ∙ (k.1).1)), i.pair))
        (λ t u h. let l = (are h.0).0 h.1 in (h.0, l.0, record { source = (l.1).0 ∙ sym (k.1).0; target = (l.1).1 ∙ sym (k.1).1; pair = h.2 }))
        (r.0).band ((is.normal).each r.0 k.0));
    order = bands_ordered group key.source.0 key.target.0 order (λ r a. ((are r).0 a).1);
  };
}

-- the bands of the items of both lists
pub both_normal : (here there : List Row) (items : List Item) → ((x y : Point) → ItemsHold items x y ↔ EitherHolds here there x y)
    → (bands : List Band) → Normal (SomeMeets (map (λ (i : Item). i.2) items)) bands → Normal (EitherHas here there) bands
both_normal here there items are bands n = normal_like _ (EitherHas here there) bands (λ t u. (
  λ h.
      let w = meets_some items t u h in
      let x : Point = record { object = (w.0).0.0; moment = t } in
      let y : Point = record { object = (w.0).1.0; moment = u } in
      ⊎_elim (λ a. inl (a.0, a.1, (a.2).pair)) (λ a. inr (a.0, a.1, (a.2).pair)) ((are x y).0 (w.0, w.1, record { source = refl; target = refl; pair = w.2 })),
  λ h. ⊎_elim
      (λ a. back t u a.0 ((are _ _).1 (inl (a.0, a.1, record { source = refl; target = refl; pair = a.2 }))))
      (λ a. back t u a.0 ((are _ _).1 (inr (a.0, a.1, record { source = refl; target = refl; pair = a.2 }))))
      h,
)) n
  where
    back : (t u : ℤ) (r : Row) → ItemsHold items (record { object = r.source.0; moment = t }) (record { object = r.target.0; moment = u }) → SomeMeets (map (λ (i : Item). i.2) items) t u
    back t u r h = some_meets items h.0 t u h.1 (h.2).pair

pub no_rows_left : (rows : List Row) → length rows ≡ 0 → rows ≡ []
no_rows_left [] e = refl
no_rows_left (r ∷ rs) e = absurd (omega arith)

-- the rows of one list alone are taken as they are
pub pushed_here : (key : Row) (here there old new : List Row) → IsPart key here → length there ≡ 0 → new ≡ old ++ here → HasPushed key here there old new
pushed_here key here there old new ph none e = (
  map band_of here,
  normal_like (SomeHasBand here) (EitherHas here there) (map band_of here) (λ t u. (λ h. inl h, λ h. ⊎_elim (λ a. a) (λ a. absurd (subst (λ (v : List Row). Among v a.0) (no_rows_left there none) a.1)) h)) ph.normal,
  λ b a. let r = among_band here b a in subst IsWellFormed r.2 (ph.formed r.0 r.1),
  e ∙ ap (λ (v : List Row). old ++ v) (sym (rows_are here key.source.0 key.target.0 ph.keyed)),
)

pub pushed_there : (key : Row) (here there old new : List Row) → IsPart key there → length here ≡ 0 → new ≡ old ++ there → HasPushed key here there old new
pushed_there key here there old new pt none e = (
  map band_of there,
  normal_like (SomeHasBand there) (EitherHas here there) (map band_of there) (λ t u. (λ h. inr h, λ h. ⊎_elim (λ a. absurd (subst (λ (v : List Row). Among v a.0) (no_rows_left here none) a.1)) (λ a. a) h)) pt.normal,
  λ b a. let r = among_band there b a in subst IsWellFormed r.2 (pt.formed r.0 r.1),
  e ∙ ap (λ (v : List Row). old ++ v) (sym (rows_are there key.source.0 key.target.0 pt.keyed)),
)

-- rows that both have are taken once
pub pushed_same : (key : Row) (here there old new : List Row) → IsPart key here → here ≡ there → new ≡ old ++ here → HasPushed key here there old new
pushed_same key here there old new ph same e = (
  map band_of here,
  normal_like (SomeHasBand here) (EitherHas here there) (map band_of here) (λ t u. (λ h. inl h, λ h. ⊎_elim (λ a. a) (λ a. subst (λ (v : List Row). SomeHasBand v t u) (sym same) a) h)) ph.normal,
  λ b a. let r = among_band here b a in subst IsWellFormed r.2 (ph.formed r.0 r.1),
  e ∙ ap (λ (v : List Row). old ++ v) (sym (rows_are here key.source.0 key.target.0 ph.keyed)),
)

-- ---- the walk

-- the key comes before those of what is left
abbrev pub AllLater : List Row → List Row → ℕ → ℕ → Type 0
AllLater left right o p = (r : Row) → Among left r ⊎ Among right r → KeyBefore o p r.source.0 r.target.0

pub record HasUnited (first second left right rows : List Row) : Type 0 where
  pub listed : Listed (EitherHolds first second) (AllLater left right) rows
  pub formed : (r : Row) → Among rows r → IsWellFormed r.band
  pub left_order : Ordered RowBefore left
  pub right_order : Ordered RowBefore right
  pub left_there : (r : Row) → Among left r → Among first r
  pub right_there : (r : Row) → Among right r → Among second r
  pub left_each : (r : Row) → Among first r → AllLater left right r.source.0 r.target.0 ⊎ Among left r
  pub right_each : (r : Row) → Among second r → AllLater left right r.source.0 r.target.0 ⊎ Among right r

pub start : (first second rows : List Row) → rows ≡ [] → Ordered RowBefore first → Ordered RowBefore second → HasUnited first second first second rows
start first second rows e o q = subst (λ (v : List Row). HasUnited first second first second v) (sym e) (record {
  listed = record {
    whole = λ x y k h. absurd (⊎_elim
        (λ a. let i = a.2 in key_apart _ _ _ _ (k a.0 (inl a.1)) (sym i.source) (sym i.target))
        (λ a. let i = a.2 in key_apart _ _ _ _ (k a.0 (inr a.1)) (sym i.source) (sym i.target)) h);
    keys = λ r i. absurd i;
    once = λ r s x y i j m n. absurd i;
    each = λ r i. absurd i;
    order = tt;
  };
  formed = λ r i. absurd i;
  left_order = o;
  right_order = q;
  left_there = λ r a. a;
  right_there = λ r a. a;
  left_each = λ r a. inr a;
  right_each = λ r a. inr a;
})

module _ (first second left right rows : List Row) (g : HasUnited first second left right rows) (key : Row) (next : IsNext left right key) (n m : ℕ)
    (left_same : (r : Row) → Among (take n left) r → HasKey r key.source.0 key.target.0)
    (left_later : (r : Row) → Among (drop n left) r → KeyBefore key.source.0 key.target.0 r.source.0 r.target.0)
    (right_same : (r : Row) → Among (take m right) r → HasKey r key.source.0 key.target.0)
    (right_later : (r : Row) → Among (drop m right) r → KeyBefore key.source.0 key.target.0 r.source.0 r.target.0) where
  abbrev ko : ℕ
  ko = key.source.0

  abbrev kp : ℕ
  kp = key.target.0

  not_yet : (r : Row) → HasKey r ko kp → AllLater left right r.source.0 r.target.0 → ⊥
  not_yet r k all = key_apart _ _ _ _ (all key next.there) k.0 k.1

  pub left_group : (r : Row) → Among (take n left) r ↔ (Among first r × HasKey r ko kp)
  left_group r = (
    λ a. (g.left_there r (front_among left n r a), left_same r a),
    λ h. ⊎_elim (λ all. absurd (not_yet r h.1 all))
        (λ a. ⊎_elim (λ t. t) (λ d. absurd (key_apart _ _ _ _ (left_later r d) (sym (h.1).0) (sym (h.1).1))) (among_either left n r a)) (g.left_each r h.0),
  )

  pub right_group : (r : Row) → Among (take m right) r ↔ (Among second r × HasKey r ko kp)
  right_group r = (
    λ a. (g.right_there r (front_among right m r a), right_same r a),
    λ h. ⊎_elim (λ all. absurd (not_yet r h.1 all))
        (λ a. ⊎_elim (λ t. t) (λ d. absurd (key_apart _ _ _ _ (right_later r d) (sym (h.1).0) (sym (h.1).1))) (among_either right m r a)) (g.right_each r h.0),
  )

  pairs : (t u : ℤ) → EitherHas (take n left) (take m right) t u ↔ between (EitherHolds first second) ko kp t u
  pairs t u = (
    λ h. ⊎_elim
        (λ a. let k = (left_group a.0).0 a.1 in inl (a.0, k.0, record { source = (k.1).0; target = (k.1).1; pair = a.2 }))
        (λ a. let k = (right_group a.0).0 a.1 in inr (a.0, k.0, record { source = (k.1).0; target = (k.1).1; pair = a.2 }))
        h,
    λ h. ⊎_elim
        (λ a. let i = a.2 in inl (a.0, (left_group a.0).1 (a.1, (i.source, i.target)), i.pair))
        (λ a. let i = a.2 in inr (a.0, (right_group a.0).1 (a.1, (i.source, i.target)), i.pair))
        h,
  )

  fewer : (q r : ℕ) → AllLater left right q r → AllLater (drop n left) (drop m right) q r
  fewer q r all s a = all s (⊎_elim (λ b. inl (rest_among left n s b)) (λ b. inr (rest_among right m s b)) a)

  here : AllLater (drop n left) (drop m right) ko kp
  here s a = ⊎_elim (λ b. left_later s b) (λ b. right_later s b) a

  here_at : (r : Row) → HasKey r ko kp → AllLater (drop n left) (drop m right) r.source.0 r.target.0
  here_at r k = subst (λ (v : ℕ). AllLater (drop n left) (drop m right) v r.target.0) (sym k.0) (subst (λ (v : ℕ). AllLater (drop n left) (drop m right) ko v) (sym k.1) here)

  done : (x y : Point) → EitherHolds first second x y → AllLater (drop n left) (drop m right) x.object y.object → AllLater left right x.object y.object ⊎ ((x.object ≡ ko) × (y.object ≡ kp))
  done x y h all = ⊎_elim
      (λ (a : RowsHold first x y).
      let i = a.2 in
      ⊎_elim
      (λ k. inl (subst (λ (v : ℕ). AllLater left right v y.object) i.source (subst (λ (v : ℕ). AllLater left right (a.0).source.0 v) i.target k)))
      (λ b. ⊎_elim
      (λ t. let k = left_same a.0 t in inr (sym i.source ∙ k.0, sym i.target ∙ k.1))
      (λ d. absurd (key_apart _ _ _ _ (all a.0 (inl d)) (sym i.source) (sym i.target)))
      (among_either left n a.0 b))
      (g.left_each a.0 a.1))
      (λ (a : RowsHold second x y).
      let i = a.2 in
      ⊎_elim
      (λ k. inl (subst (λ (v : ℕ). AllLater left right v y.object) i.source (subst (λ (v : ℕ). AllLater left right (a.0).source.0 v) i.target k)))
      (λ b. ⊎_elim
      (λ t. let k = right_same a.0 t in inr (sym i.source ∙ k.0, sym i.target ∙ k.1))
      (λ d. absurd (key_apart _ _ _ _ (all a.0 (inr d)) (sym i.source) (sym i.target)))
      (among_either right m a.0 b))
      (g.right_each a.0 a.1))
      h

  module _ (new : List Row) (pushed : HasPushed key (take n left) (take m right) rows new) where
    next_listed : Listed (EitherHolds first second) (AllLater (drop n left) (drop m right)) new
    next_listed = subst (λ (v : List Row). Listed (EitherHolds first second) (AllLater (drop n left) (drop m right)) v) (sym pushed.3)
        (with_key (EitherHolds first second) (AllLater left right) (AllLater (drop n left) (drop m right)) ko kp rows pushed.0 g.listed
        (normal_like _ _ pushed.0 pairs pushed.1) (λ q r all. all key next.there) fewer here done)

    pub next_united : HasUnited first second (drop n left) (drop m right) new
    next_united = record {
      listed = next_listed;
      formed = λ r i. ⊎_elim (λ j. g.formed r j) (λ j. pushed.2 r.band (at_among (EitherHolds first second) ko kp pushed.0 r j).2)
          (among_append rows (rows_at ko kp pushed.0) r (subst (λ (v : List Row). Among v r) pushed.3 i));
      left_order = rest_ordered RowBefore left n g.left_order;
      right_order = rest_ordered RowBefore right m g.right_order;
      left_there = λ r a. g.left_there r (rest_among left n r a);
      right_there = λ r a. g.right_there r (rest_among right m r a);
      left_each = λ r a. ⊎_elim (λ all. inl (fewer _ _ all)) (λ b. ⊎_elim (λ t. inl (here_at r (left_same r t))) (λ d. inr d) (among_either left n r b)) (g.left_each r a);
      right_each = λ r a. ⊎_elim (λ all. inl (fewer _ _ all)) (λ b. ⊎_elim (λ t. inl (here_at r (right_same r t))) (λ d. inr d) (among_either right m r b)) (g.right_each r a);
    }

  -- one of the two groups has a row
  pub less_left : length (drop n left) + length (drop m right) < length left + length right
  less_left = ⊎_elim
      (λ a. let k = some left n key a (λ d. key_apart _ _ _ _ (left_later key d) refl refl) in omega (arith, length-drop n left, length-drop m right, k))
      (λ a. let k = some right m key a (λ d. key_apart _ _ _ _ (right_later key d) refl refl) in omega (arith, length-drop n left, length-drop m right, k))
      next.there
    where
      some : (xs : List Row) (k : ℕ) (r : Row) → Among xs r → (Among (drop k xs) r → ⊥) → length (drop k xs) < length xs
      some [] k r a none = absurd a
      some (x ∷ xs) zero r a none = absurd (none a)
      some (x ∷ xs) (suc k) r a none = let l = length-drop k xs in omega (arith, l)

-- the same in the words of the loop
module _ (first second left right rows : List Row) (g : HasUnited first second left right rows) (key : Row) (next : IsNext left right key) (n m : ℕ)
    (left_same : (r : Row) → Among (take n left) r → HasKey r key.source.0 key.target.0)
    (left_later : (r : Row) → Among (drop n left) r → KeyBefore key.source.0 key.target.0 r.source.0 r.target.0)
    (right_same : (r : Row) → Among (take m right) r → HasKey r key.source.0 key.target.0)
    (right_later : (r : Row) → Among (drop m right) r → KeyBefore key.source.0 key.target.0 r.source.0 r.target.0)
    (here later there others : List Row) (front : here ≡ take n left) (back : later ≡ drop n left) (front' : there ≡ take m right) (back' : others ≡ drop m right) where
  pub here_part : IsRelation first → IsPart key here
  here_part is = subst (λ (v : List Row). IsPart key v) (sym front)
      (part_of key first (take n left) is (front_ordered RowBefore left n g.left_order) (left_group first second left right rows g key next n m left_same left_later right_same right_later))

  pub there_part : IsRelation second → IsPart key there
  there_part is = subst (λ (v : List Row). IsPart key v) (sym front')
      (part_of key second (take m right) is (front_ordered RowBefore right m g.right_order) (right_group first second left right rows g key next n m left_same left_later right_same right_later))

  module _ (new : List Row) (pushed : HasPushed key here there rows new) where
    pushed_groups : HasPushed key (take n left) (take m right) rows new
    pushed_groups = subst (λ (v : List Row). HasPushed key v (take m right) rows new) front (subst (λ (v : List Row). HasPushed key here v rows new) front' pushed)

    pub step_united : HasUnited first second later others new
    step_united = subst (λ (v : List Row). HasUnited first second v others new) (sym back) (subst (λ (v : List Row). HasUnited first second (drop n left) v new) (sym back')
        (next_united first second left right rows g key next n m left_same left_later right_same right_later new pushed_groups))

  pub step_less : length later + length others < length left + length right
  step_less = subst (λ (v : List Row). length v + length others < length left + length right) (sym back) (subst (λ (v : List Row). length (drop n left) + length v < length left + length right) (sym back')
      (less_left first second left right rows g key next n m left_same left_later right_same right_later))

pub all_united : (first second left right rows : List Row) → left ≡ [] → right ≡ [] → HasUnited first second left right rows → NormalRows (EitherHolds first second) rows
all_united first second left right rows e f g =
    normal_of (EitherHolds first second) (AllLater left right) rows g.listed
    (λ x y h r a. ⊎_elim (λ b. absurd (subst (λ (v : List Row). Among v r) e b)) (λ b. absurd (subst (λ (v : List Row). Among v r) f b)) a)
