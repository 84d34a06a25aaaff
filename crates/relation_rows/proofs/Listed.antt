-- Rows of some of the keys: that they are one list, and how they are joined.
use Rattle.std.proofs.Common.{◌≡◌, ◌⊎◌, inl, inr, ⊎_elim, ℕ, zero, suc, ◌<◌, ◌≤◌, ℤ, List, [], ◌∷◌, ◌++◌, length, Bool, true, false, ◌&&◌, refl, sym, ◌∙◌, ap, subst, arith, eqb}
use Rattle.std.proofs.lemmas.Bool.Decides.{eqb_tells}
use Rattle.itpg_base.specs.Points.{Point, Relation}
use Rattle.itpg_base.proofs.Searches.{at_most}
use Rattle.band_normal.specs.declared.band.Band.{Band}
use Rattle.itpg_base.specs.Lists.{Among, Ordered}
use Rattle.band_normal.specs.Bands.{InBand}
use Rattle.band_normal.specs.Normal.{IsRow, IsBefore, Normal}
use Rattle.itpg_base.proofs.Lists.{among_append, append_first, append_second, append_ordered, ordered_unique}
use Rattle.band_normal.proofs.Unique.{normal_unique, before_apart}
use Rattle.relation_rows.specs.declared.rows.Row.{Row}
use Rattle.relation_rows.specs.Rows.{between, InRow, KeyBefore, RowBefore, NormalRows, IsWide, rows_at}

-- a list in a strict order is no longer than one that has all its elements
pub ordered_fewer : {X : Type 0} (Before : X → X → Type 0) → ((x y : X) → Before x y → Before y x → ⊥) → (xs ys : List X) → Ordered Before xs → Ordered Before ys → ((x : X) → Among xs x → Among ys x) → length xs ≤ length ys
ordered_fewer Before apart [] ys ox oy f = omega arith
ordered_fewer Before apart (x ∷ xs) [] ox oy f = absurd (f x (inl refl))
ordered_fewer {X} Before apart (x ∷ xs) (y ∷ ys) ox oy f = ⊎_elim
    (λ (e : y ≡ x).
    let l = ordered_fewer Before apart xs ys ox.1 oy.1 (λ z h. ⊎_elim (λ (k : y ≡ z). absurd (let b : Before x x = subst (λ (v : X). Before x v) (sym k ∙ e) (ox.0 z h) in apart x x b b)) (λ i. i) (f z (inr h))) in
    omega arith)
    (λ i.
    let l = ordered_fewer Before apart (x ∷ xs) ys ox oy.1 (λ z h. ⊎_elim
    (λ (k : x ≡ z). subst (λ (v : X). Among ys v) k i)
    (λ j. ⊎_elim (λ (k : y ≡ z). absurd (apart x y (subst (λ (v : X). Before x v) (sym k) (ox.0 z j)) (oy.0 x i))) (λ m. m) (f z (inr j)))
    h) in
    omega arith)
    (f x (inl refl))

-- the order of rows
pub key_apart : (o p q r : ℕ) → KeyBefore o p q r → (o ≡ q) → (p ≡ r) → ⊥
key_apart o p q r (inl l) e f = omega arith
key_apart o p q r (inr (g, l)) e f = omega arith

pub keys_apart : (o p q r : ℕ) → KeyBefore o p q r → KeyBefore q r o p → ⊥
keys_apart o p q r (inl l) (inl m) = omega arith
keys_apart o p q r (inl l) (inr (f, m)) = omega arith
keys_apart o p q r (inr (e, l)) (inl m) = omega arith
keys_apart o p q r (inr (e, l)) (inr (f, m)) = omega arith

-- of two keys, one comes first or they are one
pub key_either : (o p q r : ℕ) → KeyBefore o p q r ⊎ (KeyBefore q r o p ⊎ ((o ≡ q) × (p ≡ r)))
key_either o p q r = elim (eqb_tells o q) [
  | inl e ↦ elim (eqb_tells p r) [
    | inl f ↦ inr (inr (e.1, f.1))
    | inr f ↦ elim (at_most p r) [
      | inl le ↦ inl (inr (e.1, (let ne = f.1 in omega arith)))
      | inr gt ↦ inr (inl (inr (sym e.1, omega (arith, gt))))
    ]
  ]
  | inr e ↦ elim (at_most o q) [
    | inl le ↦ inl (inl (let ne = e.1 in omega arith))
    | inr gt ↦ inr (inl (inl (omega (arith, gt))))
  ]
]

pub row_apart : (r s : Row) → RowBefore r s → RowBefore s r → ⊥
row_apart r s (inl a) (inl b) = keys_apart _ _ _ _ a b
row_apart r s (inl a) (inr b) = key_apart _ _ _ _ a (sym b.0) (sym b.1)
row_apart r s (inr a) (inl b) = key_apart _ _ _ _ b (sym a.0) (sym a.1)
row_apart r s (inr a) (inr b) = before_apart r.band s.band a.2 b.2

pub same_rows : {o p q r : ℕ} {a b : Band} → o ≡ q → p ≡ r → a ≡ b
    → let x : Row = record { source = record { 0 = o }; target = record { 0 = p }; band = a } in x ≡ record { source = record { 0 = q }; target = record { 0 = r }; band = b }
same_rows e f g = cc

row_ext : (r s : Row) → r.source.0 ≡ s.source.0 → r.target.0 ≡ s.target.0 → r.band ≡ s.band → r ≡ s
row_ext r s e f g = same_rows e f g

-- the bands of one key
abbrev put : Bool → Band → List Band → List Band
put true b bs = b ∷ bs
put false b bs = bs

abbrev bands_at : ℕ → ℕ → List Row → List Band
bands_at o p [] = []
bands_at o p (r ∷ rs) = put (eqb r.source.0 o && eqb r.target.0 p) r.band (bands_at o p rs)

pub key_tells : (a b o p : ℕ) → ((eqb a o && eqb b p) ≡ true) × (a ≡ o) × (b ≡ p) ⊎ ((eqb a o && eqb b p) ≡ false) × ((a ≡ o) → (b ≡ p) → ⊥)
key_tells a b o p = elim (eqb_tells a o) [
  | inl e ↦ elim (eqb_tells b p) [
    | inl f ↦ inl (ap (λ (v : Bool). v && eqb b p) e.0 ∙ f.0, e.1, f.1)
    | inr f ↦ inr (ap (λ (v : Bool). v && eqb b p) e.0 ∙ f.0, λ x y. f.1 y)
  ]
  | inr e ↦ inr (ap (λ (v : Bool). v && eqb b p) e.0, λ x y. e.1 x)
]

-- a row of the list that has this key and band
record RowFor (rows : List Row) (o p : ℕ) (b : Band) : Type 0 where
  row : Row
  there : Among rows row
  source : row.source.0 ≡ o
  target : row.target.0 ≡ p
  band : row.band ≡ b

further : (r : Row) (rows : List Row) (o p : ℕ) (b : Band) → RowFor rows o p b → RowFor (r ∷ rows) o p b
further r rows o p b f = record { row = f.row; there = inr f.there; source = f.source; target = f.target; band = f.band }

has_row : (rows : List Row) (o p : ℕ) (b : Band) → Among (bands_at o p rows) b → RowFor rows o p b
has_row [] o p b h = absurd h
has_row (r ∷ rs) o p b h = elim (key_tells r.source.0 r.target.0 o p) [
  | inl e ↦ ⊎_elim
      (λ g. record { row = r; there = inl refl; source = e.1; target = e.2; band = g })
      (λ i. further r rs o p b (has_row rs o p b i))
      (subst (λ (v : Bool). Among (put v r.band (bands_at o p rs)) b) e.0 h)
  | inr e ↦ further r rs o p b (has_row rs o p b (subst (λ (v : Bool). Among (put v r.band (bands_at o p rs)) b) e.0 h))
]

row_has : (rows : List Row) (o p : ℕ) (r : Row) → Among rows r → r.source.0 ≡ o → r.target.0 ≡ p → Among (bands_at o p rows) r.band
row_has [] o p r h a b = absurd h
row_has (s ∷ rs) o p r h a b = elim (key_tells s.source.0 s.target.0 o p) [
  | inl e ↦ subst (λ (v : Bool). Among (put v s.band (bands_at o p rs)) r.band) (sym e.0)
      (⊎_elim (λ (g : s ≡ r). inl (ap (λ (v : Row). v.band) g)) (λ i. inr (row_has rs o p r i a b)) h)
  | inr e ↦ subst (λ (v : Bool). Among (put v s.band (bands_at o p rs)) r.band) (sym e.0)
      (⊎_elim (λ (g : s ≡ r). absurd (e.1 (ap (λ (v : Row). v.source.0) g ∙ a) (ap (λ (v : Row). v.target.0) g ∙ b))) (λ i. row_has rs o p r i a b) h)
]

bands_ordered : (rows : List Row) (o p : ℕ) → Ordered RowBefore rows → Ordered IsBefore (bands_at o p rows)
bands_ordered [] o p h = tt
bands_ordered (r ∷ rs) o p h = elim (key_tells r.source.0 r.target.0 o p) [
  | inl e ↦ subst (λ (v : Bool). Ordered IsBefore (put v r.band (bands_at o p rs))) (sym e.0) (
    λ b i.
        let f = has_row rs o p b i in
        subst (λ (v : Band). IsBefore r.band v) f.band (⊎_elim
        (λ k. absurd (key_apart _ _ _ _ k (e.1 ∙ sym f.source) (e.2 ∙ sym f.target)))
        (λ k. k.2) (h.0 f.row f.there)),
    bands_ordered rs o p h.1,
  )
  | inr e ↦ subst (λ (v : Bool). Ordered IsBefore (put v r.band (bands_at o p rs))) (sym e.0) (bands_ordered rs o p h.1)
]

module _ (R : Relation) where
  -- the rows are normal, as far as the keys of K go
  pub record Listed (K : ℕ → ℕ → Type 0) (rows : List Row) : Type 0 where
    pub whole : (x y : Point) → K x.object y.object → R x y → (r : Row) × Among rows r × InRow r x y
    pub keys : (r : Row) → Among rows r → K r.source.0 r.target.0
    pub once : (r s : Row) (x y : Point) → Among rows r → Among rows s → InRow r x y → InRow s x y → r ≡ s
    pub each : (r : Row) → Among rows r → IsRow (between R r.source.0 r.target.0) r.band
    pub order : Ordered RowBefore rows

  pub normal_of : (K : ℕ → ℕ → Type 0) (rows : List Row) → Listed K rows → ((x y : Point) → R x y → K x.object y.object) → NormalRows R rows
  normal_of K rows l all = record { whole = λ x y h. l.whole x y (all x y h) h; once = l.once; each = l.each; order = l.order }

  pub listed_of : (rows : List Row) → NormalRows R rows → Listed (λ o p. Unit {0}) rows
  listed_of rows n = record { whole = λ x y k h. n.whole x y h; keys = λ r i. tt; once = n.once; each = n.each; order = n.order }

  in_row : (r : Row) (o p : ℕ) (t u : ℤ) (b : Band) → r.source.0 ≡ o → r.target.0 ≡ p → r.band ≡ b → InBand b t u → InRow r (record { object = o; moment = t }) (record { object = p; moment = u })
  in_row r o p t u b e f g i = record { source = e; target = f; pair = subst (λ (v : Band). InBand v t u) (sym g) i }

  pub bands_normal : (K : ℕ → ℕ → Type 0) (rows : List Row) (o p : ℕ) → Listed K rows → K o p → Normal (between R o p) (bands_at o p rows)
  bands_normal K rows o p l k = record {
    whole = λ t u q. let w = l.whole (record { object = o; moment = t }) (record { object = p; moment = u }) k q in (w.0.band, row_has rows o p w.0 w.1 (w.2).source (w.2).target, (w.2).pair);
    once = λ b c t u i j m n.
        let f = has_row rows o p b i in let g = has_row rows o p c j in
        let e = l.once f.row g.row _ _ f.there g.there (in_row f.row o p t u b f.source f.target f.band m) (in_row g.row o p t u c g.source g.target g.band n) in
        sym f.band ∙ ap (λ (v : Row). v.band) e ∙ g.band;
    each = λ b i.
        let f = has_row rows o p b i in
        subst (λ (v : Band). IsRow (between R o p) v) f.band
        (subst (λ (v : ℕ). IsRow (between R o v) (f.row).band) f.target (subst (λ (v : ℕ). IsRow (between R v (f.row).target.0) (f.row).band) f.source (l.each f.row f.there)));
    order = bands_ordered rows o p l.order;
  }

  -- a row of one list is in another that goes as far as its key
  pub carried : (K L : ℕ → ℕ → Type 0) (xs ys : List Row) → Listed K xs → Listed L ys → (r : Row) → Among xs r → L r.source.0 r.target.0 → Among ys r
  carried K L xs ys lx ly r i l =
      let o = r.source.0 in let p = r.target.0 in
      let same = normal_unique (between R o p) (bands_at o p xs) (bands_at o p ys) (bands_normal K xs o p lx (lx.keys r i)) (bands_normal L ys o p ly l) in
      let f = has_row ys o p r.band (subst (λ (v : List Band). Among v r.band) same (row_has xs o p r i refl refl)) in
      subst (λ (v : Row). Among ys v) (row_ext f.row r f.source f.target f.band) f.there

  -- at most one list is normal
  pub rows_unique : (xs ys : List Row) → NormalRows R xs → NormalRows R ys → xs ≡ ys
  rows_unique xs ys nx ny = ordered_unique RowBefore row_apart xs ys nx.order ny.order
      (λ r i. carried _ _ xs ys (listed_of xs nx) (listed_of ys ny) r i tt)
      (λ r i. carried _ _ ys xs (listed_of ys ny) (listed_of xs nx) r i tt)

  -- where the rows of some keys are too many, all rows are
  pub wide_early : (K : ℕ → ℕ → Type 0) (part : List Row) (limit : ℕ) → Listed K part → limit < length part → IsWide R limit
  wide_early K part limit l many rows n =
      let fewer = ordered_fewer RowBefore row_apart part rows l.order n.order (λ r i. carried K _ part rows l (listed_of rows n) r i tt) in
      omega (arith, fewer, many)

  pub same_keys : (K L : ℕ → ℕ → Type 0) (rows : List Row) → ((o p : ℕ) → K o p → L o p) → ((o p : ℕ) → L o p → K o p) → Listed K rows → Listed L rows
  same_keys K L rows f g l = record { whole = λ x y k h. l.whole x y (g _ _ k) h; keys = λ r i. f _ _ (l.keys r i); once = l.once; each = l.each; order = l.order }

  pub none_listed : (K : ℕ → ℕ → Type 0) → ((o p : ℕ) → K o p → ⊥) → Listed K []
  none_listed K none = record { whole = λ x y k h. absurd (none _ _ k); keys = λ r i. absurd i; once = λ r s x y i j m n. absurd i; each = λ r i. absurd i; order = tt }

  -- rows of later keys follow
  pub join : (K L : ℕ → ℕ → Type 0) (xs ys : List Row) → Listed K xs → Listed L ys → ((o p q r : ℕ) → K o p → L q r → KeyBefore o p q r) → Listed (λ o p. K o p ⊎ L o p) (xs ++ ys)
  join K L xs ys lx ly before = record {
    whole = λ x y k h. ⊎_elim
        (λ a. let w = lx.whole x y a h in (w.0, append_first xs ys w.0 w.1, w.2))
        (λ b. let w = ly.whole x y b h in (w.0, append_second xs ys w.0 w.1, w.2)) k;
    keys = λ r i. ⊎_elim (λ a. inl (lx.keys r a)) (λ b. inr (ly.keys r b)) (among_append xs ys r i);
    once = λ r s x y i j m n. ⊎_elim
        (λ a. ⊎_elim (λ b. lx.once r s x y a b m n) (λ b. absurd (cross r s x y a b m n)) (among_append xs ys s j))
        (λ a. ⊎_elim (λ b. absurd (cross s r x y b a n m)) (λ b. ly.once r s x y a b m n) (among_append xs ys s j))
        (among_append xs ys r i);
    each = λ r i. ⊎_elim (λ a. lx.each r a) (λ b. ly.each r b) (among_append xs ys r i);
    order = append_ordered RowBefore xs ys lx.order ly.order (λ r s a b. inl (before _ _ _ _ (lx.keys r a) (ly.keys s b)));
  }
    where
      cross : (r s : Row) (x y : Point) → Among xs r → Among ys s → InRow r x y → InRow s x y → ⊥
      cross r s x y a b m n = key_apart _ _ _ _ (before _ _ _ _ (lx.keys r a) (ly.keys s b)) (m.source ∙ sym n.source) (m.target ∙ sym n.target)

  pub at_among : (o p : ℕ) (bs : List Band) (r : Row) → Among (rows_at o p bs) r → (r.source.0 ≡ o) × (r.target.0 ≡ p) × Among bs r.band
  at_among o p [] r h = absurd h
  at_among o p (b ∷ bs) r (inl e) = (sym (ap (λ (v : Row). v.source.0) e), sym (ap (λ (v : Row). v.target.0) e), inl (ap (λ (v : Row). v.band) e))
  at_among o p (b ∷ bs) r (inr h) = let a = at_among o p bs r h in (a.0, a.1, inr a.2)

  pub among_rows_at : (o p : ℕ) (bs : List Band) (b : Band) → Among bs b → Among (rows_at o p bs) (record { source = record { 0 = o }; target = record { 0 = p }; band = b })
  among_rows_at o p [] b h = absurd h
  among_rows_at o p (c ∷ bs) b (inl e) = inl (same_rows refl refl e)
  among_rows_at o p (c ∷ bs) b (inr h) = inr (among_rows_at o p bs b h)

  at_ordered : (o p : ℕ) (bs : List Band) → Ordered IsBefore bs → Ordered RowBefore (rows_at o p bs)
  at_ordered o p [] h = tt
  at_ordered o p (b ∷ bs) h = (λ r i. let a = at_among o p bs r i in inr (sym a.0, sym a.1, h.0 r.band a.2), at_ordered o p bs h.1)

  pub one_key : (o p : ℕ) (bs : List Band) → Normal (between R o p) bs → Listed (λ q r. (q ≡ o) × (r ≡ p)) (rows_at o p bs)
  one_key o p bs n = record {
    whole = λ x y k h.
        let w = n.whole x.moment y.moment (subst (λ (v : ℕ). R (record { object = v; moment = x.moment }) (record { object = p; moment = y.moment })) k.0 (subst (λ (v : ℕ). R x (record { object = v; moment = y.moment })) k.1 h)) in
        (record { source = record { 0 = o }; target = record { 0 = p }; band = w.0 }, among_rows_at o p bs w.0 w.1, record { source = sym k.0; target = sym k.1; pair = w.2 });
    keys = λ r i. let a = at_among o p bs r i in (a.0, a.1);
    once = λ r s x y i j m k.
        let a = at_among o p bs r i in let b = at_among o p bs s j in
        row_ext r s (a.0 ∙ sym b.0) (a.1 ∙ sym b.1) (n.once r.band s.band x.moment y.moment a.2 b.2 m.pair k.pair);
    each = λ r i.
        let a = at_among o p bs r i in
        subst (λ (v : ℕ). IsRow (between R v r.target.0) r.band) (sym a.0) (subst (λ (v : ℕ). IsRow (between R o v) r.band) (sym a.1) (n.each r.band a.2));
    order = at_ordered o p bs n.order;
  }

  -- the same rows go further where no pair lies between
  pub goes_further : (K L : ℕ → ℕ → Type 0) (rows : List Row) → Listed K rows → ((q r : ℕ) → K q r → L q r) → ((x y : Point) → R x y → L x.object y.object → K x.object y.object) → Listed L rows
  goes_further K L rows l more done = record { whole = λ x y k h. l.whole x y (done x y h k) h; keys = λ r i. more _ _ (l.keys r i); once = l.once; each = l.each; order = l.order }

  -- rows of one key behind those of keys before it, where no pair lies between
  pub with_key : (K L : ℕ → ℕ → Type 0) (o p : ℕ) (rows : List Row) (bs : List Band) → Listed K rows → Normal (between R o p) bs
      → ((q r : ℕ) → K q r → KeyBefore q r o p) → ((q r : ℕ) → K q r → L q r) → L o p
      → ((x y : Point) → R x y → L x.object y.object → K x.object y.object ⊎ ((x.object ≡ o) × (y.object ≡ p)))
      → Listed L (rows ++ rows_at o p bs)
  with_key K L o p rows bs l n before more here done =
      let j = join K (λ q r. (q ≡ o) × (r ≡ p)) rows (rows_at o p bs) l (one_key o p bs n)
      (λ q r s t k e. subst (λ (v : ℕ). KeyBefore q r v t) (sym e.0) (subst (λ (v : ℕ). KeyBefore q r o v) (sym e.1) (before q r k))) in
      record {
        whole = λ x y k h. j.whole x y (done x y h k) h;
        keys = λ r i. ⊎_elim (λ k. more _ _ k) (λ e. subst (λ (v : ℕ). L v r.target.0) (sym e.0) (subst (λ (v : ℕ). L o v) (sym e.1) here)) (j.keys r i);
        once = j.once;
        each = j.each;
        order = j.order;
      }

  -- the rows of all keys below n
  module _ (each : (o p : ℕ) → (bs : List Band) × Normal (between R o p) bs) where
    to_target : (o k : ℕ) → (rows : List Row) × Listed (λ q r. (q ≡ o) × (r < k)) rows
    to_target o zero = ([], none_listed _ (λ q r h. let l = h.1 in omega arith))
    to_target o (suc k) =
        let a = to_target o k in let b = each o k in (
          a.0 ++ rows_at o k b.0,
          same_keys _ _ _
              (λ q r. h_to q r)
              (λ q r h. let l = h.1 in elim (eqb_tells r k) [ inl e ↦ inr (h.0, e.1) | inr e ↦ inl (h.0, (let ne = e.1 in omega arith)) ])
              (join _ _ a.0 (rows_at o k b.0) a.1 (one_key o k b.0 b.1) (λ q r s t x y. inr (x.0 ∙ sym y.0, (let l = x.1 in let e = y.1 in omega arith)))),
        )
      where
        h_to : (q r : ℕ) → ((q ≡ o) × (r < k)) ⊎ ((q ≡ o) × (r ≡ k)) → (q ≡ o) × (r < suc k)
        h_to q r (inl (e, l)) = (e, omega arith)
        h_to q r (inr (e, l)) = (e, omega arith)

    pub to_source : (n k : ℕ) → (rows : List Row) × Listed (λ q r. (q < k) × (r < n)) rows
    to_source n zero = ([], none_listed _ (λ q r h. let l = h.0 in omega arith))
    to_source n (suc k) =
        let a = to_source n k in let b = to_target k n in (
          a.0 ++ b.0,
          same_keys _ _ _
              (λ q r. h_to q r)
              (λ q r h. let l = h.0 in elim (eqb_tells q k) [ inl e ↦ inr (e.1, h.1) | inr e ↦ inl ((let ne = e.1 in omega arith), h.1) ])
              (join _ _ a.0 b.0 a.1 b.1 (λ q r s t x y. inl (let l = x.0 in let e = y.0 in omega arith))),
        )
      where
        h_to : (q r : ℕ) → ((q < k) × (r < n)) ⊎ ((q ≡ k) × (r < n)) → (q < suc k) × (r < n)
        h_to q r (inl (e, l)) = (omega arith, l)
        h_to q r (inr (e, l)) = (omega arith, l)
