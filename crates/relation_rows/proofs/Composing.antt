-- Rows of a composition, one source after the other.
use Rattle.std.proofs.Common.{◌≡◌, ◌↔◌, ◌⊎◌, inl, inr, ⊎_elim, ℕ, ◌-◌, ◌<◌, ◌≤◌, List, [], ◌∷◌, ◌++◌, length, take, drop, None, Err, refl, sym, subst, arith, length-append}
use Rattle.std.specs.Prelude.{slice_get}
use Rattle.itpg_base.specs.Points.{Point, Relation}
use Rattle.itpg_base.specs.Decided.{Decided}
use Rattle.itpg_base.proofs.Searches.{same_number}
use Rattle.itpg_base.specs.Lists.{Among, Ordered}
use Rattle.band_normal.specs.Bands.{IsWellFormed, end_at}
use Rattle.itpg_base.proofs.Lists.{among_append, append_ordered}
use Rattle.relation_rows.specs.declared.rows.Row.{Row}
use Rattle.relation_rows.specs.declared.rows.RelFault.{RelFault}
use Rattle.relation_rows.specs.declared.rows.RelFault.TheVariants.{Memory, Wide}
use Rattle.relation_rows.specs.Rows.{between, RowBefore, NormalRows, IsWide}
use Rattle.relation_rows.specs.Answers.{Gives}
use Rattle.relation_rows.specs.Relations.{HasMiddlePoint}
use Rattle.relation_rows.specs.Apart.{AreLone}
use Rattle.relation_rows.proofs.Listed.{Listed, join, goes_further, normal_of, listed_of, carried, row_apart, ordered_fewer}
use Rattle.relation_rows.proofs.Alike.{row_alike, rows_alike, row_start, in_relation}
use Rattle.relation_rows.proofs.Keeping.{kept_exists, kept_normal}
use Rattle.relation_rows.proofs.Partitions.{among_either, front_among, rest_among, rest_ordered, no_first}

-- the rows of some sources
pub at_sources : (R S : Relation) (P : ℕ → Type 0) → ((x y : Point) → S x y ↔ (R x y × P x.object)) → (rows : List Row) → NormalRows S rows → Listed R (λ (q r : ℕ). P q) rows
at_sources R S P cut rows n = record {
  whole = λ x y k h. n.whole x y ((cut x y).1 (h, k));
  keys = from_one;
  once = n.once;
  each = λ r i. row_alike (between S r.source.0 r.target.0) (between R r.source.0 r.target.0) (λ t u h. ((cut _ _).0 h).0) (λ t u h. (cut _ _).1 (h, from_one r i)) r.band (n.each r i);
  order = n.order;
}
  where
    from_one : (r : Row) → Among rows r → P r.source.0
    from_one r i =
        let x : Point = record { object = r.source.0; moment = r.band.from } in
        let y : Point = record { object = r.target.0; moment = end_at r.band.low r.band.from } in
        ((cut x y).0 (in_relation S r x y (n.each r i) (record { source = refl; target = refl; pair = row_start _ r.band (n.each r i) }))).1

-- where the rows of some sources are too many beside those of the sources before them, all rows are
pub wide_after : (R S : Relation) (K : ℕ → ℕ → Type 0) (P : ℕ → Type 0) → ((q : ℕ) → Decided (P q)) → ((x y : Point) → S x y ↔ (R x y × P x.object)) → (done : List Row) → Listed R K done → ((q r s : ℕ) → K q r → P s → q < s)
    → (limit : ℕ) → length done ≤ limit → IsWide S (limit - length done) → IsWide R limit
wide_after R S K P decide cut done l before limit few wide rows n =
    let So : ℕ → ℕ → Type 0 = λ q r. P q in
    let k = kept_exists (λ (q r : ℕ). P q) (λ q r. decide q) rows n.order in
    let own = kept_normal (λ (q r : ℕ). P q) rows R k.0 n k.1 in
    let many = wide k.0 (rows_alike (λ x y. R x y × P x.object) S (λ x y h. (cut x y).1 h) (λ x y h. (cut x y).0 h) k.0 own) in
    let fewer = ordered_fewer RowBefore row_apart (done ++ k.0) rows
    (append_ordered RowBefore done k.0 l.order own.order (λ r s a b. inl (inl (before _ _ _ (l.keys r a) ((k.1).so s b)))))
    n.order
    (λ r a. ⊎_elim (λ b. carried R K (λ q r. Unit {0}) done rows l (listed_of R rows n) r b tt) (λ b. (k.1).there r b) (among_append done k.0 r a)) in
    omega (arith, fewer, many, few, length-append {A = Row} done k.0)

-- some row of the group leads from the object
abbrev pub IsSourceOf : List Row → ℕ → Type 0
IsSourceOf group o = (r : Row) × Among group r × (r.source.0 ≡ o)

source_decided : (group : List Row) (o : ℕ) → Decided (IsSourceOf group o)
source_decided [] o = inr (λ h. h.1)
source_decided (r ∷ rs) o = elim (same_number r.source.0 o) [
  | inl e ↦ inl (r, inl refl, e)
  | inr n ↦ elim (source_decided rs o) [
    | inl h ↦ inl (h.0, inr h.1, h.2)
    | inr m ↦ inr (λ (h : IsSourceOf (r ∷ rs) o). ⊎_elim (λ (g : r ≡ h.0). n (subst (λ (v : Row). v.source.0 ≡ o) (sym g) h.2)) (λ a. m (h.0, a, h.2)) h.1)
  ]
]

-- the source comes before those of the rows
abbrev pub IsEarlier : List Row → ℕ → Type 0
IsEarlier left o = (r : Row) → Among left r → o < r.source.0

-- the rows are those of all ways but the ones that begin with a row that is left
pub record HasComposed (rows : List Row) (second : List Row) (left done : List Row) : Type 0 where
  pub listed : Listed (HasMiddlePoint rows second) (λ (o p : ℕ). IsEarlier left o) done
  pub formed : (r : Row) → Among done r → IsWellFormed r.band
  pub order : Ordered RowBefore left
  pub there : (r : Row) → Among left r → Among rows r
  pub each : (r : Row) → Among rows r → IsEarlier left r.source.0 ⊎ Among left r

pub start : (rows : List Row) (second : List Row) → Ordered RowBefore rows → HasComposed rows second rows []
start rows second o = record {
  listed = record {
    whole = λ x y k h. absurd (let w = h.1 in let i = w.2 in let e = i.source in let l = k w.0 w.1 in omega arith);
    keys = λ r i. absurd i;
    once = λ r s x y i j m n. absurd i;
    each = λ r i. absurd i;
    order = tt;
  };
  formed = λ r i. absurd i;
  order = o;
  there = λ r a. a;
  each = λ r a. inr a;
}

module _ (rows : List Row) (second : List Row) (left done : List Row) (g : HasComposed rows second left done) (n : ℕ)
    (apart : (r : Row) → (s : Row) → Among (take n left) r → Among (drop n left) s → r.source.0 < s.source.0)
    (group later : List Row) (front : group ≡ take n left) (back : later ≡ drop n left) where
  in_group : (r : Row) → Among group r → Among left r
  in_group r a = front_among left n r (subst (λ (v : List Row). Among v r) front a)

  later_left : (r : Row) → Among later r → Among left r
  later_left r a = rest_among left n r (subst (λ (v : List Row). Among v r) back a)

  behind : (r s : Row) → Among group r → Among later s → r.source.0 < s.source.0
  behind r s a b = apart r s (subst (λ (v : List Row). Among v r) front a) (subst (λ (v : List Row). Among v s) back b)

  either : (r : Row) → Among left r → Among group r ⊎ Among later r
  either r a = ⊎_elim (λ b. inl (subst (λ (v : List Row). Among v r) (sym front) b)) (λ b. inr (subst (λ (v : List Row). Among v r) (sym back) b)) (among_either left n r a)

  abbrev Ways : Relation
  Ways = HasMiddlePoint group second

  earlier_than : (q o : ℕ) → IsEarlier left q → IsSourceOf group o → q < o
  earlier_than q o k s = subst (λ (v : ℕ). q < v) s.2 (k s.0 (in_group s.0 s.1))

  before_later : (o : ℕ) (r : Row) → IsSourceOf group o → Among later r → o < r.source.0
  before_later o r s b = subst (λ (v : ℕ). v < r.source.0) s.2 (behind s.0 r s.1 b)

  -- a row whose source is one of the group's is in the group
  grouped : (o : ℕ) (r : Row) → IsSourceOf group o → Among rows r → r.source.0 ≡ o → Among group r
  grouped o r s a e = ⊎_elim
      (λ k. absurd (let l = earlier_than r.source.0 o k s in omega arith))
      (λ b. ⊎_elim (λ c. c) (λ c. absurd (let l = before_later o r s c in omega arith)) (either r b))
      (g.each r a)

  -- the ways that begin with the group are what leads from its sources
  pub cut : (x y : Point) → Ways x y ↔ (HasMiddlePoint rows second x y × IsSourceOf group x.object)
  cut x y = (
    λ h.
        let w = h in
        let r = w.1 in
        let i = r.2 in
        ((w.0, (r.0, g.there r.0 (in_group r.0 r.1), r.2), w.2), (r.0, r.1, i.source)),
    λ h.
        let w = h.0 in
        let r = w.1 in
        let i = r.2 in
        (w.0, (r.0, grouped x.object r.0 h.1 r.1 i.source, r.2), w.2),
  )

  module _ (more : List Row) (normal : NormalRows Ways more) (formed : (r : Row) → Among more r → IsWellFormed r.band) (next : List Row) (e : next ≡ done ++ more) where
    pub next_composed : HasComposed rows second later next
    next_composed = subst (λ (v : List Row). HasComposed rows second later v) (sym e) (record {
      listed = goes_further (HasMiddlePoint rows second) (λ (q r : ℕ). IsEarlier left q ⊎ IsSourceOf group q) (λ (q r : ℕ). IsEarlier later q) (done ++ more)
          (join (HasMiddlePoint rows second) (λ (q r : ℕ). IsEarlier left q) (λ (q r : ℕ). IsSourceOf group q) done more g.listed (at_sources (HasMiddlePoint rows second) Ways (IsSourceOf group) cut more normal)
          (λ q r s t k f. inl (earlier_than q s k f)))
          (λ q r k. ⊎_elim (λ a s b. a s (later_left s b)) (λ f s b. before_later q s f b) k)
          (λ x y h k.
          let w = h.1 in
          let i = w.2 in
          let f = i.source in
          ⊎_elim
          (λ a. inl (subst (λ (v : ℕ). IsEarlier left v) f a))
          (λ a. ⊎_elim (λ b. inr (w.0, b, f)) (λ b. absurd (let l = k w.0 b in omega arith)) (either w.0 a))
          (g.each w.0 w.1));
      formed = λ r i. ⊎_elim (λ a. g.formed r a) (λ a. formed r a) (among_append done more r i);
      order = subst (λ (v : List Row). Ordered RowBefore v) (sym back) (rest_ordered RowBefore left n g.order);
      there = λ r a. g.there r (later_left r a);
      each = λ r a. ⊎_elim
          (λ k. inl (λ s b. k s (later_left s b)))
          (λ l. ⊎_elim (λ b. inl (λ s d. behind r s b d)) (λ b. inr b) (either r l))
          (g.each r a);
    })

  pub too_wide : (limit : ℕ) → length done ≤ limit → IsWide Ways (limit - length done) → IsWide (HasMiddlePoint rows second) limit
  too_wide limit few wide = wide_after (HasMiddlePoint rows second) Ways (λ (q r : ℕ). IsEarlier left q) (IsSourceOf group) (source_decided group) cut done g.listed (λ q r s k f. earlier_than q s k f) limit few wide

  pub fault_after : (limit count : ℕ) → length done ≤ limit → count ≡ length done → (fault : RelFault) → Gives (Err fault) Ways (limit - count) → Gives (Err fault) (HasMiddlePoint rows second) limit
  fault_after limit count few e Memory h = tt
  fault_after limit count few e Wide h = too_wide limit few (subst (λ (v : ℕ). IsWide Ways (limit - v)) e h)

pub within_limit : (limit count : ℕ) (done more next : List Row) → next ≡ done ++ more → count ≡ length done → length done ≤ limit → length more ≤ limit - count → length next ≤ limit
within_limit limit count done more next e f few room = subst (λ (v : List Row). length v ≤ limit) (sym e) (omega (arith, length-append {A = Row} done more))

pub all_composed : (rows : List Row) (second : List Row) (left done : List Row) → None ≡ slice_get left 0 → HasComposed rows second left done → NormalRows (HasMiddlePoint rows second) done
all_composed rows second left done none g =
    let e = no_first left none in
    normal_of (HasMiddlePoint rows second) (λ (o p : ℕ). IsEarlier left o) done g.listed (λ x y h r a. absurd (subst (λ (v : List Row). Among v r) e a))

pub group_lone : (rows : List Row) (second : List Row) (left done : List Row) → HasComposed rows second left done → (n : ℕ) (group : List Row) → group ≡ take n left → AreLone rows → AreLone group
group_lone rows second left done g n group e lone r a = lone r (g.there r (front_among left n r (subst (λ (v : List Row). Among v r) e a)))
