-- Rows that stand in two lists, taken out of both.
use Rattle.std.proofs.Common.{◌≡◌, ◌⊎◌, ◌↔◌, inl, inr, ⊎_elim, ℕ, zero, suc, ◌<◌, ◌≤◌, ◌-◌, List, [], ◌∷◌, ◌++◌, length, get_or, take, drop, true, false, refl, sym, ◌∙◌, subst, arith, append_assoc}
use Rattle.std.specs.List.Sorted.{IsPartitionPoint}
use Rattle.itpg_base.specs.Points.{Point}
use Rattle.itpg_base.specs.Lists.{Among, Ordered}
use Rattle.itpg_base.proofs.Lists.{among_append, append_first, append_second, append_ordered, ordered_first, ordered_second, ordered_across, ordered_by_place, place_of}
use Rattle.itpg_base.proofs.Searches.{at_most}
use Rattle.relation_rows.specs.declared.rows.Row.{Row}
use Rattle.relation_rows.specs.Rows.{KeyBefore, RowBefore, InRow, RowsHold, IsRelation, NormalRows}
use Rattle.relation_rows.specs.Searching.{comes_before}
use Rattle.relation_rows.specs.Relations.{OnlyFirstHolds}
use Rattle.relation_rows.proofs.Listed.{row_apart, key_apart}
use Rattle.relation_rows.proofs.Gathering.{up_to_key}
use Rattle.relation_rows.proofs.Keys.{comes_is, coming_down}
use Rattle.relation_rows.proofs.Partitions.{among_before, front_among}

-- an element more in the middle
among_middle : {X : Type 0} (xs ys : List X) (b x : X) → Among (xs ++ b ∷ ys) x → (b ≡ x) ⊎ Among (xs ++ ys) x
among_middle xs ys b x i = ⊎_elim
    (λ j. inr (append_first xs ys x j))
    (λ j. ⊎_elim (λ e. inl e) (λ k. inr (append_second xs ys x k)) j)
    (among_append xs (b ∷ ys) x i)

middle_among : {X : Type 0} (xs ys : List X) (b x : X) → Among (xs ++ ys) x → Among (xs ++ b ∷ ys) x
middle_among xs ys b x i = ⊎_elim (λ j. append_first xs (b ∷ ys) x j) (λ j. append_second xs (b ∷ ys) x (inr j)) (among_append xs ys x i)

-- a row more in the middle
middle : (xs ys : List Row) (b : Row) (x y : Point) → RowsHold (xs ++ b ∷ ys) x y ↔ (InRow b x y ⊎ RowsHold (xs ++ ys) x y)
middle xs ys b x y = (
  λ h. ⊎_elim
      (λ (e : b ≡ h.0). inl (subst (λ (v : Row). InRow v x y) (sym e) h.2))
      (λ i. inr (h.0, i, h.2))
      (among_middle xs ys b h.0 h.1),
  λ h. ⊎_elim
      (λ i. (b, append_second xs (b ∷ ys) b (inl refl), i))
      (λ k. (k.0, middle_among xs ys b k.0 k.1, k.2)) h,
)

without_middle : (xs ys : List Row) (b : Row) → Ordered RowBefore (xs ++ b ∷ ys) → Ordered RowBefore (xs ++ ys)
without_middle xs ys b o =
    append_ordered RowBefore xs ys (ordered_first RowBefore xs (b ∷ ys) o) (ordered_second RowBefore xs (b ∷ ys) o).1 (λ x y i j. ordered_across RowBefore xs (b ∷ ys) o x y i (inr j))

-- a row isn't before itself, so it stands in the list once
stands_once : (xs ys : List Row) (b r : Row) → Ordered RowBefore (xs ++ b ∷ ys) → Among (xs ++ ys) r → r ≡ b → ⊥
stands_once xs ys b r o i e = ⊎_elim
    (λ j. apart (ordered_across RowBefore xs (b ∷ ys) o r b j (inl refl)))
    (λ j. apart (subst (λ (v : Row). RowBefore r v) e (subst (λ (v : Row). RowBefore v r) (sym e) ((ordered_second RowBefore xs (b ∷ ys) o).0 r j))))
    (among_append xs ys r i)
  where
    apart : RowBefore r b → ⊥
    apart k = let same = subst (λ (v : Row). RowBefore v b) e k in row_apart b b same same

-- of a row that stands in both lists and is taken out of both, what only the first holds stays: no other row of the first has a pair of it
strike_both : (first : List Row) → IsRelation first → (xs ys vs ws : List Row) (b : Row) → Ordered RowBefore (xs ++ b ∷ ys) → ((r : Row) → Among (xs ++ b ∷ ys) r → Among first r)
    → (x y : Point) → OnlyFirstHolds (xs ++ b ∷ ys) (vs ++ b ∷ ws) x y ↔ OnlyFirstHolds (xs ++ ys) (vs ++ ws) x y
strike_both first is xs ys vs ws b order there x y =
    let one = middle xs ys b x y in
    let two = middle vs ws b x y in (
      λ h. (⊎_elim (λ i. absurd (h.1 (two.1 (inl i)))) (λ k. k) (one.0 h.0), λ k. h.1 (two.1 (inr k))),
      λ h. (one.1 (inr h.0), λ k. ⊎_elim (λ i. not_both h.0 i) (λ m. h.1 m) (two.0 k)),
    )
  where
    not_both : RowsHold (xs ++ ys) x y → InRow b x y → ⊥
    not_both h i = stands_once xs ys b h.0 order h.1
        ((is.normal).once h.0 b x y (there h.0 (middle_among xs ys b h.0 h.1)) (there b (append_second xs (b ∷ ys) b (inl refl))) h.2 i)

-- what was kept and what is left of both lists
pub record AreStriking (first second kept left cuts right : List Row) : Type 0 where
  pub order : Ordered RowBefore (kept ++ left)
  pub cuts_order : Ordered RowBefore (cuts ++ right)
  pub there : (r : Row) → Among (kept ++ left) r → Among first r
  pub cuts_there : (r : Row) → Among (cuts ++ right) r → Among second r
  pub same : (x y : Point) → OnlyFirstHolds (kept ++ left) (cuts ++ right) x y ↔ OnlyFirstHolds first second x y

pub striking_start : (first second kept cuts : List Row) → kept ≡ [] → cuts ≡ [] → IsRelation first → Ordered RowBefore second → AreStriking first second kept first cuts second
striking_start first second kept cuts e f is order =
    let P : List Row → Type 0 = λ v. AreStriking first second v first cuts second in
    let Q : List Row → Type 0 = λ v. AreStriking first second [] first v second in
    subst P (sym e) (subst Q (sym f) (record { order = (is.normal).order; cuts_order = order; there = λ r a. a; cuts_there = λ r a. a; same = λ x y. (λ h. h, λ h. h) }))

-- a row of both lists is passed in both
pub striking_both : (first second kept left cuts right rows others : List Row) (row other : Row) → left ≡ row ∷ rows → right ≡ other ∷ others → row ≡ other → IsRelation first
    → AreStriking first second kept left cuts right → AreStriking first second kept rows cuts others
striking_both first second kept left cuts right rows others row other e f g is s =
    let P : List Row → Type 0 = λ v. AreStriking first second kept v cuts right in
    let Q : List Row → Type 0 = λ v. AreStriking first second kept (row ∷ rows) cuts v in
    let S : Row → Type 0 = λ v. AreStriking first second kept (row ∷ rows) cuts (v ∷ others) in
    let h = subst S (sym g) (subst Q f (subst P e s)) in
    record {
      order = without_middle kept rows row h.order;
      cuts_order = without_middle cuts others row h.cuts_order;
      there = λ r a. h.there r (middle_among kept rows row r a);
      cuts_there = λ r a. h.cuts_there r (middle_among cuts others row r a);
      same = λ x y. let k = strike_both first is kept rows cuts others row h.order h.there x y in let m = h.same x y in (λ a. m.0 (k.1 a), λ a. k.0 (m.1 a));
    }

up_to_row : (o p : ℕ) (row r : Row) → KeyBefore o p row.source.0 row.target.0 → RowBefore row r → KeyBefore o p r.source.0 r.target.0
up_to_row o p row r k (inl b) = up_to_key _ _ _ _ _ _ k (inl b)
up_to_row o p row r k (inr b) = up_to_key _ _ _ _ _ _ k (inr (b.0, b.1))

moved : (done left rest done' : List Row) (row : Row) → left ≡ row ∷ rest → done' ≡ done ++ row ∷ [] → done ++ left ≡ done' ++ rest
moved done left rest done' row e f =
    subst (λ (v : List Row). done ++ left ≡ v ++ rest) (sym f) (subst (λ (v : List Row). done ++ left ≡ v) (sym (append_assoc done (row ∷ []) rest)) (subst (λ (v : List Row). done ++ left ≡ done ++ v) e refl))

pub striking_left : (first second kept left cuts right rows kept' : List Row) (row : Row) → left ≡ row ∷ rows → kept' ≡ kept ++ row ∷ [] → AreStriking first second kept left cuts right → AreStriking first second kept' rows cuts right
striking_left first second kept left cuts right rows kept' row e f s =
    let all = moved kept left rows kept' row e f in
    record {
      order = subst (λ (v : List Row). Ordered RowBefore v) all s.order;
      cuts_order = s.cuts_order;
      there = subst (λ (v : List Row). (r : Row) → Among v r → Among first r) all s.there;
      cuts_there = s.cuts_there;
      same = λ x y. subst (λ (v : List Row). OnlyFirstHolds v (cuts ++ right) x y ↔ OnlyFirstHolds first second x y) all (s.same x y);
    }

pub striking_right : (first second kept left cuts right others cuts' : List Row) (other : Row) → right ≡ other ∷ others → cuts' ≡ cuts ++ other ∷ [] → AreStriking first second kept left cuts right → AreStriking first second kept left cuts' others
striking_right first second kept left cuts right others cuts' other e f s =
    let all = moved cuts right others cuts' other e f in
    record {
      order = s.order;
      cuts_order = subst (λ (v : List Row). Ordered RowBefore v) all s.cuts_order;
      there = s.there;
      cuts_there = subst (λ (v : List Row). (r : Row) → Among v r → Among second r) all s.cuts_there;
      same = λ x y. subst (λ (v : List Row). OnlyFirstHolds (kept ++ left) v x y ↔ OnlyFirstHolds first second x y) all (s.same x y);
    }

-- a cut that comes by source and target after all rows that were kept, and before the next one, is passed over
pub striking_past : (first second kept left cuts right rows others : List Row) (row other : Row) → left ≡ row ∷ rows → right ≡ other ∷ others
    → KeyBefore other.source.0 other.target.0 row.source.0 row.target.0 → ((r : Row) → Among kept r → KeyBefore r.source.0 r.target.0 other.source.0 other.target.0)
    → AreStriking first second kept left cuts right → AreStriking first second kept left cuts others
striking_past first second kept left cuts right rows others row other e f behind before s =
    let P : List Row → Type 0 = λ v. AreStriking first second kept left cuts v in
    let h = subst P f s in
    record {
      order = h.order;
      cuts_order = without_middle cuts others other h.cuts_order;
      there = h.there;
      cuts_there = λ r a. h.cuts_there r (middle_among cuts others other r a);
      same = λ x y.
          let two = middle cuts others other x y in
          let m = h.same x y in (
            λ a. m.0 (a.0, λ k. ⊎_elim (λ i. none x y a.0 i) (λ j. a.1 j) (two.0 k)),
            λ a. let b = m.1 a in (b.0, λ k. b.1 (two.1 (inr k))),
          );
    }
  where
    later : (r : Row) → Among left r → KeyBefore other.source.0 other.target.0 r.source.0 r.target.0
    later r a = ⊎_elim
        (λ (g : row ≡ r). subst (λ (v : Row). KeyBefore other.source.0 other.target.0 v.source.0 v.target.0) g behind)
        (λ i. up_to_row _ _ row r behind ((subst (λ (v : List Row). Ordered RowBefore v) e (ordered_second RowBefore kept left s.order)).0 r i))
        (subst (λ (v : List Row). Among v r) e a)

    none : (x y : Point) → RowsHold (kept ++ left) x y → InRow other x y → ⊥
    none x y h i =
        let j = h.2 in
        ⊎_elim
        (λ a. key_apart _ _ _ _ (before h.0 a) (j.source ∙ sym i.source) (j.target ∙ sym i.target))
        (λ a. key_apart _ _ _ _ (later h.0 a) (i.source ∙ sym j.source) (i.target ∙ sym j.target))
        (among_append kept left h.0 h.1)

-- so are more of them
pub striking_past_more : (first second kept left cuts others later rows : List Row) (row other : Row) (n : ℕ) → left ≡ row ∷ rows → later ≡ drop n others → n ≤ length others
    → IsPartitionPoint (λ (r : Row). comes_before r row.source.0 row.target.0 ≡ true) (λ (r : Row). comes_before r row.source.0 row.target.0 ≡ false) others n
    → ((r : Row) → Among others r → RowBefore other r) → ((r : Row) → Among kept r → KeyBefore r.source.0 r.target.0 other.source.0 other.target.0)
    → AreStriking first second kept left cuts others → AreStriking first second kept left cuts later
striking_past_more first second kept left cuts others later rows row other n e f bound point up before s =
    subst (λ (v : List Row). AreStriking first second kept left cuts v) (sym f)
    (each n others s (λ r a. comes_is r _ _ (among_before (λ (v : Row). comes_before v row.source.0 row.target.0 ≡ true) others n bound point.0 r a))
    (λ k r i a. up_to_row _ _ other r (before k i) (up r (front_among others n r a))))
  where
    each : (m : ℕ) (cs : List Row) → AreStriking first second kept left cuts cs → ((r : Row) → Among (take m cs) r → KeyBefore r.source.0 r.target.0 row.source.0 row.target.0)
        → ((k r : Row) → Among kept k → Among (take m cs) r → KeyBefore k.source.0 k.target.0 r.source.0 r.target.0) → AreStriking first second kept left cuts (drop m cs)
    each zero cs h behind apart = h
    each (suc m) [] h behind apart = h
    each (suc m) (c ∷ cs) h behind apart =
        each m cs (striking_past first second kept left cuts (c ∷ cs) rows cs row c e refl (behind c (inl refl)) (λ k i. apart k c i (inl refl)) h)
        (λ r a. behind r (inr a)) (λ k r i a. apart k r i (inr a))

-- what comes before the last row, by source and target, comes after all
pub all_come : (rows : List Row) → Ordered RowBefore rows → (n : ℕ) (d : Row) (o p : ℕ) → n ≡ length rows → 0 < n → comes_before (get_or rows (n - 1) d) o p ≡ true
    → (r : Row) → Among rows r → KeyBefore r.source.0 r.target.0 o p
all_come rows order n d o p is some last r a =
    let w = place_of rows r a in
    let within : n - 1 < length rows = omega (arith, is, some) in
    let same = w.2 d in
    let place = w.1 in
    comes_is r o p (elim (at_most (n - 1) w.0) [
      | inl le ↦ (
          let at : w.0 ≡ n - 1 = omega (arith, le, place, is, some) in
          subst (λ (v : Row). comes_before v o p ≡ true) same (subst (λ (k : ℕ). comes_before (get_or rows k d) o p ≡ true) (sym at) last)
          )
      | inr gt ↦ subst (λ (v : Row). comes_before v o p ≡ true) same
          (coming_down o p (get_or rows w.0 d) (get_or rows (n - 1) d) (ordered_by_place RowBefore rows order w.0 (n - 1) d (omega (arith, gt)) within) last)
    ])

-- what is left of both is kept too
pub record AreStruck (first second kept cuts : List Row) : Type 0 where
  pub order : Ordered RowBefore kept
  pub cuts_order : Ordered RowBefore cuts
  pub there : (r : Row) → Among kept r → Among first r
  pub cuts_there : (r : Row) → Among cuts r → Among second r
  pub same : (x y : Point) → OnlyFirstHolds kept cuts x y ↔ OnlyFirstHolds first second x y

pub striking_end : (first second kept left cuts right kept' cuts' : List Row) → kept' ≡ kept ++ left → cuts' ≡ cuts ++ right → AreStriking first second kept left cuts right → AreStruck first second kept' cuts'
striking_end first second kept left cuts right kept' cuts' e f s =
    let P : List Row → Type 0 = λ v. AreStruck first second v cuts' in
    let Q : List Row → Type 0 = λ v. AreStruck first second (kept ++ left) v in
    subst P (sym e) (subst Q (sym f) (record { order = s.order; cuts_order = s.cuts_order; there = s.there; cuts_there = s.cuts_there; same = s.same }))

-- of two equal lists nothing is left
pub none_left : (first second : List Row) → first ≡ second → NormalRows (OnlyFirstHolds first second) []
none_left first second e = record {
  whole = λ x y h. absurd (h.1 (subst (λ (v : List Row). RowsHold v x y) e h.0));
  once = λ r s x y i j m n. absurd i;
  each = λ r i. absurd i;
  order = tt;
}
