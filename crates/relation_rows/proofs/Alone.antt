-- Rows of one list that come by source and target before all others of two lists, taken together.
use Rattle.std.proofs.Common.{◌≡◌, ◌⊎◌, inl, inr, ⊎_elim, ℕ, ◌<◌, ◌≤◌, List, [], ◌∷◌, ◌++◌, length, take, drop, Some, None, refl, sym, ◌∙◌, ap, subst, arith, true, false, true≢false}
use Rattle.std.specs.Prelude.{slice_get}
use Rattle.std.specs.List.Sorted.{IsPartitionPoint}
use Rattle.std.proofs.lemmas.List.{length-drop}
use Rattle.itpg_base.specs.Points.{Point}
use Rattle.itpg_base.specs.Lists.{Among, Ordered}
use Rattle.itpg_base.proofs.Lists.{among_append}
use Rattle.relation_rows.specs.declared.rows.Row.{Row}
use Rattle.relation_rows.specs.Rows.{between, HasKey, RowsHold, RowBefore, KeyBefore, IsWide, IsRelation}
use Rattle.relation_rows.specs.Relations.{EitherHolds}
use Rattle.relation_rows.specs.Searching.{comes_before}
use Rattle.relation_rows.specs.Uniting.{KeyUpTo, ComeFirst}
use Rattle.relation_rows.proofs.Listed.{Listed, join, wide_early, key_apart, key_either}
use Rattle.relation_rows.proofs.Alike.{row_alike}
use Rattle.relation_rows.proofs.Keys.{comes_is, is_coming}
use Rattle.relation_rows.proofs.Merged.{AllLater, HasUnited, all_up, before_up}
use Rattle.relation_rows.proofs.Partitions.{among_before, among_behind, among_either, front_among, rest_among, rest_ordered, front_ordered, no_first}

at_key : (o p q r : ℕ) (s : Row) → KeyBefore o p s.source.0 s.target.0 → HasKey s q r → KeyBefore o p q r
at_key o p q r s b k = subst (λ (v : ℕ). KeyBefore o p v r) k.0 (subst (λ (v : ℕ). KeyBefore o p s.source.0 v) k.1 b)

from_key : (o p q r : ℕ) (s : Row) → KeyBefore s.source.0 s.target.0 q r → HasKey s o p → KeyBefore o p q r
from_key o p q r s b k = subst (λ (v : ℕ). KeyBefore v p q r) k.0 (subst (λ (v : ℕ). KeyBefore s.source.0 v q r) k.1 b)

module _ (first second left right rows : List Row) (g : HasUnited first second left right rows) (is : IsRelation first) (n : ℕ) (come : ComeFirst left right n) where
  abbrev Taken : ℕ → ℕ → Type 0
  Taken o p = (r : Row) × Among (take n left) r × HasKey r o p

  abbrev Later : ℕ → ℕ → Type 0
  Later = AllLater (drop n left) right

  before_rest : (r : Row) → Among (take n left) r → Later r.source.0 r.target.0
  before_rest r a s b = ⊎_elim (λ d. come.later r s a d) (λ d. come.others r s a d) b

  -- no key of the taken rows was passed, or comes later
  not_passed : (r : Row) → Among (take n left) r → (o p : ℕ) → HasKey r o p → AllLater left right o p → ⊥
  not_passed r a o p k all = key_apart _ _ _ _ (all r (inl (front_among left n r a))) (sym k.0) (sym k.1)

  not_later : (r s : Row) → Among (take n left) r → Among (drop n left) s ⊎ Among right s → HasKey r s.source.0 s.target.0 → ⊥
  not_later r s a b k = key_apart _ _ _ _ (before_rest r a s b) k.0 k.1

  only_first : (r : Row) → Among (take n left) r → (x y : Point) → HasKey r x.object y.object → EitherHolds first second x y → RowsHold first x y
  only_first r a x y k (inl h) = h
  only_first r a x y k (inr h) =
      let i = h.2 in
      let l : HasKey r (h.0).source.0 (h.0).target.0 = (k.0 ∙ sym i.source, k.1 ∙ sym i.target) in
      absurd (⊎_elim (λ all. not_passed r a _ _ l all) (λ b. not_later r h.0 a (inr b) l) (g.right_each h.0 h.1))

  taken_in_first : (r : Row) → Among (take n left) r → Among first r
  taken_in_first r a = g.left_there r (front_among left n r a)

  -- a row of the first list that has the key of a taken row is taken
  is_taken : (t s : Row) → Among (take n left) t → Among first s → HasKey t s.source.0 s.target.0 → Among (take n left) s
  is_taken t s a b k = ⊎_elim
      (λ all. absurd (not_passed t a _ _ k all))
      (λ c. ⊎_elim (λ d. d) (λ d. absurd (not_later t s a (inl d) k)) (among_either left n s c))
      (g.left_each s b)

  taken_listed : Listed (EitherHolds first second) Taken (take n left)
  taken_listed = record {
    whole = λ x y t h.
        let m = only_first t.0 t.1 x y t.2 h in
        let i = m.2 in
        (m.0, is_taken t.0 m.0 t.1 m.1 ((t.2).0 ∙ sym i.source, (t.2).1 ∙ sym i.target), i);
    keys = λ r i. (r, i, (refl, refl));
    once = λ r s x y i j. (is.normal).once r s x y (taken_in_first r i) (taken_in_first s j);
    each = λ r i. row_alike (between (RowsHold first) r.source.0 r.target.0) (between (EitherHolds first second) r.source.0 r.target.0)
        (λ t u h. inl h)
        (λ t u h. only_first r i _ _ (refl, refl) h)
        r.band ((is.normal).each r (taken_in_first r i));
    order = front_ordered RowBefore left n g.left_order;
  }

  fewer : (o p : ℕ) → AllLater left right o p → Later o p
  fewer o p all s a = all s (⊎_elim (λ b. inl (rest_among left n s b)) (λ b. inr b) a)

  taken_later : (o p : ℕ) → Taken o p → Later o p
  taken_later o p t s a = from_key o p s.source.0 s.target.0 t.0 (before_rest t.0 t.1 s a) t.2

  -- a pair whose key comes before the rest was listed, or is in a taken row
  either_listed : (x y : Point) → EitherHolds first second x y → Later x.object y.object → AllLater left right x.object y.object ⊎ Taken x.object y.object
  either_listed x y (inl h) later =
      let i = h.2 in
      ⊎_elim
      (λ all. inl (λ s a. from_key _ _ _ _ h.0 (all s a) (i.source, i.target)))
      (λ b. ⊎_elim (λ c. inr (h.0, c, (i.source, i.target))) (λ d. absurd (key_apart _ _ _ _ (later h.0 (inl d)) (sym i.source) (sym i.target))) (among_either left n h.0 b))
      (g.left_each h.0 h.1)
  either_listed x y (inr h) later =
      let i = h.2 in
      ⊎_elim
      (λ all. inl (λ s a. from_key _ _ _ _ h.0 (all s a) (i.source, i.target)))
      (λ b. absurd (key_apart _ _ _ _ (later h.0 (inr b)) (sym i.source) (sym i.target)))
      (g.right_each h.0 h.1)

  joined : Listed (EitherHolds first second) (λ o p. AllLater left right o p ⊎ Taken o p) (rows ++ take n left)
  joined = join (EitherHolds first second) (AllLater left right) Taken rows (take n left) g.listed taken_listed
      (λ o p q r all t. at_key o p q r t.0 (all t.0 (inl (front_among left n t.0 t.1))) t.2)

  pub alone_listed : Listed (EitherHolds first second) Later (rows ++ take n left)
  alone_listed =
      let j = joined in
      record {
        whole = λ x y k h. j.whole x y (either_listed x y h k) h;
        keys = λ r i. ⊎_elim (λ a. fewer _ _ a) (λ t. taken_later _ _ t) (j.keys r i);
        once = j.once;
        each = j.each;
        order = j.order;
      }

  pub alone_united : HasUnited first second (drop n left) right (rows ++ take n left)
  alone_united = record {
    listed = alone_listed;
    formed = λ r i. ⊎_elim (λ a. g.formed r a) (λ a. is.formed r (taken_in_first r a)) (among_append rows (take n left) r i);
    left_order = rest_ordered RowBefore left n g.left_order;
    right_order = g.right_order;
    left_there = λ r a. g.left_there r (rest_among left n r a);
    right_there = g.right_there;
    left_each = λ r a. ⊎_elim (λ all. inl (fewer _ _ all)) (λ b. ⊎_elim (λ t. inl (before_rest r t)) (λ d. inr d) (among_either left n r b)) (g.left_each r a);
    right_each = λ r a. ⊎_elim (λ all. inl (fewer _ _ all)) (λ b. inr b) (g.right_each r a);
  }

-- the same in the words of the loop
module _ (first second left right rows : List Row) (g : HasUnited first second left right rows) (is : IsRelation first) (n : ℕ) (come : ComeFirst left right n)
    (alone rest new : List Row) (front : alone ≡ take n left) (back : rest ≡ drop n left) (added : new ≡ rows ++ alone) where
  pub taken_united : HasUnited first second rest right new
  taken_united = subst (λ (v : List Row). HasUnited first second v right new) (sym back)
      (subst (λ (v : List Row). HasUnited first second (drop n left) right v) (sym (added ∙ ap (λ (v : List Row). rows ++ v) front)) (alone_united first second left right rows g is n come))

  pub taken_wide : (limit : ℕ) → limit < length new → IsWide (EitherHolds first second) limit
  taken_wide limit many = wide_early (EitherHolds first second) (AllLater rest right) new limit (taken_united).listed many

  pub taken_less : length rest ≤ length left
  taken_less = subst (λ (v : List Row). length v ≤ length left) (sym back) (let l = length-drop n left in omega (arith, l))

-- ---- how many rows come first

module _ (left right : List Row) (order : Ordered RowBefore left) (right_order : Ordered RowBefore right) where
  pub none_first : ComeFirst left right 0
  none_first = record { others = λ r s a. absurd a; later = λ r s a. absurd a }

  pub all_first : None ≡ slice_get right 0 → ComeFirst left right (length left)
  all_first none = record {
    others = λ r s a b. absurd (subst (λ (v : List Row). Among v s) (no_first right none) b);
    later = λ r s a b. absurd (nothing left s b);
  }
    where
      nothing : (xs : List Row) (s : Row) → Among (drop (length xs) xs) s → ⊥
      nothing [] s b = b
      nothing (x ∷ xs) s b = nothing xs s b

  pub some_first : (next : Row) → Some next ≡ slice_get right 0 → (n : ℕ) → n ≤ length left
      → IsPartitionPoint (λ (r : Row). comes_before r next.source.0 next.target.0 ≡ true) (λ (r : Row). comes_before r next.source.0 next.target.0 ≡ false) left n → ComeFirst left right n
  some_first next is n bound point = record {
    others = λ r s a b. before_up r next s (comes r a) (all_up right next right_order is s b);
    later = λ r s a b. before_up r next s (comes r a) (up s (among_behind (λ (v : Row). comes_before v next.source.0 next.target.0 ≡ false) left n bound point.1 s b));
  }
    where
      comes : (r : Row) → Among (take n left) r → KeyBefore r.source.0 r.target.0 next.source.0 next.target.0
      comes r a = comes_is r _ _ (among_before (λ (v : Row). comes_before v next.source.0 next.target.0 ≡ true) left n bound point.0 r a)

      up : (s : Row) → comes_before s next.source.0 next.target.0 ≡ false → KeyUpTo next s
      up s e = ⊎_elim
          (λ b. inl b)
          (λ b. ⊎_elim (λ c. absurd (true≢false (sym (is_coming s next.source.0 next.target.0 c) ∙ e))) (λ c. inr (sym c.0, sym c.1)) b)
          (key_either next.source.0 next.target.0 s.source.0 s.target.0)
