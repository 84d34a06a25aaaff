-- How many objects there are at a moment, by the rows that end by it or later, less those that begin after it.
use Rattle.std.proofs.Common.{◌≡◌, inl, inr, ⊎_elim, ℕ, ◌+◌, ◌<◌, ◌≤◌, ℤ, ◌≤ℤ◌, ◌<ℤ◌, List, [], ◌∷◌, ◌++◌, length, take, drop, Bool, true, false, ◌&&◌, cond, true≢false, refl, sym, ◌∙◌, ap, subst, arith}
use Rattle.std.specs.Prelude.{int_le, int_lt}
use Rattle.std.specs.List.{count_by}
use Rattle.std.specs.List.Sorted.{IsPermutation}
use Rattle.std.proofs.lemmas.List.Sorted.{sum_by-IsPermutation}
use Rattle.std.proofs.lemmas.List.Sums.{sum_by-cons}
use Rattle.std.proofs.lemmas.List.{take-append-drop}
use Rattle.std.proofs.lemmas.Int.{ints, by_lt_z}
use Rattle.std.proofs.lemmas.Bool.Decides.{Decides-ltb}
use Rattle.itpg_base.specs.Spans.{Within, IsSpan}
use Rattle.itpg_base.specs.Lists.{Among, Ordered}
use Rattle.itpg_base.proofs.Lists.{ordered_unique, permutation_among, among_permutation}
use Rattle.relation_rows.specs.declared.times.OneRow.{OneRow}
use Rattle.relation_rows.specs.Times.{TimesHold, TimeBefore, IsOneTime}
use Rattle.relation_rows.proofs.Partitions.{among_either, rest_among}
use Rattle.arrivals.specs.Counting.{HasSize}
use Rattle.arrivals.specs.Sweeping.{IsRest}

-- tests of numbers
pub is_le : (a b : ℤ) → int_le a b ≡ true → a ≤ℤ b
is_le a b e = grind (arith, ints, Decides-ltb)

pub le_true : (a b : ℤ) → a ≤ℤ b → int_le a b ≡ true
le_true a b h = grind (arith, ints, Decides-ltb)

pub le_false : (a b : ℤ) → b <ℤ a → int_le a b ≡ false
le_false a b h = grind (arith, ints, Decides-ltb)

pub not_le : (a b : ℤ) → int_le a b ≡ false → b <ℤ a
not_le a b e = grind (arith, ints, Decides-ltb)

pub lt_true : (a b : ℤ) → a <ℤ b → int_lt a b ≡ true
lt_true a b h = grind (arith, ints, Decides-ltb)

pub lt_false : (a b : ℤ) → b ≤ℤ a → int_lt a b ≡ false
lt_false a b h = grind (arith, ints, Decides-ltb)

pub is_lt : (a b : ℤ) → int_lt a b ≡ true → a <ℤ b
is_lt a b e = grind (arith, ints, Decides-ltb)

-- a set has one size
pub size_unique : (S : ℕ → Type 0) (n m : ℕ) → HasSize S n → HasSize S m → n ≡ m
size_unique S n m h k =
    let same = ordered_unique (λ (o p : ℕ). o < p) (λ o p a b. omega arith) h.members k.members h.rise k.rise (λ o i. k.whole o (h.each o i)) (λ o i. h.whole o (k.each o i)) in
    sym h.size ∙ ap (λ (v : List ℕ). length v) same ∙ k.size

pub size_like : (S T : ℕ → Type 0) (n : ℕ) → ((o : ℕ) → S o → T o) → ((o : ℕ) → T o → S o) → HasSize S n → HasSize T n
size_like S T n f g h = record { members = h.members; rise = h.rise; each = λ o i. f o (h.each o i); whole = λ o t. h.whole o (g o t); size = h.size }

pub count_cons : (p : OneRow → Bool) (r : OneRow) (rs : List OneRow) → count_by p (r ∷ rs) ≡ cond (p r) 1 0 + count_by p rs
count_cons p r rs = sum_by-cons (λ x. cond (p x) 1 0) r rs

count_yes : (p : OneRow → Bool) (r : OneRow) (rs : List OneRow) → p r ≡ true → count_by p (r ∷ rs) ≡ 1 + count_by p rs
count_yes p r rs e = count_cons p r rs ∙ ap (λ (v : Bool). cond v 1 0 + count_by p rs) e

count_no : (p : OneRow → Bool) (r : OneRow) (rs : List OneRow) → p r ≡ false → count_by p (r ∷ rs) ≡ count_by p rs
count_no p r rs e = count_cons p r rs ∙ ap (λ (v : Bool). cond v 1 0 + count_by p rs) e ∙ (omega arith)

-- the objects of the rows that have a moment
abbrev put : Bool → ℕ → List ℕ → List ℕ
put true o os = o ∷ os
put false o os = os

abbrev has : OneRow → ℤ → Bool
has r c = int_le r.span.from c && int_le c r.span.to

abbrev members : ℤ → List OneRow → List ℕ
members c [] = []
members c (r ∷ rs) = put (has r c) r.object.0 (members c rs)

-- the row begins after the moment; it doesn't end before it
abbrev pub waits : ℤ → OneRow → Bool
waits c r = int_lt c r.span.from

abbrev pub ends : ℤ → OneRow → Bool
ends c r = int_le c r.span.to

-- the row has the moment, or begins after it, or ends before it
data Case (r : OneRow) (c : ℤ) : Type 0 where
  there : Within c r.span → has r c ≡ true → waits c r ≡ false → ends c r ≡ true → Case r c
  after : c <ℤ r.span.from → has r c ≡ false → waits c r ≡ true → ends c r ≡ true → Case r c
  before : r.span.to <ℤ c → has r c ≡ false → waits c r ≡ false → ends c r ≡ false → Case r c

and_true : (a b : Bool) → a ≡ true → b ≡ true → (a && b) ≡ true
and_true a b e f = ap (λ (v : Bool). v && b) e ∙ f

and_first : (a b : Bool) → a ≡ false → (a && b) ≡ false
and_first a b e = ap (λ (v : Bool). v && b) e

and_second : (a b : Bool) → a ≡ true → b ≡ false → (a && b) ≡ false
and_second a b e f = ap (λ (v : Bool). v && b) e ∙ f

case_of : (r : OneRow) (c : ℤ) → IsSpan r.span → Case r c
case_of r c span = by_lt_z c r.span.from
    (λ lt. after lt (and_first _ _ (le_false r.span.from c lt)) (lt_true c r.span.from lt) (le_true c r.span.to (omega (arith, ints))))
    (λ le. let e = le_true r.span.from c le in by_lt_z r.span.to c
    (λ lt. let f = le_false c r.span.to lt in before lt (and_second _ _ e f) (lt_false c r.span.from le) f)
    (λ up. let f = le_true c r.span.to up in there (record { begun = le; going = up }) (and_true _ _ e f) (lt_false c r.span.from le) f))

-- a row that is behind this object
record Behind (rs : List OneRow) (c : ℤ) (o : ℕ) : Type 0 where
  row : OneRow
  among : Among rs row
  object : row.object.0 ≡ o
  within : Within c row.span

module _ (c : ℤ) where
  member_of : (rs : List OneRow) → ((r : OneRow) → Among rs r → IsSpan r.span) → (o : ℕ) → Among (members c rs) o → Behind rs c o
  member_of [] spans o h = absurd h
  member_of (r ∷ rs) spans o h = elim (case_of r c (spans r (inl refl))) [
    | there w e a b ↦ ⊎_elim
        (λ f. record { row = r; among = inl refl; object = f; within = w })
        (λ k. let m = member_of rs (λ s i. spans s (inr i)) o k in record { row = m.row; among = inr m.among; object = m.object; within = m.within })
        (subst (λ (v : Bool). Among (put v r.object.0 (members c rs)) o) e h)
    | after w e a b ↦ (let m = member_of rs (λ s i. spans s (inr i)) o (subst (λ (v : Bool). Among (put v r.object.0 (members c rs)) o) e h) in record { row = m.row; among = inr m.among; object = m.object; within = m.within })
    | before w e a b ↦ (let m = member_of rs (λ s i. spans s (inr i)) o (subst (λ (v : Bool). Among (put v r.object.0 (members c rs)) o) e h) in record { row = m.row; among = inr m.among; object = m.object; within = m.within })
  ]

  is_member : (rs : List OneRow) → ((r : OneRow) → Among rs r → IsSpan r.span) → (r : OneRow) → Among rs r → Within c r.span → Among (members c rs) r.object.0
  is_member [] spans r i w = absurd i
  is_member (s ∷ rs) spans r i w = elim (case_of s c (spans s (inl refl))) [
    | there x e a b ↦ subst (λ (v : Bool). Among (put v s.object.0 (members c rs)) r.object.0) (sym e)
        (⊎_elim (λ (g : s ≡ r). inl (ap (λ (v : OneRow). v.object.0) g)) (λ k. inr (is_member rs (λ q j. spans q (inr j)) r k w)) i)
    | after x e a b ↦ subst (λ (v : Bool). Among (put v s.object.0 (members c rs)) r.object.0) (sym e)
        (⊎_elim (λ (g : s ≡ r). absurd (let y = subst (λ (v : OneRow). Within c v.span) (sym g) w in let z = y.begun in omega (arith, ints))) (λ k. is_member rs (λ q j. spans q (inr j)) r k w) i)
    | before x e a b ↦ subst (λ (v : Bool). Among (put v s.object.0 (members c rs)) r.object.0) (sym e)
        (⊎_elim (λ (g : s ≡ r). absurd (let y = subst (λ (v : OneRow). Within c v.span) (sym g) w in let z = y.going in omega (arith, ints))) (λ k. is_member rs (λ q j. spans q (inr j)) r k w) i)
  ]

  members_rise : (rs : List OneRow) → ((r : OneRow) → Among rs r → IsSpan r.span) → Ordered TimeBefore rs → Ordered (λ (o p : ℕ). o < p) (members c rs)
  members_rise [] spans order = tt
  members_rise (r ∷ rs) spans order =
      let rest = members_rise rs (λ s i. spans s (inr i)) order.1 in
      elim (case_of r c (spans r (inl refl))) [
        | there w e a b ↦ subst (λ (v : Bool). Ordered (λ (o p : ℕ). o < p) (put v r.object.0 (members c rs))) (sym e) (
          λ o k.
              let m = member_of rs (λ s i. spans s (inr i)) o k in
              subst (λ (v : ℕ). r.object.0 < v) m.object (⊎_elim (λ l. l) (λ f. absurd (let x = w.going in let y = (m.within).begun in let z = f.1 in omega (arith, ints))) (order.0 m.row m.among)),
          rest,
        )
        | after w e a b ↦ subst (λ (v : Bool). Ordered (λ (o p : ℕ). o < p) (put v r.object.0 (members c rs))) (sym e) rest
        | before w e a b ↦ subst (λ (v : Bool). Ordered (λ (o p : ℕ). o < p) (put v r.object.0 (members c rs))) (sym e) rest
      ]

  number : (rs : List OneRow) → ((r : OneRow) → Among rs r → IsSpan r.span) → length (members c rs) + count_by (waits c) rs ≡ count_by (ends c) rs
  number [] spans = refl
  number (r ∷ rs) spans =
      let rest = number rs (λ s i. spans s (inr i)) in
      elim (case_of r c (spans r (inl refl))) [
        | there w e a b ↦ (let x = ap (λ (v : Bool). length (put v r.object.0 (members c rs))) e in let y = count_no (waits c) r rs a in let z = count_yes (ends c) r rs b in omega arith)
        | after w e a b ↦ (let x = ap (λ (v : Bool). length (put v r.object.0 (members c rs))) e in let y = count_yes (waits c) r rs a in let z = count_yes (ends c) r rs b in omega arith)
        | before w e a b ↦ (let x = ap (λ (v : Bool). length (put v r.object.0 (members c rs))) e in let y = count_no (waits c) r rs a in let z = count_no (ends c) r rs b in omega arith)
      ]

  pub fewer_wait : (times : List OneRow) → IsOneTime times → count_by (waits c) times ≤ count_by (ends c) times
  fewer_wait times one = let e = number times one.spans in omega arith

  -- so many objects have a row with the moment
  pub size_at : (times : List OneRow) → IsOneTime times → (n : ℕ) → n + count_by (waits c) times ≡ count_by (ends c) times → HasSize (λ o. TimesHold times o c) n
  size_at times one n sum = record {
    members = members c times;
    rise = members_rise times one.spans one.order;
    each = λ o i. let m = member_of times one.spans o i in (m.row, m.among, record { object = m.object; moment = m.within });
    whole = λ o h. let t = h.2 in subst (λ (v : ℕ). Among (members c times) v) t.object (is_member times one.spans h.0 h.1 t.moment);
    size = (let e = number times one.spans in omega arith);
  }

-- ---- what is left of the rows, as far as a test goes

-- the rows at which the test gives true, each as often as it stands in the list
pub record LeftOf (times : List OneRow) (so : OneRow → Bool) (left : List OneRow) : Type 0 where
  pub there : (r : OneRow) → Among left r → Among times r
  pub all : (r : OneRow) → Among left r → so r ≡ true
  pub whole : (r : OneRow) → Among times r → so r ≡ true → Among left r
  pub counts : (q : OneRow → Bool) → ((r : OneRow) → q r ≡ true → so r ≡ true) → count_by q times ≡ count_by q left

count_all : (q : OneRow → Bool) (rs : List OneRow) → ((r : OneRow) → Among rs r → q r ≡ true) → count_by q rs ≡ length rs
count_all q [] f = refl
count_all q (r ∷ rs) f = count_yes q r rs (f r (inl refl)) ∙ (let e = count_all q rs (λ s i. f s (inr i)) in omega arith)

count_none : (q : OneRow → Bool) (rs : List OneRow) → ((r : OneRow) → Among rs r → q r ≡ false) → count_by q rs ≡ 0
count_none q [] f = refl
count_none q (r ∷ rs) f = count_no q r rs (f r (inl refl)) ∙ count_none q rs (λ s i. f s (inr i))

count_append : (q : OneRow → Bool) (xs ys : List OneRow) → count_by q (xs ++ ys) ≡ count_by q xs + count_by q ys
count_append q [] ys = omega arith
count_append q (x ∷ xs) ys = count_cons q x (xs ++ ys) ∙ (let e = count_append q xs ys in let f = count_cons q x xs in omega arith)

pub left_number : (times : List OneRow) (so : OneRow → Bool) (left : List OneRow) → LeftOf times so left → count_by so times ≡ length left
left_number times so left l = l.counts so (λ r e. e) ∙ count_all so left l.all

pub left_all : (times sorted : List OneRow) → IsPermutation times sorted → (so : OneRow → Bool) → ((r : OneRow) → Among times r → so r ≡ true) → LeftOf times so sorted
left_all times sorted same so f = record {
  there = λ r i. permutation_among times sorted same r i;
  all = λ r i. f r (permutation_among times sorted same r i);
  whole = λ r i e. among_permutation times sorted same r i;
  counts = λ q g. sym (sum_by-IsPermutation (λ x. cond (q x) 1 0) times sorted same);
}

-- from a place on, where the test gives less
pub left_rest : (times : List OneRow) (so next gone : OneRow → Bool) (left rest : List OneRow) → LeftOf times so left → IsRest gone left rest
    → ((r : OneRow) → next r ≡ true → so r ≡ true) → ((r : OneRow) → gone r ≡ true → next r ≡ false) → ((r : OneRow) → gone r ≡ false → next r ≡ true) → LeftOf times next rest
left_rest times so next gone left rest l s less lost stays = subst (λ (v : List OneRow). LeftOf times next v) (sym s.is) (record {
  there = λ r i. l.there r (rest_among left s.place r i);
  all = λ r i. stays r (s.behind r i);
  whole = λ r i e. ⊎_elim
      (λ a. absurd (true≢false (sym e ∙ lost r (s.before r a))))
      (λ b. b)
      (among_either left s.place r (l.whole r i (less r e)));
  counts = λ q g.
      let none = count_none q (take s.place left) (λ r i. off q (q r) r refl (g r) (lost r (s.before r i))) in
      l.counts q (λ r e. less r (g r e)) ∙ ap (count_by q) (sym (take-append-drop s.place left)) ∙ count_append q (take s.place left) (drop s.place left) ∙ (omega arith);
})
  where
    off : (q : OneRow → Bool) (b : Bool) (r : OneRow) → q r ≡ b → (q r ≡ true → next r ≡ true) → next r ≡ false → q r ≡ false
    off q true r e g f = absurd (true≢false (sym (g e) ∙ f))
    off q false r e g f = e
