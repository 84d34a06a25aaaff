-- Places at which the rows from an object begin.
use Rattle.std.proofs.Common.{◌≡◌, ◌↔◌, ◌⊎◌, inl, inr, ⊎_elim, ℕ, zero, suc, ◌+◌, ◌-◌, ◌<◌, ◌≤◌, List, [], ◌∷◌, ◌++◌, length, get_or, take, drop, Some, refl, sym, ap, subst, arith}
use Rattle.std.specs.Prelude.{slice_get, slice_range}
use Rattle.std.proofs.lemmas.Bool.Decides.{leb_tells}
use Rattle.std.proofs.lemmas.List.{length-take, length-drop, take_all, get_or-take, get_or-drop, get_or_default, drop-take}
use Rattle.std.proofs.lemmas.List.Folds.{drop_split}
use Rattle.itpg_base.specs.Lists.{Among, Ordered}
use Rattle.itpg_base.proofs.Lists.{among_at, ordered_from, ordered_first, among_append, append_first}
use Rattle.relation_rows.specs.declared.rows.Row.{Row}
use Rattle.relation_rows.specs.Rows.{RowBefore}
use Rattle.relation_rows.specs.Offsets.{IsBegin, AreBegins, IsFilled}
use Rattle.relation_rows.proofs.Partitions.{among_more, among_either, front_among, rest_among, rest_ordered}
use Rattle.relation_rows.proofs.SearchLemmas.{less_apart, place_is_point}
use Rattle.relation_rows.proofs.Sources.{source_up}

-- none are listed
pub none_listed : (rows : List Row) (first : ℕ) (begins : List ℕ) → begins ≡ [] → AreBegins rows first begins
none_listed rows first [] e k place at = absurd (let never : ⊥ = cc in never)
none_listed rows first (b ∷ begins) e k place at = absurd (let never : ⊥ = cc in never)

-- what a place of a longer list has
pub pushed_at : {X : Type 0} (xs : List X) (x y : X) (k : ℕ) → slice_get (xs ++ x ∷ []) k ≡ Some y → (slice_get xs k ≡ Some y) ⊎ ((k ≡ length xs) × (x ≡ y))
pushed_at [] x y zero at = inr (refl, let e : x ≡ y = cc in e)
pushed_at [] x y (suc k) at = absurd (let never : ⊥ = cc in never)
pushed_at (z ∷ zs) x y zero at = inl at
pushed_at (z ∷ zs) x y (suc k) at = ⊎_elim (λ e. inl e) (λ e. inr (ap suc e.0, e.1)) (pushed_at zs x y k at)

module _ (rows : List Row) (first : ℕ) (old new : List ℕ) (count place : ℕ) (filled : IsFilled count place old new)
    (listed : AreBegins rows first old) (within : place ≤ length rows)
    (passed : (r : Row) → Among (take place rows) r → r.source.0 < first + length old)
    (ahead : (k : ℕ) → k < count → (r : Row) → Among (drop place rows) r → first + k ≤ r.source.0) where
  pub filled_begins : AreBegins rows first new
  filled_begins k other at = ⊎_elim
      (λ e. listed k other e)
      (λ e. subst (λ (v : ℕ). IsBegin rows (first + k) v) (sym e.0) (record {
        within = within;
        before = λ r a. let low = passed r a in let late = e.1 in omega arith;
        behind = λ r a. ahead k e.2 r a;
      }))
      (filled.each k other at)

-- one more row is passed
module _ (rows : List Row) (first : ℕ) (old new : List ℕ) (place : ℕ) (d : Row) (order : Ordered RowBefore rows) (lt : place < length rows) (low : first ≤ (get_or rows place d).source.0)
    (filled : IsFilled ((get_or rows place d).source.0 - first + 1) place old new) (listed : AreBegins rows first old) (passed : (r : Row) → Among (take place rows) r → r.source.0 < first + length old) where
  ahead : (k : ℕ) → k < (get_or rows place d).source.0 - first + 1 → (r : Row) → Among (drop place rows) r → first + k ≤ r.source.0
  ahead k few r a = ⊎_elim
      (λ e. let same : (get_or rows place d).source.0 ≡ r.source.0 = ap (λ (v : Row). v.source.0) e in omega arith)
      (λ b. let up = source_up (get_or rows place d) r b in omega arith)
      (ordered_from RowBefore rows place d order lt r a)

  pub more_begins : AreBegins rows first new
  more_begins = filled_begins rows first old new ((get_or rows place d).source.0 - first + 1) place filled listed (omega arith) passed ahead

  pub more_passed : (r : Row) → Among (take (place + 1) rows) r → r.source.0 < first + length new
  more_passed r a = ⊎_elim
      (λ b. let l = passed r b in let longer = filled.longer in omega arith)
      (λ (e : get_or rows place d ≡ r). let same : (get_or rows place d).source.0 ≡ r.source.0 = ap (λ (v : Row). v.source.0) e in let many = filled.many in omega arith)
      (among_more rows place (get_or rows place d) r lt (get_or_default rows place d (get_or rows place d) lt) a)

-- all rows are passed
pub all_begins : (rows : List Row) (first : ℕ) (old new : List ℕ) (place : ℕ) → length rows ≤ place → (count : ℕ) → count ≡ length old + 1 → IsFilled count (length rows) old new
    → AreBegins rows first old → ((r : Row) → Among (take place rows) r → r.source.0 < first + length old) → AreBegins rows first new
all_begins rows first old new place le count counted filled listed passed =
    filled_begins rows first old new count (length rows) filled listed (omega arith)
    (λ r a. passed r (subst (λ (v : List Row). Among v r) (sym (take_all place rows le)) (front_among rows (length rows) r a)))
    (λ k few r a. absurd (subst (λ (v : List Row). Among v r) (none_behind rows) a))
  where
    none_behind : (xs : List Row) → drop (length xs) xs ≡ []
    none_behind [] = refl
    none_behind (x ∷ xs) = none_behind xs

-- the rows from an object stand from its place to the next
module _ (rows : List Row) (o begin end : ℕ) (here : IsBegin rows o begin) (next : IsBegin rows (o + 1) end) where
  pub begin_first : begin ≤ end
  begin_first = elim (leb_tells begin end) [ inl e ↦ e.1 | inr n ↦ absurd (crossed (let late = n.1 in omega arith)) ]
    where
      some : (xs : List Row) → 0 < length xs → Row
      some [] l = absurd (omega (arith, l))
      some (x ∷ xs) l = x

      crossed : end < begin → ⊥
      crossed late =
          let within = here.within in
          let d = some rows (omega arith) in
          let early = here.before (get_or rows end d) (subst (Among (take begin rows)) (get_or-take begin rows end d late) (among_at (take begin rows) end d (omega (arith, length-take begin rows)))) in
          let behind = next.behind (get_or rows (end + 0) d) (subst (Among (drop end rows)) (get_or-drop end rows 0 d) (among_at (drop end rows) 0 d (omega (arith, length-drop end rows)))) in
          let same : (get_or rows (end + 0) d).source.0 ≡ (get_or rows end d).source.0 = ap (λ (v : ℕ). (get_or rows v d).source.0) (omega arith) in
          omega arith

  split : drop begin rows ≡ slice_range rows begin end ++ drop end rows
  split = drop_split rows begin end begin_first

  pub between_rows : (r : Row) → Among (slice_range rows begin end) r ↔ (Among rows r × (r.source.0 ≡ o))
  between_rows r = (
    λ a.
        let b = subst (λ (v : List Row). Among v r) (sym split) (append_first (slice_range rows begin end) (drop end rows) r a) in
        let late = here.behind r b in
        let early = next.before r (in_front r a) in
        (rest_among rows begin r b, omega arith),
    λ h. ⊎_elim
        (λ b. absurd (let l = here.before r b in let e = h.1 in omega arith))
        (λ b. ⊎_elim (λ k. k) (λ k. absurd (let l = next.behind r k in let e = h.1 in omega arith)) (among_append (slice_range rows begin end) (drop end rows) r (subst (λ (v : List Row). Among v r) split b)))
        (among_either rows begin r h.0),
  )
    where
      in_front : (s : Row) → Among (slice_range rows begin end) s → Among (take end rows) s
      in_front s a =
          let long : begin + (end - begin) ≡ end = (let le = begin_first in omega arith) in
          let moved = subst (λ (v : ℕ). drop begin (take v rows) ≡ take (end - begin) (drop begin rows)) long (drop-take begin (end - begin) rows) in
          rest_among (take end rows) begin s (subst (λ (v : List Row). Among v s) (sym moved) a)

  pub between_order : Ordered RowBefore rows → Ordered RowBefore (slice_range rows begin end)
  between_order order = ordered_first RowBefore (slice_range rows begin end) (drop end rows) (subst (λ (v : List Row). Ordered RowBefore v) split (rest_ordered RowBefore rows begin order))

-- where the source rises from one row to the next, all sources before are lower than those behind
pub boundary_apart : (rows : List Row) → Ordered RowBefore rows → (n : ℕ) (e : Row) → n < length rows → (get_or rows (n - 1) e).source.0 < (get_or rows n e).source.0
    → (r s : Row) → Among (take n rows) r → Among (drop n rows) s → r.source.0 < s.source.0
boundary_apart rows order n e lt rise =
    less_apart (λ (r : Row). r.source.0) (get_or rows n e).source.0 rows n (omega arith)
    (place_is_point (λ (r : Row). r.source.0) (get_or rows n e).source.0 RowBefore source_up rows order n e lt (omega arith) (inr rise))
