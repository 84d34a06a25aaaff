-- What an iterator over a slice has left, where items are passed over.
use Rattle.std.proofs.Common.{◌≡◌, ◌<◌, ◌≤◌, inl, inr, ⊎_elim, refl, sym, subst, arith, Bor, Iter, List, [], ◌∷◌}
use Rattle.std.specs.Iterator.{Yields}
use Rattle.std.specs.Slice.Iter.{iter_rest, iter_steps}
use Rattle.itpg_base.specs.Lists.{Among, Ordered}
use Rattle.relation_rows.specs.declared.rows.Row.{Row}
use Rattle.relation_rows.specs.Rows.{RowBefore}

-- what is left after some items was left before them
pub left_before : {X : Type 0} (s t : Iter X) (xs : List (Bor X)) → Yields (iter_steps {A = X}) s xs t → (x : X) → Among (iter_rest t) x → Among (iter_rest s) x
left_before {X} s t [] h x a = subst (λ (v : Iter X). Among (iter_rest v) x) (sym h) a
left_before {X} s t (y ∷ ys) h x a = let next = h.0 in subst (λ (v : List X). Among v x) (sym h.1) (inr (left_before next t ys h.2 x a))

-- the item that comes was left before those that are passed over
pub item_left : {X : Type 0} (s t : Iter X) (xs : List (Bor X)) → Yields (iter_steps {A = X}) s xs t → (y : X) (rest : List X) → iter_rest t ≡ y ∷ rest → Among (iter_rest s) y
item_left {X} s t xs h y rest e = left_before s t xs h y (subst (λ (v : List X). Among v y) (sym e) (inl refl))

-- what is left behind it was left before them, too
pub rest_left : {X : Type 0} (s t : Iter X) (xs : List (Bor X)) → Yields (iter_steps {A = X}) s xs t → (y : X) (rest : List X) → iter_rest t ≡ y ∷ rest → (x : X) → Among rest x → Among (iter_rest s) x
rest_left {X} s t xs h y rest e x a = left_before s t xs h x (subst (λ (v : List X). Among v x) (sym e) (inr a))

-- what is left stands in the order in which it stood
pub ordered_left : {X : Type 0} (Before : X → X → Type 0) (s t : Iter X) (xs : List (Bor X)) → Yields (iter_steps {A = X}) s xs t → Ordered Before (iter_rest s) → Ordered Before (iter_rest t)
ordered_left {X} Before s t [] h o = subst (λ (v : Iter X). Ordered Before (iter_rest v)) h o
ordered_left {X} Before s t (y ∷ ys) h o = let behind = subst (λ (v : List X). Ordered Before v) h.1 o in ordered_left Before h.0 t ys h.2 behind.1

-- no row is before one of an earlier source
pub source_up : (r s : Row) → RowBefore r s → r.source.0 ≤ s.source.0
source_up r s (inl k) = ⊎_elim (λ (l : r.source.0 < s.source.0). omega (arith, l)) (λ e. let same = e.0 in omega (arith, same)) k
source_up r s (inr e) = let same = e.0 in omega (arith, same)
