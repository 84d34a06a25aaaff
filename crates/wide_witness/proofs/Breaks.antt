-- Where it begins to be cut otherwise how far steps of one moment each lead, and the lists of these points.
use Rattle.std.proofs.Common.{◌≡◌, inl, inr, ⊎_elim, ℕ, ◌+◌, ◌*◌, pos, ◌+ℤ◌, ◌-ℤ◌, List, [], ◌∷◌, ◌++◌, length, map, refl, sym, ap, subst, arith}
use Rattle.itpg_base.specs.Decided.{Decided}
use Rattle.itpg_base.specs.Lists.{Among}
use Rattle.itpg_base.specs.Points.{Point}
use Rattle.itpg_base.proofs.Lists.{append_first, append_second}
use Rattle.itpg_base.proofs.Searches.{as_well, either}
use Rattle.relation_rows.specs.declared.rows.Row.{Row}
use Rattle.wide_witness.specs.Steps.{point}

pub among_map : {X Y : Type 0} (f : X → Y) (xs : List X) (x : X) → Among xs x → Among (map f xs) (f x)
among_map f [] x a = absurd a
among_map f (z ∷ zs) x (inl e) = inl (ap f e)
among_map f (z ∷ zs) x (inr a) = inr (among_map f zs x a)

pub map_among : {X Y : Type 0} (f : X → Y) (xs : List X) (y : Y) → Among (map f xs) y → (x : X) × Among xs x × (f x ≡ y)
map_among f [] y a = absurd a
map_among f (z ∷ zs) y (inl e) = (z, inl refl, e)
map_among f (z ∷ zs) y (inr a) = let w = map_among f zs y a in (w.0, inr w.1, w.2)

pub some_of : {X : Type 0} (P : X → Type 0) → ((x : X) → Decided (P x)) → (xs : List X) → Decided ((x : X) × Among xs x × P x)
some_of P each [] = inr (λ h. h.1)
some_of {X} P each (z ∷ zs) = as_well
    (λ h. ⊎_elim (λ p. (z, inl refl, p)) (λ k. (k.0, inr k.1, k.2)) h)
    (λ h. ⊎_elim (λ (e : z ≡ h.0). inl (subst P (sym e) h.2)) (λ a. inr (h.0, a, h.2)) h.1)
    (either (each z) (some_of P each zs))

-- the points of each row, one after the other
pub points_of : (Row → List Point) → List Row → List Point
points_of f [] = []
points_of f (r ∷ rs) = f r ++ points_of f rs

pub among_points : (f : Row → List Point) (rows : List Row) (r : Row) (p : Point) → Among rows r → Among (f r) p → Among (points_of f rows) p
unfolding points_of
among_points f [] r p a b = absurd a
among_points f (s ∷ rs) r p (inl e) b = append_first (f s) (points_of f rs) p (subst (λ (v : Row). Among (f v) p) (sym e) b)
among_points f (s ∷ rs) r p (inr a) b = append_second (f s) (points_of f rs) p (among_points f rs r p a b)

pub length_both : {X : Type 0} (xs ys : List X) → length (xs ++ ys) ≡ length xs + length ys
length_both [] ys = omega arith
length_both (x ∷ xs) ys = let e = length_both xs ys in omega (arith, e)

pub points_count : (f : Row → List Point) (k : ℕ) → ((r : Row) → length (f r) ≡ k) → (rows : List Row) → length (points_of f rows) ≡ k * length rows
unfolding points_of
points_count f k each [] = omega arith
points_count f k each (r ∷ rs) =
    let one = each r in
    let rest = points_count f k each rs in
    let all = length_both (f r) (points_of f rs) in
    omega (arith, one, rest, all)

-- the first moment of a row, and the next
unfoldable pub starts_of : Row → List Point
starts_of r = point r.source.0 r.band.from ∷ point r.source.0 (r.band.from +ℤ pos 1) ∷ []

-- where a stretch begins, where its last moment is as near as n steps reach, and where it is over; and each time the next moment
unfoldable pub bends_of : ℕ → Row → List Point
bends_of n r =
    let o = r.source.0 in
    let from = r.band.from in
    let over = r.band.to +ℤ pos 2 in
    point o from ∷ point o (from +ℤ pos 1) ∷ point o (over -ℤ pos n) ∷ point o ((over -ℤ pos n) +ℤ pos 1) ∷ point o over ∷ point o (over +ℤ pos 1) ∷ []
