-- A list in parts: before some places, between them and after them.
use Rattle.std.proofs.Common.{◌≡◌, ℕ, ◌+◌, ◌-◌, ◌≤◌, List, ◌++◌, length, take, drop, map, slice_get, Option, Some, None, option_to_list, option_map, refl, sym, subst, ap, arith, ◌∙◌}
use Rattle.std.proofs.lemmas.List.{take-append-drop, drop-drop, map-append, take-map, drop-map, length-map}
use Rattle.interval_set.specs.Splices.{replaced}

pub three_parts : {X : Type 0} (xs : List X) (first last : ℕ) → first ≤ last → take first xs ++ (take (last - first) (drop first xs) ++ drop last xs) ≡ xs
three_parts xs first last le =
    let same : first + (last - first) ≡ last = omega arith in
    let tail = subst (λ (i : ℕ). take (last - first) (drop first xs) ++ drop i xs ≡ drop first xs) same
    (subst (λ ys. take (last - first) (drop first xs) ++ ys ≡ drop first xs) (drop-drop (last - first) first xs) (take-append-drop (last - first) (drop first xs))) in
    ap (λ ys. take first xs ++ ys) tail ∙ take-append-drop first xs

option_to_list-map : {X Y : Type 0} (f : X → Y) (o : Option X) → map f (option_to_list o) ≡ option_to_list (option_map f o)
option_to_list-map f None = refl
option_to_list-map f (Some x) = refl

-- a splice of items, and of what they are mapped to
pub replaced-map : {X Y : Type 0} (f : X → Y) (first last : ℕ) (before own after : Option X) (xs : List X)
    → map f (replaced first last before own after xs) ≡ replaced first last (option_map f before) (option_map f own) (option_map f after) (map f xs)
replaced-map f first last before own after xs = simp (map-append, option_to_list-map, take-map, drop-map)

-- the middle of a list, and its last item, of what the items are mapped to
pub middle-map : {X Y : Type 0} (f : X → Y) (n m : ℕ) (xs : List X) → map f (take n (drop m xs)) ≡ take n (drop m (map f xs))
middle-map f n m xs = sym (ap (take n) (drop-map f m xs) ∙ take-map f n (drop m xs))

pub last-map : {X Y : Type 0} (P : Option Y → Type 0) (f : X → Y) (xs : List X) (ys : List Y) → map f xs ≡ ys → P (slice_get (map f xs) (length xs - 1)) → P (slice_get ys (length ys - 1))
last-map P f xs ys e p =
    subst (λ (zs : List _). P (slice_get zs (length zs - 1))) e (subst (λ (n : ℕ). P (slice_get (map f xs) (n - 1))) (sym (length-map xs f)) p)
