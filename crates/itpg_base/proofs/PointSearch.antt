-- A graph has finitely many points: one of a kind can be searched for, and each point in a horizon has a number.
use Rattle.std.proofs.Common.{◌≡◌, ℕ, zero, suc, ◌+◌, ◌*◌, ◌/◌, ◌<◌, ℤ, pos, negsuc, ◌+ℤ◌, ◌-ℤ◌, ◌≤ℤ◌, ◌<ℤ◌, List, [], ◌∷◌, length, Option, Some, None, sym, ◌∙◌, ap, subst, arith, refl, inr}
use Rattle.std.proofs.lemmas.Int.{ints}
use Rattle.std.proofs.lemmas.Nat.{mul-add-lt, div-mul-add}
use Rattle.std.specs.Prelude.{IsSomeAnd, slice_get}
use Rattle.itpg_base.specs.Decided.{Decided}
use Rattle.itpg_base.specs.Spans.{Span, Within}
use Rattle.itpg_base.specs.Graphs.{Graph, Begun}
use Rattle.itpg_base.specs.Points.{Point, IsAt}
use Rattle.itpg_base.proofs.Searches.{both, as_well, if_some, is_true, not_after, same_number, same_moment, some_below, some_from}

pub there_below : {X : Type 0} (xs : List X) (o : ℕ) (P : X → Type 0) → IsSomeAnd (slice_get xs o) P → o < length xs
there_below [] o P h = absurd h
there_below (x ∷ xs) zero P h = omega arith
there_below (x ∷ xs) (suc o) P h = let below = there_below xs o P h in omega arith

-- a whole number that isn't negative, as one
abbrev natural : ℤ → ℕ
natural (pos n) = n
natural (negsuc n) = 0

natural_is : (z : ℤ) → pos 0 ≤ℤ z → pos (natural z) ≡ z
natural_is (pos n) h = refl
natural_is (negsuc n) h = absurd (omega (arith, ints))

-- the number of moments of a horizon
pub width : Span → ℕ
width h = suc (natural (h.to -ℤ h.from))

-- how far a moment of the horizon is from its first
record IsOffset (h : Span) (t : ℤ) (k : ℕ) : Type 0 where
  few : k < width h
  is : pos k ≡ t -ℤ h.from

offset_is : (h : Span) (t : ℤ) → Within t h → IsOffset h t (natural (t -ℤ h.from))
unfolding width
offset_is h t within =
    let begun = within.begun in
    let going = within.going in
    let is : pos (natural (t -ℤ h.from)) ≡ t -ℤ h.from = natural_is (t -ℤ h.from) (omega (arith, ints)) in
    let whole : pos (natural (h.to -ℤ h.from)) ≡ h.to -ℤ h.from = natural_is (h.to -ℤ h.from) (omega (arith, ints)) in
    record { few = omega (arith, ints); is = is }

-- the horizon of a graph that has begun has each of its points' moments
pub in_horizon : (g : Graph) (b : Begun) (x : Point) → g.begun ≡ Some b → IsAt g x → Within x.moment b.horizon
in_horizon g b x begun at = subst (λ (w : Option Begun). IsSomeAnd w (λ v. Within x.moment v.horizon)) begun at.within

-- a graph that hasn't begun has no point
pub no_point : (g : Graph) (x : Point) → g.begun ≡ None → IsAt g x → ⊥
no_point g x none at = subst (λ (w : Option Begun). IsSomeAnd w (λ v. Within x.moment v.horizon)) none at.within

stands_below : (g : Graph) (x : Point) → IsAt g x → x.object < length g.objects
stands_below g x at = there_below g.objects x.object _ at.stands

-- it is decided whether the span has the moment
pub within_span : (t : ℤ) (s : Span) → Decided (Within t s)
within_span t s = as_well (λ h. record { begun = h.0; going = h.1 }) (λ h. (h.begun, h.going)) (both (not_after s.from t) (not_after t s.to))

-- it is decided whether it is a point of the graph
pub point_at : (g : Graph) (x : Point) → Decided (IsAt g x)
point_at g x =
    as_well (λ h. record { stands = h.0; within = h.1 }) (λ h. (h.stands, h.within))
    (both (if_some (slice_get g.objects x.object) _ (λ o. is_true o.standing)) (if_some g.begun _ (λ b. within_span x.moment b.horizon)))

-- it is decided whether some point of the graph is so
pub some_point : (g : Graph) (P : Point → Type 0) → ((x : Point) → Decided (P x)) → ((x : Point) → P x → IsAt g x) → Decided ((x : Point) × P x)
unfolding width
some_point g P each inside = search g.begun refl
  where
    search : (begun : Option Begun) → g.begun ≡ begun → Decided ((x : Point) × P x)
    search None none = inr (λ h. no_point g h.0 none (inside h.0 h.1))
    search (Some b) begun = as_well
        (λ h. (record { object = h.0; moment = h.2.0 }, h.2.3))
        (λ h.
        let at = inside h.0 h.1 in
        let within = in_horizon g b h.0 begun at in
        let from = within.begun in
        let offset = offset_is b.horizon (h.0).moment within in
        let few = offset.few in
        let is = offset.is in
        ((h.0).object, stands_below g h.0 at, ((h.0).moment, from, omega (arith, ints), h.1)))
        (some_below (length g.objects) (λ o. (t : ℤ) × (b.horizon.from ≤ℤ t) × (t <ℤ (b.horizon.from +ℤ pos (width b.horizon))) × P (record { object = o; moment = t }))
        (λ o. some_from (width b.horizon) b.horizon.from (λ t. P (record { object = o; moment = t })) (λ t. each (record { object = o; moment = t }))))

same_parts : {o p : ℕ} {t u : ℤ} → o ≡ p → t ≡ u → let x : Point = record { object = o; moment = t } in x ≡ record { object = p; moment = u }
same_parts a b = cc

-- points of one object and one moment are one
pub point_ext : (x y : Point) → x.object ≡ y.object → x.moment ≡ y.moment → x ≡ y
point_ext x y a b = same_parts a b

pub same_point : (x y : Point) → Decided (x ≡ y)
same_point x y = as_well (λ h. point_ext x y h.0 h.1) (λ e. (ap (λ (v : Point). v.object) e, ap (λ (v : Point). v.moment) e))
    (both (same_number x.object y.object) (same_moment x.moment y.moment))

-- the number of a point in a horizon: the moments of the objects before its own, and then those of its own before it
pub point_number : Span → Point → ℕ
point_number h x = x.object * width h + natural (x.moment -ℤ h.from)

-- no two points in the horizon have one number
pub point_number-exact : (h : Span) (x y : Point) → Within x.moment h → Within y.moment h → point_number h x ≡ point_number h y → x ≡ y
unfolding point_number
point_number-exact h x y within_x within_y e =
    let at_x = offset_is h x.moment within_x in
    let at_y = offset_is h y.moment within_y in
    let objects : x.object ≡ y.object = sym (div-mul-add x.object (width h) (natural (x.moment -ℤ h.from)) at_x.few) ∙ ap (λ (n : ℕ). n / width h) e ∙ div-mul-add y.object (width h) (natural (y.moment -ℤ h.from)) at_y.few in
    let one_object : y.object * width h + natural (x.moment -ℤ h.from) ≡ y.object * width h + natural (y.moment -ℤ h.from) = subst (λ (n : ℕ). n * width h + natural (x.moment -ℤ h.from) ≡ y.object * width h + natural (y.moment -ℤ h.from)) objects e in
    let offsets : natural (x.moment -ℤ h.from) ≡ natural (y.moment -ℤ h.from) = same_rest (y.object * width h) _ _ one_object in
    let moments : x.moment -ℤ h.from ≡ y.moment -ℤ h.from = sym at_x.is ∙ ap pos offsets ∙ at_y.is in
    point_ext x y objects (omega (arith, ints))
  where
    same_rest : (a b c : ℕ) → a + b ≡ a + c → b ≡ c
    same_rest a b c e = omega arith

-- how many points the graph would have if each object stood
abbrev pub most_points : Graph → Begun → ℕ
most_points g b = width b.horizon * length g.objects

pub point_number-below : (g : Graph) (b : Begun) (x : Point) → g.begun ≡ Some b → IsAt g x → point_number b.horizon x < most_points g b
unfolding point_number
point_number-below g b x begun at = mul-add-lt x.object (width b.horizon) (natural (x.moment -ℤ b.horizon.from)) (length g.objects) (stands_below g x at) (offset_is b.horizon x.moment (in_horizon g b x begun at)).few
