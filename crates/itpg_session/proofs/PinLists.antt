-- Lists of pins: those that the session holds, and those that the plain machine has of them.
use Rattle.std.proofs.Common.{◌≡◌, ℕ, zero, suc, List, [], ◌∷◌, ◌++◌, length, Some, refl, ◌∙◌, ap}
use Rattle.std.specs.Prelude.{nat_eq, slice_get, option_map}
use Rattle.std.specs.Cmp.Lexicographic.{pointwise}
use Rattle.std.proofs.lemmas.List.{map-append}
use Rattle.itpg_base.specs.Words.{Word}
use Rattle.plan_cache.specs.Nodes.{Table}
use Rattle.itpg_pins.specs.Pins.{Held, IsHeld, retabled, without as without_held}
use Rattle.itpg_session.specs.PlainPins.{Pin, plain_pin, plain_pins, IsPinned, without_pin}
use Rattle.itpg_session.proofs.NamedLists.{map_length, map_choice, map_at, map_among, among_map}

-- ---- the same changes lead to a list of the machine's pins from either

pub pins_append : (xs ys : List Held) → plain_pins (xs ++ ys) ≡ plain_pins xs ++ plain_pins ys
pins_append xs ys = map-append plain_pin xs ys

pub pins_length : (xs : List Held) → length (plain_pins xs) ≡ length xs
pins_length xs = map_length plain_pin xs

pub pins_without : (name : Word) (xs : List Held) → plain_pins (without_held name xs) ≡ without_pin name (plain_pins xs)
pins_without name [] = refl
pins_without name (x ∷ xs) = map_choice plain_pin (pointwise nat_eq x.name name) x (without_held name xs) (without_pin name (plain_pins xs)) (pins_without name xs)

-- a pin's table is nothing of the machine
pub pins_retabled : (xs : List Held) (i : ℕ) (table : Table) → plain_pins (retabled i table xs) ≡ plain_pins xs
pins_retabled [] i table = refl
pins_retabled (x ∷ xs) zero table = refl
pins_retabled (x ∷ xs) (suc i) table = ap (λ (vs : List Pin). plain_pin x ∷ vs) (pins_retabled xs i table)

-- ---- what stands at a place

pub pin_at : (xs : List Held) (i : ℕ) (x : Held) → slice_get xs i ≡ Some x → slice_get (plain_pins xs) i ≡ Some (plain_pin x)
pin_at xs i x e = map_at plain_pin xs i x e

pub table_at : (xs : List Held) (i : ℕ) (x : Held) (table : Table) → slice_get xs i ≡ Some x → slice_get (retabled i table xs) i ≡ Some (record x { table = table })
table_at [] i x table e = let no : ⊥ = cc in absurd no
table_at (y ∷ xs) zero x table e = ap (option_map (λ (h : Held). record h { table = table })) e
table_at (y ∷ xs) (suc i) x table e = table_at xs i x table e

-- ---- names

pub held_pinned : (xs : List Held) (name : Word) → IsHeld xs name → IsPinned (plain_pins xs) name
held_pinned xs name (x, a, e) = (plain_pin x, map_among plain_pin xs x a, e)

pub pinned_held : (xs : List Held) (name : Word) → IsPinned (plain_pins xs) name → IsHeld xs name
pinned_held xs name (p, a, e) = let r = among_map plain_pin xs p a in (r.0, r.1, ap (λ (q : Pin). q.name) r.2 ∙ e)
