-- What is decided of a pin that is opened or closed, over what the session has.
use Rattle.std.proofs.Common.{◌≡◌, inl, inr, ℕ, List, [], ◌∷◌, ◌++◌, ◌≤◌, length, refl, sym, ap, subst, ◌∙◌, arith}
use Rattle.itpg_base.specs.Words.{Word}
use Rattle.itpg_base.specs.Graphs.{Graph}
use Rattle.itpg_base.specs.declared.rule_code.RuleCode.{RuleCode}
use Rattle.itpg_base.specs.declared.rule_code.RuleCode.TheVariants.{Taken, Full, Unknown}
use Rattle.itpg_edit.specs.Rules.{FirstOf, NoneOf}
use Rattle.plan_cache.specs.Nodes.{Table}
use Rattle.standing_queries.specs.Watches.{Watch}
use Rattle.source_rows.specs.Follows.{Follow}
use Rattle.itpg_pins.specs.Pins.{Held, IsHeld, held, most_pins, without as without_held}
use Rattle.itpg_session.specs.PlainPins.{Pin, IsPinned, plain_pins}
use Rattle.itpg_session.specs.Rules.{TickBreaks, OpenBreaks, PinBreaks, tick_rules, open_rules, name_rules}
use Rattle.itpg_session.specs.Replies.{Silent, Refused}
use Rattle.itpg_session.specs.Machine.{Machine, Standing, OpensName, OpensPin, ClosesName, ClosesPin, quiet_turn}
use Rattle.itpg_session.specs.Steps.{IsAlike, IsDecided}
use Rattle.itpg_session.specs.Machine.{stood}
use Rattle.itpg_session.proofs.Answering.{may_open, is_pinned, is_full_of_pins, may_pin, is_no_pin, refusal}
use Rattle.itpg_session.proofs.PinLists.{pins_append, pins_length, pins_without, held_pinned, pinned_held}
use Rattle.itpg_session.proofs.Planned.{alike_same}
use Rattle.itpg_session.proofs.Told.{silent, said_alike}

-- a tick that may not be is refused by its one rule, and so is the name of a pin then
pub tick_first_open : (g : Graph) (pins : List Pin) (name : Word) (rule : RuleCode) → FirstOf (TickBreaks g) tick_rules rule → FirstOf (OpenBreaks g pins name) open_rules rule
tick_first_open g pins name rule (inl first) = inl first
tick_first_open g pins name rule (inr none) = absurd none.1

pub tick_first_pin : (g : Graph) (pins : List Pin) (name : Word) (rule : RuleCode) → FirstOf (TickBreaks g) tick_rules rule → FirstOf (PinBreaks g pins name) name_rules rule
tick_first_pin g pins name rule (inl first) = inl first
tick_first_pin g pins name rule (inr none) = absurd none.1

module _ (g : Graph) (limit : ℕ) (table : Table) (ws : List Watch) (ps : List Held) (fs : List Follow) (now : Standing) (view : stood g limit table ws ps fs ≡ now) where
  -- the pins are as they were
  pub pins_alike : (xs : List Held) → xs ≡ ps → IsAlike now (stood g limit table ws xs fs)
  pins_alike xs is = subst (λ (ys : List Held). IsAlike now (stood g limit table ws ys fs)) (sym is) (subst (λ (s : Standing). IsAlike s (stood g limit table ws ps fs)) view (alike_same (stood g limit table ws ps fs)))

  -- pins of the same names and graphs
  pub plain_alike : (xs : List Held) → plain_pins xs ≡ plain_pins ps → IsAlike now (stood g limit table ws xs fs)
  plain_alike xs is =
      let same = alike_same (stood g limit table ws ps fs) in
      subst (λ (s : Standing). IsAlike s (stood g limit table ws xs fs)) view (record {
        machine = ap (λ (vs : List Pin). let m : Machine = record (stood g limit table ws ps fs).machine { pins = vs } in m) is;
        limit = refl;
        watches = same.watches;
      })

  module _ (name : Word) (begun : NoneOf (TickBreaks g) tick_rules) where
    -- ---- a pin more

    free : (IsHeld ps name → ⊥) → IsPinned (plain_pins ps) name → ⊥
    free none there = none (pinned_held ps name there)

    few : (most_pins ≤ length ps → ⊥) → most_pins ≤ length (plain_pins ps) → ⊥
    few none many = none (let e = pins_length ps in omega (arith, e, many))

    pub may_be_opened : (IsHeld ps name → ⊥) → (most_pins ≤ length ps → ⊥) → NoneOf (OpenBreaks now.machine.graph now.machine.pins name) open_rules
    may_be_opened none room = subst (λ (s : Standing). NoneOf (OpenBreaks s.machine.graph s.machine.pins name) open_rules) view (may_open (stood g limit table ws ps fs).machine name begun (free none) (few room))

    pub opened_pin : (xs : List Held) → (IsHeld ps name → ⊥) → (most_pins ≤ length ps → ⊥) → xs ≡ ps ++ held name g table ∷ [] → IsDecided (OpensName now.machine name) now (stood g limit table ws xs fs) Silent
    opened_pin xs none room is =
        let m : Machine = (stood g limit table ws ps fs).machine in
        subst (λ (s : Standing). IsDecided (OpensName s.machine name) s (stood g limit table ws xs fs) Silent) view
        (silent (stood g limit table ws ps fs) (stood g limit table ws xs fs) refl (inr (record {
          unbroken = may_open m name begun (free none) (few room);
          is = ap (λ (vs : List Pin). quiet_turn (record m { pins = vs })) (ap plain_pins is ∙ pins_append ps (held name g table ∷ []));
        })))

    pub taken_pin : (xs : List Held) → IsHeld ps name → xs ≡ ps → IsDecided (OpensName now.machine name) now (stood g limit table ws xs fs) (Refused Taken)
    taken_pin xs there is =
        let first = subst (λ (s : Standing). FirstOf (OpenBreaks s.machine.graph s.machine.pins name) open_rules Taken) view (is_pinned (stood g limit table ws ps fs).machine name begun (held_pinned ps name there)) in
        let m : Machine = now.machine in
        said_alike now (stood g limit table ws xs fs) (Refused Taken) (pins_alike xs is) (refusal m (OpenBreaks m.graph m.pins name) open_rules (OpensPin m name) Taken first _ refl)

    pub full_of_pins : (xs : List Held) → (IsHeld ps name → ⊥) → most_pins ≤ length ps → xs ≡ ps → IsDecided (OpensName now.machine name) now (stood g limit table ws xs fs) (Refused Full)
    full_of_pins xs none many is =
        let all : most_pins ≤ length (plain_pins ps) = (let e = pins_length ps in omega (arith, e, many)) in
        let first = subst (λ (s : Standing). FirstOf (OpenBreaks s.machine.graph s.machine.pins name) open_rules Full) view (is_full_of_pins (stood g limit table ws ps fs).machine name begun (free none) all) in
        let m : Machine = now.machine in
        said_alike now (stood g limit table ws xs fs) (Refused Full) (pins_alike xs is) (refusal m (OpenBreaks m.graph m.pins name) open_rules (OpensPin m name) Full first _ refl)

    -- ---- a pin less

    pub closed_pin : (xs : List Held) → ((IsHeld ps name → ⊥) → ⊥) → xs ≡ without_held name ps → IsDecided (ClosesName now.machine name) now (stood g limit table ws xs fs) Silent
    closed_pin xs known is =
        let m : Machine = (stood g limit table ws ps fs).machine in
        subst (λ (s : Standing). IsDecided (ClosesName s.machine name) s (stood g limit table ws xs fs) Silent) view
        (silent (stood g limit table ws ps fs) (stood g limit table ws xs fs) refl (inr (record {
          unbroken = may_pin g (plain_pins ps) name begun (λ no. known (λ there. no (held_pinned ps name there)));
          is = ap (λ (vs : List Pin). quiet_turn (record m { pins = vs })) (ap plain_pins is ∙ pins_without name ps);
        })))

    pub unknown_pin : (xs : List Held) → (IsHeld ps name → ⊥) → xs ≡ ps → IsDecided (ClosesName now.machine name) now (stood g limit table ws xs fs) (Refused Unknown)
    unknown_pin xs none is =
        let first = subst (λ (s : Standing). FirstOf (PinBreaks s.machine.graph s.machine.pins name) name_rules Unknown) view (is_no_pin g (plain_pins ps) name begun (free none)) in
        let m : Machine = now.machine in
        said_alike now (stood g limit table ws xs fs) (Refused Unknown) (pins_alike xs is) (refusal m (PinBreaks m.graph m.pins name) name_rules (ClosesPin m name) Unknown first _ refl)
