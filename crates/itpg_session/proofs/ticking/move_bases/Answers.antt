use Rattle.std.proofs.Common.{◌≡◌, ◌<◌, ◌∷◌, [], suc, length, map, sym, ap, ◌∙◌, subst, arith, take}
use Rattle.std.specs.Prelude.{slice_get, IsSomeAnd}
use Rattle.std.proofs.lemmas.List.{map-append, length-append}
use Rattle.itpg_session.specs.Ticks.{ticked_of, settled_at}
use Rattle.itpg_session.specs.Watching.{IsMoveOfKind}
use Rattle.itpg_session.proofs.TickSteps.{moves_last, none_moved, moved_from, map_length, take_whole, none_left}
use Rattle.itpg_session.proofs.ticking.move_bases.Goals as goal

pub loop-one-init : goal.loop-one-init
loop-one-init c =
    let mapped : length (map ticked_of c.args.found.items) ≡ length c.args.found.items = map_length ticked_of c.args.found.items in
    record {
      left = ap (λ k. take k (map ticked_of c.args.found.items)) (sym mapped) ∙ take_whole (map ticked_of c.args.found.items);
      moved = sym (none_moved c.args.watches.now (map ticked_of c.args.found.items) (mapped ∙ c.requires.each)) ∙ ap (λ k. moved_from k c.args.watches.now (map ticked_of c.args.found.items)) mapped;
    }

pub move_base-requires-clause-there : goal.move_base-requires-clause-there
move_base-requires-clause-there c =
    let items = c.in-Some.ensures.items in
    let ys = map ticked_of c.pop.new.self.items in
    let mapped : length ys ≡ length c.pop.new.self.items = map_length ticked_of c.pop.new.self.items in
    let count : length c.loop-one.found.items ≡ suc (length ys) = ap length items ∙ (let e = length-append c.pop.new.self.items (c.in-Some.one ∷ []) in omega (arith, e, mapped)) in
    let front = c.loop-one.invariant.left ∙ ap (map ticked_of) items ∙ map-append ticked_of c.pop.new.self.items (c.in-Some.one ∷ []) in
    let last = moves_last c.args.watches.now c.loop-one.watches (map ticked_of c.args.found.items) ys (ticked_of c.in-Some.one) (length c.loop-one.found.items) (map_length ticked_of c.args.found.items ∙ c.requires.each) c.requires.kinds front count c.loop-one.invariant.moved in
    let place : c.len.result ≡ length ys = c.len.ensures ∙ c.pop.new.self.ok.0 ∙ sym mapped in
    subst (λ k. k < length c.loop-one.watches) (sym place) last.there

pub move_base-requires-clause-kind : goal.move_base-requires-clause-kind
move_base-requires-clause-kind c =
    let items = c.in-Some.ensures.items in
    let ys = map ticked_of c.pop.new.self.items in
    let mapped : length ys ≡ length c.pop.new.self.items = map_length ticked_of c.pop.new.self.items in
    let count : length c.loop-one.found.items ≡ suc (length ys) = ap length items ∙ (let e = length-append c.pop.new.self.items (c.in-Some.one ∷ []) in omega (arith, e, mapped)) in
    let front = c.loop-one.invariant.left ∙ ap (map ticked_of) items ∙ map-append ticked_of c.pop.new.self.items (c.in-Some.one ∷ []) in
    let last = moves_last c.args.watches.now c.loop-one.watches (map ticked_of c.args.found.items) ys (ticked_of c.in-Some.one) (length c.loop-one.found.items) (map_length ticked_of c.args.found.items ∙ c.requires.each) c.requires.kinds front count c.loop-one.invariant.moved in
    let place : c.len.result ≡ length ys = c.len.ensures ∙ c.pop.new.self.ok.0 ∙ sym mapped in
    subst (λ k. IsSomeAnd (slice_get c.loop-one.watches k) (λ w. IsMoveOfKind w (ticked_of c.in-Some.one))) (sym place) last.kind

pub loop-one-preserved : goal.loop-one-preserved
loop-one-preserved c =
    let items = c.in-Some.ensures.items in
    let ys = map ticked_of c.pop.new.self.items in
    let mapped : length ys ≡ length c.pop.new.self.items = map_length ticked_of c.pop.new.self.items in
    let count : length c.loop-one.found.items ≡ suc (length ys) = ap length items ∙ (let e = length-append c.pop.new.self.items (c.in-Some.one ∷ []) in omega (arith, e, mapped)) in
    let front = c.loop-one.invariant.left ∙ ap (map ticked_of) items ∙ map-append ticked_of c.pop.new.self.items (c.in-Some.one ∷ []) in
    let last = moves_last c.args.watches.now c.loop-one.watches (map ticked_of c.args.found.items) ys (ticked_of c.in-Some.one) (length c.loop-one.found.items) (map_length ticked_of c.args.found.items ∙ c.requires.each) c.requires.kinds front count c.loop-one.invariant.moved in
    let place : c.len.result ≡ length ys = c.len.ensures ∙ c.pop.new.self.ok.0 ∙ sym mapped in
    record {
      left = ap (λ k. take k (map ticked_of c.args.found.items)) (sym mapped) ∙ last.left;
      moved = c.move_base.ensures ∙ ap (λ k. settled_at k (ticked_of c.in-Some.one) c.loop-one.watches) place ∙ last.moved ∙ ap (λ k. moved_from k c.args.watches.now (map ticked_of c.args.found.items)) mapped;
    }

pub returns : goal.returns
returns c = c.loop-one.invariant.moved ∙ ap (λ k. moved_from k c.args.watches.now (map ticked_of c.args.found.items)) (sym c.loop-one.found.ok.0 ∙ none_left c.loop-one.found.len c.in_default.ensures.variant.1)
