use Rattle.std.proofs.Common.{◌≡◌, ◌+◌, suc, map, sym, ap, ◌∙◌, subst, arith, take, drop}
use Rattle.std.specs.Prelude.{slice_get, Some}
use Rattle.std.proofs.KnownBytes.{Appends-trans}
use Rattle.itpg_base.specs.Sinks.{Gets, GetsSome}
use Rattle.itpg_session.specs.Ticks.{ticked_of}
use Rattle.itpg_session.specs.Texts.{tick_text}
use Rattle.itpg_session.specs.Watching.{IsTickDeclared}
use Rattle.itpg_session.proofs.TickSteps.{map_among, map_at, text_more, text_split}
use Rattle.row_printer.proofs.Saying.{on_err}
use Rattle.itpg_session.proofs.Written.{some_first, some_second}
use Rattle.itpg_session.proofs.ticking.write_all.Goals as goal

pub write_one-requires : goal.write_one-requires
write_one-requires g c =
    subst (λ x. IsTickDeclared c.args.graph.now (ticked_of x)) (sym c.one-item.is) (c.requires _ (map_among ticked_of c.args.found.now c.loop-one.one-index _ c.loop-one-test.true))

pub returns-in_err-write_one-clause-some : goal.returns-in_err-write_one-clause-some
returns-in_err-write_one-clause-some g c =
    let at : slice_get (map ticked_of c.args.found.now) c.loop-one.one-index ≡ Some (ticked_of c.one-item.result) =
    map_at ticked_of c.args.found.now c.loop-one.one-index _ c.loop-one-test.true ∙ ap (λ x. Some (ticked_of x)) (sym c.one-item.is) in
    let split = text_split c.args.form c.args.graph.now (map ticked_of c.args.found.now) c.loop-one.one-index (ticked_of c.one-item.result) at in
    on_err _ _ (subst (GetsSome g.K.Sink c.args.out.now c.write_one.new.out) (sym split)
    (some_second _ _ _ _ _ c.loop-one.invariant.written (some_first _ _ _ (tick_text c.args.form c.args.graph.now (drop (suc c.loop-one.one-index) (map ticked_of c.args.found.now))) c.in_err-write_one.ensures.some)))

pub loop-one-preserved : goal.loop-one-preserved
loop-one-preserved g c =
    let at : slice_get (map ticked_of c.args.found.now) c.loop-one.one-index ≡ Some (ticked_of c.one-item.result) =
    map_at ticked_of c.args.found.now c.loop-one.one-index _ c.loop-one-test.true ∙ ap (λ x. Some (ticked_of x)) (sym c.one-item.is) in
    let more = text_more c.args.form c.args.graph.now (map ticked_of c.args.found.now) c.loop-one.one-index (ticked_of c.one-item.result) at in
    let next : suc c.loop-one.one-index ≡ c.loop-one.one-index + 1 = omega arith in
    record {
      written = subst (λ k. Gets g.K.Sink c.args.out.now c.write_one.new.out (tick_text c.args.form c.args.graph.now (take k (map ticked_of c.args.found.now)))) next
          (subst (Gets g.K.Sink c.args.out.now c.write_one.new.out) (sym more) (Appends-trans _ _ _ _ _ c.loop-one.invariant.written c.in_ok-write_one.ensures.written));
      later = omega (arith, c.write_one.ensures.cause.later, c.loop-one.invariant.later);
    }
