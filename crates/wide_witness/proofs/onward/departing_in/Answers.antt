use Rattle.std.proofs.Common.{◌∙◌, ap, SFits, w64, to_z-of_z, rules}
use Rattle.std.specs.Int.{int_max, int_min}
use Rattle.wide_witness.proofs.Leading.{none_within, within_near, holds_within}
use Rattle.wide_witness.proofs.onward.departing_in.Goals as goal

pub returns-then-bounds : goal.returns-then-bounds
returns-then-bounds c =
    let a : SFits w64 c.bounds-bounds.result.a = search rules in
    let b : SFits w64 c.bounds-bounds.result.b = search rules in
    let from : SFits w64 c.from.result = search rules in
    let to : SFits w64 c.to.result = search rules in
    let max : SFits w64 c.max.result = search rules in
    let min : SFits w64 c.min.result = search rules in
    let first = simp to_z-of_z at c.max.ensures.value in
    let last = simp to_z-of_z at c.min.ensures.value in
    let down = simp to_z-of_z at c.if-bounds.true in
    none_within c.args.zone.now c.args.span c.max.result c.min.result
    (first ∙ ap (λ v. int_max c.bounds-bounds.result.a v) c.from.ensures.value ∙ ap (λ v. int_max v.a c.args.span.from) c.bounds-bounds.ensures.same)
    (last ∙ ap (λ v. int_min c.bounds-bounds.result.b v) c.to.ensures.value ∙ ap (λ v. int_min v.b c.args.span.to) c.bounds-bounds.ensures.same)
    down

pub tight-requires : goal.tight-requires
tight-requires c =
    let a : SFits w64 c.bounds-bounds.result.a = search rules in
    let b : SFits w64 c.bounds-bounds.result.b = search rules in
    let from : SFits w64 c.from.result = search rules in
    let to : SFits w64 c.to.result = search rules in
    let max : SFits w64 c.max.result = search rules in
    let min : SFits w64 c.min.result = search rules in
    let first = simp to_z-of_z at c.max.ensures.value in
    let last = simp to_z-of_z at c.min.ensures.value in
    let up = simp to_z-of_z at c.if-bounds.false in
    simp to_z-of_z
    (within_near c.bounds-bounds.result c.args.span c.max.result c.min.result
    (first ∙ ap (λ v. int_max c.bounds-bounds.result.a v) c.from.ensures.value)
    (last ∙ ap (λ v. int_min c.bounds-bounds.result.b v) c.to.ensures.value)
    c.bounds-bounds.ensures.near
    up)

pub returns : goal.returns
returns c =
    let a : SFits w64 c.bounds-bounds.result.a = search rules in
    let b : SFits w64 c.bounds-bounds.result.b = search rules in
    let from : SFits w64 c.from.result = search rules in
    let to : SFits w64 c.to.result = search rules in
    let max : SFits w64 c.max.result = search rules in
    let min : SFits w64 c.min.result = search rules in
    let first = simp to_z-of_z at c.max.ensures.value in
    let last = simp to_z-of_z at c.min.ensures.value in
    let pairs = simp to_z-of_z at c.tight.ensures.pairs in
    holds_within c.bounds-bounds.result c.args.span c.max.result c.min.result
    (first ∙ ap (λ v. int_max c.bounds-bounds.result.a v) c.from.ensures.value)
    (last ∙ ap (λ v. int_min c.bounds-bounds.result.b v) c.to.ensures.value)
    c.args.zone.now
    c.bounds-bounds.ensures.same
    c.tight.result
    pairs
