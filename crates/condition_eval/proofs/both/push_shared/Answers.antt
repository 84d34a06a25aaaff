use Rattle.std.proofs.Common.{◌≡◌, ap, refl, sym, true≢false, SFits, w64, to_z-of_z, rules}
use Rattle.itpg_base.specs.Spans.{Span}
use Rattle.relation_rows.proofs.Coalescing.{greater_of}
use Rattle.condition_eval.proofs.Sharing.{lesser_of, none_shared, one_shared}
use Rattle.condition_eval.proofs.both.push_shared.Goals as goal

pub returns-in_default : goal.returns-in_default
returns-in_default c =
    let a : SFits w64 c.from.result = search rules in
    let b : SFits w64 c.from-2.result = search rules in
    let from : SFits w64 c.max-from.result = search rules in
    let d : SFits w64 c.to.result = search rules in
    let e : SFits w64 c.to-2.result = search rules in
    let to : SFits w64 c.min-to.result = search rules in
    let max = simp to_z-of_z at c.max-from.ensures.value in
    let min = simp to_z-of_z at c.min-to.ensures.value in
    let told = simp to_z-of_z at c.in_default.ensures.ordered in
    none_shared c.args.row.now c.args.partner.now c.args.rows.now.items c.max-from.result c.min-to.result
    (greater_of _ _ _ _ _ max c.from.ensures.value c.from-2.ensures.value) (lesser_of _ _ _ _ _ min c.to.ensures.value c.to-2.ensures.value) (λ le. true≢false (sym (told.1 le)))

pub returns : goal.returns
returns c =
    let a : SFits w64 c.from.result = search rules in
    let b : SFits w64 c.from-2.result = search rules in
    let from : SFits w64 c.max-from.result = search rules in
    let d : SFits w64 c.to.result = search rules in
    let e : SFits w64 c.to-2.result = search rules in
    let to : SFits w64 c.min-to.result = search rules in
    let max = simp to_z-of_z at c.max-from.ensures.value in
    let min = simp to_z-of_z at c.min-to.ensures.value in
    let told = simp to_z-of_z at c.in-Some.ensures.ordered in
    let made = simp to_z-of_z at c.in-Some.ensures.value in
    let pushed = c.in_ok-push.ensures.items in
    let same : c.args.row.now.object.0 ≡ c.args.partner.now.object.0 = search rules in
    let first = ap (λ (s : Span). s.from) made in
    let last = ap (λ (s : Span). s.to) made in
    let le = told.0 refl in
    one_shared c.args.row.now c.args.partner.now c.args.rows.now.items c.max-from.result c.min-to.result
    (greater_of _ _ _ _ _ max c.from.ensures.value c.from-2.ensures.value) (lesser_of _ _ _ _ _ min c.to.ensures.value c.to-2.ensures.value)
    same c.in-Some.span first last (rw made le) _ pushed
