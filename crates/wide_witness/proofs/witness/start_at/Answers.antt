use Rattle.std.proofs.Common.{◌≡◌, ◌∙◌, ◌≤ℤ◌, ℤ, refl, sym, ap, subst, SFits, w64, to_z-of_z, rules}
use Rattle.itpg_base.specs.Spans.{Span}
use Rattle.wide_witness.proofs.witness.start_at.Goals as goal

pub returns : goal.returns
returns c =
    let at = c.args.departure in
    let fits : SFits w64 at = search rules in
    let made = simp to_z-of_z at c.in_ok-span.ensures.value in
    let begun : c.in_ok-span.span.from ≡ at = ap (λ (s : Span). s.from) made in
    let ended : c.in_ok-span.span.to ≡ at = ap (λ (s : Span). s.to) made in
    record {
      object = refl;
      from = subst (λ (v : ℤ). c.args.row.now.band.from ≤ℤ v) (sym begun) c.requires.from;
      to = subst (λ (v : ℤ). v ≤ℤ c.args.row.now.band.to) (sym begun) c.requires.to;
      one = ended ∙ sym begun;
    }
