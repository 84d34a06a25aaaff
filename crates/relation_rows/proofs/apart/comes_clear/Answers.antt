use Rattle.std.proofs.Common.{inl, inr, refl, sym, ◌∙◌, subst, ℤ, pos, ◌≡◌, ◌+ℤ◌, ◌<ℤ◌, arith, SFits, w64, to_z, of_z, to_z-of_z}
use Rattle.std.proofs.lemmas.Int.{ints}
use Rattle.relation_rows.proofs.Keys.{key_is}
use Rattle.relation_rows.proofs.apart.comes_clear.Goals as goal

pub returns-then-is_apart : goal.returns-then-is_apart
returns-then-is_apart c = λ e.
    let last = c.args.last.now.band.to in
    let within = c.requires.last.to in
    let fits : SFits w64 last = omega (arith, ints, within) in
    let is : to_z w64 (of_z w64 last) ≡ last = to_z-of_z fits in
    inl (inr (
      key_is c.args.row.now _ _ (sym c.is_of_key.ensures ∙ c.if-not-is_of_key.false),
      subst (λ (v : ℤ). (v +ℤ pos 1) <ℤ c.args.row.now.band.from) is (c.if-is_apart.ensures.0 refl),
    ))
