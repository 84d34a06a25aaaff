use Rattle.std.proofs.Common.{◌≡◌, inl, inr, ⊎_elim, ℕ, ◌∷◌, [], List, length, Some, sym, ◌∙◌, ap, subst, arith}
use Rattle.std.specs.Prelude.{slice_get}
use Rattle.std.proofs.lemmas.List.{length-append}
use Rattle.relation_rows.proofs.OffsetLemmas.{pushed_at}
use Rattle.relation_rows.proofs.offsets.fill.Goals as goal

pub loop-begins-init : goal.loop-begins-init
loop-begins-init c = record { longer = omega arith; each = λ k other at. inl at }

pub loop-begins-preserved : goal.loop-begins-preserved
loop-begins-preserved c =
    let old = c.loop-begins.invariant in
    let pushed = c.in_ok-push.ensures.items in
    let more = ap length pushed ∙ length-append c.loop-begins.begins.items (c.args.place ∷ []) in
    record {
      longer = (let before = old.longer in omega (arith, more));
      each = λ k other at.
          ⊎_elim
          (λ e. old.each k other e)
          (λ e. inr (sym e.1, (let before = old.longer in let is = e.0 in omega arith), (let is = e.0 in omega arith)))
          (pushed_at c.loop-begins.begins.items c.args.place other k (subst (λ (v : List ℕ). slice_get v k ≡ Some other) pushed at));
    }

pub returns : goal.returns
returns c = record { many = omega arith; longer = c.loop-begins.invariant.longer; each = c.loop-begins.invariant.each }
