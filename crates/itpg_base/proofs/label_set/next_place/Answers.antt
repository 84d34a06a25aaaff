use Rattle.std.proofs.Common.{ℕ, List, ◌≡◌, ◌+◌, ◌∷◌, ◌++◌, [], Some, Option, length, take, refl, sym, subst, ap, ◌∙◌, true≢false}
use Rattle.std.specs.Prelude.{slice_get}
use Rattle.std.proofs.lemmas.Option.{slice_get_read}
use Rattle.std.proofs.lemmas.List.{take_more, take_all}
use Rattle.itpg_base.specs.Words.{Word}
use Rattle.itpg_base.specs.LabelSets.{IsNext, IsAfter, IsUnder}
use Rattle.itpg_base.proofs.Labels.{one_nearer, one_passed, same_get}
use Rattle.itpg_base.proofs.label_set.next_place.Goals.{then-is_after+then-is_under, else-is_after, else-is_after-via-then-is_after+else-is_under, else-is_after-via-else-is_after}
use Rattle.itpg_base.proofs.label_set.next_place.Goals as goal

pub loop-place-preserved : goal.loop-place-preserved
loop-place-preserved c =
    let xs = c.args.labels.now in
    let i = c.loop-place.place in
    let x : Word = c.index-labels-place.result in
    let at : slice_get xs i ≡ Some x = slice_get_read xs (length xs) i x refl c.loop-place-test.true c.index-labels-place.is in
    let front : take (i + 1) xs ≡ take i xs ++ x ∷ [] = take_more xs i x c.loop-place-test.true ∙ ap (λ y. take i xs ++ y ∷ []) (sym c.index-labels-place.is) in
    let last : Option Word = slice_get xs c.args.last in
    let next : Option Word = slice_get xs c.loop-place.next in
    let passed : (IsAfter last x → IsUnder x next → ⊥) → c.if-is_after.next ≡ c.loop-place.next → IsNext (take (i + 1) xs) last (slice_get xs c.if-is_after.next) = λ out is.
    subst (λ (n : ℕ). IsNext (take (i + 1) xs) last (slice_get xs n)) (sym is) (subst (λ (f : List Word). IsNext f last next) (sym front) (one_passed (take i xs) last next x c.loop-place.invariant out)) in
    elim c.if-is_after.branch [
      | then-is_after+then-is_under w ↦
          let after : IsAfter last x = subst (λ (o : Option Word). IsAfter o x) (same_get xs c.args.last c.get.result c.get.ensures.lookup.1 c.get.ensures.lookup.3) (c.is_after.ensures.0 w.if-is_after.true) in
          let under : IsUnder x next = subst (λ (o : Option Word). IsUnder x o) (same_get xs c.loop-place.next w.get-then-is_after.result w.get-then-is_after.ensures.lookup.1 w.get-then-is_after.ensures.lookup.3) (w.is_under.ensures.0 w.if-is_under.true) in
          subst (λ (n : ℕ). IsNext (take (i + 1) xs) last (slice_get xs n)) (sym w.next-is)
          (subst (λ (o : Option Word). IsNext (take (i + 1) xs) last o) (sym at) (subst (λ (f : List Word). IsNext f last (Some x)) (sym front) (one_nearer (take i xs) last next x c.loop-place.invariant after under)))
      | else-is_after w ↦ passed (λ after under. elim w.else-is_after.branch [
        | else-is_after-via-then-is_after+else-is_under v ↦ true≢false (sym (v.is_under.ensures.1 (subst (λ (o : Option Word). IsUnder x o) (sym (same_get xs c.loop-place.next v.get-then-is_after.result v.get-then-is_after.ensures.lookup.1 v.get-then-is_after.ensures.lookup.3)) under)) ∙ v.if-is_under.false)
        | else-is_after-via-else-is_after v ↦ true≢false (sym (c.is_after.ensures.1 (subst (λ (o : Option Word). IsAfter o x) (sym (same_get xs c.args.last c.get.result c.get.ensures.lookup.1 c.get.ensures.lookup.3)) after)) ∙ v.if-is_after.false)
      ]) w.next-is
    ]

pub returns : goal.returns
returns c = subst (λ (f : List Word). IsNext f (slice_get c.args.labels.now c.args.last) (slice_get c.args.labels.now c.loop-place.next)) (take_all c.loop-place.place c.args.labels.now c.loop-place-test.false) c.loop-place.invariant
