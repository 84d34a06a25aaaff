use Rattle.std.proofs.Common.{sym, inl, inr}
use Rattle.plan_cache.specs.Operations.{part_term, part_children}
use Rattle.path_eval.proofs.Marking.{marked_both}
use Rattle.path_eval.proofs.reaching.+mark_test.Goals as goal

pub returns-in-And : goal.returns-in-And
returns-in-And t c =
    let both = sym (marked_both (part_children (part_term c.in-And.one.value)) (part_children (part_term c.in-And.other.value)) c.args.marks.now.items) in
    elim c.in-And.is [
      | inl e ↦ rw (e, c.mark_test-in-And-2.ensures, c.mark_test-in-And.ensures, c.deref-in-And.ensures, c.deref-in-And-2.ensures) both
      | inr e ↦ rw (e, c.mark_test-in-And-2.ensures, c.mark_test-in-And.ensures, c.deref-in-And.ensures, c.deref-in-And-2.ensures) both
    ]
