use Rattle.std.proofs.Common.{sym, subst}
use Rattle.itpg_base.specs.Spans.{Covers}
use Rattle.question_hints.specs.Horizons.{AreFirstAndLast}
use Rattle.question_hints.proofs.LivesLemmas.{spans_ends}
use Rattle.question_hints.proofs.horizon.ends_of.Goals as goal

pub returns : goal.returns
returns c =
    subst (AreFirstAndLast (Covers c.args.spans.now)) (sym c.lives_between.ensures)
    (spans_ends c.args.spans.now c.in_ok-first.first.now c.in_ok-last.last.now c.requires (sym c.in_ok-first.ensures.value) (sym c.in_ok-last.ensures.value))
