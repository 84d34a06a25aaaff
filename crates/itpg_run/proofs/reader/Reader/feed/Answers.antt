use Rattle.std.proofs.Common.{◌≡◌, ◌+◌, ◌-◌, ◌++◌, ◌∷◌, [], length, length-append, take, drop, refl, ap, ◌∙◌, append_assoc, append-nil, rules, arith}
use Rattle.std.proofs.lemmas.Grind.{common_steps}
use Rattle.itpg_run.specs.Fed.{StopsWhole, StopsWithin}
use Rattle.itpg_run.proofs.Split.{first_end, no_end}
use Rattle.itpg_run.proofs.Fed.{fed_whole}
use Rattle.std.proofs.KnownBytes.{Keeps-refl}
use Rattle.itpg_run.proofs.Feeding.{feeds_then, stops_whole_then, stops_within_then}
use Rattle.itpg_run.proofs.reader.Reader.feed.Goals as goal

pub take_line-requires-clause-piece : goal.take_line-requires-clause-piece
take_line-requires-clause-piece g c = (first_end c.loop-end.rest.now c.in-Some.end c.in-Some.ensures).0

pub returns-in_err-take_line-clause-memory : goal.returns-in_err-take_line-clause-memory
returns-in_err-take_line-clause-memory g c = λ is.
    let rest = c.loop-end.rest.now in
    let stops : StopsWhole (g.K.Sink.held c.loop-end.out) (g.K.Sink.held c.take_line.new.out) c.loop-end.self (take c.in-Some.end rest ++ 10 ∷ []) = search rules in
    stops_whole_then _ _ _ _ _ c.loop-end.invariant.done _ (drop (c.in-Some.end + 1) rest) _ c.loop-end.invariant.fed stops
    (ap (λ t. c.loop-end.invariant.done ++ t) (first_end rest c.in-Some.end c.in-Some.ensures).1 ∙ c.loop-end.invariant.split)

pub returns-in_err-take_line-clause-write : goal.returns-in_err-take_line-clause-write
returns-in_err-take_line-clause-write g c = λ is.
    let rest = c.loop-end.rest.now in
    let stops : StopsWithin (g.K.Sink.held c.loop-end.out) (g.K.Sink.held c.take_line.new.out) c.loop-end.self (take c.in-Some.end rest ++ 10 ∷ []) = search rules in
    stops_within_then _ _ _ _ _ c.loop-end.invariant.done _ (drop (c.in-Some.end + 1) rest) _ c.loop-end.invariant.fed stops
    (ap (λ t. c.loop-end.invariant.done ++ t) (first_end rest c.in-Some.end c.in-Some.ensures).1 ∙ c.loop-end.invariant.split)

pub loop-end-preserved : goal.loop-end-preserved
loop-end-preserved g c =
    let rest = c.loop-end.rest.now in
    let done = c.loop-end.invariant.done in
    let line = take c.in-Some.end rest ++ 10 ∷ [] in
    let left : take (length rest - (c.in-Some.end + 1)) (drop (c.in-Some.end + 1) rest) ≡ drop (c.in-Some.end + 1) rest = grind (arith, common_steps) in
    record {
      done = done ++ line;
      split = ap (λ t. (done ++ line) ++ t) left ∙ append_assoc done line (drop (c.in-Some.end + 1) rest) ∙ ap (λ t. done ++ t) (first_end rest c.in-Some.end c.in-Some.ensures).1 ∙ c.loop-end.invariant.split;
      number = omega (arith, c.loop-end.invariant.number, c.in_ok-take_line.ensures.number, length-append done line, length-append (take c.in-Some.end rest) (10 ∷ []));
      fed = feeds_then _ _ _ _ _ _ done line _ c.loop-end.invariant.fed c.in_ok-take_line.ensures.fed refl;
      later = omega (arith, c.loop-end.invariant.later, c.take_line.ensures.later);
    }

pub take_piece-requires : goal.take_piece-requires
take_piece-requires g c =
    no_end c.loop-end.rest.now c.memchr.result c.memchr.ensures c.in_default.not-Some

pub returns-in_err-take_piece-clause-memory : goal.returns-in_err-take_piece-clause-memory
returns-in_err-take_piece-clause-memory g c = λ is.
    stops_whole_then _ _ _ _ _ c.loop-end.invariant.done c.loop-end.rest.now [] _ c.loop-end.invariant.fed (λ mode start bytes s. fed_whole mode start _ _ _ bytes _ s (Keeps-refl _))
    (ap (λ t. c.loop-end.invariant.done ++ t) (append-nil c.loop-end.rest.now) ∙ c.loop-end.invariant.split)
