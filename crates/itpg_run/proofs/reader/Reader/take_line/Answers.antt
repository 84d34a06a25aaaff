use Rattle.std.proofs.Common.{◌∷◌, [], refl, rules}
use Rattle.std.specs.Io.KnownBytes.{Keeps}
use Rattle.std.proofs.KnownBytes.{Keeps-refl}
use Rattle.itpg_run.specs.Fed.{AnswersWithin}
use Rattle.itpg_run.proofs.Fed.{fed_line, fed_whole, fed_within}
use Rattle.itpg_run.proofs.Feeding.{feeds_then, stops_whole_then, stops_within_then}
use Rattle.itpg_run.proofs.reader.Reader.take_line.Goals as goal

pub returns-in_err-take_piece-clause-memory : goal.returns-in_err-take_piece-clause-memory
returns-in_err-take_piece-clause-memory g c = λ is mode start bytes s. fed_whole mode start _ _ _ bytes _ s (Keeps-refl _)

pub returns-in_err-end_line-clause-memory : goal.returns-in_err-end_line-clause-memory
returns-in_err-end_line-clause-memory g c = λ is.
    let keeps : Keeps (g.K.Sink.held c.args.out.now) (g.K.Sink.held c.end_line.new.out) = search rules in
    stops_whole_then _ _ _ _ _ _ (10 ∷ []) [] _ (c.in_ok-take_piece.ensures.fed (g.K.Sink.held c.args.out.now)) (λ mode start bytes s. fed_whole mode start _ _ _ bytes _ s keeps) refl

pub returns-in_err-end_line-clause-write : goal.returns-in_err-end_line-clause-write
returns-in_err-end_line-clause-write g c = λ is.
    let some : AnswersWithin (g.K.Sink.held c.args.out.now) (g.K.Sink.held c.end_line.new.out) c.take_piece.new.self = search rules in
    stops_within_then _ _ _ _ _ _ (10 ∷ []) [] _ (c.in_ok-take_piece.ensures.fed (g.K.Sink.held c.args.out.now)) (λ mode start bytes s. fed_within mode start _ _ _ bytes s some) refl

pub returns-clause-fed : goal.returns-clause-fed
returns-clause-fed g c = feeds_then _ _ _ _ _ _ _ (10 ∷ []) _ (c.in_ok-take_piece.ensures.fed (g.K.Sink.held c.args.out.now)) (λ mode start bytes s. fed_line mode start _ _ _ _ bytes s c.in_ok-end_line.ensures.ended) refl
