use Rattle.row_printer.proofs.PieceLemmas.{room_left, text_more, fits_more, all_text}
use Rattle.row_printer.proofs.page.Page.of.Goals as goal

pub add_piece-requires : goal.add_piece-requires
add_piece-requires c = room_left c.args.pieces.now c.loop-piece.piece-index _ c.loop-piece.page c.loop-piece-test.true c.loop-piece.invariant.size c.requires

pub loop-piece-preserved : goal.loop-piece-preserved
loop-piece-preserved c = record {
  text = text_more c.args.pieces.now c.loop-piece.piece-index _ c.loop-piece.page _ c.loop-piece-test.true c.loop-piece.invariant.text c.add_piece.ensures.added;
  size = fits_more c.args.pieces.now c.loop-piece.piece-index _ c.loop-piece.page _ c.loop-piece-test.true c.loop-piece.invariant.size c.add_piece.ensures.size;
}

pub returns : goal.returns
returns c = all_text c.args.pieces.now c.loop-piece.piece-index c.loop-piece.page c.loop-piece-test.false c.loop-piece.invariant.text
