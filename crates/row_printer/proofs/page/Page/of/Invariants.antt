use Rattle.std.proofs.Common.{◌≡◌, ◌≤◌, length, take}
use Rattle.row_printer.specs.Pieces.{pieces_text, pieces_size}
use Rattle.row_printer.proofs.page.Page.of.Given as goal

abbrev pub invariant-loop-piece : goal.invariant-loop-piece
invariant-loop-piece l = record {
  text : l.page ≡ pieces_text (take l.piece-index l.pieces);
  size : length l.page ≤ pieces_size (take l.piece-index l.pieces);
}
