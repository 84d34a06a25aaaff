-- The text of pieces, one behind the other, and how many bytes they may have.
use Rattle.std.specs.Prelude.{ℕ, ◌+◌, List, [], ◌∷◌, ◌++◌, length}
use Rattle.std.specs.Fmt.{decimal}
use Rattle.row_printer.specs.declared.page.Piece.{Piece}

abbrev pub piece_text : Piece → List ℕ
piece_text (Piece.Text text) = text.now
piece_text (Piece.Number number) = decimal number

abbrev pub pieces_text : List Piece → List ℕ
pieces_text [] = []
pieces_text (x ∷ xs) = piece_text x ++ pieces_text xs

-- a number counts as twenty
abbrev pub piece_size : Piece → ℕ
piece_size (Piece.Text text) = length text.now
piece_size (Piece.Number number) = 20

abbrev pub pieces_size : List Piece → ℕ
pieces_size [] = 0
pieces_size (x ∷ xs) = piece_size x + pieces_size xs
