-- The texts of first pieces, and of one more.
use Rattle.std.proofs.Common.{◌≡◌, ℕ, ◌+◌, ◌<◌, ◌≤◌, List, [], ◌∷◌, ◌++◌, length, take, drop, get_or, refl, sym, ap, ◌∙◌, append_assoc, append-nil, take-append-drop, arith}
use Rattle.std.proofs.lemmas.List.{take_more, take_all}
use Rattle.row_printer.specs.Pieces.{piece_text, pieces_text, piece_size, pieces_size}
use Rattle.row_printer.specs.declared.page.Piece.{Piece}

pieces_text-append : (xs ys : List Piece) → pieces_text (xs ++ ys) ≡ pieces_text xs ++ pieces_text ys
pieces_text-append [] ys = refl
pieces_text-append (x ∷ xs) ys = ap (λ (t : List ℕ). piece_text x ++ t) (pieces_text-append xs ys) ∙ sym (append_assoc (piece_text x) (pieces_text xs) (pieces_text ys))

pieces_size-append : (xs ys : List Piece) → pieces_size (xs ++ ys) ≡ pieces_size xs + pieces_size ys
pieces_size-append [] ys = omega arith
pieces_size-append (x ∷ xs) ys = let e = pieces_size-append xs ys in omega (arith, e)

size_more : (xs : List Piece) (i : ℕ) (d : Piece) → i < length xs → pieces_size (take (i + 1) xs) ≡ pieces_size (take i xs) + piece_size (get_or xs i d)
size_more xs i d lt =
    let e : pieces_size (take (i + 1) xs) ≡ pieces_size (take i xs) + pieces_size (get_or xs i d ∷ []) = ap pieces_size (take_more xs i d lt) ∙ pieces_size-append (take i xs) (get_or xs i d ∷ []) in
    omega (arith, e)

pub room_left : (xs : List Piece) (i : ℕ) (d : Piece) (page : List ℕ) → i < length xs → length page ≤ pieces_size (take i xs) → pieces_size xs ≤ 4096 → length page + piece_size (get_or xs i d) ≤ 4096
room_left xs i d page lt few all =
    let e : pieces_size (take (i + 1) xs ++ drop (i + 1) xs) ≡ pieces_size xs = ap pieces_size (take-append-drop (i + 1) xs) in
    omega (arith, e, few, all, size_more xs i d lt, pieces_size-append (take (i + 1) xs) (drop (i + 1) xs))

pub text_more : (xs : List Piece) (i : ℕ) (d : Piece) (page new : List ℕ) → i < length xs → page ≡ pieces_text (take i xs) → new ≡ page ++ piece_text (get_or xs i d) → new ≡ pieces_text (take (i + 1) xs)
text_more xs i d page new lt e f =
    f ∙ ap (λ (t : List ℕ). t ++ piece_text (get_or xs i d)) e ∙ ap (λ (t : List ℕ). pieces_text (take i xs) ++ t) (sym (append-nil (piece_text (get_or xs i d))))
    ∙ sym (pieces_text-append (take i xs) (get_or xs i d ∷ [])) ∙ ap pieces_text (sym (take_more xs i d lt))

pub fits_more : (xs : List Piece) (i : ℕ) (d : Piece) (page new : List ℕ) → i < length xs → length page ≤ pieces_size (take i xs) → length new ≤ length page + piece_size (get_or xs i d) → length new ≤ pieces_size (take (i + 1) xs)
fits_more xs i d page new lt few more = let e = size_more xs i d lt in omega (arith, e, few, more)

pub all_text : (xs : List Piece) (i : ℕ) (page : List ℕ) → length xs ≤ i → page ≡ pieces_text (take i xs) → page ≡ pieces_text xs
all_text xs i page le e = e ∙ ap pieces_text (take_all i xs le)
