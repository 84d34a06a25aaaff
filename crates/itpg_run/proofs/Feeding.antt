-- More bytes, one piece behind the other.
use Rattle.std.proofs.Common.{◌≡◌, ℕ, List, [], ◌++◌, append-nil, take, ◌∙◌, ap, sym, subst, append_assoc}
use Rattle.std.specs.declared.option.Option.{Option}
use Rattle.itpg_run.specs.Fed.{Fed, Feeds, StopsWhole, StopsWithin}
use Rattle.itpg_run.specs.Served.{WritesWithin}
use Rattle.itpg_run.specs.Lines.{kept}
use Rattle.itpg_run.specs.Split.{NoEnd}
use Rattle.itpg_run.specs.declared.reader.Reader.{Reader}
use Rattle.itpg_run.proofs.Fed.{fed_piece, writes_longer}

pub feeds_piece : (held : Option (List ℕ)) (old new : Reader) (piece : List ℕ) → NoEnd piece
    → new.session ≡ old.session → new.form ≡ old.form → new.number ≡ old.number → new.failing ≡ old.failing → new.line.items ≡ take kept (old.line.items ++ piece)
    → Feeds held held old new piece
feeds_piece held old new piece e session form number failing line = λ mode start bytes s. fed_piece mode start held old new bytes piece s e session form number failing line

pub feeds_then : (a b c : Option (List ℕ)) (p q r : Reader) (xs ys all : List ℕ) → Feeds a b p q xs → Feeds b c q r ys → xs ++ ys ≡ all → Feeds a c p r all
feeds_then a b c p q r xs ys all f g e = λ mode start bytes s.
    subst (Fed mode start c r) (append_assoc bytes xs ys ∙ ap (λ t. bytes ++ t) e) (g mode start (bytes ++ xs) (f mode start bytes s))

pub stops_whole_then : (a b c : Option (List ℕ)) (p q : Reader) (xs ys tail all : List ℕ) → Feeds a b p q xs → StopsWhole b c q ys → xs ++ (ys ++ tail) ≡ all → StopsWhole a c p all
stops_whole_then a b c p q xs ys tail all f g e = λ mode start bytes s.
    writes_longer mode start c ((bytes ++ xs) ++ ys) tail (bytes ++ all) (g mode start (bytes ++ xs) (f mode start bytes s))
    (append_assoc (bytes ++ xs) ys tail ∙ append_assoc bytes xs (ys ++ tail) ∙ ap (λ t. bytes ++ t) e)

pub stops_within_then : (a b c : Option (List ℕ)) (p q : Reader) (xs ys tail all : List ℕ) → Feeds a b p q xs → StopsWithin b c q ys → xs ++ (ys ++ tail) ≡ all → StopsWithin a c p all
stops_within_then a b c p q xs ys tail all f g e = λ mode start bytes s rest.
    subst (WritesWithin mode start c)
    (ap (λ t. (bytes ++ xs) ++ t) (sym (append_assoc ys tail rest)) ∙ append_assoc bytes xs ((ys ++ tail) ++ rest) ∙ ap (λ t. bytes ++ t) (sym (append_assoc xs (ys ++ tail) rest) ∙ ap (λ t. t ++ rest) e))
    (g mode start (bytes ++ xs) (f mode start bytes s) (tail ++ rest))

pub feeds_none : (held : Option (List ℕ)) (r : Reader) → Feeds held held r r []
feeds_none held r = λ mode start bytes s. subst (Fed mode start held r) (sym (append-nil bytes)) s
