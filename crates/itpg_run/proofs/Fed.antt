-- What a byte and a line more do to a reader that was fed.
use Rattle.std.proofs.Common.{◌≡◌, ℕ, ◌+◌, List, [], ◌∷◌, ◌++◌, ◌≢◌, ◌||◌, length, take, refl, ap, ap₂, ◌∙◌, sym, subst, append_assoc, append-nil, length-append, arith}
use Rattle.std.specs.declared.option.Option.{Option}
use Rattle.std.specs.Io.KnownBytes.{Keeps}
use Rattle.std.proofs.KnownBytes.{Appends-trans, Appends-kept}
use Rattle.itpg_session.specs.Machine.{Machine, Standing, opening}
use Rattle.itpg_session.specs.Steps.{StandsAs}
use Rattle.itpg_run.specs.Lines.{kept, lines, whole}
use Rattle.itpg_run.specs.Out.{Mode, mode_at, Output, LineOut, both, Runs}
use Rattle.itpg_run.specs.Split.{NoEnd, NoEnds, joined, last_line}
use Rattle.itpg_run.specs.Served.{WritesLines, WritesOut, WritesAs, WritesWithin}
use Rattle.itpg_run.specs.Fed.{mode_of, RepliesTo, AnswersWithin, Fed, EndsLine}
use Rattle.itpg_run.specs.declared.reader.Reader.{Reader}
use Rattle.itpg_run.proofs.Split.{NoEnd-append, NoEnds-push, joined-push, lines-joined, lines-line, lines-rest, whole-joined, whole-rest}
use Rattle.itpg_run.proofs.Kept.{take_take, take_none, take_nothing, kept_is}
use Rattle.itpg_run.proofs.Running.{runs-push}

-- a piece in which no line ends
pub fed_piece : (mode : Mode) (start now : Option (List ℕ)) (old new : Reader) (bytes piece : List ℕ)
    → Fed mode start now old bytes → NoEnd piece
    → new.session ≡ old.session → new.form ≡ old.form → new.number ≡ old.number → new.failing ≡ old.failing → new.line.items ≡ take kept (old.line.items ++ piece)
    → Fed mode start now new (bytes ++ piece)
fed_piece mode start now old new bytes piece s e session form number failing line = record {
  lines = s.lines;
  rest = s.rest ++ piece;
  split = sym (append_assoc (joined s.lines) s.rest piece) ∙ ap (λ t. t ++ piece) s.split;
  ended = s.ended;
  open_end = NoEnd-append s.rest piece s.open_end e;
  output = s.output;
  runs = s.runs;
  form = form ∙ s.form;
  session = subst (λ (t : Standing). StandsAs t s.output.next mode.limit) (sym session) s.session;
  number = number ∙ s.number;
  line = line ∙ ap (λ t. take kept (t ++ piece)) s.line ∙ take_take kept s.rest piece;
  failing = failing ∙ s.failing;
  written = s.written;
}

-- the mode of a reader that was fed
same_mode : (r : Reader) (mode : Mode) → r.form ≡ mode.form → r.session.limit ≡ mode.limit → mode_of r ≡ mode
same_mode r mode form limit = ap₂ mode_at form limit

-- what the session answers is what the machine answers to the whole line
replies_rest : (mode : Mode) (start now : Option (List ℕ)) (r : Reader) (bytes : List ℕ) → (s : Fed mode start now r bytes) → (t : Output) → RepliesTo r t → LineOut mode s.output.next (1 + length s.lines) s.rest t
replies_rest mode start now r bytes s t a =
    subst (λ n. LineOut mode s.output.next n s.rest t) s.number
    (subst (λ (v : Mode). LineOut v s.output.next r.number s.rest t) (same_mode r mode s.form s.session.limit) (subst (λ (m : Machine). LineOut (mode_of r) m r.number s.rest t) s.session.machine (a s.rest s.line)))

runs_rest : (mode : Mode) (start now : Option (List ℕ)) (r : Reader) (bytes : List ℕ) → (s : Fed mode start now r bytes) → (t : Output) → RepliesTo r t → Runs mode opening 1 (s.lines ++ s.rest ∷ []) (both s.output t)
runs_rest mode start now r bytes s t a = runs-push mode opening 1 s.lines s.rest s.output t s.runs (replies_rest mode start now r bytes s t a)

-- the end of a line
pub fed_line : (mode : Mode) (start before now : Option (List ℕ)) (old new : Reader) (bytes : List ℕ)
    → Fed mode start before old bytes → EndsLine before now old new → Fed mode start now new (bytes ++ 10 ∷ [])
fed_line mode start before now old new bytes s e = record {
  lines = s.lines ++ s.rest ∷ [];
  rest = [];
  split = append-nil _ ∙ joined-push s.lines s.rest ∙ sym (append_assoc (joined s.lines) s.rest (10 ∷ [])) ∙ ap (λ t. t ++ 10 ∷ []) s.split;
  ended = NoEnds-push s.lines s.rest s.ended s.open_end;
  open_end = tt;
  output = both s.output e.output;
  runs = runs_rest mode start before old bytes s e.output e.replies;
  form = e.form ∙ s.form;
  session = record { machine = e.session.machine; limit = e.session.limit ∙ s.session.limit };
  number = omega (arith, s.number, e.number, length-append s.lines (s.rest ∷ []));
  line = e.line ∙ sym (take_nothing kept);
  failing = e.failing ∙ ap (λ t. t || e.output.failing) s.failing;
  written = Appends-trans start before now _ _ s.written e.written;
}

pub lines_joined : (ls : List (List ℕ)) → NoEnds ls → lines (joined ls) ≡ ls
unfolding lines
lines_joined ls ended = ap lines (sym (append-nil (joined ls))) ∙ lines-joined ls [] ended ∙ append-nil ls

pub whole_joined : (ls : List (List ℕ)) (rest : List ℕ) → NoEnds ls → NoEnd rest → whole (joined ls ++ rest) ≡ joined ls
whole_joined ls rest ended open_end = whole-joined ls rest ended ∙ ap (λ t. joined ls ++ t) (whole-rest rest open_end) ∙ append-nil (joined ls)

-- the lines of the whole lines
lines_whole : (mode : Mode) (start now : Option (List ℕ)) (r : Reader) (bytes : List ℕ) → (s : Fed mode start now r bytes) → lines (whole bytes) ≡ s.lines
lines_whole mode start now r bytes s = ap (λ t. lines (whole t)) (sym s.split) ∙ ap lines (whole_joined s.lines s.rest s.ended s.open_end) ∙ lines_joined s.lines s.ended

-- the replies to whole lines are the output over them
pub fed_out_whole : (mode : Mode) (start now : Option (List ℕ)) (r : Reader) (bytes : List ℕ) → Fed mode start now r bytes → WritesOut mode start now (whole bytes)
fed_out_whole mode start now r bytes s = record { output = s.output; out = subst (λ ls. Runs mode opening 1 ls s.output) (sym (lines_whole mode start now r bytes s)) s.runs; written = s.written }

-- nothing more was written
pub fed_whole : (mode : Mode) (start before now : Option (List ℕ)) (r : Reader) (bytes more : List ℕ) → Fed mode start before r bytes → Keeps before now → WritesLines mode start now (bytes ++ more)
fed_whole mode start before now r bytes more s keeps = record {
  front = bytes;
  rest = more;
  split = refl;
  writes = let w = fed_out_whole mode start before r bytes s in record { output = w.output; out = w.out; written = Appends-kept start before now _ w.written keeps };
}

-- a front part of a reply was written behind what was written
within : (mode : Mode) (start before now : Option (List ℕ)) (r : Reader) (bytes all : List ℕ) (rest : List (List ℕ)) → (s : Fed mode start before r bytes)
    → (w : AnswersWithin before now r) → (s.lines ++ s.rest ∷ []) ++ rest ≡ lines all → WritesWithin mode start now all
within mode start before now r bytes all rest s w e = record {
  front = s.lines ++ s.rest ∷ [];
  rest = rest;
  split = e;
  output = both s.output w.output;
  runs = runs_rest mode start before r bytes s w.output w.replies;
  some = record {
    taken = s.output.text ++ w.some.taken;
    rest = w.some.rest;
    split = append_assoc s.output.text w.some.taken w.some.rest ∙ ap (λ t. s.output.text ++ t) w.some.split;
    appends = Appends-trans start before now _ _ s.written w.some.appends;
  };
}

pub fed_within : (mode : Mode) (start before now : Option (List ℕ)) (r : Reader) (bytes : List ℕ) → Fed mode start before r bytes → AnswersWithin before now r
    → (rest : List ℕ) → WritesWithin mode start now (bytes ++ 10 ∷ rest)
fed_within mode start before now r bytes s w rest =
    within mode start before now r bytes (bytes ++ 10 ∷ rest) (lines rest) s w
    (append_assoc s.lines (s.rest ∷ []) (lines rest) ∙ sym (ap (λ t. lines (t ++ (10 ∷ rest))) (sym s.split) ∙ ap lines (append_assoc (joined s.lines) s.rest (10 ∷ rest)) ∙ lines-joined s.lines (s.rest ++ (10 ∷ rest)) s.ended ∙ ap (λ t. s.lines ++ t) (lines-line s.rest rest s.open_end)))

-- the same, of more bytes
pub writes_longer : (mode : Mode) (start now : Option (List ℕ)) (xs more ys : List ℕ) → WritesLines mode start now xs → xs ++ more ≡ ys → WritesLines mode start now ys
writes_longer mode start now xs more ys w e = record {
  front = w.front;
  rest = w.rest ++ more;
  split = sym (append_assoc w.front w.rest more) ∙ ap (λ t. t ++ more) w.split ∙ e;
  writes = w.writes;
}

lines_of : (mode : Mode) (start now : Option (List ℕ)) (r : Reader) (bytes : List ℕ) → (s : Fed mode start now r bytes) → lines bytes ≡ s.lines ++ last_line s.rest
lines_of mode start now r bytes s = sym (ap lines s.split) ∙ lines-joined s.lines s.rest s.ended ∙ ap (λ t. s.lines ++ t) (lines-rest s.rest s.open_end)

last_some : (r : List ℕ) → r ≢ [] → last_line r ≡ r ∷ []
last_some [] some = absurd (some refl)
last_some (x ∷ xs) some = refl

lines_with_last : (mode : Mode) (start now : Option (List ℕ)) (r : Reader) (bytes : List ℕ) → (s : Fed mode start now r bytes) → r.line.items ≢ [] → lines bytes ≡ s.lines ++ s.rest ∷ []
lines_with_last mode start now r bytes s some = lines_of mode start now r bytes s ∙ ap (λ t. s.lines ++ t) (last_some s.rest (λ h. some (s.line ∙ ap (take kept) h ∙ take_nothing kept)))

-- with no byte behind the last line end, all is answered
pub ends_whole : (mode : Mode) (start now : Option (List ℕ)) (r : Reader) (bytes : List ℕ) → Fed mode start now r bytes → r.line.items ≡ [] → WritesAs mode start now bytes r.failing
ends_whole mode start now r bytes s e =
    let are : lines bytes ≡ s.lines = lines_of mode start now r bytes s ∙ ap (λ t. s.lines ++ last_line t) (take_none kept s.rest (omega (arith, kept_is)) (sym s.line ∙ e)) ∙ append-nil s.lines in
    record { output = s.output; out = subst (λ ls. Runs mode opening 1 ls s.output) (sym are) s.runs; written = s.written; fails = sym s.failing }

-- a last line without an end
pub ends_line : (mode : Mode) (start before now : Option (List ℕ)) (old new : Reader) (bytes : List ℕ)
    → Fed mode start before old bytes → old.line.items ≢ [] → EndsLine before now old new → WritesAs mode start now bytes new.failing
ends_line mode start before now old new bytes s some e = record {
  output = both s.output e.output;
  out = subst (λ ls. Runs mode opening 1 ls (both s.output e.output)) (sym (lines_with_last mode start before old bytes s some)) (runs_rest mode start before old bytes s e.output e.replies);
  written = Appends-trans start before now _ _ s.written e.written;
  fails = sym (e.failing ∙ ap (λ t. t || e.output.failing) s.failing);
}

pub ends_within : (mode : Mode) (start before now : Option (List ℕ)) (r : Reader) (bytes : List ℕ)
    → Fed mode start before r bytes → r.line.items ≢ [] → AnswersWithin before now r → WritesWithin mode start now bytes
ends_within mode start before now r bytes s some w = within mode start before now r bytes bytes [] s w (append-nil _ ∙ sym (lines_with_last mode start before r bytes s some))
