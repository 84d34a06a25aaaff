-- Each line of a script before its questions reads as its edit.
use Rattle.std.proofs.Common.{◌≡◌, ℕ, zero, suc, ◌+◌, ◌*◌, ◌<◌, ◌≤◌, Bool, true, false, List, [], ◌∷◌, ◌++◌, codes, Ok, refl, sym, ap, subst, arith, append-nil, ℤ, pos}
use Rattle.std.specs.Prelude.{nat_eq, nat_lt, if◌then◌else◌}
use Rattle.std.specs.Fmt.{decimal}
use Rattle.itpg_edit.specs.declared.edit.Edit.{Edit}
use Rattle.itpg_edit.specs.declared.edit.Edit.TheVariants.{Begin, AddNode, AddEdge, Live, Put}
use Rattle.script_lex.specs.Lexemes.{Lexeme, AWord, ANumber, AQuote, written}
use Rattle.script_lex.specs.Numbers.{number_value}
use Rattle.edit_reader.specs.Readings.{Changes}
use Rattle.edit_reader.specs.Commands.{command_of}
use Rattle.edit_reader.specs.Lines.{LineOf}
use Rattle.trial_script.specs.Draws.{after, draw, drawn}
use Rattle.trial_script.specs.Script.{Text, node_name, edge_name, spaced, graph_line, node_line, live_line, edge_line, high_line, positive_line, edge_pair, edge_lines, sign_lines, after_sign, signs, each, edits}
use Rattle.trial_script.proofs.Places.{each_more, each_none}
use Rattle.itpg_run.specs.ScriptEdits.{node_label, edge_label, node_edit, node_life, edge_pair_edits, edge_edits, sign_edits, all_sign_edits, each_edits, changes, AllRead}
use Rattle.itpg_run.proofs.SpelledTokens.{line_text, IsSpelled}
use Rattle.itpg_run.proofs.LineTokens.{OneList, line_reads}
use Rattle.itpg_run.proofs.Spellings.{word_spelled, number_spelled, decimal_value, decimal_spelled, name_spelled, high_spelled, pos_spelled}

-- words with a space between, as tokens
abbrev texts : List Lexeme → List Text
texts [] = []
texts (l ∷ ls) = written l ∷ texts ls

spaced_texts : (first : Lexeme) (ls : List Lexeme) → spaced (texts (first ∷ ls)) ≡ line_text first ls
spaced_texts first [] = sym (append-nil (written first))
spaced_texts first (l ∷ ls) = ap (λ (b : List ℕ). written first ++ 32 ∷ b) (spaced_texts l ls)

-- a number below 100,000 as a token
abbrev number : ℕ → Lexeme
number n = ANumber (decimal n)

node_spelled : (i : ℕ) → i < 100000 → IsSpelled (AWord (node_name i))
unfolding node_name
node_spelled i low = name_spelled i low 110 refl refl refl

edge_spelled : (i : ℕ) → i < 100000 → IsSpelled (AWord (edge_name i))
unfolding edge_name
edge_spelled i low = name_spelled i low 101 refl refl refl

node_label_spelled : (i : ℕ) → IsSpelled (AWord (node_label i))
node_label_spelled i = by_test (nat_lt i 150)
  where
    by_test : (b : Bool) → IsSpelled (AWord (if b then codes "Person" else codes "Room"))
    by_test true = word_spelled 80 (codes "erson") refl refl refl (omega arith)
    by_test false = word_spelled 82 (codes "oom") refl refl refl (omega arith)

edge_label_spelled : (kind : ℕ) → IsSpelled (AWord (edge_label kind))
edge_label_spelled kind = by_test (nat_eq kind 0)
  where
    by_test : (b : Bool) → IsSpelled (AWord (if b then codes "meets" else codes "visits"))
    by_test true = word_spelled 109 (codes "eets") refl refl refl (omega arith)
    by_test false = word_spelled 118 (codes "isits") refl refl refl (omega arith)

module _ (one : OneList) where
  -- a node
  node_reads : (i : ℕ) → i < 100000 → LineOf (node_line i) (Ok (Changes (node_edit i)))
  unfolding node_line node_edit command_of
  node_reads i low =
      let first = AWord (codes "node") in
      let ls : List Lexeme = AWord (node_name i) ∷ AWord (node_label i) ∷ [] in
      subst (λ (l : Text). LineOf l (Ok (Changes (AddNode (node_name i) (node_label i ∷ []))))) (sym (spaced_texts first ls))
      (line_reads one first ls (Changes (AddNode (node_name i) (node_label i ∷ []))) (word_spelled 110 (codes "ode") refl refl refl (omega arith)) (node_spelled i low, (node_label_spelled i, tt)) (omega arith) refl refl refl)

  -- a graph
  graph_reads : LineOf graph_line (Ok (Changes (Begin (codes "trial") (pos 0) (pos 9999))))
  unfolding graph_line command_of
  graph_reads =
      let first = AWord (codes "graph") in
      let ls : List Lexeme = AWord (codes "trial") ∷ ANumber (codes "0") ∷ ANumber (codes "9999") ∷ [] in
      line_reads one first ls (Changes (Begin (codes "trial") (pos 0) (pos 9999))) (word_spelled 103 (codes "raph") refl refl refl (omega arith))
      (word_spelled 116 (codes "rial") refl refl refl (omega arith), (closed_zero, (closed_last, tt))) (omega arith) refl refl refl
    where
      closed_zero : IsSpelled (ANumber (codes "0"))
      closed_zero = number_spelled (codes "0") (omega arith) refl (omega arith) (record { least = omega arith; greatest = omega arith })

      closed_last : IsSpelled (ANumber (codes "9999"))
      closed_last = number_spelled (codes "9999") (omega arith) refl (omega arith) (record { least = omega arith; greatest = omega arith })

  -- a life
  live_reads : (name : Text) (from to : ℕ) → IsSpelled (AWord name) → from < 100000 → to < 100000 → LineOf (live_line name from to) (Ok (Changes (Live name (pos from) (pos to))))
  unfolding live_line command_of
  live_reads name from to spelled f t =
      let first = AWord (codes "live") in
      let ls : List Lexeme = AWord name ∷ number from ∷ number to ∷ [] in
      let read : LineOf (line_text first ls) (Ok (Changes (Live name (number_value (decimal from)) (number_value (decimal to))))) =
      line_reads one first ls (Changes (Live name (number_value (decimal from)) (number_value (decimal to)))) (word_spelled 108 (codes "ive") refl refl refl (omega arith))
      (spelled, (decimal_spelled from f, (decimal_spelled to t, tt))) (omega arith) refl refl refl in
      subst (λ (l : Text). LineOf l (Ok (Changes (Live name (pos from) (pos to))))) (sym (spaced_texts first ls))
      (subst (λ (z : ℤ). LineOf (line_text first ls) (Ok (Changes (Live name (pos from) z)))) (decimal_value to t)
      (subst (λ (z : ℤ). LineOf (line_text first ls) (Ok (Changes (Live name z (number_value (decimal to)))))) (decimal_value from f) read))

  -- an edge
  edge_reads : (i kind source target : ℕ) → i < 100000 → source < 100000 → target < 100000
      → LineOf (edge_line i (nat_eq kind 0) source target) (Ok (Changes (AddEdge (edge_name i) (edge_label kind ∷ []) (node_name source) (node_name target))))
  unfolding edge_line command_of
  edge_reads i kind source target low s t =
      let first = AWord (codes "edge") in
      let ls : List Lexeme = AWord (edge_name i) ∷ AWord (edge_label kind) ∷ AWord (node_name source) ∷ AWord (node_name target) ∷ [] in
      let edit = AddEdge (edge_name i) (edge_label kind ∷ []) (node_name source) (node_name target) in
      subst (λ (l : Text). LineOf l (Ok (Changes edit))) (sym (spaced_texts first ls))
      (line_reads one first ls (Changes edit) (word_spelled 101 (codes "dge") refl refl refl (omega arith))
      (edge_spelled i low, (edge_label_spelled kind, (node_spelled source s, (node_spelled target t, tt)))) (omega arith) refl refl refl)

  -- a value
  put_reads : (name prop value : Text) (from to : ℕ) → IsSpelled (AWord name) → IsSpelled (AWord prop) → IsSpelled (AQuote value) → from < 100000 → to < 100000
      → LineOf (line_text (AWord (codes "set")) (AWord name ∷ AWord prop ∷ AQuote value ∷ number from ∷ number to ∷ [])) (Ok (Changes (Put name prop value (pos from) (pos to))))
  unfolding command_of
  put_reads name prop value from to named a b f t =
      let first = AWord (codes "set") in
      let ls : List Lexeme = AWord name ∷ AWord prop ∷ AQuote value ∷ number from ∷ number to ∷ [] in
      let read : LineOf (line_text first ls) (Ok (Changes (Put name prop value (number_value (decimal from)) (number_value (decimal to))))) =
      line_reads one first ls (Changes (Put name prop value (number_value (decimal from)) (number_value (decimal to)))) (word_spelled 115 (codes "et") refl refl refl (omega arith))
      (named, (a, (b, (decimal_spelled from f, (decimal_spelled to t, tt))))) (omega arith) refl refl refl in
      subst (λ (z : ℤ). LineOf (line_text first ls) (Ok (Changes (Put name prop value (pos from) z)))) (decimal_value to t)
      (subst (λ (z : ℤ). LineOf (line_text first ls) (Ok (Changes (Put name prop value z (number_value (decimal to)))))) (decimal_value from f) read)

  high_reads : (i from to : ℕ) → i < 100000 → from < 100000 → to < 100000 → LineOf (high_line i from to) (Ok (Changes (Put (node_name i) (codes "risk") (codes "high") (pos from) (pos to))))
  unfolding high_line
  high_reads i from to low f t =
      subst (λ (l : Text). LineOf l (Ok (Changes (Put (node_name i) (codes "risk") (codes "high") (pos from) (pos to)))))
      (sym (spaced_texts (AWord (codes "set")) (AWord (node_name i) ∷ AWord (codes "risk") ∷ AQuote (codes "high") ∷ number from ∷ number to ∷ [])))
      (put_reads (node_name i) (codes "risk") (codes "high") from to (node_spelled i low) (word_spelled 114 (codes "isk") refl refl refl (omega arith)) high_spelled f t)

  positive_reads : (i from to : ℕ) → i < 100000 → from < 100000 → to < 100000 → LineOf (positive_line i from to) (Ok (Changes (Put (node_name i) (codes "test") (codes "pos") (pos from) (pos to))))
  unfolding positive_line
  positive_reads i from to low f t =
      subst (λ (l : Text). LineOf l (Ok (Changes (Put (node_name i) (codes "test") (codes "pos") (pos from) (pos to)))))
      (sym (spaced_texts (AWord (codes "set")) (AWord (node_name i) ∷ AWord (codes "test") ∷ AQuote (codes "pos") ∷ number from ∷ number to ∷ [])))
      (put_reads (node_name i) (codes "test") (codes "pos") from to (node_spelled i low) (word_spelled 116 (codes "est") refl refl refl (omega arith)) pos_spelled f t)

-- lines and edits of one part, and of the next
pub read_joined : (xs ys : List Text) (es fs : List Edit) → AllRead xs es → AllRead ys fs → AllRead (xs ++ ys) (es ++ fs)
read_joined [] ys [] fs h k = k
read_joined [] ys (e ∷ es) fs h k = absurd h
read_joined (x ∷ xs) ys [] fs h k = absurd h
read_joined (x ∷ xs) ys (e ∷ es) fs h k = (h.0, read_joined xs ys es fs h.1 k)

pub more_edits : (f : ℕ → List Edit) (i count : ℕ) → each_edits f i (suc count) ≡ f i ++ each_edits f (i + 1) count
unfolding each_edits
more_edits f i count = refl

pub no_edits : (f : ℕ → List Edit) (i : ℕ) → each_edits f i 0 ≡ []
unfolding each_edits
no_edits f i = refl

read_each : (lines : ℕ → List Text) (edits_of : ℕ → List Edit) (bound : ℕ) → ((i : ℕ) → i < bound → AllRead (lines i) (edits_of i))
    → (i count : ℕ) → i + count ≤ bound → AllRead (each lines i count) (each_edits edits_of i count)
read_each lines edits_of bound h i zero within = subst (λ (l : List Text). AllRead l (each_edits edits_of i 0)) (sym (each_none lines i)) (subst (AllRead []) (sym (no_edits edits_of i)) tt)
read_each lines edits_of bound h i (suc count) within =
    subst (λ (l : List Text). AllRead l (each_edits edits_of i (suc count))) (sym (each_more lines i count))
    (subst (AllRead (lines i ++ each lines (i + 1) count)) (sym (more_edits edits_of i count))
    (read_joined (lines i) (each lines (i + 1) count) (edits_of i) (each_edits edits_of (i + 1) count) (h i (omega (arith, within))) (read_each lines edits_of bound h (i + 1) count (omega (arith, within)))))

pub drawn_below : (x n : ℕ) → 0 < n → drawn x n < n
unfolding drawn
drawn_below x n some = omega (arith, some)

module _ (one : OneList) where
  pair_reads : (i source target kind from more : ℕ) → i < 100000 → source < 100000 → target < 100000 → from + more < 100000
      → AllRead (edge_pair i source target kind from more) (edge_pair_edits i source target kind from more)
  unfolding edge_pair edge_pair_edits
  pair_reads i source target kind from more low s t life =
      (edge_reads one i kind source target low s t, (live_reads one (edge_name i) from (from + more) (edge_spelled i low) (omega (arith, life)) life, tt))

  edge_lines_read : (number i : ℕ) → i < 2000 → AllRead (edge_lines number i) (edge_edits number i)
  unfolding edge_lines edge_edits
  edge_lines_read number i low =
      let k = 5 * i in
      let s = drawn_below (after number (suc k)) 200 (omega arith) in
      let t = drawn_below (after number (suc (k + 1))) 200 (omega arith) in
      let f = drawn_below (after number (suc (k + 3))) 9900 (omega arith) in
      let m = drawn_below (after number (suc (k + 4))) 100 (omega arith) in
      pair_reads i (draw number k 200) (draw number (k + 1) 200) (draw number (k + 2) 2) (draw number (k + 3) 9900) (draw number (k + 4) 100) (omega (arith, low)) (omega (arith, s)) (omega (arith, t)) (omega (arith, f, m))

  sign_lines_read : (i x : ℕ) → i < 150 → AllRead (sign_lines i x) (sign_edits i x)
  unfolding sign_lines sign_edits
  sign_lines_read i x low = by_test (nat_eq (draw x 0 4) 0) (nat_eq (draw x 0 4) 1)
    where
      from : ℕ
      from = draw x 1 9000

      by_test : (b c : Bool) → AllRead (if b then high_line i (draw x 1 9000) (draw x 1 9000 + 999) ∷ [] else if c then positive_line i (draw x 1 9000) (draw x 1 9000 + 99) ∷ [] else [])
          (if b then Put (node_name i) (codes "risk") (codes "high") (pos (draw x 1 9000)) (pos (draw x 1 9000 + 999)) ∷ [] else if c then Put (node_name i) (codes "test") (codes "pos") (pos (draw x 1 9000)) (pos (draw x 1 9000 + 99)) ∷ [] else [])
      by_test true c = let f = drawn_below (after x 2) 9000 (omega arith) in (high_reads one i (draw x 1 9000) (draw x 1 9000 + 999) (omega (arith, low)) (omega (arith, f)) (omega (arith, f)), tt)
      by_test false true = let f = drawn_below (after x 2) 9000 (omega arith) in (positive_reads one i (draw x 1 9000) (draw x 1 9000 + 99) (omega (arith, low)) (omega (arith, f)) (omega (arith, f)), tt)
      by_test false false = tt

  signs_read : (count i x : ℕ) → i + count ≤ 150 → AllRead (signs count i x) (all_sign_edits count i x)
  unfolding signs all_sign_edits
  signs_read zero i x within = tt
  signs_read (suc count) i x within =
      read_joined (sign_lines i x) (signs count (i + 1) (after_sign x)) (sign_edits i x) (all_sign_edits count (i + 1) (after_sign x)) (sign_lines_read i x (omega (arith, within))) (signs_read count (i + 1) (after_sign x) (omega (arith, within)))

  life_reads : (i : ℕ) → i < 100000 → LineOf (live_line (node_name i) 0 9999) (Ok (Changes (node_life i)))
  unfolding node_life
  life_reads i low = live_reads one (node_name i) 0 9999 (node_spelled i low) (omega arith) (omega arith)

  pub edits_read : (number : ℕ) → AllRead (edits number) (changes number)
  unfolding edits changes
  edits_read number =
      let nodes = read_each (λ i. node_line i ∷ []) (λ i. node_edit i ∷ []) 200 (λ i low. (node_reads one i (omega (arith, low)), tt)) 0 200 (omega arith) in
      let lives = read_each (λ i. live_line (node_name i) 0 9999 ∷ []) (λ i. node_life i ∷ []) 200 (λ i low. (life_reads i (omega (arith, low)), tt)) 0 200 (omega arith) in
      let pairs = read_each (edge_lines number) (edge_edits number) 2000 (λ i low. edge_lines_read number i low) 0 2000 (omega arith) in
      let risks = signs_read 150 0 (after number 10000) (omega arith) in
      (graph_reads one, read_joined _ _ _ _ (read_joined _ _ _ _ (read_joined _ _ _ _ nodes lives) pairs) risks)
