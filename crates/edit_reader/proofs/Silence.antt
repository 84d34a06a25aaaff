-- Blank lines and comments.
use Rattle.std.proofs.Common.{◌≡◌, ℕ, ◌<◌, List, true, false, ◌||◌, length, drop, get_or, sym, ap, ◌∙◌, arith, drop-cons}
use Rattle.std.specs.Prelude.{nat_eq}
use Rattle.std.specs.List.{prefix_len, list_all}
use Rattle.script_lex.specs.Bytes.{is_blank, begins_with}
use Rattle.script_lex.proofs.Runs.{run_short, run_whole}
use Rattle.edit_reader.specs.Faults.{is_silent}

-- the first byte that is no blank decides
pub silent_by_byte : (line : List ℕ) (i : ℕ) → i < length line → prefix_len is_blank line ≡ i → nat_eq (get_or line i 0) 35 ≡ is_silent line
silent_by_byte line i h run =
    let short : list_all is_blank line ≡ false = run_short is_blank line (omega arith) in
    sym (ap (λ b. b || begins_with (λ b. nat_eq b 35) (drop (prefix_len is_blank line) line)) short ∙ ap (λ k. begins_with (λ b. nat_eq b 35) (drop k line)) run ∙ ap (begins_with (λ b. nat_eq b 35)) (drop-cons line i 0 h))

-- and a line without one is silent
pub silent_by_end : (line : List ℕ) → prefix_len is_blank line ≡ length line → true ≡ is_silent line
silent_by_end line run =
    let whole : list_all is_blank line ≡ true = run_whole is_blank line (omega arith) in
    sym (ap (λ b. b || begins_with (λ b. nat_eq b 35) (drop (prefix_len is_blank line) line)) whole)
