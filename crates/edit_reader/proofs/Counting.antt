-- Tokens, counted while they are read.
use Rattle.std.proofs.Common.{◌≡◌, ℕ, ◌+◌, ◌<◌, ◌≤◌, List, [], ◌∷◌, ◌++◌, Option, None, true, false, Err, length, refl, sym, ap, ap₂, ◌∙◌, arith, length-append}
use Rattle.std.specs.Prelude.{nat_lt}
use Rattle.std.proofs.lemmas.Bool.{lt-ltb, le-ltb}
use Rattle.itpg_base.specs.declared.text_code.TextCode.{TextCode}
use Rattle.script_lex.specs.declared.token.TheConstants.{MAX_TOKENS}
use Rattle.script_lex.specs.Lines.{Placed, IsNext, LeadTo, AreTokens}
use Rattle.script_lex.proofs.OneList.{lead_more, tokens_unique}
use Rattle.edit_reader.specs.declared.faults.Scan.{Scan}
use Rattle.edit_reader.specs.Scans.{IsScan}
use Rattle.edit_reader.specs.Steps.{Told}
use Rattle.edit_reader.specs.Telling.{tokens_told, end_told, is_byte}

-- up to this place so many tokens stand one behind another
pub record IsCounted (line : List ℕ) (at count : ℕ) : Type 0 where
  pub tokens : List Placed
  pub lead : LeadTo line 0 tokens at
  pub counted : count ≡ length tokens
  pub few : count ≤ at
  pub within : at ≤ length line

pub one_more : (line : List ℕ) (at count : ℕ) (t : Placed) → IsCounted line at count → IsNext line at t → at < t.to → t.to ≤ length line → IsCounted line t.to (count + 1)
one_more line at count t c next later inside = record {
  tokens = c.tokens ++ t ∷ [];
  lead = lead_more line 0 at c.tokens t c.lead next;
  counted = let long = length-append c.tokens (t ∷ []) in omega (arith, c.counted);
  few = omega (arith, c.few);
  within = inside;
}

-- a line has one list of tokens, so its faults are those that were counted
pub same_faults : (line : List ℕ) (scan : Scan) → IsScan line scan → (tokens : List Placed) (end : Option TextCode) → AreTokens line 0 tokens end → (go_on : Told) → tokens_told end (length tokens) go_on ≡ tokens_told scan.end scan.count go_on
same_faults line scan s tokens end are go_on =
    let same = tokens_unique line 0 tokens s.tokens end scan.end are s.are in
    ap₂ (λ (e : Option TextCode) (n : ℕ). tokens_told e n go_on) same.1 (ap length same.0 ∙ sym s.count)

-- too many tokens, that end at no bad byte
pub many_told : (end : Option TextCode) (count : ℕ) (go_on : Told) → is_byte end ≡ false → MAX_TOKENS < count → tokens_told end count go_on ≡ Err TextCode.Tokens
many_told end count go_on fine many = let test : nat_lt MAX_TOKENS count ≡ true = lt-ltb MAX_TOKENS count many in rw (fine, test) refl

-- few tokens, that end at no bad byte
pub few_told : (end : Option TextCode) (count : ℕ) (go_on : Told) → is_byte end ≡ false → count ≤ MAX_TOKENS → tokens_told end count go_on ≡ end_told end go_on
few_told end count go_on fine few = let test : nat_lt MAX_TOKENS count ≡ false = le-ltb MAX_TOKENS count few in rw (fine, test) refl

-- few tokens that end with the line
pub good_told : (end : Option TextCode) (count : ℕ) (go_on : Told) → end ≡ None → count ≤ MAX_TOKENS → tokens_told end count go_on ≡ go_on
good_told end count go_on ended few = few_told end count go_on (ap is_byte ended) few ∙ ap (λ (e : Option TextCode). end_told e go_on) ended
