use Rattle.std.proofs.Common.{length, sym, ap, ◌∙◌, ◌≤◌, arith, refl}
use Rattle.script_lex.specs.declared.token.TheConstants.{MAX_TOKENS}
use Rattle.edit_reader.proofs.Counting.{same_faults, many_told, few_told}
use Rattle.edit_reader.proofs.SimpleLines.{ends_well, tokens_few}
use Rattle.edit_reader.specs.Telling.{end_told}
use Rattle.script_lex.proofs.OneList.{tokens_unique}
use Rattle.edit_reader.proofs.faults.check_tokens.Goals as goal

pub returns-then-is_simple : goal.returns-then-is_simple
returns-then-is_simple c =
    let simple = sym c.is_simple.ensures ∙ c.if-is_simple.true in
    λ tokens end are.
    let few = tokens_few c.args.line.now 0 tokens end (omega arith) are in
    (ends_well c.args.line.now simple 0 tokens end are, (let short = c.if-line-le-MAX_TOKENS.true in omega (arith, few, short)))

pub returns-then-is_byte : goal.returns-then-is_byte
returns-then-is_byte c =
    let byte = sym c.is_byte.ensures ∙ c.if-is_byte.true in
    λ tokens end are go_on. same_faults c.args.line.now c.scan_line-scan.result c.scan_line-scan.ensures tokens end are go_on ∙ rw byte refl

pub returns-then-scan-gt-MAX_TOKENS : goal.returns-then-scan-gt-MAX_TOKENS
returns-then-scan-gt-MAX_TOKENS c =
    let scan = c.scan_line-scan.result in
    let fine = sym c.is_byte.ensures ∙ c.if-is_byte.false in
    λ tokens end are go_on. same_faults c.args.line.now scan c.scan_line-scan.ensures tokens end are go_on ∙ many_told scan.end scan.count go_on fine c.if-scan-gt-MAX_TOKENS.true

pub returns-in-Some : goal.returns-in-Some
returns-in-Some c =
    let scan = c.scan_line-scan.result in
    let fine = sym c.is_byte.ensures ∙ c.if-is_byte.false in
    λ tokens end are go_on. same_faults c.args.line.now scan c.scan_line-scan.ensures tokens end are go_on ∙ few_told scan.end scan.count go_on fine c.if-scan-gt-MAX_TOKENS.false ∙ ap (λ e. end_told e go_on) c.in-Some.is

pub returns-in-None : goal.returns-in-None
returns-in-None c =
    let scan = c.scan_line-scan.result in
    λ tokens end are.
    let same = tokens_unique c.args.line.now 0 tokens c.scan_line-scan.ensures.tokens end scan.end are c.scan_line-scan.ensures.are in
    let long : length tokens ≤ MAX_TOKENS = omega (arith, ap length same.0, c.scan_line-scan.ensures.count, c.if-scan-gt-MAX_TOKENS.false) in
    (same.1 ∙ c.in-None.is, long)
