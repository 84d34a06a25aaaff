use Rattle.std.proofs.Common.{◌≡◌, ℕ, List, [], ◌++◌, sym, ap, ◌∙◌, codes}
use Rattle.std.specs.Prelude.{decimal}
use Rattle.itpg_base.specs.Rules.{rule_word}
use Rattle.itpg_base.specs.declared.rule_code.RuleCode.{RuleCode}
use Rattle.row_printer.specs.declared.form.Form.{Form}
use Rattle.row_printer.specs.declared.form.Form.TheVariants.{Json}
use Rattle.reply_text.specs.Texts.{refused_text}
use Rattle.reply_text.proofs.Groups.{five}
use Rattle.reply_text.proofs.heads.refused.Goals as goal

pieces_as : (form : Form) (n : ℕ) (rule : RuleCode) (word : List ℕ) → form ≡ Json → word ≡ rule_word rule
    → codes "{\"line\":" ++ (decimal n ++ (codes ",\"refused\":\"" ++ (word ++ (codes "\"}\n" ++ [])))) ≡ refused_text form n rule
unfolding refused_text
pieces_as form n rule word e f =
    ap (λ (w : List ℕ). codes "{\"line\":" ++ (decimal n ++ (codes ",\"refused\":\"" ++ (w ++ (codes "\"}\n" ++ []))))) f
    ∙ five (codes "{\"line\":") (decimal n) (codes ",\"refused\":\"") (rule_word rule) (codes "\"}\n") ∙ ap (λ (x : Form). refused_text x n rule) (sym e)

pub returns-in-Json : goal.returns-in-Json
returns-in-Json c = c.of-in-Json.ensures ∙ pieces_as c.args.form c.args.number c.args.rule _ c.in-Json.is (c.as_bytes-in-Json.ensures.value ∙ c.word-in-Json.ensures.word)
