use Rattle.std.proofs.Common.{◌≡◌, ℕ, List, [], ◌++◌, sym, ap, ◌∙◌, codes}
use Rattle.std.specs.Prelude.{decimal}
use Rattle.itpg_base.specs.Words.{Word}
use Rattle.row_printer.specs.declared.form.Form.{Form}
use Rattle.row_printer.specs.declared.form.Form.TheVariants.{Json}
use Rattle.reply_text.specs.Texts.{tick_head_text}
use Rattle.reply_text.proofs.Groups.{seven}
use Rattle.reply_text.proofs.heads.tick_head.Goals as goal

pieces_as : (form : Form) (name : Word) (gained lost : ℕ) (word : List ℕ) → form ≡ Json → word ≡ name
    → codes "{\"tick\":\"" ++ (word ++ (codes "\",\"gained\":" ++ (decimal gained ++ (codes ",\"lost\":" ++ (decimal lost ++ (codes "}\n" ++ [])))))) ≡ tick_head_text form name gained lost
unfolding tick_head_text
pieces_as form name gained lost word e f =
    ap (λ (w : List ℕ). codes "{\"tick\":\"" ++ (w ++ (codes "\",\"gained\":" ++ (decimal gained ++ (codes ",\"lost\":" ++ (decimal lost ++ (codes "}\n" ++ []))))))) f
    ∙ seven (codes "{\"tick\":\"") name (codes "\",\"gained\":") (decimal gained) (codes ",\"lost\":") (decimal lost) (codes "}\n")
    ∙ ap (λ (x : Form). tick_head_text x name gained lost) (sym e)

pub returns-in-Json : goal.returns-in-Json
returns-in-Json c = c.of-in-Json.ensures ∙ pieces_as c.args.form c.args.name.now c.args.gained c.args.lost _ c.in-Json.is c.bytes-in-Json.ensures.value
