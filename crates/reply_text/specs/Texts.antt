-- The text of a reply in either form: as lines of words, or as lines of JSON. Every line ends, and a line of JSON has no blanks.
use Rattle.std.specs.Prelude.{ℕ, List, [], ◌∷◌, ◌++◌, length, codes, Some, None}
use Rattle.std.specs.Fmt.{decimal}
use Rattle.itpg_base.specs.Words.{Word}
use Rattle.itpg_base.specs.Graphs.{Graph}
use Rattle.itpg_base.specs.Rules.{rule_word}
use Rattle.itpg_base.specs.declared.rule_code.RuleCode.{RuleCode}
use Rattle.itpg_base.specs.TextCodes.{text_word}
use Rattle.itpg_base.specs.declared.text_code.TextCode.{TextCode}
use Rattle.relation_rows.specs.Answered.{Answered, row_number}
use Rattle.arrivals.specs.declared.counts.CountRow.{CountRow}
use Rattle.row_printer.specs.declared.form.Form.{Form}
use Rattle.row_printer.specs.declared.form.Form.TheVariants.{Plain, Json}
use Rattle.row_printer.specs.JsonTexts.{plus, minus}
use Rattle.row_printer.specs.Texts.{answer_text, json_text, counts_text, json_counts_text}

-- `line N refused RULE`, or `{"line":N,"refused":"RULE"}`
unfoldable pub refused_text : Form → ℕ → RuleCode → List ℕ
refused_text Plain number rule = codes "line " ++ decimal number ++ codes " refused " ++ rule_word rule ++ codes "\n"
refused_text Json number rule = codes "{\"line\":" ++ decimal number ++ codes ",\"refused\":\"" ++ rule_word rule ++ codes "\"}\n"

-- `line N bad CODE`, or `{"line":N,"bad":"CODE"}`
unfoldable pub bad_text : Form → ℕ → TextCode → List ℕ
bad_text Plain number code = codes "line " ++ decimal number ++ codes " bad " ++ text_word code ++ codes "\n"
bad_text Json number code = codes "{\"line\":" ++ decimal number ++ codes ",\"bad\":\"" ++ text_word code ++ codes "\"}\n"

-- `line N wide`, or `{"line":N,"wide":true}`
unfoldable pub wide_text : Form → ℕ → List ℕ
wide_text Plain number = codes "line " ++ decimal number ++ codes " wide\n"
wide_text Json number = codes "{\"line\":" ++ decimal number ++ codes ",\"wide\":true}\n"

-- `line N rows K`, or `{"line":N,"rows":K}`
unfoldable pub head_text : Form → ℕ → ℕ → List ℕ
head_text Plain number count = codes "line " ++ decimal number ++ codes " rows " ++ decimal count ++ codes "\n"
head_text Json number count = codes "{\"line\":" ++ decimal number ++ codes ",\"rows\":" ++ decimal count ++ codes "}\n"

-- `line N counts K`, or `{"line":N,"counts":K}`
unfoldable pub counts_head_text : Form → ℕ → ℕ → List ℕ
counts_head_text Plain number count = codes "line " ++ decimal number ++ codes " counts " ++ decimal count ++ codes "\n"
counts_head_text Json number count = codes "{\"line\":" ++ decimal number ++ codes ",\"counts\":" ++ decimal count ++ codes "}\n"

-- `tick NAME wide`, or `{"tick":"NAME","wide":true}`
unfoldable pub tick_wide_text : Form → Word → List ℕ
tick_wide_text Plain name = codes "tick " ++ name ++ codes " wide\n"
tick_wide_text Json name = codes "{\"tick\":\"" ++ name ++ codes "\",\"wide\":true}\n"

-- `tick NAME gained K lost M`, or `{"tick":"NAME","gained":K,"lost":M}`
unfoldable pub tick_head_text : Form → Word → ℕ → ℕ → List ℕ
tick_head_text Plain name gained lost = codes "tick " ++ name ++ codes " gained " ++ decimal gained ++ codes " lost " ++ decimal lost ++ codes "\n"
tick_head_text Json name gained lost = codes "{\"tick\":\"" ++ name ++ codes "\",\"gained\":" ++ decimal gained ++ codes ",\"lost\":" ++ decimal lost ++ codes "}\n"

-- a line for each row of the answer
abbrev pub rows_in : Form → Graph → Answered → List ℕ
rows_in Plain g answer = answer_text g [] answer
rows_in Json g answer = json_text g None answer

-- a line for each row of the answer, with a sign before it: `+` or `-`
abbrev pub signed_rows : Form → Graph → ℕ → Answered → List ℕ
signed_rows Plain g sign answer = answer_text g (sign ∷ codes " ") answer
signed_rows Json g sign answer = json_text g (Some sign) answer

-- a line for each count
abbrev pub counts_in : Form → List CountRow → List ℕ
counts_in Plain counts = counts_text counts
counts_in Json counts = json_counts_text counts

-- how many rows there are, and a line for each row of the answer
abbrev pub rows_text : Form → Graph → ℕ → Answered → List ℕ
rows_text form g number answer = head_text form number (row_number answer) ++ rows_in form g answer

-- how many counts there are, and a line for each
abbrev pub counted_text : Form → ℕ → List CountRow → List ℕ
counted_text form number counts = counts_head_text form number (length counts) ++ counts_in form counts

-- how many rows were gained and how many lost, and these rows, each with its sign: first those that were gained
abbrev pub changes_text : Form → Graph → Word → Answered → Answered → List ℕ
changes_text form g name gained lost =
    tick_head_text form name (row_number gained) (row_number lost) ++ (signed_rows form g plus gained ++ signed_rows form g minus lost)
