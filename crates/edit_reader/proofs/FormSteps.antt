-- Several tokens taken one behind another, and what is left to look at.
use Rattle.std.proofs.Common.{◌≡◌, ℕ, ℤ, List, [], Ok, Err, ◌∙◌}
use Rattle.itpg_edit.specs.declared.edit.Edit.{Edit}
use Rattle.script_lex.specs.Lexemes.{AWord, AQuote}
use Rattle.script_lex.specs.Lines.{Placed}
use Rattle.edit_reader.specs.Readings.{Changes}
use Rattle.edit_reader.specs.Forms.{lexemes}
use Rattle.edit_reader.specs.Steps.{name_then, node_names_then, edge_names_then, node_told, edge_told, live_told, put_told, clear_told}
use Rattle.edit_reader.specs.Taken.{IsTaken, AreSpan, NoWord, AreListed, NoneListed}
use Rattle.edit_reader.proofs.Stepping.{word_step, quoted_step}
use Rattle.edit_reader.proofs.PartSteps.{goes_to_end, stops_at_end, stops_at_word, goes_on_span, labels_step, stops_at_labels}
use Rattle.itpg_base.specs.declared.text_code.TextCode.{TextCode}

module _ {l l1 l2 : List ℕ} {at1 at2 : ℕ} {tokens : List Placed} {id second : List ℕ} (t : IsTaken l tokens (AWord id) l1 at1) (u : IsTaken l1 t.rest (AWord second) l2 at2) where
  pub clear_steps : (from to : ℤ) → AreSpan (lexemes u.rest) from to → clear_told (lexemes tokens) ≡ name_then id (λ a. name_then second (λ b. Ok (Changes (Edit.Clear a b from to))))
  clear_steps from to span = word_step t _ ∙ word_step u _ ∙ goes_on_span (lexemes u.rest) span (λ from to. name_then id (λ a. name_then second (λ b. Ok (Changes (Edit.Clear a b from to)))))

  pub put_steps : {l3 : List ℕ} {at3 : ℕ} {text : List ℕ} (v : IsTaken l2 u.rest (AQuote text) l3 at3) (from to : ℤ) → AreSpan (lexemes v.rest) from to → put_told (lexemes tokens) ≡ name_then id (λ a. name_then second (λ b. name_then text (λ c. Ok (Changes (Edit.Put a b c from to)))))
  put_steps {text = text} v from to span =
      word_step t _ ∙ word_step u _ ∙ quoted_step v _ ∙ goes_on_span (lexemes v.rest) span (λ from to. name_then id (λ a. name_then second (λ b. name_then text (λ c. Ok (Changes (Edit.Put a b c from to))))))

-- behind a name stands a span
module _ {l l1 : List ℕ} {at1 : ℕ} {tokens : List Placed} {id : List ℕ} (t : IsTaken l tokens (AWord id) l1 at1) where
  pub live_steps : (from to : ℤ) → AreSpan (lexemes t.rest) from to → live_told (lexemes tokens) ≡ name_then id (λ a. Ok (Changes (Edit.Live a from to)))
  live_steps from to span = word_step t _ ∙ goes_on_span (lexemes t.rest) span (λ from to. name_then id (λ a. Ok (Changes (Edit.Live a from to))))

-- behind a name stands a list of labels
module _ {l l1 : List ℕ} {at1 : ℕ} {tokens : List Placed} {id : List ℕ} (t : IsTaken l tokens (AWord id) l1 at1) where
  pub node_stops_at_list : {code : TextCode} → NoneListed 8 t.rest code → node_told (lexemes tokens) ≡ Err code
  node_stops_at_list none = word_step t _ ∙ stops_at_labels t.rest none _

  pub edge_stops_at_list : {code : TextCode} → NoneListed 8 t.rest code → edge_told (lexemes tokens) ≡ Err code
  edge_stops_at_list none = word_step t _ ∙ stops_at_labels t.rest none _

  module _ {l2 : List ℕ} {at2 : ℕ} (a : AreListed l1 8 t.rest l2 at2) where
    pub node_stops_at_end : {code : TextCode} → (code ≡ TextCode.Text) × (a.rest ≡ [] → ⊥) → node_told (lexemes tokens) ≡ Err code
    node_stops_at_end some = word_step t _ ∙ labels_step a _ ∙ stops_at_end a.rest some _

    pub node_steps : a.rest ≡ [] → node_told (lexemes tokens) ≡ node_names_then id a.words
    node_steps end = word_step t _ ∙ labels_step a _ ∙ goes_to_end a.rest end _

    pub edge_stops_at_source : {code : TextCode} → (code ≡ TextCode.Text) × NoWord (lexemes a.rest) → edge_told (lexemes tokens) ≡ Err code
    edge_stops_at_source none = word_step t _ ∙ labels_step a _ ∙ stops_at_word (lexemes a.rest) none _

    module _ {l3 : List ℕ} {at3 : ℕ} {source : List ℕ} (v : IsTaken l2 a.rest (AWord source) l3 at3) where
      pub edge_stops_at_target : {code : TextCode} → (code ≡ TextCode.Text) × NoWord (lexemes v.rest) → edge_told (lexemes tokens) ≡ Err code
      edge_stops_at_target none = word_step t _ ∙ labels_step a _ ∙ word_step v _ ∙ stops_at_word (lexemes v.rest) none _

      module _ {l4 : List ℕ} {at4 : ℕ} {target : List ℕ} (w : IsTaken l3 v.rest (AWord target) l4 at4) where
        pub edge_stops_at_end : {code : TextCode} → (code ≡ TextCode.Text) × (w.rest ≡ [] → ⊥) → edge_told (lexemes tokens) ≡ Err code
        edge_stops_at_end some = word_step t _ ∙ labels_step a _ ∙ word_step v _ ∙ word_step w _ ∙ stops_at_end w.rest some _

        pub edge_steps : w.rest ≡ [] → edge_told (lexemes tokens) ≡ edge_names_then id a.words source target
        edge_steps end = word_step t _ ∙ labels_step a _ ∙ word_step v _ ∙ word_step w _ ∙ goes_to_end w.rest end _
