-- The forms with lists of labels: what they ask for, and that taking their parts one by one tells the same.
use Rattle.std.proofs.Common.{◌≡◌, ℕ, List, [], ◌∷◌, Option, Some, None, Ok, Err, refl, sym, ap, ◌∙◌, subst}
use Rattle.std.specs.Prelude.{IsTrue}
use Rattle.std.specs.Option.{option_and_then, option_map_or}
use Rattle.itpg_base.specs.Words.{Word, IsLabels}
use Rattle.itpg_base.specs.declared.text_code.TextCode.{TextCode}
use Rattle.itpg_edit.specs.declared.edit.Edit.{Edit}
use Rattle.script_lex.specs.Lexemes.{Lexeme, AWord, ANumber, AQuote, AMark}
use Rattle.edit_reader.specs.declared.command.Command.{Command}
use Rattle.edit_reader.specs.Readings.{Reading, Changes}
use Rattle.edit_reader.specs.Forms.{form, node_form, edge_form}
use Rattle.edit_reader.specs.Labels.{Listed, listed, set_of}
use Rattle.edit_reader.specs.Moments.{AsksOfMoments, AsksForLabels}
use Rattle.edit_reader.specs.Names.{is_word, AsksForWords}
use Rattle.edit_reader.specs.Steps.{Told, word_then, end_then, name_then, names_then, node_names_then, edge_names_then, node_told, edge_told}
use Rattle.edit_reader.specs.Telling.{near, short, form_told}
use Rattle.edit_reader.proofs.LabelSets.{are_labels}
use Rattle.edit_reader.proofs.LabelLists.{few_listed, near_listed, short_listed}

is_some : {a b : Reading} → Some a ≡ Some b → b ≡ a
is_some e = cc

-- what the forms ask for
is_node : (id : Word) (labels : List Word) (rest : List Lexeme) (reading : Reading) → node_form id labels rest ≡ Some reading → reading ≡ Changes (Edit.AddNode id (set_of labels))
is_node id labels [] reading e = is_some e
is_node id labels (x ∷ rest) reading e = let never : ⊥ = cc in absurd never

record IsEdge (id : Word) (labels : List Word) (reading : Reading) : Type 0 where
  pub source : Word
  pub target : Word
  pub is : reading ≡ Changes (Edit.AddEdge id (set_of labels) source target)

is_edge : (id : Word) (labels : List Word) (rest : List Lexeme) (reading : Reading) → edge_form id labels rest ≡ Some reading → IsEdge id labels reading
is_edge id labels (AWord source ∷ AWord target ∷ []) reading e = record { source = source; target = target; is = is_some e }
is_edge id labels _ reading e = let never : ⊥ = cc in absurd never

pub node_moments : (id : Word) (o : Option Listed) (reading : Reading) → option_and_then (λ l. node_form id l.words l.rest) o ≡ Some reading → AsksOfMoments reading
node_moments id None reading e = let never : ⊥ = cc in absurd never
node_moments id (Some l) reading e = subst AsksOfMoments (sym (is_node id l.words l.rest reading e)) tt

pub edge_moments : (id : Word) (o : Option Listed) (reading : Reading) → option_and_then (λ l. edge_form id l.words l.rest) o ≡ Some reading → AsksOfMoments reading
edge_moments id None reading e = let never : ⊥ = cc in absurd never
edge_moments id (Some l) reading e = subst AsksOfMoments (sym (is_edge id l.words l.rest reading e).is) tt

pub node_words : (id : Word) (o : Option Listed) (reading : Reading) → option_and_then (λ l. node_form id l.words l.rest) o ≡ Some reading → IsTrue (is_word id) → AsksForWords reading
node_words id None reading e word = let never : ⊥ = cc in absurd never
node_words id (Some l) reading e word = subst AsksForWords (sym (is_node id l.words l.rest reading e)) word

pub edge_words : (id : Word) (o : Option Listed) (reading : Reading) → option_and_then (λ l. edge_form id l.words l.rest) o ≡ Some reading → IsTrue (is_word id) → AsksForWords reading
edge_words id None reading e word = let never : ⊥ = cc in absurd never
edge_words id (Some l) reading e word = subst AsksForWords (sym (is_edge id l.words l.rest reading e).is) word

are_set : (parts : List Lexeme) (l : Listed) → listed 8 parts ≡ Some l → IsLabels (set_of l.words)
are_set parts l e = let few = few_listed 8 parts l e in are_labels l.words few.some few.few

pub node_labels : (id : Word) (parts : List Lexeme) (o : Option Listed) → listed 8 parts ≡ o → (reading : Reading) → option_and_then (λ l. node_form id l.words l.rest) o ≡ Some reading → AsksForLabels reading
node_labels id parts None f reading e = let never : ⊥ = cc in absurd never
node_labels id parts (Some l) f reading e = subst AsksForLabels (sym (is_node id l.words l.rest reading e)) (are_set parts l f)

pub edge_labels : (id : Word) (parts : List Lexeme) (o : Option Listed) → listed 8 parts ≡ o → (reading : Reading) → option_and_then (λ l. edge_form id l.words l.rest) o ≡ Some reading → AsksForLabels reading
edge_labels id parts None f reading e = let never : ⊥ = cc in absurd never
edge_labels id parts (Some l) f reading e = subst AsksForLabels (sym (is_edge id l.words l.rest reading e).is) (are_set parts l f)

-- the faults of a form with labels are those of its name, its labels and what stands behind them
faults : (id : Word) (parts : List Lexeme) (l : Listed) (rest : List Lexeme) (reading : Reading) → listed 8 parts ≡ Some l → l.rest ≡ rest
    → form_told (Some reading) (AWord id ∷ parts) ≡ near rest (name_then id (λ a. names_then l.words (short rest (Ok reading))))
faults id parts l rest reading e f =
    near_listed 8 parts l (short (AWord id ∷ parts) (Ok reading)) e
    ∙ ap (λ (ps : List Lexeme). near ps (short (AWord id ∷ parts) (Ok reading))) f
    ∙ ap (λ (go_on : Told). near rest (name_then id (λ a. go_on))) (short_listed 8 parts l (Ok reading) e ∙ ap (λ (ps : List Lexeme). names_then l.words (short ps (Ok reading))) f)

pub node_is : (text : ℕ → List ℕ) (parts : List Lexeme) → node_told parts ≡ form_told (form text Command.Node parts) parts
node_is text [] = refl
node_is text (ANumber number ∷ parts) = refl
node_is text (AQuote quoted ∷ parts) = refl
node_is text (AMark mark ∷ parts) = refl
node_is text (AWord id ∷ parts) = by_list (listed 8 parts) refl
  where
    by_rest : (l : Listed) → listed 8 parts ≡ Some l → (rest : List Lexeme) → l.rest ≡ rest → end_then rest (node_names_then id l.words) ≡ form_told (node_form id l.words rest) (AWord id ∷ parts)
    by_rest l e [] f = sym (faults id parts l [] (Changes (Edit.AddNode id (set_of l.words))) e f)
    by_rest l e (x ∷ rest) f = refl

    by_list : (o : Option Listed) → listed 8 parts ≡ o → option_map_or (λ l. end_then l.rest (node_names_then id l.words)) o (Err TextCode.Text) ≡ form_told (option_and_then (λ l. node_form id l.words l.rest) o) (AWord id ∷ parts)
    by_list None e = refl
    by_list (Some l) e = by_rest l e l.rest refl

abbrev edge_behind : Word → List Word → List Lexeme → Told
edge_behind id words rest = word_then rest (λ source r. word_then r (λ target s. end_then s (edge_names_then id words source target)))

pub edge_is : (text : ℕ → List ℕ) (parts : List Lexeme) → edge_told parts ≡ form_told (form text Command.Edge parts) parts
edge_is text [] = refl
edge_is text (ANumber number ∷ parts) = refl
edge_is text (AQuote quoted ∷ parts) = refl
edge_is text (AMark mark ∷ parts) = refl
edge_is text (AWord id ∷ parts) = by_list (listed 8 parts) refl
  where
    by_rest : (l : Listed) → listed 8 parts ≡ Some l → (rest : List Lexeme) → l.rest ≡ rest → edge_behind id l.words rest ≡ form_told (edge_form id l.words rest) (AWord id ∷ parts)
    by_rest l e [] f = refl
    by_rest l e (ANumber number ∷ rest) f = refl
    by_rest l e (AQuote quoted ∷ rest) f = refl
    by_rest l e (AMark mark ∷ rest) f = refl
    by_rest l e (AWord source ∷ []) f = refl
    by_rest l e (AWord source ∷ ANumber number ∷ rest) f = refl
    by_rest l e (AWord source ∷ AQuote quoted ∷ rest) f = refl
    by_rest l e (AWord source ∷ AMark mark ∷ rest) f = refl
    by_rest l e (AWord source ∷ AWord target ∷ x ∷ rest) f = refl
    by_rest l e (AWord source ∷ AWord target ∷ []) f = sym (faults id parts l (AWord source ∷ AWord target ∷ []) (Changes (Edit.AddEdge id (set_of l.words) source target)) e f)

    by_list : (o : Option Listed) → listed 8 parts ≡ o → option_map_or (λ l. edge_behind id l.words l.rest) o (Err TextCode.Text) ≡ form_told (option_and_then (λ l. edge_form id l.words l.rest) o) (AWord id ∷ parts)
    by_list None e = refl
    by_list (Some l) e = by_rest l e l.rest refl
