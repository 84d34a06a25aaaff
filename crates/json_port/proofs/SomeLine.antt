-- A line is something.
use Rattle.std.proofs.Common.{◌≡◌, inl, inr, ℕ, ℤ, List, length, Bool, true, false, nat_le, Option, Some, None, Result, Ok, Err, refl}
use Rattle.std.specs.Prelude.{pos, neg_ℤ}
use Rattle.std.specs.List.{list_all}
use Rattle.itpg_base.specs.Spans.{IsMoment}
use Rattle.itpg_base.specs.Decided.{Decided}
use Rattle.itpg_base.proofs.Searches.{both, as_well, not_after}
use Rattle.itpg_base.specs.declared.text_code.TextCode.{TextCode}
use Rattle.itpg_edit.specs.declared.edit.Edit.{Edit}
use Rattle.itpg_edit.specs.Sites.{HasMoments}
use Rattle.edit_reader.specs.declared.reading.TheConstants.{MAX_LINE}
use Rattle.edit_reader.specs.Faults.{without_end}
use Rattle.script_lex.specs.Bytes.{is_blank}
use Rattle.json_port.specs.declared.line.JsonLine.{JsonLine}
use Rattle.json_port.specs.Objects.{Asked, Change, Line}
use Rattle.json_port.specs.Faults.{has_short_names, with_set, Tells}
use Rattle.json_port.specs.Lines.{asked_by, ShortIs, FitIs, JsonOf}

moment : (t : ℤ) → Decided (IsMoment t)
moment t = as_well (λ p. record { least = p.0; greatest = p.1 }) (λ m. (m.least, m.greatest)) (both (not_after (neg_ℤ (pos 1000000000000)) t) (not_after t (pos 1000000000000)))

moments : (edit : Edit) → Decided (HasMoments edit)
moments (Edit.Begin name lo hi) = both (moment lo) (moment hi)
moments (Edit.Extend lo hi) = both (moment lo) (moment hi)
moments (Edit.AddNode id labels) = inl tt
moments (Edit.AddEdge id labels source target) = inl tt
moments (Edit.Live id from to) = both (moment from) (moment to)
moments (Edit.Gone id from to) = both (moment from) (moment to)
moments (Edit.Put id prop value from to) = both (moment from) (moment to)
moments (Edit.Clear id prop from to) = both (moment from) (moment to)
moments (Edit.Remove id) = inl tt

told_near : (edit : Edit) (short : Bool) → has_short_names edit ≡ short → HasMoments edit → (result : Result JsonLine TextCode) × Tells (Some (Change edit)) result
told_near edit true is near = (Ok (JsonLine.Edit (with_set edit)), (near, is, refl))
told_near edit false is near = (Err TextCode.Name, (near, is))

told_some : (o : Option Asked) → (result : Result JsonLine TextCode) × Tells o result
told_some None = (Err TextCode.Text, refl)
told_some (Some (Line text)) = (Ok (JsonLine.Text text), refl)
told_some (Some (Change edit)) = elim (moments edit) [ inl near ↦ told_near edit (has_short_names edit) refl near | inr far ↦ (Err TextCode.Number, far) ]

some_short : (blank : Bool) (line : List ℕ) → (result : Result JsonLine TextCode) × ShortIs blank line result
some_short true line = (Ok JsonLine.Blank, refl)
some_short false line = told_some (asked_by line)

some_fit : (fits : Bool) (line : List ℕ) → (result : Result JsonLine TextCode) × FitIs fits line result
some_fit true line = some_short (list_all is_blank line) line
some_fit false line = (Err TextCode.Long, refl)

pub some_line : (line : List ℕ) → (result : Result JsonLine TextCode) × JsonOf line result
some_line line = some_fit (nat_le (length (without_end line)) MAX_LINE) (without_end line)
