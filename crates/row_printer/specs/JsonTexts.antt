-- The rows of answers and counts as lines of JSON: each line is one object, without blanks.
use Rattle.std.specs.Prelude.{ℕ, ◌≡◌, ◌⊎◌, ℤ, List, ◌∷◌, ◌++◌, codes, Option, Some, None}
use Rattle.std.specs.Fmt.{decimal, signed_decimal}
use Rattle.itpg_base.specs.Graphs.{Graph, name_at}
use Rattle.band_normal.specs.declared.band.End.{End}
use Rattle.band_normal.specs.declared.band.End.TheVariants.{Fixed, Moving}
use Rattle.relation_rows.specs.declared.rows.Row.{Row}
use Rattle.relation_rows.specs.declared.times.OneRow.{OneRow}
use Rattle.arrivals.specs.declared.counts.CountRow.{CountRow}

-- `+`
abbrev pub plus : ℕ
plus = 43

-- `-`
abbrev pub minus : ℕ
minus = 45

-- one of these two
abbrev pub IsSign : ℕ → Type 0
IsSign sign = (sign ≡ plus) ⊎ (sign ≡ minus)

-- what a row's object begins with: `{`, or with a sign `{"sign":"S",`
abbrev pub json_lead : Option ℕ → List ℕ
json_lead None = codes "{"
json_lead (Some sign) = codes "{\"sign\":\"" ++ sign ∷ codes "\","

-- `"id":"ID","from":A,"to":B`
unfoldable pub json_departures : Graph → ℕ → ℤ → ℤ → List ℕ
json_departures g o from to = codes "\"id\":\"" ++ name_at g o ++ codes "\",\"from\":" ++ signed_decimal from ++ codes ",\"to\":" ++ signed_decimal to

-- an end that stays is `{"fixed":N}`, one that moves `{"moving":K}`
unfoldable pub json_end : End → List ℕ
json_end (Fixed n) = codes "{\"fixed\":" ++ signed_decimal n ++ codes "}"
json_end (Moving k) = codes "{\"moving\":" ++ signed_decimal k ++ codes "}"

-- `"target":"ID","low":LOW,"high":HIGH`
unfoldable pub json_arrivals : Graph → ℕ → End → End → List ℕ
json_arrivals g o low high = codes "\"target\":\"" ++ name_at g o ++ codes "\",\"low\":" ++ json_end low ++ codes ",\"high\":" ++ json_end high

-- `"id":"ID","from":A,"to":B}`, and the line's end
unfoldable pub json_time : Graph → OneRow → List ℕ
json_time g r = json_departures g r.object.0 r.span.from r.span.to ++ codes "}\n"

-- `"id":"ID","from":A,"to":B,"target":"ID","low":LOW,"high":HIGH}`, and the line's end
unfoldable pub json_pair : Graph → Row → List ℕ
json_pair g r = json_departures g r.source.0 r.band.from r.band.to ++ codes "," ++ json_arrivals g r.target.0 r.band.low r.band.high ++ codes "}\n"

-- `{"from":A,"to":B,"count":C}`, and the line's end
unfoldable pub json_count : CountRow → List ℕ
json_count r = codes "{\"from\":" ++ signed_decimal r.span.from ++ codes ",\"to\":" ++ signed_decimal r.span.to ++ codes ",\"count\":" ++ decimal r.number ++ codes "}\n"
