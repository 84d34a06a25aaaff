-- Lists of hints in which none stands twice.
use Rattle.std.specs.Prelude.{List, [], ◌∷◌, ◌++◌, Bool, true, false, ◌&&◌, cond, nat_eq}
use Rattle.std.specs.List.{list_any}
use Rattle.std.specs.Cmp.Lexicographic.{pointwise}
use Rattle.question_hints.specs.declared.hint.Hint.{Hint}
use Rattle.question_hints.specs.declared.hint.Hint.TheVariants.{NoLabel, NoProperty, NoValue, EdgeInRound, EndsOnEdge, SelectiveEndLast}

-- the two hints are one
abbrev pub same_hint : Hint → Hint → Bool
same_hint (NoLabel a) (NoLabel b) = pointwise nat_eq a b
same_hint (NoLabel a) _ = false
same_hint (NoProperty a) (NoProperty b) = pointwise nat_eq a b
same_hint (NoProperty a) _ = false
same_hint (NoValue p v) (NoValue q w) = pointwise nat_eq p q && pointwise nat_eq v w
same_hint (NoValue p v) _ = false
same_hint (EdgeInRound a) (EdgeInRound b) = pointwise nat_eq a b
same_hint (EdgeInRound a) _ = false
same_hint EndsOnEdge EndsOnEdge = true
same_hint EndsOnEdge _ = false
same_hint SelectiveEndLast SelectiveEndLast = true
same_hint SelectiveEndLast _ = false

-- the hint is in the list
abbrev pub has_hint : Hint → List Hint → Bool
has_hint h hints = list_any (λ x. same_hint x h) hints

-- the list with the hint behind it, if it isn't there
abbrev pub with_hint : Hint → List Hint → List Hint
with_hint h hints = cond (has_hint h hints) hints (hints ++ h ∷ [])
