use Rattle.std.proofs.Common.{◌≡◌, List, map, length, take, refl, sym, ap, ◌∙◌, subst}
use Rattle.std.specs.Prelude.{IfSome, IsNone}
use Rattle.itpg_base.specs.Words.{Word, IsLabels}
use Rattle.itpg_base.specs.LabelSets.{SameNames}
use Rattle.edit_reader.proofs.LabelSets.{made_set}
use Rattle.json_port.specs.Flats.{listed}
use Rattle.json_port.proofs.Listings.{as_set, few_listed, short_listed}
use Rattle.json_port.proofs.labels.label_set.Goals as goal

pub returns-then-not-are_short : goal.returns-then-not-are_short
returns-then-not-are_short c = (refl, sym (short_listed c.args.names.now c.as_slice-words.result.now c.as_slice-words.ensures) ∙ sym c.are_short.ensures ∙ c.if-not-are_short.true)

pub returns : goal.returns
returns c =
    let words = listed c.args.names.now in
    let made : take (length c.as_slice-words.result.now) c.names_of-block.result ≡ words = c.names_of-block.ensures.names ∙ ap (map (λ w. w.now)) c.as_slice-words.ensures in
    as_set words c.new.result c.ok_or.result c.ok_or.ensures.value
    (made_set words c.requires.some (few_listed c.args.names.now) c.new.result (subst (λ names. IfSome c.new.result (λ set. SameNames names set)) made c.new.ensures.some) c.new.ensures.set
    (subst (λ names. IsNone c.new.result → (set : List Word) → IsLabels set → SameNames names set → ⊥) made c.new.ensures.none))
    (sym (short_listed c.args.names.now c.as_slice-words.result.now c.as_slice-words.ensures) ∙ sym c.are_short.ensures ∙ c.if-not-are_short.false)
