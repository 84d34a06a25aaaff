use Rattle.std.proofs.Common.{ap, Some, ◌∙◌, take}
use Rattle.serde_json.specs.Find.{get_member}
use Rattle.json_port.specs.Flats.{listed, members_of}
use Rattle.json_port.specs.Keys.{key_word}
use Rattle.json_port.proofs.Listings.{flat_words, names_data}
use Rattle.json_port.proofs.labels.flat_labels.Goals as goal

pub returns-in-Names-clause-value : goal.returns-in-Names-clause-value
returns-in-Names-clause-value c =
    let names = listed c.args.flat.now.names in
    c.words.ensures.value
    ∙ flat_words (key_word c.args.key) (members_of names (take c.args.flat.now.len c.args.flat.now.members)) c.args.flat.now.names
    (ap Some (names_data names c.in_ok-member.member.now c.in-Names.is) ∙ c.in_ok-member.ensures names ∙ ap (λ ms. get_member (key_word c.args.key) (members_of names ms)) c.as_slice.ensures)
