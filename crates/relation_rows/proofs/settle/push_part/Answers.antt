use Rattle.std.proofs.Common.{[], ◌∷◌, get_or, refl}
use Rattle.relation_rows.specs.Rows.{rows_at}
use Rattle.relation_rows.proofs.Covering.{bands_settled, covered_settled, lone_settled}
use Rattle.relation_rows.proofs.Settling.{no_row}
use Rattle.relation_rows.proofs.settle.push_part.Goals as goal

pub returns-in-len1 : goal.returns-in-len1
returns-in-len1 c = (get_or c.args.part.now 0 no_row ∷ [], c.in_ok-push.ensures.items, lone_settled c.args.part.now no_row c.requires.lone c.in-len1.len_at_least c.in-len1.len_below)

pub row_of_all-requires : goal.row_of_all-requires
row_of_all-requires c = λ r a. (c.requires.lone r a).formed

pub returns-in-Some : goal.returns-in-Some
returns-in-Some c = (c.in-Some.row ∷ [], c.in_ok-push-2.ensures.items, covered_settled c.args.part.now c.in-Some.row c.requires.lone c.in-Some.ensures.there c.in-Some.ensures.all)

pub returns-then-are_normal : goal.returns-then-are_normal
returns-then-are_normal c = (c.args.part.now, c.in_ok-extend_from_slice.ensures.items, c.if-are_normal.ensures refl)

pub push_zones-requires : goal.push_zones-requires
push_zones-requires c = λ r a. (c.requires.lone r a).formed

pub returns : goal.returns
returns c = (
  rows_at c.args.key.now.source.0 c.args.key.now.target.0 c.bands.result.now,
  c.in_ok-push_bands.ensures,
  bands_settled c.args.part.now c.args.key.now c.requires.key c.clear.new.self.items c.push_zones.new.items.items c.clear.ensures.items c.in_ok-push_zones.ensures
      c.deref.result.now c.learn.new.self c.bands.result.now c.deref.ensures.value c.in_ok-learn.ensures.normal c.in_ok-learn.ensures.formed c.bands.ensures,
)
