use Rattle.std.proofs.Common.{arith, sym, ◌∙◌, ap}
use Rattle.std.specs.List.{list_all}
use Rattle.std.specs.Char.{is_ascii_digit}
use Rattle.std.specs.Str.Parse.{digits_value}
use Rattle.json_port.proofs.Fronts.{size_text}
use Rattle.json_port.proofs.lexemes.size.Goals as goal

pub returns-then-is_ended-clause-digits : goal.returns-then-is_ended-clause-digits
returns-then-is_ended-clause-digits c =
    let front = c.split_at.ensures.front in
    size_text c.args.text.now c.split_at.result.0.now c.split_at.result.1.now c.in_ok-size.size (c.in_ok-size.ensures.value ∙ ap (digits_value 10) (sym front))
    (ap (list_all is_ascii_digit) front ∙ c.in_ok-size.ensures.digits) (omega (arith, c.in_ok-size.ensures.most)) (c.is_shortest.ensures.some c.if-is_shortest.true) (c.is_shortest.ensures.zero c.if-is_shortest.true)
    c.split_at.ensures.by_index.0
