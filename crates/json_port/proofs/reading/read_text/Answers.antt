use Rattle.std.proofs.Common.{option_and_then, sym, subst}
use Rattle.json_port.specs.Objects.{asked}
use Rattle.json_port.specs.Faults.{Tells}
use Rattle.json_port.specs.FlatObjects.{flat_data}
use Rattle.json_port.specs.Lines.{IsAnswer}
use Rattle.json_port.proofs.Values.{value_read}
use Rattle.json_port.proofs.reading.read_text.Goals as goal

pub returns-in-Some : goal.returns-in-Some
returns-in-Some c =
    subst (λ o. IsAnswer (Tells (option_and_then asked o)) c.read_object.result) (sym (value_read c.args.line.now (flat_data c.in-Some.flat) c.in-Some.ensures.utf8 c.in-Some.ensures.value)) c.read_object.ensures
