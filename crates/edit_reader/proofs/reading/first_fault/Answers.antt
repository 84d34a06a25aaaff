use Rattle.std.proofs.Common.{Err, length, sym}
use Rattle.edit_reader.proofs.Counting.{good_told}
use Rattle.edit_reader.proofs.reading.first_fault.Goals as goal

pub returns-in-Ok : goal.returns-in-Ok
returns-in-Ok c = λ tokens end are.
    let good = c.in-Ok.ensures tokens end are in
    sym (good_told end (length tokens) (Err c.args.code) good.0 good.1)

pub returns-in-Err : goal.returns-in-Err
returns-in-Err c = λ tokens end are. sym (c.in-Err.ensures tokens end are (Err c.args.code))
