-- What holds whatever a call answers.
use Rattle.std.proofs.Common.{Result, Ok, Err, OnOk, OnErr}

pub either_way : {T E P : Type 0} (r : Result T E) → OnOk r P → OnErr r P → P
either_way (Ok x) ok err = ok
either_way (Err e) ok err = err
