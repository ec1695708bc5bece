-- What holds of a result, where it is Ok.
use Rattle.std.proofs.Common.{Result, Ok, Err}
use Rattle.std.specs.Prelude.{IfOk}

pub if_ok : {T E : Type 0} (r : Result T E) (P R : T → Type 0) → IfOk r P → ((v : T) → P v → R v) → IfOk r R
if_ok (Ok v) P R p f = f v p
if_ok (Err e) P R p f = tt
