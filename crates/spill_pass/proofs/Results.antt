-- What holds of results, tests and functions.
use Rattle.std.proofs.Common.{◌≡◌, ◌↔◌, List, [], Bool, true, false, IsTrue, Result, Ok, Err, ap}
use Rattle.std.specs.Prelude.{IfOk}
use Rattle.mir_func.specs.Function.{Function}

-- what follows from what holds of an Ok
pub if_ok : {T E : Type 0} (r : Result T E) (P Q : T → Type 0) → IfOk r P → ((v : T) → P v → Q v) → IfOk r Q
if_ok (Ok v) P Q h f = f v h
if_ok (Err e) P Q h f = tt

-- a list that was found not empty
pub not_empty : {T : Type 0} (xs : List T) (b : Bool) → IsTrue b ↔ (xs ≡ []) → b ≡ false → xs ≡ [] → ⊥
not_empty xs b is not e = (let yes : b ≡ true = is.1 e in cc)

-- equal functions have equal parts
pub same_blocks : (f g : Function) → f ≡ g → f.blocks ≡ g.blocks
same_blocks f g e = ap (λ (h : Function). h.blocks) e

pub same_slots : (f g : Function) → f ≡ g → f.slots ≡ g.slots
same_slots f g e = ap (λ (h : Function). h.slots) e
