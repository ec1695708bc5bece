use Rattle.std.proofs.Common.{◌≡◌, ◌<◌, ◌≤◌, ℕ, List, length, Option, Some, None, IfSome, arith, sym}
use Rattle.pass_liveness.specs.Index.{index_in}
use Rattle.pass_liveness.proofs.Indices.{index_is}
use Rattle.pass_liveness.proofs.names.SlotAndBlockNumbers.bit.Goals as goal

bounded : (slots : List ℕ) (n : ℕ) (o : Option ℕ) → length slots ≤ 256 → o ≡ index_in slots n → IfSome o (λ b. b < 4416)
bounded slots n None few e = tt
bounded slots n (Some i) few e = let l : i < length slots = (index_is slots n i (sym e)).0 in omega arith

pub returns-in-Slot-clause-within : goal.returns-in-Slot-clause-within
returns-in-Slot-clause-within c = bounded c.args.self.now.slots _ c.find.result c.args.self.now.few c.find.ensures
