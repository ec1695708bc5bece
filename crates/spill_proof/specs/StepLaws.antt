-- The code after spilling, without debug items.
use Rattle.std.specs.Prelude.{ℕ, List, Bool}
use Rattle.mir_func.specs.Function.{Function}
use Rattle.mir_func.specs.Strip.{stripped}
use Rattle.spill_select.specs.spill_rule.Rule.{Decides, IsSpilled}
use Rattle.spill_proof.specs.Whole.{whole}

-- it is related to the code before it by the code rule
abbrev pub SpilledCodeIsMade : Type 0
SpilledCodeIsMade = (reserve : List ℕ) (live : ℕ → Bool) (k : ℕ) (f : Function) → Decides reserve (stripped f) live →
    IsSpilled reserve (stripped f) (stripped (whole reserve live k f))
