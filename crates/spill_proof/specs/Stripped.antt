-- Spilling and debug items: spill code doesn't depend on them.
use Rattle.std.specs.Prelude.{◌≡◌, ℕ, List}
use Rattle.mir_func.specs.declared.block.Block.{Block}
use Rattle.mir_func.specs.Function.{Function}
use Rattle.mir_func.specs.Strip.{stripped_blocks, stripped}
use Rattle.spill_code.specs.declared.spilling.SlotAssignment.{SlotAssignment}
use Rattle.spill_code.specs.declared.spilling.Spilling.{Spilling}
use Rattle.spill_code.specs.Rewrite.{spilled_blocks}
use Rattle.spill_debug.specs.RewrittenDebugItems.{asked}

-- rewriting debug values changes no code
abbrev pub AskedIsStripped : Type 0
AskedIsStripped = (s : Spilling) (k : ℕ) (f : Function) → stripped (asked s k f) ≡ stripped f

-- stripping debug items commutes with spilling
abbrev pub SpilledIsStripped : Type 0
SpilledIsStripped = (s : Spilling) (entry : List SlotAssignment) (blocks : List Block) →
    stripped_blocks (spilled_blocks s entry blocks) ≡ spilled_blocks s entry (stripped_blocks blocks)
