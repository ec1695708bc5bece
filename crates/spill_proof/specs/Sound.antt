-- Spilling keeps functions sound.
use Rattle.std.specs.Prelude.{ℕ, ◌+◌, ◌≤◌, List, ◌++◌, length, map, Option}
use Rattle.mir_func.specs.declared.debug_substitution.OperandPair.{OperandPair}
use Rattle.mir_func.specs.Function.{Function}
use Rattle.mir_func.specs.Limits.{MAX_SLOTS}
use Rattle.mir_func.specs.Sound.{AreApart, IsSound}
use Rattle.spill_code.specs.declared.spilling.SlotAssignment.{SlotAssignment}
use Rattle.spill_code.specs.declared.spilling.Spilling.{Spilling}
use Rattle.spill_code.specs.Rewrite.{spilled_blocks}
use Rattle.spill_select.specs.spill_simulation.Follows.{MaySpill}

-- the function's slots, and then the new ones
abbrev pub slots_now : Spilling → Function → List ℕ
slots_now s f = f.slots ++ map (λ h. h.slot) s.homes

-- if the choice satisfies the conditions of spilling, and slots are distinct and not too many
abbrev pub SpilledIsSound : Type 0
SpilledIsSound = (s : Spilling) (entry : List SlotAssignment) (f : Function) (resolve : OperandPair → Option OperandPair) → IsSound f →
    MaySpill s entry f resolve →
    AreApart (slots_now s f) → length (slots_now s f) + length f.objects ≤ MAX_SLOTS →
    IsSound (record f { slots = slots_now s f; blocks = spilled_blocks s entry f.blocks })
