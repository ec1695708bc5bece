-- Which virtual registers get which slots.
use Rattle.std.specs.Prelude.{ℕ, ◌+◌, List, [], ◌++◌, map, length, Bool, true, false, ◌||◌, nat_lt}
use Rattle.mir_func.specs.Function.{Function}
use Rattle.mir_func.specs.Limits.{MAX_SLOTS}
use Rattle.pass_trait.specs.Causes.{scratch_of}
use Rattle.spill_code.specs.declared.spilling.SlotAssignment.{SlotAssignment}
use Rattle.spill_code.specs.declared.spilling.Spilling.{Spilling}
use Rattle.spill_code.specs.Rewrite.{spilled_blocks}
use Rattle.scan_rule.specs.spill_proof.Whole.{spilled_by, where_spilled}
use Rattle.scan_rule.specs.spill_rule.Choice.{lacks_scratch, next_slot, homes_from, first_scratch, second_scratch}
use Rattle.scan_rule.specs.scan_intervals.declared.interval.LiveInterval.{LiveInterval}
use Rattle.scan_rule.specs.scan_allocation.Allocation.{adds_virtual}

-- the function stays as it is: fewer than two scratch registers are free, added code names a virtual register, or there would be more slots and stack
-- objects than a function may have
abbrev pub stays : Function → List LiveInterval → Bool
stays f intervals = lacks_scratch f || (adds_virtual f || nat_lt MAX_SLOTS (length f.slots + length f.objects + length intervals))

-- each register of these intervals, in their order, with a new slot above all slots of the function
abbrev pub all_homes : Function → List LiveInterval → List SlotAssignment
all_homes f intervals = homes_from (next_slot f.slots) (map (λ i. i.register) intervals)

abbrev pub homes_unless : (stays : Bool) → List SlotAssignment → List SlotAssignment
homes_unless true homes = []
homes_unless false homes = homes

-- the registers that get slots
abbrev pub homes_left : Function → List LiveInterval → List SlotAssignment
homes_left f intervals = homes_unless (stays f intervals) (all_homes f intervals)

-- the scratch registers, and the slots
abbrev pub settling_of : Function → List LiveInterval → Spilling
settling_of f intervals = record {
  first = first_scratch (scratch_of f);
  second = second_scratch (scratch_of f);
  homes = homes_left f intervals;
}

-- the function with these registers in slots
abbrev pub settled : List LiveInterval → Function → Function
settled intervals f = record f {
  slots = f.slots ++ map (λ h. h.slot) (homes_left f intervals);
  blocks = spilled_blocks (settling_of f intervals) [] f.blocks;
}

-- the same with its debug items: debug values of these registers refer to DBG_PHIs of their slots, with fresh numbers from k on. Without such a register
-- the function is unchanged
abbrev pub settled_whole : List LiveInterval → (k : ℕ) → Function → Function
settled_whole intervals k f = where_spilled (homes_left f intervals) f (spilled_by (settling_of f intervals) [] k f)
