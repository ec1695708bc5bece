-- Which registers are spilled, and into which slots.
use Rattle.std.specs.Prelude.{ℕ, ◌+◌, ◌-◌, List, [], ◌∷◌, ◌++◌, map, filter}
use Rattle.std.specs.Prelude.{take, length, Option, Some, None, Bool, true, false, cond, ◌&&◌, ◌||◌}
use Rattle.std.specs.Prelude.{nat_eq, nat_lt}
use Rattle.std.specs.List.{list_any}
use Rattle.rv64_instr.specs.Row.{Row, row_of}
use Rattle.mir_func.specs.declared.exit.Exit.{Exit}
use Rattle.mir_func.specs.declared.exit.Exit.TheVariants.{Onward, Perhaps, Always, Final}
use Rattle.mir_func.specs.Exits.{row_exit}
use Rattle.mir_func.specs.declared.position.Origin.{Origin}
use Rattle.mir_func.specs.declared.position.Origin.TheVariants.{Kept, Before}
use Rattle.mir_func.specs.declared.item.Item.{Item}
use Rattle.mir_func.specs.declared.item.ItemKind.{ItemKind}
use Rattle.mir_func.specs.declared.item.ItemKind.TheVariants.{Code, Mark, Phi}
use Rattle.mir_func.specs.Function.{Function}
use Rattle.mir_func.specs.Limits.{MAX_SLOTS}
use Rattle.mir_func.specs.Sound.{items_of}
use Rattle.pass_trait.specs.sem_mir.InitialState.{first_of}
use Rattle.pass_trait.specs.declared.loss.Reason.{Reason}
use Rattle.pass_trait.specs.declared.loss.Reason.TheVariants.{NoScratch, CallNamed, EntryLoop}
use Rattle.pass_trait.specs.Causes.{names, names_implicitly, is_named, scratch_of}
use Rattle.pass_trait.specs.Sizes.{greatest}
use Rattle.spill_simulation.specs.spill_code.declared.spilling.SlotAssignment.{SlotAssignment}
use Rattle.spill_simulation.specs.spill_code.declared.spilling.Spilling.{Spilling}
use Rattle.spill_simulation.specs.spill_code.Rewrite.{spilled_blocks}

-- ---- what prevents a register from being spilled

-- the item was added by a pass, and isn't one of the source
abbrev pub is_added : Origin → Bool
is_added (Before p) = true
is_added (Kept p) = false

-- the item calls or ends the function (a call that doesn't return does), and names the register in an implicit operand; or it is added code, and names it
abbrev pub binds : ℕ → Item → Bool
binds r i = names_implicitly r i.kind || (names r i.kind && is_added i.origin)

-- such an item names the register, so it can't be spilled
abbrev pub is_bound : Function → ℕ → Bool
is_bound f r = list_any (binds r) (items_of f.blocks)

-- control goes to the block, perhaps or always
abbrev pub exit_goes : ℕ → Exit → Bool
exit_goes n Onward = false
exit_goes n (Perhaps target) = nat_eq target n
exit_goes n (Always target) = nat_eq target n
exit_goes n Final = false

-- the row is a branch or a jump to the block
abbrev pub row_goes : ℕ → Row → Bool
row_goes n row = exit_goes n (row_exit row)

-- the item is a branch or a jump to the block
abbrev pub goes : ℕ → ItemKind → Bool
goes n (Code i k) = row_goes n (row_of i)
goes n (Mark v m) = false
goes n (Phi p k) = false

-- some branch or jump goes to the first block
abbrev pub is_looped : Function → Bool
is_looped f = list_any (λ i. goes (first_of f.blocks) i.kind) (items_of f.blocks)

-- fewer than two scratch registers are free
abbrev pub lacks_scratch : Function → Bool
lacks_scratch f = nat_lt (length (scratch_of f)) 2

-- why a register isn't spilled, apart from a lack of slots: the first reason that applies. `live` lists which registers are live
-- into the first block
abbrev pub reason_of : Function → (live : ℕ → Bool) → ℕ → Option Reason
reason_of f live r = cond (lacks_scratch f) (Some NoScratch) (cond (is_bound f r) (Some CallNamed) (cond (live r && is_looped f) (Some EntryLoop) None))

-- no reason keeps the register from being spilled
abbrev pub is_free : Option Reason → Bool
is_free None = true
is_free (Some why) = false

-- ---- what is spilled

-- the registers of the reserve that code names and for which no such reason applies
abbrev pub candidates : (reserve : List ℕ) (live : ℕ → Bool) → Function → List ℕ
candidates reserve live f = filter (λ r. is_named f r && is_free (reason_of f live r)) reserve

-- how many more slots the function may have
abbrev pub room : Function → ℕ
room f = MAX_SLOTS - (length f.slots + length f.objects)

-- the first candidates, as many as there are slots for
abbrev pub chosen : (reserve : List ℕ) (live : ℕ → Bool) → Function → List ℕ
chosen reserve live f = take (room f) (candidates reserve live f)

-- the number above the greatest slot, or 0 if there are no slots
abbrev pub next_slot : List ℕ → ℕ
next_slot [] = 0
next_slot (n ∷ ns) = greatest (n ∷ ns) + 1

-- the registers, each with a slot of its own, numbered upwards from `slot`
abbrev pub homes_from : (slot : ℕ) → List ℕ → List SlotAssignment
homes_from n [] = []
homes_from n (r ∷ rs) = record { register = r; slot = n } ∷ homes_from (n + 1) rs

-- the spilled registers, each with a new slot above all slots of the function
abbrev pub homes_of : (reserve : List ℕ) (live : ℕ → Bool) → Function → List SlotAssignment
homes_of reserve live f = homes_from (next_slot f.slots) (chosen reserve live f)

-- the first scratch register, or 0 if there is none; nothing is spilled without two
abbrev pub first_scratch : List ℕ → ℕ
first_scratch [] = 0
first_scratch (a ∷ rest) = a

-- the second scratch register, or 0 if there is none
abbrev pub second_scratch : List ℕ → ℕ
second_scratch [] = 0
second_scratch (a ∷ rest) = first_scratch rest

-- the scratch registers and the slots of spilled registers that the rule chooses for a function
abbrev pub spilling_of : (reserve : List ℕ) (live : ℕ → Bool) → Function → Spilling
spilling_of reserve live f = record {
  first = first_scratch (scratch_of f);
  second = second_scratch (scratch_of f);
  homes = homes_of reserve live f;
}

-- the spilled registers that are stored at the function's start: those that are live into it
abbrev pub entry_of : (live : ℕ → Bool) → List SlotAssignment → List SlotAssignment
entry_of live homes = filter (λ h. live h.register) homes

-- the function with the chosen registers spilled
abbrev pub spilled : (reserve : List ℕ) (live : ℕ → Bool) → Function → Function
spilled reserve live f = record f {
  slots = f.slots ++ map (λ h. h.slot) (homes_of reserve live f);
  blocks = spilled_blocks (spilling_of reserve live f) (entry_of live (homes_of reserve live f)) f.blocks;
}
