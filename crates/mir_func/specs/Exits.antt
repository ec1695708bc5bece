-- How control leaves an item.
use Rattle.std.specs.Prelude.{Bool, true, false}
use Rattle.rv64_instr.specs.Row.{Row, Fixes, Moves, Sets, Addresses, Loads, Stores, LoadsSlot, StoresSlot, Branches, Jumps, Calls, Returns, Unfit, row_of}
use Rattle.rv64_instr.specs.Row.{way_leads_back}
use Rattle.mir_func.specs.declared.exit.Exit.{Exit}
use Rattle.mir_func.specs.declared.exit.Exit.TheVariants.{Onward, Perhaps, Always, Final}
use Rattle.mir_func.specs.declared.item.ItemKind.{ItemKind}
use Rattle.mir_func.specs.declared.item.ItemKind.TheVariants.{Code, Mark, Phi}

-- how control leaves code of a row. An invalid row counts as leaving the function
abbrev pub row_exit : Row → Exit
row_exit (Fixes rd n) = Onward
row_exit (Moves rd rs) = Onward
row_exit (Sets rd op a b) = Onward
row_exit (Addresses rd n offset) = Onward
row_exit (Loads rd op base offset) = Onward
row_exit (Stores op rs base offset) = Onward
row_exit (LoadsSlot rd n) = Onward
row_exit (StoresSlot rs n) = Onward
row_exit (Branches op a b target) = Perhaps target
row_exit (Jumps target) = Always target
row_exit (Calls call) = Onward
row_exit (Returns ending) = Final
row_exit Unfit = Final

-- how control leaves an item: from a debug item to the next one
abbrev pub exit_of : ItemKind → Exit
exit_of (Code i k) = row_exit (row_of i)
exit_of (Mark v m) = Onward
exit_of (Phi p k) = Onward

-- code of the row leaves the function on a way that leads back to the caller. An invalid row counts as such
abbrev pub row_leads_back : Row → Bool
row_leads_back (Fixes rd n) = false
row_leads_back (Moves rd rs) = false
row_leads_back (Sets rd op a b) = false
row_leads_back (Addresses rd n offset) = false
row_leads_back (Loads rd op base offset) = false
row_leads_back (Stores op rs base offset) = false
row_leads_back (LoadsSlot rd n) = false
row_leads_back (StoresSlot rs n) = false
row_leads_back (Branches op a b target) = false
row_leads_back (Jumps target) = false
row_leads_back (Calls call) = false
row_leads_back (Returns ending) = way_leads_back ending.way
row_leads_back Unfit = true

-- the item leaves the function on a way that leads back to the caller, so the frame is given back before it. A call that doesn't return leaves the
-- frame as it is, since its callee may read it
abbrev pub leads_back : ItemKind → Bool
leads_back (Code i k) = row_leads_back (row_of i)
leads_back (Mark v m) = false
leads_back (Phi p k) = false

-- control always goes to a block
abbrev pub IsAlways : Exit → Type 0
IsAlways (Always n) = Unit {0}
IsAlways _ = ⊥

-- control doesn't go on to the next item
abbrev pub Leaves : Exit → Type 0
Leaves (Always n) = Unit {0}
Leaves Final = Unit {0}
Leaves _ = ⊥
