-- Backward liveness within a block, given what is live at the starts of blocks.
use Rattle.std.specs.Prelude.{ℕ, List, [], ◌∷◌, Option, Some, None, Bool, false, ◌||◌, ◌&&◌, not}
use Rattle.rv64_instr.specs.declared.place.Place.{Place}
use Rattle.rv64_instr.specs.Row.{row_of}
use Rattle.rv64_instr.specs.LocationEffects.{uses_of, defines_of}
use Rattle.mir_func.specs.declared.exit.Exit.{Exit}
use Rattle.mir_func.specs.declared.exit.Exit.TheVariants.{Onward, Perhaps, Always, Final}
use Rattle.mir_func.specs.declared.item.Item.{Item}
use Rattle.mir_func.specs.declared.item.ItemKind.{ItemKind}
use Rattle.mir_func.specs.declared.item.ItemKind.TheVariants.{Code, Mark, Phi}
use Rattle.mir_func.specs.Exits.{exit_of}

-- a place is live before an item: code reads it, or it is live after the item and code doesn't set it
abbrev pub live_before : ItemKind → (after : Bool) → Place → Bool
live_before (Code i k) after x = uses_of i x || (after && not (defines_of (row_of i) x))
live_before (Mark v m) after x = after
live_before (Phi p k) after x = after

-- a place is live after an item with this exit, if `starts` is live-in of blocks and `below` is whether the place is live before the
-- next item
abbrev pub live_across : (starts : ℕ → Place → Bool) → Exit → (below : Bool) → Place → Bool
live_across starts Onward below x = below
live_across starts (Perhaps n) below x = below || starts n x
live_across starts (Always n) below x = starts n x
live_across starts Final below x = false

-- a place is live at a block's end, if this block comes next
abbrev pub live_past : (starts : ℕ → Place → Bool) → (next : Option ℕ) → Place → Bool
live_past starts None x = false
live_past starts (Some n) x = starts n x

-- a place is live before these items, the last ones of a block
abbrev pub live_from : (starts : ℕ → Place → Bool) → List Item → (next : Option ℕ) → Place → Bool
live_from starts [] next x = live_past starts next x
live_from starts (i ∷ is) next x = live_before i.kind (live_across starts (exit_of i.kind) (live_from starts is next x) x) x
