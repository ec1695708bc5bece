-- The second law of passes: a pass's code rule. Its functions are stripped of debug values, DBG_PHIs and numbers.
use Rattle.std.specs.Prelude.{◌≡◌, map}
use Rattle.sem_simulation.specs.mir_func.declared.position.Origin.{Origin}
use Rattle.sem_simulation.specs.mir_func.declared.position.Origin.TheVariants.{Kept, Before}
use Rattle.sem_simulation.specs.mir_func.declared.location.Loc.TheVariants.{Absent}
use Rattle.sem_simulation.specs.mir_func.declared.item.Item.{Item}
use Rattle.sem_simulation.specs.mir_func.declared.block.Block.{Block}
use Rattle.sem_simulation.specs.mir_func.Function.{Function}

-- a code rule: which functions a pass may make of which function
abbrev pub CodeRule : Type 1
CodeRule = Function → Function → Type 0

-- the rule is functional: one function has at most one result
abbrev pub HasOneResult : CodeRule → Type 0
HasOneResult R = (f g h : Function) → R f g → R f h → g ≡ h

-- an origin with its position erased: only whether it is `Kept` or `Before`
abbrev pub originless_origin : Origin → Origin
originless_origin (Kept p) = Kept (record { block = 0; item = 0 })
originless_origin (Before p) = Before (record { block = 0; item = 0 })

-- an item with its position and debug location erased
abbrev pub originless_item : Item → Item
originless_item i = record { kind = i.kind; origin = originless_origin i.origin; loc = Absent }

-- a block with its items' positions and its silent index erased
abbrev pub originless_block : Block → Block
originless_block b = record { id = b.id; items = map originless_item b.items; source_end = 0 }

-- the function without positions, silent indices and debug locations, which depend on debug items
abbrev pub originless : Function → Function
originless f = record f { blocks = map originless_block f.blocks }

-- both have the same name, slots, objects, block numbers and items in order, each `Kept` in both or `Before` in both;
-- only positions, silent indices and debug locations may differ
abbrev pub AreAlike : Function → Function → Type 0
AreAlike f g = originless f ≡ originless g

-- the rule doesn't depend on positions, silent indices and debug locations, so debug items can't affect the code that
-- it makes
abbrev pub SeesCodeAlone : CodeRule → Type 0
SeesCodeAlone R = (f f' g g' : Function) → AreAlike f f' → R f g → R f' g' → AreAlike g g'
