-- A function without its debug items: only what the machine runs is left.
use Rattle.std.specs.Prelude.{List, map, Option, Some, None, filter_map}
use Rattle.mir_func.specs.declared.block.Block.{Block}
use Rattle.mir_func.specs.declared.item.Item.{Item}
use Rattle.mir_func.specs.declared.item.ItemKind.{ItemKind}
use Rattle.mir_func.specs.declared.item.ItemKind.TheVariants.{Code, Mark, Phi}
use Rattle.mir_func.specs.declared.position.Origin.{Origin}
use Rattle.mir_func.specs.declared.location.Loc.{Loc}
use Rattle.mir_func.specs.Function.{Function}

-- code without its number, or nothing for a debug value or a DBG_PHI, with this origin and debug location
abbrev pub bare : ItemKind → Origin → Loc → Option Item
bare (Code i k) origin loc = Some (record { kind = Code i None; origin = origin; loc = loc })
bare (Mark v m) origin loc = None
bare (Phi p k) origin loc = None

-- an item without its debug instruction number, or nothing for a debug item
abbrev pub stripped_item : Item → Option Item
stripped_item i = bare i.kind i.origin i.loc

-- the code of items, without its numbers
abbrev pub stripped_items : List Item → List Item
stripped_items items = filter_map stripped_item items

-- a block with its code alone. Its silent index stays
abbrev pub stripped_block : Block → Block
stripped_block b = record { id = b.id; items = stripped_items b.items; source_end = b.source_end }

-- each block with its code alone
abbrev pub stripped_blocks : List Block → List Block
stripped_blocks blocks = map stripped_block blocks

-- the function without its debug values, DBG_PHIs and debug instruction numbers
abbrev pub stripped : Function → Function
stripped f = record { name = f.name; slots = f.slots; objects = f.objects; blocks = stripped_blocks f.blocks }
