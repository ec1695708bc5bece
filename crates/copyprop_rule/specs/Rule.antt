-- The code rule: a function without its redundant copies.
use Rattle.std.specs.Prelude.{◌≡◌, ◌+◌, List, [], ◌∷◌, map, Bool, false, cond, is_some}
use Rattle.rv64_instr.specs.Row.{row_of}
use Rattle.mir_func.specs.declared.block.Block.{Block}
use Rattle.mir_func.specs.declared.debug_substitution.DebugSubstitution.{DebugSubstitution}
use Rattle.mir_func.specs.declared.item.Item.{Item}
use Rattle.mir_func.specs.declared.item.ItemKind.{ItemKind}
use Rattle.mir_func.specs.declared.item.ItemKind.TheVariants.{Code, Mark, Phi}
use Rattle.mir_func.specs.Function.{Function}
use Rattle.pass_trait.specs.Code.{CodeRule}
use Rattle.pass_trait.specs.Sizes.{greatest_number}
use Rattle.copyprop_block.specs.declared.roots.Root.{Root}
use Rattle.copyprop_block.specs.Roots.{known_source}
use Rattle.copyprop_block.specs.Copied.{renamed_kind, renamed_item, roots_with, BlocksSoFar, over_blocks}

-- renamed code that is a redundant copy
abbrev pub goes : List Root → ItemKind → Bool
goes e (Code i n) = is_some (known_source e (row_of i))
goes e (Mark v m) = false
goes e (Phi p n) = false

-- the items of a block, with these available copies before them: each is renamed, and then removed or kept
abbrev pub copied_items : List Root → List Item → List Item
copied_items e [] = []
copied_items e (x ∷ xs) =
    cond (goes e (renamed_kind e x.kind)) (copied_items e xs) (renamed_item e x ∷ copied_items (roots_with (renamed_kind e x.kind) e) xs)

-- a block without its redundant copies; no copies are available at its start
abbrev pub copied_block : Block → Block
copied_block b = record { id = b.id; items = copied_items [] b.items; source_end = b.source_end }

-- the function without its redundant copies
abbrev pub copied : Function → Function
copied f = record f { blocks = map copied_block f.blocks }

-- copy propagation within blocks, as a code rule (LLVM: MachineCopyPropagation)
abbrev pub IsCopied : CodeRule
IsCopied f g = g ≡ copied f

-- the initial state over a function with debug items: no blocks yet, and the first fresh number
abbrev pub begins : Function → List DebugSubstitution → BlocksSoFar
begins f subs = record { blocks = []; subs = subs; fresh = greatest_number f subs + 1 }

-- the function after the pass, with debug items: redundant copies are removed, and their numbers salvaged
abbrev pub salvaged_function : Function → List DebugSubstitution → Function
salvaged_function f subs = record f { blocks = (over_blocks (begins f subs) f.blocks).blocks }

-- the substitutions after the pass: the old ones, followed by those of salvaged copies
abbrev pub salvaged_entries : Function → List DebugSubstitution → List DebugSubstitution
salvaged_entries f subs = (over_blocks (begins f subs) f.blocks).subs
