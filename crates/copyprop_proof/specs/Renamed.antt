-- The first step of the proof: explicit uses are replaced by their roots, and no copy is removed yet.
use Rattle.std.specs.Prelude.{List, [], ◌∷◌, map, cond}
use Rattle.mir_func.specs.declared.block.Block.{Block}
use Rattle.mir_func.specs.declared.debug_substitution.DebugSubstitution.{DebugSubstitution}
use Rattle.mir_func.specs.declared.item.Item.{Item}
use Rattle.mir_func.specs.declared.item.ItemKind.{ItemKind}
use Rattle.mir_func.specs.Function.{Function}
use Rattle.mir_func.specs.Sound.{IsSound}
use Rattle.pass_trait.specs.Change.{change}
use Rattle.pass_edits.specs.WeakSimulation.{PreservesWeakSimulation}
use Rattle.copyprop_block.specs.declared.roots.Root.{Root}
use Rattle.copyprop_block.specs.Copied.{renamed_kind, renamed_item, roots_with}
use Rattle.copyprop_rule.specs.Rule.{goes}

-- the available copies after a renamed item; a redundant copy doesn't change them
abbrev pub known_after : List Root → ItemKind → List Root
known_after e k = cond (goes e k) e (roots_with k e)

-- the items of a block with roots for their uses, with these available copies before them
abbrev pub renamed_items : List Root → List Item → List Item
renamed_items e [] = []
renamed_items e (x ∷ xs) = renamed_item e x ∷ renamed_items (known_after e (renamed_kind e x.kind)) xs

-- the block with roots for its uses; no copies are available at its start
abbrev pub renamed_block : Block → Block
renamed_block b = record { id = b.id; items = renamed_items [] b.items; source_end = b.source_end }

-- the function with roots for its uses, and with all its copies
abbrev pub renamed_function : Function → Function
renamed_function f = record f { blocks = map renamed_block f.blocks }

-- replacing explicit uses by their roots keeps soundness and preserves the weak simulation
abbrev pub RenamingFollows : Type 0
RenamingFollows = (f : Function) (subs : List DebugSubstitution) → IsSound f →
    IsSound (renamed_function f) × PreservesWeakSimulation (change f subs (renamed_function f) subs)
