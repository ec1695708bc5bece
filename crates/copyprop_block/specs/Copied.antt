-- Copy propagation along blocks, with the salvage of numbers.
use Rattle.std.specs.Prelude.{ℕ, List, [], ◌∷◌, ◌++◌, Option, Some, None}
use Rattle.rv64_instr.specs.Row.{row_of}
use Rattle.mir_func.specs.declared.block.Block.{Block}
use Rattle.mir_func.specs.declared.debug_substitution.DebugSubstitution.{DebugSubstitution}
use Rattle.mir_func.specs.declared.item.Item.{Item}
use Rattle.mir_func.specs.declared.item.ItemKind.{ItemKind}
use Rattle.mir_func.specs.declared.item.ItemKind.TheVariants.{Code, Mark, Phi}
use Rattle.mir_func.specs.declared.position.Origin.{Origin}
use Rattle.pass_salvage.specs.declared.salvage_action.SalvageAction.{SalvageAction}
use Rattle.pass_salvage.specs.SalvageAction.{salvage_action}
use Rattle.pass_salvage.specs.Salvage.{above_after, put_for, entries_for, fresh_after}
use Rattle.copyprop_block.specs.declared.roots.Root.{Root}
use Rattle.copyprop_block.specs.declared.copies.CopyAction.{CopyAction}
use Rattle.copyprop_block.specs.declared.copies.CopyAction.TheVariants.{Stays, Goes, GoesWith}
use Rattle.copyprop_block.specs.Roots.{renamed, known_source, roots_after}

-- the state along a block: the result for its items so far, the available copies, the substitutions and the next fresh
-- number
pub record SoFar : Type 0 where
  pub done : List Item
  pub roots : List Root
  pub subs : List DebugSubstitution
  pub fresh : ℕ

-- (1) every explicit use of a register with a root is replaced by the root
abbrev pub renamed_kind : List Root → ItemKind → ItemKind
renamed_kind e (Code i n) = Code (renamed e i) n
renamed_kind e (Mark v m) = Mark v m
renamed_kind e (Phi p n) = Phi p n

-- the item with the explicit uses of its code replaced by their roots; its origin and debug location are unchanged
abbrev pub renamed_item : List Root → Item → Item
renamed_item e x = record x { kind = renamed_kind e x.kind }

-- (2) then a redundant copy is removed
abbrev pub goes_with : (number : Option ℕ) → (source : ℕ) → CopyAction
goes_with (Some k) s = GoesWith k s
goes_with None s = Goes

-- it is removed if it is a copy of a known source
abbrev pub goes_by : (number source : Option ℕ) → CopyAction
goes_by n (Some s) = goes_with n s
goes_by n None = Stays

-- what happens to a renamed item: code is judged by its row, debug items are kept
abbrev pub fate_of : List Root → ItemKind → CopyAction
fate_of e (Code i n) = goes_by n (known_source e (row_of i))
fate_of e (Mark v m) = Stays
fate_of e (Phi p n) = Stays

-- (3) and code that is kept updates the available copies
abbrev pub roots_with : ItemKind → List Root → List Root
roots_with (Code i n) e = roots_after (row_of i) e
roots_with (Mark v m) e = e
roots_with (Phi p n) e = e

-- the state after a removed copy of s with number k was salvaged
abbrev pub salvaged : SoFar → (k s : ℕ) → Origin → SalvageAction → SoFar
salvaged a k s o w = record {
  done = above_after w a.done ++ put_for w k s o;
  roots = a.roots;
  subs = a.subs ++ entries_for w k;
  fresh = fresh_after w a.fresh;
}

-- the state after a renamed item: it is kept and updates the available copies, it is removed, or it is removed and its
-- number is salvaged
abbrev pub by_fate : SoFar → Item → CopyAction → SoFar
by_fate a x Stays = record { done = a.done ++ x ∷ []; roots = roots_with x.kind a.roots; subs = a.subs; fresh = a.fresh }
by_fate a x Goes = a
by_fate a x (GoesWith k s) = salvaged a k s x.origin (salvage_action [] a.subs a.fresh k s a.done)

-- the state after one more item that is renamed already
abbrev pub and_renamed : SoFar → Item → SoFar
and_renamed a x = by_fate a x (fate_of a.roots x.kind)

-- the state after one more item: it is renamed by the available copies, and then kept or removed
abbrev pub next_item : SoFar → Item → SoFar
next_item a x = and_renamed a (renamed_item a.roots x)

-- the state after the items of a block, in order
abbrev pub over_items : SoFar → List Item → SoFar
over_items a [] = a
over_items a (x ∷ xs) = over_items (next_item a x) xs

-- the state at a block's start: no copies are available
abbrev pub at_block : List DebugSubstitution → (fresh : ℕ) → SoFar
at_block subs fresh = record { done = []; roots = []; subs = subs; fresh = fresh }

-- the state between blocks: the result for the blocks so far, the substitutions and the next fresh number
pub record BlocksSoFar : Type 0 where
  pub blocks : List Block
  pub subs : List DebugSubstitution
  pub fresh : ℕ

-- the state after one more block, from the state at its end
abbrev pub and_block : BlocksSoFar → Block → SoFar → BlocksSoFar
and_block a b s =
    record { blocks = a.blocks ++ record { id = b.id; items = s.done; source_end = b.source_end } ∷ []; subs = s.subs; fresh = s.fresh }

-- the state after one more block, with the substitutions and the fresh number from the blocks before it
abbrev pub next_block : BlocksSoFar → Block → BlocksSoFar
next_block a b = and_block a b (over_items (at_block a.subs a.fresh) b.items)

-- the state after the blocks of a function, in the order of the text
abbrev pub over_blocks : BlocksSoFar → List Block → BlocksSoFar
over_blocks a [] = a
over_blocks a (b ∷ bs) = over_blocks (next_block a b) bs
