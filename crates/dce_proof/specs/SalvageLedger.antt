-- What each item of a function is once its dead copies have lost their numbers: one line for each item, in the order of the text.
use Rattle.std.specs.Prelude.{ℕ, zero, suc, List, [], ◌∷◌, ◌++◌, take, drop, length}
use Rattle.std.specs.Prelude.{cond, nat_eq, Option, Some, None, Bool, true, false, slice_get, slice_index_or}
use Rattle.mir_func.specs.declared.block.Block.{Block}
use Rattle.mir_func.specs.declared.item.Item.{Item}
use Rattle.mir_func.specs.declared.debug_substitution.DebugSubstitution.{DebugSubstitution}
use Rattle.mir_func.specs.Function.{Function}
use Rattle.pass_salvage.specs.declared.salvage_action.SalvageAction.{SalvageAction}
use Rattle.pass_salvage.specs.declared.salvage_action.SalvageAction.TheVariants.{HasEntry, GetsEntry, GetsPhi}
use Rattle.pass_salvage.specs.SalvageAction.{salvage_action}
use Rattle.dce_salvage.specs.declared.salvage_numbers.Copied.{Copied}
use Rattle.dce_salvage.specs.SalvageNumbers.{without_number, numbered_copy, added_by_salvage, SoFar, salvage_at}
use Rattle.pass_salvage.specs.SalvageAction.{going_from}
use Rattle.dce_salvage.specs.SalvageBlocks.{BlocksSoFar, in_block, salvage_blocks}
use Rattle.dce_round.specs.dce_salvage_proof.SalvageLaws.{begins_off}

-- the items that an item becomes, and the register of the DBG_PHI before it, if one was added
pub record Line : Type 0 where
  pub now : List Item
  pub phi : Option ℕ

-- the source of a copy whose number goes to a DBG_PHI
abbrev pub phi_source : SalvageAction → Copied → Option ℕ
phi_source HasEntry c = None
phi_source (GetsEntry d o n) c = None
phi_source GetsPhi c = Some c.source

-- the line of a copy that loses its number by this salvage
abbrev pub line_by : SalvageAction → Copied → Item → Line
line_by w c x = record { now = added_by_salvage w c x.origin ++ record x { kind = without_number x.kind } ∷ []; phi = phi_source w c }

-- the line of an item that is unchanged
abbrev pub line_of : Item → Line
line_of x = record { now = x ∷ []; phi = None }

-- the line of a dead item, which may be a numbered copy
abbrev pub line_of_copy : (removed : List ℕ) → (at : ℕ) → SoFar → Item → Option Copied → Line
line_of_copy removed at a x (Some c) = line_by (salvage_action removed a.subs a.fresh c.number c.source (take at a.items)) c x
line_of_copy removed at a x None = line_of x

-- the line of the item at an index, once the later ones are done: code that gets a number for a later copy has it by then
abbrev pub lines_of : (removed : List ℕ) → (at : ℕ) → (goes : Bool) → SoFar → Option Item → List Line
lines_of removed at true a (Some x) = line_of_copy removed at a x (numbered_copy x.kind) ∷ []
lines_of removed at false a (Some x) = line_of x ∷ []
lines_of removed at goes a None = []

-- the lines of the items before an index
abbrev pub lines_down : (removed : List ℕ) → (dead : List Bool) → (index : ℕ) → SoFar → List Line
lines_down removed dead zero a = []
lines_down removed dead (suc n) a =
    lines_down removed dead n (salvage_at removed n (slice_index_or dead n false) a) ++ lines_of removed n (slice_index_or dead n false) a (slice_get a.items n)

-- the lines of the block with this number, among these blocks
abbrev pub lines_in : (dead : List (List Bool)) → List Block → BlocksSoFar → (block : ℕ) → List Line
lines_in dead [] a n = []
lines_in dead (b ∷ bs) a n =
    cond (nat_eq b.id n)
    (lines_down (going_from 0 (slice_index_or dead 0 [])) (slice_index_or dead 0 []) (length b.items) (in_block b (salvage_blocks (drop 1 dead) bs a)))
    (lines_in (drop 1 dead) bs a n)

-- the lines of a function's block, given which items are dead
abbrev pub ledger : Function → List DebugSubstitution → (dead : List (List Bool)) → (block : ℕ) → List Line
ledger f subs dead n = lines_in dead f.blocks (begins_off f subs) n
