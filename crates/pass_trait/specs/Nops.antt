-- The pass that removes no-operations, as an example of a pass.
use Rattle.std.specs.Prelude.{◌≡◌, ℕ, zero, List, [], map, filter, Option, Some, None, Bool, true, false, cond, not, ◌&&◌}
use Rattle.std.specs.List.{list_any, filter_map, flat_map}
use Rattle.sem_simulation.specs.rv64_instr.Row.{Row, Fixes, StoresSlot, row_of}
use Rattle.sem_simulation.specs.mir_func.declared.position.Pos.{Pos}
use Rattle.sem_simulation.specs.mir_func.declared.position.Origin.{Origin}
use Rattle.sem_simulation.specs.mir_func.declared.position.Origin.TheVariants.{Before}
use Rattle.sem_simulation.specs.mir_func.declared.item.Item.{Item}
use Rattle.sem_simulation.specs.mir_func.declared.item.ItemKind.{ItemKind}
use Rattle.sem_simulation.specs.mir_func.declared.item.ItemKind.TheVariants.{Code, Mark, Phi}
use Rattle.sem_simulation.specs.mir_func.declared.block.Block.{Block}
use Rattle.sem_simulation.specs.mir_func.Function.{Function}
use Rattle.sem_simulation.specs.mir_func.Sound.{code_number}
use Rattle.pass_trait.specs.declared.loss.Reason.TheVariants.{Removed}
use Rattle.pass_trait.specs.Code.{CodeRule}
use Rattle.pass_trait.specs.Rule.{Rule, number_lost, StandsAt}
use Rattle.pass_trait.specs.Steps.{PassStep}

-- a no-operation (RISC-V Unprivileged ISA, RV32I, "NOP Instruction"): a constant definition of x0
abbrev pub is_nop_row : Row → Bool
is_nop_row (Fixes zero n) = true
is_nop_row _ = false

-- code that is a no-operation; debug items never are
abbrev pub is_nop : ItemKind → Bool
is_nop (Code i k) = is_nop_row (row_of i)
is_nop _ = false

-- a store into a spill slot
abbrev pub is_save_row : Row → Bool
is_save_row (StoresSlot rs n) = true
is_save_row _ = false

-- a slot store that a pass added
abbrev pub is_added_save : ItemKind → Origin → Bool
is_added_save (Code i k) (Before p) = is_save_row (row_of i)
is_added_save _ o = false

-- some slot store was added, as spill code is
abbrev pub has_added_saves : List Block → Bool
has_added_saves blocks = list_any (λ b. list_any (λ i. is_added_save i.kind i.origin) b.items) blocks

-- whether the item is kept: all items that aren't no-operations, and all items if slot stores were added (`busy`). A
-- slot store added at a block's end requires other code to be executed near it, and that code may be a no-operation
abbrev pub stays : (busy : Bool) → Item → Bool
stays busy i = not (not busy && is_nop i.kind)

-- the block without its no-operations, or unchanged if `busy`
abbrev pub thinned_block : Bool → Block → Block
thinned_block busy b = record { id = b.id; items = filter (stays busy) b.items; source_end = b.source_end }

-- the same for all blocks: if `busy`, all are unchanged
abbrev pub thinned_blocks : Bool → List Block → List Block
thinned_blocks busy blocks = map (thinned_block busy) blocks

-- the function without its no-operations; it is unchanged if slot stores were added anywhere
abbrev pub thinned : Function → Function
thinned f = record f { blocks = thinned_blocks (has_added_saves f.blocks) f.blocks }

-- the pass's code rule
abbrev pub IsThinned : CodeRule
IsThinned f g = g ≡ thinned f

-- the item at a position is removed, and has this number
pub record IsTaken (f : Function) (at : Pos) (k : ℕ) : Type 0 where
  pub item : Item
  pub stands : StandsAt f at item
  pub out : stays (has_added_saves f.blocks) item ≡ false
  pub number : code_number item.kind ≡ Some k

-- the pass's debug rule: the numbers of removed code are lost, and nothing else happens
abbrev pub nop_rule : Rule
nop_rule = record {
  loses = λ c at loss. (k : ℕ) × IsTaken c.old at k × (loss ≡ number_lost k Removed);
  leaves = λ c r why. ⊥;
  spills = λ c r slot. ⊥;
  renames = λ c r now. ⊥;
  numbers = λ c at k. ⊥;
  salvages = λ c at p. ⊥;
  substitutes = λ c more. more ≡ [];
  kills = λ c block kills. kills ≡ [];
}

-- the pass's only step
abbrev pub nop_step : PassStep
nop_step = record { code = IsThinned; debug = nop_rule }

-- the number of a no-operation, if it has one
abbrev pub nop_number : ItemKind → Option ℕ
nop_number (Code i (Some k)) = cond (is_nop_row (row_of i)) (Some k) None
nop_number (Code i None) = None
nop_number (Mark v m) = None
nop_number (Phi p k) = None

-- the numbers of the no-operations among items
abbrev pub numbers_in_items : List Item → List ℕ
numbers_in_items items = filter_map (λ i. nop_number i.kind) items

-- the numbers of the no-operations
abbrev pub nop_numbers : List Block → List ℕ
nop_numbers blocks = flat_map (λ b. numbers_in_items b.items) blocks

-- the numbers of the code that is removed
abbrev pub lost_in : Function → List ℕ
lost_in f = cond (has_added_saves f.blocks) [] (nop_numbers f.blocks)
