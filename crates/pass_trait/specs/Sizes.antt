-- Bounds on how much a pass may enlarge a function.
use Rattle.std.specs.Prelude.{ℕ, ◌+◌, ◌*◌, ◌≤◌, max, List, [], ◌∷◌, ◌++◌, length, count_by, flat_map, Some, None}
use Rattle.sem_simulation.specs.mir_func.declared.item.ItemKind.{ItemKind}
use Rattle.sem_simulation.specs.mir_func.declared.item.ItemKind.TheVariants.{Code, Mark, Phi}
use Rattle.sem_simulation.specs.mir_func.declared.variable.MarkValue.TheVariants.{Nothing, Constant, At, Pair}
use Rattle.sem_simulation.specs.mir_func.declared.block.Block.{Block}
use Rattle.sem_simulation.specs.mir_func.declared.debug_substitution.DebugSubstitution.{DebugSubstitution}
use Rattle.sem_simulation.specs.mir_func.Function.{Function}
use Rattle.sem_simulation.specs.mir_func.Sound.{items_of, AllItems}
use Rattle.sem_simulation.specs.mir_func.SoundFrame.{HasPhysical}
use Rattle.sem_simulation.specs.mir_func.Limits.{MAX_BLOCKS, MAX_SLOTS}
use Rattle.sem_simulation.specs.mir_func.Calls.{is_call_kind}
use Rattle.sem_simulation.specs.sem_mir.Align.{is_code}
use Rattle.pass_trait.specs.Change.{Change}

-- the greatest of some numbers, or 0 if there are none
abbrev pub greatest : List ℕ → ℕ
greatest [] = 0
greatest (n ∷ ns) = max n (greatest ns)

-- the debug instruction number that an item defines or refers to, if any
abbrev pub numbers_of : ItemKind → List ℕ
numbers_of (Code i (Some k)) = k ∷ []
numbers_of (Code i None) = []
numbers_of (Phi p k) = k ∷ []
numbers_of (Mark v (Pair q)) = q.number ∷ []
numbers_of (Mark v Nothing) = []
numbers_of (Mark v (Constant n)) = []
numbers_of (Mark v (At r)) = []

-- the debug instruction numbers of a function with its substitutions: of items, of debug values' operands, and on both sides of
-- substitutions
abbrev pub numbers_in : List Block → List DebugSubstitution → List ℕ
numbers_in blocks subs = flat_map (λ i. numbers_of i.kind) (items_of blocks) ++ flat_map (λ e. e.src.number ∷ e.dst.number ∷ []) subs

-- the greatest debug instruction number of the function and its substitutions: all greater ones are fresh
abbrev pub greatest_number : Function → List DebugSubstitution → ℕ
greatest_number f subs = greatest (numbers_in f.blocks subs)

-- how many items a function has, debug items included
abbrev pub item_count : Function → ℕ
item_count f = length (items_of f.blocks)

-- how many of them are code
abbrev pub code_count : Function → ℕ
code_count f = count_by (λ i. is_code i.kind) (items_of f.blocks)

-- how many calls a function has
abbrev pub call_count : Function → ℕ
call_count f = count_by (λ i. is_call_kind i.kind) (items_of f.blocks)

-- the function names no virtual register
abbrev pub IsPhysical : Function → Type 0
IsPhysical f = AllItems (λ i. HasPhysical i.kind) f.blocks

-- the bound on items after a pass: `factor` times the items before it, plus `factor * count` for each of the `MAX_BLOCKS` blocks
-- that a function may have
abbrev pub most : (factor count items : ℕ) → ℕ
most factor count n = factor * (n + MAX_BLOCKS * count)

-- the bound on the debug instruction numbers that a pass may use above the greatest one
abbrev pub most_numbers : (factor count : ℕ) → Function → ℕ
most_numbers factor count f = count * most factor count (item_count f)

-- the size bounds of a pass with this factor and count
pub record KeepsSizes (factor count : ℕ) (c : Change) : Type 0 where
  pub items : item_count c.new ≤ most factor count (item_count c.old)
  pub code : code_count c.new ≤ most factor count (code_count c.old)
  pub calls : call_count c.new ≤ call_count c.old
  pub physical : IsPhysical c.old → IsPhysical c.new
  pub numbers : greatest_number c.new c.new_subs ≤ greatest_number c.old c.old_subs + most_numbers factor count c.old
  pub slots : greatest c.new.slots ≤ greatest c.old.slots + MAX_SLOTS * count
