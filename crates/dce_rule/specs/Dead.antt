-- Which code is dead, and the function without it.
use Rattle.std.specs.Prelude.{◌≡◌, ◌↔◌, ℕ, List, [], ◌∷◌, map, Option, Some, None, Bool, true, false, cond, not, ◌&&◌, ◌||◌}
use Rattle.rv64_instr.specs.declared.place.Place.{Place}
use Rattle.rv64_instr.specs.declared.place.Place.TheVariants.{Register}
use Rattle.rv64_instr.specs.Instruction.{Instruction, is_volatile_load}
use Rattle.rv64_instr.specs.Row.{Row, row_of}
use Rattle.rv64_instr.specs.LocationEffects.{set_by, is_pure, uses_of, defines_of}
use Rattle.mir_func.specs.declared.block.Block.{Block}
use Rattle.mir_func.specs.declared.item.Item.{Item}
use Rattle.mir_func.specs.declared.item.ItemKind.{ItemKind}
use Rattle.mir_func.specs.declared.item.ItemKind.TheVariants.{Code, Mark, Phi}
use Rattle.mir_func.specs.Function.{Function}
use Rattle.mir_func.specs.Graph.{Program, block_start, program_of}
use Rattle.mir_func.specs.Successors.{GoesTo}
use Rattle.sem_mir.specs.Live.{Live}

-- a set of places, as a test
abbrev pub Places : Type 0
Places = Place → Bool

-- the row's one result is a place that isn't needed, or it defines only x0
abbrev pub sets_unneeded : Option Place → Row → (needed : Places) → Bool
sets_unneeded (Some x) r needed = not (needed x)
sets_unneeded None r needed = defines_of r (Register 0)

-- dead code, if these places are needed after it: it has no effect except to set a place that isn't needed, or x0
abbrev pub is_dead_row : Row → (needed : Places) → Bool
is_dead_row r needed = is_pure r && sets_unneeded (set_by r) r needed

-- the instruction is dead code. A volatile load never is, whatever it sets
abbrev pub is_dead_code : Instruction → (needed : Places) → Bool
is_dead_code i needed = is_dead_row (row_of i) needed && not (is_volatile_load i)

-- the item is dead code; debug items never are
abbrev pub is_dead : ItemKind → (needed : Places) → Bool
is_dead (Code i k) needed = is_dead_code i needed
is_dead (Mark v m) needed = false
is_dead (Phi p k) needed = false

-- the places needed before an item, from those needed after it. Dead code needs nothing, nor do debug values and
-- DBG_PHIs
abbrev pub needed_before : ItemKind → (needed : Places) → Places
needed_before (Code i k) needed = λ x. cond (is_dead_code i needed) (needed x) (uses_of i x || (needed x && not (defines_of (row_of i) x)))
needed_before (Mark v m) needed = needed
needed_before (Phi p k) needed = needed

-- the places needed before these items, from those needed after them
abbrev pub needed_at : List Item → (needed : Places) → Places
needed_at [] needed = needed
needed_at (i ∷ is) needed = needed_before i.kind (needed_at is needed)

-- the items without dead code
abbrev pub without_dead : List Item → (needed : Places) → List Item
without_dead [] needed = []
without_dead (i ∷ is) needed = cond (is_dead i.kind (needed_at is needed)) (without_dead is needed) (i ∷ without_dead is needed)

-- the places needed at the end of each block, by block number
abbrev pub Ends : Type 0
Ends = ℕ → Places

-- a block without its dead code, for what is needed at its end
abbrev pub thinned_block : Ends → Block → Block
thinned_block ends b = record { id = b.id; items = without_dead b.items (ends b.id); source_end = b.source_end }

-- the function without its dead code
abbrev pub thinned : Ends → Function → Function
thinned ends f = record f { blocks = map (thinned_block ends) f.blocks }

-- the function's control flow; what pairs resolve to doesn't matter for it
abbrev pub paths_of : Function → Program
paths_of f = program_of false f.blocks (λ q. None)

-- the place is live out of the block: live at the start of some successor
abbrev pub LiveAtEnd : Function → (block : ℕ) → Place → Type 0
LiveAtEnd f b x = (n : ℕ) × GoesTo (paths_of f) b n × Live (paths_of f) x (block_start n)

-- one round: what is live out of blocks is needed at their ends, and dead code is removed
pub record IsRound (f g : Function) : Type 0 where
  pub ends : Ends
  pub live : (b : ℕ) (x : Place) → (ends b x ≡ true) ↔ LiveAtEnd f b x
  pub thins : g ≡ thinned ends f

-- rounds until one removes nothing
pub data IsThinnedOut : Function → Function → Type 0 where
  over : {f : Function} → IsRound f f → IsThinnedOut f f
  again : {f h : Function} (g : Function) → IsRound f g → IsThinnedOut g h → IsThinnedOut f h
