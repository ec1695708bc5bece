-- Spilling registers that satisfy the conditions preserves the simulation.
use Rattle.std.specs.Prelude.{◌≡◌, ◌⊎◌, ℕ, ◌<◌, List, [], Contains, Option, Some, false}
use Rattle.rv64_instr.specs.declared.place.Place.TheVariants.{Register}
use Rattle.mir_func.specs.declared.debug_substitution.OperandPair.{OperandPair}
use Rattle.mir_func.specs.declared.object.Object.{Object}
use Rattle.mir_func.specs.declared.position.Pos.{Pos}
use Rattle.mir_func.specs.declared.block.Block.{Block}
use Rattle.mir_func.specs.declared.item.Item.{Item}
use Rattle.mir_func.specs.Function.{Function}
use Rattle.mir_func.specs.Graph.{Here, block_start, program_of}
use Rattle.mir_func.specs.Sound.{AllItems, IsSound}
use Rattle.sem_mir.specs.InitialState.{first_of}
use Rattle.sem_mir.specs.Follow.{OnRow, GoesTo, Follows, HasWholeEnds}
use Rattle.sem_mir.specs.Live.{Live}
use Rattle.spill_code.specs.declared.spilling.SlotAssignment.{SlotAssignment}
use Rattle.spill_code.specs.declared.spilling.Spilling.{Spilling}
use Rattle.spill_code.specs.Rewrite.{slot_of, spilled_blocks}
use Rattle.spill_simulation.specs.MaySpill.{Fits, AreHomes}

-- the conditions under which these registers may be spilled in this function
pub record MaySpill (s : Spilling) (entry : List SlotAssignment) (f : Function) (resolve : OperandPair → Option OperandPair) : Type 0 where
  pub homes : AreHomes s f.slots
  pub fits : AllItems (λ i. Fits s i.kind i.origin) f.blocks
  -- At the function's start exactly the spilled physical registers are stored that are live there. A virtual register has no
  -- value there, nor has its slot.
  pub stored : (h : SlotAssignment) → Contains entry h → slot_of s.homes h.register ≡ Some h.slot
  pub real : (h : SlotAssignment) → Contains entry h → h.register < 32
  pub lives : (h : SlotAssignment) → Contains entry h → Live (program_of false f.blocks resolve) (Register h.register) (block_start (first_of f.blocks))
  pub all : (r n : ℕ) → slot_of s.homes r ≡ Some n → r < 32 →
      Live (program_of false f.blocks resolve) (Register r) (block_start (first_of f.blocks)) →
      (h : SlotAssignment) × Contains entry h × (h.register ≡ r)
  -- and if there are any, no branch goes to the first block
  pub once : (entry ≡ []) ⊎ ((p : Pos) (i : Item) → (program_of false f.blocks resolve).fetch p ≡ Here i → OnRow (GoesTo (first_of f.blocks)) i.kind → ⊥)

-- spilling preserves the simulation; and matched block ends stay matched
abbrev pub SpilledFollows : Type 0
SpilledFollows = (objects : List Object) (src : List Block) (f : Function) (subs fsubs : OperandPair → Option OperandPair) (s : Spilling)
    (entry : List SlotAssignment) →
    IsSound f → MaySpill s entry f fsubs → Follows objects src f.blocks subs fsubs →
    Follows objects src (spilled_blocks s entry f.blocks) subs fsubs ×
    (HasWholeEnds objects src f.blocks subs fsubs → HasWholeEnds objects src (spilled_blocks s entry f.blocks) subs fsubs)
