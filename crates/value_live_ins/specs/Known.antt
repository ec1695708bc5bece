-- The result of the value analysis of a function with its frame.
use Rattle.std.specs.Prelude.{◌≡◌, ◌≤◌, ℕ, ◌+◌, ◌*◌, List, All, Option, Some, length, map, slice_get}
use Rattle.mir_func.specs.declared.block.Block.{Block}
use Rattle.mir_func.specs.declared.debug_substitution.OperandPair.{OperandPair}
use Rattle.mir_func.specs.Graph.{framed_program}
use Rattle.value_proof.specs.PreferredByClass.{AreEnoughFor, AreThingsOf}
use Rattle.value_solver.specs.declared.entry.BlockEntry.{BlockEntry}
use Rattle.value_solver.specs.Entry.{thing, IsEntry}
use Rattle.value_tracker.specs.Things.{AreThings}
use Rattle.value_live_ins.specs.declared.values.MachineValues.{MachineValues}
use Rattle.value_live_ins.specs.Gathering.{AreOnce}
use Rattle.value_live_ins.specs.Used.{IsUsed}

-- the values of these blocks as far as location lists need them, with this resolution of debug operand pairs, and with these pairs
-- asked for
pub record AreValuesForLists (blocks : List Block) (resolve : OperandPair → Option OperandPair) (asked : List OperandPair) (v : MachineValues)
    : Type 0 where
  -- the list has the parts of variables first, and then other entities that the items copy, but for pairs that items above define
  pub things : AreThings v.variables v.things
  pub once : AreOnce v.things
  pub fewer : length v.variables ≤ length v.things
  pub enough : AreEnoughFor (framed_program blocks resolve) (map thing v.things)
  -- and no others
  pub used : All (IsUsed blocks resolve asked) v.things
  -- each block's entry is exact for all paths to its start
  pub entries : (b : ℕ) (e : BlockEntry) → slice_get v.entries b ≡ Some e → IsEntry (framed_program blocks resolve) v.things b e
  pub for_all : length v.entries ≡ length blocks
  pub sweeps : v.sweeps ≤ 2 * length v.things * length blocks + 1

-- the values of these blocks, with this resolution of debug operand pairs, and with these pairs asked for
pub record AreMachineValues (blocks : List Block) (resolve : OperandPair → Option OperandPair) (asked : List OperandPair) (v : MachineValues) : Type 0 where
  -- the list has the parts of variables first, and then all other entities that the items copy
  pub things : AreThings v.variables v.things
  pub once : AreOnce v.things
  pub fewer : length v.variables ≤ length v.things
  pub all : AreThingsOf (framed_program blocks resolve) (map thing v.things)
  -- and no others
  pub used : All (IsUsed blocks resolve asked) v.things
  -- each block's entry is exact for all paths to its start
  pub entries : (b : ℕ) (e : BlockEntry) → slice_get v.entries b ≡ Some e → IsEntry (framed_program blocks resolve) v.things b e
  pub for_all : length v.entries ≡ length blocks
  pub sweeps : v.sweeps ≤ 2 * length v.things * length blocks + 1
