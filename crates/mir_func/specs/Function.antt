-- A function as contracts see it.
use Rattle.std.specs.Prelude.{List, ℕ}
use Rattle.mir_func.specs.declared.block.Block.{Block}
use Rattle.mir_func.specs.declared.framed.SlotPlace.{SlotPlace}
use Rattle.mir_func.specs.declared.framed.SavedRegister.{SavedRegister}
use Rattle.mir_func.specs.declared.object.Object.{Object}

-- a function before frame lowering: its name, the numbers of its spill slots, its stack objects, and its blocks
pub record Function : Type 0 where
  pub name : List ℕ
  pub slots : List ℕ
  pub objects : List Object
  pub blocks : List Block

-- a function with its frame: the frame's size in bytes, the offsets of slots and saved registers, and the prologue
-- as first block
pub record FramedFunction : Type 0 where
  pub name : List ℕ
  pub size : ℕ
  pub offsets : List SlotPlace
  pub saved : List SavedRegister
  pub objects : List Object
  pub blocks : List Block
