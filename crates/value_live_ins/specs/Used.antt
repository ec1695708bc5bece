-- Why an entity is tracked.
use Rattle.std.specs.Prelude.{◌≡◌, ℕ, ℤ, ◌<◌, List, Contains, Option, Some}
use Rattle.rv64_instr.specs.declared.place.Place.TheVariants.{Slot as InSlot, Const}
use Rattle.rv64_instr.specs.Arithmetic.{word}
use Rattle.rv64_instr.specs.Instruction.{Instruction}
use Rattle.rv64_instr.specs.Row.{row_of}
use Rattle.rv64_instr.specs.View.{Literal, SetsRegister, write_of, SlotAccess, access_of}
use Rattle.mir_func.specs.declared.block.Block.{Block}
use Rattle.mir_func.specs.declared.debug_substitution.OperandPair.{OperandPair}
use Rattle.mir_func.specs.declared.item.Item.{Item}
use Rattle.mir_func.specs.declared.item.ItemKind.{ItemKind}
use Rattle.mir_func.specs.declared.item.ItemKind.TheVariants.{Code, Mark, Phi}
use Rattle.mir_func.specs.declared.variable.VarId.{VarId}
use Rattle.mir_func.specs.declared.variable.MarkValue.{MarkValue}
use Rattle.mir_func.specs.declared.variable.MarkValue.TheVariants.{Constant, Pair as OfPair}
use Rattle.value_solver.specs.declared.tracked.Tracked.{Tracked}
use Rattle.value_solver.specs.declared.tracked.Tracked.TheVariants.{Register, Slot, Pair, Part, Number}

-- a register that is tracked: a physical one but x0 and x2
abbrev pub IsTrackedRegister : ℕ → Type 0
IsTrackedRegister r = (r < 32) × (r ≡ 0 → ⊥) × (r ≡ 2 → ⊥)

-- what an item names: the slot that code loads or stores, and the number that it fixes; the part that a debug value assigns, and its
-- constant or the pair that its pair resolves to; the slot or the constant of a DBG_PHI
pub data Names (resolve : OperandPair → Option OperandPair) : ItemKind → Tracked → Type 0 where
  accessed : {i : Instruction} {k : Option ℕ} {n : ℕ} → access_of (row_of i) ≡ SlotAccess n → Names resolve (Code i k) (Slot n)
  fixed : {i : Instruction} {k : Option ℕ} {n : ℕ} (rd : ℕ) → write_of (row_of i) ≡ SetsRegister rd (Literal n) → Names resolve (Code i k) (Number n)
  assigned : {v : VarId} {m : MarkValue} → Names resolve (Mark v m) (Part v)
  constant : {v : VarId} {c : ℤ} → Names resolve (Mark v (Constant c)) (Number (word c))
  resolved : {v : VarId} {q end : OperandPair} → resolve q ≡ Some end → Names resolve (Mark v (OfPair q)) (Pair end)
  read : {n k : ℕ} → Names resolve (Phi (Some (InSlot n)) k) (Slot n)
  read_constant : {c : ℤ} {k : ℕ} → Names resolve (Phi (Some (Const c)) k) (Number (word c))

-- one of these items names the entity
abbrev pub IsNamedIn : (OperandPair → Option OperandPair) → List Item → Tracked → Type 0
IsNamedIn resolve items x = (i : Item) × Contains items i × Names resolve i.kind x

-- an item of one of these blocks names the entity
abbrev pub IsNamed : (OperandPair → Option OperandPair) → List Block → Tracked → Type 0
IsNamed resolve blocks x = (b : Block) × Contains blocks b × IsNamedIn resolve b.items x

-- the reasons why an entity is tracked: it is a register but x0 and x2, or the constant 0, which is x0's value; it is a pair that is
-- asked for; or an item names it
pub data IsUsed (blocks : List Block) (resolve : OperandPair → Option OperandPair) (asked : List OperandPair) : Tracked → Type 0 where
  register : {r : ℕ} → IsTrackedRegister r → IsUsed blocks resolve asked (Register r)
  number_zero : IsUsed blocks resolve asked (Number 0)
  asked_for : {q : OperandPair} → Contains asked q → IsUsed blocks resolve asked (Pair q)
  named : {x : Tracked} → IsNamed resolve blocks x → IsUsed blocks resolve asked x
