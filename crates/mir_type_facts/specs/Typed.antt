-- Items whose code has its form, and substitutions: their numbers fit their types, of 32 bits, or of 64 for signed ones.
use Rattle.std.specs.Prelude.{All, IfSome, IsTrue}
use Rattle.rv64_instr.specs.declared.place.Place.{Place}
use Rattle.rv64_instr.specs.declared.place.Place.TheVariants.{Register, Slot, Const}
use Rattle.rv64_instr.specs.Form.{has_form}
use Rattle.rv64_instr.specs.Instruction.{Instruction}
use Rattle.mir_func.specs.declared.block.Block.{Block}
use Rattle.mir_func.specs.declared.debug_substitution.DebugSubstitution.{DebugSubstitution}
use Rattle.mir_func.specs.declared.debug_substitution.OperandPair.{OperandPair}
use Rattle.mir_func.specs.declared.item.Item.{Item}
use Rattle.mir_func.specs.declared.item.ItemKind.{ItemKind}
use Rattle.mir_func.specs.declared.item.ItemKind.TheVariants.{Code, Mark, Phi}
use Rattle.mir_func.specs.declared.variable.VarId.{VarId}
use Rattle.mir_func.specs.Parts.{IsPart}
use Rattle.mir_printer.specs.Printable.{IsNumber, HasNumbers, IsPrintableValue, IsPrintableLoc}

-- an instruction in the form of its opcode, whose operands' numbers fit their types
pub record IsTypedCode (i : Instruction) : Type 0 where
  pub form : IsTrue (has_form i.op i.operands)
  pub numbers : All HasNumbers i.operands

-- a variable whose node fits its type, and whose fragment, if any, may be a part (`DW_OP_LLVM_fragment`)
pub record IsTypedVariable (v : VarId) : Type 0 where
  pub node : IsNumber v.node
  pub part : IfSome v.fragment IsPart

-- a location whose register or slot fits its type
abbrev pub IsTypedPlace : Place → Type 0
IsTypedPlace (Register r) = IsNumber r
IsTypedPlace (Slot n) = IsNumber n
IsTypedPlace (Const c) = Unit {0}

-- code, a mark (`DBG_VALUE`, `DBG_INSTR_REF`) or a phi (`DBG_PHI`) whose numbers fit their types
abbrev pub IsTypedKind : ItemKind → Type 0
IsTypedKind (Code i k) = IsTypedCode i × IfSome k IsNumber
IsTypedKind (Mark v m) = IsTypedVariable v × IsPrintableValue m
IsTypedKind (Phi p k) = IfSome p IsTypedPlace × IsNumber k

-- such an item, whose debug location's numbers fit their types
pub record IsTypedItem (i : Item) : Type 0 where
  pub kind : IsTypedKind i.kind
  pub loc : IsPrintableLoc i.loc

-- a block of such items, whose number and silent index fit their types
pub record IsTypedBlock (b : Block) : Type 0 where
  pub id : IsNumber b.id
  pub source_end : IsNumber b.source_end
  pub items : All IsTypedItem b.items

-- a pair of debug instruction number and operand index that fit their types
pub record IsTypedPair (q : OperandPair) : Type 0 where
  pub number : IsNumber q.number
  pub operand : IsNumber q.operand

-- an entry of `debugValueSubstitutions` whose pairs and subregister fit their types
pub record IsTypedEntry (e : DebugSubstitution) : Type 0 where
  pub src : IsTypedPair e.src
  pub dst : IsTypedPair e.dst
  pub subreg : IsNumber e.subreg
