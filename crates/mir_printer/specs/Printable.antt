-- Items whose text determines all of them but their origin.
use Rattle.std.specs.Prelude.{◌≡◌, ℕ, pos, ◌<◌, ◌^◌, ◌++◌, ◌∷◌, Bool, true, false, List, All, map, Option, Some, None, IsTrue, IfSome}
use Rattle.rv64_instr.specs.declared.operand.Operand.{Operand}
use Rattle.rv64_instr.specs.declared.operand.Operand.TheVariants.{Def, Use, ImplicitDef, ImplicitUse, Imm, Slot as SlotOperand, Object, Part, Block, Symbol}
use Rattle.rv64_instr.specs.declared.operand.Operand.TheVariants.{Outgoing, GlobalRegisters}
use Rattle.rv64_instr.specs.declared.operand.Operand.TheVariants.{Mask}
use Rattle.rv64_instr.specs.declared.symbol.Symbol.{Symbol as Linked}
use Rattle.rv64_instr.specs.declared.symbol.Symbol.TheVariants.{Global, Constant as PoolConstant}
use Rattle.rv64_instr.specs.declared.symbol.LinkedAddress.{LinkedAddress}
use Rattle.rv64_instr.specs.declared.place.Place.{Place}
use Rattle.rv64_instr.specs.declared.place.Place.TheVariants.{Register, Slot, Const}
use Rattle.rv64_instr.specs.Instruction.{Instruction}
use Rattle.rv64_instr.specs.Form.{has_form, IsSigned}
use Rattle.mir_func.specs.declared.location.Loc.{Loc}
use Rattle.mir_func.specs.declared.location.Loc.TheVariants.{Absent, Node, Inline}
use Rattle.mir_func.specs.declared.variable.MarkValue.{MarkValue}
use Rattle.mir_func.specs.declared.variable.MarkValue.TheVariants.{Nothing, Constant, At, Pair}
use Rattle.mir_func.specs.declared.variable.VarId.{VarId}
use Rattle.mir_func.specs.Parts.{IsPart}
use Rattle.mir_func.specs.declared.item.Item.{Item}
use Rattle.mir_func.specs.declared.item.ItemKind.{ItemKind}
use Rattle.mir_func.specs.declared.item.ItemKind.TheVariants.{Code, Mark, Phi}
use Rattle.mir_printer.specs.Spelling.{item_text}

-- a number of 32 bits
abbrev pub IsNumber : ℕ → Type 0
IsNumber n = n < 2 ^ 32

-- the number of a constant has 32 bits
abbrev pub HasSymbolNumber : Linked → Type 0
HasSymbolNumber (Global name) = Unit {0}
HasSymbolNumber (PoolConstant n) = IsNumber n

-- so have the numbers of an address that is known when the program is linked, but that its addend is signed and has 64 bits
pub record HasAddressNumbers (y : LinkedAddress) : Type 0 where
  pub symbol : HasSymbolNumber y.symbol
  pub addend : IsSigned y.addend

-- the numbers of an operand are of these sizes
abbrev pub HasNumbers : Operand → Type 0
HasNumbers (Def r) = IsNumber r
HasNumbers (Use r) = IsNumber r
HasNumbers (ImplicitDef r) = IsNumber r
HasNumbers (ImplicitUse r) = IsNumber r
HasNumbers (Imm i) = IsSigned i
HasNumbers (SlotOperand n) = IsNumber n
HasNumbers (Object n) = IsNumber n
HasNumbers (Part half y) = HasAddressNumbers y
HasNumbers (Outgoing n) = IsNumber n
HasNumbers GlobalRegisters = Unit {0}
HasNumbers (Block n) = IsNumber n
HasNumbers (Symbol name) = Unit {0}
HasNumbers Mask = Unit {0}

-- `%stack.N` is a stack object exactly if N is declared as one's number
abbrev pub IsAsDeclared : (objects : ℕ → Bool) → Operand → Type 0
IsAsDeclared objects (Def r) = Unit {0}
IsAsDeclared objects (Use r) = Unit {0}
IsAsDeclared objects (ImplicitDef r) = Unit {0}
IsAsDeclared objects (ImplicitUse r) = Unit {0}
IsAsDeclared objects (Imm i) = Unit {0}
IsAsDeclared objects (SlotOperand n) = objects n ≡ false
IsAsDeclared objects (Object n) = objects n ≡ true
IsAsDeclared objects (Part half y) = Unit {0}
IsAsDeclared objects (Outgoing n) = Unit {0}
IsAsDeclared objects GlobalRegisters = Unit {0}
IsAsDeclared objects (Block n) = Unit {0}
IsAsDeclared objects (Symbol name) = Unit {0}
IsAsDeclared objects Mask = Unit {0}

-- the operand, or the frame slot with a stack object's number
abbrev pub as_slot : Operand → Operand
as_slot (Def r) = Def r
as_slot (Use r) = Use r
as_slot (ImplicitDef r) = ImplicitDef r
as_slot (ImplicitUse r) = ImplicitUse r
as_slot (Imm i) = Imm i
as_slot (SlotOperand n) = SlotOperand n
as_slot (Object n) = SlotOperand n
as_slot (Part half y) = Part half y
as_slot (Outgoing n) = Outgoing n
as_slot GlobalRegisters = GlobalRegisters
as_slot (Block n) = Block n
as_slot (Symbol name) = Symbol name
as_slot Mask = Mask

-- an instruction has the form of its opcode. The text of a slot and of an object is the same, so if the instruction would
-- have its form with slots too, what is declared determines which of the two each operand is
pub record IsPrintableInstruction (objects : ℕ → Bool) (i : Instruction) : Type 0 where
  pub form : IsTrue (has_form i.op i.operands)
  pub numbers : All HasNumbers i.operands
  pub stack : IsTrue (has_form i.op (map as_slot i.operands)) → All (IsAsDeclared objects) i.operands

-- a phi's location: `$x0` is the constant 0, so a phi has no other constant, and not the register x0
abbrev pub IsPrintablePlace : Option Place → Type 0
IsPrintablePlace None = Unit {0}
IsPrintablePlace (Some (Register r)) = (0 < r) × IsNumber r
IsPrintablePlace (Some (Slot n)) = IsNumber n
IsPrintablePlace (Some (Const c)) = c ≡ pos 0

-- the numbers of a mark's value have 32 bits, and its constant is signed and has 64 bits
abbrev pub IsPrintableValue : MarkValue → Type 0
IsPrintableValue Nothing = Unit {0}
IsPrintableValue (Constant c) = IsSigned c
IsPrintableValue (At r) = IsNumber r
IsPrintableValue (Pair q) = IsNumber q.number × IsNumber q.operand

-- the numbers of a location have 32 bits, whether it is a node or written out
abbrev pub IsPrintableLoc : Loc → Type 0
IsPrintableLoc Absent = Unit {0}
IsPrintableLoc (Node n) = IsNumber n
IsPrintableLoc (Inline l) = IsNumber l.line × IsNumber l.column × IsNumber l.scope × IfSome l.inlined_at IsNumber

-- the node that a location is inlined at; for a location that is a node `inlined` determines it
abbrev pub inlined_at : (inlined : ℕ → Option ℕ) → Loc → Option ℕ
inlined_at inlined Absent = None
inlined_at inlined (Node n) = inlined n
inlined_at inlined (Inline l) = l.inlined_at

-- the context of a text: which numbers are declared as a stack object's, and where nodes of locations are inlined
pub record Declared : Type 0 where
  pub objects : ℕ → Bool
  pub inlined : ℕ → Option ℕ

-- a mark's variable is inlined at the node that the mark's location is inlined at, since the text of a mark names its node
-- alone (LLVM, "Source Level Debugging with LLVM": a variable's instance is its node and the `inlinedAt` of the location)
pub record IsPrintableVariable (declared : Declared) (loc : Loc) (v : VarId) : Type 0 where
  pub node : IsNumber v.node
  pub inlined : v.inlined_at ≡ inlined_at declared.inlined loc
  pub part : IfSome v.fragment IsPart

-- an item's kind is determined by its text, by what is declared, and by the item's location
abbrev pub IsPrintableKind : Declared → Loc → ItemKind → Type 0
IsPrintableKind declared loc (Code i k) = IsPrintableInstruction declared.objects i × IfSome k IsNumber
IsPrintableKind declared loc (Mark v m) = IsPrintableVariable declared loc v × IsPrintableValue m
IsPrintableKind declared loc (Phi p k) = IsPrintablePlace p × IsNumber k

-- an item whose text determines its kind and its location
pub record IsPrintable (declared : Declared) (i : Item) : Type 0 where
  pub kind : IsPrintableKind declared i.loc i.kind
  pub loc : IsPrintableLoc i.loc

-- The text of an item determines its kind and its location.
abbrev pub ItemTextTells : Type 0
ItemTextTells = (declared : Declared) (i j : Item) → IsPrintable declared i → IsPrintable declared j →
    item_text i ≡ item_text j → (i.kind ≡ j.kind) × (i.loc ≡ j.loc)

-- So does its line, whatever comes after it, and the line determines what comes after it too.
abbrev pub ItemLineTells : Type 0
ItemLineTells = (declared : Declared) (i j : Item) → IsPrintable declared i → IsPrintable declared j → (rest others : List ℕ) →
    item_text i ++ 10 ∷ rest ≡ item_text j ++ 10 ∷ others → (i.kind ≡ j.kind) × (i.loc ≡ j.loc) × (rest ≡ others)
