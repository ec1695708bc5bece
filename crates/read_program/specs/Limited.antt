-- The limits on the numbers in an item that was read.
use Rattle.std.specs.Prelude.{◌≡◌, pos, negsuc, Bool, true, ◌<◌, ◌≤◌, IfSome, IsTrue, All, Option, Some, None}
use Rattle.rv64_instr.specs.declared.operand.Operand.{Operand}
use Rattle.rv64_instr.specs.declared.operand.Operand.TheVariants.{Def, Use, ImplicitDef, ImplicitUse, Imm, Slot, Object, Part, Outgoing, Block, Symbol, Mask}
use Rattle.rv64_instr.specs.declared.operand.Operand.TheVariants.{GlobalRegisters}
use Rattle.rv64_instr.specs.declared.place.Place.{Place}
use Rattle.rv64_instr.specs.declared.place.Place.TheVariants as place
use Rattle.rv64_instr.specs.declared.symbol.Symbol.{Symbol as Linked}
use Rattle.rv64_instr.specs.declared.symbol.Symbol.TheVariants.{Global, Constant as PoolConstant}
use Rattle.rv64_instr.specs.declared.symbol.LinkedAddress.{LinkedAddress}
use Rattle.rv64_instr.specs.Form.{IsSigned, is_within}
use Rattle.mir_func.specs.declared.item.ItemKind.{ItemKind}
use Rattle.mir_func.specs.declared.item.ItemKind.TheVariants.{Code, Mark, Phi}
use Rattle.mir_func.specs.declared.location.Loc.{Loc}
use Rattle.mir_func.specs.declared.location.Loc.TheVariants.{Absent, Node, Inline}
use Rattle.mir_func.specs.declared.variable.MarkValue.{MarkValue}
use Rattle.mir_func.specs.declared.variable.MarkValue.TheVariants.{Nothing, Constant, At, Pair}
use Rattle.mir_func.specs.declared.variable.VarId.{VarId}
use Rattle.mir_func.specs.Parts.{IsPart}
use Rattle.base_ids.specs.Limits.{MAX_NUMBER, FIXED, text_number}
use Rattle.read_item.specs.Opcode.{is_read}

-- ---- the numbers of items: a number or count is at most 2^30 - 1, a register is one of x0 to x31 or, unless it is implicit, of `%0` to `%4095`, and other
-- integers have 64 bits

-- a symbol: the number of a constant of the pool is within the limit
abbrev pub SymbolIsLimited : Linked → Type 0
SymbolIsLimited (Global name) = Unit {0}
SymbolIsLimited (PoolConstant n) = n ≤ MAX_NUMBER

-- an address: what is added to the symbol's fits 32 bits signed
pub record AddressIsLimited (y : LinkedAddress) : Type 0 where
  pub symbol : SymbolIsLimited y.symbol
  pub addend : IsTrue (is_within (negsuc 2147483647) (pos 2147483647) y.addend)

-- an operand: a register, which is physical if it is implicit, an immediate of 64 bits signed, a stack entry or block with a number within the limit, or a half
-- of an address
abbrev pub IsLimited : Operand → Type 0
IsLimited (Def r) = r < 4128
IsLimited (Use r) = r < 4128
IsLimited (ImplicitDef r) = r < 32
IsLimited (ImplicitUse r) = r < 32
IsLimited (Imm i) = IsSigned i
IsLimited (Slot n) = n ≤ MAX_NUMBER
IsLimited (Object n) = text_number n ≤ MAX_NUMBER
IsLimited (Part half y) = AddressIsLimited y
IsLimited (Outgoing n) = ⊥
IsLimited GlobalRegisters = ⊥
IsLimited (Block n) = n ≤ MAX_NUMBER
IsLimited (Symbol name) = Unit {0}
IsLimited Mask = Unit {0}

-- the value of a debug value: a constant of 64 bits signed, a register, or a pair of numbers within the limit
abbrev pub ValueIsLimited : MarkValue → Type 0
ValueIsLimited Nothing = Unit {0}
ValueIsLimited (Constant i) = IsSigned i
ValueIsLimited (At r) = r < 4128
ValueIsLimited (Pair q) = (q.number ≤ MAX_NUMBER) × (q.operand ≤ MAX_NUMBER)

-- the location of a DBG_PHI: a register but x0, a spill slot with a number within the limit, or the constant 0 (for `$x0`)
abbrev pub PlaceIsLimited : Option Place → Type 0
PlaceIsLimited None = Unit {0}
PlaceIsLimited (Some (place.Register r)) = (0 < r) × (r < 4128)
PlaceIsLimited (Some (place.Slot n)) = n ≤ MAX_NUMBER
PlaceIsLimited (Some (place.Const c)) = c ≡ pos 0

-- the variable of a debug value: its node is within the limit, and its fragment, if any, is one that is allowed
abbrev pub VariableIsLimited : VarId → Type 0
VariableIsLimited v = (v.node ≤ MAX_NUMBER) × IfSome v.fragment IsPart

-- the numbers of an item, the debug instruction number included, but not those of its debug location
abbrev pub KindIsLimited : ItemKind → Type 0
KindIsLimited (Code i k) = All IsLimited i.operands × IfSome k (λ n. n ≤ MAX_NUMBER)
KindIsLimited (Mark v m) = VariableIsLimited v × ValueIsLimited m
KindIsLimited (Phi p k) = PlaceIsLimited p × (k ≤ MAX_NUMBER)

-- a debug location: its node is within the limit, or the line, column, scope and `inlinedAt` written out are
abbrev pub LocIsLimited : Loc → Type 0
LocIsLimited Absent = Unit {0}
LocIsLimited (Node n) = n ≤ MAX_NUMBER
LocIsLimited (Inline l) = (l.line ≤ MAX_NUMBER) × (l.column ≤ MAX_NUMBER) × (l.scope ≤ MAX_NUMBER) × IfSome l.inlined_at (λ n. n ≤ MAX_NUMBER)

-- ---- languages: the linked language has more operands and opcodes

-- an operand of a language: halves of addresses and fixed stack objects are of the linked one alone
abbrev pub IsOperandOf : (linked : Bool) → Operand → Type 0
IsOperandOf linked (Object n) = FIXED ≤ n → linked ≡ true
IsOperandOf linked (Part half y) = linked ≡ true
IsOperandOf linked _ = Unit {0}

-- an item of a language: its opcode is one that is read there, and volatile code is of the linked one alone
abbrev pub IsOfLanguage : (linked : Bool) → ItemKind → Type 0
IsOfLanguage linked (Code i k) = All (IsOperandOf linked) i.operands × IsTrue (is_read linked i.op) × (i.volatile ≡ true → linked ≡ true)
IsOfLanguage linked (Mark v m) = Unit {0}
IsOfLanguage linked (Phi p k) = Unit {0}
