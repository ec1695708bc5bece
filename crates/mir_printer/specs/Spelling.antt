-- The one text of an item (LLVM, Machine IR (MIR) Format Reference Manual, "Machine Instructions").
use Rattle.std.specs.Prelude.{ℕ, ℤ, zero, suc, pos, negsuc, ◌+◌, ◌-◌, ◌*◌, ◌/◌, ◌%◌, Bool, true, false, cond, ◌&&◌, ◌||◌, not, nat_eq, nat_le, nat_lt, List}
use Rattle.std.specs.Prelude.{[], ◌∷◌, ◌++◌, Option, Some}
use Rattle.std.specs.Prelude.{None, codes, filter, map}
use Rattle.std.specs.List.{flat_map, list_all}
use Rattle.std.specs.Fmt.{decimal, signed_decimal}
use Rattle.base_ids.specs.Limits.{FIXED}
use Rattle.rv64_instr.specs.declared.op.Op.{Op}
use Rattle.rv64_instr.specs.declared.operand.Operand.{Operand}
use Rattle.rv64_instr.specs.declared.operand.Operand.TheVariants.{Def, Use, ImplicitDef, ImplicitUse, Imm, Slot as SlotOperand, Object, Part, Block, Symbol}
use Rattle.rv64_instr.specs.declared.operand.Operand.TheVariants.{Outgoing, GlobalRegisters}
use Rattle.rv64_instr.specs.declared.operand.Operand.TheVariants.{Mask}
use Rattle.rv64_instr.specs.declared.symbol.Symbol.{Symbol as Linked}
use Rattle.rv64_instr.specs.declared.symbol.Symbol.TheVariants.{Global, Constant as PoolConstant}
use Rattle.rv64_instr.specs.declared.symbol.LinkedAddress.{LinkedAddress}
use Rattle.rv64_instr.specs.declared.symbol.Half.{Half}
use Rattle.rv64_instr.specs.declared.symbol.Half.TheVariants.{Upper, Lower}
use Rattle.rv64_instr.specs.declared.place.Place.{Place}
use Rattle.rv64_instr.specs.declared.place.Place.TheVariants.{Register, Slot, Const}
use Rattle.rv64_instr.specs.Form.{has_implicit_callee}
use Rattle.rv64_instr.specs.Instruction.{Instruction}
use Rattle.rv64_instr.specs.Mnemonic.{mnemonic_of}
use Rattle.mir_func.specs.declared.location.Loc.{Loc}
use Rattle.mir_func.specs.declared.location.Loc.TheVariants.{Absent, Node, Inline}
use Rattle.mir_func.specs.Parts.{Bytes}
use Rattle.mir_func.specs.declared.debug_substitution.OperandPair.{OperandPair}
use Rattle.mir_func.specs.declared.variable.VarId.{VarId}
use Rattle.mir_func.specs.declared.variable.MarkValue.{MarkValue}
use Rattle.mir_func.specs.declared.variable.MarkValue.TheVariants.{Nothing, Constant, At, Pair}
use Rattle.mir_func.specs.declared.item.Item.{Item}
use Rattle.mir_func.specs.declared.item.ItemKind.{ItemKind}
use Rattle.mir_func.specs.declared.item.ItemKind.TheVariants.{Code, Mark, Phi}

-- the texts with ", " between them
abbrev pub comma_separated : List (List ℕ) → List ℕ
comma_separated [] = []
comma_separated (t ∷ []) = t
comma_separated (t ∷ u ∷ rest) = t ++ codes ", " ++ comma_separated (u ∷ rest)

-- a letter, a digit, `_`, `.`, `-` or `$`
abbrev pub is_bare : ℕ → Bool
is_bare b = (nat_le 65 b && nat_le b 90) || (nat_le 97 b && nat_le b 122) ||
    (nat_le 48 b && nat_le b 57) || nat_eq b 95 || nat_eq b 46 || nat_eq b 45 || nat_eq b 36

-- a hexadecimal digit, upper case
abbrev pub upper_hex_digit : ℕ → ℕ
upper_hex_digit n = cond (nat_lt n 10) (48 + n) (55 + n)

-- a byte in double quotes: itself if it is printable ASCII other than `"` and `\`, else `\` and two hexadecimal digits
abbrev pub quoted_byte : ℕ → List ℕ
quoted_byte b = cond (nat_le 32 b && nat_le b 126 && not (nat_eq b 34 || nat_eq b 92)) (b ∷ [])
    (92 ∷ upper_hex_digit (b / 16) ∷ upper_hex_digit (b % 16) ∷ [])

-- an empty name
abbrev pub is_empty : List ℕ → Bool
is_empty [] = true
is_empty (b ∷ bs) = false

-- a symbol: `@` and its name, in double quotes unless it is one or more bare bytes
abbrev pub symbol_text : List ℕ → List ℕ
symbol_text name = 64 ∷ cond (not (is_empty name) && list_all is_bare name) name (34 ∷ (flat_map quoted_byte name ++ 34 ∷ []))

-- a register: `$xN`, and virtual ones `%K` from K = 0 on
abbrev pub register_text : ℕ → List ℕ
register_text r = cond (nat_lt r 32) (codes "$x" ++ decimal r) (codes "%" ++ decimal (r - 32))

-- a stack object: `%stack.N`, or a fixed one `%fixed-stack.N`
abbrev pub object_text : ℕ → List ℕ
object_text n = cond (nat_le FIXED n) (codes "%fixed-stack." ++ decimal (n - FIXED)) (codes "%stack." ++ decimal n)

-- the symbol of an address: a global, or a constant of the function's pool
abbrev pub linked_symbol_text : Linked → List ℕ
linked_symbol_text (Global name) = symbol_text name
linked_symbol_text (PoolConstant n) = codes "%const." ++ decimal n

-- the number that is added to a symbol's address: none if it is 0
abbrev pub addend_text : ℤ → List ℕ
addend_text (pos zero) = []
addend_text (pos (suc n)) = codes " + " ++ decimal (suc n)
addend_text (negsuc n) = codes " - " ++ decimal (suc n)

-- which half of an address it is (LLVM: `MO_HI`, `MO_LO`)
abbrev pub half_text : Half → List ℕ
half_text Upper = codes "target-flags(riscv-hi) "
half_text Lower = codes "target-flags(riscv-lo) "

-- the half of an address
abbrev pub part_text : Half → LinkedAddress → List ℕ
part_text half y = half_text half ++ (linked_symbol_text y.symbol ++ addend_text y.addend)

-- an operand; frame slots and stack objects that aren't fixed both print as `%stack.N`, and a register mask as `mask`
abbrev pub operand_text : Operand → List ℕ
operand_text (Def r) = register_text r
operand_text (Use r) = register_text r
operand_text (ImplicitDef r) = codes "implicit-def " ++ register_text r
operand_text (ImplicitUse r) = codes "implicit " ++ register_text r
operand_text (Imm i) = signed_decimal i
operand_text (SlotOperand n) = codes "%stack." ++ decimal n
operand_text (Object n) = object_text n
operand_text (Part half y) = part_text half y
operand_text (Outgoing n) = codes "outgoing(" ++ (decimal n ++ codes ")")
operand_text GlobalRegisters = codes "globals"
operand_text (Block n) = codes "%bb." ++ decimal n
operand_text (Symbol name) = symbol_text name
operand_text Mask = codes "mask"

-- an operand before the `=`: a register that is set and isn't implicit
abbrev pub is_definition : Operand → Bool
is_definition (Def r) = true
is_definition (Use r) = false
is_definition (ImplicitDef r) = false
is_definition (ImplicitUse r) = false
is_definition (Imm i) = false
is_definition (SlotOperand n) = false
is_definition (Object n) = false
is_definition (Part half y) = false
is_definition (Outgoing n) = false
is_definition GlobalRegisters = false
is_definition (Block n) = false
is_definition (Symbol name) = false
is_definition Mask = false

-- definitions with commas between them and " = " after them
abbrev pub definitions_text : List Operand → List ℕ
definitions_text [] = []
definitions_text (o ∷ os) = comma_separated (map operand_text (o ∷ os)) ++ codes " = "

-- a blank, and the operands with commas between them
abbrev pub uses_text : List Operand → List ℕ
uses_text [] = []
uses_text (o ∷ os) = codes " " ++ comma_separated (map operand_text (o ∷ os))

-- the register of an implicit use
abbrev pub implicit_register : Operand → Option ℕ
implicit_register (ImplicitUse r) = Some r
implicit_register _ = None

abbrev pub callee_by : Option ℕ → Operand → Operand
callee_by None o = o
callee_by (Some r) o = Use r

-- an operand as the callee of a call whose callee's register is an implicit use: it prints as one that is read
abbrev pub as_callee : Operand → Operand
as_callee o = callee_by (implicit_register o) o

-- the operands behind the opcode of such a call, of which the first is the callee
abbrev pub held_uses : List Operand → List Operand
held_uses [] = []
held_uses (o ∷ os) = as_callee o ∷ filter (λ u. not (is_definition u)) os

-- the operands behind an opcode
abbrev pub uses_behind : Op → List Operand → List Operand
uses_behind op os = cond (has_implicit_callee op) (held_uses os) (filter (λ u. not (is_definition u)) os)

-- an instruction: the registers that it sets and ` = `, its mnemonic, and its other operands
abbrev pub instruction_text : Instruction → List ℕ
instruction_text i = definitions_text (filter is_definition i.operands) ++ mnemonic_of i.op ++ uses_text (uses_behind i.op i.operands)

-- the attribute `debug-instr-number K`, if an instruction has a number
abbrev pub number_text : Option ℕ → List ℕ
number_text None = []
number_text (Some k) = codes ", debug-instr-number " ++ decimal k

-- a phi's location: `$x0` for a constant, since the only constant of a phi is 0
abbrev pub phi_place_text : Option Place → List ℕ
phi_place_text None = codes "$noreg"
phi_place_text (Some (Register r)) = register_text r
phi_place_text (Some (Slot n)) = codes "%stack." ++ decimal n
phi_place_text (Some (Const c)) = codes "$x0"

-- some bytes of a variable: their offset and how many they are, in bits (LLVM Language Reference, `DW_OP_LLVM_fragment`)
abbrev pub fragment_text : Bytes → List ℕ
fragment_text b = codes "DW_OP_LLVM_fragment, " ++ decimal (8 * b.offset) ++ codes ", " ++ decimal (8 * b.length)

-- the expression of a `DBG_VALUE`
abbrev pub expression_text : Option Bytes → List ℕ
expression_text None = codes "!DIExpression()"
expression_text (Some b) = codes "!DIExpression(" ++ fragment_text b ++ codes ")"

-- the expression of a `DBG_INSTR_REF`
abbrev pub pair_expression_text : Option Bytes → List ℕ
pair_expression_text None = codes "!DIExpression(DW_OP_LLVM_arg, 0)"
pair_expression_text (Some b) = codes "!DIExpression(DW_OP_LLVM_arg, 0, " ++ fragment_text b ++ codes ")"

-- the operands of a `DBG_VALUE` after its value
abbrev pub variable_text : VarId → List ℕ
variable_text v = codes ", $noreg, !" ++ decimal v.node ++ codes ", " ++ expression_text v.fragment

-- a `DBG_VALUE`, with the text of its value
abbrev pub value_mark_text : List ℕ → VarId → List ℕ
value_mark_text value v = codes "DBG_VALUE " ++ value ++ variable_text v

-- a `DBG_INSTR_REF` of the value that operand O of instruction K sets, as `dbg-instr-ref(K, O)`
abbrev pub pair_mark_text : VarId → OperandPair → List ℕ
pair_mark_text v q = codes "DBG_INSTR_REF !" ++ decimal v.node ++ codes ", " ++ pair_expression_text v.fragment ++
    codes ", dbg-instr-ref(" ++ decimal q.number ++ codes ", " ++ decimal q.operand ++ codes ")"

-- a mark: a `DBG_INSTR_REF` of a pair, else a `DBG_VALUE`, which has `$noreg` if it assigns nothing
abbrev pub mark_text : VarId → MarkValue → List ℕ
mark_text v Nothing = value_mark_text (codes "$noreg") v
mark_text v (Constant c) = value_mark_text (signed_decimal c) v
mark_text v (At r) = value_mark_text (register_text r) v
mark_text v (Pair q) = pair_mark_text v q

-- a `DBG_PHI` of a location and its debug instruction number
abbrev pub phi_text : Option Place → ℕ → List ℕ
phi_text p k = codes "DBG_PHI " ++ phi_place_text p ++ codes ", " ++ decimal k

-- an item without its location
abbrev pub kind_text : ItemKind → List ℕ
kind_text (Code i k) = instruction_text i ++ number_text k
kind_text (Mark v m) = mark_text v m
kind_text (Phi p k) = phi_text p k

-- the field `inlinedAt` of a location, if it is inlined
abbrev pub inlined_at_text : Option ℕ → List ℕ
inlined_at_text None = []
inlined_at_text (Some n) = codes ", inlinedAt: !" ++ decimal n

-- the attribute `debug-location`, if there is one: a node, or a `DILocation` written out
abbrev pub location_text : Loc → List ℕ
location_text Absent = []
location_text (Node n) = codes ", debug-location !" ++ decimal n
location_text (Inline l) = codes ", debug-location !DILocation(line: " ++ decimal l.line ++ codes ", column: " ++ decimal l.column ++ codes ", scope: !" ++
    decimal l.scope ++ inlined_at_text l.inlined_at ++ codes ")"

-- code that is volatile
abbrev pub is_volatile_kind : ItemKind → Bool
is_volatile_kind (Code i k) = i.volatile
is_volatile_kind (Mark v m) = false
is_volatile_kind (Phi p k) = false

-- the text of an item, and behind that of a volatile load its memory operand
abbrev pub with_memory_operand : (volatile : Bool) → List ℕ → List ℕ
with_memory_operand volatile text = cond volatile (text ++ codes " :: (volatile load)") text

-- the item on its line
abbrev pub item_text : Item → List ℕ
item_text i = with_memory_operand (is_volatile_kind i.kind) (kind_text i.kind ++ location_text i.loc)
