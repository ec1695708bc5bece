-- The instruction that a line of code is, or why the line is refused.
use Rattle.std.specs.Prelude.{ℕ, ℤ, ◌+◌, Bool, true, false, not, ◌&&◌, ◌||◌, nat_eq, nat_lt, if◌then◌else◌, length, List, [], ◌∷◌, ◌++◌, pos, Option, Some}
use Rattle.std.specs.Prelude.{None, is_none, min, unwrap_or, Result, Ok, Err}
use Rattle.std.specs.List.{list_any, zip}
use Rattle.base_ids.specs.Limits.{MAX_NUMBER, FIXED}
use Rattle.read_refusal.specs.declared.kind.RefusalKind.{RefusalKind}
use Rattle.read_refusal.specs.declared.kind.RefusalKind.TheVariants as kinds
use Rattle.rv64_instr.specs.declared.op.Op.{Op}
use Rattle.rv64_instr.specs.declared.op.Op.TheVariants.{Load, Store}
use Rattle.rv64_instr.specs.declared.operand.Operand.{Operand}
use Rattle.rv64_instr.specs.declared.operand.Operand.TheVariants as operand
use Rattle.rv64_instr.specs.declared.symbol.Half.{Half}
use Rattle.rv64_instr.specs.declared.symbol.Symbol.{Symbol}
use Rattle.rv64_instr.specs.Form.{has_form, moves_slot}
pub use Rattle.rv64_instr.specs.Form.{has_implicit_callee}
use Rattle.rv64_instr.specs.Arithmetic.{load_width, store_width}
use Rattle.rv64_instr.specs.Instruction.{Instruction, is_load}
use Rattle.read_line.specs.read_token.declared.lexeme.Flag.{Flag}
use Rattle.read_line.specs.read_token.declared.lexeme.Flag.TheVariants.{Plain, Implicit, ImplicitDef}
use Rattle.read_line.specs.read_token.declared.lexeme.RegisterName.{RegisterName}
use Rattle.read_line.specs.read_token.declared.lexeme.RegisterName.TheVariants.{Physical, Absent, Other, Virtual}
use Rattle.read_line.specs.declared.form.RegisterForm.{RegisterForm}
use Rattle.read_line.specs.declared.form.OperandForm.{OperandForm}
use Rattle.read_line.specs.declared.form.OperandForm.TheVariants as form
use Rattle.read_line.specs.declared.form.ItemForm.{ItemForm}
use Rattle.read_item.specs.declared.place.OperandKind.{OperandKind}
use Rattle.read_item.specs.declared.place.OperandKind.TheVariants as place
use Rattle.read_item.specs.Place.{places, front, behind}

-- how many operands a line may have, counting the registers before the `=` and implicit ones
abbrev pub MAX_OPERANDS : ℕ
MAX_OPERANDS = 64

-- a check of a line: whether the line fails it, and the refusal if it does
pub record Rule : Type 0 where
  pub broken : Bool
  pub refusal : RefusalKind

-- the refusal of the first check that fails. Checks are listed in the order of their refusals' numbers, so it has the lowest number
abbrev pub refusal_by : List Rule → Option RefusalKind
refusal_by [] = None
refusal_by (r ∷ rs) = if r.broken then Some r.refusal else refusal_by rs

-- the number of the register that replaces an operand which has a check of its own, so that the other operands can be checked too (other kinds of operands
-- are replaced by 0, block 0 or the empty name)
abbrev pub STAND_IN : ℕ
STAND_IN = 10

-- how many virtual registers there are: `%0` to `%4095`
abbrev pub VIRTUALS : ℕ
VIRTUALS = 4096

-- the number of the virtual register `%N`, if there is one: numbers 0 to 31 are those of x0 to x31
abbrev pub virtual_register : ℕ → Option ℕ
virtual_register n = if nat_lt n VIRTUALS then Some (32 + n) else None

-- the number of `%N` as an operand of code. One that is refused counts as x10, since it has a check of its own
abbrev pub virtual_operand : Flag → ℕ → ℕ
virtual_operand Plain n = unwrap_or (virtual_register n) STAND_IN
virtual_operand Implicit n = STAND_IN
virtual_operand ImplicitDef n = STAND_IN

-- the number of a register as an operand of code
abbrev pub number_of : Flag → RegisterName → Option ℕ
number_of flag (Physical r) = Some r
number_of flag (Virtual n) = Some (virtual_operand flag n)
number_of flag Absent = None
number_of flag Other = None

-- a register after the opcode: a use, an implicit use or an implicit def
abbrev pub named : Flag → ℕ → Operand
named Plain r = operand.Use r
named Implicit r = operand.ImplicitUse r
named ImplicitDef r = operand.ImplicitDef r

-- a register after the opcode, if it has a number: `$noreg` and unknown registers have none
abbrev pub used : Flag → Option ℕ → Option Operand
used flag None = None
used flag (Some r) = Some (named flag r)

-- an operand that fits a position, for one that has a check of its own; at an implicit position it is none
abbrev pub stand_in : OperandKind → Option Operand
stand_in place.Object = Some (operand.Use STAND_IN)
stand_in place.Slot = Some (operand.Use STAND_IN)
stand_in place.Register = Some (operand.Use STAND_IN)
stand_in place.Number = Some (operand.Imm (pos 0))
stand_in place.Block = Some (operand.Block 0)
stand_in place.Symbol = Some (operand.Symbol [])
stand_in place.Mask = Some operand.Mask
stand_in place.Implicit = None

-- `%stack.N` at an operand position. At a position that takes none it counts as an operand that fits
abbrev pub stack_operand : OperandKind → ℕ → Option Operand
stack_operand place.Object n = Some (operand.Object n)
stack_operand place.Slot n = Some (operand.Slot n)
stack_operand p n = stand_in p

-- the number of `%fixed-stack.N`. Above the limit of N it is that of the limit, since the line is refused
abbrev pub fixed_number : ℕ → ℕ
fixed_number n = FIXED + min n MAX_NUMBER

-- `%fixed-stack.N` at an operand position: it is a stack object wherever an address may stand
abbrev pub fixed_operand : OperandKind → ℕ → Option Operand
fixed_operand place.Object n = Some (operand.Object (fixed_number n))
fixed_operand place.Slot n = Some (operand.Object (fixed_number n))
fixed_operand p n = stand_in p

-- an immediate, if the integer fits 64 bits signed
abbrev pub number_operand : Option ℤ → Option Operand
number_operand None = None
number_operand (Some i) = Some (operand.Imm i)

-- a half of an address, if what is added fits 32 bits signed
abbrev pub half_operand : Half → Symbol → Option ℤ → Option Operand
half_operand half symbol None = None
half_operand half symbol (Some addend) = Some (operand.Part half (record { symbol = symbol; addend = addend }))

-- the instruction operand for an operand of the line at a position; none if it can't be one in code
abbrev pub operand_at : OperandKind → OperandForm → Option Operand
operand_at p (form.Register r) = used r.flag (number_of r.flag r.name)
operand_at p (form.Integer i) = number_operand i
operand_at p (form.Slot n) = stack_operand p n
operand_at p (form.Fixed n) = fixed_operand p n
operand_at p (form.Part half a) = half_operand half a.symbol a.addend
operand_at p (form.Address a) = None
operand_at p form.Literal = None
operand_at p (form.Block n) = Some (operand.Block n)
operand_at p (form.Symbol name) = Some (operand.Symbol name)
operand_at p form.Mask = Some operand.Mask
operand_at p (form.Node n) = None
operand_at p (form.Expression e) = None
operand_at p (form.Reference r) = None

-- an operand before others, if all exist
abbrev pub before : Option Operand → Option (List Operand) → Option (List Operand)
before None rest = None
before (Some o) None = None
before (Some o) (Some rest) = Some (o ∷ rest)

-- operands before others, if the others exist
abbrev pub append_to : List Operand → Option (List Operand) → Option (List Operand)
append_to xs None = None
append_to xs (Some ys) = Some (xs ++ ys)

-- operands before others, if all exist
abbrev pub joined : Option (List Operand) → Option (List Operand) → Option (List Operand)
joined None rest = None
joined (Some xs) rest = append_to xs rest

-- the def for a register before the `=`; none if it is flagged `implicit` or `implicit-def`
abbrev pub set_by : Flag → Option ℕ → Option Operand
set_by Plain (Some r) = Some (operand.Def r)
set_by Plain None = None
set_by Implicit n = None
set_by ImplicitDef n = None

-- the def for a register before the `=`, if it is a known register without a flag
abbrev pub definition : RegisterForm → Option Operand
definition r = set_by r.flag (number_of r.flag r.name)

-- the defs for the registers before the `=`, if all exist
unfoldable pub definitions : List RegisterForm → Option (List Operand)
definitions [] = Some []
definitions (r ∷ rs) = before (definition r) (definitions rs)

-- the operands after the opcode, each at its position, if each exists
unfoldable pub placed : List OperandKind → List OperandForm → Option (List Operand)
placed ps [] = Some []
placed ps (o ∷ os) = before (operand_at (front ps) o) (placed (behind ps) os)

-- the register of a call in tail position or that doesn't return, which is its first implicit use. The stack pointer and virtual registers have checks of
-- their own
abbrev pub called : Option ℕ → Option Operand
called None = None
called (Some r) = Some (operand.ImplicitUse (if nat_eq r 2 then STAND_IN else r))

-- the same, if it has no flag
abbrev pub callee_register : Flag → RegisterName → Option Operand
callee_register Plain name = called (number_of Implicit name)
callee_register Implicit name = None
callee_register ImplicitDef name = None

-- the operand for the register of such a call; a `%stack.N` counts as one that fits, since it has a check of its own
abbrev pub callee_operand : OperandForm → Option Operand
callee_operand (form.Register r) = callee_register r.flag r.name
callee_operand (form.Slot n) = Some (operand.ImplicitUse STAND_IN)
callee_operand (form.Fixed n) = Some (operand.ImplicitUse STAND_IN)
callee_operand _ = None

-- the operands after the opcode of such a call
abbrev pub placed_behind_callee : List OperandKind → List OperandForm → Option (List Operand)
placed_behind_callee ps [] = Some []
placed_behind_callee ps (o ∷ os) = before (callee_operand o) (placed (behind ps) os)

-- the operands after the opcode, each at its position, if each exists
abbrev pub placed_by : Op → List OperandKind → List OperandForm → Option (List Operand)
placed_by op ps os = if has_implicit_callee op then placed_behind_callee ps os else placed ps os

-- whether a load or store of this width with this offset operand accesses a whole spill slot: eight bytes at offset 0
abbrev pub is_whole_slot : (width : ℕ) → OperandForm → Bool
is_whole_slot width (form.Integer (Some i)) = moves_slot width i
is_whole_slot width _ = false

-- whether a `%stack.N` address on this line is a spill slot and not a stack object, as in `rd = LD %stack.N, 0` and `SD rs, %stack.N, 0`
abbrev pub names_slot : Op → List OperandForm → Bool
names_slot (Load op) (address ∷ number ∷ rest) = is_whole_slot (load_width op) number
names_slot (Store op) (rs ∷ address ∷ number ∷ rest) = is_whole_slot (store_width op) number
names_slot _ _ = false

-- the positions of the line's operands after the opcode
abbrev pub places_of : Op → ItemForm → List OperandKind
places_of op line = places op (names_slot op line.operands)

-- the operands of the instruction, defs first, if each exists
unfoldable pub operands_of : Op → ItemForm → Option (List Operand)
operands_of op line = joined (definitions line.definitions) (placed_by op (places_of op line) line.operands)

-- whether the operands exist and have the form of the opcode
abbrev pub fits : Op → Option (List Operand) → Bool
fits op None = false
fits op (Some operands) = has_form op operands

-- whether `%N` is refused as an operand of code: an implicit one, and one after `%4095`
abbrev pub is_refused_number : Flag → ℕ → Bool
is_refused_number Plain n = is_none (virtual_register n)
is_refused_number Implicit n = true
is_refused_number ImplicitDef n = true

-- whether a register is a virtual one that is refused
abbrev pub is_refused_virtual : RegisterForm → Bool
is_refused_virtual r =
    elim r.name as (λ _. Bool) [ Physical n ↦ false | Absent ↦ false | Other ↦ false | Virtual n ↦ is_refused_number r.flag n ]

-- whether an operand is a virtual register that is refused
abbrev pub is_refused_operand : OperandForm → Bool
is_refused_operand (form.Register r) = is_refused_virtual r
is_refused_operand _ = false

-- whether a register is virtual
abbrev pub is_virtual : RegisterName → Bool
is_virtual (Physical n) = false
is_virtual Absent = false
is_virtual Other = false
is_virtual (Virtual n) = true

-- whether the operands begin with a virtual register
abbrev pub begins_with_virtual : List OperandForm → Bool
begins_with_virtual (form.Register r ∷ rest) = is_virtual r.name
begins_with_virtual _ = false

-- whether a register that is refused is virtual: a definition or an operand, or a callee's register that is an implicit use
abbrev pub names_refused : Op → ItemForm → Bool
names_refused op line =
    (list_any is_refused_virtual line.definitions || list_any is_refused_operand line.operands)
    || (has_implicit_callee op && begins_with_virtual line.operands)

-- whether a register is the physical one of this number, without a flag
abbrev pub is_named : Flag → RegisterName → ℕ → Bool
is_named Plain (Physical r) n = nat_eq r n
is_named _ _ n = false

-- whether a register is the stack pointer x2, without a flag
abbrev pub is_pointer : RegisterForm → Bool
is_pointer r = is_named r.flag r.name 2

-- whether an operand is the stack pointer x2, without a flag
abbrev pub is_pointer_operand : OperandForm → Bool
is_pointer_operand (form.Register r) = is_pointer r
is_pointer_operand _ = false

-- whether an operand is `%stack.N`, a spill slot or a stack object, or `%fixed-stack.N`
abbrev pub is_stack : OperandForm → Bool
is_stack (form.Slot n) = true
is_stack (form.Fixed n) = true
is_stack _ = false

-- whether a position is one of an address, where these are allowed
abbrev pub is_address : OperandKind → Bool
is_address place.Object = true
is_address place.Slot = true
is_address _ = false

-- whether an operand is one of them at a position that takes none
abbrev pub is_misplaced : OperandKind × OperandForm → Bool
is_misplaced at = is_stack at.1 && not (is_address at.0)

-- whether the line has too many operands
abbrev pub is_long : ItemForm → Bool
is_long line = nat_lt MAX_OPERANDS (length line.definitions + length line.operands)

-- the checks of a line of code
abbrev pub code_rules : Op → ItemForm → List Rule
code_rules op line =
    record { broken = not (fits op (operands_of op line)) || line.exceeds; refusal = kinds.BadOperands } ∷
    record { broken = names_refused op line; refusal = kinds.VirtualRegister } ∷
    record { broken = list_any is_pointer line.definitions || list_any is_pointer_operand line.operands; refusal = kinds.StackPointerUse } ∷
    record { broken = list_any is_misplaced (zip (places_of op line) line.operands); refusal = kinds.StackObject } ∷
    record { broken = is_long line; refusal = kinds.TooMany } ∷ []

-- the instruction of an opcode and these operands, or of no operands if there are none. If the line's access is volatile, a load is
abbrev pub instruction : Op → (volatile : Bool) → Option (List Operand) → Instruction
instruction op volatile None = record { op = op; operands = []; volatile = volatile && is_load op }
instruction op volatile (Some operands) = record { op = op; operands = operands; volatile = volatile && is_load op }

-- a result, unless the line is refused
abbrev pub unless_refused : {A : Type 0} → Option RefusalKind → A → Result A RefusalKind
unless_refused None a = Ok a
unless_refused (Some kind) a = Err kind

-- the instruction that a line of code is, or the refusal of the first check that fails
unfoldable pub code_of : Op → ItemForm → Result Instruction RefusalKind
code_of op line = unless_refused (refusal_by (code_rules op line)) (instruction op line.volatile (operands_of op line))
