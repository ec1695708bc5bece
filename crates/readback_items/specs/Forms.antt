-- The parsed form of an item's printed line.
use Rattle.std.specs.Prelude.{ℕ, ◌-◌, pos, false, nat_lt, if◌then◌else◌, not, codes, filter, map, List, [], ◌∷◌, Option, Some, None}
use Rattle.std.specs.List.{flat_map}
use Rattle.rv64_instr.specs.declared.operand.Operand.{Operand}
use Rattle.rv64_instr.specs.declared.operand.Operand.TheVariants.{Def, Use, ImplicitDef as SetsImplicit, ImplicitUse, Imm, Slot, Object, Part, Block, Symbol}
use Rattle.rv64_instr.specs.declared.operand.Operand.TheVariants.{Outgoing, GlobalRegisters}
use Rattle.rv64_instr.specs.declared.operand.Operand.TheVariants.{Mask}
use Rattle.rv64_instr.specs.declared.place.Place.{Place}
use Rattle.rv64_instr.specs.declared.place.Place.TheVariants as place
use Rattle.rv64_instr.specs.Instruction.{Instruction}
use Rattle.rv64_instr.specs.Mnemonic.{mnemonic_of}
use Rattle.mir_func.specs.declared.item.Item.{Item}
use Rattle.mir_func.specs.declared.item.ItemKind.{ItemKind}
use Rattle.mir_func.specs.declared.item.ItemKind.TheVariants.{Code, Mark, Phi}
use Rattle.mir_func.specs.declared.location.Loc.{Loc}
use Rattle.mir_func.specs.declared.variable.MarkValue.{MarkValue}
use Rattle.mir_func.specs.declared.variable.MarkValue.TheVariants.{Nothing, Constant, At, Pair}
use Rattle.mir_func.specs.declared.variable.VarId.{VarId}
use Rattle.mir_func.specs.Parts.{Bytes}
use Rattle.read_token.specs.declared.lexeme.Flag.{Flag}
use Rattle.read_token.specs.declared.lexeme.Flag.TheVariants.{Plain, Implicit, ImplicitDef}
use Rattle.read_token.specs.declared.lexeme.RegisterName.{RegisterName}
use Rattle.read_token.specs.declared.lexeme.RegisterName.TheVariants.{Physical, Absent, Virtual}
use Rattle.read_line.specs.declared.form.Expression.{Expression}
use Rattle.read_line.specs.declared.form.Expression.TheVariants as expression
use Rattle.read_line.specs.declared.form.ItemForm.{ItemForm}
use Rattle.read_line.specs.declared.form.OperandForm.{OperandForm}
use Rattle.read_line.specs.declared.form.OperandForm.TheVariants as form
use Rattle.read_line.specs.declared.form.RegisterForm.{RegisterForm}
use Rattle.mir_printer.specs.Spelling.{is_definition}

-- the name of a register: `$xN`, or `%N` of a virtual one
abbrev pub register_name : ℕ → RegisterName
register_name r = if nat_lt r 32 then Physical r else Virtual (r - 32)

-- a register with its flag
abbrev pub register_form : Flag → ℕ → RegisterForm
register_form flag r = record { flag = flag; name = register_name r }

-- `$noreg`
abbrev pub no_register : OperandForm
no_register = form.Register (record { flag = Plain; name = Absent })

-- the form of an operand: slots and objects are both `%stack.N`
abbrev pub operand_form : Operand → OperandForm
operand_form (Def r) = form.Register (register_form Plain r)
operand_form (Use r) = form.Register (register_form Plain r)
operand_form (SetsImplicit r) = form.Register (register_form ImplicitDef r)
operand_form (ImplicitUse r) = form.Register (register_form Implicit r)
operand_form (Imm i) = form.Integer (Some i)
operand_form (Slot n) = form.Slot n
operand_form (Object n) = form.Slot n
operand_form (Part half y) = form.Integer None
operand_form (Outgoing n) = form.Integer None
operand_form GlobalRegisters = form.Integer None
operand_form (Block n) = form.Block n
operand_form (Symbol name) = form.Symbol name
operand_form Mask = form.Mask

-- the register before the `=` for an operand: only a def has one
abbrev pub set_register : Operand → List RegisterForm
set_register (Def r) = register_form Plain r ∷ []
set_register (Use r) = []
set_register (SetsImplicit r) = []
set_register (ImplicitUse r) = []
set_register (Imm i) = []
set_register (Slot n) = []
set_register (Object n) = []
set_register (Part half y) = []
set_register (Outgoing n) = []
set_register GlobalRegisters = []
set_register (Block n) = []
set_register (Symbol name) = []
set_register Mask = []

-- the form of an instruction's line, with its debug instruction number and its debug location
abbrev pub code_form : Instruction → Option ℕ → Loc → ItemForm
code_form i number loc = record {
  definitions = flat_map set_register i.operands;
  opcode = mnemonic_of i.op;
  operands = map operand_form (filter (λ o. not (is_definition o)) i.operands);
  no_return = false;
  volatile = false;
  number = number;
  loc = loc;
  exceeds = false;
}

-- the form of a debug item's line: it has no registers before the `=`, and its numbers are operands
abbrev pub debug_form : (opcode : List ℕ) → List OperandForm → Loc → ItemForm
debug_form opcode operands loc = record { definitions = []; opcode = opcode; operands = operands; no_return = false; volatile = false; number = None; loc = loc; exceeds = false }

-- the expression of a `DBG_VALUE`: empty, or a fragment
abbrev pub plain_expression : Option Bytes → Expression
plain_expression None = expression.Empty
plain_expression (Some b) = expression.Part b

-- the expression of a `DBG_INSTR_REF`: `DW_OP_LLVM_arg, 0`, and perhaps a fragment
abbrev pub argument_expression : Option Bytes → Expression
argument_expression None = expression.Argument
argument_expression (Some b) = expression.PartOfArgument b

-- the form of a `DBG_VALUE`: its second operand is `$noreg`
abbrev pub value_form : OperandForm → VarId → Loc → ItemForm
value_form value v loc =
    debug_form (codes "DBG_VALUE") (value ∷ no_register ∷ form.Node v.node ∷ form.Expression (plain_expression v.fragment) ∷ []) loc

-- the form of a debug value: a `DBG_INSTR_REF` of a pair, else a `DBG_VALUE`
abbrev pub mark_form : VarId → MarkValue → Loc → ItemForm
mark_form v Nothing loc = value_form no_register v loc
mark_form v (Constant c) loc = value_form (form.Integer (Some c)) v loc
mark_form v (At r) loc = value_form (form.Register (register_form Plain r)) v loc
mark_form v (Pair q) loc =
    debug_form (codes "DBG_INSTR_REF") (form.Node v.node ∷ form.Expression (argument_expression v.fragment) ∷ form.Reference q ∷ []) loc

-- the first operand of a `DBG_PHI`: `$noreg` for no location, `$x0` for a constant, which is 0
abbrev pub place_form : Option Place → OperandForm
place_form None = no_register
place_form (Some (place.Register r)) = form.Register (register_form Plain r)
place_form (Some (place.Slot n)) = form.Slot n
place_form (Some (place.Const c)) = form.Register (register_form Plain 0)

-- the form of an item's line, by its kind and its debug location
abbrev pub kind_form : ItemKind → Loc → ItemForm
kind_form (Code i number) loc = code_form i number loc
kind_form (Mark v m) loc = mark_form v m loc
kind_form (Phi p k) loc = debug_form (codes "DBG_PHI") (place_form p ∷ form.Integer (Some (pos k)) ∷ []) loc

-- the form of an item's line
abbrev pub form_of : Item → ItemForm
form_of i = kind_form i.kind i.loc
