-- Whether a number on an item's line is above the limit, or an integer too wide.
use Rattle.std.specs.Prelude.{ℕ, Bool, true, false, ◌||◌, nat_le, List, Option, Some, None}
use Rattle.std.specs.List.{list_any}
use Rattle.mir_func.specs.declared.location.Loc.{Loc}
use Rattle.mir_func.specs.declared.location.Loc.TheVariants as locs
use Rattle.read_token.specs.declared.lexeme.RegisterName.{RegisterName}
use Rattle.read_token.specs.declared.lexeme.RegisterName.TheVariants.{Virtual}
use Rattle.read_token.specs.declared.lexeme.Number.TheVariants.{Wide}
use Rattle.read_token.specs.declared.lexeme.Lexeme.{Lexeme}
use Rattle.read_token.specs.declared.lexeme.Lexeme.TheVariants.{Integer}
use Rattle.read_token.specs.Number.{BEYOND}
use Rattle.mir_func.specs.rv64_instr.declared.symbol.Symbol.{Symbol}
use Rattle.mir_func.specs.rv64_instr.declared.symbol.Symbol.TheVariants.{Global, Constant}
use Rattle.read_line.specs.declared.form.RegisterForm.{RegisterForm}
use Rattle.read_line.specs.declared.form.OperandForm.{OperandForm}
use Rattle.read_line.specs.declared.form.OperandForm.TheVariants as operands
use Rattle.read_line.specs.declared.attribute.Attributes.{Attributes}

-- whether a number is above 2^30 - 1
abbrev pub is_beyond : ℕ → Bool
is_beyond n = nat_le BEYOND n

-- whether there is a number, and it is above 2^30 - 1
abbrev pub is_some_beyond : Option ℕ → Bool
is_some_beyond None = false
is_some_beyond (Some n) = is_beyond n

-- whether the number of a virtual register is above 2^30 - 1
abbrev pub name_exceeds : RegisterName → Bool
name_exceeds (Virtual n) = is_beyond n
name_exceeds name = false

-- the same for a register with its flag
abbrev pub register_exceeds : RegisterForm → Bool
register_exceeds r = name_exceeds r.name

-- whether the number of a constant of the pool is above 2^30 - 1
abbrev pub symbol_exceeds : Symbol → Bool
symbol_exceeds (Global name) = false
symbol_exceeds (Constant n) = is_beyond n

-- whether a number in an operand is above 2^30 - 1. Integer operands have no such limit
abbrev pub operand_exceeds : OperandForm → Bool
operand_exceeds (operands.Register r) = register_exceeds r
operand_exceeds (operands.Slot n) = is_beyond n
operand_exceeds (operands.Block n) = is_beyond n
operand_exceeds (operands.Part half a) = symbol_exceeds a.symbol
operand_exceeds (operands.Address a) = symbol_exceeds a.symbol
operand_exceeds (operands.Fixed n) = is_beyond n
operand_exceeds (operands.Node n) = is_beyond n
operand_exceeds (operands.Reference p) = is_beyond p.number || is_beyond p.operand
operand_exceeds operand = false

-- whether a number in a debug location is above 2^30 - 1
abbrev pub loc_exceeds : Loc → Bool
loc_exceeds locs.Absent = false
loc_exceeds (locs.Node n) = is_beyond n
loc_exceeds (locs.Inline l) = is_beyond l.line || (is_beyond l.column || (is_beyond l.scope || is_some_beyond l.inlined_at))

-- whether the debug instruction number, or a number in the debug location, is above 2^30 - 1
abbrev pub attributes_exceed : Attributes → Bool
attributes_exceed a = is_some_beyond a.number || loc_exceeds a.loc

-- whether a lexeme is an integer whose absolute value is 2^128 or more
abbrev pub is_wide : Lexeme → Bool
is_wide (Integer Wide) = true
is_wide t = false

-- whether some number on the line is above its limit, or some integer has an absolute value of 2^128 or more
abbrev pub item_exceeds : List Lexeme → List RegisterForm → List OperandForm → Attributes → Bool
item_exceeds ts definitions operands attributes =
    list_any is_wide ts || (list_any register_exceeds definitions || (list_any operand_exceeds operands || attributes_exceed attributes))
