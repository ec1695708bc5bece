-- The debug value or DBG_PHI that a debug line is, or why the line is refused (LLVM, "Source Level Debugging with LLVM"; LLVM, "Instruction referencing for
-- debug info").
use Rattle.std.specs.Prelude.{ℕ, ℤ, pos, negsuc, Bool, true, false, not, nat_le, nat_eq, if◌then◌else◌, is_none, List, [], ◌∷◌, Option, Some, None}
use Rattle.std.specs.Prelude.{Result, Ok, Err}
use Rattle.read_refusal.specs.declared.kind.RefusalKind.{RefusalKind}
use Rattle.read_refusal.specs.declared.kind.RefusalKind.TheVariants as kinds
use Rattle.rv64_instr.specs.declared.place.Place.{Place}
use Rattle.rv64_instr.specs.declared.place.Place.TheVariants as content
use Rattle.read_line.specs.mir_func.declared.item.ItemKind.{ItemKind}
use Rattle.read_line.specs.mir_func.declared.item.ItemKind.TheVariants.{Mark, Phi}
use Rattle.read_line.specs.mir_func.declared.location.Loc.{Loc}
use Rattle.read_line.specs.mir_func.declared.location.Loc.TheVariants as loc
use Rattle.read_line.specs.mir_func.declared.variable.MarkValue.{MarkValue}
use Rattle.read_line.specs.mir_func.declared.variable.MarkValue.TheVariants.{Nothing, Constant, At, Pair}
use Rattle.read_line.specs.mir_func.Parts.{Bytes}
use Rattle.base_ids.specs.Limits.{MAX_NUMBER}
use Rattle.read_line.specs.read_metadata.declared.node.LocationNode.{LocationNode}
use Rattle.read_line.specs.read_metadata.Maps.{Maps}
use Rattle.read_line.specs.read_metadata.Metadata.{location_at}
use Rattle.read_line.specs.read_token.declared.lexeme.Flag.{Flag}
use Rattle.read_line.specs.read_token.declared.lexeme.Flag.TheVariants.{Plain, Implicit, ImplicitDef}
use Rattle.read_line.specs.read_token.declared.lexeme.RegisterName.{RegisterName}
use Rattle.read_line.specs.read_token.declared.lexeme.RegisterName.TheVariants.{Physical, Absent, Other, Virtual}
use Rattle.read_line.specs.declared.form.Expression.{Expression}
use Rattle.read_line.specs.declared.form.Expression.TheVariants as expression
use Rattle.read_line.specs.declared.form.OperandForm.{OperandForm}
use Rattle.read_line.specs.declared.form.OperandForm.TheVariants as form
use Rattle.read_line.specs.declared.form.ItemForm.{ItemForm}
use Rattle.read_item.specs.declared.debug.MarkForm.{MarkForm}
use Rattle.read_item.specs.declared.debug.PhiForm.{PhiForm}
use Rattle.read_item.specs.declared.opcode.DebugOpcode.{DebugOpcode}
use Rattle.read_item.specs.declared.opcode.DebugOpcode.TheVariants as debug
use Rattle.read_item.specs.Code.{Rule, is_long, refusal_by, virtual_register}

-- the value of a DBG_VALUE of a register: the constant 0 for x0, and undef for the stack pointer x2
abbrev pub content_value : ℕ → MarkValue
content_value r = if nat_eq r 0 then Constant (pos 0) else (if nat_eq r 2 then Nothing else At r)

-- the value of a DBG_VALUE of a virtual register, and undef if there is none
abbrev pub virtual_value : Option ℕ → MarkValue
virtual_value None = Nothing
virtual_value (Some r) = At r

-- the value of a DBG_VALUE of a register operand: undef for `$noreg` and for an unknown or flagged register
abbrev pub register_value : Flag → RegisterName → MarkValue
register_value Plain (Physical r) = content_value r
register_value Plain Absent = Nothing
register_value Plain Other = Nothing
register_value Plain (Virtual n) = virtual_value (virtual_register n)
register_value Implicit name = Nothing
register_value ImplicitDef name = Nothing

-- the value of a DBG_VALUE of an integer: undef for one that doesn't fit 64 bits signed
abbrev pub number_value : Option ℤ → MarkValue
number_value None = Nothing
number_value (Some i) = Constant i

-- the value of a DBG_VALUE by its first operand: a register, or a constant of 64 bits; else undef
abbrev pub operand_value : OperandForm → MarkValue
operand_value (form.Register r) = register_value r.flag r.name
operand_value (form.Integer i) = number_value i
operand_value (form.Slot n) = Nothing
operand_value (form.Fixed n) = Nothing
operand_value (form.Part half a) = Nothing
operand_value (form.Address a) = Nothing
operand_value form.Literal = Nothing
operand_value (form.Block n) = Nothing
operand_value (form.Symbol name) = Nothing
operand_value form.Mask = Nothing
operand_value (form.Node n) = Nothing
operand_value (form.Expression e) = Nothing
operand_value (form.Reference p) = Nothing

-- whether a register is `$noreg` without a flag
abbrev pub is_no_register : Flag → RegisterName → Bool
is_no_register Plain Absent = true
is_no_register _ _ = false

-- whether the second operand of DBG_VALUE is `$noreg`: the value is the first operand itself, not memory at its address
abbrev pub is_direct : OperandForm → Bool
is_direct (form.Register r) = is_no_register r.flag r.name
is_direct _ = false

-- whether the expression of DBG_VALUE leaves the operand as it is: it is empty, or a fragment alone
abbrev pub is_plain : Expression → Bool
is_plain expression.Empty = true
is_plain expression.Argument = false
is_plain (expression.Part f) = true
is_plain (expression.PartOfArgument f) = false
is_plain expression.Other = false

-- the bytes of the fragment of a DBG_VALUE's expression; none if the expression isn't a fragment alone, and then the variable is meant as a whole
abbrev pub part_of : Expression → Option Bytes
part_of expression.Empty = None
part_of expression.Argument = None
part_of (expression.Part f) = Some f
part_of (expression.PartOfArgument f) = None
part_of expression.Other = None

-- whether the expression of DBG_INSTR_REF leaves the operand as it is: it is empty, or a fragment, or either after `DW_OP_LLVM_arg, 0`
abbrev pub is_argument : Expression → Bool
is_argument expression.Empty = true
is_argument expression.Argument = true
is_argument (expression.Part f) = true
is_argument (expression.PartOfArgument f) = true
is_argument expression.Other = false

-- the bytes of the fragment of a DBG_INSTR_REF's expression, after `DW_OP_LLVM_arg, 0` or not; none for the whole variable
abbrev pub part_of_argument : Expression → Option Bytes
part_of_argument expression.Empty = None
part_of_argument expression.Argument = None
part_of_argument (expression.Part f) = Some f
part_of_argument (expression.PartOfArgument f) = Some f
part_of_argument expression.Other = None

-- `DBG_VALUE p, q, !v, !DIExpression(..)`; undef unless `q` is `$noreg` and the expression leaves `p` as it is
abbrev pub value_mark : List OperandForm → Option MarkForm
value_mark (p ∷ q ∷ form.Node v ∷ form.Expression e ∷ []) =
    Some (record { node = v; fragment = part_of e; value = if is_plain e then (if is_direct q then operand_value p else Nothing) else Nothing })
value_mark _ = None

-- the pair `K, O` of `dbg-instr-ref(K, O)`, if that is the only operand after the expression; else undef
abbrev pub pair_value : List OperandForm → MarkValue
pair_value (form.Reference p ∷ []) = Pair p
pair_value _ = Nothing

-- `DBG_INSTR_REF !v, !DIExpression(..), ..`; undef unless the expression leaves the operand as it is
abbrev pub reference_mark : List OperandForm → Option MarkForm
reference_mark (form.Node v ∷ form.Expression e ∷ rest) =
    Some (record { node = v; fragment = part_of_argument e; value = if is_argument e then pair_value rest else Nothing })
reference_mark _ = None

-- `DBG_VALUE_LIST !v, !DIExpression(..), ..`, which is read as an undef of the whole variable
abbrev pub list_mark : List OperandForm → Option MarkForm
list_mark (form.Node v ∷ form.Expression e ∷ rest) = Some (record { node = v; fragment = None; value = Nothing })
list_mark _ = None

-- the location of a DBG_PHI of a register: the constant 0 for x0, and none for the stack pointer x2
abbrev pub content_place : ℕ → Option Place
content_place r = if nat_eq r 0 then Some (content.Const (pos 0)) else (if nat_eq r 2 then None else Some (content.Register r))

-- the location of a DBG_PHI of a virtual register, if there is one
abbrev pub virtual_place : Option ℕ → Option (Option Place)
virtual_place None = None
virtual_place (Some r) = Some (Some (content.Register r))

-- the location of a DBG_PHI of a register operand: none for `$noreg` and x2. The outer option is empty if the operand isn't allowed
abbrev pub register_place : Flag → RegisterName → Option (Option Place)
register_place Plain (Physical r) = Some (content_place r)
register_place Plain Absent = Some None
register_place Plain Other = None
register_place Plain (Virtual n) = virtual_place (virtual_register n)
register_place Implicit name = None
register_place ImplicitDef name = None

-- the location of a DBG_PHI by its first operand: a register, `$noreg` or a fixed stack object for none, or a spill slot. The outer option is empty if the
-- operand isn't allowed
abbrev pub phi_place : OperandForm → Option (Option Place)
phi_place (form.Register r) = register_place r.flag r.name
phi_place (form.Slot n) = Some (Some (content.Slot n))
phi_place (form.Fixed n) = Some None
phi_place (form.Part half a) = None
phi_place (form.Address a) = None
phi_place form.Literal = None
phi_place (form.Integer i) = None
phi_place (form.Block n) = None
phi_place (form.Symbol name) = None
phi_place form.Mask = None
phi_place (form.Node n) = None
phi_place (form.Expression e) = None
phi_place (form.Reference p) = None

-- a number or count from 0 to 2^30 - 1
abbrev pub counted : ℤ → Option ℕ
counted (pos n) = if nat_le n MAX_NUMBER then Some n else None
counted (negsuc n) = None

-- a DBG_PHI of a location and its debug instruction number, if the line has both
abbrev pub phi_by : Option (Option Place) → Option ℕ → Option PhiForm
phi_by (Some place) (Some number) = Some (record { place = place; number = number })
phi_by (Some place) None = None
phi_by None number = None

-- an optional result, dropped if this operand isn't a number; the number itself isn't used
abbrev pub if_counted : {A : Type 0} → Option ℕ → Option A → Option A
if_counted None a = None
if_counted (Some n) a = a

-- the number or count that an operand is, from 0 to 2^30 - 1
abbrev pub count_in : OperandForm → Option ℕ
count_in (form.Integer (Some i)) = counted i
count_in _ = None

-- `DBG_PHI p, K` and `DBG_PHI p, K, bits`, where `bits` isn't used
abbrev pub phi_of : List OperandForm → Option PhiForm
phi_of (p ∷ k ∷ []) = phi_by (phi_place p) (count_in k)
phi_of (p ∷ k ∷ bits ∷ []) = if_counted (count_in bits) (phi_by (phi_place p) (count_in k))
phi_of _ = None

-- the `inlinedAt` node of a location node, if it has one
abbrev pub inlined_at_node : Option LocationNode → Option ℕ
inlined_at_node None = None
inlined_at_node (Some location) = location.inlined_at

-- the `inlinedAt` node of a debug location, which is given by its node or written out
abbrev pub inlined_at : Maps → Loc → Option ℕ
inlined_at meta loc.Absent = None
inlined_at meta (loc.Node n) = inlined_at_node (location_at meta n)
inlined_at meta (loc.Inline l) = l.inlined_at

-- the debug value of a line, if it has the form of one; the variable's `inlinedAt` is that of the line's location
abbrev pub mark_kind : Option ℕ → Option MarkForm → Option ItemKind
mark_kind at None = None
mark_kind at (Some m) = Some (Mark (record { node = m.node; inlined_at = at; fragment = m.fragment }) m.value)

-- the DBG_PHI of a line, if it has the form of one
abbrev pub phi_kind : Option PhiForm → Option ItemKind
phi_kind None = None
phi_kind (Some p) = Some (Phi p.place p.number)

-- the item of a debug line, if its operands have the form of its opcode
abbrev pub debug_kind : DebugOpcode → Maps → ItemForm → Option ItemKind
debug_kind debug.Value meta line = mark_kind (inlined_at meta line.loc) (value_mark line.operands)
debug_kind debug.InstrRef meta line = mark_kind (inlined_at meta line.loc) (reference_mark line.operands)
debug_kind debug.ValueList meta line = mark_kind (inlined_at meta line.loc) (list_mark line.operands)
debug_kind debug.Phi meta line = phi_kind (phi_of line.operands)

-- whether a list is empty
abbrev pub is_empty : {A : Type 0} → List A → Bool
is_empty [] = true
is_empty (x ∷ xs) = false

-- the checks of a debug line: its numbers are within the limits, it has no registers before the `=` and no debug instruction number, its operands have the
-- form of its opcode, and they aren't too many
abbrev pub debug_rules : Option ItemKind → ItemForm → List Rule
debug_rules kind line =
    record { broken = line.exceeds; refusal = kinds.BadOperands } ∷
    record { broken = not (is_empty line.definitions); refusal = kinds.BadOperands } ∷
    record { broken = not (is_none line.number); refusal = kinds.BadOperands } ∷
    record { broken = is_none kind; refusal = kinds.BadOperands } ∷
    record { broken = is_long line; refusal = kinds.TooMany } ∷ []

-- an item, or the refusal, which is BadOperands if there is neither
abbrev pub kind_unless : Option RefusalKind → Option ItemKind → Result ItemKind RefusalKind
kind_unless (Some refusal) kind = Err refusal
kind_unless None (Some kind) = Ok kind
kind_unless None None = Err kinds.BadOperands

-- the item of a debug line, or the refusal of the first check that fails
unfoldable pub debug_of : DebugOpcode → Maps → ItemForm → Result ItemKind RefusalKind
debug_of op meta line = kind_unless (refusal_by (debug_rules (debug_kind op meta line) line)) (debug_kind op meta line)
