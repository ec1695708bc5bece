-- The texts of numbers, registers, marks and phis.
use Rattle.std.proofs.Common.{ℕ, ◌+◌, ◌-◌, ◌*◌, ◌<◌, ◌≤◌, Bool, true, false, cond, ltb, List, ◌++◌, Option, Some, None, refl, arith}
use Rattle.std.specs.Prelude.{codes, IfSome}
use Rattle.std.specs.Fmt.{decimal, signed_decimal}
use Rattle.rv64_instr.specs.declared.place.Place.{Place}
use Rattle.rv64_instr.specs.declared.place.Place.TheVariants as place
use Rattle.base_ids.specs.Limits.{MAX_NUMBER}
use Rattle.mir_func.specs.declared.debug_substitution.OperandPair.{OperandPair}
use Rattle.mir_func.specs.declared.variable.MarkValue.{MarkValue}
use Rattle.mir_func.specs.declared.variable.MarkValue.TheVariants.{Nothing, Constant, At, Pair}
use Rattle.mir_func.specs.declared.variable.VarId.{VarId}
use Rattle.mir_func.specs.Parts.{Bytes, IsPart}
use Rattle.read_program.specs.Limited.{ValueIsLimited, PlaceIsLimited, VariableIsLimited}
use Rattle.mir_printer.specs.Spelling.{register_text, phi_place_text, fragment_text, expression_text, pair_expression_text, variable_text, value_mark_text}
use Rattle.mir_printer.specs.Spelling.{pair_mark_text, mark_text, phi_text}
use Rattle.readback_functions.proofs.Texts.{Printed, Shows, printed_both, shows_behind, decimal_shows, signed_shows}

pub number_shows : (n : ℕ) → n ≤ MAX_NUMBER → Shows (decimal n)
number_shows n small = decimal_shows n (omega (arith, small))

pub register_shows : (r : ℕ) → r < 4128 → Shows (register_text r)
register_shows r small = by (ltb r 32) where
  by : (b : Bool) → Shows (cond b (codes "$x" ++ decimal r) (codes "%" ++ decimal (r - 32)))
  by true = shows_behind (codes "$x") (decimal r) refl (decimal_shows r (omega (arith, small)))
  by false = shows_behind (codes "%") (decimal (r - 32)) refl (decimal_shows (r - 32) (omega (arith, small)))

-- a text behind which a bracket closes
pub closed_shows : (text : List ℕ) → Printed text → Shows (text ++ codes ")")
closed_shows text printed = shows_behind text (codes ")") printed (record { printed = refl; ends = λ so_far. refl })

-- ---- expressions

fragment_shows : (b : Bytes) → IsPart b → Shows (fragment_text b)
fragment_shows b is =
    shows_behind (codes "DW_OP_LLVM_fragment, " ++ decimal (8 * b.offset) ++ codes ", ") (decimal (8 * b.length))
    (printed_both (codes "DW_OP_LLVM_fragment, " ++ decimal (8 * b.offset)) (codes ", ")
    (printed_both (codes "DW_OP_LLVM_fragment, ") (decimal (8 * b.offset)) refl (decimal_shows (8 * b.offset) (omega (arith, is.2))).printed) refl)
    (decimal_shows (8 * b.length) (omega (arith, is.1)))

expression_shows : (part : Option Bytes) → IfSome part IsPart → Shows (expression_text part)
expression_shows None is = closed_shows (codes "!DIExpression(") refl
expression_shows (Some b) is =
    closed_shows (codes "!DIExpression(" ++ fragment_text b) (printed_both (codes "!DIExpression(") (fragment_text b) refl (fragment_shows b is).printed)

pair_expression_shows : (part : Option Bytes) → IfSome part IsPart → Shows (pair_expression_text part)
pair_expression_shows None is = closed_shows (codes "!DIExpression(DW_OP_LLVM_arg, 0") refl
pair_expression_shows (Some b) is =
    closed_shows (codes "!DIExpression(DW_OP_LLVM_arg, 0, " ++ fragment_text b)
    (printed_both (codes "!DIExpression(DW_OP_LLVM_arg, 0, ") (fragment_text b) refl (fragment_shows b is).printed)

-- ---- marks

variable_shows : (v : VarId) → VariableIsLimited v → Shows (variable_text v)
variable_shows v is =
    shows_behind (codes ", $noreg, !" ++ decimal v.node ++ codes ", ") (expression_text v.fragment)
    (printed_both (codes ", $noreg, !" ++ decimal v.node) (codes ", ")
    (printed_both (codes ", $noreg, !") (decimal v.node) refl (number_shows v.node is.0).printed) refl)
    (expression_shows v.fragment is.1)

value_shows : (value : List ℕ) (v : VarId) → Printed value → VariableIsLimited v → Shows (value_mark_text value v)
value_shows value v printed is =
    shows_behind (codes "DBG_VALUE " ++ value) (variable_text v) (printed_both (codes "DBG_VALUE ") value refl printed) (variable_shows v is)

pair_shows : (v : VarId) (q : OperandPair) → VariableIsLimited v → q.number ≤ MAX_NUMBER → q.operand ≤ MAX_NUMBER → Shows (pair_mark_text v q)
pair_shows v q is number operand =
    let a = codes "DBG_INSTR_REF !" ++ decimal v.node in
    let b = a ++ codes ", " in
    let c = b ++ pair_expression_text v.fragment in
    let d = c ++ codes ", dbg-instr-ref(" in
    let e = d ++ decimal q.number in
    let f = e ++ codes ", " in
    closed_shows (f ++ decimal q.operand)
    (printed_both f (decimal q.operand)
    (printed_both e (codes ", ")
    (printed_both d (decimal q.number)
    (printed_both c (codes ", dbg-instr-ref(")
    (printed_both b (pair_expression_text v.fragment)
    (printed_both a (codes ", ")
    (printed_both (codes "DBG_INSTR_REF !") (decimal v.node) refl (number_shows v.node is.0).printed) refl)
    (pair_expression_shows v.fragment is.1).printed) refl)
    (number_shows q.number number).printed) refl)
    (number_shows q.operand operand).printed)

pub mark_shows : (v : VarId) (m : MarkValue) → VariableIsLimited v → ValueIsLimited m → Shows (mark_text v m)
mark_shows v Nothing is small = value_shows (codes "$noreg") v refl is
mark_shows v (Constant c) is small = value_shows (signed_decimal c) v (signed_shows c small).printed is
mark_shows v (At r) is small = value_shows (register_text r) v (register_shows r small).printed is
mark_shows v (Pair q) is small = pair_shows v q is small.0 small.1

-- ---- phis

place_printed : (p : Option Place) → PlaceIsLimited p → Printed (phi_place_text p)
place_printed None small = refl
place_printed (Some (place.Register r)) small = (register_shows r small.1).printed
place_printed (Some (place.Slot n)) small = (shows_behind (codes "%stack.") (decimal n) refl (number_shows n small)).printed
place_printed (Some (place.Const c)) small = refl

pub phi_shows : (p : Option Place) (k : ℕ) → PlaceIsLimited p → k ≤ MAX_NUMBER → Shows (phi_text p k)
phi_shows p k place small =
    shows_behind (codes "DBG_PHI " ++ phi_place_text p ++ codes ", ") (decimal k)
    (printed_both (codes "DBG_PHI " ++ phi_place_text p) (codes ", ")
    (printed_both (codes "DBG_PHI ") (phi_place_text p) refl (place_printed p place)) refl)
    (number_shows k small)
