-- How many bytes the lines of code have: by the instruction as it is listed as many as by its form.
use Rattle.std.proofs.Common.{◌≡◌, ℕ, zero, suc, ◌+◌, Bool, true, false, cond, List, ◌∷◌, Option, refl, ap, sym, ◌∙◌, []}
use Rattle.std.specs.List.{list_all}
use Rattle.rv64_instr.specs.declared.op.Op.{Op}
use Rattle.rv64_instr.specs.declared.op.Op.TheVariants.{Registers, Immediate, Lui, Branch, Load, Store, Copy}
use Rattle.rv64_instr.specs.declared.op.Op.TheVariants.{PseudoBr, PseudoCall, PseudoRet, PseudoCallIndirect}
use Rattle.rv64_instr.specs.declared.op.Op.TheVariants.{PseudoTail, PseudoTailIndirect, NoReturnCall, NoReturnCallIndirect}
use Rattle.rv64_instr.specs.declared.op.RegisterOp.{RegisterOp}
use Rattle.rv64_instr.specs.declared.op.ImmediateOp.{ImmediateOp}
use Rattle.rv64_instr.specs.declared.op.ImmediateOp.TheVariants.{Addi, Slti}
use Rattle.rv64_instr.specs.declared.op.BranchOp.{BranchOp}
use Rattle.rv64_instr.specs.declared.op.LoadOp.{LoadOp}
use Rattle.rv64_instr.specs.declared.op.StoreOp.{StoreOp}
use Rattle.rv64_instr.specs.declared.operand.Operand.{Operand}
use Rattle.rv64_instr.specs.declared.operand.Operand.TheVariants.{Def, Use, Imm, Slot, Object, Block, Symbol, Mask, ImplicitUse, GlobalRegisters}
use Rattle.rv64_instr.specs.Arithmetic.{word}
use Rattle.rv64_instr.specs.Form.{has_form, fits_call, fits_gone, fits_tail, is_tail_use}
use Rattle.rv64_instr.specs.Row.{Row, Branches}
use Rattle.rv64_instr.specs.Row.{move_row, add_row, immediate_row, object_row, registers_row, number_row, upper_row, branch_row, load_row, store_row}
use Rattle.rv64_instr.specs.Row.{copy_row, jump_row, row_by, row_of, Calls, Returns, implicit_uses}
use Rattle.rv64_instr.specs.Row.{held_tail, held_gone, held_call_row, tail_row, held_tail_row, held_gone_row}
use Rattle.rv64_instr.specs.Instruction.{Instruction}
use Rattle.rv64_instr.specs.LocationEffects.{has_site}
use Rattle.mir_func.specs.declared.item.ItemKind.TheVariants.{Code}
use Rattle.mir_func.specs.Function.{FramedFunction}
use Rattle.emit_code.specs.Listed.{by_pointer, listed}
use Rattle.emit_code.specs.Rule.{Form, Nothing, OneWord, CallSite, LongBranch, row_form}
use Rattle.listing_meaning.specs.Program.{past_item}

adds_no_call : (rd a n : ℕ) → has_site (add_row rd a n) ≡ false
adds_no_call rd zero n = refl
adds_no_call rd (suc a) zero = refl
adds_no_call rd (suc a) (suc n) = refl

number_no_call : (op : ImmediateOp) (rd a n : ℕ) → has_site (immediate_row op rd a n) ≡ false
number_no_call Addi rd a n = adds_no_call rd a n
number_no_call Slti rd a n = refl
number_no_call op rd a n = refl

object_no_call : (op : ImmediateOp) (rd n offset : ℕ) → has_site (object_row op rd n offset) ≡ false
object_no_call Addi rd n offset = refl
object_no_call Slti rd n offset = refl
object_no_call op rd n offset = refl

registers_no_call : (op : RegisterOp) (os : List Operand) → has_site (registers_row op os) ≡ false
registers_no_call op (Def rd ∷ Use a ∷ Use b ∷ rest) = refl
registers_no_call op os = refl

immediate_no_call : (op : ImmediateOp) (os : List Operand) → has_site (number_row op os) ≡ false
immediate_no_call op (Def rd ∷ Use a ∷ Imm i ∷ rest) = number_no_call op rd a (word i)
immediate_no_call op (Def rd ∷ Object n ∷ Imm i ∷ rest) = object_no_call op rd n (word i)
immediate_no_call op os = refl

upper_no_call : (os : List Operand) → has_site (upper_row os) ≡ false
upper_no_call (Def rd ∷ Imm i ∷ rest) = refl
upper_no_call os = refl

branch_no_call : (op : BranchOp) (os : List Operand) → has_site (branch_row op os) ≡ false
branch_no_call op (Use a ∷ Use b ∷ Block n ∷ rest) = refl
branch_no_call op os = refl

load_no_call : (op : LoadOp) (os : List Operand) → has_site (load_row op os) ≡ false
load_no_call op (Def rd ∷ Use a ∷ Imm i ∷ rest) = refl
load_no_call op (Def rd ∷ Slot n ∷ rest) = refl
load_no_call op (Def rd ∷ Object n ∷ Imm i ∷ rest) = refl
load_no_call op os = refl

store_no_call : (op : StoreOp) (os : List Operand) → has_site (store_row op os) ≡ false
store_no_call op (Use a ∷ Use b ∷ Imm i ∷ rest) = refl
store_no_call op (Use a ∷ Slot n ∷ rest) = refl
store_no_call op (Use a ∷ Object n ∷ Imm i ∷ rest) = refl
store_no_call op os = refl

moves_no_call : (rd rs : ℕ) → has_site (move_row rd rs) ≡ false
moves_no_call rd zero = refl
moves_no_call rd (suc r) = refl

copy_no_call : (os : List Operand) → has_site (copy_row os) ≡ false
copy_no_call (Def rd ∷ Use a ∷ rest) = moves_no_call rd a
copy_no_call os = refl

jump_no_call : (os : List Operand) → has_site (jump_row os) ≡ false
jump_no_call (Block n ∷ rest) = refl
jump_no_call os = refl

abbrev pub is_call_form : Form → Bool
is_call_form CallSite = true
is_call_form Nothing = false
is_call_form OneWord = false
is_call_form (LongBranch n) = false

site_form : (b : Bool) → is_call_form (cond b CallSite OneWord) ≡ b
site_form true = refl
site_form false = refl

row_calls : (far : Bool) (r : Row) → is_call_form (row_form far r) ≡ has_site r
row_calls true (Branches op a b target) = refl
row_calls false (Branches op a b target) = refl
row_calls far (Calls call) = site_form (has_site (Calls call))
row_calls far (Returns ending) = site_form (has_site (Returns ending))
row_calls far _ = refl

held_call_no_site : (os : List Operand) → has_site (held_call_row os) ≡ false
held_call_no_site (Use r ∷ rest) = refl
held_call_no_site _ = refl

held_tail_no_site : (os : List Operand) → has_site (held_tail_row os) ≡ false
held_tail_no_site os = by_uses (implicit_uses os) where
  by_uses : (xs : List ℕ) → has_site (held_tail xs) ≡ false
  by_uses [] = refl
  by_uses (r ∷ xs) = refl

held_gone_no_site : (os : List Operand) → has_site (held_gone_row os) ≡ false
held_gone_no_site os = by_uses (implicit_uses os) where
  by_uses : (xs : List ℕ) → has_site (held_gone xs) ≡ false
  by_uses [] = refl
  by_uses (r ∷ xs) = refl

-- what never calls doesn't so with other operands either
both_no_call : (far : Bool) (op : Op) (os ps : List Operand) → ((qs : List Operand) → has_site (row_by op qs) ≡ false) →
    has_site (row_by op ps) ≡ is_call_form (row_form far (row_by op os))
both_no_call far op os ps never = never ps ∙ sym (row_calls far (row_by op os) ∙ never os)

call_form : (f : FramedFunction) (far : Bool) (os : List Operand) → fits_call os ≡ true →
    has_site (row_by PseudoCall (by_pointer f os)) ≡ is_call_form (row_form far (row_by PseudoCall os))
call_form f far (Symbol name ∷ Mask ∷ rest) form = refl
call_form f far os form = absurd cc

behind_tail : (f : FramedFunction) (x : Operand) (os : List Operand) → list_all is_tail_use os ≡ true → by_pointer f (x ∷ os) ≡ x ∷ os
behind_tail f x [] all = refl
behind_tail f x (ImplicitUse r ∷ os) all = refl
behind_tail f x (GlobalRegisters ∷ os) all = refl
behind_tail f x (o ∷ os) all = absurd cc

tail_form : (f : FramedFunction) (far : Bool) (os : List Operand) → fits_tail os ≡ true →
    has_site (row_by PseudoTail (by_pointer f os)) ≡ is_call_form (row_form far (row_by PseudoTail os))
tail_form f far (Symbol name ∷ rest) form = ap (λ (os : List Operand). has_site (tail_row os)) (behind_tail f (Symbol name) rest form)
tail_form f far os form = absurd cc

gone_form : (f : FramedFunction) (far : Bool) (os : List Operand) → fits_gone os ≡ true →
    has_site (row_by NoReturnCall (by_pointer f os)) ≡ is_call_form (row_form far (row_by NoReturnCall os))
gone_form f far (Symbol name ∷ Mask ∷ rest) form = refl
gone_form f far os form = absurd cc

calls_alike : (f : FramedFunction) (far : Bool) (op : Op) (os : List Operand) → has_form op os ≡ true →
    has_site (row_by op (by_pointer f os)) ≡ is_call_form (row_form far (row_by op os))
calls_alike f far (Registers op) os form = both_no_call far (Registers op) os (by_pointer f os) (registers_no_call op)
calls_alike f far (Immediate op) os form = both_no_call far (Immediate op) os (by_pointer f os) (immediate_no_call op)
calls_alike f far Lui os form = both_no_call far Lui os (by_pointer f os) upper_no_call
calls_alike f far (Branch op) os form = both_no_call far (Branch op) os (by_pointer f os) (branch_no_call op)
calls_alike f far (Load op) os form = both_no_call far (Load op) os (by_pointer f os) (load_no_call op)
calls_alike f far (Store op) os form = both_no_call far (Store op) os (by_pointer f os) (store_no_call op)
calls_alike f far Copy os form = both_no_call far Copy os (by_pointer f os) copy_no_call
calls_alike f far PseudoBr os form = both_no_call far PseudoBr os (by_pointer f os) jump_no_call
calls_alike f far PseudoCall os form = call_form f far os form
calls_alike f far PseudoRet os form = both_no_call far PseudoRet os (by_pointer f os) (λ qs. refl)
calls_alike f far PseudoCallIndirect os form = both_no_call far PseudoCallIndirect os (by_pointer f os) held_call_no_site
calls_alike f far PseudoTail os form = tail_form f far os form
calls_alike f far PseudoTailIndirect os form = both_no_call far PseudoTailIndirect os (by_pointer f os) held_tail_no_site
calls_alike f far NoReturnCall os form = gone_form f far os form
calls_alike f far NoReturnCallIndirect os form = both_no_call far NoReturnCallIndirect os (by_pointer f os) held_gone_no_site

-- the address after code that has one line
pub past_word : (f : FramedFunction) (a : ℕ) (c : Instruction) (k : Option ℕ) → has_site (row_of (listed f c)) ≡ false → past_item a (Code
    (listed f c) k) ≡ a + 4
past_word f a c k is = ap (λ (q : Bool). a + cond q 8 4) is

pub past_call : (f : FramedFunction) (a : ℕ) (c : Instruction) (k : Option ℕ) → has_site (row_of (listed f c)) ≡ true →
    past_item a (Code (listed f c) k) ≡ a + 8
past_call f a c k is = ap (λ (q : Bool). a + cond q 8 4) is

-- code calls as it is listed exactly where its form is a call site
pub calls_listed : (f : FramedFunction) (far : Bool) (c : Instruction) → has_form c.op c.operands ≡ true →
    has_site (row_of (listed f c)) ≡ is_call_form (row_form far (row_of c))
calls_listed f far c form = calls_alike f far c.op c.operands form
