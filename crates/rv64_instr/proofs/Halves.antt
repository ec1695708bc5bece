-- The halves of addresses that instructions have: the operand of one stands behind the first operand or the second, and it is added.
use Rattle.std.proofs.Common.{◌≡◌, ◌⊎◌, ℕ, zero, suc, ◌+◌, ◌-◌, ◌/◌, ◌%◌, ◌^◌, ◌<◌, ◌≤◌, ℤ, pos, negsuc, ◌-ℤ◌, Bool, true, false, cond}
use Rattle.std.proofs.Common.{List, [], ◌∷◌, None, refl, sym, ap, ◌∙◌, subst, inl, inr, nat_lt, lt-ltb, le-ltb, le-leb, arith}
use Rattle.std.specs.Prelude.{◌&&◌, IsTrue}
use Rattle.std.specs.Int.{w64, cast_signed, cast_unsigned}
use Rattle.std.specs.List.{list_all}
use Rattle.std.proofs.lemmas.Bool.{cases_lt}
use Rattle.std.proofs.lemmas.Int.{ints}
use Rattle.rv64_instr.specs.declared.op.Op.{Op}
use Rattle.rv64_instr.specs.declared.op.Op.TheVariants.{Registers, Immediate, Lui, Branch, Load, Store, Copy}
use Rattle.rv64_instr.specs.declared.op.Op.TheVariants.{PseudoBr, PseudoCall, PseudoRet, PseudoCallIndirect}
use Rattle.rv64_instr.specs.declared.op.Op.TheVariants.{PseudoTail, PseudoTailIndirect, NoReturnCall, NoReturnCallIndirect}
use Rattle.rv64_instr.specs.declared.op.RegisterOp.{RegisterOp}
use Rattle.rv64_instr.specs.declared.op.RegisterOp.TheVariants.{Add}
use Rattle.rv64_instr.specs.declared.op.ImmediateOp.{ImmediateOp}
use Rattle.rv64_instr.specs.declared.op.ImmediateOp.TheVariants.{Addi}
use Rattle.rv64_instr.specs.declared.operand.Operand.{Operand}
use Rattle.rv64_instr.specs.declared.operand.Operand.TheVariants.{Def, Use, Imm, Slot, Object, Part, Block, Symbol, Mask, ImplicitUse}
use Rattle.rv64_instr.specs.declared.symbol.Half.{Half}
use Rattle.rv64_instr.specs.declared.symbol.Half.TheVariants.{Upper, Lower}
use Rattle.rv64_instr.specs.Arithmetic.{word}
use Rattle.rv64_instr.specs.Form.{has_form, is_argument, is_last_argument, is_call_register, is_implicit, is_result, is_within}
use Rattle.rv64_instr.specs.Form.{is_held_tail_use, is_held_tail_register}
use Rattle.rv64_instr.specs.Linked.{half_immediate}
use Rattle.rv64_instr.specs.Instruction.{Instruction}
use Rattle.rv64_instr.specs.LocationEffects.{part_named}
use Rattle.rv64_instr.specs.Row.{Input, Content, Number, PartOf, Row, Sets, row_of, row_by, move_row, immediate_row, object_row}
use Rattle.rv64_instr.specs.Row.{implicit_uses, held_tail, held_gone}
use Rattle.rv64_instr.specs.steps.Linked.{first_part, early_part}
use Rattle.rv64_instr.proofs.Tails.{last_arguments, held_tail_uses}

right : (a b : Bool) → IsTrue (a && b) → IsTrue b
right true b h = h
right false b h = absurd cc

implicit_none : (rest : List Operand) → IsTrue (list_all is_implicit rest) → None ≡ first_part rest
implicit_none [] h = refl
implicit_none (Part half y ∷ rest) h = absurd cc
implicit_none _ h = refl

argument_none : (rest : List Operand) → IsTrue (list_all is_argument rest) → None ≡ first_part rest
argument_none [] h = refl
argument_none (Part half y ∷ rest) h = absurd cc
argument_none _ h = refl

result_none : (rest : List Operand) → IsTrue (list_all is_result rest) → None ≡ early_part rest
result_none [] h = refl
result_none (x ∷ []) h = refl
result_none (x ∷ Part half y ∷ rest) h = absurd (let second = right (is_result x) false h in cc)
result_none (x ∷ z ∷ []) h = refl
result_none (x ∷ z ∷ Part half y ∷ rest) h =
    absurd (let second = right (is_result x) (is_result z && false) h in let third = right (is_result z) false second in cc)
result_none _ h = refl

tail_none : (first : Operand) (rest : List Operand) → IsTrue (list_all is_held_tail_use rest) → None ≡ early_part (first ∷ rest)
tail_none first [] h = refl
tail_none first (Part half y ∷ rest) h = absurd cc
tail_none first (x ∷ []) h = refl
tail_none first (x ∷ Part half y ∷ rest) h = absurd (let second = right (is_held_tail_use x) false h in cc)
tail_none first _ h = refl

pub held_tail_part : (xs : List ℕ) → part_named (held_tail xs) ≡ None
held_tail_part [] = refl
held_tail_part (x ∷ xs) = refl

pub held_gone_part : (xs : List ℕ) → part_named (held_gone xs) ≡ None
held_gone_part [] = refl
held_gone_part (x ∷ xs) = refl

pub number_part : (op : ImmediateOp) (rd a n : ℕ) → part_named (immediate_row op rd a n) ≡ None
number_part Addi rd zero n = refl
number_part Addi rd (suc a) zero = refl
number_part Addi rd (suc a) (suc n) = refl
number_part _ rd a n = refl

pub object_part : (op : ImmediateOp) (rd n offset : ℕ) → part_named (object_row op rd n offset) ≡ None
object_part Addi rd n offset = refl
object_part _ rd n offset = refl

pub move_part : (rd rs : ℕ) → part_named (move_row rd rs) ≡ None
move_part rd zero = refl
move_part rd (suc rs) = refl

pub named_early : (op : Op) (os : List Operand) → IsTrue (has_form op os) → part_named (row_by op os) ≡ early_part os
named_early (Registers op) (Def rd ∷ Use a ∷ Use b ∷ rest) h = refl
named_early (Immediate op) (Def rd ∷ Use a ∷ Imm i ∷ rest) h = number_part op rd a (word i)
named_early (Immediate op) (Def rd ∷ Object n ∷ Imm i ∷ rest) h = object_part op rd n (word i)
named_early (Immediate op) (Def rd ∷ Use a ∷ Part Lower y ∷ rest) h = refl
named_early Lui (Def rd ∷ Imm i ∷ rest) h = implicit_none rest (right (is_within (pos 0) (pos 1048575) i) (list_all is_implicit rest) h)
named_early Lui (Def rd ∷ Part Upper y ∷ rest) h = refl
named_early (Branch op) (Use a ∷ Use b ∷ Block n ∷ rest) h = refl
named_early (Load op) (Def rd ∷ Use base ∷ Imm i ∷ rest) h = refl
named_early (Load op) (Def rd ∷ Slot n ∷ Imm i ∷ rest) h = refl
named_early (Load op) (Def rd ∷ Object n ∷ Imm i ∷ rest) h = refl
named_early (Load op) (Def rd ∷ Use base ∷ Part Lower y ∷ rest) h = refl
named_early (Store op) (Use rs ∷ Use base ∷ Imm i ∷ rest) h = refl
named_early (Store op) (Use rs ∷ Slot n ∷ Imm i ∷ rest) h = refl
named_early (Store op) (Use rs ∷ Object n ∷ Imm i ∷ rest) h = refl
named_early (Store op) (Use rs ∷ Use base ∷ Part Lower y ∷ rest) h = refl
named_early Copy (Def rd ∷ Use rs ∷ rest) h = copied rd rs rest h where
  copied : (rd rs : ℕ) (rest : List Operand) → IsTrue (list_all is_implicit rest) → part_named (move_row rd rs) ≡ first_part rest
  copied rd zero rest h = implicit_none rest h
  copied rd (suc rs) rest h = implicit_none rest h
named_early PseudoBr (Block n ∷ []) h = refl
named_early PseudoBr (Block n ∷ Part half y ∷ rest) h = absurd cc
named_early PseudoBr (Block n ∷ x ∷ rest) h = implicit_none rest (right (is_implicit x) (list_all is_implicit rest) h)
named_early PseudoCall (Symbol name ∷ Mask ∷ rest) h = argument_none rest h
named_early PseudoRet os h = result_none os h
named_early PseudoCallIndirect (Use r ∷ Mask ∷ rest) h = argument_none rest h
named_early PseudoTail (Symbol name ∷ rest) h = tail_none (Symbol name) rest (held_tail_uses rest h)
named_early PseudoTailIndirect (ImplicitUse r ∷ rest) h =
    held_tail_part (implicit_uses (ImplicitUse r ∷ rest))
    ∙ tail_none (ImplicitUse r) rest (right (is_held_tail_register r) (list_all is_held_tail_use rest) h)
named_early NoReturnCall (Symbol name ∷ Mask ∷ rest) h = argument_none rest (last_arguments rest h)
named_early NoReturnCallIndirect (ImplicitUse r ∷ Mask ∷ rest) h =
    held_gone_part (implicit_uses (ImplicitUse r ∷ Mask ∷ rest))
    ∙ argument_none rest (last_arguments rest (right (is_call_register r) (list_all is_last_argument rest) h))
named_early _ _ h = absurd cc

-- ---- the halves of addresses are added

-- an input that is the upper half of an address is added to 0, and one that is the lower half is added
abbrev pub IsAdded : RegisterOp → (a : ℕ) → Input → Type 0
IsAdded op a (Content r) = Unit {0}
IsAdded op a (Number n) = Unit {0}
IsAdded op a (PartOf Upper y) = (op ≡ Add) × (a ≡ 0)
IsAdded op a (PartOf Lower y) = op ≡ Add

abbrev pub AddsPart : Row → Type 0
AddsPart (Sets rd op a b) = IsAdded op a b
AddsPart _ = Unit {0}

number_adds : (op : ImmediateOp) (rd a n : ℕ) → AddsPart (immediate_row op rd a n)
number_adds Addi rd zero n = tt
number_adds Addi rd (suc a) zero = tt
number_adds Addi rd (suc a) (suc n) = tt
number_adds _ rd a n = tt

object_adds : (op : ImmediateOp) (rd n offset : ℕ) → AddsPart (object_row op rd n offset)
object_adds Addi rd n offset = tt
object_adds _ rd n offset = tt

move_adds : (rd rs : ℕ) → AddsPart (move_row rd rs)
move_adds rd zero = tt
move_adds rd (suc rs) = tt

held_tail_adds : (xs : List ℕ) → AddsPart (held_tail xs)
held_tail_adds [] = tt
held_tail_adds (x ∷ xs) = tt

held_gone_adds : (xs : List ℕ) → AddsPart (held_gone xs)
held_gone_adds [] = tt
held_gone_adds (x ∷ xs) = tt

adds_by : (op : Op) (os : List Operand) → AddsPart (row_by op os)
adds_by (Registers op) (Def rd ∷ Use a ∷ Use b ∷ rest) = tt
adds_by (Immediate op) (Def rd ∷ Use a ∷ Imm i ∷ rest) = number_adds op rd a (word i)
adds_by (Immediate op) (Def rd ∷ Object n ∷ Imm i ∷ rest) = object_adds op rd n (word i)
adds_by (Immediate op) (Def rd ∷ Use a ∷ Part half y ∷ rest) = refl
adds_by Lui (Def rd ∷ Imm i ∷ rest) = tt
adds_by Lui (Def rd ∷ Part half y ∷ rest) = (refl, refl)
adds_by (Branch op) (Use a ∷ Use b ∷ Block n ∷ rest) = tt
adds_by (Load op) (Def rd ∷ Use base ∷ Imm i ∷ rest) = tt
adds_by (Load op) (Def rd ∷ Slot n ∷ rest) = tt
adds_by (Load op) (Def rd ∷ Object n ∷ Imm i ∷ rest) = tt
adds_by (Load op) (Def rd ∷ Use base ∷ Part half y ∷ rest) = tt
adds_by (Store op) (Use rs ∷ Use base ∷ Imm i ∷ rest) = tt
adds_by (Store op) (Use rs ∷ Slot n ∷ rest) = tt
adds_by (Store op) (Use rs ∷ Object n ∷ Imm i ∷ rest) = tt
adds_by (Store op) (Use rs ∷ Use base ∷ Part half y ∷ rest) = tt
adds_by Copy (Def rd ∷ Use rs ∷ rest) = move_adds rd rs
adds_by PseudoBr (Block n ∷ rest) = tt
adds_by PseudoCall (Symbol name ∷ rest) = tt
adds_by PseudoRet os = tt
adds_by PseudoCallIndirect (Use r ∷ rest) = tt
adds_by PseudoTail (Symbol name ∷ rest) = tt
adds_by PseudoTailIndirect os = held_tail_adds (implicit_uses os)
adds_by NoReturnCall (Symbol name ∷ rest) = tt
adds_by NoReturnCallIndirect os = held_gone_adds (implicit_uses os)
adds_by _ _ = tt

pub adds_part : (i : Instruction) → AddsPart (row_of i)
adds_part i = adds_by i.op i.operands

-- ---- immediates

both : (a b : Bool) → a ≡ true → b ≡ true → (a && b) ≡ true
both true b e f = f
both false b e f = absurd cc

carry : (v : ℕ) → (v / 4096 + v / 2048 % 2) % 2 ^ 20 ≡ (v + 2048) / 4096 % 2 ^ 20
carry v = let e : v / 4096 + v / 2048 % 2 ≡ (v + 2048) / 4096 = omega arith in ap (λ (n : ℕ). n % 2 ^ 20) e

pub upper_is : (v : ℕ) → pos ((v / 4096 + v / 2048 % 2) % 2 ^ 20) ≡ half_immediate Upper v
unfolding half_immediate
upper_is v = ap pos (carry v)

pub below_zero : (m n : ℕ) → m + suc n ≡ 4096 → pos m -ℤ pos 4096 ≡ negsuc n
below_zero m n e = omega (arith, ints)

pub lower_by : (P : ℤ → Type 0) (m : ℕ) → (m < 2048 → P (pos m)) → (2048 ≤ m → P (pos m -ℤ pos 4096)) →
    P (cond (nat_lt m 2048) (pos m) (pos m -ℤ pos 4096))
lower_by P m low high = by_size (cases_lt m 2048) where
  by_size : (m < 2048) ⊎ (2048 ≤ m) → P (cond (nat_lt m 2048) (pos m) (pos m -ℤ pos 4096))
  by_size (inl lt) = subst (λ (b : Bool). P (cond b (pos m) (pos m -ℤ pos 4096))) (sym (lt-ltb m 2048 lt)) (low lt)
  by_size (inr le) = subst (λ (b : Bool). P (cond b (pos m) (pos m -ℤ pos 4096))) (sym (le-ltb m 2048 le)) (high le)

-- the immediate of a half is in the range of its word's field
pub half_within : (half : Half) (v : ℕ) → IsTrue (is_within (negsuc 2047) (pos 1048575) (half_immediate half v))
unfolding half_immediate
half_within Upper v = le-leb ((v + 2048) / 4096 % 2 ^ 20) 1048575 (omega arith)
half_within Lower v =
    lower_by (λ (z : ℤ). IsTrue (is_within (negsuc 2047) (pos 1048575) z)) (v % 4096) (λ lt. le-leb (v % 4096) 1048575 (omega (arith, lt)))
    (λ le. ap (is_within (negsuc 2047) (pos 1048575)) (below_zero (v % 4096) (4095 - v % 4096) (omega arith))
    ∙ both _ _ (le-leb (4095 - v % 4096) 2047 (omega (arith, le))) refl)

-- and it has 64 bits
pub half_fits : (half : Half) (v : ℕ) → cast_signed w64 (cast_unsigned w64 (half_immediate half v)) ≡ half_immediate half v
unfolding half_immediate
half_fits Upper v = let small : (v + 2048) / 4096 % 2 ^ 20 < 2 ^ 20 = omega arith in omega (arith, ints, small)
half_fits Lower v =
    lower_by (λ (z : ℤ). cast_signed w64 (cast_unsigned w64 z) ≡ z) (v % 4096) (λ lt. omega (arith, ints, lt)) (λ le. omega (arith, ints, le))
