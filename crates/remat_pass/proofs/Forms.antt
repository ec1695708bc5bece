-- Constant definitions have the form of their opcode.
use Rattle.std.proofs.Common.{◌≡◌, ℕ, Bool, true, false, ◌&&◌, cond, List, [], ◌∷◌, filter, refl, sym, ap, ◌∙◌}
use Rattle.std.specs.Prelude.{ℤ, pos}
use Rattle.std.specs.List.{list_all}
use Rattle.rv64_instr.specs.declared.op.ImmediateOp.TheVariants.{Addi}
use Rattle.rv64_instr.specs.declared.op.Op.TheVariants.{Immediate, Lui}
use Rattle.rv64_instr.specs.declared.operand.Operand.{Operand}
use Rattle.rv64_instr.specs.declared.operand.Operand.TheVariants.{Def, Use, Imm}
use Rattle.rv64_instr.specs.Form.{has_form, has_12_bits, is_within, is_implicit}

kept_by : (x : Operand) (xs : List Operand) (t : Bool) → is_implicit x ≡ t → list_all is_implicit (filter is_implicit xs) ≡ true →
    list_all is_implicit (cond t (x ∷ filter is_implicit xs) (filter is_implicit xs)) ≡ true
kept_by x xs true e h = ap (λ (b : Bool). b && list_all is_implicit (filter is_implicit xs)) e ∙ h
kept_by x xs false e h = h

pub all_implicit : (xs : List Operand) → list_all is_implicit (filter is_implicit xs) ≡ true
all_implicit [] = refl
all_implicit (x ∷ xs) = kept_by x xs (is_implicit x) refl (all_implicit xs)

pub add_form : (rd : ℕ) (n : ℤ) (operands list : List Operand) → list ≡ Def rd ∷ Use 0 ∷ Imm n ∷ filter is_implicit operands → has_12_bits n ≡ true →
    has_form (Immediate Addi) list ≡ false → ⊥
add_form rd n operands list e bits h =
    let t : true ≡ false = sym (ap (λ (b : Bool). b && list_all is_implicit (filter is_implicit operands)) bits ∙ all_implicit operands)
    ∙ (sym (ap (has_form (Immediate Addi)) e) ∙ h) in cc

pub upper_form : (rd : ℕ) (n : ℤ) (operands list : List Operand) → list ≡ Def rd ∷ Imm n ∷ filter is_implicit operands →
    is_within (pos 0) (pos 1048575) n ≡ true → has_form Lui list ≡ false → ⊥
upper_form rd n operands list e bits h =
    let t : true ≡ false = sym (ap (λ (b : Bool). b && list_all is_implicit (filter is_implicit operands)) bits ∙ all_implicit operands)
    ∙ (sym (ap (has_form Lui) e) ∙ h) in cc
