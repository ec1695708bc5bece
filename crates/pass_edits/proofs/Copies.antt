-- What a copy's operands are.
use Rattle.std.proofs.Common.{◌≡◌, ℕ, suc, List, ◌∷◌, All, Some, slice_get, ap, subst}
use Rattle.std.proofs.lemmas.List.Elements.{All-head, All-tail}
use Rattle.rv64_instr.specs.declared.operand.Operand.{Operand}
use Rattle.rv64_instr.specs.declared.operand.Operand.TheVariants.{Def, Use}
use Rattle.rv64_instr.specs.Instruction.{Instruction}
use Rattle.rv64_instr.specs.Row.{Moves, row_of}
use Rattle.mir_func.specs.Sound.{IsNotPointer}
use Rattle.rv64_instr.proofs.Moves.{moves_by}

-- it sets no x2 and reads none, and its first operand is what it sets
pub record IsPlain (i : Instruction) (rd s : ℕ) : Type 0 where
  pub source : s ≡ 2 → ⊥
  pub target : suc rd ≡ 2 → ⊥
  pub first : slice_get i.operands 0 ≡ Some (Def (suc rd))

pub plain_copy : (i : Instruction) (rd s : ℕ) → row_of i ≡ Moves (suc rd) s → All IsNotPointer i.operands → IsPlain i rd s
plain_copy i rd s row h =
    let w = moves_by i (suc rd) s row in
    let all : All IsNotPointer (Def (suc rd) ∷ Use s ∷ w.rest) = subst (All IsNotPointer) w.operands h in
    record {
      source = All-head IsNotPointer (Use s) w.rest (All-tail IsNotPointer (Def (suc rd)) (Use s ∷ w.rest) all);
      target = All-head IsNotPointer (Def (suc rd)) (Use s ∷ w.rest) all;
      first = ap (λ (os : List Operand). slice_get os 0) w.operands;
    }
