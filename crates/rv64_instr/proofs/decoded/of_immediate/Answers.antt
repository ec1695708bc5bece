use Rattle.std.proofs.Common.{rules, subst, sym, ◌≡◌, ℕ, List, ◌∷◌, Option, Some, None}
use Rattle.rv64_instr.specs.declared.op.ImmediateOp.{ImmediateOp}
use Rattle.rv64_instr.specs.declared.operand.Operand.{Operand}
use Rattle.rv64_instr.specs.declared.operand.Operand.TheVariants.{Def, Use, Imm}
use Rattle.rv64_instr.specs.declared.decoded.Decoded.{Decoded}
use Rattle.rv64_instr.specs.Arithmetic.{word}
use Rattle.rv64_instr.specs.Row.{immediate_row, number_row}
use Rattle.rv64_instr.specs.Decoded.{Shows}
use Rattle.rv64_instr.proofs.decoded.of_immediate.Goals as goal

-- the registers and the number, where the operands are such
abbrev numbers : List Operand → Option (ℕ × ℕ × ℕ)
numbers (Def rd ∷ Use a ∷ Imm i ∷ rest) = Some (rd, a, word i)
numbers _ = None

by_numbers : (op : ImmediateOp) (os : List Operand) (rd a n : ℕ) (result : Decoded) → numbers os ≡ Some (rd, a, n) →
    Shows result (immediate_row op rd a n) → Shows result (number_row op os)
by_numbers op (Def b ∷ Use c ∷ Imm i ∷ rest) rd a n result e h =
    let same : (b, c, word i) ≡ (rd, a, n) = cc in
    subst (λ (q : ℕ × ℕ × ℕ). Shows result (immediate_row op q.0 q.1 q.2)) (sym same) h
by_numbers op _ rd a n result e h = absurd (let f : ⊥ = cc in f)

pub returns-in-Def : goal.returns-in-Def
returns-in-Def c = by_numbers c.args.op c.args.operands.now _ _ _ c.with_number.result (search rules) c.with_number.ensures
