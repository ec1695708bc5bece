-- Register-immediate operations as register-register operations.
use Rattle.rv64_instr.specs.declared.op.ImmediateOp.{ImmediateOp}
use Rattle.rv64_instr.specs.declared.op.ImmediateOp.TheVariants.{Addi, Slti, Sltiu, Xori, Ori, Andi, Slli, Srli, Srai, Addiw, Slliw, Srliw, Sraiw}
use Rattle.rv64_instr.specs.declared.op.RegisterOp.{RegisterOp}
use Rattle.rv64_instr.specs.declared.op.RegisterOp.TheVariants.{Add, Sll, Slt, Sltu, Xor, Srl, Sra, Or, And, Addw, Sllw, Srlw, Sraw}

-- the register-register operation with the same result
abbrev pub on_registers : ImmediateOp → RegisterOp
on_registers Addi = Add
on_registers Slti = Slt
on_registers Sltiu = Sltu
on_registers Xori = Xor
on_registers Ori = Or
on_registers Andi = And
on_registers Slli = Sll
on_registers Srli = Srl
on_registers Srai = Sra
on_registers Addiw = Addw
on_registers Slliw = Sllw
on_registers Srliw = Srlw
on_registers Sraiw = Sraw
