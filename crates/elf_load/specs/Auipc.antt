-- AUIPC, which only relocated calls have (RISC-V Unprivileged ISA, RV32I, "Integer Computational Instructions", and RV64I).
use Rattle.std.specs.Prelude.{ℕ, ◌+◌, ◌-◌, ◌*◌, ◌%◌, ◌^◌, List, Option, Some, None, if◌then◌else◌, ◌==◌}
use Rattle.rv64_instr.specs.Arithmetic.{extend32}
use Rattle.rv64_word.specs.declared.format.EncodingField.TheVariants.{Opcode, Rd, Imm}
use Rattle.rv64_word.specs.declared.format.Format.TheVariants.{Upper}
use Rattle.rv64_word.specs.Format.{slices_of, shown}
use Rattle.rv64_word.specs.Decoded.{decoded}
use Rattle.sem_machine.specs.Image.{word_at}
use Rattle.sem_machine.specs.Machine.{Machine}
use Rattle.sem_machine.specs.MachineStep.{Stepped, Continues, BadWord, past, set_register, does_operation}

-- its opcode ("RV32/64G Instruction Set Listings")
abbrev pub AUIPC : ℕ
AUIPC = 0x17

-- the state after it: rd has the word's own address plus its 20 bits times 4,096, sign-extended from 32 bits, modulo 2^64
abbrev pub added_upper : (word : ℕ) → Machine → Machine
added_upper w s =
    past 4 (set_register (shown (slices_of Upper) Rd w) ((s.counter + extend32 (shown (slices_of Upper) Imm w * 4096)) % 2 ^ 64) s)

-- the step of a word at the counter: that of AUIPC, or of an operation that the machine has
abbrev pub runs_word : Option ℕ → Machine → Stepped
runs_word None s = BadWord
runs_word (Some w) s = if shown (slices_of Upper) Opcode w == AUIPC then Continues (added_upper w s) else does_operation (decoded w) s

-- one step, where bytes lie in memory from an address on
abbrev pub step_in : (bytes : List ℕ) (base : ℕ) → Machine → Stepped
step_in bytes base s = runs_word (word_at bytes (s.counter - base)) s
