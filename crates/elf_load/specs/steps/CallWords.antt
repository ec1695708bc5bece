-- The words of call sites, and the text with them.
use Rattle.std.specs.Prelude.{ℕ, ◌+◌, ◌-◌, ◌*◌, ◌/◌, ◌%◌, ◌^◌, pos, ◌-ℤ◌, List, [], ◌∷◌, ◌++◌, length, take, drop}
use Rattle.std.specs.Int.{w32, to_le_bytes}
use Rattle.rv64_word.specs.declared.machine_op.MachineOp.{MachineOp}
use Rattle.rv64_word.specs.declared.word_op.WordOp.TheVariants.{Jalr}
use Rattle.rv64_word.specs.MachineOp.{word_of}
use Rattle.elf_object.specs.declared.relocations.Relocation.{Relocation}
use Rattle.elf_load.specs.Load.{target_of}

-- the distance of a target from the least address in reach of a call
abbrev pub distance : (place target : ℕ) → ℕ
distance place target = target + 2 ^ 31 + 2 ^ 11 - place

-- the upper 20 bits of a distance from the call itself
abbrev pub upper_bits : (distance : ℕ) → ℕ
upper_bits distance = (distance / 4096 + 2 ^ 19) % 2 ^ 20

-- AUIPC x1 with these bits
abbrev pub upper_word : (distance : ℕ) → ℕ
upper_word distance = upper_bits distance * 4096 + 0x97

-- JALR x1 with x1 and the lower 12 bits
abbrev pub jump : (distance : ℕ) → MachineOp
jump distance = record { op = Jalr; rd = 1; rs1 = 1; rs2 = 0; imm = pos (distance % 4096) -ℤ pos 2048 }

-- bytes with others in place of those from an offset on
abbrev pub patched : (at : ℕ) (part bytes : List ℕ) → List ℕ
patched at part bytes = (take at bytes ++ part) ++ drop (at + length part) bytes

-- a call site with its two words
abbrev pub call_patched : (at distance : ℕ) → List ℕ → List ℕ
call_patched at d bytes = patched (at + 4) (to_le_bytes w32 (word_of (jump d))) (patched at (to_le_bytes w32 (upper_word d)) bytes)

-- a text with its call sites relocated, in order
abbrev pub relocated : (base : ℕ) (addresses : List ℕ) → List Relocation → List ℕ → List ℕ
relocated base addresses [] bytes = bytes
relocated base addresses (r ∷ rest) bytes =
    relocated base addresses rest (call_patched r.offset (distance (base + r.offset) (target_of addresses r)) bytes)
