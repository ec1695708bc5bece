-- The fields of debugging information that a linker fills (RISC-V ELF psABI, "Relocations": R_RISCV_32 and R_RISCV_64): each has zeros before.
use Rattle.std.specs.Prelude.{ℕ, replicate}
use Rattle.elf_relocation.specs.declared.kind.RelocationKind.TheVariants.{Address32, Address64}
use Rattle.elf_content.specs.declared.piece.Piece.{Piece}
use Rattle.elf_content.specs.declared.piece.Piece.TheVariants.{Relocated}

-- an address in the section of the symbol of a number
abbrev pub address_field : (symbol address : ℕ) → Piece
address_field s a = Relocated (record { kind = Address64; symbol = s; addend = a; before = replicate 8 0 })

-- an offset in such a section, in 32-bit DWARF (DWARF 5 section 7.4)
abbrev pub offset_field : (symbol offset : ℕ) → Piece
offset_field s o = Relocated (record { kind = Address32; symbol = s; addend = o; before = replicate 4 0 })
