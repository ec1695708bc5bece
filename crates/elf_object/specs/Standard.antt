-- The numbers of ELF object files (System V gABI, chapters 4 "Object Files", "Sections", "String Table", "Symbol Table" and
-- "Relocation") and of the RISC-V ELF psABI, under their names there.
use Rattle.std.specs.Prelude.{ℕ, List, [], ◌∷◌}

-- the magic number: the bytes EI_MAG0 to EI_MAG3 of e_ident ("ELF Identification")
abbrev pub ELFMAG : List ℕ
ELFMAG = 0x7f ∷ 0x45 ∷ 0x4c ∷ 0x46 ∷ []

-- the class of files with 64-bit addresses
abbrev pub ELFCLASS64 : ℕ
ELFCLASS64 = 2

-- little-endian numbers
abbrev pub ELFDATA2LSB : ℕ
ELFDATA2LSB = 1

-- the version of the format
abbrev pub EV_CURRENT : ℕ
EV_CURRENT = 1

-- no extension by an operating system
abbrev pub ELFOSABI_NONE : ℕ
ELFOSABI_NONE = 0

-- a relocatable file
abbrev pub ET_REL : ℕ
ET_REL = 1

-- RISC-V
abbrev pub EM_RISCV : ℕ
EM_RISCV = 243

-- a section with the program's own content
abbrev pub SHT_PROGBITS : ℕ
SHT_PROGBITS = 1

-- a symbol table
abbrev pub SHT_SYMTAB : ℕ
SHT_SYMTAB = 2

-- a string table
abbrev pub SHT_STRTAB : ℕ
SHT_STRTAB = 3

-- relocations with addends
abbrev pub SHT_RELA : ℕ
SHT_RELA = 4

-- the section takes memory when the program runs
abbrev pub SHF_ALLOC : ℕ
SHF_ALLOC = 2

-- the section has instructions
abbrev pub SHF_EXECINSTR : ℕ
SHF_EXECINSTR = 4

-- the field sh_info is a section's index
abbrev pub SHF_INFO_LINK : ℕ
SHF_INFO_LINK = 0x40

-- the section index of an undefined symbol
abbrev pub SHN_UNDEF : ℕ
SHN_UNDEF = 0

-- the first reserved section index: a file whose header counts its sections has fewer
abbrev pub SHN_LORESERVE : ℕ
SHN_LORESERVE = 0xff00

-- the bindings of a symbol: local to its file, global, and global but overridden by a global one
abbrev pub STB_LOCAL : ℕ
STB_LOCAL = 0

abbrev pub STB_GLOBAL : ℕ
STB_GLOBAL = 1

abbrev pub STB_WEAK : ℕ
STB_WEAK = 2

-- the types of a symbol: unspecified, a function, a section
abbrev pub STT_NOTYPE : ℕ
STT_NOTYPE = 0

abbrev pub STT_FUNC : ℕ
STT_FUNC = 2

abbrev pub STT_SECTION : ℕ
STT_SECTION = 3

-- the symbol's visibility is that of its binding
abbrev pub STV_DEFAULT : ℕ
STV_DEFAULT = 0

-- relocations by the symbol's address and the addend, in 32 and 64 bits, and of a call by AUIPC and JALR (psABI, "Relocations")
abbrev pub R_RISCV_32 : ℕ
R_RISCV_32 = 1

abbrev pub R_RISCV_64 : ℕ
R_RISCV_64 = 2

abbrev pub R_RISCV_CALL_PLT : ℕ
R_RISCV_CALL_PLT = 19

-- the flag in e_flags of code that passes floating-point arguments in double-precision registers (psABI, "File Header")
abbrev pub EF_RISCV_FLOAT_ABI_DOUBLE : ℕ
EF_RISCV_FLOAT_ABI_DOUBLE = 4

-- the bytes of the ELF header (Elf64_Ehdr), of a section header (Elf64_Shdr), of a symbol (Elf64_Sym) and of a relocation (Elf64_Rela)
abbrev pub EHDR_SIZE : ℕ
EHDR_SIZE = 64

abbrev pub SHDR_SIZE : ℕ
SHDR_SIZE = 64

abbrev pub SYM_SIZE : ℕ
SYM_SIZE = 24

abbrev pub RELA_SIZE : ℕ
RELA_SIZE = 24
