-- What the bytes of tables tell of symbols and relocations.
use Rattle.std.specs.Prelude.{ℕ, zero, suc, ◌*◌, ◌/◌, ◌%◌, List, [], ◌∷◌, ◌++◌, take, drop, ◌==◌, if◌then◌else◌}
use Rattle.std.specs.Int.{w16, w32, w64}
use Rattle.elf_object.specs.declared.relocations.Relocation.{Relocation}
use Rattle.elf_object.specs.declared.symbols.Binding.{Binding}
use Rattle.elf_object.specs.declared.symbols.Binding.TheVariants.{Local, Global, Weak}
use Rattle.elf_object.specs.declared.symbols.SymbolType.{SymbolType}
use Rattle.elf_object.specs.declared.symbols.SymbolType.TheVariants.{NoType, Function, Section}
use Rattle.elf_object.specs.declared.symbols.Symbol.{Symbol}
use Rattle.elf_object.specs.Standard.{STB_LOCAL, STB_GLOBAL, STT_NOTYPE, STT_FUNC, SYM_SIZE, RELA_SIZE}
use Rattle.elf_object.specs.Sections.{number_at}
use Rattle.elf_symbols.specs.FirstFault.{string_len, name_in, info_in}

-- the binding, and the type, of a number
abbrev pub binding_of : ℕ → Binding
binding_of number = if number == STB_LOCAL then Local else (if number == STB_GLOBAL then Global else Weak)

abbrev pub type_of : ℕ → SymbolType
type_of number = if number == STT_NOTYPE then NoType else (if number == STT_FUNC then Function else Section)

-- the string at an offset
abbrev pub string_at : (names : List ℕ) (at : ℕ) → List ℕ
string_at names at = take (string_len names at) (drop at names)

-- the symbol at the front
abbrev pub symbol_told : (names bytes : List ℕ) → Symbol
symbol_told names bytes = record {
  name = string_at names (name_in bytes);
  binding = binding_of (info_in bytes / 16);
  symbol_type = type_of (info_in bytes % 16);
  section = number_at w16 6 bytes;
  value = number_at w64 8 bytes;
  size = number_at w64 16 bytes;
}

-- so many symbols after the null one
abbrev pub symbols_told : (names table : List ℕ) (count : ℕ) → List Symbol
symbols_told names table zero = []
symbols_told names table (suc count) = symbols_told names table count ++ symbol_told names (drop (SYM_SIZE * suc count) table) ∷ []

-- the relocation at the front
abbrev pub relocation_told : List ℕ → Relocation
relocation_told bytes = record {
  offset = number_at w64 0 bytes;
  symbol = number_at w32 12 bytes;
  relocation_type = number_at w32 8 bytes;
  addend = number_at w64 16 bytes;
}

-- so many relocations
abbrev pub relocations_told : (table : List ℕ) (count : ℕ) → List Relocation
relocations_told table zero = []
relocations_told table (suc count) = relocations_told table count ++ relocation_told (drop (RELA_SIZE * count) table) ∷ []
