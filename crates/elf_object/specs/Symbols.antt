-- The bytes of a symbol table and of the table of its names (System V gABI, chapter 4, "Symbol Table").
use Rattle.std.specs.Prelude.{◌≡◌, ℕ, ◌+◌, ◌*◌, ◌^◌, ◌<◌, Bool, true, false, IsTrue, if◌then◌else◌, List, [], ◌∷◌, ◌++◌, length, replicate, All, count_by}
use Rattle.std.specs.List.{flat_map}
use Rattle.std.specs.Int.{w16, w32, w64, to_le_bytes}
use Rattle.elf_object.specs.declared.symbols.Binding.{Binding}
use Rattle.elf_object.specs.declared.symbols.Binding.TheVariants.{Local, Global, Weak}
use Rattle.elf_object.specs.declared.symbols.SymbolType.{SymbolType}
use Rattle.elf_object.specs.declared.symbols.SymbolType.TheVariants.{NoType, Function, Section}
use Rattle.elf_object.specs.declared.symbols.Symbol.{Symbol}
use Rattle.elf_object.specs.Standard.{STB_LOCAL, STB_GLOBAL, STB_WEAK, STT_NOTYPE, STT_FUNC, STT_SECTION, STV_DEFAULT, SYM_SIZE}
use Rattle.elf_object.specs.Spelling.{text}
use Rattle.elf_object.specs.Grammar.{IsName}

-- the number of a binding
abbrev pub binding_number : Binding → ℕ
binding_number Local = STB_LOCAL
binding_number Global = STB_GLOBAL
binding_number Weak = STB_WEAK

-- the number of a symbol's type
abbrev pub type_number : SymbolType → ℕ
type_number NoType = STT_NOTYPE
type_number Function = STT_FUNC
type_number Section = STT_SECTION

-- whether a binding is that of local symbols
abbrev pub is_local : Binding → Bool
is_local Local = true
is_local Global = false
is_local Weak = false

-- no symbol is local
abbrev pub none_local : List Symbol → Bool
none_local [] = true
none_local (s ∷ rest) = if is_local s.binding then false else none_local rest

-- local symbols stand before all others ("Symbol Table", "Symbol Binding")
abbrev pub locals_first : List Symbol → Bool
locals_first [] = true
locals_first (s ∷ rest) = if is_local s.binding then locals_first rest else none_local rest

abbrev pub LocalsFirst : List Symbol → Type 0
LocalsFirst symbols = IsTrue (locals_first symbols)

-- the number of the first symbol that isn't local, where they stand so: sh_info of the section of the symbols ("Section Header"). The
-- null symbol has number 0, and is local
abbrev pub first_global : List Symbol → ℕ
first_global symbols = 1 + count_by (λ s. is_local s.binding) symbols

-- the bytes of a name in the table of names: a name without bytes has none
abbrev pub name_text : List ℕ → List ℕ
name_text [] = []
name_text (byte ∷ name) = text (byte ∷ name)

-- the offset of a name in the table of names, where the names before it end at an offset: 0 for a name without bytes
abbrev pub name_offset : (at : ℕ) → List ℕ → ℕ
name_offset at [] = 0
name_offset at (byte ∷ name) = at

-- the table of the symbols' names: a zero byte, and the names in order
abbrev pub symbol_names : List Symbol → List ℕ
symbol_names symbols = 0 ∷ flat_map (λ s. name_text s.name) symbols

-- a symbol (Elf64_Sym): the offset of its name, its binding and type, its visibility, its section, its value and its size
unfoldable pub symbol : (name : ℕ) → Symbol → List ℕ
symbol name s =
    to_le_bytes w32 name ++ ((16 * binding_number s.binding + type_number s.symbol_type) ∷ STV_DEFAULT ∷ [])
    ++ to_le_bytes w16 s.section ++ to_le_bytes w64 s.value ++ to_le_bytes w64 s.size

-- symbols, where the names before theirs end at an offset
abbrev pub symbols_from : (at : ℕ) → List Symbol → List ℕ
symbols_from at [] = []
symbols_from at (s ∷ rest) = symbol (name_offset at s.name) s ++ symbols_from (at + length (name_text s.name)) rest

-- the symbol table: the null symbol, and the symbols in order
abbrev pub symbol_table : List Symbol → List ℕ
symbol_table symbols = replicate SYM_SIZE 0 ++ symbols_from 1 symbols

-- the fields of a symbol fit, and its name is a string
pub record FitsSymbol (s : Symbol) : Type 0 where
  pub name : IsName s.name
  pub section : s.section < 2 ^ 16
  pub value : s.value < 2 ^ 64
  pub size : s.size < 2 ^ 64

-- the bytes of a symbol table and of the table of its names are those of these symbols
pub record AreSymbols (symbols : List Symbol) (bytes strings : List ℕ) : Type 0 where
  pub table : bytes ≡ symbol_table symbols
  pub names : strings ≡ symbol_names symbols
  pub fits : All FitsSymbol symbols
  pub locals : LocalsFirst symbols
  pub long : length strings < 2 ^ 32
