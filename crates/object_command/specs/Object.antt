-- The relocatable object of an output (System V gABI, chapter 4, and RISC-V ELF psABI): its sections, a symbol for each function and
-- each other function that is called, and a relocation at each call site.
use Rattle.std.specs.Prelude.{◌≢◌, ℕ, ◌+◌, ◌-◌, ◌^◌, ◌≤◌, Bool, List, [], ◌∷◌, ◌++◌, length, map, codes, All}
use Rattle.std.specs.List.{position_or_len}
use Rattle.rv64_instr.specs.declared.operand.Operand.{Operand}
use Rattle.rv64_instr.specs.declared.operand.Operand.TheVariants.{Part}
use Rattle.mir_func.specs.declared.item.ItemKind.{ItemKind}
use Rattle.mir_func.specs.declared.item.ItemKind.TheVariants.{Code, Mark, Phi}
use Rattle.listing_text.specs.declared.output.Line.{Line}
use Rattle.listing_text.specs.declared.output.Line.TheVariants.{Item as OfItem, Skip}
use Rattle.listing_text.specs.declared.output.ListedFunction.{ListedFunction}
use Rattle.listing_text.specs.declared.output.Output.{Output}
use Rattle.dwarf_line_table.specs.Files.{is_name, first_uses}
use Rattle.elf_object.specs.declared.object.Section.{Section}
use Rattle.elf_object.specs.declared.object.Object.{Object}
use Rattle.elf_object.specs.declared.symbols.Symbol.{Symbol}
use Rattle.elf_object.specs.declared.symbols.Binding.TheVariants.{Global}
use Rattle.elf_object.specs.declared.symbols.SymbolType.TheVariants.{NoType, Function}
use Rattle.elf_object.specs.declared.relocations.Relocation.{Relocation}
use Rattle.elf_object.specs.Standard.{SHT_PROGBITS, SHT_RELA, SHT_SYMTAB, SHT_STRTAB, SHF_ALLOC, SHF_EXECINSTR, SHF_INFO_LINK, SHN_UNDEF, R_RISCV_CALL_PLT}
use Rattle.elf_object.specs.Standard.{SYM_SIZE, RELA_SIZE}
use Rattle.elf_object.specs.Spelling.{spelling}
use Rattle.elf_object.specs.Grammar.{IsName, IsObject}
use Rattle.elf_object.specs.Symbols.{symbol_table, symbol_names}
use Rattle.elf_object.specs.Relocations.{relocation_table}
use Rattle.object_command.specs.declared.calls.CallSite.{CallSite}
use Rattle.object_command.specs.Calls.{call_sites}

-- ---- symbols

-- the index of `.text`
abbrev pub TEXT : ℕ
TEXT = 1

-- the symbol of a function: its address in `.text`, and its size
abbrev pub defined_symbol : ListedFunction → Symbol
defined_symbol f = record { name = f.name; binding = Global; symbol_type = Function; section = TEXT; value = f.low; size = f.high - f.low }

-- the symbol of a called function that the object doesn't define
abbrev pub undefined_symbol : CallSite → Symbol
undefined_symbol c = record { name = c.name; binding = Global; symbol_type = NoType; section = SHN_UNDEF; value = 0; size = 0 }

-- two symbols have one name
abbrev pub have_one_name : Symbol → Symbol → Bool
have_one_name s t = is_name s.name t.name

-- The symbols, one of each name: of the functions, the first of its name; and then of the called functions that aren't among them, in
-- the order of their first call sites.
abbrev pub symbols_of : List ListedFunction → List Symbol
symbols_of functions = first_uses have_one_name [] (map defined_symbol functions ++ map undefined_symbol (call_sites functions))

-- ---- relocations

-- the relocation of a call site: its two words, AUIPC and JALR, are to call the function of its name. Symbols count from 1
abbrev pub relocation_of : List Symbol → CallSite → Relocation
relocation_of symbols c = record {
  offset = c.address;
  symbol = 1 + position_or_len (have_one_name (undefined_symbol c)) symbols;
  relocation_type = R_RISCV_CALL_PLT;
  addend = 0;
}

-- a relocation for each call site
abbrev pub relocations_of : List ListedFunction → List Relocation
relocations_of functions = map (relocation_of (symbols_of functions)) (call_sites functions)

-- ---- sections

-- a section of debugging information
abbrev pub debug_section : (name bytes : List ℕ) → Section
debug_section name bytes = record {
  name = name;
  section_type = SHT_PROGBITS;
  flags = 0;
  link = 0;
  info = 0;
  alignment = 1;
  entry_size = 0;
  bytes = bytes;
}

-- machine code
abbrev pub text_section : List ℕ → Section
text_section bytes = record {
  name = codes ".text";
  section_type = SHT_PROGBITS;
  flags = SHF_ALLOC + SHF_EXECINSTR;
  link = 0;
  info = 0;
  alignment = 4;
  entry_size = 0;
  bytes = bytes;
}

-- the relocations of `.text`, by the symbol table with index 7
abbrev pub relocation_section : List Relocation → Section
relocation_section relocations = record {
  name = codes ".rela.text";
  section_type = SHT_RELA;
  flags = SHF_INFO_LINK;
  link = 7;
  info = TEXT;
  alignment = 8;
  entry_size = RELA_SIZE;
  bytes = relocation_table relocations;
}

-- the symbols, whose names are in the section with index 8. The first that isn't local has number 1
abbrev pub symbol_section : List Symbol → Section
symbol_section symbols = record {
  name = codes ".symtab";
  section_type = SHT_SYMTAB;
  flags = 0;
  link = 8;
  info = 1;
  alignment = 8;
  entry_size = SYM_SIZE;
  bytes = symbol_table symbols;
}

-- the symbols' names
abbrev pub name_section : List Symbol → Section
name_section symbols = record {
  name = codes ".strtab";
  section_type = SHT_STRTAB;
  flags = 0;
  link = 0;
  info = 0;
  alignment = 1;
  entry_size = 0;
  bytes = symbol_names symbols;
}

-- The object of an output. Its debug sections aren't relocated: they count addresses from the beginning of `.text`.
abbrev pub object_of : Output → Object
object_of o = record {
  flags = 0;
  sections =
      text_section o.text ∷ relocation_section (relocations_of o.functions) ∷ debug_section (codes ".debug_abbrev") o.abbreviations
      ∷ debug_section (codes ".debug_info") o.info ∷ debug_section (codes ".debug_line") o.rows
      ∷ debug_section (codes ".debug_loclists") o.loclists ∷ symbol_section (symbols_of o.functions) ∷ name_section (symbols_of o.functions)
      ∷ [];
}

-- ---- the object of an output, and outputs without one

-- a symbol's name isn't empty, and has no zero byte
pub record IsSymbolName (name : List ℕ) : Type 0 where
  pub some : name ≢ []
  pub string : IsName name

-- an operand is no half of a symbol's address
abbrev pub IsNoHalf : Operand → Type 0
IsNoHalf (Part half y) = ⊥
IsNoHalf _ = Unit {0}

abbrev pub KindHasNoHalf : ItemKind → Type 0
KindHasNoHalf (Code i k) = All IsNoHalf i.operands
KindHasNoHalf (Mark v m) = Unit {0}
KindHasNoHalf (Phi p k) = Unit {0}

abbrev pub LineHasNoHalf : Line → Type 0
LineHasNoHalf (OfItem l) = KindHasNoHalf l.item.kind
LineHasNoHalf (Skip s) = Unit {0}

-- no code of a function has a half of a symbol's address
pub record HasNoHalf (f : ListedFunction) : Type 0 where
  pub prologue : All LineHasNoHalf f.prologue
  pub blocks : All (λ b. All LineHasNoHalf b.lines) f.blocks

-- Each function's name, and the name of each function that is called, can be a symbol's; and no code has a half of a symbol's address, for which the
-- object has no relocation.
pub record HaveSymbolNames (functions : List ListedFunction) : Type 0 where
  pub defined : All (λ f. IsSymbolName f.name) functions
  pub called : All (λ c. IsSymbolName c.name) (call_sites functions)
  pub calls_alone : All HasNoHalf functions

-- the bytes are the object of the output
pub record IsObjectOf (o : Output) (bytes : List ℕ) : Type 0 where
  pub names : HaveSymbolNames o.functions
  pub object : IsObject (object_of o) bytes

-- the object of the output would have 2^31 bytes or more
pub record HasLargeObject (o : Output) : Type 0 where
  pub names : HaveSymbolNames o.functions
  pub large : 2 ^ 31 ≤ length (spelling (object_of o))
