-- The first wrong field of tables (System V gABI, chapter 4, "Symbol Table", "String Table" and "Relocation"). Of symbols and of the table
-- of their names they are judged in this order: those of the null symbol; of each symbol its name, its binding and its type, and its
-- visibility; the end of the symbol table; and then, in the table of names, the first byte and the end. Where the name of a symbol begins
-- is told by the names before it.
use Rattle.std.specs.Prelude.{ℕ, zero, suc, ◌+◌, ◌-◌, ◌/◌, ◌%◌, ◌^◌, Bool, false, Option, Some, None, Result, Ok, Err, List, [], ◌∷◌, length, drop, replicate}
use Rattle.std.specs.Prelude.{slice_index, ◌==◌, nat_lt, nat_le, ◌&&◌, ◌||◌, if◌then◌else◌}
use Rattle.std.specs.List.{position_or_len}
use Rattle.std.specs.Int.{w32}
use Rattle.elf_object.specs.Standard.{STB_LOCAL, STB_GLOBAL, STB_WEAK, STT_NOTYPE, STT_FUNC, STT_SECTION, STV_DEFAULT, SYM_SIZE, RELA_SIZE}
use Rattle.elf_object.specs.Sections.{number_at}
use Rattle.elf_object.specs.FirstFault.{first, judged, constants}
use Rattle.elf_symbols.specs.declared.fault.SymbolsFault.{SymbolsFault}
use Rattle.elf_symbols.specs.declared.fault.SymbolsFault.TheVariants.{Table, Names}

-- ---- the names

-- how long the string at an offset is, and the offset behind its zero byte
abbrev pub string_len : (names : List ℕ) (at : ℕ) → ℕ
string_len names at = position_or_len (λ b. b == 0) (drop at names)

abbrev pub string_end : (names : List ℕ) (at : ℕ) → ℕ
string_end names at = at + string_len names at + 1

-- a string that isn't empty begins at an offset, and is closed; offsets have 32 bits
unfoldable pub is_string_at : (names : List ℕ) (at : ℕ) → Bool
is_string_at names at = nat_lt 0 (string_len names at) && (nat_le (string_end names at) (length names) && nat_lt (string_end names at) (2 ^ 32))

-- an offset is that of a symbol's name: 0 for no name, and otherwise where the names before it end
unfoldable pub is_name_at : (names : List ℕ) (name_at name : ℕ) → Bool
is_name_at names name_at name = (name == 0) || ((name == name_at) && is_string_at names name_at)

-- where the names end then
abbrev pub next_name : (names : List ℕ) (name_at name : ℕ) → ℕ
next_name names name_at name = if name == 0 then name_at else string_end names name_at

-- ---- a symbol, by its bytes and those behind it

-- st_name and st_info
abbrev pub name_in : List ℕ → ℕ
name_in bytes = number_at w32 0 bytes

abbrev pub info_in : List ℕ → ℕ
info_in bytes = slice_index bytes 4

-- a number is that of a binding. Behind a symbol that isn't local no other is
abbrev pub is_binding : (others : Bool) (number : ℕ) → Bool
is_binding others number = if others then (nat_le STB_GLOBAL number && nat_le number STB_WEAK) else nat_le number STB_WEAK

-- a number is that of a symbol's type
abbrev pub is_type : ℕ → Bool
is_type number = (number == STT_NOTYPE) || ((number == STT_FUNC) || (number == STT_SECTION))

-- the binding is the upper half of st_info, and the type the lower one
unfoldable pub is_info : (others : Bool) (info : ℕ) → Bool
is_info others info = is_binding others (info / 16) && is_type (info % 16)

-- the symbol isn't local
abbrev pub is_other : List ℕ → Bool
is_other bytes = nat_lt STB_LOCAL (info_in bytes / 16)

-- st_name, st_info and st_other, of the symbol at an offset in its table. All values of the other fields are right
unfoldable pub symbol_fault : (names : List ℕ) (at : ℕ) (others : Bool) (name_at : ℕ) (bytes : List ℕ) → Option ℕ
symbol_fault names at others name_at bytes =
    first (
    judged at (is_name_at names name_at (name_in bytes))
    ∷ judged (at + 4) (is_info others (info_in bytes))
    ∷ judged (at + 5) (slice_index bytes 5 == STV_DEFAULT)
    ∷ [])

-- ---- the symbol table

-- the rest, unless there is a fault before it
abbrev pub unless : (fault : Option ℕ) (rest : Result ℕ ℕ) → Result ℕ ℕ
unless None rest = rest
unless (Some at) rest = Err at

-- behind the last symbol there is nothing
abbrev pub ended : (at name_at : ℕ) (bytes : List ℕ) → Result ℕ ℕ
ended at name_at [] = Ok name_at
ended at name_at (byte ∷ bytes) = Err at

-- so many symbols, from an offset in their table on: where their names end, or the first wrong field. `others` tells whether a symbol
-- before them isn't local
abbrev pub names_end : (names : List ℕ) (at : ℕ) (others : Bool) (name_at count : ℕ) (bytes : List ℕ) → Result ℕ ℕ
names_end names at others name_at zero bytes = ended at name_at bytes
names_end names at others name_at (suc count) bytes =
    unless (symbol_fault names at others name_at bytes)
    (names_end names (at + SYM_SIZE) (others || is_other bytes) (next_name names name_at (name_in bytes)) count (drop SYM_SIZE bytes))

-- the number of whole symbols after the null one
abbrev pub count_in : List ℕ → ℕ
count_in table = length table / SYM_SIZE - 1

-- the fields of the null symbol are zero
unfoldable pub null_fault : List ℕ → Option ℕ
null_fault table = constants 0 (4 ∷ 1 ∷ 1 ∷ 2 ∷ 8 ∷ 8 ∷ []) (replicate SYM_SIZE 0) table

-- where the names of all symbols end, or the first wrong field
unfoldable pub table_end : (table names : List ℕ) → Result ℕ ℕ
table_end table names = unless (null_fault table) (names_end names SYM_SIZE false 1 (count_in table) (drop SYM_SIZE table))

-- ---- the table of names

-- its first byte is zero
abbrev pub is_zero_first : List ℕ → Bool
is_zero_first [] = false
is_zero_first (byte ∷ names) = byte == 0

-- the first byte, and the end
unfoldable pub names_fault : (names : List ℕ) (end : ℕ) → Option ℕ
names_fault names end = first (judged 0 (is_zero_first names) ∷ judged end (length names == end) ∷ [])

-- ---- both

-- a fault of the table of names, and one of either table
abbrev pub in_names : Option ℕ → Option SymbolsFault
in_names None = None
in_names (Some at) = Some (Names at)

abbrev pub in_either : Result ℕ ℕ → (names : List ℕ) → Option SymbolsFault
in_either (Err at) names = Some (Table at)
in_either (Ok end) names = in_names (names_fault names end)

-- the first wrong field
abbrev pub first_fault : (table names : List ℕ) → Option SymbolsFault
first_fault table names = in_either (table_end table names) names

-- ---- relocations

-- all values of the fields of a relocation are right; the last relocation must be whole
abbrev pub relocations_fault : List ℕ → Option ℕ
relocations_fault table = if length table % RELA_SIZE == 0 then None else Some (length table - length table % RELA_SIZE)
